-- What holds of every start: it names a slot of the table or 0, and what starts has a node address and the fresh state of a table that loads.
use Rattle.std.specs.Prelude.{◌≡◌, refl, Bool, true, false, cond, Option, Some, None, List, ℕ, ◌≤◌, leb, ℤ}
use Rattle.std.specs.Option.{option_map}
use Rattle.std.proofs.lemmas.Option.{none-some}
use Rattle.std.proofs.Common.{sym, ap, ◌∙◌, arith, leb-true}
use Rattle.state.proofs.ValidLaws.{good-fresh}
use Rattle.state.specs.State.{fresh_of}
use Rattle.state.specs.Valid.{Good}
use Rattle.integers.specs.ChoiceLaws.{by-test, is_true}
use Rattle.integers.specs.TestLaws.{and_both}
use Rattle.registers.specs.declared.Started.{Started}
use Rattle.registers.specs.declared.StartRefusal.TheVariants.{Node, Table}
use Rattle.panel.specs.Load.{loaded_of}
use Rattle.parameters.specs.declared.Refusal.{Refusal}
use Rattle.parameters.specs.Refusals.{number_told, slot_told}
use Rattle.parameters.specs.Rows.{default_table}
use Rattle.parameters.specs.Load.{load_refusal, load_of}
use Rattle.parameters.proofs.LoadLaws.{answer-number, none-answered, answer-table, slot_small}
use Rattle.parameters.proofs.ValidLaws.{load-valid, defaults-valid}
use Rattle.registers.specs.Start.{is_node, start_number_told, start_slot_told, started_of}

-- the refusal of a start by its table is the load's
table-number : (r : Option Refusal) → start_number_told (option_map Table r) ≡ number_told r
table-number None = refl
table-number (Some r) = refl

table-slot : (r : Option Refusal) → start_slot_told (option_map Table r) ≡ slot_told r
table-slot None = refl
table-slot (Some r) = refl

table-none : (r : Option Refusal) → option_map Table r ≡ None → r ≡ None
table-none None e = refl
table-none (Some r) e = absurd (none-some (Table r) (sym e))

-- the number that is told: 33 where there is no node address, else the load's
pub start-number : (node : ℕ) (t : List ℤ) → start_number_told (started_of node t).refusal ≡ cond (is_node node) (load_refusal t) 33
unfolding started_of loaded_of
start-number node t = by (is_node node)
  where
    by : (b : Bool) →
        start_number_told (cond {A = Started} b (record { refusal = option_map Table (load_of t).refusal; state = fresh_of (load_of t).table }) (record { refusal = Some Node; state = fresh_of default_table })).refusal
        ≡ cond b (load_refusal t) 33
    by true = table-number _ ∙ answer-number t
    by false = refl

pub start-slot : (node : ℕ) (t : List ℤ) → start_slot_told (started_of node t).refusal ≤ 104
unfolding started_of loaded_of
start-slot node t =
    by-test (is_node node) _ _ (λ (l : Started). start_slot_told l.refusal ≤ 104) (λ _. rw table-slot (slot_small t)) (λ _. omega arith)

-- what a start answers has a valid state, a filler too
pub good-started : (node : ℕ) (t : List ℤ) → Good (started_of node t).state
unfolding started_of loaded_of
good-started node t =
    by-test (is_node node) _ _ (λ (l : Started). Good l.state) (λ _. good-fresh (load-valid t)) (λ _. good-fresh defaults-valid)

-- the highest node address
node-most : (node : ℕ) → is_node node ≡ true → node ≤ 247
unfolding is_node
node-most node e = leb-true node 247 (and_both (leb 1 node) (leb node 247) e).1

-- WHAT STARTS, given what is answered
pub record Starts (node : ℕ) (t : List ℤ) (l : Started) : Type 0 where
  pub address : node ≤ 247
  pub loads : load_refusal t ≡ 0
  pub fresh : l.state ≡ fresh_of t

pub starts : (node : ℕ) (t : List ℤ) → (started_of node t).refusal ≡ None → Starts node t (started_of node t)
unfolding started_of loaded_of
starts node t =
    by-test (is_node node) _ _ (λ (l : Started). l.refusal ≡ None → Starts node t l)
    (λ is e. let k = none-answered t (table-none _ e) in record { address = node-most node (is_true (is_node node) is); loads = k; fresh = ap fresh_of (answer-table t k) })
    (λ _ e. absurd (none-some Node (sym e)))
