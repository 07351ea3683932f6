-- TURNTABLES, stated. In a setter's words: with a round loop the digits follow the table across the encoder's end. As long as the table turns by less than half the
-- encoder's range from one telegram to the next, they know how far it has turned; no reset is refused because the encoder stands high; and where the encoder's range
-- is a multiple of the round loop, every panel shows what it has always shown, unless the old rule refuses a reset by 12.
-- Paper 02, K4. This file is definitions only; `travelled` of TravelledLaws, `no-twelve` of LoopLaws and `rules-agree` of AgreeLaws prove it, and Cases shows that
-- the conditions are needed.
use Rattle.std.specs.Prelude.{◌≡◌, Bool, false, cond, not, ◌&&◌, ◌||◌, List, [], ◌∷◌, ℕ, ◌*◌, ◌<◌, eqb, ℤ, pos, ◌+ℤ◌}
use Rattle.events.specs.declared.Event.{Event}
use Rattle.events.specs.declared.Event.TheVariants.{Telegram, Levels, Tick}
use Rattle.inputs.specs.Commands.{Acted, refusal_of}
use Rattle.inputs.specs.Levels.{edge_at}
use Rattle.integers.specs.Int.{P}
use Rattle.integers.specs.Round.{floor_mod}
use Rattle.panel.specs.declared.Answer.{Answer}
use Rattle.panel.specs.Step.{step_of}
use Rattle.parameters.specs.Load.{load_refusal}
use Rattle.parameters.specs.Slots.{round_loop}
use Rattle.reading.specs.Reading.{accepts_of, directed_at}
use Rattle.roundloop.specs.Count.{Short}
use Rattle.runs.specs.Book.{book_of}
use Rattle.runs.specs.Run.{run_of, answers_of, some_command, some_event}
use Rattle.settings.specs.Settings.{layout_of, input_at}
use Rattle.ssi.specs.Telegram.{error_reported, modulus}
use Rattle.state.specs.declared.State.{State}
use Rattle.state.specs.Refusal.{note_number}
use Rattle.state.specs.State.{fresh_of}
use Rattle.turntable.specs.OldRule.{old_step, old_answers}

-- ---- how far it has turned

-- M of a table's encoder
abbrev pub range : List ℤ → ℕ
range t = modulus (layout_of t)

-- a telegram that is counted: accepted, and without error 3
abbrev pub counts : List ℤ → ℕ → Bool
counts t w = accepts_of t w && not (error_reported (layout_of t) w)

-- p after direction of each of them in a list of events
unfoldable pub counted_in : List ℤ → List Event → List ℕ
counted_in t [] = []
counted_in t (Telegram w ∷ es) = cond (counts t w) (directed_at t w ∷ counted_in t es) (counted_in t es)
counted_in t (Levels l ∷ es) = counted_in t es
counted_in t (Tick ms ∷ es) = counted_in t es

-- where the encoder stands after the moves x, one after the other, from p on: (p + x) modulo M
unfoldable pub way_from : ℕ → ℕ → List ℤ → List ℕ
way_from M p [] = []
way_from M p (x ∷ xs) = P (floor_mod (pos p +ℤ x) (pos M)) ∷ way_from M (P (floor_mod (pos p +ℤ x) (pos M))) xs

-- no move is longer than half the range: −M/2 ≤ x < M/2
unfoldable pub AllShort : ℕ → List ℤ → Type 0
AllShort M [] = Unit {0}
AllShort M (x ∷ xs) = Short M x × AllShort M xs

unfoldable pub together : List ℤ → ℤ
together [] = pos 0
together (x ∷ xs) = x +ℤ together xs

-- U of a run, in the state and in the book: the first position and all moves together, modulo R, whatever else happens between the telegrams
pub record Travelled (t : List ℤ) (es : List Event) : Type 0 where
  pub count : (p : ℕ) (xs : List ℤ) → AllShort (range t) xs → counted_in t es ≡ p ∷ way_from (range t) p xs →
      pos (run_of (fresh_of t) es).live.basis.start ≡ floor_mod (pos p +ℤ together xs) (pos (round_loop t))
  pub book : (book_of t es).basis ≡ (run_of (fresh_of t) es).live.basis

abbrev pub AllTravelled : Type 0
AllTravelled = (t : List ℤ) → load_refusal t ≡ 0 → 0 < round_loop t → (es : List Event) → Travelled t es

-- ---- "12 cannot occur while a round loop is set"

-- input i + 1 is refused by 12, on what the earlier ones left; nothing but a reset ever is
unfoldable pub barred_at : ℕ → ℕ → Acted → Bool
barred_at l i x = edge_at x.state l i && eqb (note_number (refusal_of (input_at x.state.table i).action x.state)) 12

abbrev pub barred_by : State → Event → Bool
barred_by s e = some_command barred_at s e

-- some reset of a list is, in the engine with this step
abbrev pub barred_in : (State → Event → Answer) → State → List Event → Bool
barred_in step s es = some_event barred_by step s es

-- some answer has a note
unfoldable pub noted : ℕ → List Answer → Bool
noted n [] = false
noted n (a ∷ rest) = eqb (note_number a.note) n || noted n rest

-- no answer notes it, and no reset is refused by it behind a lower input's note either
pub record NoTwelve (t : List ℤ) (es : List Event) : Type 0 where
  pub unnoted : noted 12 (answers_of (fresh_of t) es) ≡ false
  pub unbarred : barred_in step_of (fresh_of t) es ≡ false

abbrev pub NeverTwelve : Type 0
NeverTwelve = (t : List ℤ) → load_refusal t ≡ 0 → 0 < round_loop t → (es : List Event) → NoTwelve t es

-- ---- the rule before

-- what two answers have in common: all but the state's offset, its position and its count
pub record Same (a b : Answer) : Type 0 where
  pub result : a.result ≡ b.result
  pub shown : a.shown ≡ b.shown
  pub error : a.error ≡ b.error
  pub code : a.state.live.reading.code ≡ b.state.live.reading.code
  pub drive : a.drive ≡ b.drive
  -- conditions, pulses and locks
  pub switches : a.state.live.switches ≡ b.state.live.switches
  pub outputs : a.outputs ≡ b.outputs
  pub extremes : a.state.live.extremes ≡ b.state.live.extremes
  -- the record of the drive
  pub driven : a.state.live.driven ≡ b.state.live.driven
  pub note : a.note ≡ b.note
  pub halves : a.halves ≡ b.halves

-- event by event
unfoldable pub AllSame : List Answer → List Answer → Type 0
AllSame [] [] = Unit {0}
AllSame [] (b ∷ bs) = ⊥
AllSame (a ∷ rest) [] = ⊥
AllSame (a ∷ rest) (b ∷ bs) = Same a b × AllSame rest bs

-- "where M is a multiple of R, old and new rule give equal results in every run without a reset that the old refuses by 12"
abbrev pub RulesAgree : Type 0
RulesAgree = (t : List ℤ) → load_refusal t ≡ 0 → (c : ℕ) → range t ≡ c * round_loop t → (es : List Event) → barred_in old_step (fresh_of t) es ≡ false →
    AllSame (answers_of (fresh_of t) es) (old_answers (fresh_of t) es)
