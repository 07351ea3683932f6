-- An input of fewer than 416 bytes has fewer than 104 table words, and is refused with 1.
use Rattle.std.specs.Prelude.{◌≡◌, Some, List, [], ◌∷◌, map, ℕ, ◌*◌, ◌≤◌, ◌<◌, ℤ, length, take}
use Rattle.std.proofs.Common.{sym, ◌∙◌, arith, take_all}
use Rattle.std.proofs.lemmas.List.{length-map}
use Rattle.integers.specs.TwosComplement.{signed_of}
use Rattle.events.specs.Bytes.{words_in}
use Rattle.parameters.proofs.LoadLaws.{load-length}
use Rattle.parameters.specs.declared.Refusal.TheVariants.{Length}
use Rattle.parameters.specs.Rows.{default_table}
use Rattle.panel.specs.declared.Loaded.{Loaded}
use Rattle.panel.specs.Load.{loaded_of}
use Rattle.state.specs.State.{fresh_of}
use Rattle.logrun.specs.Input.{table_bytes, table_of}

-- four bytes a word
pub words-length : (bytes : List ℕ) → 4 * length (words_in bytes) ≤ length bytes
unfolding words_in
words-length [] = omega arith
words-length (a ∷ []) = omega arith
words-length (a ∷ (b ∷ [])) = omega arith
words-length (a ∷ (b ∷ (c ∷ []))) = omega arith
words-length (a ∷ (b ∷ (c ∷ (d ∷ bytes)))) = omega (arith, words-length bytes)

-- what a load answers to any other number of words than 104
abbrev pub no_table : Loaded
no_table = record { refusal = Some Length; state = fresh_of default_table }

pub not-104-words : (t : List ℤ) → (length t ≡ 104 → ⊥) → loaded_of t ≡ no_table
unfolding loaded_of
not-104-words t n = rw (load-length t n)

-- "Fewer than 416 bytes give number 1"
pub short-input : (input : List ℕ) → length input < table_bytes → loaded_of (table_of input) ≡ no_table
unfolding table_of
short-input input h = not-104-words (map signed_of (words_in (take table_bytes input))) (λ e. omega (arith, few, sym (length-map (words_in (take table_bytes input)) signed_of) ∙ e))
  where
    few : length (words_in (take table_bytes input)) < 104
    few = rw (take_all table_bytes input (omega arith)) (omega (arith, words-length input))
