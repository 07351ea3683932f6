-- Exactly the valid tables load, and whatever load answers, its table is valid.
use Rattle.std.specs.Prelude.{◌≡◌, refl, None, Bool, true, false, cond, List, ℕ, ◌<◌, ◌≤◌, eqb, ltb, ℤ, length}
use Rattle.std.proofs.Common.{arith, eqb-true, eq-eqb, ltb-true, ltb-false}
use Rattle.std.proofs.lemmas.Bool.{not-false}
use Rattle.parameters.specs.Rows.{lowest_out, default_table}
use Rattle.parameters.proofs.RowLaws.{below-lowest, at-lowest}
use Rattle.parameters.specs.Search.{first_of}
use Rattle.parameters.specs.Load.{words_missing, slot_out, conflicts, conditions, condition, load_refusal, load_slot, refused_with, load_of}
use Rattle.parameters.proofs.LoadLaws.{loads-only, defaults-load}
use Rattle.parameters.specs.Valid.{Valid}

-- a table that loads is valid, and a valid table loads
pub loads : (t : List ℤ) → load_refusal t ≡ 0 → Valid t
unfolding condition conditions conflicts words_missing slot_out
loads t e =
    let long : length t ≡ 104 = eqb-true (length t) 104 (not-false (eqb (length t) 104) (loads-only t e 1)) in
    let past : 104 ≤ lowest_out t = ltb-false (lowest_out t) 104 (loads-only t e 2) in
    record {
      long = long;
      ranged = λ k h. below-lowest t k (omega arith) (omega arith);
      field = loads-only t e 3;
      error-bit = loads-only t e 4;
      span = loads-only t e 5;
      points = loads-only t e 6;
      origin = loads-only t e 7;
      freeze = loads-only t e 8;
      polarities = loads-only t e 9;
    }

pub valid-loads : {t : List ℤ} → Valid t → load_refusal t ≡ 0
unfolding load_refusal conditions conflicts first_of words_missing slot_out
valid-loads {t} v =
    rw (
      eq-eqb (length t) 104 v.long,
      in_all (ltb (lowest_out t) 104) refl,
      v.field,
      v.error-bit,
      v.span,
      v.points,
      v.origin,
      v.freeze,
      v.polarities,
    )
  where
    in_all : (b : Bool) → ltb (lowest_out t) 104 ≡ b → ltb (lowest_out t) 104 ≡ false
    in_all false e = e
    in_all true e =
        let low : lowest_out t < 104 = ltb-true (lowest_out t) 104 e in
        let o = at-lowest t (omega (arith, v.long)) in
        let i = v.ranged (lowest_out t) low in
        let z : ◌≡◌ {A = ℕ} 0 1 = cc in
        absurd (omega arith)

pub defaults-valid : Valid default_table
defaults-valid = loads default_table defaults-load

-- whatever load answers, its table is valid: the one loaded, or the defaults
pub load-valid : (t : List ℤ) → Valid (load_of t).table
unfolding load_of
load-valid t = go (eqb (load_refusal t) 0) refl
  where
    go : (b : Bool) → eqb (load_refusal t) 0 ≡ b → Valid (cond b (record { refusal = None; table = t }) (refused_with (load_refusal t) (load_slot t))).table
    go true e = loads t (eqb-true (load_refusal t) 0 e)
    go false e = defaults-valid
