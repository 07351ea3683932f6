-- How the code works the levels out: a preselection's mark is 1 where it is active, and 2 more where it is active low; an output joins the marks of the
-- preselections aimed at it bit by bit, and is high at 1 and at 2. What the levels are stands in Outputs. Assumes nothing.
use Rattle.std.specs.Prelude.{◌≡◌, refl, Bool, true, false, cond, not, ◌||◌, ℕ, ◌+◌, ◌*◌, ◌≤◌, eqb}
use Rattle.std.proofs.Common.{arith}
use Rattle.std.specs.Int.Bits.{bit_or}
use mir.Val.{bool_byte}
use Rattle.switching.specs.declared.Preselection.{Preselection}
use Rattle.switching.specs.declared.Switch.{Switch}
use Rattle.switching.specs.Outputs.{drives_of, inverts_of}
use Rattle.switching.specs.Switching.{active_of}

abbrev pub marked : Bool → Bool → ℕ
marked active low = cond active 1 0 + 2 * cond low 1 0

abbrev pub mark_of : Preselection → Switch → ℕ
mark_of p s = marked (active_of p s) (eqb p.polarity 1)

-- the mark where it is aimed at output n
abbrev pub share_of : ℕ → Preselection → Switch → ℕ
share_of n p s = marked (drives_of n p s) (inverts_of n p)

-- a mark fits, and is put together from its two tests
pub bit-at-most-1 : (b : Bool) → bool_byte b ≤ 1
bit-at-most-1 true = omega arith
bit-at-most-1 false = omega arith

pub mark-is : (a l : Bool) → bool_byte a + 2 * bool_byte l ≡ marked a l
mark-is true true = refl
mark-is true false = refl
mark-is false true = refl
mark-is false false = refl

-- marks joined bit by bit
pub marks-joined : (a l b m : Bool) → bit_or (marked a l) (marked b m) ≡ marked (a || b) (l || m)
marks-joined true true true true = refl
marks-joined true true true false = refl
marks-joined true true false true = refl
marks-joined true true false false = refl
marks-joined true false true true = refl
marks-joined true false true false = refl
marks-joined true false false true = refl
marks-joined true false false false = refl
marks-joined false true true true = refl
marks-joined false true true false = refl
marks-joined false true false true = refl
marks-joined false true false false = refl
marks-joined false false true true = refl
marks-joined false false true false = refl
marks-joined false false false true = refl
marks-joined false false false false = refl

-- the level that marks stand for: 1, active, or 2, active low and not active
pub marked-level : (a l : Bool) → (eqb (marked a l) 1 || eqb (marked a l) 2) ≡ cond l (not a) a
marked-level true true = refl
marked-level true false = refl
marked-level false true = refl
marked-level false false = refl
