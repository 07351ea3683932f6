-- The law of halves: rounding halves upward is our rounding, and one more exactly at a half below 0. Request K7. Assumes nothing.
-- Both are read as the one q with 2 d q not above 2 n + d, and that below 2 d q + 2 d.
use Rattle.std.specs.Prelude.{◌≡◌, refl, Bool, true, false, not, cond, ◌&&◌, ◌↔◌, ℕ, zero, suc, ◌+◌, ◌*◌, ◌/◌, ◌%◌, ◌≤◌, ◌<◌, T, ℤ, pos, negsuc, neg_ℤ, nat_abs, ◌+ℤ◌, ◌-ℤ◌, ◌*ℤ◌}
use Rattle.std.proofs.Common.{sym, ap, ◌∙◌, subst, div-add-mod', arith, eqb-true}
use Rattle.std.proofs.lemmas.Bool.{eqb-false}
use Rattle.std.proofs.Math.Arith.{digits_div, digits_mod}
use Rattle.std.specs.Int.Signed.{shr_z, non_neg}
use Rattle.integers.specs.RingLaws.{var, lit, neg, ◌⊕◌, ◌⊖◌, ◌⊗◌, ring-to, le, lt, abs-ex}
use Rattle.integers.specs.Round.{round_div, halved}
use Rattle.integers.proofs.RoundLaws.{near, near-low, near-high, not-above}
use Rattle.integers.proofs.FloorLaws.{floor-is}
use Rattle.integers.specs.Upward.{round_up, LawOfHalves}

-- ---- on ℕ: a / d is a half exactly where a / d + 1/2 is whole

half-whole : (a d : ℕ) → 0 < d → (2 * a) % (2 * d) ≡ d → 2 * a + d ≡ 2 * (near a d * d)
half-whole a d h e =
    let pos2 : 0 < 2 * d = omega arith in
    let s : ℕ = (2 * a) / (2 * d) in
    let split : 2 * a + d ≡ suc s * (2 * d) + 0 = omega (arith, div-add-mod' (2 * a) (2 * d)) in
    let q : near a d ≡ suc s = ap (λ (x : ℕ). x / (2 * d)) split ∙ digits_div (suc s) pos2 in
    omega (arith, ap (λ (x : ℕ). x * d) q)

whole-half : (a d : ℕ) → 0 < d → 2 * a + d ≡ 2 * (near a d * d) → (2 * a) % (2 * d) ≡ d
whole-half a d h e = go (near a d) refl
  where
    go : (q : ℕ) → near a d ≡ q → (2 * a) % (2 * d) ≡ d
    go zero z = absurd (omega (arith, ap (λ (x : ℕ). x * d) z))
    go (suc s) z =
        let split : 2 * a ≡ s * (2 * d) + d = omega (arith, ap (λ (x : ℕ). x * d) z) in
        let l : d < 2 * d = omega arith in
        ap (λ (x : ℕ). x % (2 * d)) split ∙ digits_mod s l

-- ---- the two roundings

below : {x y : ℕ} → x ≤ y → (y ≡ x → ⊥) → x < y
below l f = omega (arith, f)

-- upward is one more exactly at a half below 0
pub up_is : (n d : ℤ) → round_up n d ≡ cond (not (non_neg n) && halved n d) (round_div n d +ℤ pos 1) (round_div n d)
unfolding round_up round_div halved
up_is (pos n) (negsuc d) = refl
up_is (negsuc n) (negsuc d) = refl
up_is (pos n) (pos zero) = not-above (pos n) (pos 0) (omega arith)
up_is (negsuc n) (pos zero) = not-above (negsuc n) (pos 0) (omega arith)
up_is (pos n) (pos (suc d)) = refl
up_is (negsuc n) (pos (suc k)) = go (halved (negsuc n) (pos d)) refl
  where
    d : ℕ
    d = suc k

    h : 0 < d
    h = omega arith

    pos2 : 0 < 2 * d
    pos2 = omega arith

    go : (b : Bool) → halved (negsuc n) (pos d) ≡ b → shr_z (pos 2 *ℤ negsuc n +ℤ pos d) (2 * d) ≡ cond b (neg_ℤ (pos (near (suc n) d)) +ℤ pos 1) (neg_ℤ (pos (near (suc n) d)))
    go true e =
        let w = half-whole (suc n) d h (eqb-true ((2 * suc n) % (2 * d)) d e) in
        floor-is (pos 2 *ℤ negsuc n +ℤ pos d) (2 * d) (neg_ℤ (pos (near (suc n) d)) +ℤ pos 1) pos2
        (le ((neg (lit (near (suc n) d)) ⊕ lit 1) ⊗ lit (2 * d)) (lit 2 ⊗ var (negsuc n) ⊕ lit d) (omega arith))
        (lt (lit 2 ⊗ var (negsuc n) ⊕ lit d) ((neg (lit (near (suc n) d)) ⊕ lit 1) ⊗ lit (2 * d) ⊕ lit (2 * d)) (omega arith))
    go false e =
        let apart : 2 * suc n + d ≡ 2 * (near (suc n) d * d) → ⊥ = λ w. eqb-false ((2 * suc n) % (2 * d)) d e (whole-half (suc n) d h w) in
        let strict : 2 * (near (suc n) d * d) < 2 * suc n + d = below (near-low (suc n) d) apart in
        floor-is (pos 2 *ℤ negsuc n +ℤ pos d) (2 * d) (neg_ℤ (pos (near (suc n) d))) pos2
        (le (neg (lit (near (suc n) d)) ⊗ lit (2 * d)) (lit 2 ⊗ var (negsuc n) ⊕ lit d) (omega (arith, near-high (suc n) d h)))
        (lt (lit 2 ⊗ var (negsuc n) ⊕ lit d) (neg (lit (near (suc n) d)) ⊗ lit (2 * d) ⊕ lit (2 * d)) (omega arith))

-- ---- the law

-- without a half the two agree
pub up_same : (n d : ℤ) → halved n d ≡ false → round_up n d ≡ round_div n d
up_same n d e = up_is n d ∙ ap (λ (b : Bool). cond (not (non_neg n) && b) (round_div n d +ℤ pos 1) (round_div n d)) e ∙ off (not (non_neg n))
  where
    off : (b : Bool) → cond (b && false) (round_div n d +ℤ pos 1) (round_div n d) ≡ round_div n d
    off true = refl
    off false = refl

-- they are never more than 1 apart
up-near : (n d : ℤ) → nat_abs (round_up n d -ℤ round_div n d) ≤ 1
up-near n d = subst (λ (z : ℤ). nat_abs (z -ℤ round_div n d) ≤ 1) (sym (up_is n d)) (go (not (non_neg n) && halved n d))
  where
    go : (b : Bool) → nat_abs (cond b (round_div n d +ℤ pos 1) (round_div n d) -ℤ round_div n d) ≤ 1
    go true = omega (arith, abs-ex (var (round_div n d) ⊕ lit 1 ⊖ var (round_div n d)))
    go false = omega (arith, abs-ex (var (round_div n d) ⊖ var (round_div n d)))

-- at a half they differ exactly where n is below 0, and then by 1
up-half : (n d : ℤ) → halved n d ≡ true → (round_up n d ≡ round_div n d → ⊥) ↔ T (not (non_neg n))
up-half (pos n) d e = (λ f. absurd (f (up_is (pos n) d)), λ t. absurd t)
up-half (negsuc n) d e = (λ f. tt, λ t s. more (round_div (negsuc n) d) (sym (one_more_lem) ∙ s))
  where
    one_more_lem : round_up (negsuc n) d ≡ round_div (negsuc n) d +ℤ pos 1
    one_more_lem = up_is (negsuc n) d ∙ ap (λ (b : Bool). cond b (round_div (negsuc n) d +ℤ pos 1) (round_div (negsuc n) d)) e

    more : (z : ℤ) → z +ℤ pos 1 ≡ z → ⊥
    more z s = omega (arith, ring-to (var z ⊕ lit 1) (var z) s)

pub law-of-halves : (n d : ℤ) → LawOfHalves n d
law-of-halves n d = record { same = up_same n d; near = up-near n d; differ = up-half n d }
