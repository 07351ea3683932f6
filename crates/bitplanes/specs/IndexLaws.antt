-- An index parted at a width w: what stands above, the bit at w (0 or 1), and what stands below. Every law holds for every w above 0.
use Rattle.std.specs.Prelude.{◌≡◌, ℕ, ◌+◌, ◌-◌, ◌*◌, ◌/◌, ◌%◌, ◌<◌}
use Rattle.std.proofs.Common.{sym, ap, ap₂, ◌∙◌, mod-lt, add-zero, add_assoc, add-mul, one-mul, mul_assoc, mul_comm, div-add-mod', div-lt_iff_lt-mul, arith, lit<}
use Rattle.std.proofs.Math.Nat.{div-div-eq-div-mul}
use Rattle.std.proofs.Math.Arith.{digits_lt, digits_div, digits_mod, mod-mul}

abbrev pub above : ℕ → ℕ → ℕ
above w i = i / w / 2

abbrev pub at : ℕ → ℕ → ℕ
at w i = i / w % 2

abbrev pub below : ℕ → ℕ → ℕ
below w i = i % w

-- the index of three parts
abbrev pub joined : ℕ → ℕ → ℕ → ℕ → ℕ
joined w a b c = (a * 2 + b) * w + c

pub at_lt : (w i : ℕ) → at w i < 2
at_lt w i = mod-lt (i / w) (lit< tt)

pub parts : (w i : ℕ) → joined w (above w i) (at w i) (below w i) ≡ i
parts w i = ap (λ (x : ℕ). x * w + i % w) (div-add-mod' (i / w) 2) ∙ div-add-mod' i w

pub parts-by : (w i b : ℕ) → at w i ≡ b → joined w (above w i) b (below w i) ≡ i
parts-by w i b e = ap (λ (x : ℕ). joined w (above w i) x (below w i)) (sym e) ∙ parts w i

module _ (w a b c : ℕ) (hb : b < 2) (hc : c < w) where
  pub joined-div : joined w a b c / w ≡ a * 2 + b
  joined-div = digits_div (a * 2 + b) hc

  pub joined-above : above w (joined w a b c) ≡ a
  joined-above = ap (λ (x : ℕ). x / 2) joined-div ∙ digits_div a hb

  pub joined_at : at w (joined w a b c) ≡ b
  joined_at = ap (λ (x : ℕ). x % 2) joined-div ∙ digits_mod a hb

  pub joined-below : below w (joined w a b c) ≡ c
  joined-below = digits_mod (a * 2 + b) hc

  pub joined-lt : (h : ℕ) → a < h → joined w a b c < h * 2 * w
  joined-lt h l = digits_lt (digits_lt l hb) hc

pub above-lt : (w i h : ℕ) → 0 < w → i < h * 2 * w → above w i < h
above-lt w i h z l = (div-lt_iff_lt-mul {k = 2} {x = i / w} {y = h} (lit< tt)).1 ((div-lt_iff_lt-mul {k = w} {x = i} {y = h * 2} z).1 l)

-- with the bit set it is w more
pub joined-one : (w a c : ℕ) → joined w a 1 c ≡ joined w a 0 c + w
joined-one w a c = moved (a * 2) w c
  where
    moved : (x w c : ℕ) → (x + 1) * w + c ≡ (x + 0) * w + c + w
    moved x w c =
        let e : (x + 1) * w ≡ x * w + w = add-mul x 1 w ∙ ap (λ (y : ℕ). x * w + y) (one-mul w) in
        let f : (x + 0) * w ≡ x * w = ap (λ (y : ℕ). y * w) (add-zero x) in
        omega arith

-- ---- the bit taken from another index
-- i with its bit at w taken from j
abbrev pub taking : ℕ → ℕ → ℕ → ℕ
taking w i j = joined w (above w i) (at w j) (below w i)

pub taking-same : (w i j b : ℕ) → at w i ≡ b → at w j ≡ b → taking w i j ≡ i
taking-same w i j b e f = ap (λ (x : ℕ). joined w (above w i) x (below w i)) f ∙ parts-by w i b e

pub taking-up : (w i j : ℕ) → at w i ≡ 0 → at w j ≡ 1 → taking w i j ≡ i + w
taking-up w i j e f =
    ap (λ (x : ℕ). joined w (above w i) x (below w i)) f ∙ joined-one w (above w i) (below w i) ∙ ap (λ (x : ℕ). x + w) (parts-by w i 0 e)

pub taking-down : (w i j : ℕ) → at w i ≡ 1 → at w j ≡ 0 → taking w i j ≡ i - w
taking-down w i j e f =
    ap (λ (x : ℕ). joined w (above w i) x (below w i)) f
    ∙ less (joined w (above w i) 0 (below w i)) i w (sym (joined-one w (above w i) (below w i)) ∙ parts-by w i 1 e)
  where
    less : (x y w : ℕ) → x + w ≡ y → x ≡ y - w
    less x y w e = omega arith

pub taking-lt : (w i j h : ℕ) → 0 < w → i < h * 2 * w → taking w i j < h * 2 * w
taking-lt w i j h z l = joined-lt w (above w i) (at w j) (below w i) (at_lt w j) (mod-lt i z) h (above-lt w i h z l)

-- ---- all that stands at w and above taken from another index
-- i below w, j at w and above
abbrev pub mixed : ℕ → ℕ → ℕ → ℕ
mixed w i j = j / w * w + i % w

mixed-next : (w i j : ℕ) → 0 < w → mixed (2 * w) i j ≡ joined w (above w j) (at w i) (below w i)
mixed-next w i j z =
    ap₂ (λ (x y : ℕ). x * (2 * w) + y)
    (ap (λ (x : ℕ). j / x) (mul_comm 2 w) ∙ sym (div-div-eq-div-mul j w 2))
    (mod-mul i {m = 2} {c = w} (lit< tt) z)
    ∙ gathered (above w j) (at w i) (below w i)
  where
    gathered : (a b c : ℕ) → a * (2 * w) + (b * w + c) ≡ (a * 2 + b) * w + c
    gathered a b c =
        sym (add_assoc (a * (2 * w)) (b * w) c) ∙ ap (λ (x : ℕ). x + b * w + c) (sym (mul_assoc a 2 w)) ∙ ap (λ (x : ℕ). x + c) (sym (add-mul (a * 2) b w))

-- where two indices have exchanged their bit at w, those mixed at 2 w are the first two mixed at w
pub mixed-taking : (w i j : ℕ) → 0 < w → mixed (2 * w) (taking w i j) (taking w j i) ≡ mixed w i j
mixed-taking w i j z =
    mixed-next w (taking w i j) (taking w j i) z
    ∙ ap (λ (x : ℕ). joined w x (at w (taking w i j)) (below w (taking w i j))) (joined-above w (above w j) (at w i) (below w j) (at_lt w i) (mod-lt j z))
    ∙ ap₂ (λ (x y : ℕ). joined w (above w j) x y)
    (joined_at w (above w i) (at w j) (below w i) (at_lt w j) (mod-lt i z))
    (joined-below w (above w i) (at w j) (below w i) (at_lt w j) (mod-lt i z))
    ∙ ap (λ (x : ℕ). x * w + i % w) (div-add-mod' (j / w) 2)
