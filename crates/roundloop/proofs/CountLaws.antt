-- The step is the only number from −M/2 to below M/2 that equals the change of p modulo M; the count goes on by it, and where M is a multiple of R it is the
-- position modulo R. Paper 02, K4. M is any even number, R any number above 0. Assumes nothing.
use Rattle.std.specs.Prelude.{◌≡◌, ℤ, pos, neg_ℤ, ◌+ℤ◌, ◌-ℤ◌, ◌*ℤ◌, ◌≤ℤ◌, ◌<ℤ◌}
use Rattle.std.proofs.Math.Path.{sym}
use Rattle.std.proofs.Common.{ap, ◌∙◌, arith}
use Prim.Native.Nat.{ℕ, ◌*◌, ◌/◌, ◌≤◌, ◌<◌}
use Rattle.std.proofs.Math.Nat.{mod-lt}
use Rattle.std.specs.Int.Signed.{shr_z}
use Rattle.integers.specs.Int.{P, Within}
use Rattle.integers.specs.IntLaws.{ints, within, sub_is}
use Rattle.integers.specs.RingLaws.{var, lit, neg, ◌⊕◌, ◌⊖◌, ◌⊗◌, ring, ring-to, le, lt, le_in, lt_in}
use Rattle.integers.specs.Round.{floor_mod}
use Rattle.integers.proofs.FloorLaws.{floor-range, floor-split, same_rest}
use Rattle.integers.proofs.ModLaws.{floor-nat, rest-within, same-mod, mod-add, mod-nat, mod_below, mod-again}
use Rattle.roundloop.specs.Count.{half, Short, step_from, first_count, counted_of}

-- M is even, and above 0: a power of two from 2 on
pub record Even (M : ℕ) : Type 0 where
  pub halves : M ≡ 2 * (M / 2)
  pub some : 0 < M

-- ---- the step

-- s is short, and equals the change of p modulo M
pub record Step (M last p : ℕ) (s : ℤ) : Type 0 where
  pub short : Short M s
  pub turns : ℤ
  pub same : pos p ≡ pos last +ℤ s +ℤ turns *ℤ pos M

module _ {M : ℕ} (m : Even M) where
  above : pos 0 <ℤ pos M
  above = omega (arith, ints, m.some)

  -- the step taken is one
  pub step_is : (last p : ℕ) → Step M last p (step_from M last p)
  unfolding step_from
  step_is last p =
      record {
        short = record {
          low = le (neg (lit M)) (lit 2 ⊗ (var f ⊖ lit H)) (omega (arith, m.halves, le_in (lit 0) (var f) r.0));
          high = lt (lit 2 ⊗ (var f ⊖ lit H)) (lit M) (omega (arith, m.halves, lt_in (var f) (lit M) r.1));
        };
        turns = k;
        same = ring (lit p) (lit last ⊕ (var f ⊖ lit H) ⊕ var k ⊗ lit M)
            (omega (arith, ring-to (lit p ⊖ lit last ⊕ lit H) (var k ⊗ lit M ⊕ var f) (floor-split z (pos M) above)));
      }
    where
      H : ℕ
      H = half M

      z : ℤ
      z = pos p -ℤ pos last +ℤ pos H

      f : ℤ
      f = floor_mod z (pos M)

      k : ℤ
      k = shr_z z M

      r : (pos 0 ≤ℤ f) × (f <ℤ pos M)
      r = floor-range z (pos M) above

  -- and the only one: 2 s + M is the remainder of one number by 2 M
  pub step-only : {last p : ℕ} (s x : ℤ) → Step M last p s → Step M last p x → s ≡ x
  step-only {last} {p} s x f g =
      let e = same_rest f.turns g.turns (pos 2 *ℤ s +ℤ pos M) (pos 2 *ℤ x +ℤ pos M) (pos (2 * M))
      (le (lit 0) (lit 2 ⊗ var s ⊕ lit M) (omega (arith, le_in (neg (lit M)) (lit 2 ⊗ var s) f.short.low)))
      (lt (lit 2 ⊗ var s ⊕ lit M) (lit (2 * M)) (omega (arith, lt_in (lit 2 ⊗ var s) (lit M) f.short.high)))
      (le (lit 0) (lit 2 ⊗ var x ⊕ lit M) (omega (arith, le_in (neg (lit M)) (lit 2 ⊗ var x) g.short.low)))
      (lt (lit 2 ⊗ var x ⊕ lit M) (lit (2 * M)) (omega (arith, lt_in (lit 2 ⊗ var x) (lit M) g.short.high)))
      (ring (var f.turns ⊗ lit (2 * M) ⊕ (lit 2 ⊗ var s ⊕ lit M)) (var g.turns ⊗ lit (2 * M) ⊕ (lit 2 ⊗ var x ⊕ lit M))
      (omega (arith, ring-to (lit p) (lit last ⊕ var s ⊕ var f.turns ⊗ lit M) f.same, ring-to (lit p) (lit last ⊕ var x ⊕ var g.turns ⊗ lit M) g.same))) in
      ring (var s) (var x) (omega (arith, ring-to (lit 2 ⊗ var s ⊕ lit M) (lit 2 ⊗ var x ⊕ lit M) e))

  -- so a short move is followed exactly, wherever it ends
  pub step-moved : (last : ℕ) (x : ℤ) → Short M x → step_from M last (P (floor_mod (pos last +ℤ x) (pos M))) ≡ x
  step-moved last x short =
      step-only _ x (step_is last (P q))
      (record {
        short = short;
        turns = neg_ℤ k;
        same = mod-nat M m.some (pos last +ℤ x)
            ∙ ring (var q) (lit last ⊕ var x ⊕ neg (var k) ⊗ lit M)
            (omega (arith, ring-to (lit last ⊕ var x) (var k ⊗ lit M ⊕ var q) (floor-split (pos last +ℤ x) (pos M) above)));
      })
    where
      q : ℤ
      q = floor_mod (pos last +ℤ x) (pos M)

      k : ℤ
      k = shr_z (pos last +ℤ x) M

-- ---- the count

module _ (R : ℕ) (h : 0 < R) where
  -- it is below R
  pub first_below : (p : ℕ) → first_count R p < R
  unfolding first_count
  first_below p = mod-lt p h

  pub counted-below : (U : ℕ) (s : ℤ) → counted_of R U s < R
  unfolding counted_of
  counted-below U s = mod_below R h (pos U +ℤ s)

  -- it starts as p modulo R
  pub first-is : (p : ℕ) → pos (first_count R p) ≡ floor_mod (pos p) (pos R)
  unfolding first_count
  first-is p = sym (floor-nat p R h)

  -- one more step: of a count that is T modulo R it makes T + s modulo R
  pub counted_is : (U : ℕ) (s T : ℤ) → pos U ≡ floor_mod T (pos R) → pos (counted_of R U s) ≡ floor_mod (T +ℤ s) (pos R)
  unfolding counted_of
  counted_is U s T e = mod-nat R h (pos U +ℤ s) ∙ mod-add R h (pos U) T s (ap (λ (z : ℤ). floor_mod z (pos R)) e ∙ mod-again R h T)

  -- where M is a multiple of R, a count that is the last position modulo R becomes p modulo R
  pub counted-position : {M : ℕ} → Even M → (c : ℕ) → M ≡ c * R → (U last p : ℕ) → pos U ≡ floor_mod (pos last) (pos R) →
      pos (counted_of R U (step_from M last p)) ≡ floor_mod (pos p) (pos R)
  counted-position {M} m c multiple U last p e = counted_is U (step_from M last p) (pos last) e ∙ back (step_is m last p)
    where
      back : Step M last p (step_from M last p) → floor_mod (pos last +ℤ step_from M last p) (pos R) ≡ floor_mod (pos p) (pos R)
      back f =
          sym (same-mod R h (pos p) (pos last +ℤ step_from M last p) (f.turns *ℤ pos c)
          (f.same ∙ ap (λ (n : ℕ). pos last +ℤ step_from M last p +ℤ f.turns *ℤ pos n) multiple
          ∙ ring (lit last ⊕ var (step_from M last p) ⊕ var f.turns ⊗ lit (c * R)) (lit last ⊕ var (step_from M last p) ⊕ var f.turns ⊗ lit c ⊗ lit R) (omega arith)))

-- ---- for code: with up to 2 ^ 32 positions the step is far below 2 ^ 63

pub step-within : (M last p : ℕ) → M ≤ 4294967296 → Within 4294967296 (step_from M last p)
unfolding step_from
step-within M last p h =
    let r = rest-within (pos p -ℤ pos last +ℤ pos (half M)) M in
    let f : ℤ = floor_mod (pos p -ℤ pos last +ℤ pos (half M)) (pos M) in
    within 4294967296 (f -ℤ pos (half M)) (omega (arith, sub_is f (pos (half M)), r.0, r.1)) (omega (arith, sub_is f (pos (half M)), r.0, r.1))
