-- Laws of what a result starts from: without a round loop it is the telegram's alone; with one it stays below R; and error 3 is told by the telegram. Paper 02, K4.
use Rattle.std.specs.Prelude.{◌≡◌, refl, true, false, List, ℕ, ◌<◌, eqb, ℤ}
use Rattle.std.proofs.Common.{sym, arith, eq-eqb, ne_eqb}
use Rattle.integers.specs.ChoiceLaws.{by-test, is_true, is_false}
use Rattle.parameters.specs.Slots.{round_loop}
use Rattle.roundloop.proofs.CountLaws.{first_below, counted-below}
use Rattle.settings.specs.Settings.{layout_of}
use Rattle.ssi.specs.Telegram.{error_reported, modulus}
use Rattle.reading.specs.declared.Basis.{Basis}
use Rattle.reading.specs.Reading.{directed_at, basis_of}
use Rattle.reading.specs.Follow.{count_after, followed_of, held_of, basis_after}

-- round loop 0: as if nothing had been before
pub unfollowed : (t : List ℤ) (b : Basis) (w : ℕ) → round_loop t ≡ 0 → basis_after t b w ≡ basis_of t w
unfolding basis_after
unfollowed t b w e = rw (eq-eqb (round_loop t) 0 e)

-- error 3 is the telegram's own, whatever was before
pub after-reported : (t : List ℤ) (b : Basis) (w : ℕ) → (basis_after t b w).reported ≡ error_reported (layout_of t) w
unfolding basis_after basis_of held_of followed_of
after-reported t b w =
    by-test (eqb (round_loop t) 0) (basis_of t w) _ (λ (x : Basis). x.reported ≡ error_reported (layout_of t) w) (λ _. refl)
    (λ _. by-test (error_reported (layout_of t) w) (held_of b) _ (λ (x : Basis). x.reported ≡ error_reported (layout_of t) w)
    (λ y. sym (is_true (error_reported (layout_of t) w) y)) (λ n. sym (is_false (error_reported (layout_of t) w) n)))

-- with a round loop
module _ (t : List ℤ) (h : 0 < round_loop t) where
  -- what a telegram leaves: held, or followed
  pub by-follow : (b : Basis) (w : ℕ) (Q : Basis → Type 0) →
      (error_reported (layout_of t) w ≡ true → Q (held_of b)) →
      (error_reported (layout_of t) w ≡ false → Q (followed_of (round_loop t) (modulus (layout_of t)) b (directed_at t w))) →
      Q (basis_after t b w)
  unfolding basis_after
  by-follow b w Q holds follows =
      rw (ne_eqb (round_loop t) 0 (λ e. omega arith))
      (by-test (error_reported (layout_of t) w) (held_of b) _ Q (λ y. holds (is_true (error_reported (layout_of t) w) y)) (λ n. follows (is_false (error_reported (layout_of t) w) n)))

  count-below : (M : ℕ) (b : Basis) (p : ℕ) → count_after (round_loop t) M b p < round_loop t
  unfolding count_after
  count-below M b p = by-test b.counted _ _ (λ (n : ℕ). n < round_loop t) (λ _. counted-below (round_loop t) h _ _) (λ _. first_below (round_loop t) h p)

  -- U stays below R
  pub start-below : (b : Basis) (w : ℕ) → b.start < round_loop t → (basis_after t b w).start < round_loop t
  unfolding held_of followed_of
  start-below b w k = by-follow b w (λ (x : Basis). x.start < round_loop t) (λ _. k) (λ _. count-below (modulus (layout_of t)) b (directed_at t w))
