-- The law of the outputs: one that nobody aims at is low. Assumes nothing.
use Rattle.std.specs.Prelude.{◌≡◌, refl, Bool, false, List, ℕ, zero, suc, ◌<◌}
use Rattle.std.proofs.Common.{arith}
use Rattle.integers.specs.Choice.{some}
use Rattle.switching.specs.declared.Preselection.{Preselection}
use Rattle.switching.specs.declared.Switch.{Switch}
use Rattle.switching.specs.Switching.{preselection_at, switch_at}
use Rattle.switching.specs.Outputs.{aims, drives_of, inverts_of, active_at, low_at, level_of}

-- no place where it holds
pub some-nowhere : (n : ℕ) (f : ℕ → Bool) → ((k : ℕ) → k < n → f k ≡ false) → some n f ≡ false
unfolding some
some-nowhere zero f h = refl
some-nowhere (suc n) f h = rw (some-nowhere n f (λ k l. h k (omega arith)), h n (omega arith))

-- Switching, "an output nobody aims at is low, whatever the polarity"
pub unaimed-low : (n : ℕ) (ps : List Preselection) (ss : List Switch) → ((k : ℕ) → k < 4 → aims n (preselection_at ps k) ≡ false) → level_of n ps ss ≡ false
unfolding level_of active_at low_at
unaimed-low n ps ss h =
    rw (
      some-nowhere 4 (λ k. inverts_of n (preselection_at ps k)) (λ k l. rw (h k l)),
      some-nowhere 4 (λ k. drives_of n (preselection_at ps k) (switch_at ss k)) (λ k l. rw (h k l)),
    )
