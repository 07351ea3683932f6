-- The laws of switching: a switch that is not released is off, and at each event its condition obeys `Turns`, suppressed or not; and what stands at each
-- place of the four. Assumes nothing.
use Rattle.std.specs.Prelude.{◌≡◌, Bool, true, false, not, ◌&&◌, ◌||◌, List, ℕ, zero, suc, ◌<◌, T, ℤ, length}
use Rattle.std.proofs.Common.{arith}
use Rattle.switching.specs.declared.Preselection.{Preselection}
use Rattle.switching.specs.declared.Switch.{Switch}
use Rattle.switching.specs.Condition.{condition_of}
use Rattle.switching.specs.Switching.{fresh_switch, released_of, held_of, conditioned_of, locked_of, switched_of, ticked_of, unlocked_of, preselection_at, switch_at, partner_of, switched_at, all_switched, all_ticked, all_unlocked}
use Rattle.switching.specs.EachLaws.{each_at}
use Rattle.switching.specs.Travel.{hysteretic}
use Rattle.switching.proofs.TravelLaws.{Turns, view, mark, condition-turns}

-- ---- suppression

-- "off until ..": while suppression has not ended, the condition is off
abbrev pub Held : Switch → Type 0
Held s = T (not s.released) → T (not s.on)

pub fresh-held : Held fresh_switch
fresh-held n = tt

held-off : (released on : Bool) → T (not released) → T (not (released && on))
held-off true on n = absurd n
held-off false on n = tt

-- every event leaves it so
pub switched-held : (p : Preselection) (partner r : ℤ) (s : Switch) → Held (switched_of p partner r s)
unfolding switched_of locked_of conditioned_of held_of
switched-held p partner r s = held-off (released_of p r s.released) (condition_of p.mode r p.value partner p.hysteresis s.on)

pub ticked-held : (ms : ℕ) (s : Switch) → Held s → Held (ticked_of ms s)
ticked-held ms s h = h

pub unlocked-held : (s : Switch) → Held s → Held (unlocked_of s)
unlocked-held s h = h

-- a suppression that has ended stays so
pub released-stays : (p : Preselection) (partner r : ℤ) (s : Switch) → T s.released → T (switched_of p partner r s).released
unfolding switched_of locked_of conditioned_of released_of
released-stays p partner r s t = or_left s.released _ t
  where
    or_left : (a b : Bool) → T a → T (a || b)
    or_left true b t = tt
    or_left false b t = absurd t

-- ---- the condition of a mode with a hysteresis obeys `Turns`, suppressed or not

module _ (g mark : ℤ) (h : ℕ) (was new : Bool) where
  -- a condition that suppression may hold off, off before where it does
  held-turns : (before now : Bool) → (T (not before) → T (not was)) → Turns g mark h was new → Turns g mark h was ((before || now) && new)
  held-turns true now k t = t
  held-turns false true k t = t
  held-turns false false k t = record { turns-on = λ a b. absurd b; turns-off = λ a b. absurd (both was (k tt) a) }
    where
      both : (b : Bool) → T (not b) → T b → ⊥
      both true n t = n
      both false n t = t

pub switched-turns : (p : Preselection) (partner r : ℤ) (s : Switch) → T (hysteretic p.mode) → Held s →
    Turns (view p.mode r) (mark p.mode p.value partner) p.hysteresis s.on (switched_of p partner r s).on
unfolding switched_of locked_of conditioned_of held_of released_of
switched-turns p partner r s y k =
    held-turns (view p.mode r) (mark p.mode p.value partner) p.hysteresis s.on _ s.released _ k
    (condition-turns p.mode y r p.value partner p.hysteresis s.on)

-- ---- the four

pub switched-at-held : (ps : List Preselection) (r : ℤ) (k : ℕ) (s : Switch) → Held (switched_at ps r k s)
unfolding switched_at
switched-at-held ps r k s = switched-held (preselection_at ps k) (preselection_at ps (partner_of k)).value r s

-- what switch k compares with, turned so that on is upward
abbrev pub mark_at : List Preselection → ℕ → ℤ
mark_at ps k = mark (preselection_at ps k).mode (preselection_at ps k).value (preselection_at ps (partner_of k)).value

pub switched-at-turns : (ps : List Preselection) (r : ℤ) (k : ℕ) (s : Switch) → T (hysteretic (preselection_at ps k).mode) → Held s →
    Turns (view (preselection_at ps k).mode r) (mark_at ps k) (preselection_at ps k).hysteresis s.on (switched_at ps r k s).on
unfolding switched_at
switched-at-turns ps r k s y h = switched-turns (preselection_at ps k) (preselection_at ps (partner_of k)).value r s y h

pub partner-below : (k : ℕ) → partner_of k < 4
unfolding partner_of
partner-below zero = omega arith
partner-below (suc zero) = omega arith
partner-below (suc (suc zero)) = omega arith
partner-below (suc (suc (suc k))) = omega arith

module _ (ss : List Switch) (long : length ss ≡ 4) (k : ℕ) (small : k < 4) where
  pub all-switched-at : (ps : List Preselection) (r : ℤ) → switch_at (all_switched ps r ss) k ≡ switched_at ps r k (switch_at ss k)
  all-switched-at ps r = each_at (switched_at ps r) ss k fresh_switch (omega arith)

  pub all-ticked-at : (ms : ℕ) → switch_at (all_ticked ms ss) k ≡ ticked_of ms (switch_at ss k)
  all-ticked-at ms = each_at (λ j. ticked_of ms) ss k fresh_switch (omega arith)

  pub all-unlocked-at : switch_at (all_unlocked ss) k ≡ unlocked_of (switch_at ss k)
  all-unlocked-at = each_at (λ j. unlocked_of) ss k fresh_switch (omega arith)
