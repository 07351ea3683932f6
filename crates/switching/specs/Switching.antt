-- From a condition to a signal: after each event a preselection's switch is what suppression, condition, pulse and lock make of it, in this order.
-- Paper 01, "Switching". Preselections and switches are counted from 0 here. Assumes nothing.
use Rattle.std.specs.Prelude.{Bool, false, cond, not, ◌&&◌, ◌||◌, List, ℕ, zero, suc, ◌-◌, eqb, ltb, ℤ, pos, get_or}
use Rattle.switching.specs.declared.Preselection.{Preselection}
use Rattle.switching.specs.declared.Switch.{Switch}
use Rattle.switching.specs.Condition.{exceeds, condition_of}
use Rattle.switching.specs.Each.{each_from}

-- Events and inputs, "a fresh state": the condition off, suppression not ended, no pulse, no lock
abbrev pub fresh_switch : Switch
fresh_switch = record { on = false; released = false; pulse = 0; locked = false }

-- Switching, "start-up suppression, modes 1 and 4 only"
unfoldable pub suppresses : Preselection → Bool
suppresses p = eqb p.startup 1 && (eqb p.mode 1 || eqb p.mode 4)

-- Switching, "until, after some event": suppression has ended, for good. Where there is none, it has ended with the first event
unfoldable pub released_of : Preselection → ℤ → Bool → Bool
released_of p r released = released || (not (suppresses p) || exceeds p.mode r p.value)

-- Switching, the condition after an event, held off while suppressed
unfoldable pub held_of : Preselection → ℤ → ℤ → Bool → Bool → Bool
held_of p partner r released was = released && condition_of p.mode r p.value partner p.hysteresis was

-- Switching, "each off-to-on change starts the pulse anew": what is left of it
unfoldable pub pulse_of : ℕ → Bool → Bool → ℕ → ℕ
pulse_of full was on left = cond (not was && on) full left

-- Switching, the signal: with pulse 0 the condition, otherwise active while any of the pulse is left
unfoldable pub signal_of : Preselection → Switch → Bool
signal_of p s = cond (eqb p.pulse 0) s.on (ltb 0 s.pulse)

-- Switching, "a lock holds an active signal"
unfoldable pub active_of : Preselection → Switch → Bool
active_of p s = s.locked || signal_of p s

-- Switching, an event's condition and pulse start, with suppression ended or not
unfoldable pub conditioned_of : Preselection → ℤ → ℤ → Bool → Switch → Switch
conditioned_of p partner r released s =
    record {
      on = held_of p partner r released s.on;
      released = released;
      pulse = pulse_of p.pulse s.on (held_of p partner r released s.on) s.pulse;
      locked = s.locked;
    }

-- Switching, "a lock holds an active signal until cleared; a still active signal locks again": after condition and pulse
unfoldable pub locked_of : Preselection → Switch → Switch
locked_of p s = record { on = s.on; released = s.released; pulse = s.pulse; locked = cond (eqb p.lock 1) (active_of p s) s.locked }

-- Switching, "after each telegram or levels event, once a telegram was accepted": one preselection, with its partner's P and the result
unfoldable pub switched_of : Preselection → ℤ → ℤ → Switch → Switch
switched_of p partner r s = locked_of p (conditioned_of p partner r (released_of p r s.released) s)

-- Switching, "ticks use it up (never below 0)"
abbrev pub ticked_of : ℕ → Switch → Switch
ticked_of ms s = record { on = s.on; released = s.released; pulse = s.pulse - ms; locked = s.locked }

-- Events and inputs, action 3: the lock is cleared
abbrev pub unlocked_of : Switch → Switch
unlocked_of s = record { on = s.on; released = s.released; pulse = s.pulse; locked = false }

-- ---- all four

-- a preselection with every setting 0: what stands past the end of a list
abbrev pub unset : Preselection
unset = record { value = pos 0; mode = 0; hysteresis = 0; pulse = 0; target = 0; polarity = 0; lock = 0; startup = 0 }

-- preselection k, and switch k
abbrev pub preselection_at : List Preselection → ℕ → Preselection
preselection_at ps k = get_or ps k unset

abbrev pub switch_at : List Switch → ℕ → Switch
switch_at ss k = get_or ss k fresh_switch

-- Switching, "partners: 1 and 2, 3 and 4"
unfoldable pub partner_of : ℕ → ℕ
partner_of zero = 1
partner_of (suc zero) = 0
partner_of (suc (suc zero)) = 3
partner_of (suc (suc (suc k))) = 2

-- switch k after an event, with the P of its partner
unfoldable pub switched_at : List Preselection → ℤ → ℕ → Switch → Switch
switched_at ps r k s = switched_of (preselection_at ps k) (preselection_at ps (partner_of k)).value r s

-- Switching, "after each telegram or levels event": the four
abbrev pub all_switched : List Preselection → ℤ → List Switch → List Switch
all_switched ps r ss = each_from 0 (switched_at ps r) ss

-- Switching, "ticks use it up": the four
abbrev pub all_ticked : ℕ → List Switch → List Switch
all_ticked ms ss = each_from 0 (λ k. ticked_of ms) ss

-- Events and inputs, action 3, "clear locks": the four
abbrev pub all_unlocked : List Switch → List Switch
all_unlocked ss = each_from 0 (λ k. unlocked_of) ss
