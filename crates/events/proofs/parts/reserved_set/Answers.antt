-- `events::parts::reserved_set` meets its contract: the kind says which bits are reserved.
use mathlib.Core.Path.{◌≡◌, refl, sym, ap, ◌∙◌}
use mathlib.Core.Bool.{false}
use lib.Dec.{eqb}
use Rattle.events.specs.declared.parts.Kind.{Kind}
use Rattle.events.specs.declared.parts.Kind.TheVariants.{Tick, Levels, Upper, Lower}
use Rattle.events.specs.Words.{kind_number, reserved_set}
use Rattle.events.proofs.parts.reserved_set.Goals as goal

not-levels : (k : Kind) → (k ≡ Levels → ⊥) → eqb (kind_number k) 1 ≡ false
not-levels Tick n = refl
not-levels Levels n = absurd (n refl)
not-levels Upper n = refl
not-levels Lower n = refl

pub returns-in-Levels : goal.returns-in-Levels
unfolding reserved_set
returns-in-Levels c = rw (c.bits.ensures, sym c.kind_of.ensures ∙ ap kind_number c.in-Levels.is)

pub returns-in_default : goal.returns-in_default
unfolding reserved_set
returns-in_default c = rw (c.bits-in_default.ensures, sym c.kind_of.ensures, not-levels c.kind_of.result c.in_default.not-Levels)
