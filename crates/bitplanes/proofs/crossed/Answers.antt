-- `bitplanes::crossed` meets its contract: the definition at the mask that it is handed.
use native.Mathlib.Omega.{arith}
use Rattle.bitplanes.specs.RoundSteps.{crossing}
use Rattle.bitplanes.proofs.MaskLaws.{sizes}
use Rattle.bitplanes.proofs.crossed.Goals as goal

pub overflow_cast-result : goal.overflow_cast-result
overflow_cast-result c = record { fits = omega (arith, (sizes c.args.w c.requires.width).small) }

pub overflow_shr-result : goal.overflow_shr-result
overflow_shr-result c = omega (arith, (sizes c.args.w c.requires.width).small)

pub returns : goal.returns
unfolding crossing
returns c = rw c.requires.m_value
