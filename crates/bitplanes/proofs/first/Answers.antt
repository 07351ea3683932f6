-- `bitplanes::first` meets its contract: p & (w - 1) is the remainder of p by w.
use Rattle.bitplanes.proofs.LoopLaws.{first-le, first-is}
use Rattle.bitplanes.proofs.MaskLaws.{sizes}
use Rattle.bitplanes.proofs.first.Goals as goal

pub overflow_sub-result : goal.overflow_sub-result
overflow_sub-result c = (sizes c.args.w c.requires.width).above

pub overflow_sub-result-2 : goal.overflow_sub-result-2
overflow_sub-result-2 c = first-le c.args.w c.args.p c.requires.width

pub returns : goal.returns
returns c = first-is c.args.w c.args.p c.requires.width c.requires.p_bound
