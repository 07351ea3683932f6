-- `analog::code` meets its contract: each call gives what the definition names, and a code, which is within its ends, fits 32 bits.
use borrow.Author.Rules.{rules}
use mathlib.Core.Path.{◌≡◌}
use lib.Dec.{lit<}
use mir.Syntax.{w64}
use mir.Facts.{to_z-of_z}
use Rattle.integers.specs.IntLaws.{bk, back_at, fits-within}
use Rattle.integers.specs.Fraction.{rounded}
use Rattle.integers.specs.Round.{rounding}
use Rattle.analog.specs.AnalogCode.{fraction, on_scale, code_of, code_half, coded_of}
use Rattle.analog.proofs.CodeLaws.{ends-order, held-clamp, code_fits, fits-small}
use Rattle.analog.proofs.code.Goals as goal

pub clamp-code-requires : goal.clamp-code-requires
clamp-code-requires c = rw (back_at w64 c.lowest_code.result c.lowest_code.type_inv, back_at w64 c.full_scale.result c.full_scale.type_inv, c.lowest_code.ensures, c.full_scale.ensures)
    (ends-order c.args.format)

pub overflow_cast-code : goal.overflow_cast-code
unfolding code_of rounding
overflow_cast-code c =
    let z-is : let a = c.args in c.rounded-z.result ≡ rounded (on_scale a.format (fraction a.start a.end a.r)) =
    let f = c.ranges in rw (c.rounded-z.ensures, to_z-of_z f.start, to_z-of_z f.end, to_z-of_z f.r) in
    let held-is : let a = c.args in bk w64 c.clamp-code.result ≡ code_of a.format a.start a.end a.r =
    let h = c.full_scale in
    let l = c.lowest_code in
    let z = c in
    let v : bk w64 z.rounded-z.result.value ≡ z.rounded-z.result.value = search rules in
    rw (
      back_at w64 c.clamp-code.result c.clamp-code.type_inv,
      c.clamp-code.ensures.value,
      back_at w64 l.result l.type_inv,
      back_at w64 h.result h.type_inv,
      v,
      l.ensures,
      h.ensures,
      z-is,
    ) (held-clamp _ _ _ (ends-order c.args.format)) in
    rw (held-is) (fits-within (fits-small _ _ (code_fits _ c.args.start c.args.end c.args.r)) (lit< tt))

pub returns : goal.returns
unfolding coded_of code_half rounding code_of
returns c =
    let z-is : let a = c.args in c.rounded-z.result ≡ rounded (on_scale a.format (fraction a.start a.end a.r)) =
    let f = c.ranges in rw (c.rounded-z.ensures, to_z-of_z f.start, to_z-of_z f.end, to_z-of_z f.r) in
    let held-is : let a = c.args in bk w64 c.clamp-code.result ≡ code_of a.format a.start a.end a.r =
    let h = c.full_scale in
    let l = c.lowest_code in
    let z = c in
    let v : bk w64 z.rounded-z.result.value ≡ z.rounded-z.result.value = search rules in
    rw (
      back_at w64 c.clamp-code.result c.clamp-code.type_inv,
      c.clamp-code.ensures.value,
      back_at w64 l.result l.type_inv,
      back_at w64 h.result h.type_inv,
      v,
      l.ensures,
      h.ensures,
      z-is,
    ) (held-clamp _ _ _ (ends-order c.args.format)) in
    rw (to_z-of_z (overflow_cast-code c), held-is, z-is)
