-- `modbus::value_of` meets its contract: the halves are those of the definition, the upper one above the lower.
use Rattle.std.proofs.Common.{ℕ, ◌≡◌, ◌<◌, ◌+◌, ◌*◌, ◌^◌, ◌∙◌, ap, arith, get_or, to_z}
use Rattle.std.specs.Int.{w32}
use Rattle.integers.specs.IntLaws.{back_at}
use Rattle.modbus.specs.Words.{number, word_from}
use Rattle.modbus.proofs.WordLaws.{signed_read}
use Rattle.modbus.proofs.value_of.Goals as goal

pub returns : goal.returns
returns c =
    let f = c.args.f.now in
    let high = number (get_or f 9 0) (get_or f 10 0) in
    let low = number (get_or f 7 0) (get_or f 8 0) in
    let fits : high * 2 ^ 16 + low < 2 ^ 32 = omega (arith, c.type_inv.f 7, c.type_inv.f 8, c.type_inv.f 9, c.type_inv.f 10) in
    let read : (w : ℕ) → w ≡ high * 2 ^ 16 + low → to_z w32 w ≡ word_from low high = λ w e. ap (to_z w32) e ∙ signed_read _ fits in
    back_at w32 c.from_be_bytes.result c.from_be_bytes.type_inv ∙ c.from_be_bytes.ensures ∙ read _ (omega arith)
