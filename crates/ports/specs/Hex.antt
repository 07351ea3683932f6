-- Numbers in hex.
use Rattle.std.specs.Prelude.{ℕ, ◌-◌, ◌^◌, List, [], false}
use Rattle.std.specs.Fmt.{digits, format_spec, padded_integral}

-- the lower-case hex digits of a number, with zeros in front up to eight
abbrev pub hex_8 : ℕ → List ℕ
hex_8 n = padded_integral (format_spec 32 0 4 8 (2 ^ 64 - 1)) false [] (digits 16 false n)
