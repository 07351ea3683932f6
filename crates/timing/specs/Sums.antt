-- How often a timed program runs, and what its answers add to the sum that it prints.
use Rattle.std.specs.Prelude.{ℕ, ◌+◌, ◌*◌, ◌%◌, ◌^◌, List, ℤ, pos, negsuc, ◌+ℤ◌, nat_abs}
use Rattle.std.specs.Float.Ieee.{binary32, to_bits}
use Rattle.std.specs.declared.option.Option.{Option}
use Rattle.std.specs.declared.option.Option.TheVariants.{Some, None}
use Rattle.decimal.specs.Decimal.{parsed_of}
use Rattle.driverecord.specs.declared.DriveRecord.{DriveRecord}

-- a number that is not negative, else 0
abbrev pub rounds_in : Option ℤ → ℕ
rounds_in (Some (pos n)) = n
rounds_in (Some (negsuc n)) = 0
rounds_in None = 0

-- the rounds that a word gives
abbrev pub rounds_of : List ℕ → ℕ
rounds_of word = rounds_in (parsed_of word)

-- 31 times the sum and a number, modulo 2^64
abbrev pub mixed_of : ℕ → ℕ → ℕ
mixed_of sum n = (sum * 31 + n) % 2 ^ 64

-- 2^31 more than a signed word, which is not negative
abbrev pub raised_of : ℤ → ℕ
raised_of z = nat_abs (z +ℤ pos 2147483648)

-- the bits of the record's floats, and its mark
abbrev pub record_part_of : DriveRecord → ℕ
record_part_of d = 19 * (to_bits binary32 d.present + to_bits binary32 d.lowest + to_bits binary32 d.highest) + 23 * d.empty
