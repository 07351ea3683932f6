-- Z, the largest number that the panel shows and stores. Paper 01, opening: "Z stands for 99,999,999".
use Rattle.std.specs.Prelude.{ℕ}

abbrev pub Z : ℕ
Z = 99999999
