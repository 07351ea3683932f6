-- The count at the encoder's end, computed: 3,600 steps on 25 bits, half a turn, and the narrowest and the widest encoder. Paper 02, K4.
use Rattle.std.specs.Prelude.{◌≡◌, refl, ◌^◌, pos, negsuc}
use Rattle.integers.specs.Round.{floor_mod}
use Rattle.roundloop.specs.Count.{step_from, first_count, counted_of}

-- one step on over the end of 25 bits, and one back
pub over-the-end : step_from (2 ^ 25) 33554431 0 ≡ pos 1
unfolding step_from floor_mod
over-the-end = refl

pub and-back : step_from (2 ^ 25) 0 33554431 ≡ negsuc 0
unfolding step_from floor_mod
and-back = refl

-- 33,554,431 = 9,320 × 3,600 + 2,431, and one on is 2,432, where p modulo R is 0
pub counts-on : counted_of 3600 (first_count 3600 33554431) (step_from (2 ^ 25) 33554431 0) ≡ 2432
unfolding counted_of first_count step_from floor_mod
counts-on = refl

pub counts-back : counted_of 3600 (first_count 3600 0) (step_from (2 ^ 25) 0 33554431) ≡ 3599
unfolding counted_of first_count step_from floor_mod
counts-back = refl

-- exactly half the range counts backward, from either side; one less counts forward
pub half-way : step_from 8 1 5 ≡ negsuc 3
unfolding step_from floor_mod
half-way = refl

pub half-way-back : step_from 8 5 1 ≡ negsuc 3
unfolding step_from floor_mod
half-way-back = refl

pub below_half : step_from 8 1 4 ≡ pos 3
unfolding step_from floor_mod
below_half = refl

-- with two positions every change is −1
pub narrowest : step_from (2 ^ 1) 0 1 ≡ negsuc 0
unfolding step_from floor_mod
narrowest = refl

pub narrowest-back : step_from (2 ^ 1) 1 0 ≡ negsuc 0
unfolding step_from floor_mod
narrowest-back = refl

-- with 2 ^ 32 the step is from −2 ^ 31 to 2 ^ 31 − 1
pub widest : step_from (2 ^ 32) 0 2147483647 ≡ pos 2147483647
unfolding step_from floor_mod
widest = refl

pub widest-half : step_from (2 ^ 32) 0 2147483648 ≡ negsuc 2147483647
unfolding step_from floor_mod
widest-half = refl
