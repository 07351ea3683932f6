-- Small cases, computed.
use Rattle.std.specs.Prelude.{◌≡◌, refl, [], ◌∷◌, ◌++◌, replicate, ◌-◌, ◌^◌, Ok, Err}
use Rattle.bitplanes.specs.Turned.{plane, planes, in_groups, turned, turned_into}

-- 31 words are stored as they are
short : turned (replicate 31 7) ≡ replicate 31 7
unfolding in_groups
short = refl

-- 32 words 7 become three words of ones and 29 zeros; the word behind them stays
group-and-rest : turned (replicate 33 7) ≡ replicate 3 (2 ^ 32 - 1) ++ (replicate 29 0 ++ (7 ∷ []))
unfolding in_groups planes plane
group-and-rest = refl

-- bit 0 of word 0 stays there
first_bit : turned (1 ∷ replicate 31 0) ≡ 1 ∷ replicate 31 0
unfolding in_groups planes plane
first_bit = refl

-- bit 0 of word 31 becomes bit 31 of word 0
last_word : turned (replicate 31 0 ++ (1 ∷ [])) ≡ 0x80000000 ∷ replicate 31 0
unfolding in_groups planes plane
last_word = refl

-- each group for itself: bit 0 of word 31 of the second group
second_group : turned (replicate 63 0 ++ (1 ∷ [])) ≡ replicate 32 0 ++ (0x80000000 ∷ replicate 31 0)
unfolding in_groups planes plane
second_group = refl

-- an empty input into an empty slice, and into one that keeps its words
empty : turned_into [] [] ≡ (Ok tt, [])
unfolding in_groups
empty = refl

empty-input : turned_into [] (9 ∷ []) ≡ (Ok tt, 9 ∷ [])
unfolding in_groups
empty-input = refl

-- an output that is too short
too_short : turned_into (1 ∷ 2 ∷ []) (9 ∷ []) ≡ (Err (record {}), 9 ∷ [])
too_short = refl

-- what lies behind stays
old-tail : turned_into (1 ∷ 2 ∷ []) (9 ∷ 8 ∷ 7 ∷ []) ≡ (Ok tt, 1 ∷ 2 ∷ 7 ∷ [])
unfolding in_groups
old-tail = refl
