-- Texts by computing: numbers of the paper's printed lines and the ends of the range, and texts that are no number's.
use Rattle.std.specs.Prelude.{◌≡◌, refl, [], ◌∷◌, pos, negsuc, Some, None}
use Rattle.decimal.specs.Decimal.{digits_in, digits_of, text_of, value_from, number_in, same_text, parsed_of}

-- 0, -2, 3277
zero-text : text_of (pos 0) ≡ 48 ∷ []
unfolding text_of digits_of digits_in
zero-text = refl

negative-text : text_of (negsuc 1) ≡ 45 ∷ 50 ∷ []
unfolding text_of digits_of digits_in
negative-text = refl

analog-text : text_of (pos 3277) ≡ 51 ∷ 50 ∷ 55 ∷ 55 ∷ []
unfolding text_of digits_of digits_in
analog-text = refl

-- the least number of 18 digits: a minus sign and eighteen nines
least-text : text_of (negsuc 999999999999999998) ≡ 45 ∷ 57 ∷ 57 ∷ 57 ∷ 57 ∷ 57 ∷ 57 ∷ 57 ∷ 57 ∷ 57 ∷ 57 ∷ 57 ∷ 57 ∷ 57 ∷ 57 ∷ 57 ∷ 57 ∷ 57 ∷ 57 ∷ []
unfolding text_of digits_of digits_in
least-text = refl

-- -7 is read; an empty text, a lone minus sign, -0, 07, +7 and 7 with a space are malformed
negative-read : parsed_of (45 ∷ 55 ∷ []) ≡ Some (negsuc 6)
unfolding parsed_of same_text number_in value_from text_of digits_of digits_in
negative-read = refl

empty-read : parsed_of [] ≡ None
unfolding parsed_of same_text number_in value_from text_of digits_of digits_in
empty-read = refl

minus-read : parsed_of (45 ∷ []) ≡ None
unfolding parsed_of same_text number_in value_from text_of digits_of digits_in
minus-read = refl

minus-zero-read : parsed_of (45 ∷ 48 ∷ []) ≡ None
unfolding parsed_of same_text number_in value_from text_of digits_of digits_in
minus-zero-read = refl

leading-zero-read : parsed_of (48 ∷ 55 ∷ []) ≡ None
unfolding parsed_of same_text number_in value_from text_of digits_of digits_in
leading-zero-read = refl

plus-read : parsed_of (43 ∷ 55 ∷ []) ≡ None
unfolding parsed_of same_text number_in value_from text_of digits_of digits_in
plus-read = refl

space-read : parsed_of (55 ∷ 32 ∷ []) ≡ None
unfolding parsed_of same_text number_in value_from text_of digits_of digits_in
space-read = refl
