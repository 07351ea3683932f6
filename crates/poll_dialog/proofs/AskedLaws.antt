-- A COMMAND WRITTEN IN ITS PLAIN FORM IS READ BACK: its words parted by one space, its numbers as `decimal` writes them; and a line that is cut behind the most bytes that are held asks for the same.
use Rattle.std.specs.Prelude.{◌≡◌, refl, List, [], ◌∷◌, ℕ, ◌≤◌, eqb, pos, length, get_or, take}
use Rattle.std.proofs.Common.{◌∙◌, arith, length-append, lt-ltb, le-ltb, ne_eqb, le-leb}
use Rattle.decimal.specs.Decimal.{same_text}
use Rattle.decimal.specs.DecimalLaws.{written-is-read, text-at-most-19}
use Rattle.text.specs.Marks.{number}
use Rattle.text.specs.Plain.{all_plain, Words, last, more, spoken}
use Rattle.text.specs.PlainLaws.{words_back, trimmed-same, text-plain}
use Rattle.text.specs.Words.{trimmed_of}
use Rattle.script.specs.Collector.{most}
use Rattle.script.proofs.CollectorLaws.{trimmed-length, cut_by}
use Rattle.script.specs.Commands.{natural_by, natural_in, natural_of, longest, hash}
use Rattle.script.proofs.PlainLaws.{first_byte, small}
use Rattle.script.specs.Table.{named_in}
use Rattle.poll_dialog.specs.declared.asked.Asked.TheVariants.{Wrong, Join, Report, Pick}
use Rattle.poll_dialog.specs.declared.asked.Reason.TheVariants.{TooLong}
use Rattle.poll_dialog.specs.Asked.{last_address, join_in, report_in, pick_in, join_word, report_word, pick_word, named_of, meaning_of, asked_of}

-- ---- a line that is cut
long-wrong : (s : List ℕ) → most ≤ length s → asked_of s ≡ Wrong TooLong
unfolding asked_of
long-wrong s h = let t = trimmed_of s in rw (lt-ltb longest (length t) (omega (arith, trimmed-length s)))

-- A LINE ASKS FOR THE SAME WHEN IT IS CUT BEHIND THE MOST BYTES THAT ARE HELD
pub cut-alike : (line : List ℕ) → asked_of (take most line) ≡ asked_of line
cut-alike = cut_by asked_of (Wrong TooLong) long-wrong

-- ---- a line of plain words
-- it asks for what its first word makes of the others, where it is no remark and not too long
plain-means : (w : List ℕ) (ws : List (List ℕ)) → Words (w ∷ ws) → (get_or w 0 0 ≡ hash → ⊥) → length (spoken (w ∷ ws)) ≤ longest → asked_of (spoken (w ∷ ws)) ≡ named_of w ws
unfolding asked_of meaning_of
plain-means w ws r n l =
    rw (trimmed-same (w ∷ ws) r, words_back (w ∷ ws) r, le-ltb longest (length (spoken (w ∷ ws))) l, first_byte w ws r, ne_eqb (get_or w 0 0) hash n)

-- `join A` is read back
pub join-back : (a : ℕ) → a ≤ last_address → asked_of (spoken (join_word ∷ number a ∷ [])) ≡ Join a
unfolding named_in same_text join_in natural_of natural_by natural_in all_plain spoken
join-back a h =
    let w = small a h in
    plain-means join_word (number a ∷ []) (more (record { some = omega arith; all = refl }) (last (text-plain (pos a) w))) (λ q. omega arith) (omega (arith, text-at-most-19 (pos a)))
    ∙ rw (written-is-read (pos a) w, le-leb a last_address h)

report-length : (v w : List ℕ) → length v ≤ 19 → length w ≤ 19 → length (spoken (report_word ∷ v ∷ w ∷ [])) ≤ longest
unfolding spoken
report-length v w h i = simp length-append (omega arith)

-- `report A E` is read back
pub report-back : (a e : ℕ) → a ≤ last_address → e ≤ 1 → asked_of (spoken (report_word ∷ number a ∷ number e ∷ [])) ≡ Report a (eqb e 1)
unfolding named_in same_text report_in natural_of natural_by natural_in all_plain
report-back a e h i =
    let v = small a h in
    let w = small e (omega arith) in
    plain-means report_word (number a ∷ number e ∷ []) (more (record { some = omega arith; all = refl }) (more (text-plain (pos a) v) (last (text-plain (pos e) w)))) (λ q. omega arith) (report-length (number a) (number e) (text-at-most-19 (pos a)) (text-at-most-19 (pos e)))
    ∙ rw (written-is-read (pos a) v, le-leb a last_address h, written-is-read (pos e) w, le-leb e 1 i)

-- `pick` is read back
pub pick-back : asked_of (spoken (pick_word ∷ [])) ≡ Pick
unfolding named_in same_text pick_in all_plain spoken
pick-back = plain-means pick_word [] (last (record { some = omega arith; all = refl })) (λ q. omega arith) (omega arith)
