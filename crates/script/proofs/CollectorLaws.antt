-- Pieces do not matter; a line is asked once, as what it means, where a newline or the end of the stream ends it; and a line
-- that is cut means what it meant.
use Rattle.std.specs.Prelude.{◌≡◌, refl, Bool, true, false, cond, not, List, [], ◌∷◌, ◌++◌, ℕ, ◌+◌, ◌-◌, ◌≤◌, ◌<◌, eqb, ltb, length, get_or, take}
use Rattle.std.proofs.Common.{sym, ap, ◌∙◌, append_assoc, append-nil, add-one, arith, length-append, length-set, length-take, take-suc-set, take_all, length-take-le, lt-ltb, le-ltb, le-leb, ltb-true, ltb-false, ne_eqb}
use Rattle.std.proofs.lemmas.List.{length-replicate, take-append-le}
use Rattle.std.proofs.lemmas.Bool.{eqb-false, not-true}
use Rattle.decimal.specs.DigitLaws.{both_true}
use Rattle.text.specs.Marks.{newline, carriage_return}
use Rattle.text.specs.Words.{trimmed_of, words_of}
use Rattle.script.specs.declared.Reason.TheVariants.{TooLong}
use Rattle.script.specs.Commands.{limit_of, command_of}
use Rattle.script.proofs.LimitLaws.{limit-most}
use Rattle.script.specs.declared.Command.{Command}
use Rattle.script.specs.declared.Command.TheVariants.{Wrong}
use Rattle.script.specs.declared.collector.Collector.{Collector}
use Rattle.script.specs.declared.collector.Extent.{Extent}
use Rattle.script.specs.Collector.{most, fresh_collector, collected, renewed, begun_of, closed, added, pushed_on, pushed, held_of, line_of, asked_of, pending_of, fed, asked_at, asked_by, asked_last, asked_in_all, no_newline, all_lines, stream_of, commands_of, last_of}

-- ---- in a buffer
pub begun-renews : (bytes : List ℕ) (x : Extent) → collected bytes (begun_of x) ≡ renewed (collected bytes x)
unfolding begun_of
begun-renews bytes x = by x.ended refl
  where
    by : (t : Bool) → x.ended ≡ t → collected bytes (begun_of x) ≡ renewed (collected bytes x)
    by true e = rw e
    by false e = rw e

-- ---- pieces
-- FEEDING a AND THEN b IS FEEDING a ++ b
pub fed-pieces : (c : Collector) (a b : List ℕ) → fed c (a ++ b) ≡ fed (fed c a) b
unfolding fed
fed-pieces c [] b = refl
fed-pieces c (x ∷ a) b = fed-pieces (pushed c x) a b

cond-append : (t : Bool) (d : Command) (k l : List Command) → cond t (d ∷ (k ++ l)) (k ++ l) ≡ cond t (d ∷ k) k ++ l
cond-append true d k l = refl
cond-append false d k l = refl

pub asked-pieces : (c : Collector) (a b : List ℕ) → asked_by c (a ++ b) ≡ asked_by c a ++ asked_by (fed c a) b
unfolding fed asked_by
asked-pieces c [] b = refl
asked-pieces c (x ∷ a) b =
    let p = pushed c x in
    ap (asked_at p) (asked-pieces p a b) ∙ cond-append p.ended (asked_of p) (asked_by p a) (asked_by (fed p a) b)

-- ---- a line that is cut
-- at most one byte is taken off
pub trimmed-length : (s : List ℕ) → length s ≤ length (trimmed_of s) + 1
unfolding trimmed_of
trimmed-length s = by (eqb (get_or s (length s - 1) 0) carriage_return)
  where
    by : (t : Bool) → length s ≤ length (cond t (take (length s - 1) s) s) + 1
    by true = omega (arith, length-take-le (length s - 1) s (omega arith))
    by false = omega arith

long-wrong : (s : List ℕ) → most ≤ length s → command_of s ≡ Wrong TooLong
unfolding command_of
long-wrong s h =
    let t = trimmed_of s in
    rw (lt-ltb (limit_of (words_of t)) (length t) (omega (arith, trimmed-length s, limit-most (words_of t))))

-- what is the same of every line of `most` bytes and more is the same of a line that is cut behind them
pub cut_by : {C : Type 0} (f : List ℕ → C) (long : C) → ((s : List ℕ) → most ≤ length s → f s ≡ long) → (p : List ℕ) → f (take most p) ≡ f p
cut_by f long alike p = by (ltb most (length p)) refl
  where
    by : (t : Bool) → ltb most (length p) ≡ t → f (take most p) ≡ f p
    by true e =
        let h = ltb-true most (length p) e in
        alike (take most p) (omega (arith, length-take-le most p (omega arith))) ∙ sym (alike p (omega arith))
    by false e = ap f (take_all most p (ltb-false most (length p) e))

-- A LINE MEANS THE SAME WHEN IT IS CUT BEHIND THE MOST BYTES THAT ARE HELD
pub cut-alike : (p : List ℕ) → command_of (take most p) ≡ command_of p
cut-alike = cut_by command_of (Wrong TooLong) long-wrong

-- a line that is not too long is not cut, so that its frame's bytes or its burst's telegrams are all there
pub cut-whole : (p : List ℕ) → (command_of p ≡ Wrong TooLong → ⊥) → take most p ≡ p
cut-whole p n = by (ltb most (length p)) refl
  where
    by : (t : Bool) → ltb most (length p) ≡ t → take most p ≡ p
    by true e = let h = ltb-true most (length p) e in absurd (n (long-wrong p (omega arith)))
    by false e = take_all most p (ltb-false most (length p) e)

-- ---- one line
-- the bytes p of a line have come, and no newline yet
record Reached (c : Collector) (p : List ℕ) : Type 0 where
  begun : c.ended ≡ false
  size : length c.bytes ≡ most
  count : c.length ≡ length (take most p)
  holds : take (length (take most p)) c.bytes ≡ take most p

-- a fresh collector, and one whose line has ended, have none of the next
fresh-reached : Reached fresh_collector []
fresh-reached = record { begun = refl; size = length-replicate {A = ℕ} most 0; count = refl; holds = refl }

ended-reached : (c : Collector) → c.ended ≡ true → length c.bytes ≡ most → Reached (renewed c) []
ended-reached c e s = rw e (record { begun = refl; size = s; count = refl; holds = refl })

begun-renewed : (c : Collector) → c.ended ≡ false → renewed c ≡ c
begun-renewed c e = rw e

reached-renewed : (c : Collector) (p : List ℕ) → Reached c p → renewed c ≡ c
reached-renewed c p r = begun-renewed c r.begun

-- one byte more that is no newline
reached-more : (c : Collector) (p : List ℕ) (b : ℕ) → Reached c p → (b ≡ newline → ⊥) → Reached (pushed c b) (p ++ (b ∷ []))
unfolding pushed_on
reached-more c p b r n = rw (reached-renewed c p r, ne_eqb b newline n) (by (ltb (length p) most) refl)
  where
    room : length p < most → Reached (added c c.length b) (p ++ (b ∷ []))
    room h =
        let l : length (p ++ (b ∷ [])) ≡ length p + 1 = length-append p (b ∷ []) in
        let a = take_all most (p ++ (b ∷ [])) (omega arith) in
        let o = take_all most p (omega arith) in
        let k : c.length ≡ length p = r.count ∙ ap length o in
        let g : take (length p) c.bytes ≡ p = rw o at r.holds in
        record {
          begun = r.begun;
          size = length-set c.bytes c.length b ∙ r.size;
          count = rw (a, l) (omega arith);
          holds = rw (a, l, add-one (length p), k, take-suc-set c.bytes (length p) b (omega (arith, r.size)), g);
        }

    full : most ≤ length p → Reached c (p ++ (b ∷ []))
    full h =
        let a = take-append-le most p (b ∷ []) h in
        record { begun = r.begun; size = r.size; count = rw a r.count; holds = rw a r.holds }

    by : (t : Bool) → ltb (length p) most ≡ t → Reached (cond (ltb c.length most) (added c c.length b) c) (p ++ (b ∷ []))
    by true e =
        let h = ltb-true (length p) most e in
        let o = take_all most p (omega arith) in
        rw (lt-ltb c.length most (omega (arith, r.count, ap length o))) (room h)
    by false e =
        let h = ltb-false (length p) most e in
        rw (le-ltb c.length most (omega (arith, r.count, length-take-le most p h))) (full h)

-- the line is asked as what it means
reached-line : (c : Collector) (p : List ℕ) → Reached c p → line_of c ≡ take most p
unfolding held_of
reached-line c p r = rw (le-leb c.length most (omega (arith, r.count, length-take most p)), r.count) r.holds

reached-asked : (c : Collector) (p : List ℕ) → Reached c p → asked_of c ≡ command_of p
unfolding asked_of
reached-asked c p r = ap command_of (reached-line c p r) ∙ cut-alike p

-- ... by a newline
newline-asked : (c : Collector) (p : List ℕ) → Reached c p → asked_of (pushed c newline) ≡ command_of p
unfolding pushed_on asked_of held_of
newline-asked c p r = rw (reached-renewed c p r) (reached-asked c p r)

newline-ended : (c : Collector) (p : List ℕ) → Reached c p → (pushed c newline).ended ≡ true
unfolding pushed_on
newline-ended c p r = refl

-- ... and by the end of the stream, if it has bytes
reached-last : (c : Collector) (p : List ℕ) → Reached c p → asked_last c ≡ last_of p
unfolding asked_last pending_of last_of
reached-last c [] r = rw (r.begun, r.count)
reached-last c (b ∷ p) r =
    let h : 0 < length (take most (b ∷ p)) = omega (arith, length-take most (b ∷ p)) in
    let t : pending_of c ≡ true = rw r.begun (lt-ltb 0 c.length (omega (arith, r.count))) in
    ap (λ (u : Bool). cond u (asked_of c ∷ []) []) t ∙ ap (λ (d : Command). d ∷ []) (reached-asked c (b ∷ p) r)

-- a line that has ended is not asked again
ended-last : (c : Collector) → c.ended ≡ true → asked_last c ≡ []
unfolding asked_last pending_of
ended-last c e =
    let t : pending_of c ≡ false = rw e in
    ap (λ (u : Bool). cond u (asked_of c ∷ []) []) t

-- ---- lines, and what stands behind the last
-- a line and its newline are asked once, and then comes what the rest of the stream asks
line-asked-on : (c : Collector) (p line rest : List ℕ) → Reached c p → no_newline line ≡ true
    → asked_by c (line ++ (newline ∷ rest)) ≡ command_of (p ++ line) ∷ asked_by (fed c (line ++ (newline ∷ []))) rest
unfolding asked_by fed no_newline asked_of pushed_on command_of
line-asked-on c p [] rest r n = rw (append-nil p, newline-ended c p r, newline-asked c p r)
line-asked-on c p (b ∷ line) rest r n =
    let q = both_true (not (eqb b newline)) (no_newline line) n in
    let m = reached-more c p b r (eqb-false b newline (not-true (eqb b newline) q.0)) in
    let ih = line-asked-on (pushed c b) (p ++ (b ∷ [])) line rest m q.1 in
    rw m.begun (ih ∙ rw append_assoc)

-- behind a line the collector is ready for the next
line-behind : (c : Collector) (p line : List ℕ) → Reached c p → no_newline line ≡ true → Reached (renewed (fed c (line ++ (newline ∷ [])))) []
unfolding fed no_newline pushed_on
line-behind c p [] r n = ended-reached (closed (renewed c)) refl (ap (λ (d : Collector). length d.bytes) (reached-renewed c p r) ∙ r.size)
line-behind c p (b ∷ line) r n =
    let q = both_true (not (eqb b newline)) (no_newline line) n in
    line-behind (pushed c b) (p ++ (b ∷ [])) line (reached-more c p b r (eqb-false b newline (not-true (eqb b newline) q.0))) q.1

-- bytes with no newline ask nothing, and are held
silent : (c : Collector) (p line : List ℕ) → Reached c p → no_newline line ≡ true → asked_by c line ≡ []
unfolding asked_by no_newline pushed_on
silent c p [] r n = refl
silent c p (b ∷ line) r n =
    let q = both_true (not (eqb b newline)) (no_newline line) n in
    let m = reached-more c p b r (eqb-false b newline (not-true (eqb b newline) q.0)) in
    rw m.begun (silent (pushed c b) (p ++ (b ∷ [])) line m q.1)

reached-fed : (c : Collector) (p line : List ℕ) → Reached c p → no_newline line ≡ true → Reached (fed c line) (p ++ line)
unfolding fed no_newline
reached-fed c p [] r n = rw (append-nil p) r
reached-fed c p (b ∷ line) r n =
    let q = both_true (not (eqb b newline)) (no_newline line) n in
    let m = reached-more c p b r (eqb-false b newline (not-true (eqb b newline) q.0)) in
    rw (← append_assoc p (b ∷ []) line) (reached-fed (pushed c b) (p ++ (b ∷ [])) line m q.1)

-- a collector that is ready, whether its line has ended or none has begun
renewed-twice : (c : Collector) → renewed (renewed c) ≡ renewed c
renewed-twice c = by c.ended refl
  where
    by : (t : Bool) → c.ended ≡ t → renewed (renewed c) ≡ renewed c
    by true e = rw e
    by false e = rw e

asked-renewed : (c : Collector) (l : List ℕ) → asked_by (renewed c) l ≡ asked_by c l
unfolding asked_by
asked-renewed c [] = refl
asked-renewed c (b ∷ l) = ap (λ (d : Collector). asked_at (pushed_on d b) (asked_by (pushed_on d b) l)) (renewed-twice c)

fed-renewed : (c : Collector) (b : ℕ) (l : List ℕ) → fed (renewed c) (b ∷ l) ≡ fed c (b ∷ l)
unfolding fed
fed-renewed c b l = ap (λ (d : Collector). fed (pushed_on d b) l) (renewed-twice c)

-- ---- a whole stream
lines-asked-on : (c : Collector) (ls : List (List ℕ)) → Reached (renewed c) [] → all_lines ls ≡ true → asked_by c (stream_of ls) ≡ commands_of ls
unfolding stream_of all_lines commands_of asked_by
lines-asked-on c [] r a = refl
lines-asked-on c (l ∷ ls) r a =
    let q = both_true (no_newline l) (all_lines ls) a in
    let d = renewed c in
    sym (asked-renewed c (l ++ (newline ∷ stream_of ls)))
    ∙ line-asked-on d [] l (stream_of ls) r q.0
    ∙ ap (λ (x : List Command). command_of l ∷ x) (lines-asked-on (fed d (l ++ (newline ∷ []))) ls (line-behind d [] l r q.0) q.1)

ready : (c : Collector) (ls : List (List ℕ)) → Reached (renewed c) [] → all_lines ls ≡ true → Reached (renewed (fed c (stream_of ls))) []
unfolding stream_of all_lines fed
ready c [] r a = r
ready c (l ∷ ls) r a =
    let q = both_true (no_newline l) (all_lines ls) a in
    let f : fed c (l ++ (newline ∷ stream_of ls)) ≡ fed (fed (renewed c) (l ++ (newline ∷ []))) (stream_of ls) = feed l in
    rw f (ready (fed (renewed c) (l ++ (newline ∷ []))) ls (line-behind (renewed c) [] l r q.0) q.1)
  where
    feed : (l : List ℕ) → fed c (l ++ (newline ∷ stream_of ls)) ≡ fed (fed (renewed c) (l ++ (newline ∷ []))) (stream_of ls)
    feed [] = sym (fed-renewed c newline (stream_of ls))
    feed (b ∷ l) = sym (fed-renewed c b (l ++ (newline ∷ stream_of ls))) ∙ ap (fed (renewed c)) (sym (append_assoc (b ∷ l) (newline ∷ []) (stream_of ls))) ∙ fed-pieces (renewed c) ((b ∷ l) ++ (newline ∷ [])) (stream_of ls)

-- what stands behind the last newline
end-asked : (c : Collector) (end : List ℕ) → Reached (renewed c) [] → no_newline end ≡ true → asked_in_all c end ≡ last_of end
unfolding fed asked_by last_of
end-asked c [] r n = by c.ended refl
  where
    by : (t : Bool) → c.ended ≡ t → asked_last c ≡ last_of []
    by true e = ended-last c e
    by false e = reached-last c [] (rw (begun-renewed c e) at r)
end-asked c (b ∷ l) r n =
    rw (← asked-renewed c (b ∷ l), silent (renewed c) [] (b ∷ l) r n, ← fed-renewed c b l) (reached-last (fed (renewed c) (b ∷ l)) (b ∷ l) (reached-fed (renewed c) [] (b ∷ l) r n))

-- A STREAM ASKS FOR WHAT ITS LINES MEAN, each once and in order, and bytes behind its last newline as one line more
pub stream-asked : (ls : List (List ℕ)) (end : List ℕ) → all_lines ls ≡ true → no_newline end ≡ true → asked_in_all fresh_collector (stream_of ls ++ end) ≡ commands_of ls ++ last_of end
stream-asked ls end a n =
    let f = fresh_collector in
    let s = stream_of ls in
    rw (asked-pieces f s end, fed-pieces f s end, append_assoc, lines-asked-on f ls fresh-reached a)
    (ap (λ (l : List Command). commands_of ls ++ l) (end-asked (fed f s) end (ready f ls fresh-reached a) n))
