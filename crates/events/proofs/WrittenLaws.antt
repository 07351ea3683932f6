-- Reading and writing a log undo each other. Each step is one event: its words, read, are the event, and a word that was read is the word of what it gave.
use Rattle.std.specs.Prelude.{◌≡◌, Bool, true, false, cond, not, ℕ, ◌/◌, ◌%◌, ◌^◌, ◌<◌, eqb, Ok, Err}
use Rattle.std.proofs.Math.Path.{refl, ap, ap₂}
use Rattle.std.proofs.Common.{sym, ◌∙◌, arith, eqb-true}
use mathlib.Core.List.{List, [], ◌∷◌, ◌++◌}
use Rattle.std.proofs.lemmas.Bool.{eqb-false, not-false}
use Rattle.events.specs.declared.Event.{Event}
use Rattle.events.specs.declared.Event.TheVariants.{Telegram, Levels, Tick}
use Rattle.events.specs.declared.Pending.{Pending}
use Rattle.events.specs.declared.AfterWord.{AfterWord}
use Rattle.events.specs.declared.Refusal.{Refusal}
use Rattle.events.specs.declared.Refusal.TheVariants.{Reserved, OutOfOrder, LeftOver}
use Rattle.events.specs.Words.{bits_of, kind_of, ms_of, levels_of, half_of, joined, reserved_of, reserved_set}
use Rattle.events.specs.Log.{fresh_pending, happened, kept, refused, refusal_number, end_number, out_of_order, accepted_of, taken_of, end_of, before, log_from, log_of}
use Rattle.events.proofs.LogLaws.{behind}
use Rattle.events.proofs.WordLaws.{tick-word, levels-word, upper-word, lower_word}
use Rattle.events.specs.Written.{word_with, words_of, written, Carried, AllCarried, AllWords}

-- ---- the parts of a word that was written
pub kind-with : (k x : ℕ) → k < 4 → x < 2 ^ 16 → kind_of (word_with k x) ≡ k
kind-with k x h l = omega arith

pub reserved-with : (k x : ℕ) → x < 2 ^ 16 → bits_of 29 16 (word_with k x) ≡ 0
reserved-with k x l = omega arith

pub reserved-levels : (k x : ℕ) → x < 2 ^ 3 → bits_of 29 3 (word_with k x) ≡ 0
reserved-levels k x l = omega arith

pub content-with : (k x : ℕ) → x < 2 ^ 16 → bits_of 15 0 (word_with k x) ≡ x
content-with k x l = omega arith

pub content-levels : (k x : ℕ) → x < 2 ^ 3 → bits_of 2 0 (word_with k x) ≡ x
content-levels k x l = omega arith

-- ---- read back: the words of one event, and then the rest
step-on : (p : Pending) (w : ℕ) (ws : List ℕ) (left : ℕ) (s : AfterWord) → taken_of p w ≡ s → log_from p (w ∷ ws) left ≡ before s.taken (log_from s.pending ws left)
unfolding log_from
step-on p w ws left s e = ap (λ (x : AfterWord). before x.taken (log_from x.pending ws left)) e

halves : (t : ℕ) → joined (t / 2 ^ 16) (t % 2 ^ 16) ≡ t
halves t = omega arith

pub read_one : (e : Event) (ws : List ℕ) (left : ℕ) → Carried e → log_from fresh_pending (words_of e ++ ws) left ≡ behind (e ∷ []) (log_from fresh_pending ws left)
read_one (Tick ms) ws left h =
    step-on fresh_pending (word_with 0 ms) ws left (happened (Tick ms))
    (tick-word fresh_pending (word_with 0 ms) refl (kind-with 0 ms (omega arith) h) (reserved-with 0 ms h) ∙ ap (λ (x : ℕ). happened (Tick x)) (content-with 0 ms h))
read_one (Levels l) ws left h =
    step-on fresh_pending (word_with 1 l) ws left (happened (Levels l))
    (levels-word fresh_pending (word_with 1 l) refl (kind-with 1 l (omega arith) (omega arith)) (reserved-levels 1 l h) ∙ ap (λ (x : ℕ). happened (Levels x)) (content-levels 1 l h))
read_one (Telegram t) ws left h =
    let u = t / 2 ^ 16 in
    let d = t % 2 ^ 16 in
    let us : u < 2 ^ 16 = omega arith in
    let ds : d < 2 ^ 16 = omega arith in
    step-on fresh_pending (word_with 2 u) (word_with 3 d ∷ ws) left (kept u)
    (upper-word fresh_pending (word_with 2 u) refl (kind-with 2 u (omega arith) us) (reserved-with 2 u us) ∙ ap kept (content-with 2 u us))
    ∙ step-on (kept u).pending (word_with 3 d) ws left (happened (Telegram t))
    (lower_word (kept u).pending (word_with 3 d) refl (kind-with 3 d (omega arith) ds) (reserved-with 3 d ds)
    ∙ ap (λ (x : ℕ). happened (Telegram (joined u x))) (content-with 3 d ds) ∙ ap (λ (x : ℕ). happened (Telegram x)) (halves t))

read-from : (es : List Event) → AllCarried es → log_from fresh_pending (written es) 0 ≡ record { events = es; refusal = 0 }
unfolding written log_from end_of
read-from [] h = refl
read-from (e ∷ es) h = read_one e (written es) 0 h.0 ∙ ap (behind (e ∷ [])) (read-from es h.1)

-- THE WORDS OF EVENTS, read, are these events, and the log ends with 0
pub read_back_lem : (es : List Event) → AllCarried es → log_of (written es) 0 ≡ record { events = es; refusal = 0 }
unfolding log_of
read_back_lem es h = read-from es h

-- ---- written back: what a word of 32 bits is, by what it gives
data Shape : Pending → ℕ → AfterWord → Type 0 where
  was-refused : {p : Pending} {w : ℕ} (n : Refusal) → 0 < refusal_number n → Shape p w (refused n)
  was-tick : {p : Pending} {w : ℕ} → p.waiting ≡ false → w ≡ word_with 0 (ms_of w) → Shape p w (happened (Tick (ms_of w)))
  was-levels : {p : Pending} {w : ℕ} → p.waiting ≡ false → w ≡ word_with 1 (levels_of w) → Shape p w (happened (Levels (levels_of w)))
  was_upper : {p : Pending} {w : ℕ} → p.waiting ≡ false → w ≡ word_with 2 (half_of w) → Shape p w (kept (half_of w))
  was_lower : {p : Pending} {w : ℕ} → p.waiting ≡ true → w ≡ word_with 3 (half_of w) → Shape p w (happened (Telegram (joined p.upper (half_of w))))

reserved-zero : (w : ℕ) → reserved_set w ≡ false → reserved_of w ≡ 0
unfolding reserved_set
reserved-zero w h = eqb-true _ _ (not-false (eqb (reserved_of w) 0) h)

not-waiting : (b : Bool) (k : ℕ) → cond b (not (eqb k 3)) (eqb k 3) ≡ false → eqb k 3 ≡ false → b ≡ false
not-waiting true k h e = let z : true ≡ false = rw e at h in z
not-waiting false k h e = refl

was-waiting : (b : Bool) (k : ℕ) → cond b (not (eqb k 3)) (eqb k 3) ≡ false → eqb k 3 ≡ true → b ≡ true
was-waiting true k h e = refl
was-waiting false k h e = sym h ∙ e

module _ (p : Pending) (w : ℕ) (small : w < 2 ^ 32) where
  word-of-kind : (k : ℕ) → kind_of w ≡ k → bits_of 29 16 w ≡ 0 → w ≡ word_with k (bits_of 15 0 w)
  word-of-kind k e r = omega arith

  word-of-levels : kind_of w ≡ 1 → bits_of 29 3 w ≡ 0 → w ≡ word_with 1 (bits_of 2 0 w)
  word-of-levels e r = omega arith

  reserved-at : (k : ℕ) → kind_of w ≡ k → reserved_set w ≡ false → cond (eqb k 1) (bits_of 29 3 w) (bits_of 29 16 w) ≡ 0
  reserved-at k e r = ap (λ (x : ℕ). cond (eqb x 1) (bits_of 29 3 w) (bits_of 29 16 w)) (sym e) ∙ reserved-zero w r

  order-at : (k : ℕ) → kind_of w ≡ k → out_of_order p.waiting w ≡ false → cond p.waiting (not (eqb k 3)) (eqb k 3) ≡ false
  order-at k e o = ap (λ (x : ℕ). cond p.waiting (not (eqb x 3)) (eqb x 3)) (sym e) ∙ o

  shape-by : (r o k0 k1 k2 : Bool) → reserved_set w ≡ r → out_of_order p.waiting w ≡ o → eqb (kind_of w) 0 ≡ k0 → eqb (kind_of w) 1 ≡ k1 → eqb (kind_of w) 2 ≡ k2
      → Shape p w
      (cond r (refused Reserved)
      (cond o (refused OutOfOrder)
      (cond k0 (happened (Tick (ms_of w)))
      (cond k1 (happened (Levels (levels_of w))) (cond k2 (kept (half_of w)) (happened (Telegram (joined p.upper (half_of w)))))))))
  shape-by true o k0 k1 k2 r q a b c = was-refused Reserved (omega arith)
  shape-by false true k0 k1 k2 r q a b c = was-refused OutOfOrder (omega arith)
  shape-by false false true k1 k2 r q a b c =
      let k : kind_of w ≡ 0 = eqb-true _ _ a in
      was-tick (not-waiting p.waiting 0 (order-at 0 k q) refl) (word-of-kind 0 k (reserved-at 0 k r))
  shape-by false false false true k2 r q a b c =
      let k : kind_of w ≡ 1 = eqb-true _ _ b in
      was-levels (not-waiting p.waiting 1 (order-at 1 k q) refl) (word-of-levels k (reserved-at 1 k r))
  shape-by false false false false true r q a b c =
      let k : kind_of w ≡ 2 = eqb-true _ _ c in
      was_upper (not-waiting p.waiting 2 (order-at 2 k q) refl) (word-of-kind 2 k (reserved-at 2 k r))
  shape-by false false false false false r q a b c =
      let k : kind_of w ≡ 3 = omega (arith, eqb-false (kind_of w) 0 a, eqb-false (kind_of w) 1 b, eqb-false (kind_of w) 2 c) in
      was_lower (was-waiting p.waiting 3 (order-at 3 k q) refl) (word-of-kind 3 k (reserved-at 3 k r))

  shape : Shape p w (taken_of p w)
  unfolding taken_of accepted_of
  shape = shape-by _ _ _ _ _ refl refl refl refl refl

-- the upper half that waits, as a word
abbrev pub word_waiting : Pending → List ℕ
word_waiting p = cond p.waiting (word_with 2 p.upper ∷ []) []

upper-back : (u w : ℕ) → joined u (half_of w) / 2 ^ 16 ≡ u
upper-back u w = omega arith

lower-back : (u w : ℕ) → joined u (half_of w) % 2 ^ 16 ≡ half_of w
lower-back u w = omega arith

module _ (ws : List ℕ) (left : ℕ) (rest : (q : Pending) → (log_from q ws left).refusal ≡ 0 → written (log_from q ws left).events ≡ word_waiting q ++ ws) where
  step_back : (p : Pending) (w : ℕ) (s : AfterWord) → Shape p w s → (before s.taken (log_from s.pending ws left)).refusal ≡ 0
      → written (before s.taken (log_from s.pending ws left)).events ≡ word_waiting p ++ (w ∷ ws)
  unfolding written
  step_back p w s (was-refused n h) z = absurd (omega arith)
  step_back p w s (was-tick h e) z = rw h (ap₂ ◌∷◌ (sym e) (rest fresh_pending z))
  step_back p w s (was-levels h e) z = rw h (ap₂ ◌∷◌ (sym e) (rest fresh_pending z))
  step_back p w s (was_upper h e) z = rw h (rest (kept (half_of w)).pending z ∙ ap (λ (x : ℕ). x ∷ ws) (sym e))
  step_back p w s (was_lower h e) z =
      rw h
      (ap₂ (λ (x y : ℕ). word_with 2 x ∷ (word_with 3 y ∷ written (log_from fresh_pending ws left).events)) (upper-back p.upper w) (lower-back p.upper w)
      ∙ ap₂ (λ (x : ℕ) (l : List ℕ). word_with 2 p.upper ∷ (x ∷ l)) (sym e) (rest fresh_pending z))

end_back : (p : Pending) (left : ℕ) → end_number (end_of p left) ≡ 0 → [] ≡ word_waiting p ++ []
unfolding end_of
end_back p left h = by p.waiting (eqb left 0) h
  where
    by : (b e : Bool) → end_number (cond e (cond b (Err OutOfOrder) (Ok tt)) (Err LeftOver)) ≡ 0 → [] ≡ cond b (word_with 2 p.upper ∷ []) [] ++ []
    by false e h = refl
    by true true h = absurd (omega arith)
    by true false h = absurd (omega arith)

pub written_from : (p : Pending) (ws : List ℕ) (left : ℕ) → AllWords ws → (log_from p ws left).refusal ≡ 0 → written (log_from p ws left).events ≡ word_waiting p ++ ws
unfolding written log_from
written_from p [] left h z = end_back p left z
written_from p (w ∷ ws) left h z = step_back ws left (λ q. written_from q ws left h.1) p w (taken_of p w) (shape p w h.0) z

-- A LOG THAT ENDS WITH 0 is the words of its events, and of nothing else
pub written_back : (ws : List ℕ) (left : ℕ) → AllWords ws → (log_of ws left).refusal ≡ 0 → written (log_of ws left).events ≡ ws
unfolding log_of
written_back ws left h z = written_from fresh_pending ws left h z
