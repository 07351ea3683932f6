-- The count of a run is that of the positions of its counted telegrams alone, and that is the first position and all moves together, modulo R. Paper 02, K4.
use Rattle.std.specs.Prelude.{◌≡◌, true, cond, leb, ℤ, ◌+ℤ◌}
use Rattle.std.proofs.Math.Path.{refl, ap}
use Rattle.std.proofs.Common.{sym, ◌∙◌, pow-suc, add-one, arith, pow_pos}
use mathlib.Core.List.{List, [], ◌∷◌}
use Prim.Native.Nat.{ℕ, ◌+◌, ◌-◌, ◌^◌, ◌<◌}
use Rattle.std.proofs.Math.IntN.{pos}
use Rattle.events.specs.declared.Event.{Event}
use Rattle.events.specs.declared.Event.TheVariants.{Telegram, Levels, Tick}
use Rattle.integers.specs.ChoiceLaws.{by-test, is_true, is_false}
use Rattle.integers.specs.Int.{P}
use Rattle.integers.specs.RingLaws.{var, lit, ◌⊕◌, ring}
use Rattle.integers.specs.Round.{floor_mod}
use Rattle.parameters.specs.Slots.{round_loop}
use Rattle.parameters.proofs.ValidLaws.{loads}
use Rattle.reading.specs.declared.Basis.{Basis}
use Rattle.reading.specs.Follow.{no_basis, count_after, followed_of, held_of}
use Rattle.reading.specs.FollowLaws.{by-follow}
use Rattle.reading.specs.Reading.{accepts_of, directed_at}
use Rattle.roundloop.specs.Count.{counted_of}
use Rattle.roundloop.proofs.CountLaws.{Even, step-moved, first-is, counted_is}
use Rattle.runs.specs.Book.{Book, fresh_book, takes, turns_to, reset_book, resets, book_input, book_step, book_from, book_of}
use Rattle.runs.proofs.BookLaws.{book-run, book-fresh}
use Rattle.runs.specs.KeptLaws.{kept_fresh}
use Rattle.runs.specs.Run.{run_of}
use Rattle.settings.specs.Settings.{layout_of}
use Rattle.ssi.specs.declared.Layout.{Layout}
use Rattle.ssi.specs.Telegram.{modulus}
use Rattle.state.specs.State.{fresh_of}
use Rattle.state.proofs.ValidLaws.{good-fresh}
use Rattle.turntable.specs.Turntable.{range, counts, counted_in, way_from, AllShort, together, AllTravelled}

-- ---- M is even

pub modulus-even : (l : Layout) → Even (modulus l)
modulus-even l = go (l.high - l.low)
  where
    go : (n : ℕ) → Even (2 ^ (n + 1))
    go n = let e = ap (λ (k : ℕ). 2 ^ k) (add-one n) in record { halves = omega (arith, e, pow-suc 2 n); some = pow_pos (n + 1) }

-- ---- positions one after the other

-- from a basis on
unfoldable follow_all : ℕ → ℕ → Basis → List ℕ → Basis
follow_all R M b [] = b
follow_all R M b (p ∷ ps) = follow_all R M (followed_of R M b p) ps

-- a held telegram leaves the count of what follows
held_out : (R M : ℕ) (b : Basis) (ps : List ℕ) → (follow_all R M (held_of b) ps).start ≡ (follow_all R M b ps).start
unfolding follow_all held_of followed_of count_after
held_out R M b [] = refl
held_out R M b (p ∷ ps) = refl

module _ (M R : ℕ) (m : Even M) (h : 0 < R) where
  -- from a count that is T modulo R, all moves together
  moves_from : (b : Basis) (T : ℤ) (xs : List ℤ) → b.counted ≡ true → pos b.start ≡ floor_mod T (pos R) → AllShort M xs →
      pos (follow_all R M b (way_from M b.last xs)).start ≡ floor_mod (T +ℤ together xs) (pos R)
  unfolding follow_all way_from AllShort together followed_of count_after
  moves_from b T [] c e s = e ∙ ap (λ (z : ℤ). floor_mod z (pos R)) (ring (var T) (var T ⊕ lit 0) (omega arith))
  moves_from b T (x ∷ xs) c e s =
      moves_from (followed_of R M b p) (T +ℤ x) xs refl (rw c (ap (λ (z : ℤ). pos (counted_of R b.start z)) (step-moved m b.last x s.0) ∙ counted_is R h b.start x T e)) s.1
      ∙ ap (λ (z : ℤ). floor_mod z (pos R)) (ring (var T ⊕ var x ⊕ var (together xs)) (var T ⊕ (var x ⊕ var (together xs))) (omega arith))
    where
      p : ℕ
      p = P (floor_mod (pos b.last +ℤ x) (pos M))

  -- from the first position on
  moves-first : (p : ℕ) (xs : List ℤ) → AllShort M xs → pos (follow_all R M no_basis (p ∷ way_from M p xs)).start ≡ floor_mod (pos p +ℤ together xs) (pos R)
  unfolding follow_all followed_of count_after
  moves-first p xs s = moves_from (followed_of R M no_basis p) (pos p) xs refl (first-is R h p) s

-- ---- the book of a run follows them

module _ (t : List ℤ) (h : 0 < round_loop t) where
  abbrev U : Book → List ℕ → ℕ
  U b ps = (follow_all (round_loop t) (range t) b.basis ps).start

  input-leaves : (l i : ℕ) (b : Book) → (book_input t l i b).basis ≡ b.basis
  unfolding book_input
  input-leaves l i b = by-test (resets t b l i) (reset_book b) b (λ (x : Book). x.basis ≡ b.basis) (λ _. refl) (λ _. refl)

  levels-leave : (b : Book) (l : ℕ) → (book_step t b (Levels l)).basis ≡ b.basis
  unfolding book_step
  levels-leave b l =
      let b₁ = book_input t l 0 b in
      let b₂ = book_input t l 1 b₁ in
      by-test (leb l 7) (turns_to (book_input t l 2 b₂) l) b (λ (x : Book). x.basis ≡ b.basis) (λ _. input-leaves l 2 b₂ ∙ input-leaves l 1 b₁ ∙ input-leaves l 0 b) (λ _. refl)

  -- one telegram more, of what follows it
  telegram-counts : (b : Book) (w : ℕ) (ps : List ℕ) → U (book_step t b (Telegram w)) ps ≡ U b (cond (counts t w) (directed_at t w ∷ ps) ps)
  unfolding book_step follow_all
  telegram-counts b w ps =
      by-test (accepts_of t w) (takes t b w) b (λ (x : Book). U x ps ≡ U b (cond (counts t w) (directed_at t w ∷ ps) ps))
      (λ a. by-follow t h b.basis w (λ (x : Basis). (follow_all (round_loop t) (range t) x ps).start ≡ U b (cond (counts t w) (directed_at t w ∷ ps) ps))
      (λ y. rw (is_true (accepts_of t w) a, y) (held_out (round_loop t) (range t) b.basis ps)) (λ n. rw (is_true (accepts_of t w) a, n)))
      (λ a. rw (is_false (accepts_of t w) a))

  book-follows : (b : Book) (es : List Event) → (book_from t b es).basis.start ≡ U b (counted_in t es)
  unfolding book_from book_step counted_in follow_all
  book-follows b [] = refl
  book-follows b (Telegram w ∷ es) = book-follows (book_step t b (Telegram w)) es ∙ telegram-counts b w (counted_in t es)
  book-follows b (Levels l ∷ es) =
      book-follows (book_step t b (Levels l)) es ∙ ap (λ (x : Basis). (follow_all (round_loop t) (range t) x (counted_in t es)).start) (levels-leave b l)
  book-follows b (Tick ms ∷ es) = book-follows b es

-- U IS HOW FAR THE TABLE HAS TURNED
pub travelled : AllTravelled
travelled t e h es =
    record {
      count = λ p xs s way.
          ap (λ (x : Basis). pos x.start) matched ∙ ap pos (book-follows t h (fresh_book t) es)
          ∙ ap (λ (ps : List ℕ). pos (follow_all (round_loop t) (range t) no_basis ps).start) way
          ∙ moves-first (range t) (round_loop t) (modulus-even (layout_of t)) h p xs s;
      book = sym matched;
    }
  where
    matched : (run_of (fresh_of t) es).live.basis ≡ (book_of t es).basis
    matched = (book-run (good-fresh (loads t e)) (kept_fresh t) (book-fresh t) es).basis
