-- Two texts put one behind the other are one text put; and what a buffer holds before and behind a text.
use Rattle.std.specs.Prelude.{◌≡◌, List, [], ◌++◌, ℕ, ◌+◌, ◌≤◌, length, take, drop}
use Rattle.std.proofs.Common.{sym, ap, ◌∙◌, append_assoc, append-nil, arith, add-zero, length-append, length-drop, take-append-drop, length-take-le, take_at, drop_at, drop-drop}
use Rattle.text.specs.Put.{Put}

module _ {buffer after : List ℕ} {at end : ℕ} {text : List ℕ} (p : Put buffer at text end after) (fits : at + length text ≤ length buffer) where
  front : length (take at buffer ++ text) ≡ end
  front = rw (length-append, length-take-le at buffer (omega arith), p.ends)

  -- the bytes up to the end: those before the place, and the text
  pub put_front : take end after ≡ take at buffer ++ text
  put_front = rw p.holds (take_at (take at buffer ++ text) (drop (at + length text) buffer) end front)

  -- the bytes behind the text
  pub put-behind : drop end after ≡ drop end buffer
  put-behind = rw p.holds (drop_at (take at buffer ++ text) (drop (at + length text) buffer) end front ∙ ap (λ (n : ℕ). drop n buffer) (sym p.ends))

  -- the buffer keeps its length
  pub put-length : length after ≡ length buffer
  put-length = rw (p.holds, length-append, length-append, length-take-le at buffer (omega arith), length-drop) (omega arith)

-- a text put behind a text
pub put_both : {b₀ b₁ b₂ : List ℕ} {at mid end : ℕ} {s t : List ℕ} → Put b₀ at s mid b₁ → Put b₁ mid t end b₂ → at + length s ≤ length b₀ → Put b₀ at (s ++ t) end b₂
put_both {b₀} {b₁} {b₂} {at} {mid} {end} {s} {t} p q h =
    record {
      ends = rw length-append (omega (arith, p.ends, q.ends));
      holds =
          q.holds
          ∙ rw (put_front p h) (
          let m : mid + length t ≡ at + length (s ++ t) = rw length-append (omega (arith, p.ends)) in
          let d : drop (mid + length t) b₁ ≡ drop (at + length (s ++ t)) b₀ =
          sym (drop-drop (length t) mid b₁) ∙ ap (drop (length t)) (put-behind p h) ∙ drop-drop (length t) mid b₀ ∙ ap (λ (n : ℕ). drop n b₀) m in
          rw (d, append_assoc (take at b₀) s t));
    }

-- a text put at the start
pub put-start : {buffer after : List ℕ} {end : ℕ} {text : List ℕ} → Put buffer 0 text end after → after ≡ text ++ drop end buffer
put-start {buffer} {after} {end} {text} p = p.holds ∙ ap (λ (n : ℕ). text ++ drop n buffer) (sym p.ends)

-- no text
pub put-none : (buffer : List ℕ) (at : ℕ) → Put buffer at [] at buffer
put-none buffer at = record { ends = omega arith; holds = rw (append-nil, add-zero at) (sym (take-append-drop at buffer)) }

-- room for m more bytes behind a text of at most k
pub put-room : {buffer after : List ℕ} {at end : ℕ} {text : List ℕ} → Put buffer at text end after → (k m : ℕ) → length text ≤ k → at + (k + m) ≤ length buffer → end + m ≤ length after
put-room p k m l h = omega (arith, p.ends, put-length p (omega arith))

-- a text that fits ends within the buffer
pub put-within : {buffer after : List ℕ} {at end : ℕ} {text : List ℕ} → Put buffer at text end after → (k : ℕ) → length text ≤ k → at + k ≤ length buffer → end ≤ length after
put-within p k l h = omega (arith, p.ends, put-length p (omega arith))
