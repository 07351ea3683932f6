-- The parts of the two read-back laws: what the builder puts into a telegram is what reading takes out of it, and the other way.
use Rattle.std.specs.Prelude.{None, ◌≡◌, refl, Bool, true, false, ◌&&◌, ◌⊎◌, ℕ, zero, suc, ◌+◌, ◌-◌, ◌*◌, ◌/◌, ◌%◌, ◌^◌, ◌≤◌, ◌<◌, ltb, eqb}
use Rattle.std.proofs.Common.{sym, ap, ap₂, ◌∙◌, subst, inl, inr, lt_of_lt_of_le, lt_of_le_of_lt, arith, ltb-true, ltb-false, lt-ltb, eqb-true, eq-eqb, ne_eqb, pow_mono, shl_lt}
use Rattle.std.proofs.lemmas.Bool.{lt-leb, eqb-false}
use Rattle.ssi.specs.declared.Layout.{Layout}
use Rattle.ssi.specs.Sound.{Sound, error_bit, error_level}
use Rattle.ssi.specs.Telegram.{accepted, error_reported, position_of, content_of, modulus, level_of, worth, without_bit, decoded}
use Rattle.ssi.specs.Builder.{coded, level_asked, telegram_of, built_of, BlankZero}
use Rattle.ssi.proofs.PartLaws.{coded-lt, level-outside, level-lt, level-mark, level-without, level-beside, without-mark, without-sum, without-le, mark-lt, field-read, field-built, low-zero, high_zero}
use Rattle.ssi.proofs.SoundLaws.{field_fits, outside-field}

-- the level asked for is 0 or 1
pub asked-lt : (l : Layout) (asked : Bool) → Sound l → level_asked l asked < 2
asked-lt l true s = omega (arith, s.level)
asked-lt l false s = omega (arith, s.level)

-- the field of a built telegram, before the error bit, has the error bit at 0, and so every other bit outside B to H
pub field_apart : (l : Layout) → Sound l → (p n : ℕ) → p < modulus l → (n < l.low) ⊎ (l.high < n) → level_of n (coded l.format p * 2 ^ (l.low - 1)) ≡ 0
field_apart l s p n h o = level-outside (coded l.format p) (l.low - 1) (l.high - l.low + 1) n (coded-lt l.format (l.high - l.low + 1) p h) (outside-field l s n o)

-- ---- what is built is read
pub built-accepted : (l : Layout) → Sound l → (p : ℕ) (asked : Bool) → p < modulus l → accepted l (telegram_of l p asked) ≡ true
unfolding accepted telegram_of
built-accepted l s p asked h =
    lt-ltb _ _
    (mark-lt (error_bit l) l.resolution (coded l.format p * 2 ^ (l.low - 1)) (level_asked l asked) s.bit-resolution (asked-lt l asked s) (field_apart l s p (error_bit l) h s.outside)
    (lt_of_lt_of_le (shl_lt (l.high - l.low + 1) (l.low - 1) (coded-lt l.format (l.high - l.low + 1) p h)) (pow_mono (field_fits l s))))

pub built-position : (l : Layout) → Sound l → (p : ℕ) (asked : Bool) → p < modulus l → position_of l (telegram_of l p asked) ≡ p
unfolding position_of telegram_of
built-position l s p asked h =
    ap (λ (x : ℕ). decoded l.format l.resolution x / 2 ^ (l.low - 1) % modulus l)
    (without-mark (error_bit l) (coded l.format p * 2 ^ (l.low - 1)) (level_asked l asked) (asked-lt l asked s) (field_apart l s p (error_bit l) h s.outside))
    ∙ field-read l.format l.resolution (l.low - 1) (l.high - l.low + 1) p (field_fits l s) h

asked-level : (l : Layout) (asked : Bool) → Sound l → eqb (level_asked l asked) (error_level l) ≡ asked
asked-level l true s = eq-eqb (error_level l) (error_level l) refl
asked-level l false s = ne_eqb (1 - error_level l) (error_level l) (λ e. omega (arith, e, s.level))

pub built-error : (l : Layout) → Sound l → (p : ℕ) (asked : Bool) → p < modulus l → (asked ≡ true → 0 < error_bit l) → error_reported l (telegram_of l p asked) ≡ asked
unfolding error_reported telegram_of
built-error l s p asked h m = tested (ltb 0 (error_bit l)) refl asked m
  where
    tested : (t : Bool) → ltb 0 (error_bit l) ≡ t → (asked : Bool) → (asked ≡ true → 0 < error_bit l) → error_reported l (telegram_of l p asked) ≡ asked
    tested true e asked m =
        ap (λ (x : Bool). x && eqb (level_of (error_bit l) (telegram_of l p asked)) (error_level l)) e
        ∙ ap (λ (x : ℕ). eqb x (error_level l)) (level-mark (error_bit l) (coded l.format p * 2 ^ (l.low - 1)) (level_asked l asked) (ltb-true 0 (error_bit l) e) (asked-lt l asked s) (field_apart l s p (error_bit l) h s.outside))
        ∙ asked-level l asked s
    tested false e true m = ap (λ (x : Bool). x && eqb (level_of (error_bit l) (telegram_of l p true)) (error_level l)) e ∙ sym e ∙ lt-ltb 0 (error_bit l) (m refl)
    tested false e false m = ap (λ (x : Bool). x && eqb (level_of (error_bit l) (telegram_of l p false)) (error_level l)) e

-- its blanked bits are 0
pub built-blank : (l : Layout) → Sound l → (p : ℕ) (asked : Bool) → p < modulus l → BlankZero l (telegram_of l p asked)
unfolding telegram_of
built-blank l s p asked h n _ _ o d =
    level-beside n (error_bit l) (coded l.format p * 2 ^ (l.low - 1)) (level_asked l asked) d (asked-lt l asked s) (field_apart l s p (error_bit l) h s.outside)
    ∙ field_apart l s p n h o

-- ---- what is read is rebuilt
-- without its error bit, a telegram whose blanked bits are 0 has no bit set outside B to H
blank-level : (n e t : ℕ) → ((n ≡ e → ⊥) → level_of n t ≡ 0) → level_of n (without_bit e t) ≡ 0
blank-level n e t h = tested (eqb n e) refl
  where
    tested : (b : Bool) → eqb n e ≡ b → level_of n (without_bit e t) ≡ 0
    tested true i = ap (λ (x : ℕ). level_of x (without_bit e t)) (eqb-true n e i) ∙ level-without e t
    tested false i =
        sym (level-beside n e (without_bit e t) (level_of e t) (eqb-false n e i) (level-lt e t) (level-without e t))
        ∙ ap (level_of n) (without-sum e t) ∙ h (eqb-false n e i)

low-blank : (l : Layout) → Sound l → (t : ℕ) → BlankZero l t → without_bit (error_bit l) t % 2 ^ (l.low - 1) ≡ 0
low-blank l s t z =
    low-zero (l.low - 1) (without_bit (error_bit l) t)
    (λ i h. blank-level (suc i) (error_bit l) t (z (suc i) (omega arith) (omega (arith, h, s.low-high, s.high-resolution)) (inl (omega (arith, h)))))

high-blank : (l : Layout) → Sound l → (t : ℕ) → t < 2 ^ l.resolution → BlankZero l t → without_bit (error_bit l) t < 2 ^ ((l.high - l.low + 1) + (l.low - 1))
high-blank l s t small z =
    high_zero (l.resolution - l.high) ((l.high - l.low + 1) + (l.low - 1)) (without_bit (error_bit l) t)
    (subst (λ (x : ℕ). without_bit (error_bit l) t < 2 ^ x) (widths l s) (lt_of_le_of_lt (without-le (error_bit l) t) small))
    (λ i a b. blank-level (suc i) (error_bit l) t (z (suc i) (omega arith) (omega (arith, b, s.from_one, s.low-high, s.high-resolution)) (inr (omega (arith, a, s.from_one, s.low-high)))))
  where
    widths : (l : Layout) → Sound l → l.resolution ≡ (l.resolution - l.high) + ((l.high - l.low + 1) + (l.low - 1))
    widths l s = omega (arith, s.from_one, s.low-high, s.high-resolution)

-- asked for exactly when it is reported, the error bit stands as it stood
other-level : (x y : ℕ) → x < 2 → y ≤ 1 → (x ≡ y → ⊥) → 1 - y ≡ x
other-level x y h k n = omega (arith, n)

level-asked : (l : Layout) → Sound l → (t : ℕ) → level_asked l (error_reported l t) * worth (error_bit l) ≡ level_of (error_bit l) t * worth (error_bit l)
unfolding error_reported
level-asked l s t = tested (ltb 0 (error_bit l)) refl (eqb (level_of (error_bit l) t) (error_level l)) refl
  where
    none : (e x y : ℕ) → e ≤ 0 → x * worth e ≡ y * worth e
    none zero x y h = omega arith
    none (suc e) x y h = absurd (omega (arith, h))

    tested : (b : Bool) → ltb 0 (error_bit l) ≡ b → (c : Bool) → eqb (level_of (error_bit l) t) (error_level l) ≡ c
        → level_asked l (error_reported l t) * worth (error_bit l) ≡ level_of (error_bit l) t * worth (error_bit l)
    tested false i c j = none (error_bit l) (level_asked l (error_reported l t)) (level_of (error_bit l) t) (ltb-false 0 (error_bit l) i)
    tested true i true j =
        ap (λ (x : ℕ). x * worth (error_bit l)) (ap₂ (λ (x y : Bool). level_asked l (x && y)) i j ∙ sym (eqb-true (level_of (error_bit l) t) (error_level l) j))
    tested true i false j =
        ap (λ (x : ℕ). x * worth (error_bit l))
        (ap₂ (λ (x y : Bool). level_asked l (x && y)) i j ∙ other-level (level_of (error_bit l) t) (error_level l) (level-lt (error_bit l) t) s.level (eqb-false (level_of (error_bit l) t) (error_level l) j))

pub rebuilt : (l : Layout) → Sound l → (t : ℕ) → accepted l t ≡ true → BlankZero l t → telegram_of l (position_of l t) (error_reported l t) ≡ t
unfolding accepted position_of telegram_of
rebuilt l s t a z =
    ap₂ ◌+◌
    (field-built l.format l.resolution (l.low - 1) (l.high - l.low + 1) (without_bit (error_bit l) t) (field_fits l s) (low-blank l s t z) (high-blank l s t (ltb-true t (2 ^ l.resolution) a) z))
    (level-asked l s t)
    ∙ without-sum (error_bit l) t

-- an error is reported only where an error bit is set up
pub reported-set-up : (l : Layout) (t : ℕ) → error_reported l t ≡ true → 0 < error_bit l
unfolding error_reported
reported-set-up l t h = tested (ltb 0 (error_bit l)) refl h
  where
    tested : (b : Bool) → ltb 0 (error_bit l) ≡ b → error_reported l t ≡ true → 0 < error_bit l
    tested true i h = ltb-true 0 (error_bit l) i
    tested false i h = ltb-true 0 (error_bit l) (i ∙ sym (ap (λ (x : Bool). x && eqb (level_of (error_bit l) t) (error_level l)) i) ∙ h)

-- ---- the whole answers
-- where 17 and 18 do not hold, the telegram is built
not-both : (l : Layout) (asked : Bool) → (asked ≡ true → 0 < error_bit l) → (asked && eqb (error_bit l) 0) ≡ false
not-both l true m = ne_eqb (error_bit l) 0 (λ e. omega (arith, e, m refl))
not-both l false m = refl

pub built-is : (l : Layout) (p : ℕ) (asked : Bool) → p < modulus l → (asked ≡ true → 0 < error_bit l)
    → built_of l p asked ≡ record { refusal = None; telegram = telegram_of l p asked }
unfolding built_of
built-is l p asked h m = rw (lt-leb (modulus l) p h, not-both l asked m)

-- an accepted telegram is read
pub reading-is : (l : Layout) (t : ℕ) → accepted l t ≡ true → content_of l t ≡ record { refusal = None; position = position_of l t; error = error_reported l t }
unfolding content_of
reading-is l t a = rw a

pub reads-built : (l : Layout) → Sound l → (p : ℕ) (asked : Bool) → p < modulus l → (asked ≡ true → 0 < error_bit l)
    → content_of l (telegram_of l p asked) ≡ record { refusal = None; position = p; error = asked }
reads-built l s p asked h m =
    reading-is l (telegram_of l p asked) (built-accepted l s p asked h) ∙ rw (built-position l s p asked h, built-error l s p asked h m)
