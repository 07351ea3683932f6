-- The travel bound: a condition with a hysteresis, off at first, that changes k times in a run has cost it a travel of at least (k − 1)(h + 1).
-- Paper 01, "Runs" and demand 3's second half. The argument is one for all modes: what a mode compares is turned so that on is upward, and moves no further
-- than the result (`Gentle`); a change is paid for by what was spent of the h + 1 on the way to it (`spent`). Assumes nothing.
use Rattle.std.specs.Prelude.{◌≡◌, Bool, true, false, not, List, [], ◌∷◌, ℕ, zero, suc, ◌+◌, ◌*◌, ◌-◌, min, ◌≤◌, T, ℤ, pos, negsuc, neg_ℤ, nat_abs, ◌+ℤ◌, ◌-ℤ◌}
use Rattle.std.proofs.Common.{sym, subst, add-one, arith}
use Rattle.std.specs.Int.Signed.{le_z, lt_z}
use Rattle.integers.specs.Int.{P}
use Rattle.integers.specs.RingLaws.{var, lit, ◌⊕◌, ◌⊖◌, neg, abs-ex, pos-ex, le-ex, lt-ex, le-by, lt_by}
use Rattle.switching.specs.Condition.{by_mode, magnitude_of, latched_of, on_above, on_below, compared, against, rule_of, condition_of}
use Rattle.switching.specs.Travel.{Seen, travel, changed, changes, hysteretic}

-- ---- one event

-- all that is used of a mode's rule: the condition turns on only at g ≥ p, and off only at g < p − h
pub record Turns (g p : ℤ) (h : ℕ) (was on : Bool) : Type 0 where
  pub turns-on : T (not was) → T on → T (le_z p g)
  pub turns-off : T was → T (not on) → T (lt_z g (p -ℤ pos h))

-- a condition that stays
pub stays : (g p : ℤ) (h : ℕ) (on : Bool) → Turns g p h on on
stays g p h true = record { turns-on = λ a b. absurd a; turns-off = λ a b. absurd b }
stays g p h false = record { turns-on = λ a b. absurd b; turns-off = λ a b. absurd a }

-- what of the h + 1 to the next change is spent already
abbrev pub spent : ℤ → ℕ → ℤ → Bool → ℕ
spent p h g true = min (suc h) (P (p -ℤ g))
spent p h g false = min (suc h) (P (g +ℤ pos (suc h) -ℤ p))

-- a change costs h + 1, in travel or in what was spent before
one-step : (p : ℤ) (h : ℕ) (g g' : ℤ) (was on : Bool) → Turns g' p h was on → changed was on * suc h + spent p h g' on ≤ nat_abs (g' -ℤ g) + spent p h g was
one-step p h g g' true true t = omega (arith, pos-ex (var p ⊖ var g), pos-ex (var p ⊖ var g'), abs-ex (var g' ⊖ var g))
one-step p h g g' false false t =
    omega (arith, pos-ex (var g ⊕ lit (suc h) ⊖ var p), pos-ex (var g' ⊕ lit (suc h) ⊖ var p), abs-ex (var g' ⊖ var g))
one-step p h g g' false true t =
    omega (
      arith,
      pos-ex (var g ⊕ lit (suc h) ⊖ var p),
      pos-ex (var p ⊖ var g'),
      abs-ex (var g' ⊖ var g),
      le-ex (var p) (var g') (t.turns-on tt tt),
    )
one-step p h g g' true false t =
    omega (
      arith,
      pos-ex (var p ⊖ var g),
      pos-ex (var g' ⊕ lit (suc h) ⊖ var p),
      abs-ex (var g' ⊖ var g),
      lt-ex (var g') (var p ⊖ lit h) (t.turns-off tt tt),
    )

-- ---- a list of events

-- g moves no further than its argument
abbrev pub Gentle : (ℤ → ℤ) → Type 0
Gentle g = (a b : ℤ) → nat_abs (g a -ℤ g b) ≤ nat_abs (a -ℤ b)

-- each event of the list obeys `Turns`, by what g makes of the result
unfoldable pub Lawful : (ℤ → ℤ) → ℤ → ℕ → Bool → List Seen → Type 0
Lawful g p h was [] = Unit {0}
Lawful g p h was (s ∷ ss) = Turns (g s.result) p h was s.on × Lawful g p h s.on ss

travelled : (g : ℤ → ℤ) → Gentle g → (p : ℤ) (h : ℕ) (r : ℤ) (was : Bool) (ss : List Seen) → Lawful g p h was ss → changes was ss * suc h ≤ travel r ss + spent p h (g r) was
unfolding Lawful changes travel
travelled g l p h r was [] t = omega arith
travelled g l p h r was (s ∷ ss) t =
    omega (
      arith,
      travelled g l p h s.result s.on ss t.1,
      one-step p h (g r) (g s.result) was s.on t.0,
      l s.result r,
    )

-- THE BOUND: from the result 0 and the condition off, (k − 1)(h + 1) ≤ travel
pub travel-bound : (g : ℤ → ℤ) → Gentle g → (p : ℤ) (h : ℕ) (ss : List Seen) → Lawful g p h false ss → (changes false ss - 1) * (h + 1) ≤ travel (pos 0) ss
travel-bound g l p h ss t = rw add-one (less_one (changes false ss) (travel (pos 0) ss) (omega (arith, travelled g l p h (pos 0) false ss t)))
  where
    less_one : (n d : ℕ) → n * suc h ≤ d + suc h → (n - 1) * suc h ≤ d
    less_one zero d e = omega arith
    less_one (suc n) d e = subst (λ (m : ℕ). m * suc h ≤ d) (sym (drop-one n)) (omega arith)
      where
        drop-one : (n : ℕ) → suc n - 1 ≡ n
        drop-one n = omega arith

-- ---- the modes

-- turned so that on is upward: modes 1 and 4 are on below
abbrev pub upward : ℕ → ℤ → ℤ
upward mode z = by_mode mode z (neg_ℤ z) z z (neg_ℤ z) z z

-- what a mode compares, and what with
unfoldable pub view : ℕ → ℤ → ℤ
view mode r = upward mode (compared mode r)

unfoldable pub mark : ℕ → ℤ → ℤ → ℤ
mark mode own partner = upward mode (against mode own partner)

gentle-magnitude_of : (a b : ℤ) → nat_abs (magnitude_of a -ℤ magnitude_of b) ≤ nat_abs (a -ℤ b)
gentle-magnitude_of (pos a) (pos b) = omega arith
gentle-magnitude_of (pos a) (negsuc b) = omega (arith, abs-ex (lit a ⊖ lit (suc b)), abs-ex (lit a ⊖ neg (lit (suc b))))
gentle-magnitude_of (negsuc a) (pos b) = omega (arith, abs-ex (lit (suc a) ⊖ lit b), abs-ex (neg (lit (suc a)) ⊖ lit b))
gentle-magnitude_of (negsuc a) (negsuc b) = omega (arith, abs-ex (lit (suc a) ⊖ lit (suc b)), abs-ex (neg (lit (suc a)) ⊖ neg (lit (suc b))))

gentle-neg : (a b : ℤ) → nat_abs (neg_ℤ a -ℤ neg_ℤ b) ≤ nat_abs (a -ℤ b)
gentle-neg a b = omega (arith, abs-ex (neg (var a) ⊖ neg (var b)), abs-ex (var a ⊖ var b))

gentle-same : (a b : ℤ) → nat_abs (a -ℤ b) ≤ nat_abs (a -ℤ b)
gentle-same a b = omega arith

pub gentle : (mode : ℕ) → Gentle (view mode)
unfolding view compared
gentle zero = gentle-magnitude_of
gentle (suc zero) = λ a b. omega (arith, gentle-neg (magnitude_of a) (magnitude_of b), gentle-magnitude_of a b)
gentle (suc (suc zero)) = gentle-magnitude_of
gentle (suc (suc (suc zero))) = gentle-same
gentle (suc (suc (suc (suc zero)))) = gentle-neg
gentle (suc (suc (suc (suc (suc zero))))) = gentle-same
gentle (suc (suc (suc (suc (suc (suc mode)))))) = gentle-same

-- a condition that is on, off or kept, on only at g ≥ p and off only at g < p − h
latched-turns : (g p : ℤ) (h : ℕ) (on off was : Bool) → (T on → T (le_z p g)) → (T off → T (lt_z g (p -ℤ pos h))) → Turns g p h was (latched_of on off was)
unfolding latched_of
latched-turns g p h true off was a b = record { turns-on = λ n y. a tt; turns-off = λ y n. absurd n }
latched-turns g p h false true was a b = record { turns-on = λ n y. absurd y; turns-off = λ y n. b tt }
latched-turns g p h false false was a b = stays g p h was

above-turns : (r p : ℤ) (h : ℕ) (was : Bool) → Turns r p h was (on_above r p h was)
unfolding on_above
above-turns r p h was = latched-turns r p h (le_z p r) (lt_z r (p -ℤ pos h)) was (λ t. t) (λ t. t)

below-turns : (r p : ℤ) (h : ℕ) (was : Bool) → Turns (neg_ℤ r) (neg_ℤ p) h was (on_below r p h was)
unfolding on_below
below-turns r p h was =
    latched-turns (neg_ℤ r) (neg_ℤ p) h (le_z r p) (lt_z (p +ℤ pos h) r) was
    (λ t. le-by (neg (var p)) (neg (var r)) (omega (arith, le-ex (var r) (var p) t)))
    (λ t. lt_by (neg (var r)) (neg (var p) ⊖ lit h) (omega (arith, lt-ex (var p ⊕ lit h) (var r) t)))

-- the rule of each mode with a hysteresis obeys `Turns`
pub rule-turns : (mode : ℕ) → T (hysteretic mode) → (r p : ℤ) (h : ℕ) (was : Bool) → Turns (upward mode r) (upward mode p) h was (rule_of mode r p h was)
unfolding hysteretic rule_of
rule-turns zero t r p h was = above-turns r p h was
rule-turns (suc zero) t r p h was = below-turns r p h was
rule-turns (suc (suc zero)) t r p h was = absurd t
rule-turns (suc (suc (suc zero))) t r p h was = above-turns r p h was
rule-turns (suc (suc (suc (suc zero)))) t r p h was = below-turns r p h was
rule-turns (suc (suc (suc (suc (suc zero))))) t r p h was = absurd t
rule-turns (suc (suc (suc (suc (suc (suc mode)))))) t r p h was = above-turns r p h was

pub condition-turns : (mode : ℕ) → T (hysteretic mode) → (r own partner : ℤ) (h : ℕ) (was : Bool) → Turns (view mode r) (mark mode own partner) h was (condition_of mode r own partner h was)
unfolding view mark condition_of
condition-turns mode t r own partner h was = rule-turns mode t (compared mode r) (against mode own partner) h was

-- THE BOUND FOR A MODE: a list in which each event obeys the mode's `Turns`, from the result 0 and the condition off
pub mode-bound : (mode : ℕ) (own partner : ℤ) (h : ℕ) (ss : List Seen) → Lawful (view mode) (mark mode own partner) h false ss → (changes false ss - 1) * (h + 1) ≤ travel (pos 0) ss
mode-bound mode own partner h ss t = travel-bound (view mode) (gentle mode) (mark mode own partner) h ss t
