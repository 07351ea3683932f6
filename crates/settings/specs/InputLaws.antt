-- An action and a config are the paper's numbers and no others, and a teach names one of the four preselections.
use Rattle.std.specs.Prelude.{◌≡◌, refl, not, cond, ℕ, zero, suc, ◌+◌, ◌≤◌, ◌<◌, T, eqb}
use Rattle.std.proofs.Common.{sym, arith, eqb-true, ne_eqb}
use Rattle.integers.specs.ChoiceLaws.{by-test, is_true, is_false}
use Rattle.settings.specs.declared.Action.{Action}
use Rattle.settings.specs.declared.Action.TheVariants.{None, Reset, Freeze, ClearLocks, ClearExtremes, Teach}
use Rattle.settings.specs.Settings.{is_freeze, Aimed, action_of, action_number, config_of, config_number}

pub action-number : (n : ℕ) → n ≤ 8 → action_number (action_of n) ≡ n
unfolding action_of action_number
action-number zero h = refl
action-number (suc zero) h = refl
action-number (suc (suc zero)) h = refl
action-number (suc (suc (suc zero))) h = refl
action-number (suc (suc (suc (suc zero)))) h = refl
action-number (suc (suc (suc (suc (suc zero))))) h = refl
action-number (suc (suc (suc (suc (suc (suc zero)))))) h = refl
action-number (suc (suc (suc (suc (suc (suc (suc zero))))))) h = refl
action-number (suc (suc (suc (suc (suc (suc (suc (suc zero)))))))) h = refl
action-number (suc (suc (suc (suc (suc (suc (suc (suc (suc n))))))))) h = absurd (omega arith)

pub config-number : (n : ℕ) → n ≤ 3 → config_number (config_of n) ≡ n
unfolding config_of config_number
config-number zero h = refl
config-number (suc zero) h = refl
config-number (suc (suc zero)) h = refl
config-number (suc (suc (suc zero))) h = refl
config-number (suc (suc (suc (suc n)))) h = absurd (omega arith)

pub aimed : (n : ℕ) → Aimed (action_of n)
unfolding action_of
aimed n =
    by-test (eqb n 1) Reset _ Aimed (λ _. tt)
    (λ _. by-test (eqb n 2) Freeze _ Aimed (λ _. tt)
    (λ _. by-test (eqb n 3) ClearLocks _ Aimed (λ _. tt)
    (λ _. by-test (eqb n 4) ClearExtremes _ Aimed (λ _. tt)
    (λ _. by-test (eqb n 5) (Teach 0) _ Aimed (λ _. omega arith)
    (λ _. by-test (eqb n 6) (Teach 1) _ Aimed (λ _. omega arith)
    (λ _. by-test (eqb n 7) (Teach 2) _ Aimed (λ _. omega arith)
    (λ _. by-test (eqb n 8) (Teach 3) None Aimed (λ _. omega arith) (λ _. tt))))))))

-- the freeze is number 2
pub freeze-is : (n : ℕ) → is_freeze (action_of n) ≡ eqb n 2
unfolding action_of
freeze-is n =
    by-test (eqb n 1) Reset _ Q (λ e. sym (ne_eqb n 2 (λ z. let o = eqb-true n 1 (is_true (eqb n 1) e) in omega arith)))
    (λ _. by-test (eqb n 2) Freeze _ Q (λ e. sym (is_true (eqb n 2) e))
    (λ m. other m))
  where
    Q : Action → Type 0
    Q a = is_freeze a ≡ eqb n 2

    other : T (not (eqb n 2)) → Q (cond (eqb n 3) ClearLocks (cond (eqb n 4) ClearExtremes (cond (eqb n 5) (Teach 0) (cond (eqb n 6) (Teach 1) (cond (eqb n 7) (Teach 2) (cond (eqb n 8) (Teach 3) None))))))
    other m =
        let no = sym (is_false (eqb n 2) m) in
        by-test (eqb n 3) ClearLocks _ Q (λ _. no)
        (λ _. by-test (eqb n 4) ClearExtremes _ Q (λ _. no)
        (λ _. by-test (eqb n 5) (Teach 0) _ Q (λ _. no)
        (λ _. by-test (eqb n 6) (Teach 1) _ Q (λ _. no)
        (λ _. by-test (eqb n 7) (Teach 2) _ Q (λ _. no)
        (λ _. by-test (eqb n 8) (Teach 3) None Q (λ _. no) (λ _. no))))))
