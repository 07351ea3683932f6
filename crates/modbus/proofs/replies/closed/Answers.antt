-- `modbus::replies::closed` meets its contract: the body, the two bytes of its CRC at the next two places, and zeros behind them.
use Rattle.std.proofs.Common.{◌≡◌, ◌≤◌, ◌+◌, ◌-◌, ◌/◌, ◌%◌, refl, ap, ◌∙◌, arith, length, ℕ, List, [], ◌∷◌, ◌++◌, drop, set, suc, replicate, add-one, length-append}
use Rattle.std.proofs.lemmas.List.{drop-replicate}
use Rattle.modbus.specs.Crc.{sealed, crc_of, crc_bytes}
use Rattle.modbus.specs.Replies.{packed}
use Rattle.modbus.proofs.replies.closed.Goals as goal

-- two bytes at the first two places behind a list
put : (l z : List ℕ) (a b : ℕ) → set (set (l ++ (0 ∷ (0 ∷ z))) (length l) a) (suc (length l)) b ≡ (l ++ (a ∷ (b ∷ []))) ++ z
put [] z a b = refl
put (x ∷ l) z a b = ap (λ (t : List ℕ). x ∷ t) (put l z a b)

-- the zeros behind seven bytes at most
zeros : (n : ℕ) → n ≤ 7 → drop {A = ℕ} n (replicate 9 0) ≡ 0 ∷ (0 ∷ replicate (7 - n) 0)
zeros n h = let e : 9 - n ≡ suc (suc (7 - n)) = omega arith in drop-replicate {X = ℕ} n 9 0 ∙ rw e

pub returns : goal.returns
unfolding packed sealed
returns c =
    let body = c.args.body.now in
    let v = c.crc.result in
    let high : v / 256 % 256 ≡ v / 256 = omega arith in
    let n : length (body ++ crc_bytes (crc_of body)) ≡ length body + 2 = length-append body _ in
    let rest : 9 - (length body + 2) ≡ 7 - length body = omega arith in
    rw (c.copy_from_slice.ensures.after, zeros (length body) (omega arith), c.to_be_bytes.ensures, high, add-one, put body _ _ _, c.crc.ensures, n, rest)
