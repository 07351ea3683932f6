-- The slot found is out of range and each one below it is not, so it is the lowest one out of range; where none is found, every slot is in range.
use Rattle.std.proofs.Common.{◌≡◌, true, false, pos, get_or, rules, tests}
use Rattle.std.proofs.lemmas.Iterator.{first_from_Range}
use Rattle.parameters.specs.Rows.{in_range}
use Rattle.parameters.proofs.RowLaws.{found-slot}
use Rattle.parameters.proofs.rows.lowest_out.Goals as goal

pub returns : goal.returns
returns c =
    let t = c.args.t.now in
    found-slot t (search rules) c.find.result
    (first_from_Range _ _ _ _ (λ k. in_range k (get_or t k (pos 0)) ≡ false) (λ k. in_range k (get_or t k (pos 0)) ≡ true) c.find.ensures.ran
    (λ x q k. search (rules, tests)) (λ x q k. (search rules, search (rules, tests))))
