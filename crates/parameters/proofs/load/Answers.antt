-- Each return is one stage of the definition: the length, the ranges, the conflicts, and a table that loads.
use Rattle.std.proofs.Common.{◌≡◌, sym, ◌∙◌, ap, List, ℤ, Option, Some, None}
use Rattle.std.proofs.lemmas.Result.{MatchResult-at_ok, MatchResult-at_err}
use Rattle.parameters.specs.declared.Refusal.{Refusal}
use Rattle.parameters.specs.Refusals.{refusal_by}
use Rattle.parameters.specs.Rows.{slot_out_of}
use Rattle.parameters.specs.Search.{first_of}
use Rattle.parameters.specs.Load.{conflicts}
use Rattle.parameters.proofs.RowLaws.{found-lowest, found-none}
use Rattle.parameters.proofs.LoadLaws.{load-length, load-range, load-conflict, load-fine, some-conflict, no-conflict}
use Rattle.parameters.proofs.load.Goals as goal

abbrev conflict-of : List ℤ → Option Refusal
conflict-of t = refusal_by (first_of 3 (conflicts t)) 0

pub returns-in_default : goal.returns-in_default
returns-in_default c = c.refused.ensures ∙ sym (load-length c.args.words.now (MatchResult-at_err _ _ _ c.in_default.is c.try_from.ensures.1))

pub returns-in-Some : goal.returns-in-Some
returns-in-Some c =
    let w = c.args.words.now in
    let whole = MatchResult-at_ok _ _ _ c.in-Ok.is c.try_from.ensures.1 in
    let found = found-lowest w c.in-Some.slot (sym (ap slot_out_of whole.same) ∙ sym c.lowest_out.ensures ∙ c.in-Some.is) in
    rw (c.refused-in-Some.ensures, load-range w whole.long found.1, found.0)

pub returns-in-Some-conflict : goal.returns-in-Some-conflict
returns-in-Some-conflict c =
    let w = c.args.words.now in
    let whole = MatchResult-at_ok _ _ _ c.in-Ok.is c.try_from.ensures.1 in
    let past = found-none w (sym (ap slot_out_of whole.same) ∙ sym c.lowest_out.ensures ∙ c.in_default-lowest_out.is) in
    let first : conflict-of w ≡ Some c.in-Some-conflict.refusal = sym (ap conflict-of whole.same) ∙ sym c.conflict.ensures ∙ c.in-Some-conflict.is in
    rw (c.refused-in-Some-conflict.ensures, load-conflict w whole.long past (some-conflict w c.in-Some-conflict.refusal first), first)

pub returns : goal.returns
returns c =
    let w = c.args.words.now in
    let whole = MatchResult-at_ok _ _ _ c.in-Ok.is c.try_from.ensures.1 in
    let past = found-none w (sym (ap slot_out_of whole.same) ∙ sym c.lowest_out.ensures ∙ c.in_default-lowest_out.is) in
    let first : conflict-of w ≡ None = sym (ap conflict-of whole.same) ∙ sym c.conflict.ensures ∙ c.in_default-conflict.is in
    rw (whole.same, load-fine w whole.long past (no-conflict w first))
