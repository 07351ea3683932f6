-- `bitplanes::turn_group` meets its contract: the five rounds turn a group (RoundLaws, five-rounds).
use mathlib.Core.Path.{refl, ap, ◌∙◌}
use Rattle.bitplanes.specs.RoundSteps.{by1, by2, by4, by8, by16, mask_of, exchanged}
use Rattle.bitplanes.proofs.RoundLaws.{five-rounds}
use borrow.Author.Rules.{rules}
use Rattle.bitplanes.proofs.turn_group.Goals as goal

pub exchange-requires : goal.exchange-requires
unfolding mask_of
exchange-requires c = record {
  g_len = search rules;
  width = by16;
  m_value = refl;
}

pub exchange-requires-2 : goal.exchange-requires-2
unfolding mask_of
exchange-requires-2 c = record {
  g_len = search rules;
  width = by8;
  m_value = refl;
}

pub exchange-requires-3 : goal.exchange-requires-3
unfolding mask_of
exchange-requires-3 c = record {
  g_len = search rules;
  width = by4;
  m_value = refl;
}

pub exchange-requires-4 : goal.exchange-requires-4
unfolding mask_of
exchange-requires-4 c = record {
  g_len = search rules;
  width = by2;
  m_value = refl;
}

pub exchange-requires-5 : goal.exchange-requires-5
unfolding mask_of
exchange-requires-5 c = record {
  g_len = search rules;
  width = by1;
  m_value = refl;
}

pub returns : goal.returns
returns c = let by1 = c in
    let by2 = by1 in
    let by4 = by2 in
    let by8 = by4 in
    let by16 = by8 in
    let start = by16 in
    by1.exchange-5.ensures
    ∙ ap (exchanged 1)
    (by2.exchange-4.ensures ∙ ap (exchanged 2) (by4.exchange-3.ensures ∙ ap (exchanged 4) (by8.exchange-2.ensures ∙ ap (exchanged 8) by16.exchange.ensures)))
    ∙ five-rounds start.args.g.now start.requires
