use Rattle.rule_cover.proofs.numbers_of_rule.numbers_with_flags.Goals as goal

pub returns : goal.returns
returns c = λ from to flags. (
  λ has. ((c.range_in_rule.ensures from).0 has.0, (c.range_in_rule-2.ensures to).0 has.1, (c.flags_of_rule-ones.ensures flags).0 has.2),
  λ has. ((c.range_in_rule.ensures from).1 has.0, (c.range_in_rule-2.ensures to).1 has.1, (c.flags_of_rule-ones.ensures flags).1 has.2),
)
