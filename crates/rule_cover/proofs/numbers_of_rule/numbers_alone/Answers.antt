use Rattle.rule_cover.proofs.FlagLemmas.{HasFlags-none}
use Rattle.rule_cover.proofs.numbers_of_rule.numbers_alone.Goals as goal

pub returns-clause-ports : goal.returns-clause-ports
returns-clause-ports c = λ from to. (
  λ has. ((c.range_in_rule.ensures from).0 has.0, (c.range_in_rule-2.ensures to).0 has.1),
  λ has. ((c.range_in_rule.ensures from).1 has.0, (c.range_in_rule-2.ensures to).1 has.1, HasFlags-none 0),
)

pub returns-clause-icmp : goal.returns-clause-icmp
returns-clause-icmp c = λ kind code. (
  λ has. ((c.range_in_rule.ensures kind).0 has.0, (c.range_in_rule-2.ensures code).0 has.1),
  λ has. ((c.range_in_rule.ensures kind).1 has.0, (c.range_in_rule-2.ensures code).1 has.1, HasFlags-none 0),
)
