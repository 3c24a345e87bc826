use Rattle.std.proofs.Common.{List, map, subst}
use Rattle.acl_policy.specs.declared.rule.Rule.{Rule}
use Rattle.acl_policy.specs.Matching.{IsRuling}
use Rattle.acl_policy.specs.Rules.{rule_facts}
use Rattle.acl_policy.proofs.RulingLemmas.{one_ruling}
use Rattle.packet_view.specs.Tuples.{tuple_facts}
use Rattle.rule_index.proofs.RuleLemmas.{ruling_within}
use Rattle.rule_index.proofs.index.RuleIndex.first_match.Goals as goal

pub returns-clause-only : goal.returns-clause-only
returns-clause-only c = λ other ruling. one_ruling (map rule_facts c.args.self.now.rules.items) (tuple_facts c.args.tuple.now) c.first_of.result other (subst (λ (rules : List Rule). IsRuling (map rule_facts rules) (tuple_facts c.args.tuple.now) c.first_of.result) c.deref.ensures.value c.first_of.ensures) ruling

pub returns-clause-place : goal.returns-clause-place
returns-clause-place c = ruling_within c.args.self.now.rules.items (tuple_facts c.args.tuple.now) c.first_of.result (subst (λ (rules : List Rule). IsRuling (map rule_facts rules) (tuple_facts c.args.tuple.now) c.first_of.result) c.deref.ensures.value c.first_of.ensures)
