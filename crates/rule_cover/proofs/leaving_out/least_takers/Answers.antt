use Rattle.std.proofs.Common.{arith, map}
use Rattle.acl_policy.specs.Rules.{rule_facts}
use Rattle.rule_cover.proofs.TakerLemmas.{all_tried}
use Rattle.rule_cover.proofs.leaving_out.least_takers.Goals as goal

pub returns-clause-least : goal.returns-clause-least
returns-clause-least c = λ left.
    all_tried (rule_facts c.args.rule.now) (map rule_facts c.args.rules.now) c.places.tests c.places.places.items c.places.tried c.places.invariant.0 (omega arith) left
