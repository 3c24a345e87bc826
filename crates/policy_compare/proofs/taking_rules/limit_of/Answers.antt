use Rattle.std.proofs.Common.{arith}
use Rattle.policy_check.proofs.RemarkLemmas.{rule_there}
use Rattle.policy_compare.proofs.LimitLemmas.{limit_there}
use Rattle.policy_compare.proofs.taking_rules.limit_of.Goals as goal

pub returns-then-takes_all : goal.returns-then-takes_all
returns-then-takes_all c =
    let rules = c.args.rules.now in
    let here = rule_there rules c.loop-place.place c.index-rules-place.result (omega arith) c.index-rules-place.is in
    limit_there rules c.loop-place.place c.args.taken c.index-rules-place.result c.in-Some.taken c.in-Some.is here (c.takes_all.ensures.taken c.if-takes_all.true)
