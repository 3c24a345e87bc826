use Rattle.std.proofs.Common.{map, subst, sym}
use Rattle.acl_policy.specs.Rules.{rule_facts}
use Rattle.policy_compare.specs.inner.Findings.{IsFinding}
use Rattle.policy_compare.specs.inner.Starting.{IsLeftOf}
use Rattle.policy_compare.proofs.FindingLemmas.{left_of_part}
use Rattle.policy_compare.proofs.starting_packets.left_of.Goals as goal

pub returns-clause-found : goal.returns-clause-found
returns-clause-found c =
    let one = rule_facts c.args.one.now in
    let two = rule_facts c.args.two.now in
    let earlier = map rule_facts c.args.earlier.now in
    subst (IsFinding (IsLeftOf c.args.proto one two earlier)) (sym c.finding_of.ensures)
    (left_of_part one (rule_facts c.in-Some.part) two c.args.proto earlier c.in_ok-cover.cover c.in-Some.ensures.some c.in_ok-cover.ensures.cover)
