use Rattle.std.proofs.Common.{◌∙◌, ℕ, ap, map, subst, sym}
use Rattle.acl_policy.specs.Rules.{rule_facts}
use Rattle.policy_compare.specs.declared.finding.Finding.{Finding}
use Rattle.policy_compare.specs.inner.Findings.{IsFinding, either}
use Rattle.policy_compare.specs.inner.Starting.{IsLeftOf, IsLeftOfStarting}
use Rattle.policy_compare.proofs.FindingLemmas.{left_of_three}
use Rattle.policy_compare.proofs.starting_packets.left_of_starting.Goals as goal

pub returns-clause-found : goal.returns-clause-found
returns-clause-found c =
    let one = rule_facts c.args.one.now in
    let two = rule_facts c.args.two.now in
    let earlier = map rule_facts c.args.earlier.now in
    let message = subst (λ (n : ℕ). IsFinding (IsLeftOf n one two earlier) c.in_ok-message.message) c.icmp_number.ensures c.in_ok-message.ensures.found in
    subst (IsFinding (IsLeftOfStarting one two earlier)) (sym (c.either-2.ensures ∙ ap (λ (f : Finding). either c.in_ok-segment.segment f) c.either.ensures))
    (left_of_three one two earlier c.in_ok-segment.segment c.in_ok-datagram.datagram c.in_ok-message.message c.in_ok-segment.ensures.found
    c.in_ok-datagram.ensures.found message)
