use Rattle.std.proofs.Common.{rules, tests, ◌≡◌, subst}
use Rattle.packet_view.specs.Frames.{Ip, IsFrame}
use Rattle.packet_view.specs.Tuples.{tuple_facts}
use Rattle.packet_view.specs.declared.tuple.Direction.{Direction}
use Rattle.acl_policy.specs.Policies.{section_facts}
use Rattle.policy_check.specs.SameHost.{IsGoing, seen_at}
use Rattle.policy_check.proofs.HostLemmas.{no_packet}
use Rattle.policy_check.proofs.frames_of_same_host.going.Goals as goal

pub returns-in_default : goal.returns-in_default
unfolding IsGoing
returns-in_default c = record {
  some = tt;
  only = λ tuple going. absurd (no_packet c.view.result c.args.direction tuple c.in_default.not-Ip (c.view.ensures.only (Ip c.args.direction tuple) going));
}

pub returns-then-eq-clause-some : goal.returns-then-eq-clause-some
unfolding IsGoing
returns-then-eq-clause-some c =
    let same : c.in-Ip.seen ≡ c.args.direction = search rules in
    subst (λ (way : Direction). IsFrame c.args.packet.frame.now (seen_at (section_facts c.args.section.now)) (Ip way (tuple_facts c.in-Ip.tuple))) same c.in-Ip.ensures.shown

pub returns-then-eq-clause-only : goal.returns-then-eq-clause-only
unfolding IsGoing
returns-then-eq-clause-only c = λ tuple going.
    let one = c.in-Ip.ensures.only (Ip c.args.direction tuple) going in
    cc

pub returns-else-eq-clause-only : goal.returns-else-eq-clause-only
unfolding IsGoing
returns-else-eq-clause-only c = λ tuple going.
    let one = c.in-Ip.ensures.only (Ip c.args.direction tuple) going in
    let same : c.in-Ip.seen ≡ c.args.direction = cc in
    let wrong : ⊥ = search (rules, tests) in
    absurd wrong
