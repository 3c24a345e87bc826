use Rattle.std.proofs.Common.{subst, sym}
use Rattle.std.specs.List.{Any}
use Rattle.packet_view.specs.Captures.{PacketFacts, packet_facts}
use Rattle.packet_view.specs.CheckedCaptures.{remaining}
use Rattle.acl_policy.specs.Policies.{section_facts}
use Rattle.policy_check.specs.SameHost.{GoesOutFrom, seen_at}
use Rattle.policy_check.proofs.HostLemmas.{any_here, so_on}
use Rattle.policy_check.proofs.frames_of_same_host.one_goes_out_from.Goals as goal

pub packets-init : goal.packets-init
packets-init c = record { yes = λ any. any; no = λ any. any }

pub packets-preserved : goal.packets-preserved
packets-preserved c =
    so_on (GoesOutFrom (seen_at (section_facts c.args.section.now)) c.args.family c.args.source) (remaining c.args.packets) (remaining c.packets.left)
    (remaining c.next.new.self) (packet_facts c.in-Some.packet) c.packets.invariant c.in-Some.ensures (c.goes_out_from.ensures.no c.if-goes_out_from.false)

pub returns-then-goes_out_from-clause-yes : goal.returns-then-goes_out_from-clause-yes
returns-then-goes_out_from-clause-yes c = λ same.
    let is_so : PacketFacts → Type 0 = GoesOutFrom (seen_at (section_facts c.args.section.now)) c.args.family c.args.source in
    c.packets.invariant.yes (subst (Any is_so) (sym c.in-Some.ensures)
    (any_here is_so (packet_facts c.in-Some.packet) (remaining c.next.new.self) (c.goes_out_from.ensures.yes c.if-goes_out_from.true)))
