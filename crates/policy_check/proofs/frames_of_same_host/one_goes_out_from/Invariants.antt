use Rattle.std.proofs.Common.{length}
use Rattle.packet_view.specs.CheckedCaptures.{remaining}
use Rattle.acl_policy.specs.Policies.{section_facts}
use Rattle.policy_check.specs.SameHost.{GoesOutFrom, seen_at}
use Rattle.policy_check.proofs.HostLemmas.{SoOfLeft}
use Rattle.policy_check.proofs.frames_of_same_host.one_goes_out_from.Given as goal

-- none so far
abbrev pub invariant-packets : goal.invariant-packets
invariant-packets l = SoOfLeft (GoesOutFrom (seen_at (section_facts l.section)) l.family l.source) (remaining l.packets) (remaining l.left)

abbrev pub decreases-packets : goal.decreases-packets
decreases-packets l = length (remaining l.left)
