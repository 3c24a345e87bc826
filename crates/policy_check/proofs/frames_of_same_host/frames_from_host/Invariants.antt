use Rattle.std.proofs.Common.{◌+◌, ◌≤◌, ℕ, length}
use Rattle.packet_view.specs.CheckedCaptures.{remaining}
use Rattle.acl_policy.specs.Policies.{section_facts}
use Rattle.policy_check.specs.SameHost.{ComesInFromHost, IsOfSoMany, seen_at}
use Rattle.policy_check.proofs.frames_of_same_host.frames_from_host.Given as goal

-- those so far, and as many as are left
abbrev pub invariant-packets : goal.invariant-packets
invariant-packets l = record {
  few : l.count + length (remaining l.left) ≤ length (remaining l.packets);
  all : (others : ℕ) → IsOfSoMany (ComesInFromHost (seen_at (section_facts l.section)) (remaining l.packets)) (remaining l.left) others
      → IsOfSoMany (ComesInFromHost (seen_at (section_facts l.section)) (remaining l.packets)) (remaining l.packets) (l.count + others);
}

abbrev pub decreases-packets : goal.decreases-packets
decreases-packets l = length (remaining l.left)
