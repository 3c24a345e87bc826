use Rattle.std.proofs.Common.{◌≡◌, ◌++◌, ◌+◌, length, map}
use Rattle.packet_view.specs.CheckedCaptures.{remaining}
use Rattle.filter_run.specs.Both.{firsts, seconds}
use Rattle.compared_verdicts.specs.Changes.{change_facts, changes_from, pair_facts}
use Rattle.compared_verdicts.proofs.changed_packets.changed_packets.Given as goal

-- those among the packets so far
abbrev pub invariant-packets : goal.invariant-packets
invariant-packets l = record {
  counted : l.number + length l.left ≡ l.fn.first + length l.fn.said;
  told : map change_facts l.changes.items ++ changes_from (pair_facts l.fn.policies) l.number (firsts l.left) (seconds l.left) (remaining l.packets)
      ≡ changes_from (pair_facts l.fn.policies) l.fn.first (firsts l.fn.said) (seconds l.fn.said) (remaining l.fn.packets);
}

abbrev pub decreases-packets : goal.decreases-packets
decreases-packets l = length l.left
