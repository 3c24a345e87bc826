use Rattle.std.proofs.Common.{◌≡◌, length, max}
use Rattle.packet_view.specs.CheckedCaptures.{remaining}
use Rattle.capture_shards.specs.OwnRecords.{latest_of}
use Rattle.filter_run.proofs.latest_second.latest_where.Given as goal

-- of the latest so far and those that are left
abbrev pub invariant-packets : goal.invariant-packets
invariant-packets l = max l.latest (latest_of (remaining l.left)) ≡ max l.before (latest_of (remaining l.packets))

abbrev pub decreases-packets : goal.decreases-packets
decreases-packets l = length (remaining l.left)
