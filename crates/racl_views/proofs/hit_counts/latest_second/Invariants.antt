use Rattle.std.proofs.Common.{◌≡◌, length, max}
use Rattle.packet_view.specs.CheckedCaptures.{remaining}
use Rattle.racl_views.specs.Hits.{latest_second}
use Rattle.racl_views.proofs.hit_counts.latest_second.Given as goal

-- of the latest so far and those that are left
abbrev pub invariant-packets : goal.invariant-packets
invariant-packets l = max l.latest (latest_second (remaining l.left)) ≡ max l.before (latest_second (remaining l.packets))

abbrev pub decreases-packets : goal.decreases-packets
decreases-packets l = length (remaining l.left)
