use Rattle.std.proofs.Common.{[], ◌≤◌, ◌-◌, length}
use Rattle.std.specs.List.{All}
use Rattle.filter_run.specs.inner.Lanes.{IsLane}
use Rattle.filter_run.proofs.coming_captures.new_lanes.Given as goal

-- no byte came of any of them
abbrev pub invariant-lanes : goal.invariant-lanes
invariant-lanes l = record {
  few : length l.lanes.items ≤ 256;
  empty : All (IsLane [] []) l.lanes.items;
}

abbrev pub decreases-lanes : goal.decreases-lanes
decreases-lanes l = 256 - length l.lanes.items
