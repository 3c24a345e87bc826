use Rattle.std.proofs.Common.{◌<◌, ◌-◌, ◌^◌}
use Rattle.racl_system.proofs.capture_feeding.Feed.hand_from.Given as goal

-- No read failed.
abbrev pub invariant-parts : goal.invariant-parts
invariant-parts g l = g.R.Source.failures l.source < 2 ^ 64 - 1
