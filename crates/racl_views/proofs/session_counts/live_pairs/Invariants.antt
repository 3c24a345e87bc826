use Rattle.std.proofs.Common.{◌≡◌, take}
use Rattle.racl_views.specs.Stored.{live_pairs}
use Rattle.racl_views.proofs.session_counts.live_pairs.Given as goal

-- those so far are the live ones
abbrev pub invariant-pairs : goal.invariant-pairs
invariant-pairs g l = l.live.items ≡ live_pairs l.times l.moment (take l.pair-index l.pairs)
