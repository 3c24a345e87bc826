use Rattle.std.proofs.Common.{◌≡◌, take}
use Rattle.racl_views.specs.Hits.{live_among}
use Rattle.racl_views.proofs.session_counts.count_live_sessions.Given as goal

-- those so far are counted
abbrev pub invariant-pairs : goal.invariant-pairs
invariant-pairs g l = l.count ≡ live_among l.times l.moment (take l.pair-index l.pairs)
