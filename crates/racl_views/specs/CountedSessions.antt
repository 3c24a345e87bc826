-- Sessions that are counted by counts of packets.
use Rattle.std.specs.Prelude.{◌-◌, ℕ}
use Rattle.session_state.specs.declared.timeouts.Timeouts.{Timeouts}
use Rattle.racl_views.specs.Hits.{live_stored}
use Rattle.racl_views.specs.Stored.{StoredFacts}
use Rattle.racl_views.specs.declared.hit_counts.HitCounts.{HitCounts}
use Rattle.racl_views.specs.declared.session_counts.SessionCounts.{SessionCounts}

abbrev pub sessions_by : Timeouts → ℕ → HitCounts → StoredFacts → SessionCounts
sessions_by times latest counts stored = record {
  entered = counts.entered;
  matched = counts.reasons.session;
  expired = counts.entered - live_stored times latest stored;
}
