-- The beginning and the end of a run over captures that are told while they come.
use Rattle.std.specs.Prelude.{◌≡◌, List, []}
use Rattle.packet_view.specs.Captures.{PacketFacts}
use Rattle.acl_policy.specs.Policies.{IsPolicyText, policy_facts}
use Rattle.session_state.specs.declared.verdict.Verdict.{Verdict}
use Rattle.racl_views.specs.declared.hit_counts.HitCounts.{HitCounts}
use Rattle.racl_runs.specs.Crews.{AreAsAsked, HaveCountedAfter, HaveEndedCounting, Orders, cuts_four, orders_for, orders_of}
use Rattle.racl_runs.specs.declared.counted_judging.Counted.{Counted}
use Rattle.racl_runs.specs.declared.live_run.LiveWay.{LiveWay}
use Rattle.racl_runs.specs.declared.sized_tables_and_workers.SizedCallers.{SizedCallers}
use Rattle.racl_runs.specs.declared.sized_tables_and_workers.SizedTables.{SizedTables}
use Rattle.racl_runs.specs.Runs.{ages_in}

-- workers over these tables, who go by this way and judged no packet
pub record AreBegun {T : Type 0} (way : LiveWay) (tables : SizedTables) (counted : Counted T) : Type 0 where
  pub given : orders_of counted.crew.workers ≡ orders_for tables way.filter.now way.options.now.workers (cuts_four tables)
  pub asked : counted.asked ≡ way.options.now.hits
  pub none : HaveCountedAfter (orders_of counted.crew.workers) counted.asked [] [] counted

-- what stands behind the totals may be told: the workers over these tables have ended, whose verdicts and counts these
-- are
pub record MayTellBehind (way : LiveWay) (tables : SizedTables) (packets : List PacketFacts) (said : List Verdict) (counts : HitCounts)
    (callers : SizedCallers) : Type 0 where
  pub says : IsPolicyText way.text.now (policy_facts way.filter.now.policy.now)
  pub times : way.filter.now.times ≡ way.options.now.times
  pub asked : AreAsAsked way.options.now.tables (ages_in way.options.now) tables
  pub orders : Orders
  pub given : orders ≡ orders_for tables way.filter.now way.options.now.workers (cuts_four tables)
  pub ended : HaveEndedCounting orders way.options.now.hits packets said counts callers
