-- What stands behind the totals of a report on packets that were told while they came.
use Rattle.std.specs.Prelude.{◌≡◌, true, List, ℕ}
use Rattle.acl_policy.specs.Policies.{IsPolicyText}
use Rattle.racl_options.specs.declared.settings.Options.{Options}
use Rattle.racl_views.specs.HitCounts.{HaveCounted}
use Rattle.racl_views.specs.Hits.{AreHits}
use Rattle.racl_views.specs.RunEntries.{RunFacts}
use Rattle.racl_views.specs.Stored.{StoredFacts}
use Rattle.racl_views.specs.declared.hit_counts.HitCounts.{HitCounts}
use Rattle.racl_report.specs.RunReports.{sessions_behind, view_behind}
use Rattle.racl_report.specs.declared.text_behind_totals.Behind.{Behind}

-- the hits of any run whose policy's text this is and whose packets were counted so, with its sessions counted at this second, and
-- the sessions, where these are asked for
pub record IsBehind (options : Options) (text : List ℕ) (latest : ℕ) (counts : HitCounts) (stored : StoredFacts) (behind : Behind) : Type 0 where
  pub hits : (run : RunFacts) → run.text ≡ text → IsPolicyText run.text run.policy
      → (options.hits ≡ true → HaveCounted run.policy run.packets run.verdicts counts)
      → AreHits options.hits (view_behind options.lines) options.times latest run stored behind.hits.items
  pub sessions : behind.sessions.items ≡ sessions_behind options stored
