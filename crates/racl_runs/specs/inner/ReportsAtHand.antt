-- A report on captures of which all bytes are at hand.
use Rattle.std.specs.Prelude.{◌≡◌, ◌++◌, ℕ, List, Option, length}
use Rattle.std.specs.Io.KnownBytes.{Appends}
use Rattle.packet_view.specs.Captures.{PacketFacts}
use Rattle.acl_policy.specs.Policies.{PolicyFacts}
use Rattle.session_state.specs.declared.verdict.Verdict.{Verdict}
use Rattle.racl_options.specs.declared.settings.Options.{Options}
use Rattle.racl_io.specs.declared.totals_and_truncation.Captured.{Captured}
use Rattle.racl_io.specs.declared.totals_and_truncation.Totals.{Totals}
use Rattle.racl_io.specs.Reports.{totals_of}
use Rattle.racl_io.specs.Tellings.{Wording, report_in}
use Rattle.racl_views.specs.Hits.{latest_second}
use Rattle.racl_runs.specs.LiveRuns.{IsToldBehind}

-- workers gave verdicts on these packets, and behind what was written before stands what is told of their captures in turn, and what
-- stands behind that
pub record HasToldAtHand (options : Options) (text : List ℕ) (policy : PolicyFacts) (wording : Wording) (packets : List PacketFacts) (told : List Captured)
    (old new : Option (List ℕ)) (totals : Totals) : Type 0 where
  pub verdicts : List Verdict
  pub count : length verdicts ≡ length packets
  pub behind : List ℕ
  pub is_behind : IsToldBehind options text policy packets verdicts (latest_second packets) behind
  pub written : Appends old new (report_in wording packets verdicts told ++ behind)
  pub counted : totals ≡ totals_of verdicts told
