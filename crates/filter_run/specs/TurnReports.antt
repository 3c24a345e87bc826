-- The report on captures in turn, whose bytes are at hand (this project's profile).
use Rattle.std.specs.Prelude.{◌≡◌, ◌≢◌, ℕ, Bool, List, [], Option, length, true}
use Rattle.std.specs.Io.KnownBytes.{Appends}
use Rattle.packet_view.specs.Captures.{PacketFacts}
use Rattle.session_state.specs.declared.verdict.Verdict.{Verdict}
use Rattle.racl_io.specs.Reports.{totals_of}
use Rattle.racl_io.specs.Tellings.{Wording, turns_in}
use Rattle.racl_io.specs.declared.totals_and_truncation.Captured.{Captured}
use Rattle.capture_shards.specs.OwnRecords.{latest_of}
use Rattle.filter_run.specs.declared.turn_report.ReportedTurns.{ReportedTurns}

-- of each of these packets something was said, the report tells it, one capture after the other, and these are the totals
pub record HasToldInTurn {J : Type 0} (Became : J → List PacketFacts → List Verdict → J → Type 0) (Judged : J → List PacketFacts → List Verdict → Type 0)
    (wording : Wording) (begun : J) (told : List Captured) (packets : List PacketFacts) (noted : Bool) (old new : Option (List ℕ)) (reported : ReportedTurns J) : Type 0 where
  pub verdicts : List Verdict
  pub stand : Became begun packets verdicts reported.judges
  pub judged : packets ≢ [] → Judged begun packets verdicts
  pub count : length verdicts ≡ length packets
  pub text : Appends old new (turns_in wording 1 packets verdicts told)
  pub totals : reported.totals ≡ totals_of verdicts told
  pub latest : noted ≡ true → reported.latest ≡ latest_of packets
