-- What is told of an input whose packets were judged (this project's profile).
use Rattle.std.specs.Prelude.{◌≡◌, ◌++◌, ℕ, List, [], if◌then◌else◌}
use Rattle.packet_view.specs.Captures.{PacketFacts}
use Rattle.acl_policy.specs.Policies.{PolicyFacts}
use Rattle.session_state.specs.declared.verdict.Verdict.{Verdict}
use Rattle.racl_options.specs.declared.settings.Lines.{Lines}
use Rattle.racl_options.specs.declared.settings.Lines.TheVariants.{Plain, Explained, Json}
use Rattle.racl_options.specs.declared.settings.Options.{Options}
use Rattle.session_state.specs.declared.shown_verdicts.Shown.{Shown}
use Rattle.racl_io.specs.declared.totals_and_truncation.Captured.{Captured}
use Rattle.racl_io.specs.Inputs.{IsInput, InputFacts}
use Rattle.racl_io.specs.ShownReports.{report_shown}
use Rattle.racl_views.specs.ExplainedLines.{IsExplained}
use Rattle.racl_views.specs.Hits.{AreHits, latest_second}
use Rattle.racl_views.specs.PacketObjects.{IsToldInObjects}
use Rattle.racl_views.specs.RunEntries.{RunFacts}
use Rattle.racl_views.specs.SessionLines.{sessions_told}
use Rattle.racl_views.specs.Stored.{StoredFacts}
use Rattle.racl_views.specs.declared.sessions_as_text_and_json.TextOrJson.{TextOrJson}
use Rattle.racl_views.specs.declared.sessions_as_text_and_json.TextOrJson.TheVariants as view

-- ---- outcomes

-- what the packets met, and what is told of their captures
pub record Outcome : Type 0 where
  pub verdicts : List Verdict
  pub captures : List Captured

-- what came of the packets of an input, and which sessions stand in the tables at the end
pub record JudgedFacts : Type 0 where
  pub outcome : Outcome
  pub stored : StoredFacts

-- ---- reports

-- the lines of packets and the totals, in the form that is asked for
abbrev pub AreLines : Lines → RunFacts → List ℕ → Type 0
AreLines Plain run lines = lines ≡ report_shown run.shown run.verdicts run.captures
AreLines Explained run lines = IsExplained run lines
AreLines Json run lines = IsToldInObjects run lines

-- a run as its lines tell it
abbrev pub told_facts : PolicyFacts → List ℕ → List PacketFacts → Outcome → Shown → RunFacts
told_facts policy text packets outcome shown =
    record { policy = policy; text = text; packets = packets; verdicts = outcome.verdicts; captures = outcome.captures; shown = shown }

-- the form of what is told behind lines of this form
abbrev pub view_behind : Lines → TextOrJson
view_behind Plain = view.Text
view_behind Explained = view.Text
view_behind Json = view.Json

-- the sessions, where they are asked for
abbrev pub sessions_behind : Options → StoredFacts → List ℕ
sessions_behind options stored = if options.sessions then sessions_told (view_behind options.lines) options.times stored else []

-- what is told of a run under a policy with this text: its lines, and behind them the hits and the sessions, where these are
-- asked for
pub record IsReportOn (options : Options) (text : List ℕ) (policy : PolicyFacts) (packets : List PacketFacts) (judged : JudgedFacts) (report : List ℕ) : Type 0 where
  pub lines : List ℕ
  pub are : AreLines options.lines (told_facts policy text packets judged.outcome options.shown) lines
  pub hits : List ℕ
  pub told : AreHits options.hits (view_behind options.lines) options.times (latest_second packets) (told_facts policy text packets judged.outcome options.shown) judged.stored hits
  pub all : report ≡ lines ++ (hits ++ sessions_behind options judged.stored)

-- what is told of a run on an input
pub record IsReport (options : Options) (bytes : List ℕ) (policy : PolicyFacts) (packets : List PacketFacts) (judged : JudgedFacts) (report : List ℕ) : Type 0 where
  pub parts : InputFacts
  pub parted : IsInput bytes parts
  pub on : IsReportOn options parts.policy policy packets judged report
