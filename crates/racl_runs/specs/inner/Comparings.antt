-- Workers whose verdicts are compared with expected ones.
use Rattle.std.specs.Prelude.{◌≡◌, List, length}
use Rattle.packet_view.specs.Captures.{PacketFacts}
use Rattle.session_state.specs.declared.verdict.Verdict.{Verdict}
use Rattle.compared_verdicts.specs.Meeting.{unmet_from}
use Rattle.compared_verdicts.specs.declared.expectation.Expectation.{Expectation}
use Rattle.racl_runs.specs.Crews.{HaveSaidAfter, Orders}
use Rattle.racl_runs.specs.declared.compared_judging.Comparing.{Comparing}

-- with these orders, after these packets, of which they handed over this
pub record HasComparedAfter {T : Type 0} (orders : Orders) (expectations : List Expectation) (packets : List PacketFacts) (said : List Verdict)
    (comparing : Comparing T) : Type 0 where
  pub after : HaveSaidAfter orders packets said comparing.crew.workers
  pub each : length said ≡ length packets
  pub same : comparing.expectations.now ≡ expectations
  pub counted : comparing.judged ≡ length said
  pub compared : comparing.unmet ≡ unmet_from expectations 1 said
