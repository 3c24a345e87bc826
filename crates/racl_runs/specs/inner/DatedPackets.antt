-- Those who judge packets, and the latest second of these.
use Rattle.std.specs.Prelude.{◌≡◌, List, max, true}
use Rattle.packet_view.specs.Captures.{PacketFacts}
use Rattle.session_state.specs.declared.verdict.Verdict.{Verdict}
use Rattle.racl_runs.specs.declared.dated_judging.Dated.{Dated}
use Rattle.racl_views.specs.Hits.{latest_second}

-- they judged these packets, of which they said this, and the latest second is noted where it is to be
pub record HasDated {J : Type 0} (Became : J → List PacketFacts → List Verdict → J → Type 0) (begun : Dated J) (packets : List PacketFacts)
    (said : List Verdict) (now : Dated J) : Type 0 where
  pub became : Became begun.inner packets said now.inner
  pub noted : now.noted ≡ begun.noted
  pub latest : begun.noted ≡ true → now.latest ≡ max begun.latest (latest_second packets)
