-- Who judges by one policy: what it became, and what is known of its verdicts.
use Rattle.std.specs.Prelude.{◌≡◌, ◌≢◌, List, [], length}
use Rattle.packet_view.specs.Captures.{PacketFacts}
use Rattle.session_state.specs.declared.verdict.Verdict.{Verdict}
use Rattle.capture_stream.specs.Lives.{AreCounted}

-- it became this of the one that began, after these packets, of which it said this; and that is right
pub record HasSaid {J : Type 0} (Became : J → List PacketFacts → List Verdict → J → Type 0) (Judged : J → List PacketFacts → List Verdict → Type 0)
    (begun : J) (packets : List PacketFacts) (said : List Verdict) (now : J) : Type 0 where
  pub stand : Became begun packets said now
  pub judged : packets ≢ [] → Judged begun packets said
  pub counts : AreCounted Judged
  pub each : length said ≡ length packets
