-- What has judged packets, one part after the other: all that it became so far.
use Rattle.std.specs.Prelude.{◌+◌, ◌<◌, ◌++◌, ◌^◌, ℕ, List, length}
use Rattle.packet_view.specs.Captures.{PacketFacts}
use Rattle.session_state.specs.declared.verdict.Verdict.{Verdict}

-- as what it began, and whatever packets there were so far and whatever it said of them, so many may follow
pub record MayFollow {J : Type 0} (Became : J → List PacketFacts → List Verdict → J → Type 0) (now : J) (more : ℕ) : Type 0 where
  pub begun : J
  pub packets : List PacketFacts
  pub said : List Verdict
  pub stand : Became begun packets said now
  pub fits : length packets + more < 2 ^ 64

-- these packets, of which it said this, followed those so far, whatever these were
abbrev pub Follows : {J : Type 0} → (J → List PacketFacts → List Verdict → J → Type 0) → J → List PacketFacts → List Verdict → J → Type 0
Follows {J} Became old more verdicts new = (begun : J) (packets : List PacketFacts) (said : List Verdict) → Became begun packets said old
    → Became begun (packets ++ more) (said ++ verdicts) new

-- all that it said so far is known to be right, whatever it was
abbrev pub AreRight : {J : Type 0} → (J → List PacketFacts → List Verdict → J → Type 0) → (J → List PacketFacts → List Verdict → Type 0)
    → J → List PacketFacts → List Verdict → Type 0
AreRight {J} Became Judged old more verdicts = (begun : J) (packets : List PacketFacts) (said : List Verdict) → Became begun packets said old
    → Judged begun (packets ++ more) (said ++ verdicts)
