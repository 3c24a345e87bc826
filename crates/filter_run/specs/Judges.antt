-- Who judges packets: all that it said so far.
use Rattle.std.specs.Prelude.{◌+◌, ◌<◌, ◌++◌, ◌^◌, ℕ, List, length}
use Rattle.packet_view.specs.Captures.{PacketFacts}

-- as what it began, and whatever packets there were so far and whatever it said of them, so many may follow
pub record MayFollow {J V : Type 0} (Became : J → List PacketFacts → List V → J → Type 0) (now : J) (more : ℕ) : Type 0 where
  pub begun : J
  pub packets : List PacketFacts
  pub said : List V
  pub stand : Became begun packets said now
  pub fits : length packets + more < 2 ^ 64

-- these packets, of which it said this, followed those so far, whatever these were
abbrev pub Follows : {J V : Type 0} → (J → List PacketFacts → List V → J → Type 0) → J → List PacketFacts → List V → J → Type 0
Follows {J} {V} Became old more verdicts new = (begun : J) (packets : List PacketFacts) (said : List V) → Became begun packets said old
    → Became begun (packets ++ more) (said ++ verdicts) new
