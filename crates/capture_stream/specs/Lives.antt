-- How often devices failed, where a fault is answered, and what is known of verdicts.
use Rattle.std.specs.Prelude.{◌≡◌, ◌+◌, ◌⊎◌, ℕ, List, length}
use Rattle.packet_view.specs.Captures.{PacketFacts}
use Rattle.session_state.specs.declared.verdict.Verdict.{Verdict}
use Rattle.racl_io.specs.declared.fault.Fault.{Fault}
use Rattle.racl_io.specs.declared.fault.Fault.TheVariants.{Read, Write}

-- once so many bytes were read, no more are
abbrev pub most_live : ℕ
most_live = 4611686018427387904

-- how often a source failed, where this is answered: a read that failed counts
abbrev pub with_read : ℕ → Fault → ℕ
with_read failures Read = failures + 1
with_read failures fault = failures

-- a report's device failed once more or what saves packets did, where this is answered, and neither did elsewhere
abbrev pub HaveFailed : ℕ → ℕ → ℕ → ℕ → Fault → Type 0
HaveFailed written writing saved saving Write = ((writing ≡ written + 1) × (saving ≡ saved)) ⊎ ((writing ≡ written) × (saving ≡ saved + 1))
HaveFailed written writing saved saving fault = (writing ≡ written) × (saving ≡ saved)

-- where what was said is known to be right, it is as much as there are packets
abbrev pub AreCounted : {J : Type 0} → (J → List PacketFacts → List Verdict → Type 0) → Type 0
AreCounted {J} Judged = (begun : J) (packets : List PacketFacts) (said : List Verdict) → Judged begun packets said → length said ≡ length packets
