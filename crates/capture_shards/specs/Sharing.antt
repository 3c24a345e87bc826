-- How the packets of a shard are told (this project's profile).
use Rattle.std.specs.Prelude.{◌+◌, ◌++◌, ℕ, if◌then◌else◌, List, [], ◌∷◌}
use Rattle.packet_view.specs.Captures.{PacketFacts}
use Rattle.session_state.specs.declared.verdict.Verdict.{Verdict}
use Rattle.racl_io.specs.Tellings.{Wording}
use Rattle.capture_shards.specs.Shards.{Own}

-- the numbers of one's own packets
abbrev pub own_numbers : Own → ℕ → List PacketFacts → List ℕ
own_numbers own n [] = []
own_numbers own n (packet ∷ packets) = if own n packet then n ∷ own_numbers own (n + 1) packets else own_numbers own (n + 1) packets

-- what is told of packets with these numbers
abbrev pub lines_at : Wording → List ℕ → List PacketFacts → List Verdict → List ℕ
lines_at wording (n ∷ numbers) (packet ∷ packets) (verdict ∷ verdicts) = wording.line n packet verdict ++ lines_at wording numbers packets verdicts
lines_at wording numbers packets verdicts = []
