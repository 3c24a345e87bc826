-- Captures whose bytes are at hand, one after the other: their packets, and what is told of each.
use Rattle.std.specs.Prelude.{◌≡◌, Bool, List, [], ◌∷◌, ◌++◌, length}
use Rattle.packet_view.specs.Captures.{IsCaptureAt, PacketFacts, end_of}
use Rattle.racl_io.specs.declared.capture_bytes.CaptureBytes.{CaptureBytes}
use Rattle.racl_io.specs.declared.totals_and_truncation.Captured.{Captured}

-- the bytes are a capture of these packets, and what is told of it counts them and says how it ends
pub record IsToldAs (capture : CaptureBytes) (captured : Captured) (packets : List PacketFacts) : Type 0 where
  pub truncated : Bool
  pub records : IsCaptureAt capture.interface capture.bytes.items packets (end_of truncated)
  pub count : captured.packets ≡ length packets
  pub cut : captured.truncated ≡ truncated

-- each capture has its own packets, and this is told of each
abbrev pub HavePacketsTold : List CaptureBytes → List Captured → List PacketFacts → Type 0
HavePacketsTold [] told packets = (told ≡ []) × (packets ≡ [])
HavePacketsTold (capture ∷ captures) told packets =
    (mine rest : List PacketFacts) × (captured : Captured) × (others : List Captured) × (packets ≡ mine ++ rest) × (told ≡ captured ∷ others)
    × IsToldAs capture captured mine × HavePacketsTold captures others rest
