-- The policy and the packets of an input, from its bytes.
use Rattle.std.specs.Prelude.{◌≡◌, ◌≤◌, ◌++◌, ℕ, Bool, List, [], ◌∷◌, length, Option, None, Some}
use Rattle.packet_view.specs.Captures.{IsCaptureAt, PacketFacts, end_of}
use Rattle.acl_policy.specs.Policies.{IsAmong, IsPolicyText, PolicyFacts}
use Rattle.racl_io.specs.declared.marker_line.Form.{Form}
use Rattle.racl_io.specs.declared.marker_line.Form.TheVariants.{Binary, Hexadecimal, Numbered}
use Rattle.racl_io.specs.declared.totals_and_truncation.Captured.{Captured}
use Rattle.racl_io.specs.Inputs.{AreCaptures, DigitsFacts, IsContent, IsInput, InputFacts, most_bytes}

-- what is told of a capture of these packets, whose interface the report names or doesn't
abbrev pub told_of : Option ℕ → List PacketFacts → Bool → Captured
told_of named packets truncated = record { named = named; packets = length packets; truncated = truncated }

-- The content is one capture of these packets, which were seen at interface 0, and the report doesn't name it.
pub record IsAlone (form : Form) (content : List ℕ) (packets : List PacketFacts) (captures : List Captured) : Type 0 where
  pub capture : List ℕ
  pub spelt : IsContent form content capture
  pub truncated : Bool
  pub records : IsCaptureAt 0 capture packets (end_of truncated)
  pub told : captures ≡ told_of None packets truncated ∷ []

-- The digits are a capture of these packets, which were seen at its interface. No capture before was of it.
pub record IsTaken (seen : List ℕ) (digits : DigitsFacts) (packets : List PacketFacts) (captured : Captured) : Type 0 where
  pub first : IsAmong digits.interface seen → ⊥
  pub capture : List ℕ
  pub spelt : IsContent Hexadecimal digits.digits capture
  pub truncated : Bool
  pub records : IsCaptureAt digits.interface capture packets (end_of truncated)
  pub told : captured ≡ told_of (Some digits.interface) packets truncated

-- The digits are captures, one after the other, and these are all their packets.
abbrev pub AreTaken : List ℕ → List DigitsFacts → List PacketFacts → List Captured → Type 0
AreTaken seen [] packets captures = (packets ≡ []) × (captures ≡ [])
AreTaken seen (digits ∷ others) packets captures =
    (mine rest : List PacketFacts) × (captured : Captured) × (told : List Captured) × (packets ≡ mine ++ rest)
    × (captures ≡ captured ∷ told) × IsTaken seen digits mine captured
    × AreTaken (digits.interface ∷ seen) others rest told

-- what stands after the marker line: one capture, or those of interfaces with numbers
abbrev pub HasPackets : Form → List ℕ → List PacketFacts → List Captured → Type 0
HasPackets Binary content packets captures = IsAlone Binary content packets captures
HasPackets Hexadecimal content packets captures = IsAlone Hexadecimal content packets captures
HasPackets (Numbered number) content packets captures =
    (all : List DigitsFacts) × AreCaptures number content all × AreTaken [] all packets captures

-- The bytes are an input, and no more than one may have: this policy, a marker line, and captures of these packets, one after
-- the other.
pub record IsRead (bytes : List ℕ) (policy : PolicyFacts) (packets : List PacketFacts) (captures : List Captured) : Type 0 where
  pub few : length bytes ≤ most_bytes
  pub parts : InputFacts
  pub parted : IsInput bytes parts
  pub says : IsPolicyText parts.policy policy
  pub content : HasPackets parts.form parts.content packets captures
