-- A policy's text and captures of interfaces that come apart, and what they say (this project's profile).
use Rattle.std.specs.Prelude.{◌≡◌, ◌≤◌, ◌+◌, ◌++◌, ◌⊎◌, ℕ, All, Bool, List, [], ◌∷◌, None, Some, length}
use Rattle.packet_view.specs.Bytes.{AreBytes}
use Rattle.packet_view.specs.Captures.{End, IsCapture, IsCaptureAt, PacketFacts, RecordFacts, end_of}
use Rattle.acl_policy.specs.Policies.{IsAmong, IsPolicyFault, IsPolicyText, PolicyFacts}
use Rattle.acl_policy.specs.declared.policy.PolicyFault.{PolicyFault}
use Rattle.racl_io.specs.declared.capture_bytes.CaptureBytes.{CaptureBytes}
use Rattle.racl_io.specs.declared.fault.Fault.{Fault}
use Rattle.racl_io.specs.declared.fault.Fault.TheVariants.{Twice}
use Rattle.racl_io.specs.declared.totals_and_truncation.Captured.{Captured}
use Rattle.racl_io.specs.Faults.{IsFaultOfCapture, policy_fault}
use Rattle.racl_io.specs.Inputs.{most_bytes}
use Rattle.racl_report.specs.ReadInputs.{told_of}
use Rattle.racl_report.specs.declared.interface_captures.PlacedFault.{PlacedFault}

-- how many bytes captures have in all
abbrev pub bytes_in : List CaptureBytes → ℕ
bytes_in [] = 0
bytes_in (capture ∷ captures) = length capture.bytes.items + bytes_in captures

-- each of these bytes is less than 256
abbrev pub AreAllBytes : List CaptureBytes → Type 0
AreAllBytes captures = All (λ (capture : CaptureBytes). AreBytes capture.bytes.items) captures

-- ---- what they say

-- It is a capture of these packets, which were seen at its interface. No capture before was of it.
pub record IsTakenApart (seen : List ℕ) (capture : CaptureBytes) (packets : List PacketFacts) (captured : Captured) : Type 0 where
  pub first : IsAmong capture.interface seen → ⊥
  pub truncated : Bool
  pub records : IsCaptureAt capture.interface capture.bytes.items packets (end_of truncated)
  pub told : captured ≡ told_of (Some capture.interface) packets truncated

-- they are captures, one after the other, and these are all their packets
abbrev pub AreTakenApart : List ℕ → List CaptureBytes → List PacketFacts → List Captured → Type 0
AreTakenApart seen [] packets told = (packets ≡ []) × (told ≡ [])
AreTakenApart seen (capture ∷ captures) packets told =
    (mine rest : List PacketFacts) × (captured : Captured) × (others : List Captured) × (packets ≡ mine ++ rest)
    × (told ≡ captured ∷ others) × IsTakenApart seen capture mine captured
    × AreTakenApart (capture.interface ∷ seen) captures rest others

-- the text is this policy, and the captures have these packets, one after the other; each byte counts once within what an
-- input may have
pub record IsReadApart (text : List ℕ) (captures : List CaptureBytes) (policy : PolicyFacts) (packets : List PacketFacts) (told : List Captured) : Type 0 where
  pub few : length text + bytes_in captures ≤ most_bytes
  pub says : IsPolicyText text policy
  pub taken : AreTakenApart [] captures packets told

-- ---- their fault

-- it is the second capture of its interface, or the first, and has the fault
abbrev pub IsOwnFault : List ℕ → CaptureBytes → Fault → Type 0
IsOwnFault seen capture fault =
    (IsAmong capture.interface seen × (fault ≡ Twice capture.interface))
    ⊎ ((IsAmong capture.interface seen → ⊥) × IsFaultOfCapture capture.bytes.items fault)

-- the bytes are a capture without fault
abbrev pub IsRightCapture : List ℕ → Type 0
IsRightCapture bytes = (records : List RecordFacts) × (end : End) × IsCapture bytes records end

-- the first of these captures at fault, which are behind so many others, has it
abbrev pub IsFaultBehind : ℕ → List ℕ → List CaptureBytes → PlacedFault → Type 0
IsFaultBehind before seen [] found = ⊥
IsFaultBehind before seen (capture ∷ captures) found =
    ((found.place ≡ Some before) × IsOwnFault seen capture found.fault)
    ⊎ ((IsAmong capture.interface seen → ⊥) × IsRightCapture capture.bytes.items
    × IsFaultBehind (before + 1) (capture.interface ∷ seen) captures found)

-- the policy has the fault, or it is right and the first capture at fault has it
abbrev pub IsFaultApart : List ℕ → List CaptureBytes → PlacedFault → Type 0
IsFaultApart text captures found =
    ((cause : PolicyFault) × IsPolicyFault text cause × (found ≡ record { fault = policy_fault cause; place = None }))
    ⊎ ((policy : PolicyFacts) × IsPolicyText text policy × IsFaultBehind 0 [] captures found)

-- no fault of an input, nor of a capture
abbrev pub placeless : Fault → PlacedFault
placeless fault = record { fault = fault; place = None }
