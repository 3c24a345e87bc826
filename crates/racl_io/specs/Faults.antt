-- Which fault an input has: the first whose cause stands, in the order size, marker line, policy, and for one capture
-- after the other: a second one of its interface, digits, capture.
use Rattle.std.specs.Prelude.{◌≡◌, ◌≤◌, ◌<◌, ◌⊎◌, ℕ, List, [], ◌∷◌, length, Result, MatchResult}
use Rattle.packet_view.specs.Captures.{End, IsCapture, IsCaptureFault, RecordFacts}
use Rattle.packet_view.specs.declared.capture.CaptureFault.{CaptureFault}
use Rattle.packet_view.specs.declared.capture.CaptureFault.TheVariants as capture
use Rattle.acl_policy.specs.Policies.{IsAmong, PolicyFacts, IsPolicyFault, IsPolicyText}
use Rattle.acl_policy.specs.declared.policy.PolicyFault.{PolicyFault}
use Rattle.acl_policy.specs.declared.policy.PolicyFault.TheVariants as policy
use Rattle.racl_io.specs.declared.fault.Fault.{Fault}
use Rattle.racl_io.specs.declared.fault.Fault.TheVariants.{Memory, Read, TooLarge, NoCapture, NotUtf8, BadLine, TooMany, Hex, Short, Magic, Version, LinkType, LongRecord, Twice, Write}
use Rattle.racl_io.specs.Inputs.{AreCaptures, DigitsFacts, IsContent, IsInput, InputFacts, most_bytes}
use Rattle.racl_io.specs.declared.marker_line.Form.{Form}
use Rattle.racl_io.specs.declared.marker_line.Form.TheVariants.{Binary, Hexadecimal, Numbered}

-- the program's fault for one of the policy
abbrev pub policy_fault : PolicyFault → Fault
policy_fault policy.Memory = Memory
policy_fault policy.NotUtf8 = NotUtf8
policy_fault (policy.BadLine number) = BadLine number
policy_fault (policy.TooMany number) = TooMany number

-- the program's fault for one of the capture
abbrev pub capture_fault : CaptureFault → Fault
capture_fault capture.Short = Short
capture_fault capture.Magic = Magic
capture_fault capture.Version = Version
capture_fault capture.LinkType = LinkType
capture_fault (capture.LongRecord number) = LongRecord number
capture_fault capture.Memory = Memory

abbrev pub IsFaultOfCapture : List ℕ → Fault → Type 0
IsFaultOfCapture capture fault = (cause : CaptureFault) × IsCaptureFault capture cause × (fault ≡ capture_fault cause)

-- the content of one capture isn't hexadecimal digits, two for each byte, or its capture has the fault
abbrev pub IsFaultOfOne : Form → List ℕ → Fault → Type 0
IsFaultOfOne form content fault =
    ((fault ≡ Hex) × ((capture : List ℕ) → IsContent form content capture → ⊥))
    ⊎ ((capture : List ℕ) × IsContent form content capture × IsFaultOfCapture capture fault)

-- these digits are a capture without fault
abbrev pub IsRight : List ℕ → Type 0
IsRight digits = (capture : List ℕ) × (records : List RecordFacts) × (end : End) × IsContent Hexadecimal digits capture × IsCapture capture records end

-- The first of these captures at fault has it, behind those of the interfaces that were seen: it is the second one of its
-- interface; or it is the first, and its digits have the fault.
abbrev pub IsFaultOfCaptures : List ℕ → List DigitsFacts → Fault → Type 0
IsFaultOfCaptures seen [] fault = ⊥
IsFaultOfCaptures seen (first ∷ others) fault =
    (IsAmong first.interface seen × (fault ≡ Twice first.interface))
    ⊎ ((IsAmong first.interface seen → ⊥)
    × (IsFaultOfOne Hexadecimal first.digits fault
    ⊎ (IsRight first.digits × IsFaultOfCaptures (first.interface ∷ seen) others fault)))

-- what stands after the marker line is one capture that has the fault, or captures with numbers of which one has it
abbrev pub IsFaultOfContent : Form → List ℕ → Fault → Type 0
IsFaultOfContent Binary content fault = IsFaultOfOne Binary content fault
IsFaultOfContent Hexadecimal content fault = IsFaultOfOne Hexadecimal content fault
IsFaultOfContent (Numbered number) content fault =
    (captures : List DigitsFacts) × AreCaptures number content captures × IsFaultOfCaptures [] captures fault

-- the policy has the fault, or it is right and the content has it
abbrev pub IsFaultOfParts : InputFacts → Fault → Type 0
IsFaultOfParts parts fault =
    ((cause : PolicyFault) × IsPolicyFault parts.policy cause × (fault ≡ policy_fault cause))
    ⊎ ((policy : PolicyFacts) × IsPolicyText parts.policy policy × IsFaultOfContent parts.form parts.content fault)

-- there is no marker line, or what stands around the first one has the fault
abbrev pub IsFaultOfBytes : List ℕ → Fault → Type 0
IsFaultOfBytes bytes fault =
    ((fault ≡ NoCapture) × ((parts : InputFacts) → IsInput bytes parts → ⊥))
    ⊎ ((parts : InputFacts) × IsInput bytes parts × IsFaultOfParts parts fault)

abbrev pub IsInputFault : List ℕ → Fault → Type 0
IsInputFault bytes fault =
    ((fault ≡ TooLarge) × (most_bytes < length bytes))
    ⊎ ((length bytes ≤ most_bytes) × IsFaultOfBytes bytes fault)

-- nothing is answered but this fault, or that memory ran out
abbrev pub Refuses : {X : Type 0} → Fault → Result X Fault → Type 0
Refuses fault result = MatchResult result (λ _. ⊥) (λ found. (found ≡ fault) ⊎ (found ≡ Memory))

-- nothing but this fault, that memory ran out, or that a device failed
abbrev pub RefusesRead : {X : Type 0} → Fault → Result X Fault → Type 0
RefusesRead fault result = MatchResult result (λ _. ⊥) (λ found. (found ≡ fault) ⊎ (found ≡ Memory) ⊎ (found ≡ Read))

-- no fault of the input: memory ran out, or a device failed
abbrev pub IsSystemFault : Fault → Type 0
IsSystemFault Memory = Unit {0}
IsSystemFault Read = Unit {0}
IsSystemFault Write = Unit {0}
IsSystemFault _ = ⊥
