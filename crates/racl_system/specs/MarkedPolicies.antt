-- Files of policies that are refused before a run: too large ones, and such with a marker line (this project's profile).
use Rattle.std.specs.Prelude.{◌≡◌, ◌<◌, ◌⊎◌, ℕ, List, Option, IfSome, length}
use Rattle.acl_policy.specs.Policies.{IsPolicyFault, IsPolicyText, PolicyFacts}
use Rattle.acl_policy.specs.declared.policy.PolicyFault.{PolicyFault}
use Rattle.racl_io.specs.Faults.{policy_fault}
use Rattle.racl_io.specs.Inputs.{InputFacts, IsInput, most_bytes}
use Rattle.racl_io.specs.declared.fault.Fault.{Fault}
use Rattle.racl_io.specs.declared.fault.Fault.TheVariants.{Memory, Read, TooLarge}
use Rattle.racl_system.specs.PolicyTexts.{ended_lines}

-- no marker line stands in the text, unless all of it is a policy
abbrev pub IsUnmarked : List ℕ → Type 0
IsUnmarked text = (parts : InputFacts) → IsInput text parts → (policy : PolicyFacts) × IsPolicyText text policy

-- one does, and this is the fault of the text as that of a policy
abbrev pub IsMarkedFault : List ℕ → Fault → Type 0
IsMarkedFault text fault = ((parts : InputFacts) × IsInput text parts) × ((cause : PolicyFault) × IsPolicyFault text cause × (fault ≡ policy_fault cause))

-- why a policy's file with these bytes is refused: an input may not have so many, or else there is a marker line
abbrev pub IsFileFault : List ℕ → Fault → Type 0
IsFileFault bytes fault = ((most_bytes < length bytes) × (fault ≡ TooLarge)) ⊎ IsMarkedFault (ended_lines bytes) fault

-- why a file whose bytes are these, as far as they are known, isn't held: memory ran out, a read failed, or it is refused
abbrev pub IsUnheld : Option (List ℕ) → Fault → Type 0
IsUnheld bytes fault = (fault ≡ Memory) ⊎ ((fault ≡ Read) ⊎ IfSome bytes (λ all. IsFileFault all fault))

-- 1 where the file, as far as its bytes are known, is refused, and else 4
abbrev pub IsFileStatus : Option (List ℕ) → ℕ → Type 0
IsFileStatus bytes status = (status ≡ 4) ⊎ ((status ≡ 1) × IfSome bytes (λ all. (fault : Fault) × IsFileFault all fault))
