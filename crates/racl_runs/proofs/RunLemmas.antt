-- The faults of an input are those of its parts.
use Rattle.std.proofs.Common.{◌≡◌, ◌≢◌, ◌≤◌, ◌∙◌, ◌⊎◌, ℕ, List, [], ◌∷◌, Option, Some, None, IfErr, IfSome, Result, Ok, Err, length, arith, refl, sym, ap, subst, inl, inr}
use Rattle.acl_policy.specs.Policies.{IsPolicyFault, IsPolicyText, PolicyFacts}
use Rattle.acl_policy.specs.declared.policy.PolicyFault.{PolicyFault}
use Rattle.acl_policy.specs.declared.policy.PolicyFault.TheVariants as policy
use Rattle.racl_io.specs.declared.fault.Fault.{Fault}
use Rattle.racl_io.specs.declared.fault.Fault.TheVariants.{Memory, Read, NoCapture, Write}
use Rattle.racl_io.specs.declared.marker_line.Form.{Form}
use Rattle.racl_io.specs.Faults.{IsSystemFault, IsFaultOfBytes, IsFaultOfCaptures, IsFaultOfContent, IsFaultOfOne, IsFaultOfParts, IsInputFault, capture_fault, policy_fault}
use Rattle.racl_io.specs.declared.marker_line.Form.TheVariants.{Binary, Hexadecimal, Numbered}
use Rattle.racl_io.specs.Inputs.{DigitsFacts, IsInput, InputFacts, most_bytes}
use Rattle.racl_io.specs.Transfers.{HasReadWithin, failures_after_reads}
use Rattle.racl_io.proofs.InputLemmas.{one_input}
use Rattle.racl_io.proofs.TransferLemmas.{gave_none}
use Rattle.racl_options.specs.declared.settings.Options.{Options}
use Rattle.packet_view.specs.declared.capture.CaptureFault.{CaptureFault}
use Rattle.packet_view.specs.declared.capture.CaptureFault.TheVariants as capture
use Rattle.racl_runs.specs.Reads.{AnswersInput}

-- where the parts are known, the input has no fault but theirs
pub fault_of_known_parts : (bytes : List ℕ) (parts : InputFacts) (fault : Fault) → IsInput bytes parts → IsFaultOfBytes bytes fault → IsFaultOfParts parts fault
fault_of_known_parts bytes parts fault is (inl (same, none)) = absurd (none parts is)
fault_of_known_parts bytes parts fault is (inr (other, parted, of)) = subst (λ p. IsFaultOfParts p fault) (one_input bytes other parts parted is) of

-- where there are none, that is the fault
pub fault_without_parts : (bytes : List ℕ) (fault : Fault) → ((parts : InputFacts) → IsInput bytes parts → ⊥) → IsFaultOfBytes bytes fault → fault ≡ NoCapture
fault_without_parts bytes fault none (inl (same, none')) = same
fault_without_parts bytes fault none (inr (parts, parted, of)) = absurd (none parts parted)

-- where the policy is refused for a cause or since memory ran out, that is the program's fault
pub fault_of_wrong_policy : (parts : InputFacts) (found : PolicyFault) (fault : Fault)
    → ((right : PolicyFacts) → IsPolicyText parts.policy right → found ≡ policy.Memory)
    → ((cause : PolicyFault) → IsPolicyFault parts.policy cause → (found ≡ cause) ⊎ (found ≡ policy.Memory))
    → IsFaultOfParts parts fault → (policy_fault found ≡ fault) ⊎ (policy_fault found ≡ Memory)
fault_of_wrong_policy parts found fault accepts refuses (inl (cause, is, same)) =
    elim (refuses cause is) [ inl e ↦ inl (ap policy_fault e ∙ sym same) | inr e ↦ inr (ap policy_fault e) ]
fault_of_wrong_policy parts found fault accepts refuses (inr (right, says, of)) = inr (ap policy_fault (accepts right says))

-- where the policy is right, only the content has a fault
pub fault_of_right_policy : (parts : InputFacts) (fault : Fault) → ((cause : PolicyFault) → IsPolicyFault parts.policy cause → ⊥)
    → IsFaultOfParts parts fault → IsFaultOfContent parts.form parts.content fault
fault_of_right_policy parts fault refuses (inl (cause, is, same)) = absurd (refuses cause is)
fault_of_right_policy parts fault refuses (inr (right, says, of)) = of

-- what was read is the input, where that is known
pub record IsWhole (known : Option (List ℕ)) (bytes : List ℕ) : Type 0 where
  pub whole : IfSome known (λ input. bytes ≡ input)
  pub few : length bytes ≤ most_bytes

-- a fault of the bytes is one of the input
pub fault_of_input : (known : Option (List ℕ)) (bytes : List ℕ) (fault : Fault) → IsWhole known bytes → IsFaultOfBytes bytes fault → IfSome known (λ input. IsInputFault input fault)
fault_of_input None bytes fault read of = tt
fault_of_input (Some input) bytes fault read of = subst (λ b. IsInputFault b fault) read.whole (inr (read.few, of))

fault_of_few : (bytes : List ℕ) (fault : Fault) → length bytes ≤ most_bytes → IsInputFault bytes fault → IsFaultOfBytes bytes fault
fault_of_few bytes fault few (inl (same, many)) = absurd (omega (arith, few, many))
fault_of_few bytes fault few (inr (fits, of)) = of

-- what a fault of the bytes excludes, a fault of the input excludes
pub excluded_by_input : (known : Option (List ℕ)) (bytes : List ℕ) (Excludes : Fault → Type 0) → IsWhole known bytes
    → ((fault : Fault) → IsFaultOfBytes bytes fault → Excludes fault) → IfSome known (λ input. (fault : Fault) → IsInputFault input fault → Excludes fault)
excluded_by_input None bytes Excludes read excludes = tt
excluded_by_input (Some input) bytes Excludes read excludes = λ fault of.
    excludes fault (fault_of_few bytes fault read.few (subst (λ b. IsInputFault b fault) (sym read.whole) of))

-- a fault is that memory ran out, or a device's, or what else it is said to be
pub device_or : (fault : Fault) (P : Type 0) → (fault ≢ Memory → P) → IsSystemFault fault ⊎ P
device_or Memory P other = inl tt
device_or Read P other = inl tt
device_or Write P other = inl tt
device_or fault P other = inr (other (λ same. cc))

-- ---- no fault of an input is a failure of a device

abbrev IsOfInput : Fault → Type 0
IsOfInput Read = ⊥
IsOfInput Write = ⊥
IsOfInput _ = Unit {0}

policy_of_input : (cause : PolicyFault) → IsOfInput (policy_fault cause)
policy_of_input policy.Memory = tt
policy_of_input cause = tt

capture_of_input : (cause : CaptureFault) → IsOfInput (capture_fault cause)
capture_of_input capture.Short = tt
capture_of_input cause = tt

one_of_input : (form : Form) (content : List ℕ) (fault : Fault) → IsFaultOfOne form content fault → IsOfInput fault
one_of_input form content fault (inl (same, none)) = subst IsOfInput (sym same) tt
one_of_input form content fault (inr (capture, spelt, (cause, is, same))) = subst IsOfInput (sym same) (capture_of_input cause)

captures_of_input : (seen : List ℕ) (all : List DigitsFacts) (fault : Fault) → IsFaultOfCaptures seen all fault → IsOfInput fault
captures_of_input seen [] fault of = absurd of
captures_of_input seen (first ∷ others) fault (inl (among, same)) = subst IsOfInput (sym same) tt
captures_of_input seen (first ∷ others) fault (inr (new, inl of)) = one_of_input Hexadecimal first.digits fault of
captures_of_input seen (first ∷ others) fault (inr (new, inr (right, of))) = captures_of_input (first.interface ∷ seen) others fault of

content_of_input : (form : Form) (content : List ℕ) (fault : Fault) → IsFaultOfContent form content fault → IsOfInput fault
content_of_input Binary content fault of = one_of_input Binary content fault of
content_of_input Hexadecimal content fault of = one_of_input Hexadecimal content fault of
content_of_input (Numbered number) content fault (all, cut, of) = captures_of_input [] all fault of

bytes_of_input : (bytes : List ℕ) (fault : Fault) → IsFaultOfBytes bytes fault → IsOfInput fault
bytes_of_input bytes fault (inl (same, none)) = subst IsOfInput (sym same) tt
bytes_of_input bytes fault (inr (parts, parted, inl (cause, is, same))) = subst IsOfInput (sym same) (policy_of_input cause)
bytes_of_input bytes fault (inr (parts, parted, inr (right, says, of))) = content_of_input parts.form parts.content fault of

-- what is answered of bytes is no failure of a device
pub no_device : (options : Options) (bytes : List ℕ) (fault : Fault) → AnswersInput options bytes (Err fault) → (fault ≡ Read → ⊥) × (fault ≡ Write → ⊥)
no_device options bytes fault answers = (
  (λ same. subst IsOfInput same (bytes_of_input bytes fault (answers.fault (λ memory. let f : ⊥ = cc in f)))),
  (λ same. subst IsOfInput same (bytes_of_input bytes fault (answers.fault (λ memory. let f : ⊥ = cc in f)))),
)

pub steady : (X : Type 0) (n : ℕ) (fault : Fault) → (fault ≡ Read → ⊥) → failures_after_reads {X = X} n (Err fault) ≡ n
steady X n Read other = absurd (other refl)
steady X n fault other = refl

-- a source from which nothing is read answers what the bytes do
pub within_unread : {R X : Type 0} (left : R → Option (List ℕ)) (failures : R → ℕ) (most : ℕ) (source : R) (options : Options) (bytes : List ℕ)
    (result : Result X Fault) → IfErr result (λ fault. AnswersInput options bytes (Err fault)) → HasReadWithin left failures most source source result
within_unread {X = X} left failures most source options bytes (Ok met) answers = record { gave = gave_none (left source) most; failed = refl }
within_unread {X = X} left failures most source options bytes (Err fault) answers =
    record { gave = gave_none (left source) most; failed = sym (steady X (failures source) fault (no_device options bytes fault answers).0) }
