-- All bytes are an input of one outcome or have one fault.
use Rattle.std.proofs.Common.{◌≡◌, ◌≤◌, ◌∙◌, ◌⊎◌, ℕ, suc, List, [], ◌∷◌, ◌++◌, length, refl, sym, ap, ap₂, subst, inl, inr, arith}
use Rattle.std.proofs.lemmas.Bool.{cases_lt}
use Rattle.packet_view.specs.Bytes.{AreBytes}
use Rattle.packet_view.specs.Captures.{PacketFacts}
use Rattle.acl_policy.specs.Policies.{IsPolicyText, PolicyFacts}
use Rattle.acl_policy.proofs.ReadingLaws as policies
use Rattle.acl_policy.proofs.TextLaws as texts
use Rattle.std.specs.Str.Lines.{lines}
use Rattle.session_state.specs.declared.timeouts.Timeouts.{Timeouts}
use Rattle.racl_options.specs.declared.settings.TableSize.{TableSize}
use Rattle.racl_io.specs.declared.fault.Fault.{Fault}
use Rattle.racl_io.specs.declared.fault.Fault.TheVariants.{TooLarge, NoCapture}
use Rattle.racl_io.specs.declared.marker_line.Form.{Form}
use Rattle.racl_io.specs.declared.totals_and_truncation.Captured.{Captured}
use Rattle.racl_io.specs.Faults.{IsFaultOfBytes, IsFaultOfParts, IsInputFault, policy_fault}
use Rattle.racl_io.specs.Inputs.{IsInput, IsMarked, InputFacts, most_bytes}
use Rattle.racl_io.proofs.PartingLemmas.{some_input}
use Rattle.flow_filter.proofs.OneThreadLemmas.{one_verdicts, some_verdicts}
use Rattle.racl_runs.specs.Runs.{ByOneThread, HasOutcome, layout_for}
use Rattle.racl_report.specs.ReadInputs.{HasPackets, IsRead}
use Rattle.racl_report.specs.RunReports.{Outcome}
use Rattle.racl_report.proofs.CaptureLaws.{fit_bytes, no_fault_of_packets, one_fault_of_content, one_packets, packets_or_fault}
use Rattle.racl_runs.proofs.RunLemmas.{fault_of_known_parts}
use Rattle.racl_report.proofs.ReadInputLemmas.{read_in}

-- ---- bytes within bytes

bytes_after : (front rest : List ℕ) → AreBytes (front ++ rest) → AreBytes rest
bytes_after [] rest fit = fit
bytes_after (b ∷ front) rest fit = bytes_after front rest (λ place. fit (suc place))

no_bytes : AreBytes []
no_bytes place = omega arith

bytes_marked : (form : Form) (content marked : List ℕ) → AreBytes marked → IsMarked form content marked → AreBytes content
bytes_marked form content marked fit (inl (line, marker, same)) = λ place. bytes_after line (10 ∷ content) (subst AreBytes same fit) (suc place)
bytes_marked form content marked fit (inr (same, none)) = subst AreBytes (sym none) no_bytes

bytes_of_content : (bytes : List ℕ) (parts : InputFacts) → AreBytes bytes → IsInput bytes parts → AreBytes parts.content
bytes_of_content bytes parts fit is = bytes_marked parts.form parts.content is.marked (bytes_after parts.policy is.marked (subst AreBytes is.parted fit)) is.content

-- ---- one outcome

-- bytes say one policy, and captures of one list of packets
pub record IsSame (policy other : PolicyFacts) (packets others : List PacketFacts) (captures rest : List Captured) : Type 0 where
  pub policies : policy ≡ other
  pub all : packets ≡ others
  pub told : captures ≡ rest

one_read : (bytes : List ℕ) (policy other : PolicyFacts) (packets others : List PacketFacts) (captures rest : List Captured) → AreBytes bytes
    → IsRead bytes policy packets captures → IsRead bytes other others rest → IsSame policy other packets others captures rest
one_read bytes policy other packets others captures rest fit a b =
    let parts = b.parts in
    let first = read_in bytes parts policy packets captures b.parted a in
    let both = one_packets parts.form parts.content packets others captures rest (fit_bytes parts.form parts.content (bytes_of_content bytes parts fit b.parted)) first.content b.content in
    record { policies = texts.one_policy (lines parts.policy) policy other first.says.1 b.says.1; all = both.0; told = both.1 }

pub one_outcome : (size : TableSize) (times : Timeouts) (bytes : List ℕ) (one other : Outcome) → AreBytes bytes → HasOutcome size times bytes one → HasOutcome size times bytes other → one ≡ other
one_outcome size times bytes one other fit a b =
    let same = one_read bytes a.policy b.policy a.packets b.packets one.captures other.captures fit a.read b.read in
    let moved : ByOneThread size times b.policy b.packets one.verdicts =
    subst (λ p. ByOneThread size times p b.packets one.verdicts) same.policies (subst (λ ps. ByOneThread size times a.policy ps one.verdicts) same.all a.verdicts) in
    ap₂ (λ v t. let outcome : Outcome = record { verdicts = v; captures = t } in outcome)
    (one_verdicts (layout_for size) times b.policy b.packets one.verdicts other.verdicts moved b.verdicts) same.told

-- ---- one fault

one_fault_of_parts : (parts : InputFacts) (one other : Fault) → AreBytes parts.content → IsFaultOfParts parts one → IsFaultOfParts parts other → one ≡ other
one_fault_of_parts parts one other fit (inl (cause, is, same)) (inl (cause', is', same')) =
    same ∙ ap policy_fault (texts.one_fault parts.policy cause cause' is is') ∙ sym same'
one_fault_of_parts parts one other fit (inl (cause, is, same)) (inr (policy, says, of)) = absurd (texts.policy_or_fault parts.policy policy cause says is)
one_fault_of_parts parts one other fit (inr (policy, says, of)) (inl (cause, is, same)) = absurd (texts.policy_or_fault parts.policy policy cause says is)
one_fault_of_parts parts one other fit (inr (policy, says, of)) (inr (policy', says', of')) = one_fault_of_content parts.form parts.content one other (fit_bytes parts.form parts.content fit) of of'

one_fault_of_bytes : (bytes : List ℕ) (one other : Fault) → AreBytes bytes → IsFaultOfBytes bytes one → IsFaultOfBytes bytes other → one ≡ other
one_fault_of_bytes bytes one other fit (inl (same, none)) (inl (same', none')) = same ∙ sym same'
one_fault_of_bytes bytes one other fit (inl (same, none)) (inr (parts, is, of)) = absurd (none parts is)
one_fault_of_bytes bytes one other fit (inr (parts, is, of)) second =
    one_fault_of_parts parts one other (bytes_of_content bytes parts fit is) of (fault_of_known_parts bytes parts other is second)

pub one_fault_of_input : (bytes : List ℕ) (one other : Fault) → AreBytes bytes → IsInputFault bytes one → IsInputFault bytes other → one ≡ other
one_fault_of_input bytes one other fit (inl (same, many)) (inl (same', many')) = same ∙ sym same'
one_fault_of_input bytes one other fit (inl (same, many)) (inr (few, of)) = absurd (omega (arith, few, many))
one_fault_of_input bytes one other fit (inr (few, of)) (inl (same, many)) = absurd (omega (arith, few, many))
one_fault_of_input bytes one other fit (inr (few, of)) (inr (few', of')) = one_fault_of_bytes bytes one other fit of of'

-- ---- an outcome or a fault, and not both

no_fault_of_parts : (bytes : List ℕ) (policy : PolicyFacts) (packets : List PacketFacts) (captures : List Captured) (fault : Fault) → AreBytes bytes
    → (read : IsRead bytes policy packets captures) → IsFaultOfParts read.parts fault → ⊥
no_fault_of_parts bytes policy packets captures fault fit read (inl (cause, is, same)) = texts.policy_or_fault read.parts.policy policy cause read.says is
no_fault_of_parts bytes policy packets captures fault fit read (inr (other, says, of)) =
    let parts = read.parts in
    no_fault_of_packets parts.form parts.content packets captures fault (fit_bytes parts.form parts.content (bytes_of_content bytes parts fit read.parted)) read.content of

pub no_fault_too : (size : TableSize) (times : Timeouts) (bytes : List ℕ) (outcome : Outcome) (fault : Fault) → AreBytes bytes → HasOutcome size times bytes outcome → IsInputFault bytes fault → ⊥
no_fault_too size times bytes outcome fault fit has (inl (same, many)) = let few = has.read.few in omega (arith, few, many)
no_fault_too size times bytes outcome fault fit has (inr (few, of)) =
    no_fault_of_parts bytes has.policy has.packets outcome.captures fault fit has.read
    (fault_of_known_parts bytes has.read.parts fault has.read.parted of)

-- what parts say
record HasParts (parts : InputFacts) : Type 0 where
  pub policy : PolicyFacts
  pub says : IsPolicyText parts.policy policy
  pub packets : List PacketFacts
  pub captures : List Captured
  pub content : HasPackets parts.form parts.content packets captures

parts_or_fault : (parts : InputFacts) → HasParts parts ⊎ ((fault : Fault) × IsFaultOfParts parts fault)
parts_or_fault parts =
    elim (policies.some_reading parts.policy) [
      | inl says ↦ elim (packets_or_fault parts.form parts.content) [
        | inl has ↦ inl (record { policy = says.0; says = says.1; packets = has.0; captures = has.1; content = has.2 })
        | inr found ↦ inr (found.0, inr (says.0, says.1, found.1))
      ]
      | inr found ↦ inr (policy_fault found.0, inl (found.0, found.1, refl))
    ]

outcome_of_parts : (size : TableSize) (times : Timeouts) (bytes : List ℕ) (parts : InputFacts) → length bytes ≤ most_bytes → IsInput bytes parts → HasParts parts
    → (outcome : Outcome) × HasOutcome size times bytes outcome
outcome_of_parts size times bytes parts few is has =
    let verdicts = some_verdicts (layout_for size) times has.policy has.packets in
    let outcome : Outcome = record { verdicts = verdicts.0; captures = has.captures } in (
      outcome,
      record {
        policy = has.policy;
        packets = has.packets;
        read = record { few = few; parts = parts; parted = is; says = has.says; content = has.content };
        verdicts = verdicts.1;
      },
    )

outcome_or_fault_of_bytes : (size : TableSize) (times : Timeouts) (bytes : List ℕ) → length bytes ≤ most_bytes
    → ((outcome : Outcome) × HasOutcome size times bytes outcome) ⊎ ((fault : Fault) × IsFaultOfBytes bytes fault)
outcome_or_fault_of_bytes size times bytes few =
    elim (some_input bytes) [
      | inl is ↦ elim (parts_or_fault is.0) [
        | inl has ↦ inl (outcome_of_parts size times bytes is.0 few is.1 has)
        | inr found ↦ inr (found.0, inr (is.0, is.1, found.1))
      ]
      | inr none ↦ inr (NoCapture, inl (refl, none))
    ]

pub outcome_or_fault : (size : TableSize) (times : Timeouts) (bytes : List ℕ) → ((outcome : Outcome) × HasOutcome size times bytes outcome) ⊎ ((fault : Fault) × IsInputFault bytes fault)
outcome_or_fault size times bytes =
    elim (cases_lt most_bytes (length bytes)) [
      | inl many ↦ inr (TooLarge, inl (refl, many))
      | inr few ↦ elim (outcome_or_fault_of_bytes size times bytes few) [
        | inl has ↦ inl has
        | inr found ↦ inr (found.0, inr (few, found.1))
      ]
    ]
