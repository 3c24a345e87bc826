-- Captures of interfaces that come apart: what is read of them, and which fault they have.
use Rattle.std.proofs.Common.{◌≡◌, ◌∙◌, ◌==◌, ◌||◌, ◌⊎◌, ◌+◌, ◌<◌, ◌≤◌, ◌++◌, ℕ, Bool, true, false, List, [], ◌∷◌, Option, Some, None, length, append-nil, append_assoc, drop, get_or, refl, sym, ap, ap₂, subst, inl, inr}
use Rattle.std.proofs.lemmas.List.Elements.{recursion_from_All}
use Rattle.std.specs.List.{AllByRecursion, list_any}
use Rattle.std.proofs.lemmas.Bool.{cases_eq, eq-eqb, ne_eqb}
use Rattle.std.specs.Str.Lines.{lines}
use Rattle.packet_view.specs.Bytes.{AreBytes}
use Rattle.packet_view.specs.Captures.{PacketFacts, end_of}
use Rattle.packet_view.proofs.CutLemmas as cuts
use Rattle.packet_view.proofs.ReadingLemmas.{one_fault, some_reading}
use Rattle.acl_policy.specs.Policies.{IsAmong, IsPolicyText, PolicyFacts}
use Rattle.acl_policy.specs.declared.policy.PolicyFault.{PolicyFault}
use Rattle.acl_policy.specs.declared.policy.PolicyFault.TheVariants as policy
use Rattle.acl_policy.proofs.ReadingLaws as policies
use Rattle.acl_policy.proofs.TextLaws as texts
use Rattle.racl_io.specs.declared.capture_bytes.CaptureBytes.{CaptureBytes}
use Rattle.racl_io.specs.declared.fault.Fault.{Fault}
use Rattle.racl_io.specs.declared.fault.Fault.TheVariants.{Twice, Write}
use Rattle.racl_io.specs.declared.totals_and_truncation.Captured.{Captured}
use Rattle.racl_io.specs.CapturePackets.{HavePacketsTold}
use Rattle.racl_io.specs.Faults.{capture_fault, policy_fault}
use Rattle.racl_io.specs.Inputs.{most_bytes}
use Rattle.racl_io.specs.Tellings.{AreNamedBy, own_name}
use Rattle.racl_io.proofs.LeftLemmas.{drop_one}
use Rattle.racl_report.specs.InterfaceInputs.{AreAllBytes, AreTakenApart, IsFaultApart, IsFaultBehind, IsOwnFault, IsReadApart, IsRightCapture, IsTakenApart, bytes_in, placeless}
use Rattle.racl_report.specs.ReadInputs.{told_of}
use Rattle.racl_report.specs.declared.interface_captures.PlacedFault.{PlacedFault}
use Rattle.racl_report.proofs.NamedCaptures.{named_at, named_next, named_none}
use Rattle.racl_report.proofs.CaptureLaws.{AreSame, HasRecords, one_capture, records_at_end}

abbrev pub found_at : Fault → Option ℕ → PlacedFault
found_at fault place = record { fault = fault; place = place }

-- ---- which interfaces were seen

or_false : (b c : Bool) → (b || c) ≡ false → c ≡ false
or_false true c none = absurd (let f : ⊥ = cc in f)
or_false false c none = none

pub among : (number : ℕ) (seen : List ℕ) → list_any (λ other. other == number) seen ≡ true → IsAmong number seen
among number [] any = absurd (let f : ⊥ = cc in f)
among number (other ∷ seen) any =
    elim (cases_eq other number) [
      | inl same ↦ inl (sym same)
      | inr unlike ↦
          inr (among number seen (subst (λ b. (b || list_any (λ o. o == number) seen) ≡ true) (ne_eqb other number unlike) any))
    ]

pub not_among : (number : ℕ) (seen : List ℕ) → list_any (λ other. other == number) seen ≡ false → IsAmong number seen → ⊥
not_among number [] none is = is
not_among number (other ∷ seen) none (inl same) =
    let found = eq-eqb other number (sym same) in
    let f : ⊥ = cc in f
not_among number (other ∷ seen) none (inr is) = not_among number seen (or_false (other == number) _ none) is

among_or_not : (number : ℕ) (seen : List ℕ) (any : Bool) → list_any (λ other. other == number) seen ≡ any → IsAmong number seen ⊎ (IsAmong number seen → ⊥)
among_or_not number seen true any = inl (among number seen any)
among_or_not number seen false none = inr (not_among number seen none)

-- ---- what captures have

-- captures that were taken have their packets, and this is told of them
pub told_apart : (seen : List ℕ) (captures : List CaptureBytes) (packets : List PacketFacts) (told : List Captured) → AreTakenApart seen captures packets told
    → HavePacketsTold captures told packets
told_apart seen [] packets told (none, nothing) = (nothing, none)
told_apart seen (capture ∷ captures) packets told (mine, rest, captured, others, parted, listed, is, more) = (
  mine,
  rest,
  captured,
  others,
  parted,
  listed,
  record { truncated = is.truncated; records = is.records; count = ap (λ (c : Captured). c.packets) is.told; cut = ap (λ (c : Captured). c.truncated) is.told },
  told_apart (capture.interface ∷ seen) captures rest others more,
)

-- and it names each one's interface
pub named_apart : (seen : List ℕ) (captures : List CaptureBytes) (packets : List PacketFacts) (told : List Captured) → AreTakenApart seen captures packets told
    → AreNamedBy own_name packets told
named_apart seen [] packets told (none, nothing) = named_none own_name packets told nothing
named_apart seen (capture ∷ captures) packets told (mine, rest, captured, others, parted, listed, is, more) =
    named_next own_name mine rest packets captured others told parted listed (ap (λ (c : Captured). c.packets) is.told)
    (named_at capture.interface mine is.records.0 captured.named is.records.2 (ap (λ (c : Captured). c.named) is.told))
    (named_apart (capture.interface ∷ seen) captures rest others more)

one_taken : (seen : List ℕ) (capture : CaptureBytes) (ps qs : List PacketFacts) (c d : Captured) → AreBytes capture.bytes.items → IsTakenApart seen capture ps c
    → IsTakenApart seen capture qs d → (ps ≡ qs) × (c ≡ d)
one_taken seen capture ps qs c d fit a b =
    let same = one_capture capture.interface capture.bytes.items ps qs a.truncated b.truncated fit a.records b.records in
    (same.0, a.told ∙ ap₂ (told_of (Some capture.interface)) same.0 same.1 ∙ sym b.told)

-- each of these captures has bytes less than 256
abbrev AreFit : List CaptureBytes → Type 0
AreFit all = AllByRecursion (λ (capture : CaptureBytes). AreBytes capture.bytes.items) all

one_all_taken : (seen : List ℕ) (captures : List CaptureBytes) (ps qs : List PacketFacts) (cs ds : List Captured) → AreFit captures
    → AreTakenApart seen captures ps cs → AreTakenApart seen captures qs ds → AreSame ps qs cs ds
one_all_taken seen [] ps qs cs ds fit a b = (a.0 ∙ sym b.0, a.1 ∙ sym b.1)
one_all_taken seen (capture ∷ captures) ps qs cs ds fit (mine, rest, captured, told, parted, listed, is, more) (mine', rest', captured', told', parted', listed', is', more') =
    let one = one_taken seen capture mine mine' captured captured' fit.0 is is' in
    let behind = one_all_taken (capture.interface ∷ seen) captures rest rest' told told' fit.1 more more' in (
      parted ∙ ap₂ (λ (x y : List PacketFacts). x ++ y) one.0 behind.0 ∙ sym parted',
      listed ∙ ap₂ (λ (x : Captured) (y : List Captured). x ∷ y) one.1 behind.1 ∙ sym listed',
    )

-- ---- which fault they have

one_own_fault : (seen : List ℕ) (capture : CaptureBytes) (one other : Fault) → AreBytes capture.bytes.items → IsOwnFault seen capture one
    → IsOwnFault seen capture other → one ≡ other
one_own_fault seen capture one other fit (inl (among, same)) (inl (among', same')) = same ∙ sym same'
one_own_fault seen capture one other fit (inl (among, same)) (inr (first, of)) = absurd (first among)
one_own_fault seen capture one other fit (inr (first, of)) (inl (among, same)) = absurd (first among)
one_own_fault seen capture one other fit (inr (first, of)) (inr (first', of')) =
    of.2 ∙ ap capture_fault (one_fault capture.bytes.items fit of.0 of'.0 of.1 of'.1) ∙ sym of'.2

no_own_fault : (seen : List ℕ) (capture : CaptureBytes) (fault : Fault) → AreBytes capture.bytes.items → (IsAmong capture.interface seen → ⊥)
    → IsRightCapture capture.bytes.items → IsOwnFault seen capture fault → ⊥
no_own_fault seen capture fault fit first right (inl (among, same)) = first among
no_own_fault seen capture fault fit first right (inr (new, of)) =
    cuts.no_fault_too capture.bytes.items right.0 right.1 of.0 fit right.2 of.1

one_fault_behind : (before : ℕ) (seen : List ℕ) (captures : List CaptureBytes) (one other : PlacedFault) → AreFit captures
    → IsFaultBehind before seen captures one → IsFaultBehind before seen captures other → one ≡ other
one_fault_behind before seen [] one other fit is also = absurd is
one_fault_behind before seen (capture ∷ captures) one other fit (inl (place, own)) (inl (place', own')) =
    ap₂ found_at (one_own_fault seen capture one.fault other.fault fit.0 own own') (place ∙ sym place')
one_fault_behind before seen (capture ∷ captures) one other fit (inl (place, own)) (inr (first, right, behind)) =
    absurd (no_own_fault seen capture one.fault fit.0 first right own)
one_fault_behind before seen (capture ∷ captures) one other fit (inr (first, right, behind)) (inl (place, own)) =
    absurd (no_own_fault seen capture other.fault fit.0 first right own)
one_fault_behind before seen (capture ∷ captures) one other fit (inr (first, right, behind)) (inr (first', right', behind')) =
    one_fault_behind (before + 1) (capture.interface ∷ seen) captures one other fit.1 behind behind'

pub taken_is_right : (seen : List ℕ) (capture : CaptureBytes) (packets : List PacketFacts) (captured : Captured) → IsTakenApart seen capture packets captured
    → IsRightCapture capture.bytes.items
taken_is_right seen capture packets captured is = (is.records.0, end_of is.truncated, is.records.1)

no_fault_of_taken : (before : ℕ) (seen : List ℕ) (captures : List CaptureBytes) (packets : List PacketFacts) (told : List Captured) (found : PlacedFault)
    → AreFit captures → AreTakenApart seen captures packets told → IsFaultBehind before seen captures found → ⊥
no_fault_of_taken before seen [] packets told found fit taken of = of
no_fault_of_taken before seen (capture ∷ captures) packets told found fit (mine, rest, captured, others, parted, listed, is, more) (inl (place, own)) =
    no_own_fault seen capture found.fault fit.0 is.first (taken_is_right seen capture mine captured is) own
no_fault_of_taken before seen (capture ∷ captures) packets told found fit (mine, rest, captured, others, parted, listed, is, more) (inr (first, right, behind)) =
    no_fault_of_taken (before + 1) (capture.interface ∷ seen) captures rest others found fit.1 more behind

-- the fault of a capture isn't that a write failed
not_write : (before : ℕ) (seen : List ℕ) (captures : List CaptureBytes) (found : PlacedFault) → IsFaultBehind before seen captures found
    → found ≡ placeless Write → ⊥
not_write before seen [] found of same = of
not_write before seen (capture ∷ captures) found (inl (place, own)) same =
    let none : found.place ≡ None = ap (λ (f : PlacedFault). f.place) same in cc
not_write before seen (capture ∷ captures) found (inr (first, right, behind)) same = not_write (before + 1) (capture.interface ∷ seen) captures found behind same

policy_not_write : (cause : PolicyFault) → policy_fault cause ≡ Write → ⊥
policy_not_write policy.Memory same = cc
policy_not_write policy.NotUtf8 same = cc
policy_not_write (policy.BadLine number) same = cc
policy_not_write (policy.TooMany number) same = cc

-- ---- a text and captures

module _ (text : List ℕ) (captures : List CaptureBytes) (fit : AreAllBytes captures) where
  are_fit : AreFit captures
  are_fit = recursion_from_All (λ (capture : CaptureBytes). AreBytes capture.bytes.items) captures fit

  -- they say one policy, and have one list of packets
  pub one_read_apart : (policy other : PolicyFacts) (packets others : List PacketFacts) (told rest : List Captured) → IsReadApart text captures policy packets told
      → IsReadApart text captures other others rest → (policy ≡ other) × AreSame packets others told rest
  one_read_apart policy other packets others told rest a b =
      (texts.one_policy (lines text) policy other a.says.1 b.says.1, one_all_taken [] captures packets others told rest are_fit a.taken b.taken)

  -- what is right has no fault
  pub no_fault_apart : (policy : PolicyFacts) (packets : List PacketFacts) (told : List Captured) (found : PlacedFault) → IsPolicyText text policy
      → AreTakenApart [] captures packets told → IsFaultApart text captures found → ⊥
  no_fault_apart policy packets told found says taken (inl (cause, is, same)) = texts.policy_or_fault text policy cause says is
  no_fault_apart policy packets told found says taken (inr (other, said, behind)) = no_fault_of_taken 0 [] captures packets told found are_fit taken behind

  -- they have one fault
  pub one_fault_apart : (one other : PlacedFault) → IsFaultApart text captures one → IsFaultApart text captures other → one ≡ other
  one_fault_apart one other (inl (cause, is, same)) (inl (cause', is', same')) =
      same ∙ ap (λ (f : Fault). placeless f) (ap policy_fault (texts.one_fault text cause cause' is is')) ∙ sym same'
  one_fault_apart one other (inl (cause, is, same)) (inr (policy, says, behind)) = absurd (texts.policy_or_fault text policy cause says is)
  one_fault_apart one other (inr (policy, says, behind)) (inl (cause, is, same)) = absurd (texts.policy_or_fault text policy cause says is)
  one_fault_apart one other (inr (policy, says, behind)) (inr (policy', says', behind')) = one_fault_behind 0 [] captures one other are_fit behind behind'

  -- which isn't that a write failed
  pub fault_not_write : (found : PlacedFault) → IsFaultApart text captures found → found ≡ placeless Write → ⊥
  fault_not_write found (inl (cause, is, same)) write = policy_not_write cause (ap (λ (f : PlacedFault). f.fault) (sym same ∙ write))
  fault_not_write found (inr (policy, says, behind)) write = not_write 0 [] captures found behind write

-- ---- a walk over captures

-- amid captures, of which so many were looked at: what is taken and at fault from here on is so of all
pub record IsAmidApart (captures : List CaptureBytes) (place : ℕ) (seen : List ℕ) (told : List Captured) : Type 0 where
  pub packets : List PacketFacts
  pub taken : (more : List PacketFacts) (others : List Captured) → AreTakenApart seen (drop place captures) more others
      → AreTakenApart [] captures (packets ++ more) (told ++ others)
  pub fault : (found : PlacedFault) → IsFaultBehind place seen (drop place captures) found → IsFaultBehind 0 [] captures found

-- one more was taken
pub amid_more : (captures : List CaptureBytes) (place : ℕ) (seen : List ℕ) (told : List Captured) (capture : CaptureBytes) (mine : List PacketFacts) (captured : Captured)
    → IsAmidApart captures place seen told → drop place captures ≡ capture ∷ drop (place + 1) captures → IsTakenApart seen capture mine captured
    → IsAmidApart captures (place + 1) (capture.interface ∷ seen) (told ++ captured ∷ [])
amid_more captures place seen told capture mine captured amid there is = record {
  packets = amid.packets ++ mine;
  taken = λ more others behind.
      let here : AreTakenApart seen (capture ∷ drop (place + 1) captures) (mine ++ more) (captured ∷ others) = (mine, more, captured, others, refl, refl, is, behind) in
      let all = amid.taken (mine ++ more) (captured ∷ others) (subst (λ cs. AreTakenApart seen cs (mine ++ more) (captured ∷ others)) (sym there) here) in
      subst (λ ts. AreTakenApart [] captures ((amid.packets ++ mine) ++ more) ts) (sym (append_assoc told (captured ∷ []) others))
      (subst (λ ps. AreTakenApart [] captures ps (told ++ captured ∷ others)) (sym (append_assoc amid.packets mine more)) all);
  fault = λ found of.
      let here : IsFaultBehind place seen (capture ∷ drop (place + 1) captures) found = inr (is.first, taken_is_right seen capture mine captured is, of) in
      amid.fault found (subst (λ cs. IsFaultBehind place seen cs found) (sym there) here);
}

-- captures from a place on begin with the one at that place
pub captures_from : (captures : List CaptureBytes) (place : ℕ) (capture : CaptureBytes) → place < length captures → capture ≡ get_or captures place capture
    → drop place captures ≡ capture ∷ drop (place + 1) captures
captures_from captures place capture within is = drop_one captures place capture within ∙ ap (λ (c : CaptureBytes). c ∷ drop (place + 1) captures) (sym is)

-- the fault of the next one is that of all
pub fault_there : (captures : List CaptureBytes) (place : ℕ) (seen : List ℕ) (told : List Captured) (capture : CaptureBytes) (fault : Fault) → IsAmidApart captures place seen told
    → drop place captures ≡ capture ∷ drop (place + 1) captures → IsOwnFault seen capture fault → IsFaultBehind 0 [] captures (found_at fault (Some place))
fault_there captures place seen told capture fault amid there own =
    let here : IsFaultBehind place seen (capture ∷ drop (place + 1) captures) (found_at fault (Some place)) = inl (refl, own) in
    amid.fault (found_at fault (Some place)) (subst (λ cs. IsFaultBehind place seen cs (found_at fault (Some place))) (sym there) here)

-- at the end all were taken
pub all_taken : (captures : List CaptureBytes) (place : ℕ) (seen : List ℕ) (told : List Captured) → IsAmidApart captures place seen told → drop place captures ≡ []
    → (packets : List PacketFacts) × AreTakenApart [] captures packets told
all_taken captures place seen told amid none =
    let all = amid.taken [] [] (subst (λ cs. AreTakenApart seen cs [] []) (sym none) (refl, refl)) in
    (amid.packets, subst (λ ts. AreTakenApart [] captures amid.packets ts) (append-nil told) (subst (λ ps. AreTakenApart [] captures ps (told ++ [])) (append-nil amid.packets) all))

-- ---- captures that are taken, or have a fault

-- the packets of captures, and what is told of these
record HaveBeenTaken (seen : List ℕ) (captures : List CaptureBytes) : Type 0 where
  pub packets : List PacketFacts
  pub told : List Captured
  pub taken : AreTakenApart seen captures packets told

first_taken : (seen : List ℕ) (capture : CaptureBytes) (captures : List CaptureBytes) → (IsAmong capture.interface seen → ⊥)
    → HasRecords capture.interface capture.bytes.items → HaveBeenTaken (capture.interface ∷ seen) captures → HaveBeenTaken seen (capture ∷ captures)
first_taken seen capture captures new has behind =
    let told = told_of (Some capture.interface) has.packets has.truncated in
    record {
      packets = has.packets ++ behind.packets;
      told = told ∷ behind.told;
      taken = (
        has.packets,
        behind.packets,
        told,
        behind.told,
        refl,
        refl,
        record { first = new; truncated = has.truncated; records = has.records; told = refl },
        behind.taken,
      );
    }

taken_or_fault : (before : ℕ) (seen : List ℕ) (captures : List CaptureBytes)
    → HaveBeenTaken seen captures ⊎ ((found : PlacedFault) × IsFaultBehind before seen captures found)
taken_or_fault before seen [] = inl (record { packets = []; told = []; taken = (refl, refl) })
taken_or_fault before seen (capture ∷ captures) =
    elim (among_or_not capture.interface seen _ refl) [
      | inl again ↦ inr (found_at (Twice capture.interface) (Some before), inl (refl, inl (again, refl)))
      | inr new ↦ elim (some_reading capture.bytes.items) [
        | inl is ↦ elim (taken_or_fault (before + 1) (capture.interface ∷ seen) captures) [
          | inl behind ↦ inl (first_taken seen capture captures new (records_at_end capture.interface capture.bytes.items is.0 is.1 is.2) behind)
          | inr found ↦ inr (found.0, inr (new, (is.0, is.1, is.2), found.1))
        ]
        | inr cause ↦ inr (found_at (capture_fault cause.0) (Some before), inl (refl, inr (new, (cause.0, cause.1, refl))))
      ]
    ]

-- a policy's text and captures, within what an input may have, are read or have a fault
pub read_or_fault : (text : List ℕ) (captures : List CaptureBytes) → length text + bytes_in captures ≤ most_bytes
    → ((policy : PolicyFacts) × (packets : List PacketFacts) × (told : List Captured) × IsReadApart text captures policy packets told)
    ⊎ ((found : PlacedFault) × IsFaultApart text captures found)
read_or_fault text captures few =
    elim (policies.some_reading text) [
      | inl says ↦ elim (taken_or_fault 0 [] captures) [
        | inl are ↦ inl (says.0, are.packets, are.told, record { few = few; says = says.1; taken = are.taken })
        | inr found ↦ inr (found.0, inr (says.0, says.1, found.1))
      ]
      | inr found ↦ inr (placeless (policy_fault found.0), inl (found.0, found.1, refl))
    ]
