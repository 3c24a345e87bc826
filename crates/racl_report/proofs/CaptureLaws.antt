-- What stands after a marker line is one list of packets or has one fault.
use Rattle.std.proofs.Common.{◌≡◌, ◌≢◌, ◌∙◌, ◌⊎◌, ℕ, Bool, true, false, List, [], ◌∷◌, ◌++◌, Option, Some, None, Result, Ok, Err, refl, sym, ap, ap₂, subst, inl, inr}
use Rattle.hex.specs.Hex.{decode_of}
use Rattle.packet_view.specs.Bytes.{AreBytes}
use Rattle.packet_view.specs.Captures.{End, IsCapture, IsCaptureAt, PacketFacts, RecordFacts, Truncated, Whole, end_of, packets_at}
use Rattle.packet_view.proofs.CutLemmas as captures
use Rattle.packet_view.proofs.ReadingLemmas.{one_fault, some_reading}
use Rattle.racl_io.specs.declared.fault.Fault.{Fault}
use Rattle.racl_io.specs.declared.fault.Fault.TheVariants.{Hex}
use Rattle.racl_io.specs.declared.marker_line.Form.{Form}
use Rattle.racl_io.specs.declared.marker_line.Form.TheVariants.{Binary, Hexadecimal, Numbered}
use Rattle.racl_io.specs.declared.totals_and_truncation.Captured.{Captured}
use Rattle.racl_io.specs.Faults.{IsFaultOfCapture, IsFaultOfCaptures, IsFaultOfContent, IsFaultOfOne, IsRight, capture_fault}
use Rattle.racl_io.specs.Inputs.{DigitsFacts, IsContent, NumberedFacts, digits_of}
use Rattle.racl_io.proofs.FaultLemmas.{AreRight, bytes_of_digits, captures_or_fault, no_captures_fault, one_captures_fault}
use Rattle.racl_io.proofs.InputLemmas.{one_captures}
use Rattle.racl_io.proofs.PartingLemmas.{some_captures}
use Rattle.racl_report.specs.ReadInputs.{AreTaken, HasPackets, IsAlone, IsTaken, told_of}
use Rattle.racl_report.specs.inner.NumberedCaptures.{AreTakenFrom, IsFaultFrom}

-- packets and what is told of their captures are these
abbrev pub AreSame : List PacketFacts → List PacketFacts → List Captured → List Captured → Type 0
AreSame packets others captures rest = (packets ≡ others) × (captures ≡ rest)

pub one_truncated : (a b : Bool) → end_of a ≡ end_of b → a ≡ b
one_truncated true true same = refl
one_truncated true false same = cc
one_truncated false true same = cc
one_truncated false false same = refl

-- ---- one capture

-- content stands for one capture
pub one_content : (form : Form) (content one other : List ℕ) → IsContent form content one → IsContent form content other → one ≡ other
one_content Binary content one other p q = p ∙ sym q
one_content Hexadecimal content one other p q = cc
one_content (Numbered number) content one other p q = absurd p

-- the capture that it stands for is bytes
abbrev pub AreFit : Form → List ℕ → Type 0
AreFit form content = (capture : List ℕ) → IsContent form content capture → AreBytes capture

pub fit_bytes : (form : Form) (content : List ℕ) → AreBytes content → AreFit form content
fit_bytes Binary content fit capture is = subst AreBytes (sym is) fit
fit_bytes Hexadecimal content fit capture is = bytes_of_digits content capture is
fit_bytes (Numbered number) content fit capture is = absurd is

pub fit_digits : (form : Form) (content : List ℕ) → form ≢ Binary → AreFit form content
fit_digits Binary content digits capture is = absurd (digits refl)
fit_digits Hexadecimal content digits capture is = bytes_of_digits content capture is
fit_digits (Numbered number) content digits capture is = absurd is

-- bytes are a capture of one list of packets and one end
pub one_capture : (number : ℕ) (capture : List ℕ) (packets others : List PacketFacts) (truncated ends : Bool) → AreBytes capture
    → IsCaptureAt number capture packets (end_of truncated) → IsCaptureAt number capture others (end_of ends) → (packets ≡ others) × (truncated ≡ ends)
one_capture number capture packets others truncated ends fit one other =
    let both = captures.one_reading capture one.0 other.0 (end_of truncated) (end_of ends) fit one.1 other.1 in
    (one.2 ∙ ap (packets_at number) both.0 ∙ sym other.2, one_truncated truncated ends both.1)

one_alone : (form : Form) (content : List ℕ) (ps qs : List PacketFacts) (cs ds : List Captured) → AreFit form content → IsAlone form content ps cs
    → IsAlone form content qs ds → AreSame ps qs cs ds
one_alone form content ps qs cs ds fit a b =
    let moved = subst (λ c. IsCaptureAt 0 c ps (end_of a.truncated)) (one_content form content a.capture b.capture a.spelt b.spelt) a.records in
    let same = one_capture 0 b.capture ps qs a.truncated b.truncated (fit b.capture b.spelt) moved b.records in
    (same.0, a.told ∙ ap₂ (λ x t. told_of None x t ∷ []) same.0 same.1 ∙ sym b.told)

pub fault_of_known : (form : Form) (content capture : List ℕ) (fault : Fault) → IsContent form content capture → IsFaultOfOne form content fault
    → IsFaultOfCapture capture fault
fault_of_known form content capture fault is (inl (same, none)) = absurd (none capture is)
fault_of_known form content capture fault is (inr (other, spelt, of)) =
    subst (λ c. IsFaultOfCapture c fault) (one_content form content other capture spelt is) of

no_fault_of_one : (form : Form) (content : List ℕ) (packets : List PacketFacts) (told : List Captured) (fault : Fault) → AreFit form content
    → IsAlone form content packets told → IsFaultOfOne form content fault → ⊥
no_fault_of_one form content packets told fault fit is of =
    let found = fault_of_known form content is.capture fault is.spelt of in
    captures.no_fault_too is.capture is.records.0 (end_of is.truncated) found.0 (fit is.capture is.spelt)
    is.records.1 found.1

one_fault_of_one : (form : Form) (content : List ℕ) (one other : Fault) → AreFit form content → IsFaultOfOne form content one
    → IsFaultOfOne form content other → one ≡ other
one_fault_of_one form content one other fit (inl (same, none)) (inl (same', none')) = same ∙ sym same'
one_fault_of_one form content one other fit (inl (same, none)) (inr (capture, spelt, of)) = absurd (none capture spelt)
one_fault_of_one form content one other fit (inr (capture, spelt, of)) second =
    let also = fault_of_known form content capture other spelt second in
    of.2 ∙ ap capture_fault (one_fault capture (fit capture spelt) of.0 also.0 of.1 also.1) ∙ sym also.2

-- a capture's packets, and how it ends
pub record HasRecords (number : ℕ) (capture : List ℕ) : Type 0 where
  pub packets : List PacketFacts
  pub truncated : Bool
  pub records : IsCaptureAt number capture packets (end_of truncated)

pub records_at_end : (number : ℕ) (capture : List ℕ) (records : List RecordFacts) (end : End) → IsCapture capture records end → HasRecords number capture
records_at_end number capture records Whole is = record { packets = packets_at number records; truncated = false; records = (records, is, refl) }
records_at_end number capture records Truncated is = record { packets = packets_at number records; truncated = true; records = (records, is, refl) }

alone_or_fault : (form : Form) (content : List ℕ) (capture : List ℕ) → IsContent form content capture
    → ((packets : List PacketFacts) × (told : List Captured) × IsAlone form content packets told) ⊎ ((fault : Fault) × IsFaultOfOne form content fault)
alone_or_fault form content capture spelt =
    elim (some_reading capture) [
      | inl is ↦
          let has = records_at_end 0 capture is.0 is.1 is.2 in
          inl (
            has.packets,
            told_of None has.packets has.truncated ∷ [],
            record { capture = capture; spelt = spelt; truncated = has.truncated; records = has.records; told = refl },
          )
      | inr found ↦ inr (capture_fault found.0, inr (capture, spelt, (found.0, found.1, refl)))
    ]

digits_or_fault : (content : List ℕ) (result : Result (List ℕ) _) → decode_of (digits_of content) ≡ result
    → ((packets : List PacketFacts) × (told : List Captured) × IsAlone Hexadecimal content packets told) ⊎ ((fault : Fault) × IsFaultOfOne Hexadecimal content fault)
digits_or_fault content (Ok capture) same = alone_or_fault Hexadecimal content capture same
digits_or_fault content (Err error) same = inr (Hex, inl (refl, λ capture is. cc))

-- ---- captures of interfaces with numbers

one_taken : (seen : List ℕ) (digits : DigitsFacts) (ps qs : List PacketFacts) (c d : Captured) → IsTaken seen digits ps c → IsTaken seen digits qs d
    → (ps ≡ qs) × (c ≡ d)
one_taken seen digits ps qs c d a b =
    let moved = subst (λ x. IsCaptureAt digits.interface x ps (end_of a.truncated))
    (one_content Hexadecimal digits.digits a.capture b.capture a.spelt b.spelt) a.records in
    let same = one_capture digits.interface b.capture ps qs a.truncated b.truncated (bytes_of_digits digits.digits b.capture b.spelt) moved b.records in
    (same.0, a.told ∙ ap₂ (told_of (Some digits.interface)) same.0 same.1 ∙ sym b.told)

one_all_taken : (seen : List ℕ) (all : List DigitsFacts) (ps qs : List PacketFacts) (cs ds : List Captured) → AreTaken seen all ps cs
    → AreTaken seen all qs ds → AreSame ps qs cs ds
one_all_taken seen [] ps qs cs ds a b = (a.0 ∙ sym b.0, a.1 ∙ sym b.1)
one_all_taken seen (digits ∷ others) ps qs cs ds (mine, rest, captured, told, parted, listed, is, more) (mine', rest', captured', told', parted', listed', is', more') =
    let one = one_taken seen digits mine mine' captured captured' is is' in
    let behind = one_all_taken (digits.interface ∷ seen) others rest rest' told told' more more' in (
      parted ∙ ap₂ (λ (x y : List PacketFacts). x ++ y) one.0 behind.0 ∙ sym parted',
      listed ∙ ap₂ (λ (x : Captured) (y : List Captured). x ∷ y) one.1 behind.1 ∙ sym listed',
    )

taken_is_right : (seen : List ℕ) (digits : DigitsFacts) (packets : List PacketFacts) (captured : Captured) → IsTaken seen digits packets captured
    → IsRight digits.digits
taken_is_right seen digits packets captured is = (is.capture, is.records.0, end_of is.truncated, is.spelt, is.records.1)

taken_are_right : (seen : List ℕ) (all : List DigitsFacts) (packets : List PacketFacts) (told : List Captured) → AreTaken seen all packets told
    → AreRight seen all
taken_are_right seen [] packets told are = tt
taken_are_right seen (digits ∷ others) packets told (mine, rest, captured, others_told, parted, listed, is, more) =
    (is.first, taken_is_right seen digits mine captured is, taken_are_right (digits.interface ∷ seen) others rest others_told more)

right_are_taken : (seen : List ℕ) (all : List DigitsFacts) → AreRight seen all
    → (packets : List PacketFacts) × (told : List Captured) × AreTaken seen all packets told
right_are_taken seen [] are = ([], [], (refl, refl))
right_are_taken seen (digits ∷ others) are =
    let right = are.1 in
    let has = records_at_end digits.interface right.0 right.1 right.2 right.4 in
    let captured : Captured = told_of (Some digits.interface) has.packets has.truncated in
    let more = right_are_taken (digits.interface ∷ seen) others are.2 in
    let is : IsTaken seen digits has.packets captured =
    record { first = are.0; capture = right.0; spelt = right.3; truncated = has.truncated; records = has.records; told = refl } in
    (has.packets ++ more.0, captured ∷ more.1, (has.packets, more.0, captured, more.1, refl, refl, is, more.2))

pub one_from : (seen : List ℕ) (next : Option NumberedFacts) (ps qs : List PacketFacts) (cs ds : List Captured) → AreTakenFrom seen next ps cs
    → AreTakenFrom seen next qs ds → AreSame ps qs cs ds
one_from seen None ps qs cs ds a b = (a.0 ∙ sym b.0, a.1 ∙ sym b.1)
one_from seen (Some next) ps qs cs ds (all, cut, taken) (others, cut', taken') =
    let same : all ≡ others = one_captures next.interface next.content all others cut cut' in
    one_all_taken seen others ps qs cs ds (subst (λ a. AreTaken seen a ps cs) same taken) taken'

pub no_fault_from : (seen : List ℕ) (next : Option NumberedFacts) (packets : List PacketFacts) (told : List Captured) (fault : Fault)
    → AreTakenFrom seen next packets told → IsFaultFrom seen next fault → ⊥
no_fault_from seen None packets told fault taken of = of
no_fault_from seen (Some next) packets told fault (all, cut, taken) (others, cut', of) =
    let same : all ≡ others = one_captures next.interface next.content all others cut cut' in
    no_captures_fault seen others fault (subst (AreRight seen) same (taken_are_right seen all packets told taken)) of

pub one_fault_from : (seen : List ℕ) (next : Option NumberedFacts) (one other : Fault) → IsFaultFrom seen next one → IsFaultFrom seen next other
    → one ≡ other
one_fault_from seen None one other is also = absurd is
one_fault_from seen (Some next) one other (all, cut, of) (others, cut', of') =
    let same : all ≡ others = one_captures next.interface next.content all others cut cut' in
    one_captures_fault seen others one other (subst (λ a. IsFaultOfCaptures seen a one) same of) of'

from_or_fault : (seen : List ℕ) (number : ℕ) (content : List ℕ) → let next : NumberedFacts = record { interface = number; content = content } in
    ((packets : List PacketFacts) × (told : List Captured) × AreTakenFrom seen (Some next) packets told) ⊎ ((fault : Fault) × IsFaultFrom seen (Some next) fault)
from_or_fault seen number content =
    let all = some_captures number content in
    elim (captures_or_fault seen all.0) [
      | inl right ↦ let taken = right_are_taken seen all.0 right in inl (taken.0, taken.1, (all.0, all.1, taken.2))
      | inr found ↦ inr (found.0, (all.0, all.1, found.1))
    ]

-- ---- what stands after any marker line

pub one_packets : (form : Form) (content : List ℕ) (ps qs : List PacketFacts) (cs ds : List Captured) → AreFit form content
    → HasPackets form content ps cs → HasPackets form content qs ds → AreSame ps qs cs ds
one_packets Binary content ps qs cs ds fit a b = one_alone Binary content ps qs cs ds fit a b
one_packets Hexadecimal content ps qs cs ds fit a b = one_alone Hexadecimal content ps qs cs ds fit a b
one_packets (Numbered number) content ps qs cs ds fit a b =
    one_from [] (Some (record { interface = number; content = content })) ps qs cs ds a b

pub no_fault_of_packets : (form : Form) (content : List ℕ) (packets : List PacketFacts) (told : List Captured) (fault : Fault) → AreFit form content
    → HasPackets form content packets told → IsFaultOfContent form content fault → ⊥
no_fault_of_packets Binary content packets told fault fit has of = no_fault_of_one Binary content packets told fault fit has of
no_fault_of_packets Hexadecimal content packets told fault fit has of = no_fault_of_one Hexadecimal content packets told fault fit has of
no_fault_of_packets (Numbered number) content packets told fault fit has of =
    no_fault_from [] (Some (record { interface = number; content = content })) packets told fault has of

pub one_fault_of_content : (form : Form) (content : List ℕ) (one other : Fault) → AreFit form content → IsFaultOfContent form content one
    → IsFaultOfContent form content other → one ≡ other
one_fault_of_content Binary content one other fit is also = one_fault_of_one Binary content one other fit is also
one_fault_of_content Hexadecimal content one other fit is also = one_fault_of_one Hexadecimal content one other fit is also
one_fault_of_content (Numbered number) content one other fit is also =
    one_fault_from [] (Some (record { interface = number; content = content })) one other is also

pub packets_or_fault : (form : Form) (content : List ℕ)
    → ((packets : List PacketFacts) × (told : List Captured) × HasPackets form content packets told) ⊎ ((fault : Fault) × IsFaultOfContent form content fault)
packets_or_fault Binary content = alone_or_fault Binary content content refl
packets_or_fault Hexadecimal content = digits_or_fault content (decode_of (digits_of content)) refl
packets_or_fault (Numbered number) content = from_or_fault [] number content

-- ---- after a marker line of one capture

-- a marker line without a number, and so of one capture
abbrev pub IsUnnumbered : Form → Type 0
IsUnnumbered Binary = Unit {0}
IsUnnumbered Hexadecimal = Unit {0}
IsUnnumbered (Numbered number) = ⊥

pub plain_alone : (form : Form) (content : List ℕ) (packets : List PacketFacts) (told : List Captured) → IsUnnumbered form
    → HasPackets form content packets told → IsAlone form content packets told
plain_alone Binary content packets told plain has = has
plain_alone Hexadecimal content packets told plain has = has
plain_alone (Numbered number) content packets told plain has = absurd plain

pub alone_plain : (form : Form) (content : List ℕ) (packets : List PacketFacts) (told : List Captured) → IsUnnumbered form
    → IsAlone form content packets told → HasPackets form content packets told
alone_plain Binary content packets told plain has = has
alone_plain Hexadecimal content packets told plain has = has
alone_plain (Numbered number) content packets told plain has = absurd plain

pub plain_fault : (form : Form) (content : List ℕ) (fault : Fault) → IsUnnumbered form → IsFaultOfContent form content fault → IsFaultOfOne form content fault
plain_fault Binary content fault plain of = of
plain_fault Hexadecimal content fault plain of = of
plain_fault (Numbered number) content fault plain of = absurd plain

pub fault_plain : (form : Form) (content : List ℕ) (fault : Fault) → IsUnnumbered form → IsFaultOfOne form content fault → IsFaultOfContent form content fault
fault_plain Binary content fault plain of = of
fault_plain Hexadecimal content fault plain of = of
fault_plain (Numbered number) content fault plain of = absurd plain
