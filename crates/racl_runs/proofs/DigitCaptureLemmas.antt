-- Captures as digits that are decoded one after the other.
use Rattle.std.proofs.Common.{◌≡◌, ◌∙◌, ℕ, Bool, List, [], ◌∷◌, ◌++◌, Option, Some, None, append-nil, append_assoc, refl, sym, ap, subst, inl, inr}
use Rattle.packet_view.specs.Captures.{IsCaptureAt, PacketFacts, end_of}
use Rattle.acl_policy.specs.Policies.{IsAmong}
use Rattle.racl_io.specs.declared.fault.Fault.{Fault}
use Rattle.racl_io.specs.declared.fault.Fault.TheVariants.{Twice}
use Rattle.racl_io.specs.declared.marker_line.Form.{Form}
use Rattle.racl_io.specs.declared.marker_line.Form.TheVariants.{Binary, Hexadecimal, Numbered}
use Rattle.racl_io.specs.declared.marker_line.Numbered as mark
use Rattle.racl_io.specs.declared.totals_and_truncation.Captured.{Captured}
use Rattle.racl_io.specs.Faults.{IsFaultOfOne, IsRight}
use Rattle.racl_io.specs.Inputs.{AreCaptures, AreCutDigits, DigitsFacts, NumberedFacts, numbered_facts}
use Rattle.racl_io.specs.CapturePackets.{HavePacketsTold, IsToldAs}
use Rattle.racl_io.specs.Tellings.{AreNamedBy, name_where}
use Rattle.racl_io.proofs.PartingLemmas.{some_captures}
use Rattle.racl_io.specs.declared.capture_bytes.CaptureBytes.{CaptureBytes}
use Rattle.racl_report.specs.ReadInputs.{HasPackets, IsTaken, told_of}
use Rattle.racl_report.proofs.NamedCaptures.{named_alone, named_taken}
use Rattle.racl_report.specs.inner.NumberedCaptures.{AreTakenFrom, IsFaultFrom}
use Rattle.racl_runs.specs.declared.digit_captures.Decoded.{Decoded}
use Rattle.racl_runs.specs.declared.digit_captures.DigitWalk.{DigitWalk}
use Rattle.racl_runs.specs.inner.Captures.{AreDecoded, HasDecoded, HasTaken, has_number}

-- ---- what a capture's digits and those behind them come to

abbrev pub from_here : ℕ → List ℕ → Option NumberedFacts
from_here number content = Some (record { interface = number; content = content })

abbrev pub digits_at : ℕ → List ℕ → DigitsFacts
digits_at number digits = record { interface = number; digits = digits }

-- the capture and those behind it
pub taken_from : (seen : List ℕ) (number : ℕ) (content digits : List ℕ) (next : Option NumberedFacts) (packets : List PacketFacts) (captured : Captured)
    → AreCutDigits content digits next → IsTaken seen (digits_at number digits) packets captured → (more : List PacketFacts) (others : List Captured)
    → AreTakenFrom (number ∷ seen) next more others → AreTakenFrom seen (from_here number content) (packets ++ more) (captured ∷ others)
taken_from seen number content digits None packets captured cut is more others (none, nothing) =
    (digits_at number digits ∷ [], (refl, None, cut, refl), (packets, more, captured, others, refl, refl, is, (none, nothing)))
taken_from seen number content digits (Some behind) packets captured cut is more others (all, cuts, taken) =
    (digits_at number digits ∷ all, (refl, Some behind, cut, cuts), (packets, more, captured, others, refl, refl, is, taken))

pub fault_behind : (seen : List ℕ) (number : ℕ) (content digits : List ℕ) (next : Option NumberedFacts) (packets : List PacketFacts)
    (captured : Captured) → AreCutDigits content digits next → IsTaken seen (digits_at number digits) packets captured → (fault : Fault)
    → IsFaultFrom (number ∷ seen) next fault → IsFaultFrom seen (from_here number content) fault
fault_behind seen number content digits None packets captured cut is fault of = absurd of
fault_behind seen number content digits (Some behind) packets captured cut is fault (all, cuts, of) =
    let right : IsRight digits = (is.capture, is.records.0, end_of is.truncated, is.spelt, is.records.1) in
    (digits_at number digits ∷ all, (refl, Some behind, cut, cuts), inr (is.first, inr (right, of)))

others_behind : (number : ℕ) (content digits : List ℕ) (next : Option NumberedFacts) → AreCutDigits content digits next
    → (others : List DigitsFacts) × AreCaptures number content (digits_at number digits ∷ others)
others_behind number content digits None cut = ([], (refl, None, cut, refl))
others_behind number content digits (Some behind) cut =
    let all = some_captures behind.interface behind.content in (all.0, (refl, Some behind, cut, all.1))

pub own_fault : (seen : List ℕ) (number : ℕ) (content digits : List ℕ) (next : Option NumberedFacts) → AreCutDigits content digits next
    → (IsAmong number seen → ⊥) → (fault : Fault) → IsFaultOfOne Hexadecimal digits fault → IsFaultFrom seen (from_here number content) fault
own_fault seen number content digits next cut first fault of =
    let behind = others_behind number content digits next cut in
    (digits_at number digits ∷ behind.0, behind.1, inr (first, inl of))

pub second_of_one : (seen : List ℕ) (number : ℕ) (content : List ℕ) → IsAmong number seen → IsFaultFrom seen (from_here number content) (Twice number)
second_of_one seen number content is = go (some_captures number content).0 (some_captures number content).1
  where
    go : (all : List DigitsFacts) → AreCaptures number content all → IsFaultFrom seen (from_here number content) (Twice number)
    go [] cuts = absurd cuts
    go (first ∷ others) cuts = (first ∷ others, cuts, inl (subst (λ n. IsAmong n seen) (sym cuts.0) is, ap Twice (sym cuts.0)))

-- ---- a walk over all captures

-- one more capture has its packets behind the others, and is told behind them
one_more : (all : List CaptureBytes) (told : List Captured) (packets : List PacketFacts) (capture : CaptureBytes) (captured : Captured) (mine : List PacketFacts)
    → HavePacketsTold all told packets → IsToldAs capture captured mine → HavePacketsTold (all ++ capture ∷ []) (told ++ captured ∷ []) (packets ++ mine)
one_more [] told packets capture captured mine (nothing, none) is = (
  mine,
  [],
  captured,
  [],
  ap (λ (ps : List PacketFacts). ps ++ mine) none ∙ sym (append-nil mine),
  ap (λ (cs : List Captured). cs ++ captured ∷ []) nothing,
  is,
  (refl, refl),
)
one_more (first ∷ all) told packets capture captured mine (own, rest, one, others, parted, listed, at, have) is = (
  own,
  rest ++ mine,
  one,
  others ++ captured ∷ [],
  ap (λ (ps : List PacketFacts). ps ++ mine) parted ∙ append_assoc own rest mine,
  ap (λ (cs : List Captured). cs ++ captured ∷ []) listed,
  at,
  one_more all others rest capture captured mine have is,
)

-- what was taken of a capture whose digits were decoded
taken_of : (old : Decoded) (seen : List ℕ) (number : ℕ) (digits : List ℕ) (new : Decoded) → (IsAmong number seen → ⊥) → (has : HasDecoded old (Some number) number digits new)
    → IsTaken seen (digits_at number digits) has.packets (told_of (Some number) has.packets has.truncated)
taken_of old seen number digits new first has =
    record { first = first; capture = has.capture.bytes.items; spelt = has.spelt; truncated = has.truncated; records = has.records; told = refl }

-- a capture that was decoded behind others has its packets behind theirs
pub have_more : (old : Decoded) (named : Option ℕ) (interface : ℕ) (digits : List ℕ) (new : Decoded) (packets : List PacketFacts)
    → HavePacketsTold old.captures.items old.told.items packets → (has : HasDecoded old named interface digits new)
    → HavePacketsTold new.captures.items new.told.items (packets ++ has.packets)
have_more old named interface digits new packets have has =
    let captured = told_of named has.packets has.truncated in
    subst (λ (ts : List Captured). HavePacketsTold new.captures.items ts (packets ++ has.packets)) (sym has.told)
    (subst (λ (cs : List CaptureBytes). HavePacketsTold cs (old.told.items ++ captured ∷ []) (packets ++ has.packets)) (sym has.captures)
    (one_more old.captures.items old.told.items packets has.capture captured has.packets have (record {
      truncated = has.truncated;
      records = subst (λ n. IsCaptureAt n has.capture.bytes.items has.packets (end_of has.truncated)) (sym has.at) has.records;
      count = refl;
      cut = refl;
    })))

-- none was decoded
none_told : (captures : List CaptureBytes) (told : List Captured) → captures ≡ [] → told ≡ [] → HavePacketsTold captures told []
none_told captures told none nothing = subst (λ (cs : List CaptureBytes). HavePacketsTold cs told []) (sym none) (nothing, refl)

-- amid the captures of which this is the first
pub record IsAmid (begun : Option NumberedFacts) (walk : DigitWalk) : Type 0 where
  pub packets : List PacketFacts
  pub have : HavePacketsTold walk.decoded.captures.items walk.decoded.told.items packets
  pub taken : (more : List PacketFacts) (others : List Captured) → AreTakenFrom walk.seen.items (numbered_facts walk.next) more others
      → AreTakenFrom [] begun (packets ++ more) (walk.decoded.told.items ++ others)
  pub fault : (fault : Fault) → IsFaultFrom walk.seen.items (numbered_facts walk.next) fault → IsFaultFrom [] begun fault

pub amid_begun : (walk : DigitWalk) → walk.decoded.captures.items ≡ [] → walk.decoded.told.items ≡ [] → walk.seen.items ≡ [] → IsAmid (numbered_facts walk.next) walk
amid_begun walk captures told none = record {
  packets = [];
  have = none_told walk.decoded.captures.items walk.decoded.told.items captures told;
  taken = λ more others taken.
      subst (λ told. AreTakenFrom [] (numbered_facts walk.next) more (told ++ others)) (sym told)
      (subst (λ seen. AreTakenFrom seen (numbered_facts walk.next) more others) none taken);
  fault = λ fault of. subst (λ seen. IsFaultFrom seen (numbered_facts walk.next) fault) none of;
}

pub amid_next : (begun : Option NumberedFacts) (walk : DigitWalk) (capture : mark.Numbered) (new : DigitWalk) → IsAmid begun walk → walk.next ≡ Some capture
    → HasTaken walk capture new → IsAmid begun new
amid_next begun walk capture new amid there has =
    let number = capture.interface in
    let seen = walk.seen.items in
    let captured = told_of (Some number) has.decoded.packets has.decoded.truncated in
    let taken = taken_of walk.decoded seen number has.digits new.decoded has.first has.decoded in
    record {
      packets = amid.packets ++ has.decoded.packets;
      have = have_more walk.decoded (Some number) number has.digits new.decoded amid.packets amid.have has.decoded;
      taken = λ more others is.
          let here =
          taken_from seen number capture.content.now has.digits (numbered_facts new.next) has.decoded.packets captured has.cut taken more others
          (subst (λ seen. AreTakenFrom seen (numbered_facts new.next) more others) has.seen is) in
          let all =
          amid.taken (has.decoded.packets ++ more) (captured ∷ others)
          (subst (λ next. AreTakenFrom seen (numbered_facts next) (has.decoded.packets ++ more) (captured ∷ others)) (sym there) here) in
          subst (λ told. AreTakenFrom [] begun ((amid.packets ++ has.decoded.packets) ++ more) told)
          (sym (ap (λ told. told ++ others) has.decoded.told ∙ append_assoc walk.decoded.told.items (captured ∷ []) others))
          (subst (λ ps. AreTakenFrom [] begun ps (walk.decoded.told.items ++ captured ∷ others)) (sym (append_assoc amid.packets has.decoded.packets more)) all);
      fault = λ fault of.
          let here =
          fault_behind seen number capture.content.now has.digits (numbered_facts new.next) has.decoded.packets captured has.cut taken fault
          (subst (λ seen. IsFaultFrom seen (numbered_facts new.next) fault) has.seen of) in
          amid.fault fault (subst (λ next. IsFaultFrom seen (numbered_facts next) fault) (sym there) here);
    }

-- after the last capture all are decoded
pub all_decoded : (number : ℕ) (content : List ℕ) (walk : DigitWalk) → IsAmid (from_here number content) walk → walk.next ≡ None
    → AreDecoded (Numbered number) content walk.decoded
all_decoded number content walk amid none =
    let all = amid.taken [] [] (subst (λ next. AreTakenFrom walk.seen.items (numbered_facts next) [] []) (sym none) (refl, refl)) in
    record {
      packets = amid.packets;
      taken = subst (λ told. AreTakenFrom [] (from_here number content) amid.packets told) (append-nil walk.decoded.told.items)
          (subst (λ ps. AreTakenFrom [] (from_here number content) ps (walk.decoded.told.items ++ [])) (append-nil amid.packets) all);
      have = amid.have;
    }

-- the only capture as digits is decoded
pub only_decoded : (old : Decoded) (content : List ℕ) (new : Decoded) → old.captures.items ≡ [] → old.told.items ≡ [] → HasDecoded old None 0 content new
    → AreDecoded Hexadecimal content new
only_decoded old content new captures told has = record {
  packets = has.packets;
  taken = record {
    capture = has.capture.bytes.items;
    spelt = has.spelt;
    truncated = has.truncated;
    records = has.records;
    told = has.told ∙ ap (λ (cs : List Captured). cs ++ told_of None has.packets has.truncated ∷ []) told;
  };
  have = have_more old None 0 content new [] (none_told old.captures.items old.told.items captures told) has;
}

-- captures that were decoded are named where they have numbers
pub decoded_named : (form : Form) (content : List ℕ) (packets : List PacketFacts) (told : List Captured) → HasPackets form content packets told → (names : Bool)
    → names ≡ has_number form → AreNamedBy (name_where names) packets told
decoded_named Binary content packets told has names is = subst (λ (n : Bool). AreNamedBy (name_where n) packets told) (sym is) (named_alone Binary content packets told has)
decoded_named Hexadecimal content packets told has names is = subst (λ (n : Bool). AreNamedBy (name_where n) packets told) (sym is) (named_alone Hexadecimal content packets told has)
decoded_named (Numbered number) content packets told (all, cut, taken) names is =
    subst (λ (n : Bool). AreNamedBy (name_where n) packets told) (sym is) (named_taken [] all packets told taken)
