-- Captures as digits, which are decoded one after the other.
use Rattle.std.specs.Prelude.{◌≡◌, ◌++◌, ℕ, Bool, false, true, List, [], ◌∷◌, Option, Some}
use Rattle.packet_view.specs.Captures.{IsCaptureAt, PacketFacts, end_of}
use Rattle.acl_policy.specs.Policies.{IsAmong}
use Rattle.racl_io.specs.declared.fault.Fault.{Fault}
use Rattle.racl_io.specs.declared.marker_line.Form.{Form}
use Rattle.racl_io.specs.declared.marker_line.Form.TheVariants.{Hexadecimal, Numbered}
use Rattle.racl_io.specs.declared.marker_line.Numbered as mark
use Rattle.racl_io.specs.Inputs.{AreCutDigits, IsContent, numbered_facts}
use Rattle.racl_io.specs.CapturePackets.{HavePacketsTold}
use Rattle.racl_io.specs.declared.capture_bytes.CaptureBytes.{CaptureBytes}
use Rattle.racl_report.specs.ReadInputs.{HasPackets, told_of}
use Rattle.racl_report.specs.inner.NumberedCaptures.{IsFaultFrom, facts_of}
use Rattle.racl_runs.specs.declared.digit_captures.Decoded.{Decoded}
use Rattle.racl_runs.specs.declared.digit_captures.DigitWalk.{DigitWalk}

-- the fault that captures have, of which this is the next one
abbrev pub IsFaultAt : List ℕ → mark.Numbered → Fault → Type 0
IsFaultAt seen capture fault = IsFaultFrom seen (Some (facts_of capture)) fault

-- the digits are a capture, taken at the interface with this number, which was decoded behind the others
pub record HasDecoded (old : Decoded) (named : Option ℕ) (interface : ℕ) (digits : List ℕ) (new : Decoded) : Type 0 where
  pub capture : CaptureBytes
  pub at : capture.interface ≡ interface
  pub spelt : IsContent Hexadecimal digits capture.bytes.items
  pub packets : List PacketFacts
  pub truncated : Bool
  pub records : IsCaptureAt interface capture.bytes.items packets (end_of truncated)
  pub captures : new.captures.items ≡ old.captures.items ++ capture ∷ []
  pub told : new.told.items ≡ old.told.items ++ told_of named packets truncated ∷ []

-- this capture was taken, the first of its interface
pub record HasTaken (old : DigitWalk) (capture : mark.Numbered) (new : DigitWalk) : Type 0 where
  pub digits : List ℕ
  pub cut : AreCutDigits capture.content.now digits (numbered_facts new.next)
  pub first : IsAmong capture.interface old.seen.items → ⊥
  pub decoded : HasDecoded old.decoded (Some capture.interface) capture.interface digits new.decoded
  pub seen : new.seen.items ≡ capture.interface ∷ old.seen.items

-- whether captures behind a marker line of this form have numbers
abbrev pub has_number : Form → Bool
has_number (Numbered number) = true
has_number form = false

-- all captures were decoded that follow a marker line of this form
pub record AreDecoded (form : Form) (content : List ℕ) (decoded : Decoded) : Type 0 where
  pub packets : List PacketFacts
  pub taken : HasPackets form content packets decoded.told.items
  pub have : HavePacketsTold decoded.captures.items decoded.told.items packets
