-- Captures with numbers are all right, or one of them has the first fault, and not both.
use Rattle.std.proofs.Common.{◌≡◌, ◌∙◌, ◌⊎◌, ℕ, List, [], ◌∷◌, Result, Ok, Err, refl, sym, ap, subst, inl, inr}
use Rattle.std.proofs.lemmas.Bool.{cases_eq}
use Rattle.hex.specs.Hex.{decode_of}
use Rattle.hex.proofs.HexLemmas.{decode_of-ok}
use Rattle.packet_view.specs.Bytes.{AreBytes}
use Rattle.packet_view.specs.Captures.{IsCaptureFault}
use Rattle.packet_view.proofs.CutLemmas.{no_fault_too}
use Rattle.packet_view.proofs.ReadingLemmas.{one_fault, some_reading}
use Rattle.acl_policy.specs.Policies.{IsAmong}
use Rattle.racl_io.specs.declared.fault.Fault.{Fault}
use Rattle.racl_io.specs.declared.fault.Fault.TheVariants.{Hex, Twice}
use Rattle.racl_io.specs.declared.marker_line.Form.TheVariants.{Hexadecimal}
use Rattle.racl_io.specs.Faults.{IsFaultOfCaptures, IsFaultOfOne, IsRight, capture_fault}
use Rattle.racl_io.specs.Inputs.{DigitsFacts, IsContent, digits_of}

-- digits stand for one capture
one_capture : (digits one other : List ℕ) → IsContent Hexadecimal digits one → IsContent Hexadecimal digits other → one ≡ other
one_capture digits one other p q = cc

-- and that is bytes
pub bytes_of_digits : (digits capture : List ℕ) → IsContent Hexadecimal digits capture → AreBytes capture
bytes_of_digits digits capture is = (decode_of-ok (digits_of digits) capture is).3

one_fault_of_digits : (digits : List ℕ) (one other : Fault) → IsFaultOfOne Hexadecimal digits one → IsFaultOfOne Hexadecimal digits other → one ≡ other
one_fault_of_digits digits one other (inl (same, none)) (inl (same', none')) = same ∙ sym same'
one_fault_of_digits digits one other (inl (same, none)) (inr (capture, spelt, of)) = absurd (none capture spelt)
one_fault_of_digits digits one other (inr (capture, spelt, of)) (inl (same, none)) = absurd (none capture spelt)
one_fault_of_digits digits one other (inr (capture, spelt, of)) (inr (capture', spelt', of')) =
    let moved = subst (λ c. IsCaptureFault c of'.0) (one_capture digits capture' capture spelt' spelt) of'.1 in
    of.2 ∙ ap capture_fault (one_fault capture (bytes_of_digits digits capture spelt) of.0 of'.0 of.1 moved) ∙ sym of'.2

right_has_none : (digits : List ℕ) (fault : Fault) → IsRight digits → IsFaultOfOne Hexadecimal digits fault → ⊥
right_has_none digits fault right (inl (same, none)) = none right.0 right.3
right_has_none digits fault right (inr (capture, spelt, of)) =
    let moved = subst (λ c. IsCaptureFault c of.0) (one_capture digits capture right.0 spelt right.3) of.1 in
    no_fault_too right.0 right.1 right.2 of.0 (bytes_of_digits digits right.0 right.3) right.4 moved

right_or_fault : (digits : List ℕ) → IsRight digits ⊎ ((fault : Fault) × IsFaultOfOne Hexadecimal digits fault)
right_or_fault digits = go (decode_of (digits_of digits)) refl
  where
    go : (result : Result (List ℕ) _) → decode_of (digits_of digits) ≡ result → IsRight digits ⊎ ((fault : Fault) × IsFaultOfOne Hexadecimal digits fault)
    go (Ok capture) same =
        elim (some_reading capture) [
          | inl is ↦ inl (capture, is.0, is.1, same, is.2)
          | inr found ↦ inr (capture_fault found.0, inr (capture, same, (found.0, found.1, refl)))
        ]
    go (Err error) same = inr (Hex, inl (refl, λ capture is. cc))

-- each of these captures is of an interface that wasn't seen before, and right
abbrev pub AreRight : List ℕ → List DigitsFacts → Type 0
AreRight seen [] = Unit {0}
AreRight seen (first ∷ others) = (IsAmong first.interface seen → ⊥) × IsRight first.digits × AreRight (first.interface ∷ seen) others

pub one_captures_fault : (seen : List ℕ) (captures : List DigitsFacts) (one other : Fault) → IsFaultOfCaptures seen captures one
    → IsFaultOfCaptures seen captures other → one ≡ other
one_captures_fault seen [] one other is also = absurd is
one_captures_fault seen (first ∷ others) one other (inl (among, same)) (inl (among', same')) = same ∙ sym same'
one_captures_fault seen (first ∷ others) one other (inl (among, same)) (inr (new, of)) = absurd (new among)
one_captures_fault seen (first ∷ others) one other (inr (new, of)) (inl (among, same)) = absurd (new among)
one_captures_fault seen (first ∷ others) one other (inr (new, inl of)) (inr (new', inl of')) = one_fault_of_digits first.digits one other of of'
one_captures_fault seen (first ∷ others) one other (inr (new, inl of)) (inr (new', inr (right, of'))) = absurd (right_has_none first.digits one right of)
one_captures_fault seen (first ∷ others) one other (inr (new, inr (right, of))) (inr (new', inl of')) = absurd (right_has_none first.digits other right of')
one_captures_fault seen (first ∷ others) one other (inr (new, inr (right, of))) (inr (new', inr (right', of'))) =
    one_captures_fault (first.interface ∷ seen) others one other of of'

pub no_captures_fault : (seen : List ℕ) (captures : List DigitsFacts) (fault : Fault) → AreRight seen captures → IsFaultOfCaptures seen captures fault → ⊥
no_captures_fault seen [] fault right is = is
no_captures_fault seen (first ∷ others) fault right (inl (among, same)) = right.0 among
no_captures_fault seen (first ∷ others) fault right (inr (new, inl of)) = right_has_none first.digits fault right.1 of
no_captures_fault seen (first ∷ others) fault right (inr (new, inr (is, of))) = no_captures_fault (first.interface ∷ seen) others fault right.2 of

among_or_not : (number : ℕ) (seen : List ℕ) → IsAmong number seen ⊎ (IsAmong number seen → ⊥)
among_or_not number [] = inr (λ none. none)
among_or_not number (other ∷ seen) =
    elim (cases_eq number other) [
      | inl same ↦ inl (inl same)
      | inr unlike ↦ elim (among_or_not number seen) [
        | inl among ↦ inl (inr among)
        | inr new ↦ inr (λ among. elim among [ inl same ↦ unlike same | inr is ↦ new is ])
      ]
    ]

pub captures_or_fault : (seen : List ℕ) (captures : List DigitsFacts) → AreRight seen captures ⊎ ((fault : Fault) × IsFaultOfCaptures seen captures fault)
captures_or_fault seen [] = inl tt
captures_or_fault seen (first ∷ others) =
    elim (among_or_not first.interface seen) [
      | inl among ↦ inr (Twice first.interface, inl (among, refl))
      | inr new ↦ elim (right_or_fault first.digits) [
        | inl right ↦ elim (captures_or_fault (first.interface ∷ seen) others) [
          | inl all ↦ inl (new, right, all)
          | inr found ↦ inr (found.0, inr (new, inr (right, found.1)))
        ]
        | inr found ↦ inr (found.0, inr (new, inl found.1))
      ]
    ]
