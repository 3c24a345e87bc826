-- How the steps of the code go on from one another.
use Rattle.std.proofs.Common.{◌≡◌, ◌∙◌, ◌≤◌, ◌-◌, ℕ, List, Option, Some, sym, ap, length, take, drop}
use Rattle.std.proofs.lemmas.Bool.{cond-false, le-ltb}
use Rattle.std.proofs.lemmas.List.{take_rest}
use Rattle.std.specs.Option.{option_and_then}
use Rattle.byteorder.specs.Endian.{big_number}
use Rattle.packet_view.specs.Bytes.{number_from}
use Rattle.packet_view.specs.inner.FrameSteps.{after_tag, content_of}

-- after the first tag the second is tried
pub content_after : (frame : List ℕ) (n kind : ℕ) (content : List ℕ) (found : Option (ℕ × List ℕ)) → 14 ≤ length frame
    → n ≡ big_number 2 (take (length frame - 12) (drop 12 frame)) → Some (kind, content) ≡ after_tag n (take (length frame - 14) (drop 14 frame))
    → found ≡ after_tag kind content → found ≡ content_of frame
content_after frame n kind content found long number first second =
    let behind : Option (ℕ × List ℕ) → Option (ℕ × List ℕ) = λ c. option_and_then (λ (p : ℕ × List ℕ). after_tag p.0 p.1) c in
    let same : after_tag n (take (length frame - 14) (drop 14 frame)) ≡ after_tag (number_from 12 2 frame) (drop 14 frame) =
    ap (λ m. after_tag m (take (length frame - 14) (drop 14 frame))) (number ∙ ap (big_number 2) (take_rest frame 12)) ∙ ap (after_tag (number_from 12 2 frame)) (take_rest frame 14) in
    second ∙ ap behind (first ∙ same) ∙ sym (cond-false _ _ _ (le-ltb (length frame) 14 long))
