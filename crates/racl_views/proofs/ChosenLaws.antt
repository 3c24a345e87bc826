-- What is written of a capture is a capture of the chosen packets.
use Rattle.std.proofs.Common.{◌≡◌, ◌∙◌, ◌++◌, ℕ, Bool, true, false, List, [], ◌∷◌, append_assoc, ap, arith, drop, length, map, refl, subst, sym, take}
use Rattle.std.proofs.lemmas.List.{drop_at, length-take-le, take-append-drop}
use Rattle.std.specs.List.{concat}
use Rattle.packet_view.proofs.FrontLemmas.{HaveOneHead, head_appended, header_too}
use Rattle.packet_view.specs.Captures.{AreRecords, HasFileHeader, IsCapture, IsCaptureAt, RecordFacts, Whole, packet_at, packets_at}
use Rattle.packet_view.specs.declared.capture.Order.{Order}
use Rattle.session_state.specs.declared.verdict.Verdict.{Verdict}
use Rattle.racl_views.specs.ChosenRecords.{AreRecordsOf, IsChosen, IsRecordOf, chosen_among, is_chosen, kept_before}
use Rattle.racl_views.specs.declared.chosen_packets.Chosen.{Chosen}

-- a header's bytes are a header with any others behind them
header_before : (order : Order) (bytes more : List ℕ) → HasFileHeader order bytes → HasFileHeader order (take 24 bytes ++ more)
header_before order bytes more header =
    let front : List ℕ = take 24 bytes in
    let size : length front ≡ 24 = length-take-le 24 bytes header.whole in
    let before : HaveOneHead bytes front = subst (λ (b : List ℕ). HaveOneHead b front) (take-append-drop 24 bytes) (head_appended front (drop 24 bytes) (omega arith)) in
    let behind : HaveOneHead (front ++ more) front = head_appended front more (omega arith) in
    header_too front (front ++ more) (record {
      whole = behind.whole_too;
      whole_too = behind.whole;
      same = λ order place width within. sym (behind.same order place width within);
    }) order (header_too bytes front before order header)

-- the bytes of records are these records
pub records_spelt : (order : Order) (pieces : List (List ℕ)) (records : List RecordFacts) → AreRecordsOf order pieces records → AreRecords order (concat pieces) records []
records_spelt order [] [] each = refl
records_spelt order [] (facts ∷ records) each = absurd each
records_spelt order (piece ∷ pieces) [] each = absurd each
records_spelt order (piece ∷ pieces) (facts ∷ records) ((header, spelt, is), each) = (
  concat pieces,
  (header, ap (λ (b : List ℕ). b ++ concat pieces) spelt ∙ append_assoc header facts.frame (concat pieces), is),
  records_spelt order pieces records each,
)

kept_too : (kept : Bool) (order : Order) (piece : List ℕ) (pieces : List (List ℕ)) (facts : RecordFacts) (records : List RecordFacts) → IsRecordOf order piece facts
    → AreRecordsOf order pieces records → AreRecordsOf order (kept_before kept piece pieces) (kept_before kept facts records)
kept_too true order piece pieces facts records one each = (one, each)
kept_too false order piece pieces facts records one each = each

-- the bytes of the chosen records are those that are chosen among the bytes of all
chosen_too : (chosen : Chosen) (verdicts : List Verdict) (order : Order) (pieces : List (List ℕ)) (records : List RecordFacts) → AreRecordsOf order pieces records
    → AreRecordsOf order (chosen_among chosen verdicts pieces) (chosen_among chosen verdicts records)
chosen_too chosen [] order pieces records each = tt
chosen_too chosen (verdict ∷ verdicts) order [] [] each = tt
chosen_too chosen (verdict ∷ verdicts) order [] (facts ∷ records) each = absurd each
chosen_too chosen (verdict ∷ verdicts) order (piece ∷ pieces) [] each = absurd each
chosen_too chosen (verdict ∷ verdicts) order (piece ∷ pieces) (facts ∷ records) (one, each) =
    kept_too (is_chosen chosen verdict) order piece _ facts _ one (chosen_too chosen verdicts order pieces records each)

kept_map : {A B : Type 0} (f : A → B) (kept : Bool) (x : A) (xs : List A) → map f (kept_before kept x xs) ≡ kept_before kept (f x) (map f xs)
kept_map f true x xs = refl
kept_map f false x xs = refl

chosen_map : {A B : Type 0} (f : A → B) (chosen : Chosen) (verdicts : List Verdict) (xs : List A) → chosen_among chosen verdicts (map f xs) ≡ map f (chosen_among chosen verdicts xs)
chosen_map f chosen [] xs = refl
chosen_map f chosen (verdict ∷ verdicts) [] = refl
chosen_map f chosen (verdict ∷ verdicts) (x ∷ xs) =
    ap (kept_before (is_chosen chosen verdict) (f x)) (chosen_map f chosen verdicts xs) ∙ sym (kept_map f (is_chosen chosen verdict) x (chosen_among chosen verdicts xs))

pub chosen_is_capture : (chosen : Chosen) (verdicts : List Verdict) (capture : List ℕ) (records : List RecordFacts) (written : List ℕ) → IsChosen chosen verdicts capture records written
    → IsCapture written (chosen_among chosen verdicts records) Whole
chosen_is_capture chosen verdicts capture records written is =
    let pieces : List (List ℕ) = chosen_among chosen verdicts is.pieces in
    let behind : drop 24 written ≡ concat pieces =
    ap (λ (b : List ℕ). drop 24 b) is.all ∙ drop_at (take 24 capture) (concat pieces) 24 (length-take-le 24 capture is.header.whole) in (
      is.order,
      [],
      subst (HasFileHeader is.order) (sym is.all) (header_before is.order capture (concat pieces) is.header),
      subst (λ (b : List ℕ). AreRecords is.order b (chosen_among chosen verdicts records) []) (sym behind)
          (records_spelt is.order pieces (chosen_among chosen verdicts records) (chosen_too chosen verdicts is.order is.pieces records is.each)),
      refl,
    )

pub chosen_is_capture_at : (chosen : Chosen) (verdicts : List Verdict) (capture : List ℕ) (records : List RecordFacts) (written : List ℕ) (number : ℕ)
    → IsChosen chosen verdicts capture records written → IsCaptureAt number written (chosen_among chosen verdicts (packets_at number records)) Whole
chosen_is_capture_at chosen verdicts capture records written number is = (
  chosen_among chosen verdicts records,
  chosen_is_capture chosen verdicts capture records written is,
  chosen_map (packet_at number) chosen verdicts records,
)
