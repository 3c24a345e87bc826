-- A walk over records finds the bytes of the chosen ones.
use Rattle.std.proofs.Common.{◌≡◌, ◌∙◌, ◌<◌, ◌+◌, ◌++◌, ℕ, Bool, true, false, List, [], ◌∷◌, append_assoc, append-nil, ap, arith, drop, get_or, length, refl, suc, subst, sym, take}
use Rattle.std.proofs.lemmas.List.{length-append, take_at}
use Rattle.std.specs.List.{concat}
use Rattle.packet_view.proofs.RecordLemmas.{IsStop, part_only, part_shown}
use Rattle.packet_view.specs.Captures.{AreRecords, Cut, IsPiece, Nothing, PieceFacts, Record, RecordFacts, TooLong}
use Rattle.packet_view.specs.Fronts.{Stops}
use Rattle.packet_view.specs.declared.capture.Order.{Order}
use Rattle.packet_view.specs.declared.records_at_front.Stop.{Stop}
use Rattle.packet_view.specs.declared.records_at_front.Stop.TheVariants as stop
use Rattle.packet_view.specs.inner.RecordSteps.{part_of}
use Rattle.session_state.specs.declared.verdict.Verdict.{Verdict}
use Rattle.racl_views.specs.ChosenRecords.{AreRecordsOf, IsRecordOf, chosen_among, is_chosen, kept_before}
use Rattle.racl_views.specs.declared.chosen_packets.Chosen.{Chosen}
use Rattle.racl_views.specs.inner.Batches.{bytes_where}
use Rattle.racl_views.specs.inner.ChosenBytes.{HasNoRecord, chosen_in, found_first}
use Rattle.racl_io.proofs.LeftLemmas.{drop_one}

-- the bytes of a record that is at the front
pub front_bytes : (order : Order) (bytes : List ℕ) (facts : RecordFacts) (rest : List ℕ) → IsPiece order bytes (Record facts rest)
    → IsRecordOf order (take (16 + length facts.frame) bytes) facts
front_bytes order bytes facts rest (header, spelt, is) =
    let size = length-append header facts.frame in
    let front : length (header ++ facts.frame) ≡ 16 + length facts.frame = omega (arith, is.sixteen) in
    let whole : bytes ≡ (header ++ facts.frame) ++ rest = spelt ∙ sym (append_assoc header facts.frame rest) in
    (header, ap (take (16 + length facts.frame)) whole ∙ take_at (header ++ facts.frame) rest (16 + length facts.frame) front, is)

-- where the bytes are a record's and others, the walk finds it
piece_of : (order : Order) (bytes piece rest : List ℕ) (facts : RecordFacts) → IsRecordOf order piece facts → bytes ≡ piece ++ rest → IsPiece order bytes (Record facts rest)
piece_of order bytes piece rest facts (header, spelt, is) whole =
    (header, whole ∙ ap (λ (b : List ℕ). b ++ rest) spelt ∙ append_assoc header facts.frame rest, is)

found : (kept : Bool) (behind : List ℕ → List ℕ) (order : Order) (bytes piece rest : List ℕ) (facts : RecordFacts) → IsRecordOf order piece facts → bytes ≡ piece ++ rest
    → found_first kept behind bytes (part_of order bytes) ≡ bytes_where kept piece ++ behind rest
found kept behind order bytes piece rest facts (header, spelt, is) whole =
    let size = length-append header facts.frame in
    let long : length piece ≡ 16 + length facts.frame = omega (arith, ap length spelt, is.sixteen) in
    let front : take (16 + length facts.frame) bytes ≡ piece = ap (take (16 + length facts.frame)) whole ∙ take_at piece rest (16 + length facts.frame) long in
    ap (found_first kept behind bytes) (sym (part_only order bytes (Record facts rest) (piece_of order bytes piece rest facts (header, spelt, is) whole)))
    ∙ ap (λ (b : List ℕ). bytes_where kept b ++ behind rest) front

none_found : (kept : Bool) (behind : List ℕ → List ℕ) (order : Order) (bytes : List ℕ) (part : PieceFacts) → IsPiece order bytes part → HasNoRecord order bytes
    → found_first kept behind bytes part ≡ []
none_found kept behind order bytes (Record facts rest) is absent = absurd (absent facts rest is)
none_found kept behind order bytes Nothing is absent = refl
none_found kept behind order bytes Cut is absent = refl
none_found kept behind order bytes TooLong is absent = refl

-- one step of the walk
pub chosen_first : (chosen : Chosen) (order : Order) (verdict : Verdict) (verdicts : List Verdict) (bytes piece rest : List ℕ) (facts : RecordFacts)
    → IsRecordOf order piece facts → bytes ≡ piece ++ rest
    → chosen_in chosen order (verdict ∷ verdicts) bytes ≡ bytes_where (is_chosen chosen verdict) piece ++ chosen_in chosen order verdicts rest
unfolding chosen_in
chosen_first chosen order verdict verdicts bytes piece rest facts is whole =
    found (is_chosen chosen verdict) (chosen_in chosen order verdicts) order bytes piece rest facts is whole

pub chosen_none : (chosen : Chosen) (order : Order) (verdicts : List Verdict) (bytes : List ℕ) → HasNoRecord order bytes → chosen_in chosen order verdicts bytes ≡ []
unfolding chosen_in
chosen_none chosen order [] bytes absent = refl
chosen_none chosen order (verdict ∷ verdicts) bytes absent =
    none_found (is_chosen chosen verdict) (chosen_in chosen order verdicts) order bytes (part_of order bytes) (part_shown order bytes) absent

pub chosen_end : (chosen : Chosen) (order : Order) (bytes : List ℕ) → chosen_in chosen order [] bytes ≡ []
unfolding chosen_in
chosen_end chosen order bytes = refl

-- what was written, what waits and what is left to find, after one more record
pub more_chosen : (chosen : Chosen) (order : Order) (verdicts : List Verdict) (k : ℕ) (verdict : Verdict) (left piece rest gone waits more waiting all : List ℕ) (kept : Bool) (facts : RecordFacts)
    → k < length verdicts → IsRecordOf order piece facts → left ≡ piece ++ rest
    → (gone ++ waits) ++ chosen_in chosen order (drop k verdicts) left ≡ all
    → kept ≡ is_chosen chosen (get_or verdicts k verdict) → more ++ waiting ≡ waits ++ bytes_where kept piece
    → ((gone ++ more) ++ waiting) ++ chosen_in chosen order (drop (k + 1) verdicts) rest ≡ all
more_chosen chosen order verdicts k verdict left piece rest gone waits more waiting all kept facts within is whole so_far same passed =
    let now = get_or verdicts k verdict in
    let record_bytes : List ℕ = bytes_where (is_chosen chosen now) piece in
    let behind : List ℕ = chosen_in chosen order (drop (k + 1) verdicts) rest in
    let put = passed ∙ ap (λ kept. waits ++ bytes_where kept piece) same in
    ap (λ (b : List ℕ). b ++ behind) (append_assoc gone more waiting ∙ ap (λ (b : List ℕ). gone ++ b) put ∙ sym (append_assoc gone waits record_bytes))
    ∙ append_assoc (gone ++ waits) record_bytes behind
    ∙ ap (λ (b : List ℕ). (gone ++ waits) ++ b) (sym (chosen_first chosen order now (drop (k + 1) verdicts) left piece rest facts is whole)
    ∙ ap (λ (vs : List Verdict). chosen_in chosen order vs left) (sym (drop_one verdicts k verdict within)))
    ∙ so_far

-- where nothing more is found, all was written or waits
pub found_all : (gone waits left all : List ℕ) → left ≡ [] → (gone ++ waits) ++ left ≡ all → gone ++ waits ≡ all
found_all gone waits left all nothing so_far = sym (append-nil (gone ++ waits)) ∙ ap (λ (b : List ℕ). (gone ++ waits) ++ b) (sym nothing) ∙ so_far

-- no record is where the whole ones end
pub none_behind : (order : Order) (rest : List ℕ) (at : Stop) → Stops order rest at → HasNoRecord order rest
none_behind order rest stop.End ends facts others is =
    subst IsStop (part_only order rest Nothing ends ∙ sym (part_only order rest (Record facts others) is)) tt
none_behind order rest stop.Truncated ends facts others is =
    subst IsStop (part_only order rest Cut ends ∙ sym (part_only order rest (Record facts others) is)) tt
none_behind order rest stop.TooLong ends facts others is =
    subst IsStop (part_only order rest TooLong ends ∙ sym (part_only order rest (Record facts others) is)) tt

-- records with the bytes of each
pub record HasPieces (order : Order) (bytes : List ℕ) (records : List RecordFacts) (rest : List ℕ) : Type 0 where
  pub pieces : List (List ℕ)
  pub each : AreRecordsOf order pieces records
  pub spelt : bytes ≡ concat pieces ++ rest

pub pieces_of : (order : Order) (bytes : List ℕ) (records : List RecordFacts) (rest : List ℕ) → AreRecords order bytes records rest → HasPieces order bytes records rest
pieces_of order bytes [] rest all = record { pieces = []; each = tt; spelt = all }
pieces_of order bytes (facts ∷ records) rest (others, (header, spelt, is), all) =
    let more = pieces_of order others records rest all in
    let piece = header ++ facts.frame in
    record {
      pieces = piece ∷ more.pieces;
      each = ((header, refl, is), more.each);
      spelt = spelt ∙ sym (append_assoc header facts.frame others) ∙ ap (λ (b : List ℕ). piece ++ b) more.spelt ∙ sym (append_assoc piece (concat more.pieces) rest);
    }

kept_concat : (kept : Bool) (piece : List ℕ) (pieces : List (List ℕ)) → bytes_where kept piece ++ concat pieces ≡ concat (kept_before kept piece pieces)
kept_concat true piece pieces = refl
kept_concat false piece pieces = refl

-- what the walk finds are the bytes of the chosen ones
pub chosen_found : (chosen : Chosen) (order : Order) (verdicts : List Verdict) (pieces : List (List ℕ)) (records : List RecordFacts) (rest : List ℕ) → AreRecordsOf order pieces records
    → HasNoRecord order rest → chosen_in chosen order verdicts (concat pieces ++ rest) ≡ concat (chosen_among chosen verdicts pieces)
chosen_found chosen order [] pieces records rest each absent = chosen_end chosen order (concat pieces ++ rest)
chosen_found chosen order (verdict ∷ verdicts) [] records rest each absent = chosen_none chosen order (verdict ∷ verdicts) rest absent
chosen_found chosen order (verdict ∷ verdicts) (piece ∷ pieces) [] rest each absent = absurd each
chosen_found chosen order (verdict ∷ verdicts) (piece ∷ pieces) (facts ∷ records) rest (one, each) absent =
    let kept = is_chosen chosen verdict in
    chosen_first chosen order verdict verdicts ((piece ++ concat pieces) ++ rest) piece (concat pieces ++ rest) facts one (append_assoc piece (concat pieces) rest)
    ∙ ap (λ (b : List ℕ). bytes_where kept piece ++ b) (chosen_found chosen order verdicts pieces records rest each absent)
    ∙ kept_concat kept piece (chosen_among chosen verdicts pieces)

-- what the walk finds of whole records
pub chosen_whole : (chosen : Chosen) (order : Order) (verdicts : List Verdict) (bytes : List ℕ) (pieces : List (List ℕ)) (records : List RecordFacts) → AreRecordsOf order pieces records
    → bytes ≡ concat pieces → chosen_in chosen order verdicts bytes ≡ concat (chosen_among chosen verdicts pieces)
chosen_whole chosen order verdicts bytes pieces records each spelt =
    ap (chosen_in chosen order verdicts) (spelt ∙ sym (append-nil (concat pieces)))
    ∙ chosen_found chosen order verdicts pieces records [] each (none_behind order [] stop.End refl)

-- those that are chosen among some and others
pub chosen_both : {A : Type 0} (chosen : Chosen) (vs ws : List Verdict) (xs ys : List A) → length vs ≡ length xs
    → chosen_among chosen (vs ++ ws) (xs ++ ys) ≡ chosen_among chosen vs xs ++ chosen_among chosen ws ys
chosen_both chosen [] ws [] ys each = refl
chosen_both chosen [] ws (x ∷ xs) ys each = absurd (omega arith)
chosen_both chosen (v ∷ vs) ws [] ys each = absurd (omega arith)
chosen_both chosen (v ∷ vs) ws (x ∷ xs) ys each =
    ap (kept_before (is_chosen chosen v) x) (chosen_both chosen vs ws xs ys (omega arith))
    ∙ kept_both (is_chosen chosen v) x (chosen_among chosen vs xs) (chosen_among chosen ws ys)
  where
    kept_both : {A : Type 0} (kept : Bool) (y : A) (bs cs : List A) → kept_before kept y (bs ++ cs) ≡ kept_before kept y bs ++ cs
    kept_both true y bs cs = refl
    kept_both false y bs cs = refl

-- the bytes of both
pub pieces_both : (order : Order) (ps qs : List (List ℕ)) (xs ys : List RecordFacts) → AreRecordsOf order ps xs → AreRecordsOf order qs ys
    → AreRecordsOf order (ps ++ qs) (xs ++ ys)
pieces_both order [] qs [] ys one two = two
pieces_both order [] qs (x ∷ xs) ys one two = absurd one
pieces_both order (p ∷ ps) qs [] ys one two = absurd one
pieces_both order (p ∷ ps) qs (x ∷ xs) ys (is, one) two = (is, pieces_both order ps qs xs ys one two)

-- there are as many
pub pieces_count : (order : Order) (ps : List (List ℕ)) (xs : List RecordFacts) → AreRecordsOf order ps xs → length ps ≡ length xs
pieces_count order [] [] each = refl
pieces_count order [] (x ∷ xs) each = absurd each
pieces_count order (p ∷ ps) [] each = absurd each
pieces_count order (p ∷ ps) (x ∷ xs) (is, each) = ap suc (pieces_count order ps xs each)
