-- Packets of a capture that are saved while it comes.
use Rattle.std.proofs.Common.{◌≡◌, ◌∙◌, ◌-◌, ◌<◌, ◌^◌, ◌++◌, ℕ, List, [], Option, None, Some, Result, Ok, Err, IfSome, OnOk, ap, append-nil, arith, drop, length, refl, subst, sym, take}
use Rattle.std.proofs.KnownBytes.{Appends-nil, Appends-trans}
use Rattle.std.specs.Bool.{⊤}
use Rattle.std.proofs.lemmas.List.{append_cancel_right, drop_all, length-append, take_at}
use Rattle.std.proofs.lemmas.List.Folds.{concat-append}
use Rattle.std.specs.List.{concat}
use Rattle.packet_view.specs.Captures.{AreRecords, End, HasFileHeader, IsEnd, RecordFacts, Whole}
use Rattle.packet_view.specs.declared.capture.Order.{Order}
use Rattle.packet_view.proofs.FrontLemmas.{behind_header_appended, header_appended, records_appended}
use Rattle.session_state.specs.declared.verdict.Verdict.{Verdict}
use Rattle.racl_io.specs.declared.fault.Fault.{Fault}
use Rattle.racl_views.specs.ChosenRecords.{AreRecordsOf, IsSaved, chosen_among}
use Rattle.racl_views.specs.declared.chosen_packets.Chosen.{Chosen}
use Rattle.racl_views.specs.declared.chosen_packets.Chosen.TheVariants.{Dropped, Passing}
use Rattle.racl_views.proofs.ChosenLaws.{records_spelt}
use Rattle.racl_views.proofs.ChosenLemmas.{chosen_both, pieces_both, pieces_count, pieces_of}
use Rattle.racl_report.specs.Saves.{HasSaved}
use Rattle.racl_report.specs.declared.saved_packets.Saves.{Saves}
use Rattle.capture_stream.specs.Savings.{MaySave, SavesMore}
use Rattle.racl_runs.specs.LiveSaves.{HaveSaved, MayFail}
use Rattle.racl_runs.specs.Reads.{IsHeaded}
use Rattle.racl_runs.specs.inner.Kept.{HasGot, HaveGot, HaveKept}
use Rattle.racl_runs.specs.declared.live_saves.LiveSaves.{LiveSaves}

-- ---- What a file got

pub got_none : {S : Type 0} (sink : S → Option (List ℕ)) (file : Option S) → HasGot sink [] file file
got_none sink None = tt
got_none sink (Some file) = Appends-nil (sink file)

pub got_both : {S : Type 0} (sink : S → Option (List ℕ)) (one two all : List ℕ) (a b c : Option S) → HasGot sink one a b → HasGot sink two b c → one ++ two ≡ all
    → HasGot sink all a c
got_both sink one two all None None None first second both = tt
got_both sink one two all None None (Some z) first second both = absurd second
got_both sink one two all None (Some y) c first second both = absurd first
got_both sink one two all (Some x) None c first second both = absurd first
got_both sink one two all (Some x) (Some y) None first second both = absurd second
got_both sink one two all (Some x) (Some y) (Some z) first second both =
    subst (λ (b : List ℕ). HasGot sink b (Some x) (Some z)) both (Appends-trans (sink x) (sink y) (sink z) one two first second)

-- ---- Part after part

-- no record was given
pub none_kept : {S : Type 0} (sink : S → Option (List ℕ)) (failures : S → ℕ) (files : Saves S) (order : Order) → MayFail failures files
    → HaveKept sink failures files order [] [] files
none_kept sink failures files order sound = record {
  pieces = [];
  packets = [];
  each = tt;
  spelt = refl;
  count = refl;
  drops = got_none sink files.drops;
  passes = got_none sink files.passes;
  sound = sound;
}

-- what a file got of these records, whatever their bytes are
abbrev pub GotChosen : {S : Type 0} → (S → Option (List ℕ)) → Order → List ℕ → Chosen → List Verdict → Option S → Option S → Type 0
GotChosen sink order records chosen verdicts old new = (pieces : List (List ℕ)) (packets : List RecordFacts) → AreRecordsOf order pieces packets → records ≡ concat pieces
    → HasGot sink (concat (chosen_among chosen verdicts pieces)) old new

abbrev pub Keeps : {S : Type 0} → (S → Option (List ℕ)) → (S → ℕ) → LiveSaves S → Order → List ℕ → List Verdict → LiveSaves S → Type 0
Keeps sink failures begun order records said saves = HaveKept sink failures begun.files order records said saves.files

-- some after others
chosen_more : (chosen : Chosen) (vs ws : List Verdict) (ps qs : List (List ℕ)) → length vs ≡ length ps
    → concat (chosen_among chosen vs ps) ++ concat (chosen_among chosen ws qs) ≡ concat (chosen_among chosen (vs ++ ws) (ps ++ qs))
chosen_more chosen vs ws ps qs count =
    sym (ap concat (chosen_both chosen vs ws ps qs count) ∙ concat-append (chosen_among chosen vs ps) (chosen_among chosen ws qs))

pub kept_more : {S : Type 0} (sink : S → Option (List ℕ)) (failures : S → ℕ) (old new : LiveSaves S) (order : Order) (records : List ℕ) (verdicts : List Verdict)
    → MaySave (Keeps sink failures) old order records verdicts → GotChosen sink order records Dropped verdicts old.files.drops new.files.drops
    → GotChosen sink order records Passing verdicts old.files.passes new.files.passes → MayFail failures new.files
    → SavesMore (Keeps sink failures) old order records verdicts new
kept_more sink failures old new order records verdicts may drops passes sound begun bytes said kept =
    let parts = pieces_of order (records ++ may.whole.rest) may.packets may.whole.rest may.whole.are in
    let spelt : records ≡ concat parts.pieces = append_cancel_right records (concat parts.pieces) may.whole.rest parts.spelt in
    let both = length-append said verdicts in
    let pieces = length-append kept.pieces parts.pieces in
    let first = kept.count in
    let second = may.each in
    let count = pieces_count order parts.pieces may.packets parts.each in
    record {
      pieces = kept.pieces ++ parts.pieces;
      packets = kept.packets ++ may.packets;
      each = pieces_both order kept.pieces parts.pieces kept.packets may.packets kept.each parts.each;
      spelt = ap (λ (b : List ℕ). b ++ records) kept.spelt ∙ ap (λ (b : List ℕ). concat kept.pieces ++ b) spelt ∙ sym (concat-append kept.pieces parts.pieces);
      count = omega arith;
      drops = got_both sink _ _ _ begun.files.drops old.files.drops new.files.drops kept.drops (drops parts.pieces may.packets parts.each spelt)
          (chosen_more Dropped said verdicts kept.pieces parts.pieces kept.count);
      passes = got_both sink _ _ _ begun.files.passes old.files.passes new.files.passes kept.passes (passes parts.pieces may.packets parts.each spelt)
          (chosen_more Passing said verdicts kept.pieces parts.pieces kept.count);
      sound = sound;
    }

-- where both files got theirs
pub saved_more : {S : Type 0} (sink : S → Option (List ℕ)) (failures : S → ℕ) (old new : LiveSaves S) (order : Order) (records : List ℕ) (verdicts : List Verdict)
    (result : Result ⊤ Fault) → MaySave (Keeps sink failures) old order records verdicts → GotChosen sink order records Dropped verdicts old.files.drops new.files.drops
    → IfSome new.files.drops (λ file. failures file < 2 ^ 64 - 1) → OnOk result (GotChosen sink order records Passing verdicts old.files.passes new.files.passes)
    → OnOk result (IfSome new.files.passes (λ file. failures file < 2 ^ 64 - 1)) → OnOk result (SavesMore (Keeps sink failures) old order records verdicts new)
saved_more sink failures old new order records verdicts (Ok x) may drops sound passes also = kept_more sink failures old new order records verdicts may drops passes (sound, also)
saved_more sink failures old new order records verdicts (Err fault) may drops sound passes also = tt

-- ---- All of it, as a capture

-- files got those of a capture of this header and these records
abbrev pub SavesBehind : {S : Type 0} → (S → Option (List ℕ)) → List ℕ → Saves S → Order → List ℕ → List Verdict → Saves S → Type 0
SavesBehind sink header before order records verdicts after = HaveSaved sink (header ++ records) verdicts before after

module _ (order : Order) (header read whole rest : List ℕ) (end : End) (headed : IsHeaded order header) (size : length header ≡ 24)
    (pieces : List (List ℕ)) (packets : List RecordFacts) (each : AreRecordsOf order pieces packets) (bytes : whole ≡ concat pieces) (all : read ≡ whole ++ rest)
    (ends : IsEnd order rest end) (verdicts : List Verdict) where
  front : take 24 (header ++ read) ≡ header
  front = take_at header read 24 size

  behind : drop 24 (header ++ read) ≡ read
  behind = behind_header_appended header read (omega arith) ∙ ap (λ b. b ++ read) (drop_all 24 header (omega arith))

  all_bytes : read ≡ concat pieces ++ rest
  all_bytes = all ∙ ap (λ (b : List ℕ). b ++ rest) bytes

  is_saved : (chosen : Chosen) → IsSaved chosen verdicts (header ++ read) (header ++ concat (chosen_among chosen verdicts pieces))
  is_saved chosen =
      let right : HasFileHeader order (header ++ read) =
      (header_appended order header read (record { right = headed.right; one = headed.one; none = headed.none })).right in
      record {
        records = packets;
        end = end;
        are = (
          order,
          rest,
          right,
          subst (λ (b : List ℕ). AreRecords order b packets rest) (sym (behind ∙ all_bytes))
              (records_appended order (concat pieces) rest packets [] (records_spelt order pieces packets each)),
          ends,
        );
        is = record {
          order = order;
          header = right;
          pieces = pieces;
          each = each;
          rest = rest;
          spelt = ap (λ (b : List ℕ). header ++ b) all_bytes ∙ ap (λ (b : List ℕ). b ++ (concat pieces ++ rest)) (sym front);
          all = ap (λ (b : List ℕ). b ++ concat (chosen_among chosen verdicts pieces)) (sym front);
        };
      }

  pub one_saved : {S : Type 0} (sink : S → Option (List ℕ)) (chosen : Chosen) (a b c : Option S) → HasGot sink header a b
      → HasGot sink (concat (chosen_among chosen verdicts pieces)) b c → HasSaved sink (header ++ read) chosen verdicts a c
  one_saved sink chosen None None None first second = tt
  one_saved sink chosen None None (Some z) first second = absurd second
  one_saved sink chosen None (Some y) c first second = absurd first
  one_saved sink chosen (Some x) None c first second = absurd first
  one_saved sink chosen (Some x) (Some y) None first second = absurd second
  one_saved sink chosen (Some x) (Some y) (Some z) first second = (
    header ++ concat (chosen_among chosen verdicts pieces),
    is_saved chosen,
    Appends-trans (sink x) (sink y) (sink z) header (concat (chosen_among chosen verdicts pieces)) first second,
  )

pub have_saved : {S : Type 0} (sink : S → Option (List ℕ)) (failures : S → ℕ) (order : Order) (header read whole rest : List ℕ) (end : End) (verdicts : List Verdict)
    (before begun after : Saves S) → IsHeaded order header → length header ≡ 24 → read ≡ whole ++ rest → IsEnd order rest end → HaveGot sink header before begun
    → HaveKept sink failures begun order whole verdicts after → HaveSaved sink (header ++ read) verdicts before after
have_saved sink failures order header read whole rest end verdicts before begun after headed size all ends (drops, passes) kept = record {
  drops = one_saved order header read whole rest end headed size kept.pieces kept.packets kept.each kept.spelt all ends verdicts sink Dropped before.drops begun.drops after.drops
      drops kept.drops;
  passes = one_saved order header read whole rest end headed size kept.pieces kept.packets kept.each kept.spelt all ends verdicts sink Passing before.passes begun.passes after.passes
      passes kept.passes;
}

-- the records that were told, where more bytes may follow
pub first_saved : {S : Type 0} (sink : S → Option (List ℕ)) (failures : S → ℕ) (order : Order) (header whole : List ℕ) (verdicts : List Verdict)
    (before begun after : Saves S) → IsHeaded order header → length header ≡ 24 → HaveGot sink header before begun
    → HaveKept sink failures begun order whole verdicts after → HaveSaved sink (header ++ whole) verdicts before after
first_saved sink failures order header whole verdicts before begun after headed size got kept =
    have_saved sink failures order header whole whole [] Whole verdicts before begun after headed size (sym (append-nil whole)) refl got kept
