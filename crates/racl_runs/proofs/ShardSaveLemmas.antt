-- Packets of a shard that are saved while their capture is read.
use Rattle.std.proofs.Common.{◌≡◌, ◌∙◌, ◌++◌, ℕ, List, [], ◌∷◌, Option, ap, arith, drop, length, subst, sym, take}
use Rattle.std.proofs.lemmas.List.{drop_all, take_at}
use Rattle.std.specs.List.{AllZip, concat}
use Rattle.packet_view.specs.Captures.{AreRecords, End, HasFileHeader, IsEnd, RecordFacts, packets_at}
use Rattle.packet_view.specs.declared.capture.Order.{Order}
use Rattle.packet_view.proofs.FrontLemmas.{behind_header_appended, header_appended}
use Rattle.session_state.specs.declared.verdict.Verdict.{Verdict}
use Rattle.racl_views.specs.ChosenRecords.{AreRecordsOf}
use Rattle.racl_report.specs.declared.saved_packets.Saves.{Saves}
use Rattle.capture_shards.specs.OwnRecords.{IsWholeRecord}
use Rattle.capture_shards.specs.Shards.{Own, own_in}
use Rattle.racl_runs.specs.Reads.{IsHeaded}
use Rattle.racl_runs.specs.ShardSaves.{HaveSavedOwn}
use Rattle.racl_runs.specs.declared.live_saves.LiveSaves.{LiveSaves}
use Rattle.racl_runs.specs.inner.Kept.{HaveGot}
use Rattle.racl_runs.proofs.LiveSaveLemmas.{Keeps, first_saved}

-- whole records are the records of their bytes
records_of : (order : Order) (pieces : List (List ℕ)) (records : List RecordFacts) → AllZip (IsWholeRecord order) pieces records → AreRecordsOf order pieces records
records_of order [] [] each = tt
records_of order [] (r ∷ rs) each = absurd each
records_of order (p ∷ ps) [] each = absurd each
records_of order (p ∷ ps) (r ∷ rs) (one, each) = (one, records_of order ps rs each)

-- of one's own packets, on which these are the verdicts, their records were saved behind the header
pub own_saved : {S : Type 0} (sink : S → Option (List ℕ)) (failures : S → ℕ) (own : Own) (order : Order) (header read rest : List ℕ) (end : End) (packets : List RecordFacts)
    (pieces : List (List ℕ)) (said : List Verdict) (first : Saves S) (mid last : LiveSaves S) → IsHeaded order header → length header ≡ 24 → AreRecords order read packets rest
    → AllZip (IsWholeRecord order) pieces packets → read ≡ concat pieces ++ rest → IsEnd order rest end → HaveGot sink header first mid.files
    → Keeps sink failures mid order (concat (own_in own 1 (packets_at 0 packets) pieces)) said last → HaveSavedOwn sink own (header ++ read) packets said first last.files
own_saved sink failures own order header read rest end packets pieces said first mid last headed size are each spelt ends got kept =
    let mine = concat (own_in own 1 (packets_at 0 packets) pieces) in
    let front : take 24 (header ++ read) ≡ header = take_at header read 24 size in
    let behind : drop 24 (header ++ read) ≡ read = behind_header_appended header read (omega arith) ∙ ap (λ b. b ++ read) (drop_all 24 header (omega arith)) in
    let right : HasFileHeader order (header ++ read) =
    (header_appended order header read (record { right = headed.right; one = headed.one; none = headed.none })).right in
    record {
      mine = header ++ mine;
      alone = record {
        end = end;
        are = (order, rest, right, subst (λ (b : List ℕ). AreRecords order b packets rest) (sym behind) are, ends);
        order = order;
        header = right;
        pieces = pieces;
        each = records_of order pieces packets each;
        rest = rest;
        spelt = ap (λ (b : List ℕ). header ++ b) spelt ∙ ap (λ (b : List ℕ). b ++ (concat pieces ++ rest)) (sym front);
        all = ap (λ (b : List ℕ). b ++ mine) (sym front);
      };
      saved = first_saved sink failures order header mine said first mid.files last.files headed size got kept;
    }
