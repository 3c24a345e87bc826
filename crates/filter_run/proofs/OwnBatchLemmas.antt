-- Batches of one's own packets: what they have of a capture's records, and what is told of them.
use Rattle.std.proofs.Common.{◌≡◌, ◌∙◌, ◌+◌, ◌++◌, ℕ, List, [], ◌∷◌, None, Option, Some, ap, ap₂, append-nil, arith, flat_map, length, refl, subst, sym}
use Rattle.std.specs.List.{AllZip, concat}
use Rattle.std.proofs.lemmas.List.{length-append, length-map, map-append}
use Rattle.std.proofs.lemmas.List.Folds.{concat-append}
use Rattle.packet_view.specs.Captures.{AreRecords, PacketFacts, RecordFacts, packet_at, packets_at}
use Rattle.packet_view.specs.declared.capture.Order.{Order}
use Rattle.session_state.specs.declared.verdict.Verdict.{Verdict}
use Rattle.racl_io.specs.Tellings.{Wording}
use Rattle.capture_shards.specs.OwnRecords.{IsWholeRecord}
use Rattle.capture_shards.specs.Shards.{Own, own_in, own_packets}
use Rattle.capture_shards.specs.Sharing.{lines_at, own_numbers}
use Rattle.capture_shards.specs.declared.shard.Shard.{Shard}
use Rattle.capture_shards.specs.inner.OwnTests.{own_among}
use Rattle.capture_shards.proofs.OwnRecordLemmas.{own_numbers_both, own_numbers_count, pieces_are, whole_in}
use Rattle.capture_shards.proofs.PickedLists.{all_in, own_both, own_map}
use Rattle.filter_run.specs.Batches.{AreAllWhole, AreEach, BatchFacts, JudgedBatch, batches_of, count_from, given_or, numbers_in, packets_in, packets_of, said_of, total}
use Rattle.filter_run.specs.Lines.{batch_text, text_of}
use Rattle.filter_run.specs.OneCapture.{AreNumbered, bytes_of, records_of}
use Rattle.filter_run.specs.Saving.{AreOf}
use Rattle.filter_run.specs.Sharded.{IsOwnBatch, IsPart}
use Rattle.filter_run.proofs.NumberLemmas.{lines_at_both}

-- ---- Lists

pub zip_count : {X Y : Type 0} (R : X → Y → Type 0) (xs : List X) (ys : List Y) → AllZip R xs ys → length xs ≡ length ys
zip_count R [] [] all = refl
zip_count R [] (y ∷ ys) all = absurd all
zip_count R (x ∷ xs) [] all = absurd all
zip_count R (x ∷ xs) (y ∷ ys) (here, all) = let more = zip_count R xs ys all in omega arith

zip_both : {X Y : Type 0} (R : X → Y → Type 0) (xs xss : List X) (ys yss : List Y) → AllZip R xs ys → AllZip R xss yss → AllZip R (xs ++ xss) (ys ++ yss)
zip_both R [] xss [] yss all more = more
zip_both R [] xss (y ∷ ys) yss all more = absurd all
zip_both R (x ∷ xs) xss [] yss all more = absurd all
zip_both R (x ∷ xs) xss (y ∷ ys) yss (here, all) more = (here, zip_both R xs xss ys yss all more)

-- those before the last
pub record IsFrontOf {X Y : Type 0} (R : X → Y → Type 0) (all : List X) (ys : List Y) : Type 0 where
  pub front : List X
  pub last : X
  pub same : all ≡ front ++ last ∷ []
  pub zip : AllZip R front ys

pub zip_front : {X Y : Type 0} (R : X → Y → Type 0) (all : List X) (ys : List Y) (y : Y) → AllZip R all (ys ++ y ∷ []) → IsFrontOf R all ys
zip_front R [] [] y zip = absurd zip
zip_front R [] (b ∷ ys) y zip = absurd zip
zip_front R (x ∷ []) [] y zip = record { front = []; last = x; same = refl; zip = tt }
zip_front R (x ∷ z ∷ xs) [] y (here, more) = absurd more
zip_front R (x ∷ xs) (b ∷ ys) y (here, more) =
    let rest = zip_front R xs ys y more in
    record { front = x ∷ rest.front; last = rest.last; same = ap (λ l. x ∷ l) rest.same; zip = (here, rest.zip) }

-- as many packets as records
pub total_records : (all : List BatchFacts) → total all ≡ length (records_of all)
total_records [] = refl
total_records (batch ∷ all) =
    let both = length-append batch.records (records_of all) in let more = total_records all in omega arith

-- the packets of numbered batches are those of their records
pub packets_numbered : (n : ℕ) (order : Order) (all : List BatchFacts) → AreNumbered n order all → flat_map packets_in all ≡ packets_at 0 (records_of all)
packets_numbered n order [] are = refl
packets_numbered n order (batch ∷ all) (behind, same, at, plain, are) =
    ap₂ (λ i ps. packets_at i batch.records ++ ps) at (packets_numbered (n + length batch.records) order all are)
    ∙ sym (map-append (packet_at 0) batch.records (records_of all))

-- ---- What is given of a batch

-- where all packets are one's own they have all numbers
all_numbers : (n : ℕ) (records : List RecordFacts) → own_numbers (own_among None) n (packets_at 0 records) ≡ count_from n (length records)
all_numbers n [] = refl
all_numbers n (r ∷ records) = ap (λ (ns : List ℕ). n ∷ ns) (all_numbers (n + 1) records)

all_part : (whole : BatchFacts) → whole.numbers ≡ None → AreRecords whole.order whole.bytes whole.records [] → IsOwnBatch (own_among None) whole whole
all_part whole plain are =
    let (pieces, each, spelt) = whole_in whole.order whole.bytes whole.records [] are in
    let listed = length-map whole.records (packet_at 0) in
    let count = zip_count (IsWholeRecord whole.order) pieces whole.records each in
    record {
      interface = refl;
      order = refl;
      pieces = pieces;
      each = each;
      spelt = spelt ∙ append-nil (concat pieces);
      bytes = spelt ∙ append-nil (concat pieces) ∙ ap concat (sym (all_in (whole.others + 1) (packets_at 0 whole.records) pieces (omega arith)));
      records = sym (all_in (whole.others + 1) (packets_at 0 whole.records) whole.records (omega arith));
      numbers = ap (λ given. given_or given (count_from (whole.others + 1) (length whole.records))) plain ∙ sym (all_numbers (whole.others + 1) whole.records);
    }

own_part : (shard : Option Shard) (whole mine : BatchFacts) → whole.numbers ≡ None → AreRecords mine.order mine.bytes mine.records [] → IsPart shard whole mine
    → IsOwnBatch (own_among shard) whole mine
own_part None whole mine plain are same =
    subst (IsOwnBatch (own_among None) whole) (sym same) (all_part whole plain (subst (λ (b : BatchFacts). AreRecords b.order b.bytes b.records []) same are))
own_part (Some shard) whole mine plain are is = is

-- it has one's own packets of the batch
pub own_parts : (shard : Option Shard) (n : ℕ) (order : Order) (all batches : List BatchFacts) → AreNumbered n order all → AreAllWhole batches → AllZip (IsPart shard) all batches
    → AllZip (IsOwnBatch (own_among shard)) all batches
own_parts shard n order [] [] are whole zip = tt
own_parts shard n order [] (batch ∷ batches) are whole zip = absurd zip
own_parts shard n order (one ∷ all) [] are whole zip = absurd zip
own_parts shard n order (one ∷ all) (batch ∷ batches) (behind, same, at, plain, are) (here, whole) (is, zip) =
    (own_part shard one batch plain here is, own_parts shard (n + length one.records) order all batches are whole zip)

-- the bytes of each are those of its records
pub own_wholes : (own : Own) (all batches : List BatchFacts) → AllZip (IsOwnBatch own) all batches → AreAllWhole all
own_wholes own [] [] zip = tt
own_wholes own [] (batch ∷ batches) zip = absurd zip
own_wholes own (one ∷ all) [] zip = absurd zip
own_wholes own (one ∷ all) (batch ∷ batches) (is, zip) = (
  subst (λ (b : List ℕ). AreRecords one.order b one.records []) (append-nil (concat is.pieces) ∙ sym is.spelt) (pieces_are one.order is.pieces one.records [] is.each),
  own_wholes own all batches zip,
)

-- ---- What is told of them

-- what there is for packets of a batch and for those behind it
own_split : {X : Type 0} (own : Own) (n m : ℕ) (ps qs : List RecordFacts) (xs ys : List X) → m ≡ n → length xs ≡ length ps
    → own_in own (n + 1) (packets_at 0 (ps ++ qs)) (xs ++ ys) ≡ own_in own (m + 1) (packets_at 0 ps) xs ++ own_in own (n + length ps + 1) (packets_at 0 qs) ys
own_split own n m ps qs xs ys same each =
    let listed = length-map ps (packet_at 0) in
    ap (λ (all : List PacketFacts). own_in own (n + 1) all (xs ++ ys)) (map-append (packet_at 0) ps qs)
    ∙ own_both own (n + 1) (n + length ps + 1) (packets_at 0 ps) (packets_at 0 qs) xs ys (omega arith) (omega arith)
    ∙ ap (λ k. own_in own (k + 1) (packets_at 0 ps) xs ++ own_in own (n + length ps + 1) (packets_at 0 qs) ys) (sym same)

-- Batches of one's own packets, of all batches of a capture behind so many packets, and what was said of them.
pub record AreOwnJudged (own : Own) (n : ℕ) (order : Order) (all : List BatchFacts) (judged : List (JudgedBatch Verdict)) : Type 0 where
  pub pieces : List (List ℕ)
  pub each : AllZip (IsWholeRecord order) pieces (records_of all)
  pub spelt : bytes_of all ≡ concat pieces
  pub bytes : bytes_of (batches_of judged) ≡ concat (own_in own (n + 1) (packets_at 0 (records_of all)) pieces)
  pub packets : packets_of judged ≡ own_packets own (n + 1) (packets_at 0 (records_of all))
  pub text : (wording : Wording) → text_of wording judged ≡ lines_at wording (own_numbers own (n + 1) (packets_at 0 (records_of all))) (packets_of judged) (said_of judged)
  pub of : AreOf order judged

module _ (own : Own) (n : ℕ) (order : Order) (w : BatchFacts) (ws : List BatchFacts) (one : JudgedBatch Verdict) (others : List (JudgedBatch Verdict))
    (behind : w.others ≡ n) (same : w.order ≡ order) (at : w.interface ≡ 0) (is : IsOwnBatch own w one.batch) (here : length one.said ≡ length (packets_in one.batch))
    (rest : AreOwnJudged own (n + length w.records) order ws others) where
  abbrev m : ℕ
  m = n + length w.records + 1

  abbrev front : List PacketFacts
  front = packets_at 0 w.records

  abbrev left : List PacketFacts
  left = packets_at 0 (records_of ws)

  piece_count : length is.pieces ≡ length w.records
  piece_count = zip_count (IsWholeRecord w.order) is.pieces w.records is.each

  packets_here : packets_in one.batch ≡ own_in own (w.others + 1) front front
  packets_here = ap (λ i. packets_at i one.batch.records) (is.interface ∙ at) ∙ ap (packets_at 0) is.records ∙ own_map own (packet_at 0) (w.others + 1) front w.records

  numbers_here : numbers_in one.batch ++ own_numbers own m left ≡ own_numbers own (n + 1) (packets_at 0 (w.records ++ records_of ws))
  numbers_here =
      let listed = length-map w.records (packet_at 0) in
      ap (λ (ns : List ℕ). ns ++ own_numbers own m left) (is.numbers ∙ ap (λ k. own_numbers own (k + 1) front) behind)
      ∙ sym (own_numbers_both own (n + 1) m front left (omega arith)) ∙ ap (own_numbers own (n + 1)) (sym (map-append (packet_at 0) w.records (records_of ws)))

  number_count : length (numbers_in one.batch) ≡ length (packets_in one.batch)
  number_count =
      ap length is.numbers ∙ own_numbers_count own (w.others + 1) front w.records (sym (length-map w.records (packet_at 0))) ∙ ap length (sym is.records)
      ∙ sym (length-map one.batch.records (packet_at one.batch.interface))

  next_judged : AreOwnJudged own n order (w ∷ ws) (one ∷ others)
  unfolding piece_count packets_here numbers_here number_count
  next_judged = record {
    pieces = is.pieces ++ rest.pieces;
    each = zip_both (IsWholeRecord order) is.pieces rest.pieces w.records (records_of ws) (subst (λ (o : Order). AllZip (IsWholeRecord o) is.pieces w.records) same is.each) rest.each;
    spelt = ap₂ (λ (a b : List ℕ). a ++ b) is.spelt rest.spelt ∙ sym (concat-append is.pieces rest.pieces);
    bytes =
        ap₂ (λ (a b : List ℕ). a ++ b) is.bytes rest.bytes
        ∙ sym (concat-append (own_in own (w.others + 1) front is.pieces) (own_in own m left rest.pieces))
        ∙ ap concat (sym (own_split own n w.others w.records (records_of ws) is.pieces rest.pieces behind piece_count));
    packets =
        ap₂ (λ (a b : List PacketFacts). a ++ b) packets_here rest.packets
        ∙ sym (own_split own n w.others w.records (records_of ws) front left behind (length-map w.records (packet_at 0)))
        ∙ ap (own_in own (n + 1) (packets_at 0 (w.records ++ records_of ws))) (sym (map-append (packet_at 0) w.records (records_of ws)));
    text = λ wording.
        ap (λ (t : List ℕ). batch_text wording one ++ t) (rest.text wording)
        ∙ sym (lines_at_both wording (numbers_in one.batch) (own_numbers own m left) (packets_in one.batch) (packets_of others) one.said (said_of others) number_count here)
        ∙ ap (λ (ns : List ℕ). lines_at wording ns (packets_in one.batch ++ packets_of others) (one.said ++ said_of others)) numbers_here;
    of = (is.order ∙ same, rest.of);
  }

pub own_judged : (own : Own) (n : ℕ) (order : Order) (all : List BatchFacts) (judged : List (JudgedBatch Verdict)) → AreNumbered n order all
    → AllZip (IsOwnBatch own) all (batches_of judged) → AreEach judged → AreOwnJudged own n order all judged
unfolding next_judged
own_judged own n order [] [] are zip each = record { pieces = []; each = tt; spelt = refl; bytes = refl; packets = refl; text = λ wording. refl; of = tt }
own_judged own n order [] (one ∷ others) are zip each = absurd zip
own_judged own n order (w ∷ ws) [] are zip each = absurd zip
own_judged own n order (w ∷ ws) (one ∷ others) (behind, same, at, plain, are) (is, zip) (here, each) =
    next_judged own n order w ws one others behind same at is here (own_judged own (n + length w.records) order ws others are zip each)
