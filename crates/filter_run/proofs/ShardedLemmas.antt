-- What gives the packets of a shard, of those that another source gives.
use Rattle.std.proofs.Common.{◌≡◌, ◌∙◌, ◌+◌, ◌-◌, ◌<◌, ◌≤◌, ◌++◌, ◌^◌, ℕ, List, [], ◌∷◌, None, Option, Some, ap, append-nil, arith, flat_map, inl, inr, length, max, refl, subst, sym, take, true}
use Rattle.std.specs.Prelude.{IfSome}
use Rattle.std.specs.List.{All, AllZip, concat}
use Rattle.std.proofs.lemmas.List.{length-map, take-append-drop}
use Rattle.packet_view.specs.Captures.{AreRecords, PacketFacts, RecordFacts, packet_at, packets_at}
use Rattle.packet_view.specs.declared.capture.Order.{Order}
use Rattle.packet_view.specs.declared.records_at_front.Stop.TheVariants.{End}
use Rattle.packet_view.proofs.RecordListLemmas.{packets_count}
use Rattle.packet_view.proofs.RecordLemmas.{records_once}
use Rattle.racl_io.specs.Buffers.{held_by}
use Rattle.racl_io.specs.declared.fault.Fault.TheVariants.{Memory, TooLarge}
use Rattle.racl_io.specs.declared.totals_and_truncation.Captured.{Captured}
use Rattle.capture_stream.specs.Found.{HaveFound, behind_of}
use Rattle.capture_stream.specs.declared.arrivals.FaultAt.{FaultAt}
use Rattle.capture_shards.specs.OwnRecords.{AreOfOwn, IsWholeRecord, OwnFacts, latest_of}
use Rattle.capture_shards.specs.Shards.{Own, own_in}
use Rattle.capture_shards.specs.Sharing.{own_numbers}
use Rattle.capture_shards.specs.declared.shard.Shard.{Shard}
use Rattle.capture_shards.proofs.OwnRecordLemmas.{found_are, own_numbers_count, own_numbers_fit, pieces_are, stop_none}
use Rattle.capture_shards.proofs.PickedLists.{own_few, own_zip_both}
use Rattle.filter_run.specs.Batches.{AreNumbers, BatchFacts, IsWhole, batch_facts, count_from, given_or, listed, packets_in, total}
use Rattle.filter_run.specs.Ran.{most}
use Rattle.filter_run.specs.Sharded.{GoesOn, HasFailedOwn, HasGivenAllOwn, HasGivenOwn, IsOwnBatch, IsPart}
use Rattle.filter_run.specs.Sources.{GivesMore, HasFailed, IsAllGiven, MayGive}
use Rattle.filter_run.specs.declared.batch.Batch.{Batch}
use Rattle.filter_run.specs.declared.sharded.Sharded.{Sharded}
use Rattle.filter_run.proofs.RunLemmas.{batch_whole, flat_push}

-- ---- Lists

pub zip_push : {X Y : Type 0} (R : X → Y → Type 0) (xs : List X) (ys : List Y) (x : X) (y : Y) → AllZip R xs ys → R x y → AllZip R (xs ++ x ∷ []) (ys ++ y ∷ [])
zip_push R [] [] x y all last = (last, tt)
zip_push R [] (b ∷ ys) x y all last = absurd all
zip_push R (a ∷ xs) [] x y all last = absurd all
zip_push R (a ∷ xs) (b ∷ ys) x y (here, all) last = (here, zip_push R xs ys x y all last)

pub total_push : (all : List BatchFacts) (batch : BatchFacts) → total (all ++ batch ∷ []) ≡ total all + length batch.records
total_push [] batch = omega arith
total_push (one ∷ all) batch = let more = total_push all batch in omega arith

pub latest_both : (ps qs : List PacketFacts) → latest_of (ps ++ qs) ≡ max (latest_of ps) (latest_of qs)
latest_both [] qs = omega arith
latest_both (p ∷ ps) qs = let more = latest_both ps qs in omega arith

-- of whatever interface they are
pub latest_at : (i : ℕ) (records : List RecordFacts) → latest_of (packets_at i records) ≡ latest_of (packets_at 0 records)
latest_at i [] = refl
latest_at i (r ∷ records) = ap (max r.moment) (latest_at i records)

-- ---- A batch of a shard's packets

-- what the shard's records are, with their numbers, is a batch
module _ (own : Own) (whole mine : Batch) (is : IsWhole whole) (found : OwnFacts) (are : AreOfOwn own (whole.others + 1) whole.order (batch_facts whole).bytes found)
    (held : held_by mine.bytes ≡ found.bytes) (order : mine.order ≡ whole.order) (numbers : listed mine.numbers ≡ Some found.numbers)
    (have : HaveFound mine.order (held_by mine.bytes) mine.found) where
  abbrev all : List RecordFacts
  all = (batch_facts whole).records

  abbrev own_records : List RecordFacts
  own_records = own_in own (whole.others + 1) (packets_at 0 all) all

  abbrev own_pieces : List (List ℕ)
  own_pieces = own_in own (whole.others + 1) (packets_at 0 all) are.pieces

  same_records : are.records ≡ all
  same_records = (found_are own (whole.others + 1) whole.order (batch_facts whole).bytes found are all [] (batch_whole whole is) (stop_none whole.order [] End refl)).0

  no_rest : are.rest ≡ []
  no_rest = (found_are own (whole.others + 1) whole.order (batch_facts whole).bytes found are all [] (batch_whole whole is) (stop_none whole.order [] End refl)).1

  each_whole : AllZip (IsWholeRecord whole.order) are.pieces all
  unfolding same_records
  each_whole = subst (AllZip (IsWholeRecord whole.order) are.pieces) same_records are.each

  own_bytes : found.bytes ≡ concat own_pieces
  unfolding same_records
  own_bytes = are.mine_are ∙ ap (λ (rs : List RecordFacts). concat (own_in own (whole.others + 1) (packets_at 0 rs) are.pieces)) same_records

  held_is : held_by mine.bytes ≡ concat own_pieces
  unfolding own_bytes
  held_is = held ∙ own_bytes

  own_are : AreRecords mine.order (held_by mine.bytes) own_records []
  unfolding each_whole held_is
  own_are =
      subst (λ (o : Order). AreRecords o (held_by mine.bytes) own_records []) (sym order)
      (subst (λ (b : List ℕ). AreRecords whole.order b own_records []) (append-nil (concat own_pieces) ∙ sym held_is)
      (pieces_are whole.order own_pieces own_records [] (own_zip_both own (IsWholeRecord whole.order) (whole.others + 1) (packets_at 0 all) are.pieces all each_whole)))

  found_so : ((batch_facts mine).records ≡ own_records) × (behind_of (held_by mine.bytes) mine.found ≡ [])
  unfolding own_are
  found_so =
      records_once mine.order (held_by mine.bytes) (batch_facts mine).records own_records (behind_of (held_by mine.bytes) mine.found) [] have.records
      (stop_none mine.order (behind_of (held_by mine.bytes) mine.found) mine.found.stop have.stop) own_are (stop_none mine.order [] End refl)

  own_numbers_are : found.numbers ≡ own_numbers own (whole.others + 1) (packets_at 0 all)
  unfolding same_records
  own_numbers_are = are.numbers_are ∙ ap (λ (rs : List RecordFacts). own_numbers own (whole.others + 1) (packets_at 0 rs)) same_records

  pub own_batch : mine.interface ≡ whole.interface → IsOwnBatch own (batch_facts whole) (batch_facts mine)
  unfolding each_whole held_is found_so own_numbers_are no_rest
  own_batch interface = record {
    interface = interface;
    order = order;
    pieces = are.pieces;
    each = each_whole;
    spelt = are.spelt ∙ ap (λ (b : List ℕ). concat are.pieces ++ b) no_rest ∙ append-nil (concat are.pieces);
    bytes =
        let size = length (held_by mine.bytes) - mine.found.behind in
        sym (append-nil (take size (held_by mine.bytes))) ∙ ap (λ (b : List ℕ). take size (held_by mine.bytes) ++ b) (sym found_so.1)
        ∙ take-append-drop size (held_by mine.bytes) ∙ held_is;
    records = found_so.0;
    numbers = ap (λ given. given_or given (count_from (mine.others + 1) (length (batch_facts mine).records))) numbers ∙ own_numbers_are;
  }

  own_count : mine.found.count ≡ length own_records
  unfolding found_so
  own_count = packets_count mine.order mine.found.count (held_by mine.bytes) ∙ ap length found_so.0

  pub own_whole : mine.others ≡ whole.others → IsWhole mine
  unfolding own_count own_numbers_are
  own_whole others =
      let count = packets_count whole.order whole.found.count (held_by whole.bytes) in
      let listed_too = length-map all (packet_at 0) in
      let few = own_few own (whole.others + 1) (packets_at 0 all) all in
      let counted = own_count in
      let before = is.before in
      let most_is = is.few in
      record {
        found = have;
        before = omega arith;
        few = omega arith;
        numbers = subst (λ given. IfSome given (AreNumbers mine.found.count)) (sym numbers) (record {
          count_is = ap length own_numbers_are ∙ own_numbers_count own (whole.others + 1) (packets_at 0 all) all (sym listed_too) ∙ sym own_count;
          fit = subst (All (λ n. (1 ≤ n) × (n < 2 ^ 64 - 1))) (sym own_numbers_are)
              (own_numbers_fit own (λ n. (1 ≤ n) × (n < 2 ^ 64 - 1)) (whole.others + 1) (packets_at 0 all) (λ m least last. (omega arith, omega arith)));
        });
      }

  -- the latest second is that of all
  pub own_latest : found.latest ≡ latest_of (packets_in (batch_facts whole))
  unfolding same_records
  own_latest = are.latest_is ∙ ap (λ (rs : List RecordFacts). latest_of (packets_at 0 rs)) same_records ∙ sym (latest_at whole.interface all)

-- ---- From one batch to the next

module _ {S : Type 0} (Gave : S → List BatchFacts → S → Type 0) (old : Sharded S) where
  -- the source may give more
  pub sharded_may : MayGive (HasGivenOwn Gave) old → old.seen < 4611686018427387904 → MayGive Gave old.inner
  sharded_may may few = record {
    begun = may.begun.inner;
    batches = may.stand.all;
    stand = may.stand.gave;
    few = let seen = may.stand.goes_on.seen in omega arith;
  }

  -- with one batch more of the source
  goes_further : (begun : Sharded S) (all : List BatchFacts) (batch : BatchFacts) (now : Sharded S) → GoesOn begun all old → now.shard ≡ old.shard → now.noted ≡ old.noted
      → now.seen ≡ old.seen + length batch.records → (old.noted ≡ true → now.latest ≡ max old.latest (latest_of (packets_in batch)))
      → GoesOn begun (all ++ batch ∷ []) now
  goes_further begun all batch now goes shard noted seen latest = record {
    shard = shard ∙ goes.shard;
    noted = noted ∙ goes.noted;
    seen = let before = goes.seen in let more = total_push all batch in omega arith;
    latest = λ asked.
        let before = goes.latest asked in
        let next = latest (goes.noted ∙ asked) in
        let both = ap latest_of (flat_push packets_in all batch) ∙ latest_both (flat_map packets_in all) (packets_in batch) in
        omega arith;
  }

  pub sharded_gives : (whole mine : BatchFacts) (now : Sharded S) → GivesMore Gave old.inner whole now.inner → IsPart old.shard whole mine → now.shard ≡ old.shard → now.noted ≡ old.noted
      → now.seen ≡ old.seen + length whole.records → (old.noted ≡ true → now.latest ≡ max old.latest (latest_of (packets_in whole)))
      → GivesMore (HasGivenOwn Gave) old mine now
  unfolding goes_further
  sharded_gives whole mine now gives part shard noted seen latest begun batches given = record {
    all = given.all ++ whole ∷ [];
    gave = gives begun.inner given.all given.gave;
    parts = zip_push (IsPart begun.shard) given.all batches whole mine given.parts (subst (λ (s : Option Shard). IsPart s whole mine) given.goes_on.shard part);
    goes_on = goes_further begun given.all whole now given.goes_on shard noted seen latest;
  }

  module _ (now : Sharded S) (shard : now.shard ≡ old.shard) (noted : now.noted ≡ old.noted) (seen : now.seen ≡ old.seen) (latest : now.latest ≡ old.latest) where
    -- the source has no more
    pub sharded_ends : (Over : S → List BatchFacts → List Captured → S → Type 0) (captures : List Captured) → IsAllGiven Gave Over old.inner captures now.inner
        → IsAllGiven (HasGivenOwn Gave) (HasGivenAllOwn Over) old captures now
    sharded_ends Over captures ended begun batches given = record {
      all = given.all;
      over = ended begun.inner given.all given.gave;
      parts = given.parts;
      goes_on = record {
        shard = shard ∙ given.goes_on.shard;
        noted = noted ∙ given.goes_on.noted;
        seen = seen ∙ given.goes_on.seen;
        latest = λ asked. latest ∙ given.goes_on.latest asked;
      };
    }

  module _ (Failed : S → List BatchFacts → FaultAt → S → Type 0) where
    -- it failed
    pub sharded_fails : (now : Sharded S) (found : FaultAt) → HasFailed Gave Failed old.inner now.inner found → HasFailed (HasGivenOwn Gave) (HasFailedOwn Gave Failed) old now found
    sharded_fails now found failed begun batches given = record { all = given.all; parts = given.parts; why = inl (failed begun.inner given.all given.gave) }

    -- memory ran out
    pub sharded_lost : (now : Sharded S) (gone : BatchFacts) (found : FaultAt) → found ≡ record { fault = Memory; interface = Some gone.interface }
        → GivesMore Gave old.inner gone now.inner → HasFailed (HasGivenOwn Gave) (HasFailedOwn Gave Failed) old now found
    sharded_lost now gone found is gives begun batches given = record {
      all = given.all;
      parts = given.parts;
      why = inr (inl (ap (λ (f : FaultAt). f.fault) is, gone, ap (λ (f : FaultAt). f.interface) is, gives begun.inner given.all given.gave));
    }

    -- too many came
    pub sharded_many : (found : FaultAt) → found ≡ record { fault = TooLarge; interface = None } → most ≤ old.seen
        → HasFailed (HasGivenOwn Gave) (HasFailedOwn Gave Failed) old old found
    sharded_many found is many begun batches given = record {
      all = given.all;
      parts = given.parts;
      why = inr (inr (is, given.gave, let seen = given.goes_on.seen in omega arith));
    }
