-- Records that are saved batch after batch.
use Rattle.std.proofs.Common.{◌≡◌, ◌≢◌, ◌∙◌, ◌+◌, ◌-◌, ◌++◌, ℕ, Err, List, [], ◌∷◌, Ok, Result, ap, drop, length, refl, subst, sym}
use Rattle.std.proofs.lemmas.List.{length-map, map-append, take-append-drop}
use Rattle.std.specs.Prelude.{IfErr, OnErr, OnOk, ⊤}
use Rattle.packet_view.specs.Captures.{AreRecords, packet_at}
use Rattle.packet_view.specs.declared.capture.Order.{Order}
use Rattle.session_state.specs.declared.verdict.Verdict.{Verdict}
use Rattle.racl_io.specs.Buffers.{held_by}
use Rattle.racl_io.specs.declared.fault.Fault.{Fault}
use Rattle.racl_io.specs.declared.fault.Fault.TheVariants.{Write}
use Rattle.capture_stream.specs.Savings.{MaySave, SavesMore}
use Rattle.filter_run.specs.Batches.{BatchFacts, IsWhole, JudgedBatch, batch_facts, batches_of, packets_in}
use Rattle.filter_run.specs.Observers.{HasHeard, IsCutAt, MayHear, TellsMore}
use Rattle.filter_run.specs.OneCapture.{bytes_of}
use Rattle.filter_run.specs.Saving.{AreOf, HasCutSaves, HasSavedSome}
use Rattle.filter_run.specs.declared.batch.Batch.{Batch}
use Rattle.filter_run.specs.declared.saved_records.SavedRecords.{SavedRecords}
use Rattle.filter_run.proofs.RunLemmas.{flat_push}

-- the bytes where one more batch is
pub bytes_push : (batches : List (JudgedBatch Verdict)) (batch : JudgedBatch Verdict)
    → bytes_of (batches_of (batches ++ batch ∷ [])) ≡ bytes_of (batches_of batches) ++ batch.batch.bytes
bytes_push batches batch =
    ap (λ (all : List BatchFacts). bytes_of all) (map-append (λ (one : JudgedBatch Verdict). one.batch) batches (batch ∷ []))
    ∙ flat_push (λ (one : BatchFacts). one.bytes) (batches_of batches) batch.batch

-- the last of these and those before it have this order
of_push : (order : Order) (batches : List (JudgedBatch Verdict)) (batch : JudgedBatch Verdict) → AreOf order (batches ++ batch ∷ [])
    → AreOf order batches × (batch.batch.order ≡ order)
of_push order [] batch are = (tt, are.0)
of_push order (one ∷ others) batch (first, more) = let both = of_push order others batch more in ((first, both.0), both.1)

module _ {K : Type 0} (saved : K → Order → List ℕ → List Verdict → K → Type 0) (failures : K → ℕ) where
  -- nothing was given yet
  pub saves_begun : (saves : SavedRecords K) → saved saves.saver.now saves.order [] [] saves.saver.now → HasSavedSome saved failures saves [] saves
  saves_begun saves stand = record { same = refl; order = refl; bytes = []; said = []; stand = stand; all = λ _. (refl, refl); sound = refl }

  -- the records of a batch may be saved
  pub saves_may : (now : SavedRecords K) (batch : Batch) (bytes : List ℕ) (verdicts : List Verdict) (more : ℕ) → MayHear (HasSavedSome saved failures) now more
      → IsWhole batch → batch.order ≡ now.order → bytes ≡ (batch_facts batch).bytes → length verdicts ≡ length (packets_in (batch_facts batch))
      → MaySave saved now.saver.now batch.order bytes verdicts
  saves_may now batch bytes verdicts more may whole same are each =
      let held = held_by batch.bytes in
      let behind = drop (length held - batch.found.behind) held in
      let records = (batch_facts batch).records in
      record {
        begun = may.begun.saver.now;
        bytes = may.stand.bytes;
        said = may.stand.said;
        stand = subst (λ (o : Order). saved may.begun.saver.now o may.stand.bytes may.stand.said now.saver.now) (sym (same ∙ may.stand.order)) may.stand.stand;
        packets = records;
        whole = record {
          rest = behind;
          are = subst (λ (b : List ℕ). AreRecords batch.order b records behind)
              (sym (take-append-drop (length held - batch.found.behind) held) ∙ ap (λ (b : List ℕ). b ++ behind) (sym are)) whole.found.records;
        };
        each = each ∙ length-map records (packet_at batch.interface);
      }

  -- they were
  pub saves_more : (old new : SavedRecords K) (batch : JudgedBatch Verdict) → new.saver.ghost_name ≡ old.saver.ghost_name → new.order ≡ old.order → batch.batch.order ≡ old.order
      → SavesMore saved old.saver.now batch.batch.order batch.batch.bytes batch.said new.saver.now → failures new.saver.now ≡ failures old.saver.now
      → TellsMore (HasSavedSome saved failures) old batch new
  unfolding of_push
  saves_more old new batch same order of more sound begun earlier told = record {
    same = same ∙ told.same;
    order = order ∙ told.order;
    bytes = told.bytes ++ batch.batch.bytes;
    said = told.said ++ batch.said;
    stand = subst (λ (o : Order). saved begun.saver.now o (told.bytes ++ batch.batch.bytes) (told.said ++ batch.said) new.saver.now) (of ∙ told.order)
        (more begun.saver.now told.bytes told.said (subst (λ (o : Order). saved begun.saver.now o told.bytes told.said old.saver.now) (sym (of ∙ told.order)) told.stand));
    all = λ are.
        let each = told.all (of_push begun.order earlier batch are).0 in (
          ap (λ (b : List ℕ). b ++ batch.batch.bytes) each.0 ∙ sym (bytes_push earlier batch),
          ap (λ (v : List Verdict). v ++ batch.said) each.1 ∙ sym (flat_push (λ (one : JudgedBatch Verdict). one.said) earlier batch),
        );
    sound = sound ∙ told.sound;
  }

  -- they are of another order
  pub saves_other : (old : SavedRecords K) (batch : JudgedBatch Verdict) → batch.batch.order ≢ old.order → TellsMore (HasSavedSome saved failures) old batch old
  unfolding of_push
  saves_other old batch other begun earlier told = record {
    same = told.same;
    order = told.order;
    bytes = told.bytes;
    said = told.said;
    stand = told.stand;
    all = λ are. absurd (other ((of_push begun.order earlier batch are).1 ∙ sym told.order));
    sound = told.sound;
  }

  pub saves_cut : (old new : SavedRecords K) (batch : JudgedBatch Verdict) (found : Fault) → new.saver.ghost_name ≡ old.saver.ghost_name → found ≡ Write
      → failures new.saver.now ≡ failures old.saver.now + 1
      → IsCutAt (HasSavedSome saved failures) (λ begun batches fault now. HasCutSaves failures begun fault now) old batch found new
  saves_cut old new batch found same write failed begun earlier told = record {
    same = same ∙ told.same;
    write = write;
    failed = failed ∙ ap (λ n. n + 1) told.sound;
  }

  -- how they were
  pub saves_saved : (old new : SavedRecords K) (batch : JudgedBatch Verdict) (bytes : List ℕ) (result : Result ⊤ Fault) → new.saver.ghost_name ≡ old.saver.ghost_name
      → new.order ≡ old.order → batch.batch.order ≡ old.order → bytes ≡ batch.batch.bytes
      → OnOk result (SavesMore saved old.saver.now batch.batch.order bytes batch.said new.saver.now) → IfErr result (λ fault. fault ≡ Write)
      → OnOk result (failures new.saver.now ≡ failures old.saver.now) → OnErr result (failures new.saver.now ≡ failures old.saver.now + 1)
      → HasHeard (HasSavedSome saved failures) (λ begun batches fault now. HasCutSaves failures begun fault now) old new batch result
  saves_saved old new batch bytes (Ok x) same order of are more write sound failed =
      saves_more old new batch same order of (subst (λ (b : List ℕ). SavesMore saved old.saver.now batch.batch.order b batch.said new.saver.now) are more) sound
  saves_saved old new batch bytes (Err found) same order of are more write sound failed = saves_cut old new batch found same write failed
