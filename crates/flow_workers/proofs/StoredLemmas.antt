-- The pairs of a closed table whose keys are lists of words.
use Rattle.std.proofs.Common.{◌≡◌, ◌⊎◌, ◌∙◌, ◌∷◌, ℕ, Bool, List, [], refl, subst, sym}
use Rattle.std.specs.Prelude.{Contains, Some}
use Rattle.std.specs.FinMap.{get}
use Rattle.std.specs.Ordering.{nat_cmp}
use Rattle.std.specs.Cmp.Lexicographic.{slice_cmp}
use Rattle.std.specs.List.Sorted.{IsStrictlySortedBy}
use Rattle.bihash_words.specs.Sizes.{bucket_of, sizes_of}
use Rattle.bihash_words.specs.declared.shape.Shape.{Ghosts}
use Rattle.bihash_rule.specs.declared.view.Known.{Known}
use Rattle.bihash_table.specs.Closing.{ArePairsOf, keys_of, map_in}
use Rattle.packet_view.specs.Captures.{PacketFacts}
use Rattle.acl_policy.specs.Policies.{PolicyFacts}
use Rattle.session_state.specs.declared.timeouts.Timeouts.{Timeouts}
use Rattle.flow_filter.specs.OneThread.{AreVerdicts, Home, IsHome, sizes_in}
use Rattle.session_state.specs.declared.verdict.Verdict.{Verdict}
use Rattle.flow_dealing.specs.declared.worker_of_flow.Dealing.TheVariants.{Bucket}
use Rattle.flow_dealing.specs.Dealings.{Deal}
use Rattle.flow_dealing.specs.Views.{Views, view_in}
use Rattle.flow_dealing.specs.WorkerRecords.{AreInTimeOrder, AreJudged, AreJudgedAgeing, AreUntil, AreWithinLimit, HavePages}
use Rattle.flow_dealing.proofs.KeptSessions.{live_is_kept}
use Rattle.flow_dealing.proofs.OneReport.{run_at}
use Rattle.flow_workers.specs.Stored.{AreLeft, AreLiveLeft, AreLiveOf, AreStored, keys_in}

module _ {A : Type 0} (g : Ghosts A (List ℕ)) (same : (key : List ℕ) → g.words_of key ≡ key) where
  keys_are : (pairs : List (List ℕ × ℕ)) → keys_of g pairs ≡ keys_in pairs
  keys_are [] = refl
  keys_are (p ∷ pairs) = λ i. same p.0 i ∷ keys_are pairs i

  pub stored_pairs : (known : Known) (pairs : List (List ℕ × ℕ)) → ArePairsOf g known pairs
      → AreStored (sizes_of g) known pairs
  stored_pairs known pairs are = record {
    ascending = subst (IsStrictlySortedBy (slice_cmp nat_cmp)) (keys_are pairs) are.ascending;
    stored = λ key value there.
        subst (λ k. get (map_in known (bucket_of (sizes_of g) k)) k ≡ Some value) (same key) (are.stored (key, value) there);
    all = λ b key value inside at.
        let found = are.all b key value inside at in
        subst (Contains pairs) (λ i. ((sym (same found.0.0) ∙ found.2) i, found.3 i)) found.1;
  }

-- where packets were dealt by bucket, they are those that the one-thread filter leaves
pub left_by_one : (d : Deal) (times : Timeouts) (policy : PolicyFacts) (packets : List PacketFacts) (verdicts : List Verdict)
    (are : AreJudged d times policy packets verdicts) → (d.dealing ≡ Bucket) ⊎ (d.workers ≡ 1) → (home : Home)
    → IsHome d.layout home → (pairs : List (List ℕ × ℕ))
    → AreStored (sizes_in d.layout home.family) (view_in are.views home.family).known pairs
    → AreLeft d.layout are.judged home pairs
left_by_one d times policy packets verdicts are one home inside pairs stored =
    let known = (view_in are.views home.family).known in
    let run = run_at d times policy packets verdicts are one home inside in record {
      last = map_in known home.bucket;
      writes = run.0;
      run = run.1;
      kept = λ key value there here. subst (λ b. get (map_in known b) key ≡ Some value) here (stored.stored key value there);
      all = λ key value at. stored.all home.bucket key value inside at;
    }

-- where workers age, those that are live at the packets' latest moment, or a later one, are those that the one-thread filter leaves
pub live_left_by_one : (d : Deal) (times : Timeouts) (ages : Bool) (policy : PolicyFacts) (packets : List PacketFacts)
    (verdicts : List Verdict) (v : Views) (are : AreJudgedAgeing d times ages policy packets verdicts v)
    → (d.dealing ≡ Bucket) ⊎ (d.workers ≡ 1) → HavePages verdicts → AreInTimeOrder packets
    → AreWithinLimit d packets are.removals → (moment : ℕ) → AreUntil moment packets
    → (all : AreVerdicts d.layout times policy packets verdicts) (home : Home) → IsHome d.layout home
    → (stored pairs : List (List ℕ × ℕ)) → AreStored (sizes_in d.layout home.family) (view_in v home.family).known stored
    → AreLiveOf times moment stored pairs → AreLiveLeft d.layout times moment all.judged home pairs
live_left_by_one d times ages policy packets verdicts v are one paged order few moment until all home inside stored pairs has only =
    let known = (view_in v home.family).known in
    let (last, writes, run) = all.one_thread.runs home inside in
    let same = live_is_kept d times ages policy packets verdicts v are one paged order few moment until all home inside last writes run in
    record {
      last = last;
      writes = writes;
      run = run;
      kept = λ key value there here.
          let (kept, live) = (only key value).0 there in
          let at = subst (λ b. get (map_in known b) key ≡ Some value) here (has.stored key value kept) in
          ((same key value live).1 at, live);
      all = λ key value at live.
          (only key value).1 (has.all home.bucket key value inside ((same key value live).0 at), live);
    }
