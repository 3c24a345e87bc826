-- The report of all workers is that of one thread.
use Rattle.std.proofs.Common.{◌≡◌, ◌≢◌, ◌⊎◌, ◌∙◌, ◌+◌, ◌≤◌, ℕ, suc, Bool, List, [], ◌∷◌, length, All, ap, arith, refl, sym, subst}
use Rattle.std.proofs.lemmas.List.Elements.{All-cons, All-head, All-nil, All-tail}
use Rattle.std.specs.FinMap.{empty}
use lib.ListN.{get_elem?}
use mathlib.Core.Option.{some}
use Rattle.packet_view.specs.Captures.{PacketFacts}
use Rattle.packet_view.specs.declared.tuple.Family.{Family}
use Rattle.acl_policy.specs.Policies.{PolicyFacts}
use Rattle.bihash_words.specs.Maps.{Event}
use Rattle.bihash_words.specs.Refusals.{IsNoRefusal}
use Rattle.bihash_words.specs.declared.patch.Reply.TheVariants as reply
use Rattle.bihash_words.specs.Runs.{IsRun}
use Rattle.bihash_steps.specs.BucketSteps.{map_now}
use Rattle.bihash_rule.specs.Histories.{bounds_of}
use Rattle.session_state.specs.declared.timeouts.Timeouts.{Timeouts}
use Rattle.session_state.specs.declared.verdict.Verdict.{Verdict}
use Rattle.session_state.specs.declared.verdict.Verdict.TheVariants as verdict
use Rattle.flow_filter.specs.Ageing.{IsAgedThread, IsOfExpired, IsRightStep, Judges, Removal, Removes, Step, packets_in, removals_in, steps_at}
use Rattle.flow_filter.specs.Judged.{Asked, Asks, IsAsked, IsAskedBy, Judged, Settled, WhereAsked, readings_of, verdict_on, verdict_with, verdicts_on}
use Rattle.flow_filter.specs.OneThread.{AreVerdicts, HasPages, Home, IsHome, IsOneThread, Layout, add_event, bounds_in, events_at, family_of, nothing, sizes_in}
use Rattle.flow_filter.specs.Readings.{AreReadings, IsReading}
use Rattle.flow_filter.specs.Updates.{Update, update_of}
use Rattle.flow_filter.proofs.OneThreadLemmas.{some_verdicts}
use Rattle.flow_filter.proofs.AgeingLemmas.{aged_verdicts}
use Rattle.flow_dealing.specs.declared.worker_of_flow.Dealing.TheVariants.{Bucket}
use Rattle.flow_dealing.specs.Views.{Views, view_in}
use Rattle.flow_dealing.specs.Dealings.{Deal, flow_of_reading, worker_of}
use Rattle.flow_dealing.specs.WorkerRecords.{AreInTimeOrder, AreJudged, AreJudgedAgeing, AreJudgedBetween, AreWithinLimit, HavePages, IsByOwner, RemoveInTime}
use Rattle.flow_dealing.proofs.OneOwner.{owner, runs_at}
use Rattle.flow_dealing.proofs.PacketCalls.{call_of_packet, some_worker}
use Rattle.flow_dealing.proofs.Places.{after_map, all_at, all_from, zip_count}
use Rattle.flow_dealing.proofs.Refusals.{IsWant, refusal_is_verdict, wants}

-- ---- Steps

-- each step is right where its packets and its removals are
right_steps : (times : Timeouts) (steps : List Step) → All (IsAsked times) (packets_in steps) → All HasPages (packets_in steps)
    → All (IsOfExpired times) (removals_in steps) → All (IsRightStep times) steps
right_steps times [] asked paged ended = All-nil (IsRightStep times)
right_steps times (Judges j ∷ steps) asked paged ended =
    All-cons (IsRightStep times) (Judges j) steps
    (All-head (IsAsked times) j (packets_in steps) asked, All-head HasPages j (packets_in steps) paged)
    (right_steps times steps (All-tail (IsAsked times) j (packets_in steps) asked) (All-tail HasPages j (packets_in steps) paged) ended)
right_steps times (Removes r ∷ steps) asked paged ended =
    All-cons (IsRightStep times) (Removes r) steps (All-head (IsOfExpired times) r (removals_in steps) ended)
    (right_steps times steps asked paged (All-tail (IsOfExpired times) r (removals_in steps) ended))

-- with no removals the events on a bucket are those of the packets
packets_alone : (l : Layout) (home : Home) (steps : List Step) → removals_in steps ≡ []
    → steps_at l home steps ≡ events_at l home (packets_in steps)
packets_alone l home [] none = refl
packets_alone l home (Judges j ∷ steps) none = ap (add_event l home j.asked) (packets_alone l home steps none)
packets_alone l home (Removes r ∷ steps) none = let f : ⊥ = cc in absurd f

-- ---- All workers

module _ (d : Deal) (times : Timeouts) (policy : PolicyFacts) (packets : List PacketFacts) (verdicts : List Verdict)
    (removals : List Removal) (are : AreJudgedBetween d times policy packets removals verdicts) where
  -- a packet whose event was refused for want of pages is told so
  refused : (k : ℕ) (j : Judged) (u : Update) (e : Event) (log2 left : ℕ) → get_elem? are.judged k ≡ some j → j.asked ≡ Asks u e
      → e.reply ≡ reply.NoPages log2 left → verdict_on j ≡ verdict.NoPages
  refused k j u e log2 left at its short =
      let family : Family = family_of u.key in
      let recorded = are.recorded family in
      let c =
      call_of_packet d family are.steps (view_in are.views family) recorded k j u e
      (ap (λ js. get_elem? js k) are.packets_are ∙ at) its refl in
      let want =
      wants (sizes_in d.layout family)
      (view_in are.views family) (worker_of d k (flow_of_reading j.reading)) c.place c.record_at c.call log2 left recorded.lawful
      c.stands c.called (ap (λ (x : Event). x.reply) c.event ∙ short) in
      let (is, of) : IsAskedBy (update_of times j.reading) (Asks u e) =
      subst (IsAskedBy (update_of times j.reading)) its (all_at (IsAsked times) are.judged k j are.asked at) in
      ap (verdict_with j.reading) its
      ∙ refusal_is_verdict times j.reading u e (bounds_of (sizes_in d.layout family)) log2 left is of
      (subst (λ (x : Event). IsWant (bounds_of (sizes_in d.layout family)) x.found x.change log2 left) c.event want)
      short

  -- so one that is told something else had pages
  paged : (k : ℕ) (j : Judged) → get_elem? are.judged k ≡ some j → verdict_on j ≢ verdict.NoPages → HasPages j
  paged k j at other = go j.asked refl
    where
      go : (asked : Asked Event) → j.asked ≡ asked → WhereAsked asked (λ e. IsNoRefusal e.reply)
      go Settled its = tt
      go (Asks u e) its = λ log2 left short. other (refused k j u e log2 left at its short)

  paged_all : HavePages verdicts → All HasPages are.judged
  paged_all have = all_from HasPages are.judged (λ k j at. paged k j at
      (all_at (λ v. v ≢ verdict.NoPages) verdicts k (verdict_on j) have
      (ap (λ vs. get_elem? vs k) are.said ∙ after_map verdict_on are.judged k j at)))

  -- the events on a bucket lead to the map that all workers know of it
  pub run_of_steps : (d.dealing ≡ Bucket) ⊎ (d.workers ≡ 1) → All (IsByOwner d) (removals_in are.steps) → (home : Home)
      → IsHome d.layout home → (writes : ℕ)
      × IsRun (bounds_in d.layout home.family) empty 0 (steps_at d.layout home are.steps)
      (map_now (view_in are.views home.family) home.bucket) writes
  run_of_steps one by home inside =
      let recorded = are.recorded home.family in
      let o =
      owner d home (some_worker d home.family are.steps (view_in are.views home.family) recorded) one in
      runs_at d times home.family home.bucket o.0 o.1 are.steps
      (view_in are.views home.family) recorded (subst (All (IsAsked times)) (sym are.packets_are) are.asked) by inside

  pub aged_by_one : (d.dealing ≡ Bucket) ⊎ (d.workers ≡ 1) → HavePages verdicts → RemoveInTime d are.steps
      → IsAgedThread d.layout times nothing are.steps
  aged_by_one one paged in_time = record {
    right = right_steps times are.steps (subst (All (IsAsked times)) (sym are.packets_are) are.asked)
        (subst (All HasPages) (sym are.packets_are) (paged_all paged))
        (subst (All (IsOfExpired times)) (sym are.removals_are) are.ended);
    runs = λ home inside. let run = run_of_steps one in_time.own home inside in
        (map_now (view_in are.views home.family) home.bucket, run.0, run.1);
    in_time = in_time.in_time;
  }

  -- the one-thread filter gives the packets these verdicts too
  pub one_aged_report : (d.dealing ≡ Bucket) ⊎ (d.workers ≡ 1) → HavePages verdicts → RemoveInTime d are.steps
      → AreVerdicts d.layout times policy packets verdicts
  one_aged_report one paged in_time =
      let (said, all) = some_verdicts d.layout times policy packets in
      subst (AreVerdicts d.layout times policy packets)
      (sym (aged_verdicts d.layout times policy packets said are.steps all (aged_by_one one paged in_time)
      (subst (λ js. AreReadings policy packets (readings_of js)) (sym are.packets_are) are.read) in_time.few)
      ∙ (ap verdicts_on are.packets_are ∙ sym are.said)) all

module _ (d : Deal) (times : Timeouts) (policy : PolicyFacts) (packets : List PacketFacts) (verdicts : List Verdict)
    (are : AreJudged d times policy packets verdicts) where
  -- the events on a bucket lead to the map that all workers know of it
  pub run_at : (d.dealing ≡ Bucket) ⊎ (d.workers ≡ 1) → (home : Home) → IsHome d.layout home → (writes : ℕ)
      × IsRun (bounds_in d.layout home.family) empty 0 (events_at d.layout home are.judged)
      (map_now (view_in are.views home.family) home.bucket) writes
  run_at one home inside =
      let (writes, run) = run_of_steps d times policy packets verdicts [] are one
      (subst (All (IsByOwner d)) (sym are.removals_are) (All-nil (IsByOwner d))) home inside in (
        writes,
        subst (λ es. IsRun (bounds_in d.layout home.family) empty 0 es (map_now (view_in are.views home.family) home.bucket) writes)
            (packets_alone d.layout home are.steps are.removals_are
            ∙ ap (events_at d.layout home) are.packets_are) run,
      )

  pub judged_by_one : (d.dealing ≡ Bucket) ⊎ (d.workers ≡ 1) → HavePages verdicts
      → IsOneThread d.layout times nothing are.judged
  judged_by_one one paged = record {
    asked = are.asked;
    runs = λ home inside. let run = run_at one home inside in (map_now (view_in are.views home.family) home.bucket, run.0, run.1);
    paged = paged_all d times policy packets verdicts [] are paged;
  }

  pub one_report : (d.dealing ≡ Bucket) ⊎ (d.workers ≡ 1) → HavePages verdicts
      → AreVerdicts d.layout times policy packets verdicts
  one_report one paged =
      record { judged = are.judged; read = are.read; one_thread = judged_by_one one paged; said = are.said }

-- ---- Workers that age

step_count : (steps : List Step) → length steps ≡ length (packets_in steps) + length (removals_in steps)
step_count [] = refl
step_count (Judges j ∷ steps) = let more = step_count steps in omega arith
step_count (Removes r ∷ steps) = let more = step_count steps in omega arith

readings_counted : (js : List Judged) → length (readings_of js) ≡ length js
readings_counted [] = refl
readings_counted (j ∷ js) = ap suc (readings_counted js)

-- as many packets are among the steps as there are
pub packets_counted : (d : Deal) (times : Timeouts) (policy : PolicyFacts) (packets : List PacketFacts) (verdicts : List Verdict)
    (removals : List Removal) (are : AreJudgedBetween d times policy packets removals verdicts)
    → length (packets_in are.steps) ≡ length packets
packets_counted d times policy packets verdicts removals are =
    ap length are.packets_are ∙ sym (readings_counted are.judged) ∙ sym (zip_count (IsReading policy) packets (readings_of are.judged) are.read)

-- they remove in time
pub removed_in_time : (d : Deal) (times : Timeouts) (ages : Bool) (policy : PolicyFacts) (packets : List PacketFacts)
    (verdicts : List Verdict) (v : Views) (are : AreJudgedAgeing d times ages policy packets verdicts v) → AreInTimeOrder packets
    → AreWithinLimit d packets are.removals → RemoveInTime d are.judged.steps
removed_in_time d times ages policy packets verdicts v are order few = record {
  own = subst (All (IsByOwner d)) (sym are.judged.removals_are) are.own;
  in_time = are.in_time order;
  few = λ family. subst (λ n. n ≤ (bounds_in d.layout family).limit) (sym count) (few family);
}
  where
    count : length are.judged.steps ≡ length packets + length are.removals
    count =
        let n = step_count are.judged.steps in
        let p = packets_counted d times policy packets verdicts are.removals are.judged in
        let r = ap length are.judged.removals_are in
        omega arith

pub one_report_ageing : (d : Deal) (times : Timeouts) (ages : Bool) (policy : PolicyFacts) (packets : List PacketFacts)
    (verdicts : List Verdict) (v : Views) (are : AreJudgedAgeing d times ages policy packets verdicts v)
    → (d.dealing ≡ Bucket) ⊎ (d.workers ≡ 1) → HavePages verdicts → AreInTimeOrder packets
    → AreWithinLimit d packets are.removals → AreVerdicts d.layout times policy packets verdicts
one_report_ageing d times ages policy packets verdicts v are one paged order few =
    one_aged_report d times policy packets verdicts are.removals are.judged one paged
    (removed_in_time d times ages policy packets verdicts v are order few)
