-- The sessions that stand in the tables when a run has ended.
use Rattle.std.proofs.Common.{◌≡◌, ◌∙◌, ◌≤◌, ℕ, ◌+◌, Bool, List, [], ◌∷◌, Option, None, Some, ap, arith, inl, inr, max, not, refl, subst, sym, true, false}
use Rattle.std.specs.FinMap.{get, len}
use Rattle.std.specs.Prelude.{Contains}
use Rattle.std.proofs.lemmas.List.Elements.{All-cons, All-nil, All-weaker}
use Rattle.packet_view.specs.Captures.{PacketFacts}
use Rattle.packet_view.specs.declared.tuple.Family.{Family}
use Rattle.packet_view.specs.declared.tuple.Family.TheVariants.{V4, V6}
use Rattle.acl_policy.specs.Policies.{PolicyFacts}
use Rattle.bihash_words.specs.Maps.{Answers, AnswersFull, Bounds, Case, Event, NewKey, NoRoom, OldKey, Pairs, Unchanged, WornOut, case_with, effect_of}
use Rattle.bihash_words.specs.Runs.{IsRun, writes_of}
use Rattle.bihash_words.specs.Sizes.{bucket_of}
use Rattle.session_state.specs.Sessions.{is_expired_at}
use Rattle.session_state.specs.declared.timeouts.Timeouts.{Timeouts}
use Rattle.session_state.specs.declared.verdict.Verdict.{Verdict}
use Rattle.flow_filter.specs.Judged.{readings_of}
use Rattle.flow_filter.specs.OneThread.{Home, Layout, bounds_in, events_at, nothing, sizes_in}
use Rattle.flow_filter.proofs.HomeLemmas.{holds_key}
use Rattle.flow_filter.proofs.OneThreadLemmas.{one_judged}
use Rattle.flow_filter.proofs.ReadingLemmas.{one_readings}
use Rattle.flow_dealing.specs.Views.{Views, view_in}
use Rattle.flow_dealing.specs.WorkerRecords.{AreJudgedAgeing, AreUntil, HavePages}
use Rattle.flow_dealing.proofs.OneReport.{judged_by_one}
use Rattle.flow_workers.specs.Stored.{AreLiveOf, AreStored}
use Rattle.flow_workers.proofs.StoredLemmas.{left_by_one, live_left_by_one}
use Rattle.racl_io.specs.declared.totals_and_truncation.Totals.{Totals}
use Rattle.racl_options.specs.declared.settings.Options.{Options}
use Rattle.racl_views.specs.Hits.{latest_second}
use Rattle.racl_views.specs.Stored.{StoredFacts, live_at, live_pairs}
use Rattle.racl_runs.specs.Runs.{AgeInTime, AreStoredOf, AreToldOf, ByWorkers, HasRun, ages_in, bucket_deal, keeps_stored, layout_for, told_at}
use Rattle.racl_runs.specs.StoredRuns.{AreLeftByOneThread, AreLiveByOneThread, pairs_of}
use Rattle.racl_runs.proofs.OutcomeLemmas.{by_one, judged_unaged}
use Rattle.racl_runs.proofs.SortedPairs.{AreSorted, in_filter, of_filter, same_pairs, sorted_filter}

stored_in : (l : Layout) (views : Views) (stored : StoredFacts) → AreStoredOf l views stored → (family : Family)
    → AreStored (sizes_in l family) (view_in views family).known (pairs_of stored family)
stored_in l views stored are V4 = are.four
stored_in l views stored are V6 = are.six

-- where none are removed, all are told
stored_unaged : (layout : Layout) (times : Timeouts) (ages : Bool) (latest : ℕ) (views : Views) (told : StoredFacts) → ages ≡ false
    → AreToldOf layout times ages latest views told → AreStoredOf layout views told
stored_unaged layout times ages latest views told unaged are =
    subst (AreStoredOf layout views) (sym (are.told_is ∙ ap (λ (b : Bool). told_at times b latest are.stored) unaged)) are.are

pub left_by_run : (options : Options) (given old new : Option (List ℕ)) (totals : Totals) (run : HasRun options given old new totals)
    → ages_in options ≡ false → HavePages run.outcome.verdicts → keeps_stored options ≡ true
    → AreLeftByOneThread (layout_for options.tables) options.times run.policy run.packets run.outcome.verdicts run.stored
left_by_run options given old new totals run unaged paged asked =
    let by = run.by_workers in
    let was =
    judged_unaged _ _ _ _ _ by.views
    (subst (λ a. AreJudgedAgeing (bucket_deal options.tables by.workers) options.times a run.policy run.packets run.outcome.verdicts by.views) unaged by.said) in
    let judged = was.0 in record {
      verdicts_are = record {
        judged = judged.judged;
        read = judged.read;
        one_thread = judged_by_one _ _ _ _ _ judged (inl refl) paged;
        said = judged.said;
      };
      left = λ home inside. left_by_one _ _ _ _ _ judged (inl refl) home inside (pairs_of run.stored home.family)
          (stored_in (layout_for options.tables) judged.views run.stored
          (subst (λ v. AreStoredOf (layout_for options.tables) v run.stored) (sym was.1)
          (stored_unaged (layout_for options.tables) options.times (ages_in options) _ by.views run.stored unaged (run.kept asked))) home.family);
    }

-- ---- Workers that age

not_true : (b : Bool) → not b ≡ true → b ≡ false
not_true true is = let no : false ≡ true = is in cc
not_true false is = refl

-- those that are live among a family's pairs
live_only : (times : Timeouts) (moment : ℕ) (pairs : List (List ℕ × ℕ)) → AreLiveOf times moment pairs (live_pairs times moment pairs)
live_only times moment pairs key value = (
  (λ inside.
      let (kept, passing) = of_filter (λ pair. not (is_expired_at times moment pair.1)) pairs (key, value) inside in
      (kept, not_true (is_expired_at times moment value) passing)),
  λ (kept, live). in_filter (λ pair. not (is_expired_at times moment pair.1)) pairs (key, value) kept (ap not live),
)

told_pairs : (times : Timeouts) (moment : ℕ) (stored told : StoredFacts) → told ≡ live_at times moment stored → (family : Family)
    → pairs_of told family ≡ live_pairs times moment (pairs_of stored family)
told_pairs times moment stored told is V4 = ap (λ (s : StoredFacts). s.four) is
told_pairs times moment stored told is V6 = ap (λ (s : StoredFacts). s.six) is

-- what is told of the tables of workers who age, as it is at a second that no packet is behind
module _ (options : Options) (ages : Bool) (policy : PolicyFacts) (packets : List PacketFacts) (verdicts : List Verdict) (latest : ℕ) (told : StoredFacts)
    (by : ByWorkers options ages policy packets verdicts) (aged : ages ≡ true) (paged : HavePages verdicts) (in_time : AgeInTime by) (until : AreUntil latest packets)
    (are : AreToldOf (layout_for options.tables) options.times ages latest by.views told) where
  abbrev l : Layout
  l = layout_for options.tables

  live : told ≡ live_at options.times latest are.stored
  live = are.told_is ∙ ap (λ (b : Bool). told_at options.times b latest are.stored) aged

  stored_by : (family : Family) → AreStored (sizes_in l family) (view_in by.views family).known (pairs_of are.stored family)
  stored_by family = stored_in l by.views are.stored are.are family

  pub live_by_one : AreLiveByOneThread l options.times latest policy packets verdicts told
  live_by_one =
      let verdicts_are = by_one options ages policy packets verdicts by paged in_time in
      let timely = in_time aged in
      record {
        verdicts_are = verdicts_are;
        left = λ home inside.
            live_left_by_one _ _ _ _ _ _ _ by.said (inl refl) paged timely.0 timely.1 latest until verdicts_are home inside
            (pairs_of are.stored home.family) (pairs_of told home.family) (stored_by home.family)
            (subst (AreLiveOf options.times latest (pairs_of are.stored home.family)) (sym (told_pairs options.times latest are.stored told live home.family))
            (live_only options.times latest (pairs_of are.stored home.family)));
        ascending = λ family.
            subst AreSorted (sym (told_pairs options.times latest are.stored told live family))
            (sorted_filter (λ pair. not (is_expired_at options.times latest pair.1)) (pairs_of are.stored family) (stored_by family).ascending);
      }

-- no packet is behind the latest second of all
pub until_latest : (packets : List PacketFacts) → AreUntil (latest_second packets) packets
until_latest [] = All-nil (λ (p : PacketFacts). p.moment ≤ 0)
until_latest (packet ∷ packets) =
    let later = latest_second packets in
    All-cons (λ (p : PacketFacts). p.moment ≤ max packet.moment later) packet packets (omega arith)
    (All-weaker (λ (p : PacketFacts). p.moment ≤ later) (λ (p : PacketFacts). p.moment ≤ max packet.moment later)
    (λ p below. omega arith) packets (until_latest packets))

-- ---- One listing

one_answer : (c : Case) (b : Bounds) (m one two : Pairs) (e : Event) → Answers c b m e one → Answers c b m e two → one ≡ two
one_answer Unchanged b m one two e first second = first.1 ∙ sym second.1
one_answer WornOut b m one two e first second = first.1 ∙ sym second.1
one_answer NoRoom b m one two e first second = full e.recycling.removed first second
  where
    full : (removed : Option (List ℕ)) → AnswersFull removed m e one → AnswersFull removed m e two → one ≡ two
    full None first second = first.1 ∙ sym second.1
    full (Some gone) first second = first.1 ∙ sym second.1
one_answer NewKey b m one two e (inl first) (inl second) = first.1 ∙ sym second.1
one_answer NewKey b m one two e (inl first) (inr (refused, same)) = let (log2, left, is, small, few) = refused in let no = sym first.0 ∙ is in cc
one_answer NewKey b m one two e (inr (refused, same)) (inl second) = let (log2, left, is, small, few) = refused in let no = sym second.0 ∙ is in cc
one_answer NewKey b m one two e (inr first) (inr second) = first.1 ∙ sym second.1
one_answer OldKey b m one two e first second = first.1 ∙ sym second.1

-- events lead to one map
one_last : (b : Bounds) (m : Pairs) (w : ℕ) (es : List Event) (one two : Pairs) (n k : ℕ) → IsRun b m w es one n → IsRun b m w es two k → one ≡ two
one_last b m w [] one two n k first second = sym first.0 ∙ second.0
one_last b m w (e ∷ es) one two n k (x, step, run) (y, other, more) =
    let same = one_answer (case_with b (len m) w e.found (effect_of e.change e.found)) b m x y e step.answers other.answers in
    one_last b x (w + writes_of e.reply) es one two n k run (subst (λ (z : Pairs). IsRun b z (w + writes_of e.reply) es two k) (sym same) more)

module _ (l : Layout) (times : Timeouts) (latest : ℕ) (policy : PolicyFacts) (packets : List PacketFacts) (verdicts others : List Verdict) (told other : StoredFacts)
    (one : AreLiveByOneThread l times latest policy packets verdicts told) (two : AreLiveByOneThread l times latest policy packets others other) where
  -- what is in one listing is in the other
  within : (family : Family) (pair : List ℕ × ℕ) → Contains (pairs_of told family) pair → Contains (pairs_of other family) pair
  within family pair inside =
      let home : Home = record { family = family; bucket = bucket_of (sizes_in l family) pair.0 } in
      let few = holds_key l family pair.0 in
      let a = one.left home few in
      let b = two.left home few in
      let judged = one_judged l times nothing one.verdicts_are.judged two.verdicts_are.judged
      (one_readings policy packets (readings_of one.verdicts_are.judged) (readings_of two.verdicts_are.judged) one.verdicts_are.read two.verdicts_are.read)
      one.verdicts_are.one_thread two.verdicts_are.one_thread in
      let same = one_last (bounds_in l family) (nothing home) 0 (events_at l home one.verdicts_are.judged) a.last b.last a.writes b.writes a.run
      (subst (λ js. IsRun (bounds_in l family) (nothing home) 0 (events_at l home js) b.last b.writes) (sym judged) b.run) in
      let (at, live) = a.kept pair.0 pair.1 inside refl in
      b.all pair.0 pair.1 (subst (λ (m : Pairs). get m pair.0 ≡ Some pair.1) same at) live

-- the same sessions are told, whoever judged
pub one_listing : (l : Layout) (times : Timeouts) (latest : ℕ) (policy : PolicyFacts) (packets : List PacketFacts) (verdicts others : List Verdict) (told other : StoredFacts)
    → AreLiveByOneThread l times latest policy packets verdicts told → AreLiveByOneThread l times latest policy packets others other → told ≡ other
one_listing l times latest policy packets verdicts others told other one two = λ i. record { four = same V4 i; six = same V6 i }
  where
    same : (family : Family) → pairs_of told family ≡ pairs_of other family
    same family = same_pairs (pairs_of told family) (pairs_of other family) (one.ascending family) (two.ascending family)
        (within l times latest policy packets verdicts others told other one two family)
        (within l times latest policy packets others verdicts other told two one family)
