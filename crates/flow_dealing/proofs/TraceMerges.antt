-- What all workers did, as records of all of them.
use Rattle.std.proofs.Common.{◌≡◌, ◌∙◌, ◌+◌, ◌-◌, ◌<◌, ◌≤◌, ℕ, zero, suc, Bool, true, false, List, [], ◌∷◌, length, map, Some, ap, refl, sym, subst, arith}
use Rattle.std.specs.Prelude.{slice_get}
use Rattle.std.specs.List.{All, AllZip}
use Rattle.std.proofs.lemmas.List.Elements.{All-head, All-map, All-weaker}
use lib.ListN.{get_elem?}
use mathlib.Core.Option.{some, some-ne-none, some-injective}
use Rattle.packet_view.specs.Captures.{PacketFacts}
use Rattle.packet_view.specs.Frames as frames
use Rattle.packet_view.specs.declared.tuple.Family.{Family}
use Rattle.acl_policy.specs.Policies.{PolicyFacts}
use Rattle.bihash_rule.specs.Histories.{event_of}
use Rattle.bihash_rule.specs.declared.view.Record.{Record}
use Rattle.bihash_steps.proofs.Lists.{there, within}
use Rattle.session_state.specs.declared.timeouts.Timeouts.{Timeouts}
use Rattle.session_state.specs.declared.verdict.Verdict.{Verdict}
use Rattle.session_state.specs.Sessions.{session_of}
use Rattle.flow_filter.specs.Ageing.{IsOfExpired, NeverFall, Removal, moment_of, removals_in}
use Rattle.flow_filter.specs.Readings.{AreReadings, IsReading}
use Rattle.flow_filter.specs.Judged.{IsAsked, readings_of, verdicts_on}
use Rattle.flow_dealing.specs.Views.{Views, view_in}
use Rattle.flow_filter.proofs.AgeingMaps.{later_by}
use Rattle.flow_dealing.specs.Dealings.{Deal}
use Rattle.flow_dealing.specs.Traces.{ArePlaced, AreFrames, Item, judged_of}
use Rattle.flow_dealing.specs.AgeingTraces.{Aged, AreAllDeeds, Deed, HaveDone, IsRemovalOf, aged_in, calls_by, items_in, removal_by}
use Rattle.flow_dealing.specs.WorkerRecords.{AreInTimeOrder, AreJudgedAgeing, AreJudgedBetween, AreJudgedBy, AreUntil, HasLongExpired, IsByOwner, removal_delay}
use Rattle.flow_dealing.proofs.AgeingMerges.{AreStepped, IsLeftOf, never_fall_from, step_all}
use Rattle.flow_dealing.proofs.DealtEvents.{IsOwn, IsSaid, all_views, own_items, same_list}
use Rattle.flow_dealing.proofs.Places.{after_map, all_at, all_from, all_of, zip_count}

-- ---- Lists of workers

module _ {X : Type 0} where
  abbrev list_or : List (List X) → ℕ → List X
  list_or [] w = []
  list_or (t ∷ ts) zero = t
  list_or (t ∷ ts) (suc w) = list_or ts w

  list_there : (ts : List (List X)) (w : ℕ) (t : List X) → get_elem? ts w ≡ some t → list_or ts w ≡ t
  list_there [] w t at = absurd (some-ne-none t (sym at))
  list_there (x ∷ xs) zero t at = some-injective x t at
  list_there (x ∷ xs) (suc w) t at = list_there xs w t at

  -- what stands beside an element
  beside : {Y : Type 0} (R : X → Y → Type 0) (xs : List X) (ys : List Y) (w : ℕ) (y : Y) → AllZip R xs ys
      → get_elem? ys w ≡ some y → (x : X) × (get_elem? xs w ≡ some x) × R x y
  beside R [] [] w y all at = absurd (some-ne-none y (sym at))
  beside R [] (z ∷ zs) w y all at = absurd all
  beside R (x ∷ xs) [] w y all at = absurd (some-ne-none y (sym at))
  beside R (x ∷ xs) (z ∷ zs) zero y all at = (x, refl, subst (R x) (some-injective z y at) all.0)
  beside R (x ∷ xs) (z ∷ zs) (suc w) y all at = beside R xs zs w y all.1 at

-- the record has the calls of these deeds
abbrev pub HasCalls : Family → List Deed → Record → Type 0
HasCalls family deeds r = r.calls ≡ calls_by family deeds

readings_count : (is : List Item) → length (readings_of (map judged_of is)) ≡ length is
readings_count [] = refl
readings_count (i ∷ is) = ap suc (readings_count is)

-- the packets of items that are known asked once, and got these verdicts
module _ (d : Deal) (times : Timeouts) (policy : PolicyFacts) (packets : List PacketFacts) (verdicts : List Verdict)
    (is : List Item) (each : All (IsSaid d times policy packets verdicts) is) where
  all_asked : All (IsAsked times) (map judged_of is)
  all_asked = All-map (IsAsked times) judged_of is
      (All-weaker (IsSaid d times policy packets verdicts) (λ i. IsAsked times (judged_of i)) (λ i said. said.item.asked) is each)

  all_said : AreReadings policy packets (readings_of (map judged_of is)) → length verdicts ≡ length packets
      → ((k : ℕ) (i : Item) → get_elem? is k ≡ some i → i.packet ≡ 0 + k) → verdicts ≡ verdicts_on (map judged_of is)
  all_said read count placed = same_list is verdicts
      (count ∙ zip_count (IsReading policy) packets (readings_of (map judged_of is)) read ∙ readings_count is)
      (λ k i at. let e : 0 + k ≡ k = omega arith in ap (get_elem? verdicts) (sym (placed k i at ∙ e))
      ∙ (all_at (IsSaid d times policy packets verdicts) is k i each at).said)

-- ---- Moments of packets that never fall

-- the moment of the packet of this number, or of the last one, or this one where there is none
abbrev clock_from : ℕ → List PacketFacts → ℕ → ℕ
clock_from last [] k = last
clock_from last (p ∷ ps) zero = p.moment
clock_from last (p ∷ ps) (suc k) = clock_from p.moment ps k

clock_there : (last : ℕ) (ps : List PacketFacts) (k : ℕ) (packet : PacketFacts) → slice_get ps k ≡ Some packet
    → clock_from last ps k ≡ packet.moment
clock_there last [] k packet stands = let f : ⊥ = cc in absurd f
clock_there last (p ∷ ps) zero packet stands = let e : p ≡ packet = cc in ap (λ (q : PacketFacts). q.moment) e
clock_there last (p ∷ ps) (suc k) packet stands = clock_there p.moment ps k packet stands

clock_rises : (last : ℕ) (ps : List PacketFacts) (k : ℕ) → NeverFall last (map (λ p. Some p.moment) ps)
    → clock_from last ps k ≤ clock_from last ps (suc k)
clock_rises last [] k fall = omega arith
clock_rises last (p ∷ []) zero fall = omega arith
clock_rises last (p ∷ q ∷ ps) zero fall = fall.1.0
clock_rises last (p ∷ ps) (suc k) fall = clock_rises p.moment ps k fall.1

-- what was expired before is expired
ended_by : (times : Timeouts) (r : Removal) → HasLongExpired times r → IsOfExpired times r
ended_by times r late = record {
  word = late.word;
  found = late.found;
  short = late.short;
  ended = later_by times (r.moment - removal_delay) r.moment (session_of late.word) (omega arith) late.ended;
  change = late.change;
}

none_left : (rs : List Removal) → All (λ r. ⊥) rs → rs ≡ []
none_left [] all = refl
none_left (r ∷ rs) all = absurd (All-head (λ x. ⊥) r rs all)

-- ---- Packets and removals

module _ (d : Deal) (times : Timeouts) (ages : Bool) (policy : PolicyFacts) (packets : List PacketFacts)
    (all : List (List Deed)) where
  -- what is known of a removal, as a deed and as a step
  record IsKnownOf (w : ℕ) (a : Aged) : Type 0 where
    few : w < d.workers
    is : IsRemovalOf d times ages packets w a

  record IsKnownIn (r : Removal) : Type 0 where
    few : r.worker < d.workers
    may : ages ≡ true
    late : HasLongExpired times r
    own : IsByOwner d r
    timed : (latest : ℕ) → AreUntil latest packets → r.moment ≤ latest

  known_in : (w : ℕ) (a : Aged) → IsKnownOf w a → IsKnownIn (removal_by w a)
  known_in w a known = record {
    few = known.few;
    may = known.is.may;
    late = known.is.late;
    own = known.is.own;
    timed = λ latest until. subst (λ n. n ≤ latest) (sym known.is.timed)
        (all_of (λ p. p.moment ≤ latest) packets a.behind known.is.packet until known.is.there);
  }

  keeps : AreInTimeOrder packets → (k : ℕ) (packet : PacketFacts) → slice_get packets k ≡ Some packet
      → (clock_from 0 packets k ≤ packet.moment) × (packet.moment ≤ clock_from 0 packets (k + 1))
  keeps order k packet stands =
      let same = clock_there 0 packets k packet stands in
      let more : clock_from 0 packets k ≤ clock_from 0 packets (k + 1) =
      subst (λ n. clock_from 0 packets k ≤ clock_from 0 packets n) (let e : suc k ≡ k + 1 = omega arith in e)
      (clock_rises 0 packets k order) in
      (omega arith, omega arith)

  timed_as : AreInTimeOrder packets → (w : ℕ) (a : Aged) → IsKnownOf w a → a.moment ≡ clock_from 0 packets a.behind
  timed_as order w a known = known.is.timed ∙ sym (clock_there 0 packets a.behind known.is.packet known.is.there)

  module _ (v : Views) (verdicts : List Verdict) (some_worker : 0 < d.workers)
      (are : AreAllDeeds d times ages policy packets all)
      (done : (family : Family) → HaveDone d family all (view_in v family))
      (placed : ArePlaced packets (map items_in all) verdicts) where
    abbrev IsLeftHere : ℕ → ℕ → List frames.FrameFacts → List Deed → Type 0
    IsLeftHere w at views deeds = IsLeftOf d times policy packets verdicts (AreInTimeOrder packets)
        (λ order. clock_from 0 packets) keeps IsKnownOf timed_as IsKnownIn known_in w at views deeds

    left : (views : List frames.FrameFacts) → AreFrames policy packets views → (w : ℕ) → w < d.workers
        → IsLeftHere w 0 views (list_or all w)
    left views seen w few =
        let t = there all w (let count = are.count in omega arith) in
        let is = are.each w t.0 t.1 in
        subst (IsLeftHere w 0 views) (sym (list_there all w t.0 t.1))
        (record {
          numbers = is.trace.dealt views seen;
          own = all_from (IsOwn d times policy packets verdicts w) (items_in t.0) (λ k i at.
              all_at (IsOwn d times policy packets verdicts w) (items_in t.0) k i
              (own_items d times policy packets (map items_in all) verdicts placed w (items_in t.0)
              (after_map items_in all w t.0 t.1) is.trace) at);
          aged = All-weaker (IsRemovalOf d times ages packets w) (IsKnownOf w) (λ a known. record { few = few; is = known })
              (aged_in t.0) is.removals;
          order = is.order;
        })

    stepped : AreStepped d times policy packets verdicts (AreInTimeOrder packets) (λ order. clock_from 0 packets) keeps IsKnownOf
        timed_as IsKnownIn known_in 0 packets (list_or all)
    stepped =
        let vs = all_views policy packets in
        step_all d times policy packets verdicts (AreInTimeOrder packets) (λ order. clock_from 0 packets) keeps IsKnownOf
        timed_as IsKnownIn known_in 0 packets vs.0 (list_or all) some_worker vs.1 (omega arith)
        (λ k. ap (slice_get packets) (let e : 0 + k ≡ k = omega arith in e)) (left vs.0 vs.1)

    pub judge_each_packet : AreJudgedAgeing d times ages policy packets verdicts v
    judge_each_packet = let m = stepped in record {
      removals = removals_in m.steps;
      judged = record {
        judged = map judged_of m.merged;
        read = m.read;
        asked = all_asked d times policy packets verdicts m.merged m.each;
        said = all_said d times policy packets verdicts m.merged m.each m.read placed.count m.placed;
        steps = m.steps;
        packets_are = m.packets_are;
        removals_are = refl;
        ended = All-weaker IsKnownIn (IsOfExpired times) (λ r known. ended_by times r known.late) (removals_in m.steps) m.removed;
        by = All-weaker IsKnownIn (λ r. r.worker < d.workers) (λ r known. known.few) (removals_in m.steps) m.removed;
        views = v;
        recorded = λ family. let g = done family in record {
          lawful = g.lawful;
          told = g.told;
          openings = g.did.openings;
          count = sym (zip_count (HasCalls family) all (view_in v family).records g.did.records) ∙ are.count;
          each = λ w r at. let t = beside (HasCalls family) all (view_in v family).records w r g.did.records at in
              ap (map event_of) (t.2 ∙ ap (calls_by family) (sym (list_there all w t.0 t.1)))
              ∙ m.dealt family w (let inside = within all w t.0 t.1 in let count = are.count in omega arith);
          wanted = g.did.wanted;
        };
      };
      known = refl;
      none = λ none. none_left (removals_in m.steps)
          (All-weaker IsKnownIn (λ r. ⊥) (λ r known. let f : ⊥ = (let may = known.may in cc) in f) (removals_in m.steps) m.removed);
      own = All-weaker IsKnownIn (IsByOwner d) (λ r known. known.own) (removals_in m.steps) m.removed;
      late = All-weaker IsKnownIn (HasLongExpired times) (λ r known. known.late) (removals_in m.steps) m.removed;
      timed = λ latest until.
          All-weaker IsKnownIn (λ r. r.moment ≤ latest) (λ r known. known.timed latest until) (removals_in m.steps) m.removed;
      in_time = λ order. never_fall_from 0 (clock_from 0 packets 0) (map moment_of m.steps) (omega arith) (m.in_time order);
    }

-- where workers don't age it is as without
pub judged_unaged : (d : Deal) (times : Timeouts) (policy : PolicyFacts) (packets : List PacketFacts) (verdicts : List Verdict)
    (v : Views) → AreJudgedAgeing d times false policy packets verdicts v → AreJudgedBy d times policy packets verdicts v
judged_unaged d times policy packets verdicts v are = go are.removals are.judged are.known (are.none refl)
  where
    go : (rs : List Removal) (run : AreJudgedBetween d times policy packets rs verdicts) → run.views ≡ v → rs ≡ []
        → AreJudgedBy d times policy packets verdicts v
    go [] run known none = (run, known)
    go (r ∷ rs) run known none = let f : ⊥ = cc in absurd f
