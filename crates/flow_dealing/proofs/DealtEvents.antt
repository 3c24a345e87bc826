-- What is dealt to each worker: its packets, and the events of its steps.
use Rattle.std.proofs.Common.{◌≡◌, ◌∙◌, ◌+◌, ◌<◌, ℕ, zero, suc, Bool, true, false, cond, List, [], ◌∷◌, ◌++◌, length, map, Option, Some, None, ap, refl, sym, arith}
use Rattle.std.specs.Prelude.{if◌then◌else◌, ◌==◌, ◌&&◌}
use Rattle.std.specs.List.{All}
use Rattle.std.proofs.Math.Nat.{mod-lt}
use lib.ListN.{get_elem?}
use mathlib.Core.Option.{some, some-injective}
use Rattle.packet_view.specs.Captures.{PacketFacts}
use Rattle.packet_view.specs.Frames as frames
use Rattle.packet_view.specs.Interfaces.{Interface}
use Rattle.packet_view.specs.inner.FrameSteps.{view_of}
use Rattle.packet_view.specs.declared.tuple.Family.{Family}
use Rattle.packet_view.proofs.FrameLemmas.{view_shown}
use Rattle.acl_policy.specs.Policies.{PolicyFacts, section_of}
use Rattle.bihash_rule.specs.Histories.{event_of}
use Rattle.bihash_rule.specs.declared.view.Call.{Call}
use Rattle.session_state.specs.declared.flow.Flow.{Flow}
use Rattle.session_state.specs.declared.timeouts.Timeouts.{Timeouts}
use Rattle.session_state.specs.declared.verdict.Verdict.{Verdict}
use Rattle.flow_filter.specs.Ageing.{Judges, Removal, Removes, Step}
use Rattle.flow_filter.specs.Judged.{Asked, Asks, Judged, Settled, verdict_on, verdicts_on}
use Rattle.flow_filter.specs.OneThread.{family_of, home_of, same_family}
use Rattle.flow_dealing.specs.declared.worker_of_flow.Dealing.{Dealing}
use Rattle.flow_dealing.specs.declared.worker_of_flow.Dealing.TheVariants.{Round, Bucket}
use Rattle.flow_dealing.specs.Dealings.{Deal, flow_of_reading, flow_of_frame, worker_by_dealing, worker_of}
use Rattle.flow_dealing.specs.Traces.{ArePlaced, AreFrames, IsItem, IsItemOf, IsTrace, Item, events_of, judged_of, numbers_from}
use Rattle.flow_dealing.specs.WorkerRecords.{add_in, events_by}
use Rattle.flow_dealing.proofs.Places.{all_at, all_from}

-- ---- Packets and events of a worker

abbrev pub numbers_of : List Item → List ℕ
numbers_of is = map (λ i. i.packet) is

-- a worker is one of them
pub worker_few : (d : Deal) (number : ℕ) (flow : Option Flow) → 0 < d.workers → worker_of d number flow < d.workers
worker_few d number flow some_worker = go d.dealing flow
  where
    go : (dealing : Dealing) (f : Option Flow) → worker_by_dealing dealing d.layout d.workers number f < d.workers
    go Round f = mod-lt number some_worker
    go Bucket None = some_worker
    go Bucket (Some flow) = mod-lt (home_of d.layout flow.key).bucket some_worker

-- the numbers of a worker's packets, whether the first is its own
pub numbers-cons : (d : Deal) (w at : ℕ) (view : frames.FrameFacts) (views : List frames.FrameFacts)
    → numbers_from d w at (view ∷ views)
    ≡ cond (worker_of d at (flow_of_frame view) == w) (at ∷ numbers_from d w (at + 1) views)
    (numbers_from d w (at + 1) views)
unfolding numbers_from
numbers-cons d w at view views = refl

pub numbers-nil : (d : Deal) (w at : ℕ) → numbers_from d w at [] ≡ []
unfolding numbers_from
numbers-nil d w at = refl

-- the events of a worker, whether the packet that comes first is its own
pub events_by-judges : (d : Deal) (family : Family) (w n : ℕ) (j : Judged) (steps : List Step)
    → events_by d family w n (Judges j ∷ steps) ≡ cond (worker_of d n (flow_of_reading j.reading) == w)
    (add_in family j.asked (events_by d family w (n + 1) steps))
    (events_by d family w (n + 1) steps)
unfolding events_by
events_by-judges d family w n j steps = refl

-- whether the removal that comes first is its own
pub events_by-removes : (d : Deal) (family : Family) (w n : ℕ) (r : Removal) (steps : List Step)
    → events_by d family w n (Removes r ∷ steps) ≡ cond (same_family family r.family && (r.worker == w))
    (r.event ∷ events_by d family w n steps) (events_by d family w n steps)
unfolding events_by
events_by-removes d family w n r steps = refl

pub events_by-nil : (d : Deal) (family : Family) (w n : ℕ) → events_by d family w n [] ≡ []
unfolding events_by
events_by-nil d family w n = refl

-- the events of calls, with one more call
pub events_of_call : (family : Family) (asked : Asked Call) (calls : List Call)
    → map event_of (add_in family asked calls) ≡ add_in family (events_of asked) (map event_of calls)
events_of_call family Settled calls = refl
events_of_call family (Asks u c) calls = go (same_family family (family_of u.key))
  where
    go : (same : Bool)
        → map event_of (if same then c ∷ calls else calls)
        ≡ (if same then event_of c ∷ map event_of calls else map event_of calls)
    go true = refl
    go false = refl

-- others that follow those behind it
pub add_in-append : {A : Type 0} (family : Family) (asked : Asked A) (xs ys : List A)
    → add_in family asked (xs ++ ys) ≡ add_in family asked xs ++ ys
add_in-append family Settled xs ys = refl
add_in-append family (Asks u this) xs ys = go (same_family family (family_of u.key))
  where
    go : (t : Bool) → (if t then this ∷ (xs ++ ys) else (xs ++ ys)) ≡ (if t then this ∷ xs else xs) ++ ys
    go true = refl
    go false = refl

-- ---- Items

-- each packet's frame turns out to be something
pub all_views : (policy : PolicyFacts) (ps : List PacketFacts) → (views : List frames.FrameFacts) × AreFrames policy ps views
all_views policy [] = ([], tt)
all_views policy (p ∷ ps) =
    let at : Interface = record { number = p.interface; own = (section_of p.interface policy).own } in
    let vs = all_views policy ps in (view_of p.frame at ∷ vs.0, (view_shown p.frame at, vs.1))

-- a list whose elements are at their places
pub same_list : (is : List Item) (verdicts : List Verdict) → length verdicts ≡ length is
    → ((k : ℕ) (i : Item) → get_elem? is k ≡ some i → get_elem? verdicts k ≡ some (verdict_on (judged_of i)))
    → verdicts ≡ verdicts_on (map judged_of is)
same_list [] [] count each = refl
same_list [] (v ∷ vs) count each = absurd (omega arith)
same_list (i ∷ is) [] count each = absurd (omega arith)
same_list (i ∷ is) (v ∷ vs) count each =
    (λ k. some-injective v (verdict_on (judged_of i)) (each 0 i refl) k ∷ same_list is vs (omega arith)
    (λ k j at. each (suc k) j at) k)

module _ (d : Deal) (times : Timeouts) (policy : PolicyFacts) (packets : List PacketFacts)
    (verdicts : List Verdict) where
  -- what is known of an item, whichever worker's it is
  pub record IsSaid (i : Item) : Type 0 where
    pub item : IsItem d.layout times i
    pub said : get_elem? verdicts i.packet ≡ some (verdict_on (judged_of i))

  -- what is known of an item of this worker
  pub record IsOwn (w : ℕ) (i : Item) : Type 0 where
    pub is : IsSaid i
    pub of : IsItemOf d w policy packets i

  pub next_placed : (at : ℕ) (x : Item) (xs : List Item) → x.packet ≡ at
      → ((k : ℕ) (i : Item) → get_elem? xs k ≡ some i → i.packet ≡ at + 1 + k)
      → (k : ℕ) (i : Item) → get_elem? (x ∷ xs) k ≡ some i → i.packet ≡ at + k
  next_placed at x xs here more zero i stands =
      let e : at ≡ at + 0 = omega arith in ap (λ (y : Item). y.packet) (sym (some-injective x i stands)) ∙ (here ∙ e)
  next_placed at x xs here more (suc k) i stands = let e : at + 1 + k ≡ at + suc k = omega arith in more k i stands ∙ e

-- what is known of the items of one worker's trace
pub own_items : (d : Deal) (times : Timeouts) (policy : PolicyFacts) (packets : List PacketFacts)
    (traces : List (List Item)) (verdicts : List Verdict)
    → ArePlaced packets traces verdicts → (w : ℕ) (t : List Item) → get_elem? traces w ≡ some t
    → IsTrace d times w policy packets t → All (IsOwn d times policy packets verdicts w) t
own_items d times policy packets traces verdicts placed w t at is =
    all_from (IsOwn d times policy packets verdicts w) t (λ k i stands. record {
      is = record { item = all_at (IsItem d.layout times) t k i is.items stands; said = placed.each w t at k i stands };
      of = all_at (IsItemOf d w policy packets) t k i is.of stands;
    })
