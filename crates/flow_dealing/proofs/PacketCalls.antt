-- The call of each packet, and the step of each call.
use Rattle.std.proofs.Common.{◌≡◌, ◌⊎◌, ◌∙◌, ◌+◌, ◌<◌, ℕ, zero, suc, Bool, true, false, cond, List, [], ◌∷◌, ◌++◌, length, Option, Some, None, All, ap, ap₂, refl, sym, subst, arith, inl, inr}
use Rattle.std.specs.Prelude.{if◌then◌else◌, ◌==◌, ◌&&◌, option_map}
use Rattle.std.proofs.lemmas.Bool.{and_parts, eq-eqb, eqb-true}
use Rattle.std.proofs.lemmas.Bool.Decides.{eqb_tells}
use Rattle.std.proofs.lemmas.List.Elements.{All-head, All-tail}
use lib.ListN.{get_elem?}
use mathlib.Core.Option.{some, some-ne-none, some-injective}
use Rattle.packet_view.specs.declared.tuple.Family.{Family}
use Rattle.bihash_words.specs.Maps.{Event}
use Rattle.bihash_rule.specs.Histories.{event_of}
use Rattle.bihash_rule.specs.declared.view.Call.{Call}
use Rattle.bihash_rule.specs.declared.view.Record.{Record}
use Rattle.bihash_rule.specs.declared.view.View.{View}
use Rattle.bihash_steps.proofs.Lists.{at_after, there}
use Rattle.session_state.specs.declared.flow.Flow.{Flow}
use Rattle.session_state.specs.declared.timeouts.Timeouts.{Timeouts}
use Rattle.session_state.specs.Flows.{flow_of}
use Rattle.flow_filter.specs.Ageing.{Judges, Removal, Removes, Step, packets_in, removals_in}
use Rattle.flow_filter.specs.Readings.{Framed, Reading, Ruled}
use Rattle.flow_filter.specs.Updates.{Update, update_in, update_of, words_of}
use Rattle.flow_filter.specs.Judged.{AreAsked, Asked, Asks, IsAsked, IsAskedBy, Judged, Settled}
use Rattle.flow_filter.specs.OneThread.{family_of, same_family}
use Rattle.flow_filter.proofs.HomeLemmas.{families_are_one, family_as_itself}
use Rattle.flow_dealing.specs.Dealings.{Deal, flow_of_reading, worker_of}
use Rattle.flow_dealing.specs.Places.{AreStepsBefore}
use Rattle.flow_dealing.specs.WorkerRecords.{AreRecorded, IsByOwner, add_in, events_by}
use Rattle.flow_dealing.proofs.DealtEvents.{add_in-append, events_by-judges, events_by-nil, events_by-removes, worker_few}
use Rattle.flow_dealing.proofs.Places.{before_map}

-- an update has the key of the packet's flow
pub flow_of_update : (times : Timeouts) (reading : Reading) (u : Update) → update_of times reading ≡ Some u
    → (flow : Flow) × (flow_of_reading reading ≡ Some flow) × (flow.key ≡ u.key)
flow_of_update times (Framed verdict) u is = let f : ⊥ = cc in absurd f
flow_of_update times (Ruled moment tuple ruling) u is = go (flow_of tuple) is
  where
    go : (found : Option Flow) → option_map (update_in times moment tuple ruling) found ≡ Some u
        → (flow : Flow) × (found ≡ Some flow) × (flow.key ≡ u.key)
    go None e = let f : ⊥ = cc in absurd f
    go (Some flow) e =
        let same : update_in times moment tuple ruling flow ≡ u = cc in
        (flow, refl, ap (λ (x : Update). x.key) same)

-- ---- The steps before a packet

pub steps_before : (steps : List Step) (k : ℕ) (j : Judged) → get_elem? (packets_in steps) k ≡ some j
    → (earlier : List Step) × AreStepsBefore steps k j earlier
steps_before [] k j at = absurd (some-ne-none j (sym at))
steps_before (Removes r ∷ steps) k j at =
    let (earlier, before) = steps_before steps k j at in (
      Removes r ∷ earlier,
      record { later = before.later; whole = ap (λ s. Removes r ∷ s) before.whole; count = before.count },
    )
steps_before (Judges x ∷ steps) zero j at =
    ([], record { later = steps; whole = ap (λ y. Judges y ∷ steps) (some-injective x j at); count = refl })
steps_before (Judges x ∷ steps) (suc k) j at =
    let (earlier, before) = steps_before steps k j at in (
      Judges x ∷ earlier,
      record { later = before.later; whole = ap (λ s. Judges x ∷ s) before.whole; count = ap suc before.count },
    )

-- the steps before a packet are among those before one that comes later
pub steps_between : (earlier next : List Step) (j i : Judged) (later last : List Step)
    → earlier ++ (Judges j ∷ later) ≡ next ++ (Judges i ∷ last) → length (packets_in earlier) < length (packets_in next)
    → (between : List Step) × (next ≡ earlier ++ (Judges j ∷ between))
steps_between earlier [] j i later last same fewer = absurd (omega arith)
steps_between [] (s ∷ next) j i later last same fewer =
    let head : s ≡ Judges j = cc in (next, ap (λ x. x ∷ next) head)
steps_between (r ∷ earlier) (s ∷ next) j i later last same fewer =
    let head : s ≡ r = cc in
    let tail : earlier ++ (Judges j ∷ later) ≡ next ++ (Judges i ∷ last) = cc in
    let (between, whole) =
    steps_between earlier next j i later last tail
    (fewer_left r (subst (λ x. length (packets_in (r ∷ earlier)) < length (packets_in (x ∷ next))) head fewer)) in
    (between, ap₂ (λ x xs. x ∷ xs) head whole)
  where
    fewer_left : (x : Step) → length (packets_in (x ∷ earlier)) < length (packets_in (x ∷ next))
        → length (packets_in earlier) < length (packets_in next)
    fewer_left (Judges y) less = omega arith
    fewer_left (Removes y) less = less

module _ (d : Deal) (family : Family) where
  -- ---- The step of an event

  -- a packet of this worker that has a flow of the family with the event's key
  pub record IsFrom (w : ℕ) (e : Event) : Type 0 where
    pub number : ℕ
    pub flow : Flow
    pub inside : family_of flow.key ≡ family
    pub key : e.key ≡ words_of flow.key
    pub dealt : worker_of d number (Some flow) ≡ w

  -- a removal of this worker from the family's table, by the worker of its bucket
  pub record IsRemovedBy (w : ℕ) (e : Event) : Type 0 where
    pub removal : Removal
    pub inside : removal.family ≡ family
    pub event : removal.event ≡ e
    pub by : removal.worker ≡ w
    pub own : IsByOwner d removal

  -- the step of an event
  abbrev pub IsStep : ℕ → Event → Type 0
  IsStep w e = IsFrom w e ⊎ IsRemovedBy w e

  from_first : (times : Timeouts) (w n k : ℕ) (reading : Reading) (asked : Asked Event) (E : List Event) (e : Event)
      → IsAskedBy (update_of times reading) asked → worker_of d n (flow_of_reading reading) ≡ w
      → get_elem? (add_in family asked E) k ≡ some e → ((m : ℕ) → get_elem? E m ≡ some e → IsStep w e) → IsStep w e
  from_first times w n k reading Settled E e its mine at more = more k at
  from_first times w n k reading (Asks u x) E e its mine at more = go (same_family family (family_of u.key)) refl k at
    where
      f : (flow : Flow) × (flow_of_reading reading ≡ Some flow) × (flow.key ≡ u.key)
      f = flow_of_update times reading u its.0

      go : (t : Bool) → same_family family (family_of u.key) ≡ t → (m : ℕ)
          → get_elem? (if t then x ∷ E else E) m ≡ some e → IsStep w e
      go true is zero there = inl (record {
        number = n;
        flow = f.0;
        inside = ap family_of f.2 ∙ sym (families_are_one family (family_of u.key) is);
        key = ap (λ (y : Event). y.key) (sym (some-injective x e there)) ∙ (its.1.key ∙ ap words_of (sym f.2));
        dealt = ap (worker_of d n) (sym f.1) ∙ mine;
      })
      go true is (suc m) there = more m there
      go false is m there = more m there

  removed_first : (w k : ℕ) (r : Removal) (E : List Event) (e : Event) → IsByOwner d r
      → get_elem? (cond (same_family family r.family && (r.worker == w)) (r.event ∷ E) E) k ≡ some e
      → ((m : ℕ) → get_elem? E m ≡ some e → IsStep w e) → IsStep w e
  removed_first w k r E e own at more = go (same_family family r.family && (r.worker == w)) refl k at
    where
      go : (t : Bool) → (same_family family r.family && (r.worker == w)) ≡ t → (m : ℕ)
          → get_elem? (cond t (r.event ∷ E) E) m ≡ some e → IsStep w e
      go true is zero there =
          let parts = and_parts (same_family family r.family) (r.worker == w) is in
          inr (record {
            removal = r;
            inside = sym (families_are_one family r.family parts.0);
            event = some-injective r.event e there;
            by = eqb-true r.worker w parts.1;
            own = own;
          })
      go true is (suc m) there = more m there
      go false is m there = more m there

  pub step_of_event : (times : Timeouts) (w n : ℕ) (steps : List Step) → AreAsked times (packets_in steps)
      → All (IsByOwner d) (removals_in steps)
      → (k : ℕ) (e : Event) → get_elem? (events_by d family w n steps) k ≡ some e → IsStep w e
  step_of_event times w n [] asked own k e at =
      absurd (some-ne-none e (sym (ap (λ es. get_elem? es k) (sym (events_by-nil d family w n)) ∙ at)))
  step_of_event times w n (Removes r ∷ steps) asked own k e at =
      removed_first w k r (events_by d family w n steps) e (All-head (IsByOwner d) r (removals_in steps) own)
      (ap (λ es. get_elem? es k) (sym (events_by-removes d family w n r steps)) ∙ at)
      (λ m there. step_of_event times w n steps asked (All-tail (IsByOwner d) r (removals_in steps) own) m e there)
  step_of_event times w n (Judges j ∷ steps) asked own k e at = elim (eqb_tells (worker_of d n (flow_of_reading j.reading)) w) [
    | inl (test, mine) ↦ from_first times w n k j.reading j.asked E e (All-head (IsAsked times) j (packets_in steps) asked) mine
        (ap (λ b. get_elem? (cond b (add_in family j.asked E) E) k) (sym test) ∙ here)
        (λ m there. step_of_event times w (n + 1) steps (All-tail (IsAsked times) j (packets_in steps) asked) own m e there)
    | inr (test, other) ↦ step_of_event times w (n + 1) steps (All-tail (IsAsked times) j (packets_in steps) asked) own k e
        (ap (λ b. get_elem? (cond b (add_in family j.asked E) E) k) (sym test) ∙ here)
  ]
    where
      E : List Event
      E = events_by d family w (n + 1) steps

      here : get_elem? (cond (worker_of d n (flow_of_reading j.reading) == w) (add_in family j.asked E) E) k ≡ some e
      here = ap (λ es. get_elem? es k) (sym (events_by-judges d family w n j steps)) ∙ at

  -- ---- The event of a packet

  -- a worker's events of steps that follow others
  events_by-append : (w n : ℕ) (steps more : List Step) → events_by d family w n (steps ++ more)
      ≡ events_by d family w n steps ++ events_by d family w (n + length (packets_in steps)) more
  events_by-append w n [] more =
      let none : n ≡ n + 0 = omega arith in
      ap (λ m. events_by d family w m more) none
      ∙ ap (λ es. es ++ events_by d family w (n + 0) more) (sym (events_by-nil d family w n))
  events_by-append w n (Removes r ∷ steps) more =
      events_by-removes d family w n r (steps ++ more)
      ∙ (go (same_family family r.family && (r.worker == w)) (events_by-append w n steps more)
      ∙ ap (λ es. es ++ F) (sym (events_by-removes d family w n r steps)))
    where
      E : List Event
      E = events_by d family w n steps

      F : List Event
      F = events_by d family w (n + length (packets_in steps)) more

      all : List Event
      all = events_by d family w n (steps ++ more)

      go : (t : Bool) → all ≡ E ++ F → cond t (r.event ∷ all) all ≡ cond t (r.event ∷ E) E ++ F
      go true both = ap (λ es. r.event ∷ es) both
      go false both = both
  events_by-append w n (Judges x ∷ steps) more =
      events_by-judges d family w n x (steps ++ more)
      ∙ (go (worker_of d n (flow_of_reading x.reading) == w) (events_by-append w (n + 1) steps more)
      ∙ ap₂ (λ es fs. es ++ fs) (sym (events_by-judges d family w n x steps))
      (let number : n + 1 + length (packets_in steps) ≡ n + suc (length (packets_in steps)) = omega arith in
      ap (λ m. events_by d family w m more) number))
    where
      E : List Event
      E = events_by d family w (n + 1) steps

      F : List Event
      F = events_by d family w (n + 1 + length (packets_in steps)) more

      all : List Event
      all = events_by d family w (n + 1) (steps ++ more)

      add : List Event → List Event
      add es = add_in family x.asked es

      go : (t : Bool) → all ≡ E ++ F → cond t (add all) all ≡ cond t (add E) E ++ F
      go true both = ap add both ∙ add_in-append family x.asked E F
      go false both = both

  -- a packet of this worker has its event before those of the steps that follow
  event_first : (w n : ℕ) (j : Judged) (u : Update) (e : Event) (later : List Step)
      → j.asked ≡ Asks u e → family_of u.key ≡ family → worker_of d n (flow_of_reading j.reading) ≡ w
      → events_by d family w n (Judges j ∷ later) ≡ e ∷ events_by d family w (n + 1) later
  event_first w n j u e later its inside mine =
      events_by-judges d family w n j later
      ∙ (ap (λ (b : Bool). cond b (add_in family j.asked E) E) (eq-eqb (worker_of d n (flow_of_reading j.reading)) w mine)
      ∙ (ap (λ asked. add_in family asked E) its
      ∙ ap (λ (b : Bool). if b then e ∷ E else E) (ap (same_family family) inside ∙ family_as_itself family)))
    where
      E : List Event
      E = events_by d family w (n + 1) later

  -- the packet's event stands behind those of the steps before it
  pub event_of_packet : (w : ℕ) (steps earlier : List Step) (k : ℕ) (j : Judged) (u : Update) (e : Event)
      → (before : AreStepsBefore steps k j earlier)
      → j.asked ≡ Asks u e → family_of u.key ≡ family → worker_of d k (flow_of_reading j.reading) ≡ w
      → events_by d family w 0 steps ≡ events_by d family w 0 earlier ++ (e ∷ events_by d family w (k + 1) before.later)
  event_of_packet w steps earlier k j u e before its inside mine =
      let number : 0 + length (packets_in earlier) ≡ k = let c = before.count in omega arith in
      ap (events_by d family w 0) before.whole
      ∙ (events_by-append w 0 earlier (Judges j ∷ before.later)
      ∙ ap (λ es. events_by d family w 0 earlier ++ es)
      (ap (λ m. events_by d family w m (Judges j ∷ before.later)) number
      ∙ event_first w k j u e before.later its inside mine))

  -- ---- The call of a packet

  pub record IsCallFor (steps : List Step) (v : View) (number : ℕ) (j : Judged) (worker : ℕ) (e : Event) : Type 0 where
    pub record_at : Record
    pub stands : get_elem? v.records worker ≡ some record_at
    pub earlier : List Step
    pub are_earlier : AreStepsBefore steps number j earlier
    pub place : ℕ
    pub call : Call
    pub called : get_elem? record_at.calls place ≡ some call
    pub event : event_of call ≡ e
    pub behind : place ≡ length (events_by d family worker 0 earlier)

  module _ (steps : List Step) (v : View) (recorded : AreRecorded d family steps v) where
    pub some_worker : 0 < d.workers
    some_worker = let acts = recorded.lawful.acts in let count = recorded.count in omega arith

    pub call_of_packet : (k : ℕ) (j : Judged) (u : Update) (e : Event)
        → get_elem? (packets_in steps) k ≡ some j → j.asked ≡ Asks u e → family_of u.key ≡ family
        → IsCallFor steps v k j (worker_of d k (flow_of_reading j.reading)) e
    call_of_packet k j u e at its inside =
        let w : ℕ = worker_of d k (flow_of_reading j.reading) in
        let r =
        there v.records w (let few = worker_few d k (flow_of_reading j.reading) some_worker in let count = recorded.count in
        omega arith) in
        let (earlier, before) = steps_before steps k j at in
        let E : List Event = events_by d family w 0 earlier in
        let F : List Event = e ∷ events_by d family w (k + 1) before.later in
        let last : length E + 0 ≡ length E = omega arith in
        let c = before_map event_of r.0.calls (length E) e (ap (λ es. get_elem? es (length E))
        (recorded.each w r.0 r.1 ∙ event_of_packet w steps earlier k j u e before its inside refl)
        ∙ (ap (get_elem? (E ++ F)) (sym last) ∙ at_after E F 0 e refl)) in
        record {
          record_at = r.0;
          stands = r.1;
          earlier = earlier;
          are_earlier = before;
          place = length E;
          call = c.0;
          called = c.1;
          event = c.2;
          behind = refl;
        }
