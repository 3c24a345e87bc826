-- Where each bucket has one worker, the events on a bucket are a run of its map, in the order of the steps.
use Rattle.std.proofs.Common.{◌≡◌, ◌≢◌, ◌⊎◌, ◌∙◌, ◌+◌, ◌<◌, ◌%◌, ℕ, suc, Bool, true, false, cond, List, [], ◌∷◌, length, map, Some, All, ap, ap₂, refl, sym, subst, arith, inl, inr}
use Rattle.std.specs.Prelude.{if◌then◌else◌, ◌==◌, ◌&&◌}
use Rattle.std.specs.FinMap.{empty}
use Rattle.std.specs.List.{filter}
use Rattle.std.proofs.Math.Nat.{mod-lt}
use Rattle.std.proofs.lemmas.Bool.{eq-eqb}
use Rattle.std.proofs.lemmas.Bool.Decides.{eqb_tells}
use Rattle.std.proofs.lemmas.List.Elements.{All-head, All-tail}
use lib.ListN.{get_elem?}
use mathlib.Core.Option.{some, some-injective}
use Rattle.packet_view.specs.declared.tuple.Family.{Family}
use Rattle.bihash_words.specs.Maps.{Event}
use Rattle.bihash_words.specs.Runs.{IsRun}
use Rattle.bihash_words.specs.Sizes.{Sizes, bucket_of}
use Rattle.bihash_rule.specs.Words.{buckets}
use Rattle.bihash_rule.specs.Histories.{bounds_of, event_of}
use Rattle.bihash_rule.specs.Callers.{HasWrite, known_at, opening_at, opening_in}
use Rattle.bihash_steps.specs.BucketSteps.{map_now}
use Rattle.bihash_rule.specs.declared.view.Call.{Call}
use Rattle.bihash_rule.specs.declared.view.Record.{Record}
use Rattle.bihash_rule.specs.declared.view.View.{View}
use Rattle.bihash_steps.proofs.Lists.{there}
use Rattle.bihash_laws.specs.CallRuns.{IsOneWriter, calls_on}
use Rattle.bihash_laws.proofs.OneWriter.{one_map}
use Rattle.session_state.specs.declared.flow.Flow.{Flow}
use Rattle.session_state.specs.declared.flow.FlowKey.{FlowKey}
use Rattle.session_state.specs.declared.timeouts.Timeouts.{Timeouts}
use Rattle.flow_filter.specs.Ageing.{Judges, Removal, Removes, Step, packets_in, removals_in, removed_from, steps_at}
use Rattle.flow_filter.specs.Readings.{Reading}
use Rattle.flow_filter.specs.Updates.{update_of, words_of}
use Rattle.flow_filter.specs.Judged.{AreAsked, Asked, Asks, IsAsked, IsAskedBy, Settled}
use Rattle.flow_filter.specs.OneThread.{Home, add_event, bounds_in, family_of, home_of, same_family, same_home, sizes_in}
use Rattle.flow_filter.proofs.HomeLemmas.{families_are_one}
use Rattle.flow_dealing.specs.declared.worker_of_flow.Dealing.{Dealing}
use Rattle.flow_dealing.specs.declared.worker_of_flow.Dealing.TheVariants.{Bucket}
use Rattle.flow_dealing.specs.Dealings.{Deal, flow_of_reading, worker_of}
use Rattle.flow_dealing.specs.WorkerRecords.{AreRecorded, IsByOwner, add_in, events_by}
use Rattle.flow_dealing.proofs.DealtEvents.{events_by-judges, events_by-nil, events_by-removes, worker_few}
use Rattle.flow_dealing.proofs.Places.{after_map}
use Rattle.flow_dealing.proofs.PacketCalls.{flow_of_update, some_worker, step_of_event}
use Rattle.flow_dealing.proofs.Refusals.{legal_call}

-- ---- The worker of a bucket

-- each packet whose flow's key is of this bucket goes to this worker
pub record IsOwner (d : Deal) (home : Home) (w : ℕ) : Type 0 where
  pub few : w < d.workers
  pub each : (number : ℕ) (flow : Flow) → home_of d.layout flow.key ≡ home → worker_of d number (Some flow) ≡ w
  pub number : home.bucket % d.workers ≡ w

pub owner : (d : Deal) (home : Home) → 0 < d.workers → (d.dealing ≡ Bucket) ⊎ (d.workers ≡ 1)
    → (w : ℕ) × IsOwner d home w
owner d home some_worker (inl by_bucket) = (
  home.bucket % d.workers,
  record {
    few = mod-lt home.bucket some_worker;
    each = λ number flow is. ap (λ (g : Dealing). worker_of (record d { dealing = g }) number (Some flow)) by_bucket
        ∙ ap (λ (h : Home). h.bucket % d.workers) is;
    number = refl;
  },
)
owner d home some_worker (inr one) = (
  0,
  record {
    few = some_worker;
    each = λ number flow is. let few = worker_few d number (Some flow) some_worker in omega arith;
    number = let few = mod-lt home.bucket some_worker in omega arith;
  },
)

-- ---- Calls and events

-- the events whose keys are of this bucket
abbrev events_on : Sizes → ℕ → List Event → List Event
events_on z b es = filter (λ e. bucket_of z e.key == b) es

on_bucket : (z : Sizes) (b : ℕ) (calls : List Call)
    → ((k : ℕ) (c : Call) → get_elem? calls k ≡ some c → bucket_of z c.key ≡ c.bucket)
    → map event_of (calls_on b calls) ≡ events_on z b (map event_of calls)
on_bucket z b [] home = refl
on_bucket z b (c ∷ cs) home = go (c.bucket == b)
    ∙ ap₂ (λ (k : ℕ) (es : List Event). cond (k == b) (event_of c ∷ es) es) (sym (home 0 c refl))
    (on_bucket z b cs (λ k x at. home (suc k) x at))
  where
    go : (t : Bool)
        → map event_of (cond t (c ∷ calls_on b cs) (calls_on b cs))
        ≡ cond t (event_of c ∷ map event_of (calls_on b cs)) (map event_of (calls_on b cs))
    go true = refl
    go false = refl

module _ (d : Deal) (times : Timeouts) (family : Family) (b w : ℕ)
    (own : IsOwner d (record { family = family; bucket = b }) w) where
  abbrev z : Sizes
  z = sizes_in d.layout family

  abbrev home : Home
  home = record { family = family; bucket = b }

  -- ---- The owner's events on the bucket are the packets'

  -- a key of the family is of that bucket
  key_home : (key : FlowKey) → family_of key ≡ family → bucket_of z (words_of key) ≡ b → home_of d.layout key ≡ home
  key_home key inside is =
      (λ i. record { family = inside i; bucket = bucket_of (sizes_in d.layout (inside i)) (words_of key) })
      ∙ ap (λ (k : ℕ). record { family = family; bucket = k }) is

  one_more : (n : ℕ) (reading : Reading) (asked : Asked Event) (E R : List Event) → IsAskedBy (update_of times reading) asked
      → events_on z b E ≡ R
      → events_on z b (cond (worker_of d n (flow_of_reading reading) == w) (add_in family asked E) E) ≡ add_event d.layout home asked R
  one_more n reading Settled E R its same = go (worker_of d n (flow_of_reading reading) == w)
    where
      go : (t : Bool) → events_on z b (cond t E E) ≡ R
      go true = same
      go false = same
  one_more n reading (Asks u e) E R its same =
      go (same_family family (family_of u.key)) refl (eqb_tells b (home_of d.layout u.key).bucket)
    where
      f : (flow : Flow) × (flow_of_reading reading ≡ Some flow) × (flow.key ≡ u.key)
      f = flow_of_update times reading u its.0

      stays : (t : Bool) → events_on z b (cond t E E) ≡ R
      stays true = same
      stays false = same

      skips : (bucket_of z e.key == b) ≡ false → (t : Bool) → events_on z b (cond t (e ∷ E) E) ≡ R
      skips test true = ap (λ s. cond s (e ∷ events_on z b E) (events_on z b E)) test ∙ same
      skips test false = same

      of_key : family_of u.key ≡ family → bucket_of z e.key ≡ (home_of d.layout u.key).bucket
      of_key inside =
          ap (bucket_of z) its.1.key ∙ ap (λ g. bucket_of (sizes_in d.layout g) (words_of u.key)) (sym inside)

      go : (s : Bool) → same_family family (family_of u.key) ≡ s
          → (((b == (home_of d.layout u.key).bucket) ≡ true) × (b ≡ (home_of d.layout u.key).bucket))
          ⊎ (((b == (home_of d.layout u.key).bucket) ≡ false) × (b ≢ (home_of d.layout u.key).bucket))
          → events_on z b (cond (worker_of d n (flow_of_reading reading) == w) (if s then e ∷ E else E) E)
          ≡ (if s && (b == (home_of d.layout u.key).bucket) then e ∷ R else R)
      go false is at = stays (worker_of d n (flow_of_reading reading) == w)
      go true is (inl (test, here)) =
          let inside : family_of u.key ≡ family = sym (families_are_one family (family_of u.key) is) in
          let its_bucket : bucket_of z e.key ≡ b = of_key inside ∙ sym here in
          let its_home : home_of d.layout f.0.key ≡ home =
          ap (home_of d.layout) f.2 ∙ key_home u.key inside (ap (bucket_of z) (sym its.1.key) ∙ its_bucket) in
          let mine : (worker_of d n (flow_of_reading reading) == w) ≡ true =
          eq-eqb (worker_of d n (flow_of_reading reading)) w (ap (worker_of d n) f.1 ∙ own.each n f.0 its_home) in
          let hit : (bucket_of z e.key == b) ≡ true = eq-eqb (bucket_of z e.key) b its_bucket in
          ap (λ t. events_on z b (cond t (e ∷ E) E)) mine
          ∙ (ap (λ t. cond t (e ∷ events_on z b E) (events_on z b E)) hit
          ∙ (ap (λ es. e ∷ es) same ∙ ap (λ t. if t then e ∷ R else R) (sym test)))
      go true is (inr (test, apart)) =
          let inside : family_of u.key ≡ family = sym (families_are_one family (family_of u.key) is) in
          let miss : (bucket_of z e.key == b) ≡ false = elim (eqb_tells (bucket_of z e.key) b) [
            | inl (hit, here) ↦ absurd (apart (sym here ∙ of_key inside))
            | inr (miss, _) ↦ miss
          ] in
          skips miss (worker_of d n (flow_of_reading reading) == w) ∙ ap (λ t. if t then e ∷ R else R) (sym test)

  -- a removal by the bucket's worker
  one_removed : (r : Removal) (E R : List Event) → IsByOwner d r → events_on z b E ≡ R
      → events_on z b (cond (same_family family r.family && (r.worker == w)) (r.event ∷ E) E)
      ≡ (if same_home home (removed_from d.layout r) then r.event ∷ R else R)
  one_removed r E R by same = go (same_family family r.family) refl (eqb_tells b (removed_from d.layout r).bucket)
    where
      in_bucket : (t : Bool) → (bucket_of z r.event.key == b) ≡ false → events_on z b (cond t (r.event ∷ E) E) ≡ R
      in_bucket true test = ap (λ s. cond s (r.event ∷ events_on z b E) (events_on z b E)) test ∙ same
      in_bucket false test = same

      of_key : r.family ≡ family → bucket_of z r.event.key ≡ (removed_from d.layout r).bucket
      of_key inside = ap (λ g. bucket_of (sizes_in d.layout g) r.event.key) (sym inside)

      go : (s : Bool) → same_family family r.family ≡ s
          → (((b == (removed_from d.layout r).bucket) ≡ true) × (b ≡ (removed_from d.layout r).bucket))
          ⊎ (((b == (removed_from d.layout r).bucket) ≡ false) × (b ≢ (removed_from d.layout r).bucket))
          → events_on z b (cond (s && (r.worker == w)) (r.event ∷ E) E)
          ≡ (if s && (b == (removed_from d.layout r).bucket) then r.event ∷ R else R)
      go false is at = same
      go true is (inl (test, here)) =
          let inside : r.family ≡ family = sym (families_are_one family r.family is) in
          let its_bucket : bucket_of z r.event.key ≡ b = of_key inside ∙ sym here in
          let mine : (r.worker == w) ≡ true = eq-eqb r.worker w (by ∙ (ap (λ k. k % d.workers) (sym here) ∙ own.number)) in
          let hit : (bucket_of z r.event.key == b) ≡ true = eq-eqb (bucket_of z r.event.key) b its_bucket in
          ap (λ t. events_on z b (cond t (r.event ∷ E) E)) mine
          ∙ (ap (λ t. cond t (r.event ∷ events_on z b E) (events_on z b E)) hit
          ∙ (ap (λ es. r.event ∷ es) same ∙ ap (λ t. if t then r.event ∷ R else R) (sym test)))
      go true is (inr (test, apart)) =
          let inside : r.family ≡ family = sym (families_are_one family r.family is) in
          let miss : (bucket_of z r.event.key == b) ≡ false = elim (eqb_tells (bucket_of z r.event.key) b) [
            | inl (hit, here) ↦ absurd (apart (sym here ∙ of_key inside))
            | inr (miss, _) ↦ miss
          ] in
          in_bucket (r.worker == w) miss ∙ ap (λ t. if t then r.event ∷ R else R) (sym test)

  its_events : (n : ℕ) (steps : List Step) → AreAsked times (packets_in steps) → All (IsByOwner d) (removals_in steps)
      → events_on z b (events_by d family w n steps) ≡ steps_at d.layout home steps
  its_events n [] asked by = ap (events_on z b) (events_by-nil d family w n)
  its_events n (Removes r ∷ steps) asked by =
      ap (events_on z b) (events_by-removes d family w n r steps)
      ∙ one_removed r (events_by d family w n steps) (steps_at d.layout home steps)
      (All-head (IsByOwner d) r (removals_in steps) by)
      (its_events n steps asked (All-tail (IsByOwner d) r (removals_in steps) by))
  its_events n (Judges j ∷ steps) asked by =
      ap (events_on z b) (events_by-judges d family w n j steps)
      ∙ one_more n j.reading j.asked (events_by d family w (n + 1) steps) (steps_at d.layout home steps)
      (All-head (IsAsked times) j (packets_in steps) asked)
      (its_events (n + 1) steps (All-tail (IsAsked times) j (packets_in steps) asked) by)

  module _ (steps : List Step) (v : View) (recorded : AreRecorded d family steps v)
      (asked : AreAsked times (packets_in steps)) (by : All (IsByOwner d) (removals_in steps)) (inside : b < buckets z) where
    -- a call on the bucket is in the owner's record
    owner_of_call : (i k : ℕ) (r : Record) (c : Call) → get_elem? v.records i ≡ some r → get_elem? r.calls k ≡ some c
        → c.bucket ≡ b → i ≡ w
    owner_of_call i k r c at_i at_k is =
        let at_bucket : bucket_of z c.key ≡ b = (legal_call z v i k r c recorded.lawful at_i at_k).key.home ∙ is in
        elim (step_of_event d family times i 0 steps asked by k (event_of c)
        (ap (λ es. get_elem? es k) (sym (recorded.each i r at_i)) ∙ after_map event_of r.calls k c at_k)) [
          | inl f ↦ sym f.dealt ∙ own.each f.number f.flow (key_home f.flow.key f.inside (ap (bucket_of z) (sym f.key) ∙ at_bucket))
          | inr f ↦ sym f.by ∙ (f.own ∙ (ap (λ n. n % d.workers) (ap (λ g. bucket_of (sizes_in d.layout g) f.removal.event.key) f.inside
              ∙ (ap (λ (x : Event). bucket_of z x.key) f.event ∙ at_bucket)) ∙ own.number))
        ]

    one_writer : (r : Record) → get_elem? v.records w ≡ some r → IsOneWriter v.known b r.number
    one_writer r at n x at_n =
        let m = recorded.told.made b inside n x at_n in
        let has : HasWrite m.1.calls b (n + 1) = recorded.lawful.lawful.own m.0 b n m.1 x m.2 inside at_n (sym m.3) in
        let place : m.0 ≡ w = owner_of_call m.0 has.0 m.1 has.1 m.2 has.2 has.3 in
        let same : m.1 ≡ r = some-injective m.1 r (sym m.2 ∙ (ap (get_elem? v.records) place ∙ at)) in
        sym m.3 ∙ ap (λ (y : Record). y.number) same

    -- the events lead to the map that is known
    pub runs_at : (writes : ℕ) × IsRun (bounds_in d.layout family) empty 0 (steps_at d.layout home steps) (map_now v b) writes
    runs_at =
        let r = there v.records w (let few = own.few in let count = recorded.count in omega arith) in
        let run = one_map z v w b r.0 recorded.lawful r.1 inside (one_writer r.0 r.1) in
        let its : map event_of (calls_on b r.0.calls) ≡ steps_at d.layout home steps
        = on_bucket z b r.0.calls (λ k c at. (legal_call z v w k r.0 c recorded.lawful r.1 at).key.home)
        ∙ (ap (events_on z b) (recorded.each w r.0 r.1) ∙ its_events 0 steps asked by) in
        let start : opening_at v.known b ≡ empty = ap (λ openings. opening_in openings b) recorded.openings in (
          length (known_at v.known b),
          subst (λ es. IsRun (bounds_of z) empty 0 es (map_now v b) (length (known_at v.known b))) its
              (subst (λ m. IsRun (bounds_of z) m 0 (map event_of (calls_on b r.0.calls)) (map_now v b)
              (length (known_at v.known b))) start run),
        )
