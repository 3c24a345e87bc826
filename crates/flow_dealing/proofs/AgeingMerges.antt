-- What all workers did, in one order of steps.
use Rattle.std.proofs.Common.{◌≡◌, ◌≢◌, ◌∙◌, ◌+◌, ◌<◌, ◌≤◌, ℕ, zero, suc, Bool, true, false, cond, List, [], ◌∷◌, length, map, Option, Some, None, ap, refl, sym, subst, arith, inl, inr}
use Rattle.std.specs.Prelude.{if◌then◌else◌, ◌==◌, ◌&&◌, slice_get}
use Rattle.std.specs.List.{All}
use Rattle.std.proofs.lemmas.Bool.{cases_lt, eq-eqb}
use Rattle.std.proofs.lemmas.Bool.Decides.{eqb_tells}
use Rattle.std.proofs.lemmas.List.Elements.{All-cons, All-head, All-nil, All-tail}
use lib.ListN.{get_elem?}
use mathlib.Core.Option.{some, some-ne-none}
use Rattle.packet_view.specs.Captures.{PacketFacts}
use Rattle.packet_view.specs.Frames as frames
use Rattle.packet_view.specs.declared.tuple.Family.{Family}
use Rattle.acl_policy.specs.Policies.{PolicyFacts, section_of}
use Rattle.bihash_words.specs.Maps.{Event}
use Rattle.bihash_rule.specs.Histories.{event_of}
use Rattle.session_state.specs.declared.timeouts.Timeouts.{Timeouts}
use Rattle.session_state.specs.declared.verdict.Verdict.{Verdict}
use Rattle.flow_filter.specs.Ageing.{Judges, NeverFall, Removal, Removes, Step, moment_of, moment_of_reading, packets_in, removals_in}
use Rattle.flow_filter.specs.Readings.{AreReadings, Framed, IsReading, IsReadingOf, Reading}
use Rattle.session_state.specs.declared.verdict.Verdict.TheVariants as verdict
use Rattle.flow_filter.specs.Judged.{readings_of}
use Rattle.flow_filter.specs.OneThread.{same_family}
use Rattle.flow_dealing.specs.Dealings.{Deal, flow_of_reading, flow_of_frame, worker_of}
use Rattle.flow_dealing.specs.Traces.{AreFrames, Item, events_of, judged_of, numbers_from}
use Rattle.flow_dealing.specs.AgeingTraces.{Aged, Ages, AreInOrder, Deed, Takes, aged_in, calls_by, items_in, removal_by}
use Rattle.flow_dealing.specs.WorkerRecords.{add_in, events_by}
use Rattle.flow_dealing.proofs.DealtEvents.{IsOwn, IsSaid, events_by-judges, events_by-nil, events_by-removes, events_of_call, next_placed, numbers-cons, numbers-nil, numbers_of, worker_few}

-- ---- Moments, and places in the order

pub never_fall_from : (a b : ℕ) (moments : List (Option ℕ)) → a ≤ b → NeverFall b moments → NeverFall a moments
never_fall_from a b [] less fall = tt
never_fall_from a b (None ∷ moments) less fall = never_fall_from a b moments less fall
never_fall_from a b (Some moment ∷ moments) less fall = let more = fall.0 in (omega arith, fall.1)

pub order_from : (n a b : ℕ) (deeds : List Deed) → a ≤ b → AreInOrder n b deeds → AreInOrder n a deeds
order_from n a b [] less order = tt
order_from n a b (Takes i ∷ deeds) less order = let more = order.0 in (omega arith, order.1)
order_from n a b (Ages r ∷ deeds) less order = let more = order.0 in (omega arith, order.1, order.2)

-- an item doesn't stand before the place that deeds begin with
item_late : (n b m : ℕ) (ms : List ℕ) (deeds : List Deed) → AreInOrder n b deeds → numbers_of (items_in deeds) ≡ m ∷ ms → b ≤ m
item_late n b m ms [] order is = let f : ⊥ = cc in absurd f
item_late n b m ms (Takes i ∷ deeds) order is =
    let whole : i.packet ∷ numbers_of (items_in deeds) ≡ m ∷ ms = is in
    let e : i.packet ≡ m = cc in
    let late = order.0 in
    omega arith
item_late n b m ms (Ages a ∷ deeds) order is =
    let late = order.0 in let more = item_late n a.behind m ms deeds order.2 is in omega arith

number_late : (d : Deal) (w at m : ℕ) (ms : List ℕ) (views : List frames.FrameFacts) → numbers_from d w at views ≡ m ∷ ms → at ≤ m
number_late d w at m ms [] is = let e : [] ≡ m ∷ ms = sym (numbers-nil d w at) ∙ is in let f : ⊥ = cc in absurd f
number_late d w at m ms (view ∷ views) is =
    go (worker_of d at (flow_of_frame view) == w) (number_late d w (at + 1) m ms views) (sym (numbers-cons d w at view views) ∙ is)
  where
    go : (t : Bool) → (numbers_from d w (at + 1) views ≡ m ∷ ms → at + 1 ≤ m)
        → cond t (at ∷ numbers_from d w (at + 1) views) (numbers_from d w (at + 1) views) ≡ m ∷ ms → at ≤ m
    go true rest here = let e : at ≡ m = cc in omega arith
    go false rest later = let more = rest later in omega arith

-- ---- Tests that choose events

chosen : (s t : Bool) (x y : List Event) → t ≡ true → cond (s && t) x y ≡ cond s x y
chosen true t x y is = ap (λ b. cond b x y) is
chosen false t x y is = refl

unchosen : (s t : Bool) (x y : List Event) → t ≡ false → cond (s && t) x y ≡ y
unchosen true t x y is = ap (λ b. cond b x y) is
unchosen false t x y is = refl

events_of_aged : (family : Family) (a : Aged) (deeds : List Deed)
    → map event_of (calls_by family (Ages a ∷ deeds))
    ≡ cond (same_family family a.family) (event_of a.call ∷ map event_of (calls_by family deeds))
    (map event_of (calls_by family deeds))
events_of_aged family a deeds = go (same_family family a.family)
  where
    go : (s : Bool) → map event_of (if s then a.call ∷ calls_by family deeds else calls_by family deeds)
        ≡ cond s (event_of a.call ∷ map event_of (calls_by family deeds)) (map event_of (calls_by family deeds))
    go true = refl
    go false = refl

-- no removal of this place comes first
abbrev IsClear : ℕ → List Deed → Type 0
IsClear at [] = Unit {0}
IsClear at (Takes i ∷ deeds) = Unit {0}
IsClear at (Ages a ∷ deeds) = at < a.behind

-- A removal that `Q` is said of is one that `P` is said of. A clock, where there is one, has the moments of packets between two
-- of its own, and those of removals at one.
module _ (d : Deal) (times : Timeouts) (policy : PolicyFacts) (packets : List PacketFacts) (verdicts : List Verdict)
    (K : Type 0) (clock : K → ℕ → ℕ) (keeps : (kt : K) (k : ℕ) (packet : PacketFacts) → slice_get packets k ≡ Some packet
    → (clock kt k ≤ packet.moment) × (packet.moment ≤ clock kt (k + 1)))
    (Q : ℕ → Aged → Type 0) (timed_as : (kt : K) (w : ℕ) (a : Aged) → Q w a → a.moment ≡ clock kt a.behind)
    (P : Removal → Type 0) (gives : (w : ℕ) (a : Aged) → Q w a → P (removal_by w a)) where
  abbrev IsItsOwn : ℕ → Item → Type 0
  IsItsOwn w i = IsOwn d times policy packets verdicts w i

  abbrev IsSaidOf : Item → Type 0
  IsSaidOf i = IsSaid d times policy packets verdicts i

  -- what is left of a worker's deeds from a packet on
  pub record IsLeftOf (w at : ℕ) (views : List frames.FrameFacts) (deeds : List Deed) : Type 0 where
    pub numbers : numbers_of (items_in deeds) ≡ numbers_from d w at views
    pub own : All (IsItsOwn w) (items_in deeds)
    pub aged : All (Q w) (aged_in deeds)
    pub order : AreInOrder (length packets) at deeds

  abbrev AreLeft : ℕ → List frames.FrameFacts → (ℕ → List Deed) → Type 0
  AreLeft at views trace = (w : ℕ) → w < d.workers → IsLeftOf w at views (trace w)

  -- the events of each worker's deeds are its own of the steps
  abbrev AreDealtIn : (ℕ → List Deed) → ℕ → List Step → Type 0
  AreDealtIn trace at steps = (family : Family) (w : ℕ) → w < d.workers
      → map event_of (calls_by family (trace w)) ≡ events_by d family w at steps

  -- the deeds of all workers but the first of one's
  abbrev but_first : (ℕ → List Deed) → ℕ → List Deed → ℕ → List Deed
  but_first trace worker rest w = cond (worker == w) rest (trace w)

  -- ---- Removals behind so many packets

  popped : (at worker : ℕ) (a : Aged) (rest : List Deed) (trace : ℕ → List Deed) (steps : List Step)
      → trace worker ≡ Ages a ∷ rest → AreDealtIn (but_first trace worker rest) at steps
      → AreDealtIn trace at (Removes (removal_by worker a) ∷ steps)
  popped at worker a rest trace steps split more family w few = elim (eqb_tells worker w) [
    | inl (test, mine) ↦
        let after : map event_of (calls_by family rest) ≡ E =
        sym (ap (λ b. map event_of (calls_by family (cond b rest (trace w)))) test) ∙ more family w few in
        ap (λ k. map event_of (calls_by family (trace k))) (sym mine)
        ∙ (ap (λ x. map event_of (calls_by family x)) split
        ∙ (events_of_aged family a rest
        ∙ (ap (λ es. cond (same_family family a.family) (event_of a.call ∷ es) es) after
        ∙ (sym (chosen (same_family family a.family) (worker == w) (event_of a.call ∷ E) E test)
        ∙ sym (events_by-removes d family w at (removal_by worker a) steps)))))
    | inr (test, other) ↦
        sym (ap (λ b. map event_of (calls_by family (cond b rest (trace w)))) test) ∙ (more family w few
        ∙ (sym (unchosen (same_family family a.family) (worker == w) (event_of a.call ∷ E) E test)
        ∙ sym (events_by-removes d family w at (removal_by worker a) steps)))
  ]
    where
      E : List Event
      E = events_by d family w at steps

  -- the steps that come first, and what is left behind them, where these workers have no removal of this place left
  record Flushed (at : ℕ) (views : List frames.FrameFacts) (trace : ℕ → List Deed) (upto : ℕ) : Type 0 where
    ahead : List Step → List Step
    same : (steps : List Step) → packets_in (ahead steps) ≡ packets_in steps
    given : (steps : List Step) → All P (removals_in steps) → All P (removals_in (ahead steps))
    timed : (kt : K) (steps : List Step) → NeverFall (clock kt at) (map moment_of steps)
        → NeverFall (clock kt at) (map moment_of (ahead steps))
    left : ℕ → List Deed
    each : AreLeft at views left
    clear : (w : ℕ) → w < upto → IsClear at (left w)
    back : (steps : List Step) → AreDealtIn left at steps → AreDealtIn trace at (ahead steps)

  left_popped : (at worker : ℕ) (views : List frames.FrameFacts) (a : Aged) (rest : List Deed) (trace : ℕ → List Deed)
      → trace worker ≡ Ages a ∷ rest → AreLeft at views trace → AreLeft at views (but_first trace worker rest)
  left_popped at worker views a rest trace split left w few = elim (eqb_tells worker w) [
    | inl (test, mine) ↦ subst (λ b. IsLeftOf w at views (cond b rest (trace w))) (sym test)
        (go (subst (IsLeftOf w at views) (ap trace (sym mine) ∙ split) (left w few)))
    | inr (test, other) ↦ subst (λ b. IsLeftOf w at views (cond b rest (trace w))) (sym test) (left w few)
  ]
    where
      go : IsLeftOf w at views (Ages a ∷ rest) → IsLeftOf w at views rest
      go l = record {
        numbers = l.numbers;
        own = l.own;
        aged = All-tail (Q w) a (aged_in rest) l.aged;
        order = order_from (length packets) at a.behind rest l.order.0 l.order.2;
      }

  -- nothing is to be removed by this worker
  stays : (at worker : ℕ) (views : List frames.FrameFacts) (deeds : List Deed) (trace : ℕ → List Deed) → trace worker ≡ deeds
      → AreLeft at views trace → ((w : ℕ) → w < worker → IsClear at (trace w)) → IsClear at deeds
      → Flushed at views trace (suc worker)
  stays at worker views deeds trace is left clear here = record {
    ahead = λ steps. steps;
    same = λ steps. refl;
    given = λ steps all. all;
    timed = λ kt steps fall. fall;
    left = trace;
    each = left;
    clear = λ w inside. elim (eqb_tells worker w) [
      | inl (test, mine) ↦ subst (λ k. IsClear at (trace k)) mine (subst (IsClear at) (sym is) here)
      | inr (test, other) ↦ elim (cases_lt w worker) [
        | inl less ↦ clear w less
        | inr more ↦ absurd (other (omega arith))
      ]
    ];
    back = λ steps dealt. dealt;
  }

  flush_deeds : (at worker : ℕ) (views : List frames.FrameFacts) → worker < d.workers → (deeds : List Deed)
      → (trace : ℕ → List Deed) → trace worker ≡ deeds → AreLeft at views trace
      → ((w : ℕ) → w < worker → IsClear at (trace w)) → Flushed at views trace (suc worker)
  flush_deeds at worker views few [] trace is left clear = stays at worker views [] trace is left clear tt
  flush_deeds at worker views few (Takes i ∷ deeds) trace is left clear =
      stays at worker views (Takes i ∷ deeds) trace is left clear tt
  flush_deeds at worker views few (Ages a ∷ deeds) trace is left clear = elim (cases_lt at a.behind) [
    | inl less ↦ stays at worker views (Ages a ∷ deeds) trace is left clear less
    | inr more ↦
        let l : IsLeftOf worker at views (Ages a ∷ deeds) = subst (IsLeftOf worker at views) is (left worker few) in
        let late = l.order.0 in
        let here : a.behind ≡ at = omega arith in
        let q : Q worker a = All-head (Q worker) a (aged_in deeds) l.aged in
        let f =
        flush_deeds at worker views few deeds (but_first trace worker deeds)
        (ap (λ b. cond b deeds (trace worker)) (eq-eqb worker worker refl))
        (left_popped at worker views a deeds trace is left)
        (λ w inside. elim (eqb_tells worker w) [
          | inl (test, mine) ↦ absurd (omega arith)
          | inr (test, other) ↦ subst (λ b. IsClear at (cond b deeds (trace w))) (sym test) (clear w inside)
        ]) in
        record {
          ahead = λ steps. Removes (removal_by worker a) ∷ f.ahead steps;
          same = f.same;
          given = λ steps all. All-cons P (removal_by worker a) (removals_in (f.ahead steps)) (gives worker a q) (f.given steps all);
          timed = λ kt steps fall.
              let same : a.moment ≡ clock kt at = timed_as kt worker a q ∙ ap (clock kt) here in (
                omega arith,
                subst (λ m. NeverFall m (map moment_of (f.ahead steps))) (sym same) (f.timed kt steps fall),
              );
          left = f.left;
          each = f.each;
          clear = f.clear;
          back = λ steps dealt. popped at worker a deeds trace (f.ahead steps) is (f.back steps dealt);
        }
  ]

  flush : (at : ℕ) (views : List frames.FrameFacts) (n : ℕ) → n ≤ d.workers → (trace : ℕ → List Deed) → AreLeft at views trace
      → Flushed at views trace n
  flush at views zero few trace left = record {
    ahead = λ steps. steps;
    same = λ steps. refl;
    given = λ steps all. all;
    timed = λ kt steps fall. fall;
    left = trace;
    each = left;
    clear = λ w inside. absurd (omega arith);
    back = λ steps dealt. dealt;
  }
  flush at views (suc n) few trace left =
      let f = flush at views n (omega arith) trace left in
      let g = flush_deeds at n views (omega arith) (f.left n) f.left refl f.each f.clear in
      record {
        ahead = λ steps. f.ahead (g.ahead steps);
        same = λ steps. f.same (g.ahead steps) ∙ g.same steps;
        given = λ steps all. f.given (g.ahead steps) (g.given steps all);
        timed = λ kt steps fall. f.timed kt (g.ahead steps) (g.timed kt steps fall);
        left = g.left;
        each = g.each;
        clear = g.clear;
        back = λ steps dealt. f.back (g.ahead steps) (g.back steps dealt);
      }

  -- ---- The next packet

  -- the first of a worker's items, where one comes
  record FirstOf (w at : ℕ) (views : List frames.FrameFacts) (deeds : List Deed) : Type 0 where
    item : Item
    rest : List Deed
    split : deeds ≡ Takes item ∷ rest
    here : item.packet ≡ at
    own : IsItsOwn w item
    left : IsLeftOf w (at + 1) views rest

  first_of : (w at : ℕ) (view : frames.FrameFacts) (views : List frames.FrameFacts) (deeds : List Deed)
      → IsLeftOf w at (view ∷ views) deeds → IsClear at deeds → worker_of d at (flow_of_frame view) ≡ w → FirstOf w at views deeds
  first_of w at view views deeds left clear mine = go deeds left clear
    where
      numbers : numbers_from d w at (view ∷ views) ≡ at ∷ numbers_from d w (at + 1) views
      numbers = numbers-cons d w at view views
          ∙ ap (λ t. cond t (at ∷ numbers_from d w (at + 1) views) (numbers_from d w (at + 1) views))
          (eq-eqb (worker_of d at (flow_of_frame view)) w mine)

      go : (ds : List Deed) → IsLeftOf w at (view ∷ views) ds → IsClear at ds → FirstOf w at views ds
      go [] l clear =
          let clash : [] ≡ at ∷ numbers_from d w (at + 1) views = l.numbers ∙ numbers in let f : ⊥ = cc in absurd f
      go (Ages a ∷ ds) l less =
          let late = item_late (length packets) a.behind at (numbers_from d w (at + 1) views) ds l.order.2 (l.numbers ∙ numbers) in
          absurd (omega arith)
      go (Takes i ∷ ds) l clear =
          let same : i.packet ∷ numbers_of (items_in ds) ≡ at ∷ numbers_from d w (at + 1) views = l.numbers ∙ numbers in
          let head : i.packet ≡ at = cc in
          let tail : numbers_of (items_in ds) ≡ numbers_from d w (at + 1) views = cc in
          record {
            item = i;
            rest = ds;
            split = refl;
            here = head;
            own = All-head (IsItsOwn w) i (items_in ds) l.own;
            left = record {
              numbers = tail;
              own = All-tail (IsItsOwn w) i (items_in ds) l.own;
              aged = l.aged;
              order = subst (λ n. AreInOrder (length packets) (n + 1) ds) head l.order.1;
            };
          }

  passed_by : (w at : ℕ) (view : frames.FrameFacts) (views : List frames.FrameFacts) (deeds : List Deed)
      → IsLeftOf w at (view ∷ views) deeds → IsClear at deeds → worker_of d at (flow_of_frame view) ≢ w
      → IsLeftOf w (at + 1) views deeds
  passed_by w at view views deeds left clear other = record {
    numbers = left.numbers ∙ past;
    own = left.own;
    aged = left.aged;
    order = go deeds (left.numbers ∙ past) left.order clear;
  }
    where
      past : numbers_from d w at (view ∷ views) ≡ numbers_from d w (at + 1) views
      past = numbers-cons d w at view views
          ∙ elim (eqb_tells (worker_of d at (flow_of_frame view)) w) [
            | inl (test, same) ↦ absurd (other same)
            | inr (test, apart) ↦ ap (λ t.
                cond t (at ∷ numbers_from d w (at + 1) views) (numbers_from d w (at + 1) views)) test
          ]

      go : (ds : List Deed) → numbers_of (items_in ds) ≡ numbers_from d w (at + 1) views → AreInOrder (length packets) at ds
          → IsClear at ds → AreInOrder (length packets) (at + 1) ds
      go [] is order clear = tt
      go (Takes i ∷ ds) is order clear =
          let late = number_late d w (at + 1) i.packet (numbers_of (items_in ds)) views (sym is) in (omega arith, order.1)
      go (Ages a ∷ ds) is order less = (omega arith, order.1, order.2)

  left_but_first : (at : ℕ) (view : frames.FrameFacts) (views : List frames.FrameFacts) (trace : ℕ → List Deed)
      (worker : ℕ) → worker_of d at (flow_of_frame view) ≡ worker → (f : FirstOf worker at views (trace worker))
      → AreLeft at (view ∷ views) trace → ((w : ℕ) → w < d.workers → IsClear at (trace w))
      → AreLeft (at + 1) views (but_first trace worker f.rest)
  left_but_first at view views trace worker is f left clear w few = elim (eqb_tells worker w) [
    | inl (test, mine) ↦ subst (λ b. IsLeftOf w (at + 1) views (cond b f.rest (trace w))) (sym test)
        (subst (λ k. IsLeftOf k (at + 1) views f.rest) mine f.left)
    | inr (test, other) ↦ subst (λ b. IsLeftOf w (at + 1) views (cond b f.rest (trace w))) (sym test)
        (passed_by w at view views (trace w) (left w few) (clear w few) (λ e. other (sym is ∙ e)))
  ]

  -- each worker's events, with those of the packet before them
  dealt_before : (at worker : ℕ) (item : Item) (rest : List Deed) (steps : List Step) (trace : ℕ → List Deed)
      → trace worker ≡ Takes item ∷ rest → worker_of d at (flow_of_reading item.reading) ≡ worker
      → AreDealtIn (but_first trace worker rest) (at + 1) steps → AreDealtIn trace at (Judges (judged_of item) ∷ steps)
  dealt_before at worker item rest steps trace split is more family w few = elim (eqb_tells worker w) [
    | inl (test, mine) ↦
        let has : (worker_of d at (flow_of_reading item.reading) == w) ≡ true = ap (λ k. k == w) is ∙ test in
        let after : map event_of (calls_by family rest) ≡ E =
        sym (ap (λ b. map event_of (calls_by family (cond b rest (trace w)))) test) ∙ more family w few in
        ap (λ k. map event_of (calls_by family (trace k))) (sym mine)
        ∙ (ap (λ x. map event_of (calls_by family x)) split
        ∙ (events_of_call family item.asked (calls_by family rest)
        ∙ (ap (add_in family (events_of item.asked)) after
        ∙ sym (ap (λ b. cond b A E) has))))
        ∙ sym (events_by-judges d family w at (judged_of item) steps)
    | inr (test, other) ↦
        let hasnt : (worker_of d at (flow_of_reading item.reading) == w) ≡ false = ap (λ k. k == w) is ∙ test in
        sym (ap (λ b. map event_of (calls_by family (cond b rest (trace w)))) test) ∙ (more family w few
        ∙ sym (ap (λ b. cond b A E) hasnt))
        ∙ sym (events_by-judges d family w at (judged_of item) steps)
  ]
    where
      E : List Event
      E = events_by d family w (at + 1) steps

      A : List Event
      A = add_in family (events_of item.asked) E

  -- a packet between two moments of the clock
  keeps_on : (kt : K) (at : ℕ) (p : PacketFacts) (reading : Reading) (moments : List (Option ℕ)) → slice_get packets at ≡ Some p
      → IsReading policy p reading → NeverFall (clock kt (at + 1)) moments
      → NeverFall (clock kt at) (moment_of_reading reading ∷ moments)
  keeps_on kt at p reading moments there read fall = go read.0 read.2
    where
      kept : (clock kt at ≤ p.moment) × (p.moment ≤ clock kt (at + 1))
      kept = keeps kt at p there

      unmoved : (said : Verdict) → reading ≡ Framed said → NeverFall (clock kt at) (moment_of_reading reading ∷ moments)
      unmoved said is = let from = kept.0 in let to = kept.1 in
          subst (λ (r : Reading). NeverFall (clock kt at) (moment_of_reading r ∷ moments)) (sym is)
          (never_fall_from (clock kt at) (clock kt (at + 1)) moments (omega arith) fall)

      go : (view : frames.FrameFacts) → IsReadingOf (section_of p.interface policy) p.moment view reading
          → NeverFall (clock kt at) (moment_of_reading reading ∷ moments)
      go frames.NotIp is = unmoved verdict.NotIp is
      go frames.Malformed is = unmoved verdict.Malformed is
      go frames.Short is = unmoved verdict.Short is
      go (frames.Ip direction tuple) is =
          subst (λ (r : Reading). NeverFall (clock kt at) (moment_of_reading r ∷ moments)) (sym is.2)
          (kept.0, never_fall_from p.moment (clock kt (at + 1)) moments kept.1 fall)

  -- ---- All steps

  -- the items of the packets from one on, in their order, and the steps of all workers' deeds
  pub record AreStepped (at : ℕ) (ps : List PacketFacts) (trace : ℕ → List Deed) : Type 0 where
    pub merged : List Item
    pub each : All IsSaidOf merged
    pub read : AreReadings policy ps (readings_of (map judged_of merged))
    pub placed : (k : ℕ) (i : Item) → get_elem? merged k ≡ some i → i.packet ≡ at + k
    pub steps : List Step
    pub packets_are : packets_in steps ≡ map judged_of merged
    pub removed : All P (removals_in steps)
    pub dealt : AreDealtIn trace at steps
    pub in_time : (kt : K) → NeverFall (clock kt at) (map moment_of steps)

  pub step_all : (at : ℕ) (ps : List PacketFacts) (views : List frames.FrameFacts) (trace : ℕ → List Deed) → 0 < d.workers
      → AreFrames policy ps views → at + length ps ≡ length packets
      → ((k : ℕ) → slice_get packets (at + k) ≡ slice_get ps k) → AreLeft at views trace → AreStepped at ps trace
  step_all at [] [] trace some_worker seen count same left =
      let f = flush at [] d.workers (omega arith) trace left in
      record {
        merged = [];
        each = All-nil IsSaidOf;
        read = tt;
        placed = λ k i stands. absurd (some-ne-none i (sym stands));
        steps = f.ahead [];
        packets_are = f.same [];
        removed = f.given [] (All-nil P);
        dealt = f.back [] (λ family w few. ap (λ x. map event_of (calls_by family x))
            (nothing_left (f.left w) w (f.each w few) (f.clear w few)) ∙ sym (events_by-nil d family w at));
        in_time = λ kt. f.timed kt [] tt;
      }
    where
      nothing_left : (ds : List Deed) (w : ℕ) → IsLeftOf w at [] ds → IsClear at ds → ds ≡ []
      nothing_left [] w l clear = refl
      nothing_left (Takes i ∷ ds) w l clear =
          let none : i.packet ∷ numbers_of (items_in ds) ≡ [] = l.numbers ∙ numbers-nil d w at in let f : ⊥ = cc in absurd f
      nothing_left (Ages a ∷ ds) w l less = let last = l.order.1 in absurd (omega arith)
  step_all at [] (view ∷ views) trace some_worker seen count same left = absurd seen
  step_all at (p ∷ ps) [] trace some_worker seen count same left = absurd seen
  step_all at (p ∷ ps) (view ∷ views) trace some_worker seen count same left =
      let f = flush at (view ∷ views) d.workers (omega arith) trace left in
      let worker : ℕ = worker_of d at (flow_of_frame view) in
      let few = worker_few d at (flow_of_frame view) some_worker in
      let g = first_of worker at view views (f.left worker) (f.each worker few) (f.clear worker few) refl in
      let there : slice_get packets at ≡ Some p = (let e : at ≡ at + 0 = omega arith in ap (slice_get packets) e) ∙ same 0 in
      let read : IsReading policy p g.item.reading =
      subst (λ (q : PacketFacts). IsReading policy q g.item.reading)
      (this there g.item.packet g.own.of.packet g.here g.own.of.there) g.own.of.read in
      let more = step_all (at + 1) ps views (but_first f.left worker g.rest) some_worker seen.1 (omega arith)
      (λ k. ap (slice_get packets) (let e : at + 1 + k ≡ at + suc k = omega arith in e) ∙ same (suc k))
      (left_but_first at view views f.left worker refl g f.each f.clear) in
      let steps : List Step = Judges (judged_of g.item) ∷ more.steps in
      record {
        merged = g.item ∷ more.merged;
        each = All-cons IsSaidOf g.item more.merged g.own.is more.each;
        read = (read, more.read);
        placed = next_placed d times policy packets verdicts at g.item more.merged g.here more.placed;
        steps = f.ahead steps;
        packets_are = f.same steps ∙ ap (λ js. judged_of g.item ∷ js) more.packets_are;
        removed = f.given steps more.removed;
        dealt = f.back steps (dealt_before at worker g.item g.rest more.steps f.left g.split
            (ap (λ k. worker_of d k (flow_of_reading g.item.reading)) (sym g.here) ∙ g.own.of.dealt) more.dealt);
        in_time = λ kt. f.timed kt steps (keeps_on kt at p g.item.reading (map moment_of more.steps) there read (more.in_time kt));
      }
    where
      this : slice_get packets at ≡ Some p → (number : ℕ) (packet : PacketFacts) → number ≡ at
          → slice_get packets number ≡ Some packet → packet ≡ p
      this stands number packet here there =
          let both : Some p ≡ Some packet = sym stands ∙ (ap (slice_get packets) (sym here) ∙ there) in
          let e : packet ≡ p = cc in e
