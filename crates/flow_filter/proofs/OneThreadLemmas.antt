-- Packets that are judged one after the other are judged in one way.
use Rattle.std.proofs.Common.{◌≡◌, ◌∙◌, ◌+◌, ℕ, true, false, List, [], ◌∷◌, Option, Some, None, All, refl, sym, ap, ap₂, subst}
use Rattle.std.proofs.lemmas.List.Elements.{All-cons, All-head, All-nil, All-tail}
use Rattle.std.specs.Prelude.{if◌then◌else◌}
use Rattle.std.specs.FinMap.{get}
use Rattle.bihash_words.specs.Maps.{Bounds, Event, Pairs, IsEvent}
use Rattle.bihash_words.specs.Refusals.{IsNoRefusal}
use Rattle.bihash_words.specs.Runs.{IsRun, writes_of}
use Rattle.bihash_words.proofs.CallLemmas.{one_call, some_call}
use Rattle.session_state.specs.declared.timeouts.Timeouts.{Timeouts}
use Rattle.session_state.specs.Decisions.{decision_of}
use Rattle.packet_view.specs.Captures.{PacketFacts}
use Rattle.acl_policy.specs.Policies.{PolicyFacts}
use Rattle.session_state.specs.declared.verdict.Verdict.{Verdict}
use Rattle.flow_filter.specs.Readings.{AreReadings, Reading}
use Rattle.flow_filter.specs.Updates.{Update, update_of, words_of}
use Rattle.flow_filter.specs.Judged.{AreAsked, Asked, Asks, IsAsked, IsAskedBy, IsEventOf, Judged, Settled, WhereAsked, expired_for, readings_of, verdicts_on}
use Rattle.flow_filter.specs.OneThread.{AreVerdicts, HasPages, Home, IsHome, IsOneThread, Layout, nothing, add_event, bounds_in, events_at, home_of, same_home}
use Rattle.flow_filter.proofs.AskedLemmas.{asks_nothing, asks_once, of_asked}
use Rattle.flow_filter.proofs.ReadingLemmas.{one_readings, some_readings}
use Rattle.flow_filter.proofs.HomeLemmas.{homes_are_one, is_home, same_as_itself}

-- the bucket has this afterwards, and the others what they had
abbrev pub with : {X : Type 0} → (Home → X) → Home → X → Home → X
with of at x home = if same_home home at then x else of home

-- the events are a run of a map
abbrev pub Runs : Bounds → Pairs → ℕ → List Event → Type 0
Runs b m w events = (last : Pairs) × (writes : ℕ) × IsRun b m w events last writes

-- one thread, where the buckets held this and had changed so often
pub record IsThread (l : Layout) (times : Timeouts) (maps : Home → Pairs) (counts : Home → ℕ)
    (js : List Judged) : Type 0 where
  pub asked : AreAsked times js
  pub runs : (home : Home) → IsHome l home
      → Runs (bounds_in l home.family) (maps home) (counts home) (events_at l home js)
  pub paged : All HasPages js

-- what the buckets hold, and how often they changed, after an event of the bucket `at`
abbrev pub maps_after : (Home → Pairs) → Home → Pairs → Home → Pairs
maps_after maps at n = with maps at n

abbrev pub counts_after : (Home → ℕ) → Home → Event → Home → ℕ
counts_after counts at e = with counts at (counts at + writes_of e.reply)

-- a run of a bucket after an event that may be of it, with that event
before_run : (l : Layout) (home at : Home) (maps : Home → Pairs) (counts : Home → ℕ) (n : Pairs) (e : Event)
    (events : List Event) → IsEvent (bounds_in l at.family) (maps at) (counts at) e n
    → Runs (bounds_in l home.family) (maps_after maps at n home) (counts_after counts at e home) events
    → Runs (bounds_in l home.family) (maps home) (counts home) (if same_home home at then e ∷ events else events)
before_run l home at maps counts n e events step =
    elim (same_home home at) as (λ t. same_home home at ≡ t
    → Runs (bounds_in l home.family) (if t then n else maps home)
    (if t then counts at + writes_of e.reply else counts home) events
    → Runs (bounds_in l home.family) (maps home) (counts home) (if t then e ∷ events else events)) [
      | true ↦ λ same. subst (λ h. Runs (bounds_in l h.family) n (counts at + writes_of e.reply) events
          → Runs (bounds_in l h.family) (maps h) (counts h) (e ∷ events)) (sym (homes_are_one home at same))
          (λ run. (run.0, run.1, (n, step, run.2)))
      | false ↦ λ other rest. rest
    ] refl

-- a run of a bucket with an event that may be of it, after that event
pub after_run : (l : Layout) (home at : Home) (maps : Home → Pairs) (counts : Home → ℕ) (n : Pairs) (e : Event)
    (events : Home → List Event) → Runs (bounds_in l at.family) n (counts at + writes_of e.reply) (events at)
    → Runs (bounds_in l home.family) (maps home) (counts home)
    (if same_home home at then e ∷ events home else events home)
    → Runs (bounds_in l home.family) (maps_after maps at n home) (counts_after counts at e home) (events home)
after_run l home at maps counts n e events here =
    elim (same_home home at) as (λ t. same_home home at ≡ t
    → Runs (bounds_in l home.family) (maps home) (counts home) (if t then e ∷ events home else events home)
    → Runs (bounds_in l home.family) (if t then n else maps home)
    (if t then counts at + writes_of e.reply else counts home) (events home)) [
      | true ↦ λ same run. subst (λ h. Runs (bounds_in l h.family) n (counts at + writes_of e.reply) (events h))
          (sym (homes_are_one home at same)) here
      | false ↦ λ other run. run
    ] refl

-- packets judged on one thread with these readings
abbrev pub Thread : Layout → Timeouts → (Home → Pairs) → (Home → ℕ) → List Reading → Type 0
Thread l times maps counts readings = (js : List Judged) × (readings_of js ≡ readings) × IsThread l times maps counts js

-- the events on a bucket begin with the packet's where its key is of it
pub events_are : (l : Layout) (home : Home) (a : Asked Event) (j : Judged) (js : List Judged) → j.asked ≡ a
    → events_at l home (j ∷ js) ≡ add_event l home a (events_at l home js)
events_are l home a j js at = ap (λ a. add_event l home a (events_at l home js)) at

-- a packet without an update may stand in front of the others
pub thread_unasked : (l : Layout) (times : Timeouts) (maps : Home → Pairs) (counts : Home → ℕ) (j : Judged)
    (js : List Judged) → update_of times j.reading ≡ None → j.asked ≡ Settled → IsThread l times maps counts js
    → IsThread l times maps counts (j ∷ js)
thread_unasked l times maps counts j js none at thread = record {
  asked = All-cons (IsAsked times) j js (subst (IsAskedBy (update_of times j.reading)) (sym at) none) thread.asked;
  runs = λ home is.
      subst (Runs (bounds_in l home.family) (maps home) (counts home)) (sym (events_are l home Settled j js at))
      (thread.runs home is);
  paged = All-cons HasPages j js (subst (λ a. WhereAsked a (λ e. IsNoRefusal e.reply)) (sym at) tt) thread.paged;
}

-- so may a packet with this update and this event
pub thread_asked : (l : Layout) (times : Timeouts) (maps : Home → Pairs) (counts : Home → ℕ) (j : Judged)
    (js : List Judged) (u : Update) (e : Event) (n : Pairs) → update_of times j.reading ≡ Some u → j.asked ≡ Asks u e
    → IsEventOf u e → IsNoRefusal e.reply
    → IsEvent (bounds_in l (home_of l u.key).family) (maps (home_of l u.key)) (counts (home_of l u.key)) e n
    → IsThread l times (maps_after maps (home_of l u.key) n) (counts_after counts (home_of l u.key) e) js
    → IsThread l times maps counts (j ∷ js)
thread_asked l times maps counts j js u e n is at of paged step thread = record {
  asked = All-cons (IsAsked times) j js (subst (IsAskedBy (update_of times j.reading)) (sym at) (is, of)) thread.asked;
  runs = λ home in_table.
      subst (Runs (bounds_in l home.family) (maps home) (counts home))
      (sym (events_are l home (Asks u e) j js at))
      (before_run l home (home_of l u.key) maps counts n e (events_at l home js) step (thread.runs home in_table));
  paged = All-cons HasPages j js (subst (λ a. WhereAsked a (λ e. IsNoRefusal e.reply)) (sym at) paged) thread.paged;
}

one_more : (l : Layout) (times : Timeouts) (maps : Home → Pairs) (counts : Home → ℕ) (reading : Reading)
    (readings : List Reading) → ((maps : Home → Pairs) (counts : Home → ℕ) → Thread l times maps counts readings)
    → (u : Option Update) → update_of times reading ≡ u → Thread l times maps counts (reading ∷ readings)
one_more l times maps counts reading readings rest None none =
    let (js, same, thread) = rest maps counts in
    let j : Judged = record { reading = reading; asked = Settled } in
    (j ∷ js, ap (λ rs. reading ∷ rs) same, thread_unasked l times maps counts j js none refl thread)
one_more l times maps counts reading readings rest (Some u) is =
    let at = home_of l u.key in
    let (reply, recycling, n, paged, bears, step) =
    some_call (bounds_in l at.family) (maps at) (counts at) (words_of u.key) (decision_of u.patch)
    (expired_for u.patch) in
    let e : Event = record {
      key = words_of u.key;
      found = get (maps at) (words_of u.key);
      change = decision_of u.patch (get (maps at) (words_of u.key));
      reply = reply;
      recycling = recycling;
    } in
    let (js, same, thread) = rest (maps_after maps at n) (counts_after counts at e) in
    let j : Judged = record { reading = reading; asked = Asks u e } in (
      j ∷ js,
      ap (λ rs. reading ∷ rs) same,
      thread_asked l times maps counts j js u e n is refl (record { key = refl; change = refl; expiry = bears }) paged step
          thread,
    )

-- packets of each list of readings can be judged on one thread
pub some_thread : (l : Layout) (times : Timeouts) (readings : List Reading) (maps : Home → Pairs) (counts : Home → ℕ)
    → Thread l times maps counts readings
some_thread l times [] maps counts = (
  [],
  refl,
  record {
    asked = All-nil (IsAsked times);
    runs = λ home is. (maps home, counts home, (refl, refl));
    paged = All-nil HasPages;
  },
)
some_thread l times (reading ∷ readings) maps counts =
    one_more l times maps counts reading readings (some_thread l times readings) (update_of times reading) refl

-- the first of packets that are judged on one thread, with its event, and the packets after it
pub record IsFirst (l : Layout) (times : Timeouts) (maps : Home → Pairs) (counts : Home → ℕ) (u : Update) (j : Judged)
    (js : List Judged) : Type 0 where
  pub event : Event
  pub left : Pairs
  pub is : j.asked ≡ Asks u event
  pub of : IsEventOf u event
  pub paged : IsNoRefusal event.reply
  pub step : IsEvent (bounds_in l (home_of l u.key).family) (maps (home_of l u.key))
      (counts (home_of l u.key)) event left
  pub behind : IsThread l times (maps_after maps (home_of l u.key) left)
      (counts_after counts (home_of l u.key) event) js

pub first_asked : (l : Layout) (times : Timeouts) (maps : Home → Pairs) (counts : Home → ℕ) (u : Update) (j : Judged)
    (js : List Judged)
    → update_of times j.reading ≡ Some u → IsThread l times maps counts (j ∷ js) → IsFirst l times maps counts u j js
first_asked l times maps counts u j js is thread =
    let (e, at, of) =
    asks_once (update_of times j.reading) j.asked (All-head (IsAsked times) j js thread.asked) u is in
    let home : Home = home_of l u.key in
    let events : Home → List Event = λ h. events_at l h js in
    let runs : (h : Home) → IsHome l h
    → Runs (bounds_in l h.family) (maps h) (counts h) (add_event l h (Asks u e) (events h)) =
    λ h in_table. subst (Runs (bounds_in l h.family) (maps h) (counts h))
    (events_are l h (Asks u e) j js at) (thread.runs h in_table) in
    let (last, writes, (n, step, rest)) : Runs (bounds_in l home.family) (maps home) (counts home) (e ∷ events home) =
    subst (λ t. Runs (bounds_in l home.family) (maps home) (counts home) (if t then e ∷ events home else events home))
    (same_as_itself home) (runs home (is_home l u.key)) in
    record {
      event = e;
      left = n;
      is = at;
      of = of;
      paged = of_asked (λ e. IsNoRefusal e.reply) j.asked u e (All-head HasPages j js thread.paged) at;
      step = step;
      behind = record {
        asked = All-tail (IsAsked times) j js thread.asked;
        runs = λ h in_table. after_run l h home maps counts n e events (last, writes, rest) (runs h in_table);
        paged = All-tail HasPages j js thread.paged;
      };
    }

pub first_unasked : (l : Layout) (times : Timeouts) (maps : Home → Pairs) (counts : Home → ℕ) (j : Judged)
    (js : List Judged)
    → update_of times j.reading ≡ None → IsThread l times maps counts (j ∷ js)
    → (j.asked ≡ Settled) × IsThread l times maps counts js
first_unasked l times maps counts j js none thread =
    let at = asks_nothing (update_of times j.reading) j.asked (All-head (IsAsked times) j js thread.asked) none in (
      at,
      record {
        asked = All-tail (IsAsked times) j js thread.asked;
        runs = λ h in_table.
            subst (Runs (bounds_in l h.family) (maps h) (counts h)) (events_are l h Settled j js at)
            (thread.runs h in_table);
        paged = All-tail HasPages j js thread.paged;
      },
    )

same_judged : (j k : Judged) → j.reading ≡ k.reading → j.asked ≡ k.asked → j ≡ k
same_judged j k readings asked = ap₂ (λ r a. record { reading = r; asked = a }) readings asked

-- where both lists of the packets after are one, both lists are
one_by_update : (l : Layout) (times : Timeouts) (maps : Home → Pairs) (counts : Home → ℕ) (j k : Judged)
    (js ks : List Judged) → j.reading ≡ k.reading → (u : Option Update) → update_of times j.reading ≡ u
    → ((maps : Home → Pairs) (counts : Home → ℕ) → IsThread l times maps counts js → IsThread l times maps counts ks
    → js ≡ ks)
    → IsThread l times maps counts (j ∷ js) → IsThread l times maps counts (k ∷ ks) → (j ∷ js) ≡ (k ∷ ks)
one_by_update l times maps counts j k js ks same None none rest one two =
    let a = first_unasked l times maps counts j js none one in
    let b = first_unasked l times maps counts k ks (ap (update_of times) (sym same) ∙ none) two in
    ap₂ (λ x xs. x ∷ xs) (same_judged j k same (a.0 ∙ sym b.0)) (rest maps counts a.1 b.1)
one_by_update l times maps counts j k js ks same (Some u) is rest one two =
    let home : Home = home_of l u.key in
    let a = first_asked l times maps counts u j js is one in
    let b = first_asked l times maps counts u k ks (ap (update_of times) (sym same) ∙ is) two in
    let both =
    one_call (bounds_in l home.family) (maps home) a.left b.left (counts home) (decision_of u.patch)
    (expired_for u.patch) a.event b.event (a.of.key ∙ sym b.of.key) a.of.change b.of.change a.of.expiry b.of.expiry
    a.paged b.paged a.step b.step in
    let behind : IsThread l times (maps_after maps home a.left) (counts_after counts home a.event) ks =
    subst (λ n. IsThread l times (maps_after maps home n) (counts_after counts home a.event) ks) (sym both.1)
    (subst (λ e. IsThread l times (maps_after maps home b.left) (counts_after counts home e) ks)
    (sym both.0) b.behind) in
    ap₂ (λ x xs. x ∷ xs) (same_judged j k same (a.is ∙ ap (Asks u) both.0 ∙ sym b.is))
    (rest (maps_after maps home a.left) (counts_after counts home a.event) a.behind behind)

-- and in one way
pub one_thread : (l : Layout) (times : Timeouts) (js ks : List Judged) (maps : Home → Pairs) (counts : Home → ℕ)
    → readings_of js ≡ readings_of ks → IsThread l times maps counts js → IsThread l times maps counts ks → js ≡ ks
one_thread l times [] [] maps counts same one two = refl
one_thread l times [] (k ∷ ks) maps counts same one two = let f : ⊥ = cc in absurd f
one_thread l times (j ∷ js) [] maps counts same one two = let f : ⊥ = cc in absurd f
one_thread l times (j ∷ js) (k ∷ ks) maps counts same one two =
    let here : j.reading ≡ k.reading = cc in
    let rest : readings_of js ≡ readings_of ks = cc in
    one_by_update l times maps counts j k js ks here (update_of times j.reading) refl
    (λ maps counts. one_thread l times js ks maps counts rest) one two

pub of_one_thread : (l : Layout) (times : Timeouts) (opening : Home → Pairs) (js : List Judged)
    → IsOneThread l times opening js → IsThread l times opening (λ home. 0) js
of_one_thread l times opening js is = record { asked = is.asked; runs = is.runs; paged = is.paged }

-- the same of the one-thread filter
pub some_judged : (l : Layout) (times : Timeouts) (opening : Home → Pairs) (readings : List Reading)
    → (js : List Judged) × (readings_of js ≡ readings) × IsOneThread l times opening js
some_judged l times opening readings =
    let (js, same, is) = some_thread l times readings opening (λ home. 0) in
    (js, same, record { asked = is.asked; runs = is.runs; paged = is.paged })

pub one_judged : (l : Layout) (times : Timeouts) (opening : Home → Pairs) (js ks : List Judged)
    → readings_of js ≡ readings_of ks → IsOneThread l times opening js → IsOneThread l times opening ks → js ≡ ks
one_judged l times opening js ks same one two =
    one_thread l times js ks opening (λ home. 0) same (of_one_thread l times opening js one)
    (of_one_thread l times opening ks two)

-- the packets of a capture have verdicts
pub some_verdicts : (l : Layout) (times : Timeouts) (policy : PolicyFacts) (packets : List PacketFacts)
    → (verdicts : List Verdict) × AreVerdicts l times policy packets verdicts
some_verdicts l times policy packets =
    let (readings, are) = some_readings policy packets in
    let (js, same, is) = some_judged l times nothing readings in (
      verdicts_on js,
      record {
        judged = js;
        read = subst (AreReadings policy packets) (sym same) are;
        one_thread = is;
        said = refl;
      },
    )

-- and one list of them
pub one_verdicts : (l : Layout) (times : Timeouts) (policy : PolicyFacts) (packets : List PacketFacts)
    (a b : List Verdict) → AreVerdicts l times policy packets a → AreVerdicts l times policy packets b → a ≡ b
one_verdicts l times policy packets a b one two =
    let same = one_judged l times nothing one.judged two.judged
    (one_readings policy packets (readings_of one.judged) (readings_of two.judged) one.read two.read) one.one_thread
    two.one_thread in
    one.said ∙ ap verdicts_on same ∙ sym two.said
