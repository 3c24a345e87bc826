-- A packet among others that are judged one after the other.
use Rattle.std.proofs.Common.{◌≡◌, ◌⊎◌, ◌∙◌, ◌+◌, ◌++◌, ℕ, Bool, true, false, List, [], ◌∷◌, Some, All, refl, sym, ap, ap₂, subst}
use Rattle.std.proofs.lemmas.List.Elements.{All-head, All-tail}
use Rattle.std.specs.Prelude.{◌↔◌, if◌then◌else◌}
use Rattle.packet_view.specs.Tuples.{TupleFacts}
use Rattle.bihash_words.specs.Maps.{Event, Pairs, IsEvent}
use Rattle.bihash_words.specs.Runs.{IsRun, writes_of}
use Rattle.bihash_words.proofs.RunLemmas.{run_parts, run_push}
use Rattle.session_state.specs.declared.timeouts.Timeouts.{Timeouts}
use Rattle.flow_filter.specs.Readings.{Ruled, Ruling}
use Rattle.flow_filter.specs.Updates.{Update, update_of}
use Rattle.flow_filter.specs.Judged.{Asked, Asks, IsAsked, IsEventOf, Judged, Settled, verdict_on, verdict_with}
use Rattle.flow_filter.specs.OneThread.{Home, IsOneThread, Layout, add_event, bounds_in, events_at, home_of, same_home}
use Rattle.flow_filter.specs.Passing.{HoldsLive, Leave, LetsThrough}
use Rattle.session_state.specs.Passes.{passes}
use Rattle.flow_filter.proofs.AskedLemmas.{asks_once}
use Rattle.flow_filter.proofs.HomeLemmas.{is_home, same_as_itself}
use Rattle.flow_filter.proofs.OneThreadLemmas.{Runs, events_are}
use Rattle.flow_filter.proofs.PassingLemmas.{pass_by_reading}

-- what holds of all holds of each
among : (P : Judged → Type 0) (before after : List Judged) (j : Judged) → All P (before ++ j ∷ after) → P j
among P [] after j all = All-head P j after all
among P (x ∷ before) after j all = among P before after j (All-tail P x (before ++ j ∷ after) all)

-- an event before the front of a list
add_append : (l : Layout) (home : Home) (a : Asked Event) (front back : List Event)
    → add_event l home a (front ++ back) ≡ add_event l home a front ++ back
add_append l home Settled front back = refl
add_append l home (Asks u e) front back = go (same_home home (home_of l u.key))
  where
    go : (here : Bool)
        → (if here then e ∷ (front ++ back) else front ++ back) ≡ ((if here then e ∷ front else front) ++ back)
    go true = refl
    go false = refl

-- the events of packets on a bucket are those of their front and those of the rest
pub events_append : (l : Layout) (home : Home) (before after : List Judged)
    → events_at l home (before ++ after) ≡ events_at l home before ++ events_at l home after
events_append l home [] after = refl
events_append l home (j ∷ before) after =
    ap (add_event l home j.asked) (events_append l home before after)
    ∙ add_append l home j.asked (events_at l home before) (events_at l home after)

-- the packet's event on its bucket, with those of the packets after it
own_events : (l : Layout) (u : Update) (e : Event) (j : Judged) (after : List Judged) → j.asked ≡ Asks u e
    → events_at l (home_of l u.key) (j ∷ after) ≡ e ∷ events_at l (home_of l u.key) after
own_events l u e j after at =
    let home : Home = home_of l u.key in
    events_are l home (Asks u e) j after at
    ∙ ap (λ t. if t then e ∷ events_at l home after else events_at l home after) (same_as_itself home)

-- the packet's one event, between what was left before it and what it leaves
pub record IsPlaced (l : Layout) (opening : Home → Pairs) (before : List Judged) (j : Judged) (u : Update) : Type 0 where
  pub event : Event
  pub is : j.asked ≡ Asks u event
  pub of : IsEventOf u event
  pub left : Pairs
  pub count : ℕ
  pub leaves : Pairs
  pub before_it : IsRun (bounds_in l (home_of l u.key).family) (opening (home_of l u.key)) 0
      (events_at l (home_of l u.key) before) left count
  pub step : IsEvent (bounds_in l (home_of l u.key).family) left count event leaves

pub placed : (l : Layout) (times : Timeouts) (opening : Home → Pairs) (before after : List Judged) (j : Judged) (u : Update)
    → IsOneThread l times opening (before ++ j ∷ after) → update_of times j.reading ≡ Some u
    → IsPlaced l opening before j u
placed l times opening before after j u thread is =
    let (e, at, of) =
    asks_once (update_of times j.reading) j.asked (among (IsAsked times) before after j thread.asked) u is in
    let home : Home = home_of l u.key in
    let (last, writes, run) : Runs (bounds_in l home.family) (opening home) 0
    (events_at l home before ++ e ∷ events_at l home after) =
    subst (Runs (bounds_in l home.family) (opening home) 0)
    (events_append l home before (j ∷ after)
    ∙ ap (λ es. events_at l home before ++ es) (own_events l u e j after at))
    (thread.runs home (is_home l u.key)) in
    let (m, v, first, (n, step, rest)) = run_parts (bounds_in l home.family) (opening home) last 0 writes
    (events_at l home before) (e ∷ events_at l home after) run in
    record { event = e; is = at; of = of; left = m; count = v; leaves = n; before_it = first; step = step }

-- what is left after the packet
pub leaves_behind : (l : Layout) (opening : Home → Pairs) (before : List Judged) (j : Judged)
    (u : Update) → (p : IsPlaced l opening before j u)
    → Leave l opening (before ++ j ∷ []) (home_of l u.key) p.leaves
leaves_behind l opening before j u p =
    let home : Home = home_of l u.key in (
      p.count + writes_of p.event.reply,
      subst (λ es. IsRun (bounds_in l home.family) (opening home) 0 es p.leaves (p.count + writes_of p.event.reply))
          (sym (events_append l home before (j ∷ [])
          ∙ ap (λ es. events_at l home before ++ es) (own_events l u p.event j [] p.is)))
          (run_push (bounds_in l home.family) (opening home) p.left p.leaves 0 p.count
          (events_at l home before) p.event p.before_it p.step),
    )

pub pass_in_order : (l : Layout) (times : Timeouts) (opening : Home → Pairs) (before after : List Judged) (j : Judged)
    (moment : ℕ) (tuple : TupleFacts) (ruling : Ruling) (u : Update) → IsOneThread l times opening (before ++ j ∷ after)
    → j.reading ≡ Ruled moment tuple ruling → update_of times j.reading ≡ Some u
    → (m n : Pairs) × Leave l opening before (home_of l u.key) m
    × Leave l opening (before ++ j ∷ []) (home_of l u.key) n
    × ((passes (verdict_on j) ≡ true) ↔ (HoldsLive u m ⊎ LetsThrough u n ruling))
pass_in_order l times opening before after j moment tuple ruling u thread reads is =
    let p = placed l times opening before after j u thread is in
    let same : verdict_on j ≡ verdict_with (Ruled moment tuple ruling) (Asks u p.event) = ap₂ verdict_with reads p.is in
    let passing =
    pass_by_reading times moment tuple ruling u
    (bounds_in l (home_of l u.key).family) p.left p.leaves p.count p.event
    (ap (update_of times) (sym reads) ∙ is) p.of p.step in (
      p.left,
      p.leaves,
      (p.count, p.before_it),
      leaves_behind l opening before j u p,
      subst (λ v. (passes v ≡ true) ↔ (HoldsLive u p.left ⊎ LetsThrough u p.leaves ruling)) (sym same) passing,
    )
