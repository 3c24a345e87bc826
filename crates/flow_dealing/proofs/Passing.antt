-- A packet passes by what stands at its event's place, which no other packet has.
use Rattle.std.proofs.Common.{◌≡◌, ◌∙◌, ◌+◌, ℕ, suc, Bool, true, false, List, ◌∷◌, length, Some, ap, ap₂, arith, refl, sym, subst, subst₂, length-append}
use Rattle.std.specs.Prelude.{if◌then◌else◌, ◌⊎◌, ◌↔◌}
use lib.ListN.{get_elem?}
use mathlib.Core.Option.{some}
use Rattle.packet_view.specs.Captures.{PacketFacts}
use Rattle.packet_view.specs.Tuples.{TupleFacts}
use Rattle.packet_view.specs.declared.tuple.Family.{Family}
use Rattle.acl_policy.specs.Policies.{PolicyFacts}
use Rattle.bihash_words.specs.Maps.{Event, IsEvent, Pairs}
use Rattle.bihash_words.specs.Sizes.{Sizes, bucket_of}
use Rattle.bihash_rule.specs.Callers.{IsLawfulCaller, known_at, opening_at}
use Rattle.bihash_rule.specs.Histories.{IsLegal, after, bounds_of, event_of, is_changed}
use Rattle.bihash_rule.specs.declared.view.Call.{Call}
use Rattle.bihash_rule.specs.declared.view.Record.{Record}
use Rattle.bihash_rule.specs.declared.view.View.{View}
use Rattle.session_state.specs.declared.timeouts.Timeouts.{Timeouts}
use Rattle.session_state.specs.declared.verdict.Verdict.{Verdict}
use Rattle.flow_filter.specs.Ageing.{Removal, Step}
use Rattle.flow_filter.specs.Readings.{Ruled, Ruling}
use Rattle.flow_filter.specs.Updates.{Update, update_of}
use Rattle.flow_filter.specs.Judged.{Asks, IsAsked, IsEventOf, Judged, verdict_on, verdict_with}
use Rattle.flow_filter.specs.OneThread.{family_of, home_of, sizes_in}
use Rattle.flow_filter.specs.Passing.{HoldsLive, LetsThrough}
use Rattle.session_state.specs.Passes.{passes}
use Rattle.flow_filter.proofs.AskedLemmas.{asks_once}
use Rattle.flow_filter.proofs.PassingLemmas.{pass_by_reading}
use Rattle.flow_dealing.specs.Views.{Views, view_in}
use Rattle.flow_dealing.specs.Dealings.{Deal, flow_of_reading, worker_of}
use Rattle.flow_dealing.specs.Places.{HasPlace, HaveOwnCalls, PassesAtPlace}
use Rattle.flow_dealing.specs.WorkerRecords.{AreJudgedBetween, events_by}
use Rattle.flow_dealing.proofs.PacketCalls.{IsCallFor, call_of_packet, event_of_packet, steps_between}
use Rattle.flow_dealing.proofs.Places.{all_at}
use Rattle.flow_dealing.proofs.Refusals.{legal_call}

-- the place is of this call
record IsPlaceOf (z : Sizes) (v : View) (at : ℕ) (e : Event) (place : ℕ) (c : Call) : Type 0 where
  stands : HasPlace z v at e
  there : stands.place ≡ place
  of : stands.call ≡ c

place_of : (z : Sizes) (v : View) (e : Event) (at place : ℕ) (r : Record) (c : Call) → IsLawfulCaller z v
    → get_elem? v.records at ≡ some r → get_elem? r.calls place ≡ some c → event_of c ≡ e → IsPlaceOf z v at e place c
place_of z v e at place r c lawful stands called is = go (is_changed c.reply) refl
  where
    legal : IsLegal z (opening_at v.known c.bucket) (known_at v.known c.bucket) r.number c
    legal = legal_call z v at place r c lawful stands called

    map_at : ℕ → Pairs
    map_at w = after (opening_at v.known c.bucket) (known_at v.known c.bucket) w

    go : (b : Bool) → is_changed c.reply ≡ b → IsPlaceOf z v at e place c
    go true writes =
        let w = legal.write writes in
        let answer = w.3 in
        record {
          stands = record {
            record_at = r;
            stands = stands;
            place = place;
            call = c;
            called = called;
            event = is;
            before = w.0;
            number = w.1 ∙ ap (λ (b : Bool). w.0 + (if b then 1 else 0)) (sym writes);
            left = answer.0;
            step = subst (λ x. IsEvent (bounds_of z) (map_at w.0) w.0 x answer.0) is answer.1;
          };
          there = refl;
          of = refl;
        }
    go false reads =
        let answer = legal.other reads in
        let none : c.stamp ≡ c.stamp + 0 = omega arith in
        record {
          stands = record {
            record_at = r;
            stands = stands;
            place = place;
            call = c;
            called = called;
            event = is;
            before = c.stamp;
            number = none ∙ ap (λ (b : Bool). c.stamp + (if b then 1 else 0)) (sym reads);
            left = answer.0;
            step = subst (λ x. IsEvent (bounds_of z) (map_at c.stamp) c.stamp x answer.0) is answer.1;
          };
          there = refl;
          of = refl;
        }

-- a packet passes by what stands where its call does
pass_by_call : (d : Deal) (times : Timeouts) (steps : List Step) (views : Views) (k : ℕ) (j : Judged) (moment : ℕ) (tuple : TupleFacts)
    (ruling : Ruling) (u : Update) (e : Event) → j.reading ≡ Ruled moment tuple ruling → update_of times j.reading ≡ Some u
    → j.asked ≡ Asks u e → IsEventOf u e → IsLawfulCaller (sizes_in d.layout (family_of u.key)) (view_in views (family_of u.key))
    → IsCallFor d (family_of u.key) steps (view_in views (family_of u.key)) k j (worker_of d k (flow_of_reading j.reading)) e
    → PassesAtPlace d steps views k j u ruling
pass_by_call d times steps views k j moment tuple ruling u e reads updates its of lawful c =
    pass_there (place_of z v e by c.place c.record_at c.call lawful c.stands c.called c.event)
  where
    z : Sizes
    z = sizes_in d.layout (family_of u.key)

    v : View
    v = view_in views (family_of u.key)

    by : ℕ
    by = worker_of d k (flow_of_reading j.reading)

    in_home : c.call.bucket ≡ (home_of d.layout u.key).bucket
    in_home = sym (legal_call z v by c.place c.record_at c.call lawful c.stands c.called).key.home
        ∙ ap (bucket_of z) (ap (λ (x : Event). x.key) c.event ∙ of.key)

    passing : (p : HasPlace z v by e) (m : Pairs) → IsEvent (bounds_of z) m p.before e p.left
        → (passes (verdict_on j) ≡ true) ↔ (HoldsLive u m ⊎ LetsThrough u p.left ruling)
    passing p m step = subst₂ (λ r x. (passes (verdict_with r x) ≡ true) ↔ (HoldsLive u m ⊎ LetsThrough u p.left ruling))
        (sym reads) (sym its)
        (pass_by_reading times moment tuple ruling u (bounds_of z) m p.left p.before e (ap (update_of times) (sym reads) ∙ updates) of step)

    pass_there : IsPlaceOf z v by e c.place c.call → PassesAtPlace d steps views k j u ruling
    pass_there at = record {
      e = e;
      its = its;
      stands = at.stands;
      earlier = c.earlier;
      are_earlier = c.are_earlier;
      place = at.there ∙ c.behind;
      home = ap (λ (x : Call). x.bucket) at.of ∙ in_home;
      exactly = passing at.stands _ at.stands.step;
    }

pub pass_at_place : (d : Deal) (times : Timeouts) (policy : PolicyFacts) (packets : List PacketFacts) (verdicts : List Verdict)
    (removals : List Removal) (are : AreJudgedBetween d times policy packets removals verdicts) (k : ℕ) (j : Judged) (moment : ℕ) (tuple : TupleFacts)
    (ruling : Ruling) (u : Update) → get_elem? are.judged k ≡ some j → j.reading ≡ Ruled moment tuple ruling
    → update_of times j.reading ≡ Some u → PassesAtPlace d are.steps are.views k j u ruling
pass_at_place d times policy packets verdicts removals are k j moment tuple ruling u at reads updates =
    let family : Family = family_of u.key in
    let recorded = are.recorded family in
    let v : View = view_in are.views family in
    let (e, its, of) = asks_once (update_of times j.reading) j.asked (all_at (IsAsked times) are.judged k j are.asked at) u updates in
    pass_by_call d times are.steps are.views k j moment tuple ruling u e reads updates its of recorded.lawful
    (call_of_packet d family are.steps v recorded k j u e (ap (λ js. get_elem? js k) are.packets_are ∙ at) its refl)

-- the call of a packet stands before that of a later one
pub calls_in_turn : (d : Deal) (steps : List Step) (views : Views) → HaveOwnCalls d steps views
calls_in_turn d steps views k m j i u w one other p q family_same worker_same less =
    let family : Family = family_of u.key in
    let by : ℕ = worker_of d k (flow_of_reading j.reading) in
    let first = p.are_earlier.count in
    let second = q.are_earlier.count in
    let (between, whole) =
    steps_between p.earlier q.earlier j i p.are_earlier.later q.are_earlier.later (sym p.are_earlier.whole ∙ q.are_earlier.whole) (omega arith) in
    let E : List Event = events_by d family by 0 p.earlier in
    let F : List Event = events_by d family by (k + 1) between in
    let all =
    event_of_packet d family by q.earlier p.earlier k j u p.e (record { later = between; whole = whole; count = first }) p.its refl
    refl in
    let count : length (events_by d family by 0 q.earlier) ≡ length E + suc (length F) = ap length all ∙ length-append E (p.e ∷ F) in
    let own : q.stands.place ≡ length (events_by d family by 0 q.earlier) =
    q.place ∙ ap₂ (λ f x. length (events_by d f x 0 q.earlier)) (sym family_same) (sym worker_same) in
    let at = p.place in
    omega arith
