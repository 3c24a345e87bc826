-- One packet more of a worker.
use Rattle.std.proofs.Common.{◌≡◌, ◌≢◌, ◌∙◌, ◌+◌, ◌<◌, ℕ, zero, suc, Bool, true, false, cond, All, List, [], ◌∷◌, ◌++◌, length, drop, map, Option, Some, ap, refl, sym, subst, arith, append_assoc, append-nil, add-one, eq-eqb}
use Rattle.std.specs.Prelude.{if◌then◌else◌, ◌==◌, slice_get}
use Rattle.std.proofs.lemmas.Bool.{ne_eqb}
use Rattle.std.proofs.lemmas.List.Elements.{All-nil, All-push}
use Rattle.std.proofs.lemmas.List.{map-append}
use Rattle.packet_view.specs.Captures.{PacketFacts}
use Rattle.packet_view.specs.Frames as frames
use Rattle.packet_view.specs.declared.tuple.Family.{Family}
use Rattle.packet_view.specs.declared.tuple.Family.TheVariants.{V4, V6}
use Rattle.acl_policy.specs.Policies.{PolicyFacts, SectionFacts, section_of}
use Rattle.bihash_words.specs.Maps.{Event}
use Rattle.bihash_words.specs.Sizes.{Sizes}
use Rattle.bihash_steps.specs.BucketSteps.{push_call}
use Rattle.bihash_rule.specs.declared.view.Call.{Call}
use Rattle.bihash_rule.specs.declared.view.Known.{Known}
use Rattle.bihash_rule.specs.declared.view.View.{View}
use Rattle.bihash_table.specs.Answers.{entry_of, with_locks}
use Rattle.bihash_table.specs.Promise.{IsAnswered}
use Rattle.bihash_table.specs.Tries.{TookByTries}
use Rattle.session_state.specs.declared.flow.FlowKey.{FlowKey}
use Rattle.session_state.specs.declared.flow.FlowKey.TheVariants.{Four, Six}
use Rattle.session_state.specs.declared.verdict.Verdict.{Verdict}
use Rattle.flow_filter.specs.Readings.{IsReading, IsReadingOf, IsSeen, Reading}
use Rattle.flow_filter.specs.Updates.{Update, update_of, words_of}
use Rattle.flow_filter.specs.Judged.{Asked, Asks, IsAskedBy, Settled, verdict_with}
use Rattle.flow_filter.specs.OneThread.{Layout, family_of, home_of, same_family}
use Rattle.flow_dealing.specs.Views.{Views}
use Rattle.flow_dealing.specs.Dealings.{Deal, flow_of_reading, flow_of_frame, worker_of}
use Rattle.flow_dealing.specs.Traces.{AreFrames, IsCallAt, IsItem, IsItemOf, Item, events_of, numbers_from}
use Rattle.flow_dealing.specs.AgeingTraces.{Ages, AreInOrder, Deed, IsRemovalOf, Takes, aged_in, calls_by, items_in}
use Rattle.flow_dealing.proofs.AgeingMerges.{order_from}
use Rattle.flow_dealing.proofs.DealtEvents.{add_in-append}
use Rattle.flow_dealing.specs.WorkerRecords.{add_in}
use Rattle.flow_workers.specs.Judging.{IsFlowEntry, IsEnteredBy, IsJudged}
use Rattle.flow_workers.specs.inner.Work.{AreSaid, RecordContinues, IsWork, IsWorkUntil, RunFacts, numbers_of, verdict_in}
use Rattle.flow_workers.specs.inner.Wanted.{KeepWanted}

-- ---- Records that go on

pub continues_none : (v : View) → RecordContinues v v []
continues_none v = record {
  calls = λ r one. (r.locks, one ∙ ap (λ cs. record r { calls = cs; locks = r.locks } ∷ []) (sym (append-nil r.calls)));
  openings = refl;
}

continues_same : (v u w : View) (cs : List Call) → w ≡ u → RecordContinues v u cs → RecordContinues v w (cs ++ [])
continues_same v u w cs same old =
    subst (λ k. RecordContinues v w k) (sym (append-nil cs)) (subst (λ x. RecordContinues v x cs) (sym same) old)

pub continues_push : (z : Sizes) (v u w : View) (cs : List Call) (e : Event) (a : IsAnswered z u w e) → RecordContinues v u cs
    → RecordContinues v w (cs ++ entry_of z (length a.history) e a.noted ∷ [])
continues_push z v u w cs e a old = record {
  calls = λ r one. let before = old.calls r one in (
    a.locks,
    a.records ∙ (ap (λ rs. push_call (entry_of z (length a.history) e a.noted) (with_locks a.locks rs)) before.1
        ∙ ap (λ k. record r { calls = k; locks = a.locks } ∷ [])
        (append_assoc r.calls cs (entry_of z (length a.history) e a.noted ∷ []))),
  );
  openings = ap (λ (k : Known). k.openings) a.known ∙ old.openings;
}

-- ---- One packet's call

-- what a packet asked, as its call, and what this leaves of both callers
record Left (l : Layout) (asked : Asked Event) (v w : Views) (c4 c6 : List Call) : Type 0 where
  call : Asked Call
  is : events_of call ≡ asked
  placed : IsCallAt l call
  four : RecordContinues v.four w.four (c4 ++ add_in V4 call [])
  six : RecordContinues v.six w.six (c6 ++ add_in V6 call [])

by_key : (l : Layout) (u : Update) (key : FlowKey) (e : Event) (v x w : Views) (c4 c6 : List Call)
    → u.key ≡ key → e.key ≡ words_of key → IsFlowEntry l TookByTries key e x w
    → RecordContinues v.four x.four c4 → RecordContinues v.six x.six c6 → Left l (Asks u e) v w c4 c6
by_key l u (Four words) e v x w c4 c6 same asked entered four six =
    let c : Call = entry_of l.four (length entered.0.history) e entered.0.noted in
    record {
      call = Asks u c;
      is = refl;
      placed = subst (λ k. c.bucket ≡ (home_of l k).bucket) (sym same) (ap (λ k. (home_of l (Four k)).bucket) asked);
      four =
          subst (λ k. RecordContinues v.four w.four (c4 ++ (if same_family V4 (family_of k) then c ∷ [] else []))) (sym same)
          (continues_push l.four v.four x.four w.four c4 e entered.0 four);
      six = subst (λ k. RecordContinues v.six w.six (c6 ++ (if same_family V6 (family_of k) then c ∷ [] else []))) (sym same)
          (continues_same v.six x.six w.six c6 entered.1 six);
    }
by_key l u (Six words) e v x w c4 c6 same asked entered four six =
    let c : Call = entry_of l.six (length entered.0.history) e entered.0.noted in
    record {
      call = Asks u c;
      is = refl;
      placed = subst (λ k. c.bucket ≡ (home_of l k).bucket) (sym same) (ap (λ k. (home_of l (Six k)).bucket) asked);
      four =
          subst (λ k. RecordContinues v.four w.four (c4 ++ (if same_family V4 (family_of k) then c ∷ [] else []))) (sym same)
          (continues_same v.four x.four w.four c4 entered.1 four);
      six = subst (λ k. RecordContinues v.six w.six (c6 ++ (if same_family V6 (family_of k) then c ∷ [] else []))) (sym same)
          (continues_push l.six v.six x.six w.six c6 e entered.0 six);
    }

left_by : (l : Layout) (update : Option Update) (asked : Asked Event) (v x w : Views) (c4 c6 : List Call)
    → IsAskedBy update asked → IsEnteredBy l TookByTries asked x w
    → RecordContinues v.four x.four c4 → RecordContinues v.six x.six c6 → Left l asked v w c4 c6
left_by l update Settled v x w c4 c6 none entered four six = record {
  call = Settled;
  is = refl;
  placed = tt;
  four = continues_same v.four x.four w.four c4 (ap (λ (y : Views). y.four) entered) four;
  six = continues_same v.six x.six w.six c6 (ap (λ (y : Views). y.six) entered) six;
}
left_by l update (Asks u e) v x w c4 c6 asked entered four six = by_key l u u.key e v x w c4 c6 refl asked.1.key entered four six

-- ---- Lists of deeds

pub calls_join : (family : Family) (deeds more : List Deed)
    → calls_by family (deeds ++ more) ≡ calls_by family deeds ++ calls_by family more
calls_join family [] more = refl
calls_join family (Takes i ∷ deeds) more =
    ap (add_in family i.asked) (calls_join family deeds more)
    ∙ add_in-append family i.asked (calls_by family deeds) (calls_by family more)
calls_join family (Ages a ∷ deeds) more = go (same_family family a.family) (calls_join family deeds more)
  where
    go : (t : Bool) → calls_by family (deeds ++ more) ≡ calls_by family deeds ++ calls_by family more
        → (if t then a.call ∷ calls_by family (deeds ++ more) else calls_by family (deeds ++ more))
        ≡ (if t then a.call ∷ calls_by family deeds else calls_by family deeds) ++ calls_by family more
    go true rest = ap (λ cs. a.call ∷ cs) rest
    go false rest = rest

pub items_join : (deeds more : List Deed) → items_in (deeds ++ more) ≡ items_in deeds ++ items_in more
items_join [] more = refl
items_join (Takes i ∷ deeds) more = ap (λ is. i ∷ is) (items_join deeds more)
items_join (Ages a ∷ deeds) more = items_join deeds more

pub aged_join : (deeds more : List Deed) → aged_in (deeds ++ more) ≡ aged_in deeds ++ aged_in more
aged_join [] more = refl
aged_join (Takes i ∷ deeds) more = aged_join deeds more
aged_join (Ages a ∷ deeds) more = ap (λ others. a ∷ others) (aged_join deeds more)

-- ---- Dealing

pub numbers_cons : (d : Deal) (w at : ℕ) (view : frames.FrameFacts) (views : List frames.FrameFacts)
    → numbers_from d w at (view ∷ views)
    ≡ cond (worker_of d at (flow_of_frame view) == w) (at ∷ numbers_from d w (at + 1) views)
    (numbers_from d w (at + 1) views)
unfolding numbers_from
numbers_cons d w at view views = refl

pub no_numbers : (d : Deal) (w at : ℕ) → numbers_from d w at [] ≡ []
unfolding numbers_from
no_numbers d w at = refl

-- the view at a place
view_there : (policy : PolicyFacts) (packets : List PacketFacts) (views : List frames.FrameFacts) (at : ℕ)
    (packet : PacketFacts) (this : frames.FrameFacts) → AreFrames policy packets views
    → slice_get packets at ≡ Some packet → ((other : frames.FrameFacts) → IsSeen policy packet other → other ≡ this)
    → drop at views ≡ this ∷ drop (suc at) views
view_there policy [] [] at packet this all stands only = let f : ⊥ = cc in absurd f
view_there policy [] (view ∷ views) at packet this all stands only = absurd all
view_there policy (p ∷ ps) [] at packet this all stands only = absurd all
view_there policy (p ∷ ps) (view ∷ views) zero packet this all stands only =
    ap (λ x. x ∷ views) (only view
    (subst (λ (q : PacketFacts). IsSeen policy q view) (let e : p ≡ packet = cc in e) all.0))
view_there policy (p ∷ ps) (view ∷ views) (suc at) packet this all stands only =
    view_there policy ps views at packet this all.1 stands only

view_at : (policy : PolicyFacts) (packets : List PacketFacts) (views : List frames.FrameFacts) (at : ℕ)
    (packet : PacketFacts) (this : frames.FrameFacts) → AreFrames policy packets views
    → slice_get packets at ≡ Some packet → ((other : frames.FrameFacts) → IsSeen policy packet other → other ≡ this)
    → drop at views ≡ this ∷ drop (at + 1) views
view_at policy packets views at packet this all stands only = view_there policy packets views at packet this all stands only
    ∙ ap (λ k. this ∷ drop k views) (sym (add-one at))

-- ---- A worker's packet, and another's

flow_of_its_frame : (section : SectionFacts) (moment : ℕ) (view : frames.FrameFacts) (reading : Reading)
    → IsReadingOf section moment view reading → flow_of_reading reading ≡ flow_of_frame view
flow_of_its_frame section moment frames.NotIp reading is = ap flow_of_reading is
flow_of_its_frame section moment frames.Malformed reading is = ap flow_of_reading is
flow_of_its_frame section moment frames.Short reading is = ap flow_of_reading is
flow_of_its_frame section moment (frames.Ip direction tuple) reading is = ap flow_of_reading is.2

-- what is known of the packet at a place, and of its frame
pub record IsAt (run : RunFacts) (at : ℕ) (packet : PacketFacts) (view : frames.FrameFacts) : Type 0 where
  pub stands : slice_get run.packets at ≡ Some packet
  pub shown : IsSeen run.policy packet view
  pub only : (other : frames.FrameFacts) → IsSeen run.policy packet other → other ≡ view

-- the flow that a packet's reading has is the one that its frame shows
pub flow_at : (run : RunFacts) (at : ℕ) (packet : PacketFacts) (view : frames.FrameFacts) (reading : Reading)
    → IsAt run at packet view → IsReading run.policy packet reading → flow_of_reading reading ≡ flow_of_frame view
flow_at run at packet view reading is read =
    flow_of_its_frame (section_of packet.interface run.policy) packet.moment read.0 reading read.2 ∙ ap flow_of_frame (is.only read.0 read.1)

pub work_none : (run : RunFacts) (w : ℕ) (v : Views) → IsWorkUntil run w 0 v v []
work_none run w v = record {
  deeds = [];
  items = All-nil (IsItem run.deal.layout run.times);
  of = All-nil (IsItemOf run.deal w run.policy run.packets);
  dealt = λ views all. refl;
  removals = All-nil (IsRemovalOf run.deal run.times run.ages run.packets w);
  order = λ more in_order. in_order;
  four = continues_none v.four;
  six = continues_none v.six;
  wanted = (λ had. had, λ had. had);
  said = refl;
}

-- the numbers from a packet on, where its view is known
pub numbers_at : (run : RunFacts) (w at : ℕ) (packet : PacketFacts) (view : frames.FrameFacts) → IsAt run at packet view
    → (views : List frames.FrameFacts)
    → AreFrames run.policy run.packets views → (t : Bool) → (worker_of run.deal at (flow_of_frame view) == w) ≡ t
    → numbers_from run.deal w at (drop at views)
    ≡ cond t (at ∷ numbers_from run.deal w (at + 1) (drop (at + 1) views))
    (numbers_from run.deal w (at + 1) (drop (at + 1) views))
numbers_at run w at packet view is views all t test =
    ap (numbers_from run.deal w at) (view_at run.policy run.packets views at packet view all is.stands is.only)
    ∙ (numbers_cons run.deal w at view (drop (at + 1) views)
    ∙ ap (λ b. cond b (at ∷ numbers_from run.deal w (at + 1) (drop (at + 1) views))
    (numbers_from run.deal w (at + 1) (drop (at + 1) views))) test)

pub work_passed : (run : RunFacts) (w at : ℕ) (v x : Views) (verdicts : List Verdict)
    (packet : PacketFacts) (view : frames.FrameFacts)
    → IsAt run at packet view → worker_of run.deal at (flow_of_frame view) ≢ w
    → IsWorkUntil run w at v x verdicts → IsWorkUntil run w (at + 1) v x verdicts
work_passed run w at v x verdicts packet view is other old = record {
  deeds = old.deeds;
  items = old.items;
  of = old.of;
  dealt = λ views all.
      ap (λ ns. numbers_of (items_in old.deeds) ++ ns)
      (sym (numbers_at run w at packet view is views all false (ne_eqb _ _ other)))
      ∙ old.dealt views all;
  removals = old.removals;
  order = λ more in_order. old.order more (order_from (length run.packets) at (at + 1) more (omega arith) in_order);
  four = old.four;
  six = old.six;
  wanted = old.wanted;
  said = old.said;
}

said_push : (trace : List Item) (i : Item) (verdicts : List Verdict) (verdict : Verdict)
    → AreSaid trace verdicts → verdict ≡ verdict_in i
    → AreSaid (trace ++ i ∷ []) (verdicts ++ verdict ∷ [])
said_push trace i verdicts verdict old is =
    ap (λ vs. vs ++ verdict ∷ []) old ∙ (ap (λ k. map verdict_in trace ++ k ∷ []) is
    ∙ sym (map-append verdict_in trace (i ∷ [])))

pub work_push : (run : RunFacts) (w at : ℕ) (v x y : Views) (verdicts : List Verdict) (packet : PacketFacts) (view : frames.FrameFacts)
    (verdict : Verdict) → IsAt run at packet view → worker_of run.deal at (flow_of_frame view) ≡ w
    → IsJudged run.deal.layout TookByTries run.times run.policy packet x y verdict → KeepWanted run.deal.layout x y
    → IsWorkUntil run w at v x verdicts → IsWorkUntil run w (at + 1) v y (verdicts ++ verdict ∷ [])
work_push run w at v x y verdicts packet view verdict is mine j keep old = record {
  deeds = old.deeds ++ Takes item ∷ [];
  items = subst (All (IsItem run.deal.layout run.times)) (sym (items_join old.deeds (Takes item ∷ [])))
      (All-push (IsItem run.deal.layout run.times) trace item old.items (record {
        asked = asked;
        placed = left.placed;
      }));
  of = subst (All (IsItemOf run.deal w run.policy run.packets)) (sym (items_join old.deeds (Takes item ∷ [])))
      (All-push (IsItemOf run.deal w run.policy run.packets) trace item old.of (record {
        packet = packet;
        there = is.stands;
        read = j.read;
        dealt = ap (worker_of run.deal at) (flow_at run at packet view j.judged.reading is j.read) ∙ mine;
      }));
  dealt = λ views all.
      ap (λ is. numbers_of is ++ numbers_from run.deal w (at + 1) (drop (at + 1) views)) (items_join old.deeds (Takes item ∷ []))
      ∙ (ap (λ ns. ns ++ numbers_from run.deal w (at + 1) (drop (at + 1) views))
      (map-append (λ (i : Item). i.packet) trace (item ∷ []))
      ∙ (append_assoc (numbers_of trace) (at ∷ []) (numbers_from run.deal w (at + 1) (drop (at + 1) views))
      ∙ (ap (λ ns. numbers_of trace ++ ns)
      (sym (numbers_at run w at packet view is views all true (eq-eqb _ _ mine)))
      ∙ old.dealt views all)));
  removals = subst (All (IsRemovalOf run.deal run.times run.ages run.packets w))
      (sym (aged_join old.deeds (Takes item ∷ []) ∙ append-nil (aged_in old.deeds))) old.removals;
  order = λ more in_order. subst (AreInOrder (length run.packets) 0) (sym (append_assoc old.deeds (Takes item ∷ []) more))
      (old.order (Takes item ∷ more) (omega arith, in_order));
  four = subst (λ cs. RecordContinues v.four y.four cs) (sym (calls_join V4 old.deeds (Takes item ∷ []))) left.four;
  six = subst (λ cs. RecordContinues v.six y.six cs) (sym (calls_join V6 old.deeds (Takes item ∷ []))) left.six;
  wanted = (λ had. keep.0 (old.wanted.0 had), λ had. keep.1 (old.wanted.1 had));
  said = subst (λ is. AreSaid is (verdicts ++ verdict ∷ [])) (sym (items_join old.deeds (Takes item ∷ [])))
      (said_push trace item verdicts verdict old.said said);
}
  where
    trace : List Item
    trace = items_in old.deeds

    left : Left run.deal.layout j.judged.asked v y (calls_by V4 old.deeds) (calls_by V6 old.deeds)
    left =
        left_by run.deal.layout (update_of run.times j.judged.reading) j.judged.asked v x y
        (calls_by V4 old.deeds) (calls_by V6 old.deeds) j.asked j.entered old.four old.six

    item : Item
    item = record { packet = at; reading = j.judged.reading; asked = left.call }

    asked : IsAskedBy (update_of run.times j.judged.reading) (events_of left.call)
    asked = subst (IsAskedBy (update_of run.times j.judged.reading)) (sym left.is) j.asked

    said : verdict ≡ verdict_in item
    said = j.said ∙ ap (verdict_with j.judged.reading) (sym left.is)

-- the same, where the first packets are counted apart
pub one_more : (run : RunFacts) (w first at : ℕ) (v u : Views) (verdicts : List Verdict)
    → IsWorkUntil run w (first + at + 1) v u verdicts → IsWorkUntil run w (first + (at + 1)) v u verdicts
one_more run w first at v u verdicts =
    subst (λ n. IsWorkUntil run w n v u verdicts) (let e : first + at + 1 ≡ first + (at + 1) = omega arith in e)

-- ---- A worker that is alone

-- ---- Packets that are taken one by one

-- the packet that is taken next is at the number of those that were taken
pub taken_inside : {X : Type 0} (xs ys : List X) (at : ℕ) (x : X) → drop at xs ≡ x ∷ ys → at < length xs
taken_inside [] ys zero x e = absurd (let f : ⊥ = cc in f)
taken_inside [] ys (suc at) x e = absurd (let f : ⊥ = cc in f)
taken_inside (y ∷ xs) ys zero x e = omega arith
taken_inside (y ∷ xs) ys (suc at) x e = let inside = taken_inside xs ys at x e in omega arith

nothing_left : {X : Type 0} (xs : List X) (at : ℕ) → xs ≡ [] → drop at xs ≡ []
nothing_left [] zero none = refl
nothing_left [] (suc at) none = refl
nothing_left (x ∷ xs) at none = absurd (let f : ⊥ = cc in f)

-- after all packets nothing is left to look at
no_views : (policy : PolicyFacts) (packets : List PacketFacts) (views : List frames.FrameFacts) (at : ℕ)
    → AreFrames policy packets views → drop at packets ≡ [] → drop at views ≡ []
no_views policy [] [] at all none = nothing_left [] at refl
no_views policy [] (view ∷ views) at all none = absurd all
no_views policy (p ∷ ps) [] at all none = absurd all
no_views policy (p ∷ ps) (view ∷ views) zero all none = absurd (let f : ⊥ = cc in f)
no_views policy (p ∷ ps) (view ∷ views) (suc at) all none = no_views policy ps views at all.1 none

all_looked_at : (run : RunFacts) (w at : ℕ) (v u : Views) (verdicts : List Verdict)
    → drop at run.packets ≡ []
    → (work : IsWorkUntil run w at v u verdicts) (views : List frames.FrameFacts)
    → AreFrames run.policy run.packets views → numbers_of (items_in work.deeds) ≡ numbers_from run.deal w 0 views
all_looked_at run w at v u verdicts none work views all =
    sym (ap (λ vs. numbers_of (items_in work.deeds) ++ numbers_from run.deal w at vs)
    (no_views run.policy run.packets views at all none)
    ∙ (ap (λ ns. numbers_of (items_in work.deeds) ++ ns) (no_numbers run.deal w at) ∙ append-nil (numbers_of (items_in work.deeds))))
    ∙ work.dealt views all

-- who has looked at all packets judged its own, all of them
pub whole_work : (run : RunFacts) (w at : ℕ) (v u : Views) (verdicts : List Verdict)
    → drop at run.packets ≡ [] → IsWorkUntil run w at v u verdicts → IsWork run w v u verdicts
whole_work run w at v u verdicts none work = record {
  deeds = work.deeds;
  are = record {
    trace = record { items = work.items; of = work.of; dealt = all_looked_at run w at v u verdicts none work };
    removals = work.removals;
    order = subst (AreInOrder (length run.packets) 0) (append-nil work.deeds) (work.order [] tt);
  };
  four = work.four;
  six = work.six;
  wanted = work.wanted;
  said = work.said;
}
