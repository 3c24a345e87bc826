-- Sessions that a worker removes between its packets.
use Rattle.std.proofs.Common.{◌≡◌, ◌∙◌, ◌+◌, ◌-◌, ◌<◌, ◌≤◌, ◌%◌, ℕ, Bool, true, false, List, [], ◌∷◌, ◌++◌, length, map, Option, Some, None, ap, refl, sym, subst, arith, append_assoc, append-nil, drop, inr, min}
use Rattle.std.specs.Prelude.{if◌then◌else◌, slice_get}
use Rattle.std.specs.List.{All}
use Rattle.std.proofs.lemmas.List.Elements.{All-append, All-cons, All-head, All-nil, All-tail, All-weaker}
use Rattle.std.proofs.lemmas.Option.{slice_get_within}
use Rattle.packet_view.specs.Captures.{PacketFacts}
use Rattle.packet_view.specs.declared.tuple.Family.{Family}
use Rattle.packet_view.specs.declared.tuple.Family.TheVariants.{V4, V6}
use Rattle.bihash_words.specs.Sizes.{Sizes, sizes_of}
use Rattle.bihash_words.specs.declared.shape.Shape.{Ghosts}
use Rattle.bihash_words.specs.declared.patch.Change.TheVariants.{Remove}
use Rattle.bihash_words.specs.declared.patch.Reply.{Reply}
use Rattle.bihash_rule.specs.Callers.{IsLawfulCaller}
use Rattle.bihash_rule.specs.declared.view.Call.{Call}
use Rattle.bihash_rule.specs.declared.view.Known.{Known}
use Rattle.bihash_rule.specs.declared.view.View.{View}
use Rattle.bihash_steps.specs.BucketCalls.{event}
use Rattle.bihash_steps.specs.CallerCalls.{IsIdle}
use Rattle.bihash_steps.specs.Seats.{CallerState}
use Rattle.bihash_table.specs.Ageing.{Ages, EndsAt, Look, LookInTurn, Sweeps}
use Rattle.bihash_table.proofs.LooksInTurn.{looks_join}
use Rattle.bihash_table.proofs.SameCallers.{same_through}
use Rattle.bihash_table.specs.Answers.{entry_of, with_locks}
use Rattle.bihash_table.specs.Promise.{IsContended}
use Rattle.session_state.specs.Sessions.{is_expired_at}
use Rattle.session_state.specs.declared.verdict.Verdict.{Verdict}
use Rattle.flow_filter.specs.OneThread.{same_family, sizes_in}
use Rattle.flow_dealing.specs.AgeingTraces.{Aged, AreInOrder, Deed, IsRemovalOf, aged_in, calls_by, items_in}
use Rattle.flow_dealing.specs.AgeingTraces as deed
use Rattle.flow_dealing.specs.Traces.{IsItem, IsItemOf, numbers_from}
use Rattle.flow_dealing.specs.Views.{Views}
use Rattle.flow_dealing.specs.Wanted.{HaveWanted}
use Rattle.flow_dealing.specs.WorkerRecords.{removal_delay}
use Rattle.flow_workers.specs.declared.ageing_clock.AgeingClock.{AgeingClock}
use Rattle.flow_workers.specs.declared.session_tables.Callers.{Callers}
use Rattle.flow_workers.specs.declared.worker_share.Batch.{Batch}
use Rattle.flow_workers.specs.declared.worker_share.Share.{Share}
use Rattle.flow_workers.specs.Callers.{views_of}
use Rattle.flow_workers.specs.inner.Ageing.{HasAged, HasAgedOn, IsOwn, MayAge}
use Rattle.flow_workers.specs.inner.AgeingTimes.{no_moment}
use Rattle.flow_workers.specs.inner.Jobs.{HasWorkedOn, run_facts}
use Rattle.flow_workers.specs.inner.Wanted.{KeepWanted}
use Rattle.flow_workers.specs.inner.Work.{AreSaid, IsWorkUntil, RecordContinues, RunFacts, numbers_of}
use Rattle.flow_workers.proofs.DealtLemmas.{stands_among}
use Rattle.flow_workers.proofs.WantedLemmas.{look_keeps_wanted, removal_keeps_wanted}
use Rattle.flow_workers.proofs.WorkSteps.{aged_join, calls_join, continues_none, continues_push, items_join}

-- ---- Records that go on, one after the other

continues_through : (v u w : View) (cs more : List Call) → RecordContinues v u cs → RecordContinues u w more
    → RecordContinues v w (cs ++ more)
continues_through v u w cs more first next = record {
  calls = λ r one.
      let a = first.calls r one in
      let b = next.calls (record r { calls = r.calls ++ cs; locks = a.0 }) a.1 in
      (b.0, b.1 ∙ ap (λ k. record r { calls = k; locks = b.0 } ∷ []) (append_assoc r.calls cs more));
  openings = next.openings ∙ first.openings;
}

-- nothing was called, and more may be known
continues_learned : (z : Sizes) (v w : View) (b : ℕ) → IsContended z v w b → RecordContinues v w []
continues_learned z v w b learned = record {
  calls = λ r one. (
    learned.locks,
    learned.records ∙ (ap (with_locks learned.locks) one
        ∙ ap (λ k. record r { calls = k; locks = learned.locks } ∷ []) (sym (append-nil r.calls))),
  );
  openings = ap (λ (k : Known). k.openings) learned.known;
}

-- ---- Deeds that are removals of one family

abbrev IsIn : Family → Aged → Type 0
IsIn family a = a.family ≡ family

calls_own : (family : Family) → same_family family family ≡ true → (aged : List Aged)
    → All (IsIn family) aged → calls_by family (map deed.Ages aged) ≡ map (λ a. a.call) aged
calls_own family own [] all = refl
calls_own family own (a ∷ aged) all =
    let rest = calls_own family own aged (All-tail (IsIn family) a aged all) in
    ap (λ f. if same_family family f then a.call ∷ calls_by family (map deed.Ages aged) else calls_by family (map deed.Ages aged))
    (All-head (IsIn family) a aged all)
    ∙ (ap (λ t. if t then a.call ∷ calls_by family (map deed.Ages aged) else calls_by family (map deed.Ages aged)) own
    ∙ ap (λ cs. a.call ∷ cs) rest)

calls_other : (family other : Family) → same_family other family ≡ false → (aged : List Aged)
    → All (IsIn family) aged → calls_by other (map deed.Ages aged) ≡ []
calls_other family other apart [] all = refl
calls_other family other apart (a ∷ aged) all =
    let rest = calls_other family other apart aged (All-tail (IsIn family) a aged all) in
    ap (λ f. if same_family other f then a.call ∷ calls_by other (map deed.Ages aged) else calls_by other (map deed.Ages aged))
    (All-head (IsIn family) a aged all)
    ∙ (ap (λ t. if t then a.call ∷ calls_by other (map deed.Ages aged) else calls_by other (map deed.Ages aged)) apart
    ∙ rest)

no_items : (aged : List Aged) → items_in (map deed.Ages aged) ≡ []
no_items [] = refl
no_items (a ∷ aged) = no_items aged

all_aged : (aged : List Aged) → aged_in (map deed.Ages aged) ≡ aged
all_aged [] = refl
all_aged (a ∷ aged) = ap (λ others. a ∷ others) (all_aged aged)

abbrev IsBehind : ℕ → Aged → Type 0
IsBehind at a = a.behind ≡ at

in_order_behind : (n at : ℕ) → at ≤ n → (aged : List Aged) → All (IsBehind at) aged → (more : List Deed)
    → AreInOrder n at more → AreInOrder n at (map deed.Ages aged ++ more)
in_order_behind n at inside [] all more order = order
in_order_behind n at inside (a ∷ aged) all more order =
    let here = All-head (IsBehind at) a aged all in (
      omega arith,
      omega arith,
      subst (λ b. AreInOrder n b (map deed.Ages aged ++ more)) (sym here)
          (in_order_behind n at inside aged (All-tail (IsBehind at) a aged all) more order),
    )

-- ---- Looks of a worker at its own buckets, before it judges a packet

module _ (run : RunFacts) (ages : run.ages ≡ true) (w at : ℕ) (packet : PacketFacts)
    (stands : slice_get run.packets at ≡ Some packet) where
  abbrev IsRemoval : Aged → Type 0
  IsRemoval = IsRemovalOf run.deal run.times run.ages run.packets w

  abbrev is_due : ℕ → Bool
  is_due = is_expired_at run.times (packet.moment - removal_delay)

  -- what they leave of the caller of one family's table
  record Leaves (family : Family) (v u : View) : Type 0 where
    aged : List Aged
    removals : All IsRemoval aged
    behind : All (IsBehind at) aged
    own : All (IsIn family) aged
    calls : RecordContinues v u (map (λ a. a.call) aged)
    wanted : HaveWanted (sizes_in run.deal.layout family) v → HaveWanted (sizes_in run.deal.layout family) u

  module _ (family : Family) where
    leaves_more : (v u x : View) (b : ℕ) (found : Option Reply) → IsOwn run.deal.workers w b
        → Ages (sizes_in run.deal.layout family) v u b is_due found → IsLawfulCaller (sizes_in run.deal.layout family) u
        → Leaves family u x → Leaves family v x
    leaves_more v u x b None own looked lawful more = record {
      aged = more.aged;
      removals = more.removals;
      behind = more.behind;
      own = more.own;
      calls = continues_through v u x [] (map (λ a. a.call) more.aged)
          (continues_learned (sizes_in run.deal.layout family) v u b looked.learned) more.calls;
      wanted = λ had. more.wanted (look_keeps_wanted (sizes_in run.deal.layout family) v u b looked.learned had);
    }
    leaves_more v u x b (Some reply) own looked lawful more = record {
      aged = a ∷ more.aged;
      removals = All-cons IsRemoval a more.aged (record {
        may = ages;
        late = record {
          word = looked.value;
          found = refl;
          short = looked.word;
          ended = looked.expired;
          change = refl;
        };
        own = own ∙ ap (λ n. n % run.deal.workers) (sym looked.home);
        packet = packet;
        there = stands;
        timed = refl;
      }) more.removals;
      behind = All-cons (IsBehind at) a more.aged refl more.behind;
      own = All-cons (IsIn family) a more.aged refl more.own;
      calls = continues_through v u x (a.call ∷ []) (map (λ a. a.call) more.aged)
          (continues_push (sizes_in run.deal.layout family) v v u [] (event looked.key (Some looked.value) Remove reply) looked.answered
          (continues_none v)) more.calls;
      wanted = λ had. more.wanted (removal_keeps_wanted (sizes_in run.deal.layout family) v u looked.key looked.value reply
          looked.answered lawful had);
    }
      where
        a : Aged
        a = record {
          behind = at;
          moment = packet.moment;
          family = family;
          call = entry_of (sizes_in run.deal.layout family) (length looked.answered.history)
              (event looked.key (Some looked.value) Remove reply) looked.answered.noted;
        }

    leaves : (looks : List Look) (v u : View) → LookInTurn (sizes_in run.deal.layout family) is_due v looks u
        → All (λ look. IsOwn run.deal.workers w look.bucket) looks → Leaves family v u
    leaves [] v u same own = subst (Leaves family v) (sym same) (record {
      aged = [];
      removals = All-nil IsRemoval;
      behind = All-nil (IsBehind at);
      own = All-nil (IsIn family);
      calls = continues_none v;
      wanted = λ had. had;
    })
    leaves (look ∷ looks) v u (x, one, lawful, rest) own =
        leaves_more v x u look.bucket look.found (All-head (λ l. IsOwn run.deal.workers w l.bucket) look looks own) one lawful
        (leaves looks x u rest (All-tail (λ l. IsOwn run.deal.workers w l.bucket) look looks own))

  -- the worker's deeds, with these removals behind them
  module _ (v x y : Views) (verdicts : List Verdict) (old : IsWorkUntil run w at v x verdicts) where
    with_aged : (aged : List Aged) → All IsRemoval aged → All (IsBehind at) aged
        → RecordContinues v.four y.four (calls_by V4 (old.deeds ++ map deed.Ages aged))
        → RecordContinues v.six y.six (calls_by V6 (old.deeds ++ map deed.Ages aged))
        → KeepWanted run.deal.layout v y → IsWorkUntil run w at v y verdicts
    with_aged aged removals behind four six wanted = record {
      deeds = old.deeds ++ map deed.Ages aged;
      items = subst (All (IsItem run.deal.layout run.times)) (sym items_are) old.items;
      of = subst (All (IsItemOf run.deal w run.policy run.packets)) (sym items_are) old.of;
      dealt = λ views all. ap (λ is. numbers_of is ++ numbers_from run.deal w at (drop at views)) items_are ∙ old.dealt views all;
      removals = subst (All IsRemoval) (sym (aged_join old.deeds (map deed.Ages aged) ∙ ap (λ others. aged_in old.deeds ++ others) (all_aged aged)))
          (All-append IsRemoval (aged_in old.deeds) aged old.removals removals);
      order = λ more in_order.
          subst (AreInOrder (length run.packets) 0) (sym (append_assoc old.deeds (map deed.Ages aged) more))
          (old.order (map deed.Ages aged ++ more) (in_order_behind (length run.packets) at
          (let inside = slice_get_within run.packets at _ stands in omega arith) aged behind more in_order));
      four = four;
      six = six;
      wanted = wanted;
      said = subst (λ is. AreSaid is verdicts) (sym items_are) old.said;
    }
      where
        items_are : items_in (old.deeds ++ map deed.Ages aged) ≡ items_in old.deeds
        items_are = items_join old.deeds (map deed.Ages aged)
            ∙ (ap (λ is. items_in old.deeds ++ is) (no_items aged) ∙ append-nil (items_in old.deeds))

    -- a family's calls, with those of removals behind them
    calls_with : (family : Family) (aged : List Aged) (cs : List Call)
        → calls_by family (map deed.Ages aged) ≡ cs
        → calls_by family (old.deeds ++ map deed.Ages aged) ≡ calls_by family old.deeds ++ cs
    calls_with family aged cs are =
        calls_join family old.deeds (map deed.Ages aged) ∙ ap (λ k. calls_by family old.deeds ++ k) are

  pub four_aged : (v x : Views) (u : View) (verdicts : List Verdict) (looks : List Look)
      → LookInTurn run.deal.layout.four is_due x.four looks u → All (λ look. IsOwn run.deal.workers w look.bucket) looks
      → IsWorkUntil run w at v x verdicts → IsWorkUntil run w at v (record { four = u; six = x.six }) verdicts
  four_aged v x u verdicts looks looked own old =
      let l = leaves V4 looks x.four u looked own in
      with_aged v x (record { four = u; six = x.six }) verdicts old l.aged l.removals l.behind
      (subst (RecordContinues v.four u) (sym (calls_with v x (record { four = u; six = x.six }) verdicts old V4 l.aged _
      (calls_own V4 refl l.aged l.own)))
      (continues_through v.four x.four u (calls_by V4 old.deeds) (map (λ a. a.call) l.aged) old.four l.calls))
      (subst (RecordContinues v.six x.six) (sym (calls_with v x (record { four = u; six = x.six }) verdicts old V6 l.aged []
      (calls_other V4 V6 refl l.aged l.own) ∙ append-nil (calls_by V6 old.deeds))) old.six)
      (λ had. l.wanted (old.wanted.0 had), old.wanted.1)

  pub six_aged : (v x : Views) (u : View) (verdicts : List Verdict) (looks : List Look)
      → LookInTurn run.deal.layout.six is_due x.six looks u → All (λ look. IsOwn run.deal.workers w look.bucket) looks
      → IsWorkUntil run w at v x verdicts → IsWorkUntil run w at v (record { four = x.four; six = u }) verdicts
  six_aged v x u verdicts looks looked own old =
      let l = leaves V6 looks x.six u looked own in
      with_aged v x (record { four = x.four; six = u }) verdicts old l.aged l.removals l.behind
      (subst (RecordContinues v.four x.four) (sym (calls_with v x (record { four = x.four; six = u }) verdicts old V4 l.aged []
      (calls_other V6 V4 refl l.aged l.own) ∙ append-nil (calls_by V4 old.deeds))) old.four)
      (subst (RecordContinues v.six u) (sym (calls_with v x (record { four = x.four; six = u }) verdicts old V6 l.aged _
      (calls_own V6 refl l.aged l.own)))
      (continues_through v.six x.six u (calls_by V6 old.deeds) (map (λ a. a.call) l.aged) old.six l.calls))
      (old.wanted.0, λ had. l.wanted (old.wanted.1 had))

-- ---- A caller of one table

-- it belongs to the table as before, and holds nothing
pub idle_aged : (z : Sizes) (workers worker : ℕ) (is_expired : ℕ → Bool) (s t : CallerState) {row : _} → IsIdle row s
    → HasAged z workers worker is_expired s t → IsIdle row t
idle_aged z workers worker is_expired s t idle aged = record {
  own = ap (λ (k : CallerState). k.row) aged.same ∙ idle.own;
  free = aged.free;
}

-- one bucket more was swept
aged_more : (z : Sizes) (workers worker b went : ℕ) (is_expired : ℕ → Bool) (s u t : CallerState)
    → HasAged z workers worker is_expired s u → Sweeps z u t b (b + 1) is_expired went → IsOwn workers worker b
    → HasAged z workers worker is_expired s t
aged_more z workers worker b went is_expired s u t aged swept own = record {
  same = same_through s u t _ aged.same swept.same;
  free = swept.free;
  lawful = swept.lawful (omega arith);
  looks = aged.looks ++ swept.looks;
  own = All-append (λ look. IsOwn workers worker look.bucket) aged.looks swept.looks aged.own
      (All-weaker (λ look. (b ≤ look.bucket) × (look.bucket < b + 1)) (λ look. IsOwn workers worker look.bucket) (λ look inside. let e : look.bucket ≡ b = (let low = inside.0 in let high = inside.1 in omega arith) in
      subst (IsOwn workers worker) (sym e) own) swept.looks swept.within);
  ages = looks_join z is_expired s.view u.view t.view aged.looks swept.looks aged.ages swept.ages;
}

-- looks that come after others end where they do
ends_behind : (first more : List Look) (b : ℕ) → EndsAt more b → EndsAt (first ++ more) b
ends_behind first more b ends = record {
  before = first ++ ends.before;
  after = ends.after;
  found = ends.found;
  splits = ap (λ looks. first ++ looks) ends.splits
      ∙ sym (append_assoc first ends.before (record { bucket = b; found = ends.found } ∷ ends.after));
  stays = ends.stays;
  later = ends.later;
}

-- and this place is behind it
pub aged_on : (z : Sizes) (workers worker b went from next : ℕ) (is_expired : ℕ → Bool) (s u t : CallerState)
    → HasAged z workers worker is_expired s u → Sweeps z u t b (b + 1) is_expired went → IsOwn workers worker b
    → next ≡ min (b + workers) no_moment → HasAgedOn z workers worker is_expired s t from next
unfolding aged_more
aged_on z workers worker b went from next is_expired s u t aged swept own is = (
  aged_more z workers worker b went is_expired s u t aged swept own,
  inr (b, ends_behind aged.looks swept.looks b (swept.each b (omega arith) (omega arith)), is),
)

-- ---- A worker

pub worked_aged : {A B R G K L : Type 0} (ga : Ghosts A K) (gb : Ghosts B L) (batch : Batch A B R G K L) (w at moment past : ℕ)
    (share : Share A B K L ga gb) (callers : Callers A B K L ga gb) (clock : AgeingClock) → MayAge ga gb batch w at moment share
    → batch.setup.ages ≡ true → past ≡ moment - removal_delay
    → HasAged (sizes_of ga) batch.setup.workers w (is_expired_at batch.setup.filter.now.times past) share.callers.four.seat
    callers.four.seat
    → HasAged (sizes_of gb) batch.setup.workers w (is_expired_at batch.setup.filter.now.times past) share.callers.six.seat
    callers.six.seat
    → HasWorkedOn ga gb batch w at at share (record { callers = callers; said = share.said; clock = clock })
worked_aged ga gb batch w at moment past share callers clock may ages is four six = record {
  idle = record {
    own = (
      ap (λ (k : CallerState). k.row) four.same ∙ may.idle.own.0,
      ap (λ (k : CallerState). k.row) six.same ∙ may.idle.own.1,
    );
    free = (four.free, six.free);
    lawful = (four.lawful, six.lawful);
  };
  work = λ all among v said old.
      let run = run_facts ga gb batch.setup all in
      let stands = stands_among ga gb batch all among at may.packet may.there in
      let due : past ≡ may.packet.moment - removal_delay = is ∙ ap (λ m. m - removal_delay) (sym may.timed) in
      let x = views_of ga gb share.callers in
      let y : Views = record { four = callers.four.seat.view; six = x.six } in
      six_aged run ages w (batch.first + at) may.packet stands v y callers.six.seat.view (said ++ share.said.items) six.looks
      (subst (λ p. LookInTurn (sizes_of gb) (is_expired_at run.times p) x.six six.looks callers.six.seat.view) due six.ages) six.own
      (four_aged run ages w (batch.first + at) may.packet stands v x callers.four.seat.view (said ++ share.said.items) four.looks
      (subst (λ p. LookInTurn (sizes_of ga) (is_expired_at run.times p) x.four four.looks callers.four.seat.view) due four.ages) four.own
      old);
}
