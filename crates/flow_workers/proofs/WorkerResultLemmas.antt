-- The workers' shares, taken apart.
use Rattle.std.proofs.Common.{◌≡◌, ◌≤◌, ◌∙◌, ◌+◌, ◌<◌, ℕ, zero, suc, List, [], ◌∷◌, ◌++◌, append-nil, get_or, length, map, ap, arith, refl, sym, subst}
use Rattle.std.specs.List.{All, AllZip}
use Rattle.std.proofs.Math.Seq.{drop-length}
use Rattle.std.proofs.lemmas.List.Elements.{All-cons, All-map, All-nil, All-weaker}
use lib.ListN.{get_elem?}
use mathlib.Core.Option.{some, some-ne-none, some-injective}
use Rattle.packet_view.specs.Captures.{PacketFacts}
use Rattle.packet_view.specs.declared.tuple.Family.{Family}
use Rattle.packet_view.specs.declared.tuple.Family.TheVariants.{V4, V6}
use Rattle.bihash_words.specs.declared.shape.Shape.{Ghosts}
use Rattle.bihash_rule.specs.Callers.{IsLawfulCaller}
use Rattle.bihash_steps.specs.Steps.{IsToldWhole}
use Rattle.bihash_rule.specs.Views.{nothing_held}
use Rattle.bihash_steps.proofs.Lists.{within}
use Rattle.session_state.specs.declared.verdict.Verdict.{Verdict}
use Rattle.flow_dealing.specs.WorkerRecords.{AreJudgedAgeing}
use Rattle.flow_dealing.specs.Traces.{ArePlaced, IsTrace, Item}
use Rattle.flow_dealing.specs.AgeingTraces.{AreAllDeeds, AreDeeds, Deed, HaveDeeds, HaveDone, items_in}
use Rattle.flow_dealing.specs.Views.{Views, view_in}
use Rattle.flow_dealing.proofs.TraceMerges.{judge_each_packet}
use Rattle.flow_dealing.proofs.Places.{before_map, zip_count}
use Rattle.std.specs.Global.{Vec}
use Rattle.std.proofs.lemmas.List.{length-map}
use Rattle.flow_workers.specs.inner.Merges.{AreTold, LetGo, said_in_shares}
use Rattle.flow_workers.specs.declared.worker_share.WorkerResults.{WorkerResults}
use Rattle.flow_workers.specs.declared.worker_share.Share.{Share}
use Rattle.flow_workers.specs.declared.session_tables.Tables.{Tables}
use Rattle.flow_workers.specs.declared.worker_setup.Setup.{Setup}
use Rattle.flow_workers.specs.Callers.{AreIdle, views_of}
use Rattle.flow_workers.specs.Progress.{IsAtRestAfter, IsSoundSetup}
use Rattle.flow_workers.specs.inner.Jobs.{run_facts}
use Rattle.flow_workers.specs.inner.WorkerResults.{AreResults, AreResultsOf}
use Rattle.flow_workers.specs.inner.Work.{AreSaid, IsWork, IsWorkUntil, RunFacts}
use Rattle.flow_workers.proofs.TurnLemmas.{fresh_deeds}
use Rattle.flow_workers.proofs.WorkSteps.{whole_work}

-- ---- What all workers did

pub get_or_at : {X : Type 0} (xs : List X) (k : ℕ) (x d : X) → get_elem? xs k ≡ some x → get_or xs k d ≡ x
get_or_at [] k x d at = absurd (some-ne-none x (sym at))
get_or_at (y ∷ ys) zero x d at = some-injective y x at
get_or_at (y ∷ ys) (suc k) x d at = get_or_at ys k x d at

zip_map : {X Y Z : Type 0} (R : X → Z → Type 0) (f : Y → Z) (xs : List X) (ys : List Y)
    → AllZip (λ x y. R x (f y)) xs ys → AllZip R xs (map f ys)
zip_map R f [] [] all = tt
zip_map R f [] (y ∷ ys) all = absurd all
zip_map R f (x ∷ xs) [] all = absurd all
zip_map R f (x ∷ xs) (y ∷ ys) all = (all.0, zip_map R f xs ys all.1)

-- what a worker did: deeds, which are in its callers' records, and its verdicts, of which it doesn't keep the first
pub record IsDone {A B K L : Type 0} (ga : Ghosts A K) (gb : Ghosts B L) (before : List Verdict) (tables : Tables A B K L)
    (run : RunFacts) (w : ℕ) (share : Share A B K L ga gb) : Type 0 where
  pub idle : AreIdle ga gb tables share.callers
  pub deeds : List Deed
  pub are : AreDeeds run.deal run.times run.ages w run.policy run.packets deeds
  pub four : HaveDeeds run.deal.layout.four V4 (deeds ∷ []) share.callers.four.seat.view
  pub six : HaveDeeds run.deal.layout.six V6 (deeds ∷ []) share.callers.six.seat.view
  pub said : AreSaid (items_in deeds) (before ++ share.said.items)

module _ {A B K L : Type 0} (ga : Ghosts A K) (gb : Ghosts B L) (tables : Tables A B K L) (run : RunFacts) (gone : LetGo) where
  -- the shares of the workers from one on
  record AllDone (w : ℕ) (shares : List (Share A B K L ga gb)) : Type 0 where
    all : List (List Deed)
    count : length all ≡ length shares
    each : (k : ℕ) (t : List Deed) → get_elem? all k ≡ some t
        → AreDeeds run.deal run.times run.ages (w + k) run.policy run.packets t
    idle : All (λ s. AreIdle ga gb tables s.callers) shares
    four : AllZip (λ t s. HaveDeeds run.deal.layout.four V4 (t ∷ []) s.callers.four.seat.view) all shares
    six : AllZip (λ t s. HaveDeeds run.deal.layout.six V6 (t ∷ []) s.callers.six.seat.view) all shares
    said : (k : ℕ) (t : List Deed) (s : Share A B K L ga gb) → get_elem? all k ≡ some t → get_elem? shares k ≡ some s
        → AreSaid (items_in t) (gone (w + k) ++ s.said.items)

  all_done : (w : ℕ) (shares : List (Share A B K L ga gb))
      → ((k : ℕ) (s : Share A B K L ga gb) → get_elem? shares k ≡ some s → IsDone ga gb (gone (w + k)) tables run (w + k) s)
      → AllDone w shares
  all_done w [] done = record {
    all = [];
    count = refl;
    each = λ k t at. absurd (some-ne-none t (sym at));
    idle = All-nil (λ x. AreIdle ga gb tables x.callers);
    four = tt;
    six = tt;
    said = λ k t s at there. absurd (some-ne-none t (sym at));
  }
  all_done w (s ∷ ss) done =
      let one = done 0 s refl in
      let more =
      all_done (w + 1) ss (λ k x at. subst (λ n. IsDone ga gb (gone n) tables run n x)
      (let e : w + suc k ≡ w + 1 + k = omega arith in e) (done (suc k) x at)) in
      record {
        all = one.deeds ∷ more.all;
        count = ap suc more.count;
        each = next one.deeds more.all one.are more.each;
        idle = All-cons (λ x. AreIdle ga gb tables x.callers) s ss one.idle more.idle;
        four = (one.four, more.four);
        six = (one.six, more.six);
        said = next_said one.deeds more.all one.said more.said;
      }
    where
      next_said : (x : List Deed) (xs : List (List Deed)) → AreSaid (items_in x) (gone (w + 0) ++ s.said.items)
          → ((k : ℕ) (t : List Deed) (y : Share A B K L ga gb) → get_elem? xs k ≡ some t → get_elem? ss k ≡ some y
          → AreSaid (items_in t) (gone (w + 1 + k) ++ y.said.items))
          → (k : ℕ) (t : List Deed) (y : Share A B K L ga gb) → get_elem? (x ∷ xs) k ≡ some t → get_elem? (s ∷ ss) k ≡ some y
          → AreSaid (items_in t) (gone (w + k) ++ y.said.items)
      next_said x xs one more zero t y at there =
          subst (λ z. AreSaid (items_in t) (gone (w + 0) ++ z.said.items)) (some-injective s y there)
          (subst (λ k. AreSaid (items_in k) (gone (w + 0) ++ s.said.items)) (some-injective x t at) one)
      next_said x xs one more (suc k) t y at there =
          subst (λ n. AreSaid (items_in t) (gone n ++ y.said.items))
          (let e : w + 1 + k ≡ w + suc k = omega arith in e) (more k t y at there)

      next : (x : List Deed) (xs : List (List Deed)) → AreDeeds run.deal run.times run.ages (w + 0) run.policy run.packets x
          → ((k : ℕ) (t : List Deed) → get_elem? xs k ≡ some t
          → AreDeeds run.deal run.times run.ages (w + 1 + k) run.policy run.packets t)
          → (k : ℕ) (t : List Deed) → get_elem? (x ∷ xs) k ≡ some t
          → AreDeeds run.deal run.times run.ages (w + k) run.policy run.packets t
      next x xs one more zero t at =
          subst (λ k. AreDeeds run.deal run.times run.ages (w + 0) run.policy run.packets k) (some-injective x t at) one
      next x xs one more (suc k) t at =
          subst (λ n. AreDeeds run.deal run.times run.ages n run.policy run.packets t)
          (let e : w + 1 + k ≡ w + suc k = omega arith in e) (more k t at)

  -- the deeds of all workers
  all_deeds : (shares : List (Share A B K L ga gb)) → length shares ≡ run.deal.workers → (a : AllDone 0 shares)
      → AreAllDeeds run.deal run.times run.ages run.policy run.packets a.all
  all_deeds shares count a = record {
    count = a.count ∙ count;
    each = λ w t at. let e : 0 + w ≡ w = omega arith in
        subst (λ n. AreDeeds run.deal run.times run.ages n run.policy run.packets t) e (a.each w t at);
  }

  -- what all workers said
  all_told : (shares : List (Share A B K L ga gb)) → length shares ≡ run.deal.workers → 0 < run.deal.workers
      → run.deal.workers ≤ 16 → (a : AllDone 0 shares) → AreTold run (map items_in a.all) gone (said_in_shares shares)
  all_told shares count some_worker few a = record {
    some_worker = some_worker;
    few = few;
    traced = record {
      count = length-map a.all items_in ∙ (a.count ∙ count);
      each = λ w t at. let of = before_map items_in a.all w t at in
          subst (IsTrace run.deal run.times w run.policy run.packets) of.2 ((all_deeds shares count a).each w of.0 of.1).trace;
    };
    count = length-map shares (λ (s : Share A B K L ga gb). s.said) ∙ count;
    said = λ w t said at there.
        let s = before_map (λ (s : Share A B K L ga gb). s.said) shares w said there in
        let of = before_map items_in a.all w t at in
        subst (λ (v : Vec Verdict). AreSaid t (gone w ++ v.items)) s.2
        (subst (λ x. AreSaid x (gone w ++ s.0.said.items)) of.2
        (let e : 0 + w ≡ w = omega arith in subst (λ n. AreSaid (items_in of.0) (gone n ++ s.0.said.items)) e (a.said w of.0 s.0 of.1 s.1)));
  }

  -- there is a caller of each worker
  pub results_count : (results : WorkerResults A B K L ga gb) → AreResults ga gb tables run gone results
      → (length results.four.items ≡ run.deal.workers) × (length results.six.items ≡ run.deal.workers)
  results_count results are = (
    sym (zip_count _ are.all results.four.items are.four) ∙ are.are.count,
    sym (zip_count _ are.all results.six.items are.six) ∙ are.are.count,
  )

module _ {A B K L : Type 0} (ga : Ghosts A K) (gb : Ghosts B L) (tables : Tables A B K L) (run : RunFacts) where
  -- the callers of a family's table, joined
  pub gathered : (all : List (List Deed)) (v : Views)
      → IsLawfulCaller run.deal.layout.four v.four × IsLawfulCaller run.deal.layout.six v.six
      → IsToldWhole run.deal.layout.four v.four × IsToldWhole run.deal.layout.six v.six
      → HaveDeeds run.deal.layout.four V4 all v.four → HaveDeeds run.deal.layout.six V6 all v.six
      → (family : Family) → HaveDone run.deal family all (view_in v family)
  gathered all v lawful told four six V4 = record { lawful = lawful.0; told = told.0; did = four }
  gathered all v lawful told four six V6 = record { lawful = lawful.1; told = told.1; did = six }

  pub run_judged : (gone : LetGo) (results : WorkerResults A B K L ga gb) (p : AreResults ga gb tables run gone results)
      → (v : Views) → IsLawfulCaller run.deal.layout.four v.four × IsLawfulCaller run.deal.layout.six v.six
      → IsToldWhole run.deal.layout.four v.four × IsToldWhole run.deal.layout.six v.six
      → HaveDeeds run.deal.layout.four V4 p.all v.four → HaveDeeds run.deal.layout.six V6 p.all v.six
      → (verdicts : List Verdict) → ArePlaced run.packets (map items_in p.all) verdicts
      → AreJudgedAgeing run.deal run.times run.ages run.policy run.packets verdicts v
  run_judged gone results p v lawful told four six verdicts placed =
      judge_each_packet run.deal run.times run.ages run.policy run.packets p.all v verdicts p.told.some_worker p.are
      (gathered p.all v lawful told four six) placed

-- a worker after all packets
pub rest_done : {A B R G K L : Type 0} (ga : Ghosts A K) (gb : Ghosts B L) (said : List Verdict) (setup : Setup A B R G K L)
    (packets : List PacketFacts) (w : ℕ) (share : Share A B K L ga gb) → IsAtRestAfter ga gb said setup packets w share
    → IsDone ga gb said setup.tables.now (run_facts ga gb setup packets) w share
rest_done ga gb said setup packets w share rest = record {
  idle = rest.idle;
  deeds = work.deeds;
  are = work.are;
  four = fresh_deeds _ V4 rest.began.four u.four work.deeds rest.fresh.0 work.four work.wanted.0;
  six = fresh_deeds _ V6 rest.began.six u.six work.deeds rest.fresh.1 work.six work.wanted.1;
  said = work.said;
}
  where
    run : RunFacts
    run = run_facts ga gb setup packets

    u : Views
    u = views_of ga gb share.callers

    all : List Verdict
    all = said ++ share.said.items

    work : IsWork run w rest.began u all
    work = whole_work run w (length packets) rest.began u all (drop-length packets)
        (subst (λ xs. IsWorkUntil (run_facts ga gb setup xs) w (length packets) rest.began u all)
        (append-nil packets) (rest.work []))

module _ {A B R G K L : Type 0} (ga : Ghosts A K) (gb : Ghosts B L) (setup : Setup A B R G K L)
    (packets : List PacketFacts) (gone : LetGo) (sound : IsSoundSetup ga gb setup) (shares : List (Share A B K L ga gb))
    (count : length shares ≡ setup.workers) (each : (i : ℕ) (d : Share A B K L ga gb) → i < setup.workers
    → IsAtRestAfter ga gb (gone i) setup packets i (get_or shares i d)) where
  done : (k : ℕ) (s : Share A B K L ga gb) → get_elem? shares k ≡ some s
      → IsDone ga gb (gone (0 + k)) setup.tables.now (run_facts ga gb setup packets) (0 + k) s
  done k s at =
      let e : k ≡ 0 + k = omega arith in
      subst (λ n. IsDone ga gb (gone n) setup.tables.now (run_facts ga gb setup packets) n s) e
      (subst (IsDone ga gb (gone k) setup.tables.now (run_facts ga gb setup packets) k) (get_or_at shares k s s at)
      (rest_done ga gb (gone k) setup packets k (get_or shares k s)
      (each k s (let inside = within shares k s at in omega arith))))

  all : AllDone ga gb setup.tables.now (run_facts ga gb setup packets) gone 0 shares
  all = all_done ga gb setup.tables.now (run_facts ga gb setup packets) gone 0 shares done

  -- what all workers said, by the traces that they did
  pub shares_told : (traces : List (List Item)) × AreTold (run_facts ga gb setup packets) traces gone (said_in_shares shares)
  shares_told = (
    map items_in all.all,
    all_told ga gb setup.tables.now (run_facts ga gb setup packets) gone shares count
        (let some_worker = sound.some in omega arith) sound.few all,
  )

  pub results_are : (results : WorkerResults A B K L ga gb) → AreResultsOf shares results
      → AreResults ga gb setup.tables.now (run_facts ga gb setup packets) gone results
  unfolding all shares_told
  results_are results of = record {
    all = all.all;
    are = all_deeds ga gb tables run gone shares count all;
    told = subst (AreTold run (map items_in all.all) gone) (sym of.said) shares_told.1;
    own = (
      subst (All (λ c. c.seat.row ≡ tables.four.row)) (sym of.four)
          (All-map (λ c. c.seat.row ≡ tables.four.row) (λ (s : Share A B K L ga gb). s.callers.four) shares
          (All-weaker _ _ (λ (s : Share A B K L ga gb) (idle : AreIdle ga gb tables s.callers). idle.own.0) shares
          all.idle)),
      subst (All (λ c. c.seat.row ≡ tables.six.row)) (sym of.six)
          (All-map (λ c. c.seat.row ≡ tables.six.row) (λ (s : Share A B K L ga gb). s.callers.six) shares
          (All-weaker _ _ (λ (s : Share A B K L ga gb) (idle : AreIdle ga gb tables s.callers). idle.own.1) shares
          all.idle)),
    );
    free = (
      subst (All (λ c. c.seat.view.holds ≡ nothing_held)) (sym of.four)
          (All-map (λ c. c.seat.view.holds ≡ nothing_held) (λ (s : Share A B K L ga gb). s.callers.four) shares
          (All-weaker _ _ (λ (s : Share A B K L ga gb) (idle : AreIdle ga gb tables s.callers). idle.free.0) shares
          all.idle)),
      subst (All (λ c. c.seat.view.holds ≡ nothing_held)) (sym of.six)
          (All-map (λ c. c.seat.view.holds ≡ nothing_held) (λ (s : Share A B K L ga gb). s.callers.six) shares
          (All-weaker _ _ (λ (s : Share A B K L ga gb) (idle : AreIdle ga gb tables s.callers). idle.free.1) shares
          all.idle)),
    );
    four =
        subst (AllZip (λ t c. HaveDeeds run.deal.layout.four V4 (t ∷ []) c.seat.view) all.all) (sym of.four)
        (zip_map _ _ all.all shares all.four);
    six =
        subst (AllZip (λ t c. HaveDeeds run.deal.layout.six V6 (t ∷ []) c.seat.view) all.all) (sym of.six)
        (zip_map _ _ all.all shares all.six);
  }
    where
      run : RunFacts
      run = run_facts ga gb setup packets

      tables : Tables A B K L
      tables = setup.tables.now
