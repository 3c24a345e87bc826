-- One worker that hands over what it said, and then has every number that was made.
use Rattle.std.proofs.Common.{◌≡◌, ◌∙◌, ℕ, zero, suc, List, [], ◌∷◌, ◌++◌, ap, append-nil, arith, subst, sym}
use Rattle.std.specs.List.{All}
use lib.ListN.{get_elem?}
use mathlib.Core.Option.{some, some-ne-none, some-injective}
use Rattle.packet_view.specs.Captures.{PacketFacts}
use Rattle.packet_view.specs.declared.tuple.Family.TheVariants.{V4, V6}
use Rattle.bihash_words.specs.Sizes.{Sizes, sizes_of}
use Rattle.bihash_words.specs.declared.shape.Shape.{Ghosts}
use Rattle.bihash_steps.specs.Seats.{CallerState}
use Rattle.bihash_rule.specs.declared.view.Call.{Call}
use Rattle.bihash_rule.specs.declared.view.Known.{Known}
use Rattle.bihash_rule.specs.declared.view.View.{View}
use Rattle.session_state.specs.declared.verdict.Verdict.{Verdict}
use Rattle.flow_dealing.specs.Views.{Views}
use Rattle.flow_dealing.specs.AgeingTraces.{AreDeeds, items_in}
use Rattle.flow_dealing.specs.Wanted.{HasWanted, HaveWanted}
use Rattle.flow_dealing.proofs.TraceMerges.{judge_each_packet}
use Rattle.flow_workers.specs.declared.worker_setup.Setup.{Setup}
use Rattle.flow_workers.specs.declared.worker_share.Share.{Share}
use Rattle.flow_workers.specs.declared.session_tables.Callers.{Callers}
use Rattle.flow_workers.specs.declared.session_tables.Tables.{Tables}
use Rattle.flow_workers.specs.Callers.{AreIdle, views_of}
use Rattle.flow_workers.specs.Progress.{HaveAllSaid, IsAtRestAfter}
use Rattle.flow_workers.specs.inner.LettingGo.{HasLetGo}
use Rattle.flow_workers.specs.inner.CallerSplits.{IsMadeWhole}
use Rattle.flow_workers.specs.inner.Jobs.{run_facts}
use Rattle.flow_workers.specs.inner.Work.{RecordContinues}
use Rattle.flow_workers.proofs.WorkerCallerLemmas.{same_deeds}
use Rattle.flow_workers.proofs.MergeLemmas.{one_placed}
use Rattle.flow_workers.proofs.WorkerResultLemmas.{gathered, rest_done}

-- ---- A caller that made each write that it knows

whole_continues : (z : Sizes) (v : View) (s t : CallerState) (more : List Call) → IsMadeWhole z s t
    → RecordContinues v s.view more → RecordContinues v t.view more
whole_continues z v s t more whole goes = record {
  calls = λ r is. let c = goes.calls r is in (c.0, whole.records ∙ c.1);
  openings = ap (λ (k : Known). k.openings) whole.known ∙ goes.openings;
}

whole_wanted : (z of : Sizes) (s t : CallerState) → IsMadeWhole z s t → HaveWanted of s.view → HaveWanted of t.view
whole_wanted z of s t whole had =
    subst (λ k. All (λ r. All (HasWanted of k) r.calls) t.view.records) (sym whole.known)
    (subst (All (λ r. All (HasWanted of s.view.known) r.calls)) (sym whole.records) had)

pub whole_idle : {A B K L : Type 0} (ga : Ghosts A K) (gb : Ghosts B L) (tables : Tables A B K L)
    (old new : Callers A B K L ga gb) → IsMadeWhole (sizes_of ga) old.four.seat new.four.seat
    → IsMadeWhole (sizes_of gb) old.six.seat new.six.seat → AreIdle ga gb tables old → AreIdle ga gb tables new
whole_idle ga gb tables old new four six idle = record {
  own = (four.own ∙ idle.own.0, six.own ∙ idle.own.1);
  free = (four.holds ∙ idle.free.0, six.holds ∙ idle.free.1);
  lawful = (four.lawful, six.lawful);
}

-- ---- One worker

only_there : {X : Type 0} (x y : X) (k : ℕ) (P : ℕ → X → Type 0) → P 0 x → get_elem? (x ∷ []) k ≡ some y → P k y
only_there x y zero P is at = subst (P 0) (some-injective x y at) is
only_there x y (suc k) P is at = absurd (some-ne-none y (sym at))

module _ {A B R G K L : Type 0} (ga : Ghosts A K) (gb : Ghosts B L) (setup : Setup A B R G K L)
    (packets : List PacketFacts) (before : List Verdict) (old new : Share A B K L ga gb) (said : List Verdict)
    (rest : IsAtRestAfter ga gb before setup packets 0 old) (gone : HasLetGo ga gb setup.tables.now old new said) where
  -- it is at rest without what it said
  pub rest_let_go : IsAtRestAfter ga gb (before ++ said) setup packets 0 new
  rest_let_go = record {
    idle = gone.idle;
    began = rest.began;
    fresh = rest.fresh;
    work = λ more. let work = rest.work more in record {
      deeds = work.deeds;
      items = work.items;
      of = work.of;
      dealt = work.dealt;
      removals = work.removals;
      order = work.order;
      four = whole_continues _ _ _ _ _ gone.four work.four;
      six = whole_continues _ _ _ _ _ gone.six work.six;
      wanted = (
        λ had. whole_wanted _ _ _ _ gone.four (work.wanted.0 had),
        λ had. whole_wanted _ _ _ _ gone.six (work.wanted.1 had),
      );
      said = ap (λ vs. (before ++ said) ++ vs) gone.silent ∙ append-nil (before ++ said)
          ∙ ap (λ vs. before ++ vs) gone.said ∙ work.said;
    };
  }

  -- and that are the verdicts on all packets
  pub judged_let_go : setup.workers ≡ 1 → HaveAllSaid ga gb setup packets (before ++ said)
  judged_let_go one =
      let run = run_facts ga gb setup packets in
      let done = rest_done ga gb before setup packets 0 old rest in
      let v : Views = views_of ga gb new.callers in (
        v,
        judge_each_packet run.deal run.times run.ages run.policy run.packets (done.deeds ∷ []) v (before ++ said) (omega arith)
            (record {
              count = sym one;
              each = λ w t at.
                  only_there done.deeds t w (λ n x. AreDeeds run.deal run.times run.ages n run.policy run.packets x) done.are at;
            })
            (gathered ga gb setup.tables.now run (done.deeds ∷ []) v
            (gone.four.lawful, gone.six.lawful) (gone.four.whole, gone.six.whole)
            (same_deeds _ V4 _ _ _ gone.four.records gone.four.known done.four)
            (same_deeds _ V6 _ _ _ gone.six.records gone.six.known done.six))
            (one_placed run (items_in done.deeds) (before ++ said) one done.are.trace (ap (λ vs. before ++ vs) gone.said ∙ done.said)),
      )
