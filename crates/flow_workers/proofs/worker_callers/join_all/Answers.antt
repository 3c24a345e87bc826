use Rattle.std.proofs.Common.{◌≡◌, ◌∙◌, ◌++◌, ◌∷◌, [], All, List, ap, append_assoc, arith, sym, subst}
use Rattle.std.specs.List.{AllZip}
use Rattle.bihash_rule.specs.Views.{nothing_held}
use Rattle.flow_dealing.specs.AgeingTraces.{Deed, HaveDeeds}
use Rattle.flow_workers.proofs.WorkerCallerLemmas.{all_but_last, last_of, no_deeds}
use Rattle.flow_workers.proofs.worker_callers.join_all.Goals as goal

pub loop-caller-init : goal.loop-caller-init
loop-caller-init g c =
    let popped : c.args.callers.items ≡ c.pop.new.self.items ++ c.in-Some.joined ∷ [] = c.in-Some.ensures.items in
    let own =
    all_but_last (λ k. k.seat.row ≡ c.args.table.now.row) _ _
    (subst (All (λ k. k.seat.row ≡ c.args.table.now.row)) popped c.requires.own) in
    let free =
    all_but_last (λ k. k.seat.view.holds ≡ nothing_held) _ _
    (subst (All (λ k. k.seat.view.holds ≡ nothing_held)) popped c.requires.free) in
    record {
      left = (own.0, free.0);
      own = own.1;
      free = free.1;
      deeds = λ z family all each.
          let last = last_of (λ deeds k. HaveDeeds z family (deeds ∷ []) k.seat.view) all _ _
          (subst (AllZip (λ deeds k. HaveDeeds z family (deeds ∷ []) k.seat.view) all) popped each) in
          (last.front, last.last ∷ [], last.split, last.others, last.one);
    }

pub join_one-joined-requires : goal.join_one-joined-requires
join_one-joined-requires g c =
    let popped : c.loop-caller.callers.items ≡ c.pop-in-loop-caller.new.self.items ++ c.in-Some-pop.caller ∷ [] =
    c.in-Some-pop.ensures.items in
    let left = c.loop-caller.invariant.left in record {
      own = (
        (all_but_last (λ k. k.seat.row ≡ c.args.table.now.row) _ _
            (subst (All (λ k. k.seat.row ≡ c.args.table.now.row)) popped left.0)).1,
        c.loop-caller.invariant.own,
      );
      free = (
        (all_but_last (λ k. k.seat.view.holds ≡ nothing_held) _ _
            (subst (All (λ k. k.seat.view.holds ≡ nothing_held)) popped left.1)).1,
        c.loop-caller.invariant.free,
      );
    }

pub loop-caller-preserved : goal.loop-caller-preserved
loop-caller-preserved g c =
    let popped : c.loop-caller.callers.items ≡ c.pop-in-loop-caller.new.self.items ++ c.in-Some-pop.caller ∷ [] =
    c.in-Some-pop.ensures.items in
    let inv = c.loop-caller.invariant in
    record {
      left = (
        (all_but_last (λ k. k.seat.row ≡ c.args.table.now.row) _ _
            (subst (All (λ k. k.seat.row ≡ c.args.table.now.row)) popped inv.left.0)).0,
        (all_but_last (λ k. k.seat.view.holds ≡ nothing_held) _ _
            (subst (All (λ k. k.seat.view.holds ≡ nothing_held)) popped inv.left.1)).0,
      );
      own = c.join_one-joined.ensures.own;
      free = c.join_one-joined.ensures.free;
      deeds = λ z family all each.
          let old = inv.deeds z family all each in
          let last = last_of (λ deeds k. HaveDeeds z family (deeds ∷ []) k.seat.view) old.0 _ _
          (subst (AllZip (λ deeds k. HaveDeeds z family (deeds ∷ []) k.seat.view) old.0) popped old.3) in (
            last.front,
            last.last ∷ old.1,
            old.2 ∙ (ap (λ (ts : List (List Deed)). ts ++ old.1) last.split
                ∙ append_assoc last.front (last.last ∷ []) old.1),
            last.others,
            c.join_one-joined.ensures.deeds z family last.last old.1 last.one old.4,
          );
    }

pub returns : goal.returns
returns g c =
    let left : c.loop-caller.callers.items ≡ [] =
    grind (arith, c.in_default-pop.ensures.items, c.in_default-pop.ensures.cases) in
    record {
      own = c.loop-caller.invariant.own;
      free = c.loop-caller.invariant.free;
      deeds = λ z family all each.
          let old = c.loop-caller.invariant.deeds z family all each in
          subst (λ ts. HaveDeeds z family ts c.loop-caller.joined.seat.view)
          (sym (old.2 ∙ ap (λ (ts : List (List Deed)). ts ++ old.1) (no_deeds _ old.0 _ left old.3))) old.4;
    }
