use Rattle.std.proofs.Common.{arith, length, refl, sym, subst}
use Rattle.std.specs.Prelude.{slice_index_or}
use Rattle.flow_workers.specs.inner.Shares.{AreFresh, IsUnused}
use Rattle.flow_workers.proofs.TurnLemmas.{below_push, push_count}
use Rattle.flow_workers.proofs.share_splitting.split_shares.Goals as goal

pub loop-preserved : goal.loop-preserved
loop-preserved g c =
    let inv = c.loop.invariant in
    let longer = push_count c.loop.shares.items _ _ (length c.loop.shares.items) c.in_ok-push.ensures.items refl in
    let counted = inv.count in
    record {
      callers = c.in_ok-own.ensures.1;
      count = omega arith;
      each = λ i d below. subst (λ xs. IsUnused c.args.tables.now c.args.ages (slice_index_or xs i d))
          (sym c.in_ok-push.ensures.items)
          (below_push (λ k share. IsUnused c.args.tables.now c.args.ages share) c.loop.shares.items _ inv.each
          (record {
            callers = subst (AreFresh c.args.tables.now) (sym c.unused_share.ensures.callers) c.in_ok-own.ensures.0;
            silent = c.unused_share.ensures.silent;
            due = c.unused_share.ensures.due;
          }) i d (omega arith));
    }

pub returns : goal.returns
returns g c =
    let inv = c.loop.invariant in
    let longer = push_count c.loop.shares.items _ _ (length c.loop.shares.items) c.in_ok-push-2.ensures.items refl in
    let counted = inv.count in
    let ended = c.loop-test.false in
    let at-end = c.loop.auto.counter-end in
    let some_worker = c.requires.some in
    record {
      count = omega arith;
      each = λ i d below. subst (λ xs. IsUnused c.args.tables.now c.args.ages (slice_index_or xs i d))
          (sym c.in_ok-push-2.ensures.items)
          (below_push (λ k share. IsUnused c.args.tables.now c.args.ages share) c.loop.shares.items _ inv.each
          (record {
            callers = subst (AreFresh c.args.tables.now) (sym c.unused_share-2.ensures.callers) inv.callers;
            silent = c.unused_share-2.ensures.silent;
            due = c.unused_share-2.ensures.due;
          }) i d (omega arith));
    }
