use Rattle.std.proofs.Common.{◌+◌, refl, ap, sym, ◌∙◌, true≢false}
use Rattle.bihash_words.specs.Sizes.{sizes_of}
use Rattle.bihash_steps.specs.Seats.{CallerState, with_view}
use Rattle.bihash_rule.specs.declared.view.View.{View}
use Rattle.bihash_table.proofs.CallChains.{not_yet_tried, again_contended, again_updated_over}
use Rattle.bihash_table.proofs.LockCounts.{took_by_tries, took_no_lock, took_then}
use Rattle.bihash_table.proofs.SameCallers.{same_through}
use Rattle.bihash_table.proofs.shared_table.Sessions.add_or_recycle.Goals as goal

pub loop-init : goal.loop-init
loop-init g c = record { next = tt; finite = tt; same = refl; tried = not_yet_tried (sizes_of g.S.Shape) _ _ c.requires.free; tries = (0, took_no_lock _ _ refl 0, λ _. refl); lone = λ _. refl }

pub returns-in-Ok-clause-told : goal.returns-in-Ok-clause-told
returns-in-Ok-clause-told g c =
    let s = c.args.caller.now.seat in
    let told = c.in-Ok.ensures.told in record {
      same = same_through s c.loop.caller.seat c.try_add_or_recycle.new.caller.seat _ c.loop.invariant.same told.same;
      answered = again_updated_over (sizes_of g.S.Shape) _ _ _ _ _ _ _ _ refl c.loop.invariant.tried told.answered;
      locks = let before = c.loop.invariant.tries in took_by_tries _ _ _ before.0 _ before.1 before.2 told.locks;
      no_pages = told.no_pages;
      lawful = told.lawful;
    }

pub loop-preserved : goal.loop-preserved
loop-preserved g c = record {
  next = tt;
  finite = tt;
  same = c.try_add_or_recycle.ensures.told.same ∙ ap (λ (k : CallerState). with_view k c.try_add_or_recycle.new.caller.seat.view) c.loop.invariant.same;
  tried = again_contended (sizes_of g.S.Shape) _ _ _ _ c.loop.invariant.tried c.in_default.ensures.told.contended;
  tries = let before = c.loop.invariant.tries in (
    before.0 + 1,
    took_then _ _ _ before.0 1 before.1 c.in_default.ensures.told.locks,
    λ lone. absurd (true≢false (sym (c.in_default.ensures.told.lone (ap (λ (v : View). v.lone) (c.loop.invariant.lone lone) ∙ lone)))),
  );
  lone = λ lone. absurd (true≢false (sym (c.in_default.ensures.told.lone (ap (λ (v : View). v.lone) (c.loop.invariant.lone lone) ∙ lone))));
}
