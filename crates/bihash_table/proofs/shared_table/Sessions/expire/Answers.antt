use Rattle.std.proofs.Common.{◌+◌, refl, ap, sym, ◌∙◌, true≢false, Ok}
use Rattle.bihash_words.specs.Sizes.{sizes_of}
use Rattle.bihash_rule.specs.declared.view.View.{View}
use Rattle.bihash_steps.specs.Seats.{CallerState, with_view}
use Rattle.bihash_table.specs.Ageing.{look_locks}
use Rattle.bihash_table.proofs.CallChains.{again_contended, contended_ahead, not_yet_tried}
use Rattle.bihash_table.proofs.ExpiredReads.{ages_ahead}
use Rattle.bihash_table.proofs.LockCounts.{took_in_tries, took_no_lock, took_then}
use Rattle.bihash_table.proofs.SameCallers.{same_through}
use Rattle.bihash_table.proofs.shared_table.Sessions.expire.Goals as goal

pub loop-init : goal.loop-init
loop-init g c = record {
  next = tt;
  finite = tt;
  same = refl;
  tried = not_yet_tried (sizes_of g.S.Shape) _ _ c.requires.idle.free;
  tries = (0, took_no_lock _ _ refl 0, λ _. refl);
  lone = λ _. refl;
}

pub returns-in-Ok : goal.returns-in-Ok
returns-in-Ok g c =
    let z = sizes_of g.S.Shape in
    let s = c.args.caller.now.seat in
    let told = c.in-Ok.ensures in record {
      same = same_through s c.loop.caller.seat c.try_expire.new.caller.seat _ c.loop.invariant.same told.same;
      answered = ages_ahead z s c.loop.caller.seat c.try_expire.new.caller.seat _ _ (contended_ahead z _ _ _ c.loop.invariant.tried) c.in-Ok.found told.answered;
      locks = let before = c.loop.invariant.tries in took_in_tries _ _ _ before.0 (look_locks (Ok c.in-Ok.found)) before.1 before.2 told.locks;
      lawful = told.lawful;
    }

pub loop-preserved : goal.loop-preserved
loop-preserved g c = record {
  next = tt;
  finite = tt;
  same = c.try_expire.ensures.same ∙ ap (λ (k : CallerState). with_view k c.try_expire.new.caller.seat.view) c.loop.invariant.same;
  tried = again_contended (sizes_of g.S.Shape) _ _ _ _ c.loop.invariant.tried c.in_default.ensures.contended;
  tries = let before = c.loop.invariant.tries in (
    before.0 + 1,
    took_then _ _ _ before.0 1 before.1 c.in_default.ensures.locks,
    λ lone. absurd (true≢false (sym (c.in_default.ensures.lone (ap (λ (v : View). v.lone) (c.loop.invariant.lone lone) ∙ lone)))),
  );
  lone = λ lone. absurd (true≢false (sym (c.in_default.ensures.lone (ap (λ (v : View). v.lone) (c.loop.invariant.lone lone) ∙ lone))));
}
