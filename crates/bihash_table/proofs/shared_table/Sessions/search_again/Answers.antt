use Rattle.std.proofs.Common.{refl, ap, ◌∙◌}
use Rattle.bihash_words.specs.Sizes.{sizes_of}
use Rattle.bihash_steps.specs.Seats.{CallerState, with_view}
use Rattle.bihash_table.proofs.CallChains.{not_yet_tried, again_contended, again_answered}
use Rattle.bihash_table.proofs.SameCallers.{same_through}
use Rattle.bihash_table.proofs.shared_table.Sessions.search_again.Goals as goal

pub loop-init : goal.loop-init
loop-init g c = record { next = tt; finite = tt; same = refl; tried = not_yet_tried (sizes_of g.S.Shape) _ _ c.requires.free; no_lock = refl }

pub returns-in-Ok : goal.returns-in-Ok
returns-in-Ok g c =
    let s = c.args.caller.now.seat in
    let told = c.in-Ok.ensures in record {
      same = same_through s c.loop.caller.seat c.try_search.new.caller.seat _ c.loop.invariant.same told.same;
      answered = again_answered (sizes_of g.S.Shape) _ _ _ _ _ refl c.loop.invariant.tried told.answered;
      no_lock = told.no_lock ∙ c.loop.invariant.no_lock;
      lawful = told.lawful;
    }

pub loop-preserved : goal.loop-preserved
loop-preserved g c = record {
  next = tt;
  finite = tt;
  same = c.try_search.ensures.same ∙ ap (λ (k : CallerState). with_view k c.try_search.new.caller.seat.view) c.loop.invariant.same;
  tried = again_contended (sizes_of g.S.Shape) _ _ _ _ c.loop.invariant.tried c.in_default.ensures.contended;
  no_lock = c.try_search.ensures.no_lock ∙ c.loop.invariant.no_lock;
}
