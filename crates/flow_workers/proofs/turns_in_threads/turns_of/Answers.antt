use Rattle.std.proofs.Common.{[], ◌∷◌, arith, length-append, refl}
use Rattle.flow_workers.proofs.TurnLemmas.{no_turns, turns_push}
use Rattle.flow_workers.proofs.turns_in_threads.turns_of.Goals as goal

pub loop-share-init : goal.loop-share-init
loop-share-init g c = record {
  worker = refl;
  are = rw c.new-turns.ensures.items (no_turns g.A.Shape g.B.Shape c.args.batch c.args.dealt);
}

pub loop-share-preserved : goal.loop-share-preserved
loop-share-preserved g c =
    let inv = c.loop-share.invariant in
    let last = inv.worker in
    let longer = length-append c.loop-share.yielded (c.in-Some.share ∷ []) in
    record {
      worker = omega arith;
      are = turns_push g.A.Shape g.B.Shape c.args.batch c.args.dealt c.loop-share.yielded c.in-Some.share c.loop-share.turns.items
          c.push.new.self.items c.again.result c.loop-share.worker inv.are c.in_ok-push.ensures.items
          c.again.ensures inv.worker;
    }
