use Rattle.std.proofs.Common.{subst}
use Rattle.bihash_table.specs.Calls.{TellsRecycleTry}
use Rattle.bihash_table.proofs.Tries.{never_updated}
use Rattle.bihash_table.proofs.shared_table.Sessions.try_update.Goals as goal

pub returns-clause-told : goal.returns-clause-told
returns-clause-told g c =
    let old = c.args.caller.now.seat in
    let new = c.try_add_or_recycle.new.caller.seat in
    let reply = c.try_add_or_recycle.result in
    let told : TellsRecycleTry g.S.Shape old new c.args.key.now (g.P.Patch.decision c.args.patch.now) _ reply
    = subst (λ k. TellsRecycleTry g.S.Shape old new k (g.P.Patch.decision c.args.patch.now) _ reply) c.of.ensures
    c.try_add_or_recycle.ensures.told in
    record {
      same = told.same;
      answered = never_updated g.S.Shape old.view new.view c.args.key.now (g.P.Patch.decision c.args.patch.now) reply told.answered;
      no_pages = told.no_pages;
      locks = told.locks;
      contended = told.contended;
      lone = told.lone;
      lawful = told.lawful;
    }
