use Rattle.std.proofs.lemmas.Result.{IfOk-weaker}
use Rattle.flow_workers.proofs.TurnLemmas.{all_ahead}
use Rattle.flow_workers.proofs.turns_in_threads.turns_ahead.Goals as goal

pub returns : goal.returns
returns g c =
    IfOk-weaker c.turns_of.result _ _
    (λ turns are. all_ahead g.A.Shape g.B.Shape c.args.batch c.args.dealt c.args.shares.items c.requires.may c.requires.dealt turns.items are)
    c.turns_of.ensures
