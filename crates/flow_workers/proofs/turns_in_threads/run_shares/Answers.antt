use Rattle.std.proofs.lemmas.Result.{IfOk-weaker}
use Rattle.flow_workers.proofs.TurnLemmas.{all_past, have_worked}
use Rattle.flow_workers.proofs.turns_in_threads.run_shares.Goals as goal

pub shares_over-requires : goal.shares_over-requires
shares_over-requires g c =
    all_past g.A.Shape g.B.Shape c.args.batch c.args.dealt c.args.shares.items c.requires.may c.in_ok-ahead.ahead.items
    c.in_ok-over.over.items
    c.in_ok-ahead.ensures.are c.in_ok-over.ensures.count (λ i d e. c.in_ok-over.ensures.each i d e)

pub returns : goal.returns
returns g c =
    IfOk-weaker c.shares_over.result _ _
    (λ news are. have_worked g.A.Shape g.B.Shape c.args.batch c.args.dealt c.args.shares.items c.requires.may c.in_ok-ahead.ahead.items
    c.in_ok-over.over.items news.items c.in_ok-ahead.ensures.are c.in_ok-over.ensures.count
    (λ i d e. c.in_ok-over.ensures.each i d e) are) c.shares_over.ensures
