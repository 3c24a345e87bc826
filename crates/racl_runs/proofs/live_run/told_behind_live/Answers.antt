use Rattle.std.proofs.Common.{◌∙◌, Bool, subst}
use Rattle.std.proofs.lemmas.Result.{IfOk-weaker}
use Rattle.racl_runs.specs.Crews.{size_of, views_with}
use Rattle.racl_runs.specs.Runs.{AreToldOf, layout_for}
use Rattle.racl_views.specs.Stored.{stored_facts}
use Rattle.racl_runs.proofs.CountedLemmas.{ended_idle, told_behind}
use Rattle.racl_runs.proofs.live_run.told_behind_live.Goals as goal

pub stored_of-requires : goal.stored_of-requires
stored_of-requires g = let (packets, said, may) = g.requires in ended_idle g.args.way g.args.tables packets said g.args.counts.now g.args.callers may

pub returns : goal.returns
returns g =
    IfOk-weaker g.behind_totals.result _ _
    (λ behind is packets said second may same. told_behind g.args.way g.args.tables packets said g.args.counts.now g.args.callers _ behind g.args.latest second may
    (λ asked.
    subst
    (λ (ages : Bool). AreToldOf (layout_for (size_of g.args.tables)) g.args.way.options.now.times ages g.args.latest (views_with g.args.callers) (stored_facts g.in_ok-stored.stored))
    g.ages_early.ensures (g.in_ok-stored.ensures (g.keeps_stored.ensures ∙ asked)))
    is same)
    g.behind_totals.ensures
