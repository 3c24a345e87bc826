use Rattle.std.proofs.Common.{◌∙◌}
use Rattle.packet_view.specs.CheckedCaptures.{remaining}
use Rattle.racl_views.specs.Hits.{latest_second}
use Rattle.racl_views.proofs.CountLemmas.{latest_both}
use Rattle.racl_runs.proofs.DatedLemmas.{later_of_three}
use Rattle.racl_runs.proofs.dated_judging.DatedJudge.judge.Goals as goal

pub judge-requires : goal.judge-requires
judge-requires g c =
    let may = c.requires in
    record { begun = may.begun.inner; packets = may.packets; said = may.said; stand = may.stand.became; fits = may.fits }

pub returns-clause-follows : goal.returns-clause-follows
returns-clause-follows g c begun packets said has = record {
  became = c.in_ok-said.ensures.follows begun.inner packets said has.became;
  noted = has.noted;
  latest = λ noted. later_of_three begun.latest (latest_second packets) (latest_second (remaining c.args.packets)) _ _ _ (has.latest noted)
      (c.latest_where-self.ensures (has.noted ∙ noted)) (latest_both packets (remaining c.args.packets));
}

pub returns-clause-right : goal.returns-clause-right
returns-clause-right g c begun packets said has = c.in_ok-said.ensures.right begun.inner packets said has.became
