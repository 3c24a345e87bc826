use Rattle.std.proofs.Common.{◌∙◌, ◌+◌, ap, ap₂, min, refl}
use Rattle.flow_workers.specs.inner.AgeingTimes.{no_moment, seconds_of_part}
use Rattle.flow_workers.proofs.AgeingSteps.{worked_aged}
use Rattle.flow_workers.proofs.DealtLemmas.{worked_none}
use Rattle.flow_workers.proofs.worker_ageing.age.Goals as goal

pub returns-then-not-setup-clause-worked : goal.returns-then-not-setup-clause-worked
returns-then-not-setup-clause-worked g c =
    worked_none g.A.Shape g.B.Shape c.args.batch.now c.args.worker c.args._at c.args.share.now c.requires.idle

pub returns-clause-worked : goal.returns-clause-worked
returns-clause-worked g c =
    worked_aged g.A.Shape g.B.Shape c.args.batch.now c.args.worker c.args._at c.args.moment c.saturating_sub.result c.args.share.now
    _ _ c.requires c.if-not-setup.false c.saturating_sub.ensures c.age_table-share.ensures.0 c.age_table-share-2.ensures.0

pub returns-clause-ticked : goal.returns-clause-ticked
returns-clause-ticked g c = λ ages. record {
  last = c.from-share.ensures;
  four = c.is_short-short_four.result;
  six = c.is_short-short_six.result;
  due = c.saturating_add-share.ensures ∙ ap₂ (λ m n. min (m + n) no_moment) c.from-2.ensures
      (c.part_seconds.ensures ∙ ap seconds_of_part (c.min.ensures ∙ ap₂ min c.round_seconds-round_four.ensures.seconds c.round_seconds-round_six.ensures.seconds));
}
