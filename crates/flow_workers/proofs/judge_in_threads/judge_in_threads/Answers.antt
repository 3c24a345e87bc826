use Rattle.std.proofs.Common.{[], ◌∙◌, ap, subst}
use Rattle.packet_view.specs.CheckedCaptures.{remaining}
use Rattle.flow_dealing.specs.Dealt.{AreDealt}
use Rattle.flow_workers.specs.inner.Shares.{workers_in}
use Rattle.flow_workers.specs.inner.Turns.{HaveWorked}
use Rattle.flow_workers.proofs.RestLemmas.{dealt_noted}
use Rattle.flow_workers.proofs.judge_in_threads.judge_in_threads.Goals as goal

pub returns : goal.returns
returns g c =
    let batch = c.args.batch.now in
    record {
      worked = subst (λ r. HaveWorked r c.args.shares.now.items c.in_ok-shares.field-0.items) c.again.ensures
          (subst (λ v. HaveWorked c.again.result v.items c.in_ok-shares.field-0.items) c.replace-before.ensures.value c.in_ok-shares.ensures);
      noted = dealt_noted g.A.Shape g.B.Shape _ batch.first c.in_ok-dealt.dealt.items (remaining batch.packets) [] _
          (subst (λ d. AreDealt g.A.Shape g.B.Shape d batch.first c.in_ok-dealt.dealt.items (remaining batch.packets))
          c.dealer.ensures c.in_ok-dealt.ensures)
          (c.in_ok-judges.ensures ∙ ap workers_in c.as_slice.ensures.value);
    }
