-- The callers came back, and the rest of the judge is the same.
use Rattle.std.proofs.Common.{refl, subst}
use Rattle.std.specs.Arc.{arc_value}
use Rattle.acl_policy.specs.Policies.{policy_facts}
use Rattle.flow_filter.specs.OneThread.{layout_of}
use Rattle.flow_judge.specs.JudgeStates.{JudgeState}
use Rattle.flow_judge.specs.Judges.{IsSplitJudgeRefused}
use Rattle.flow_judge.proofs.judge.Judge.split.Goals as goal

pub returns-in-Err-split_callers-clause-refused : goal.returns-in-Err-split_callers-clause-refused
returns-in-Err-split_callers-clause-refused g c =
    let filter = arc_value c.self.inside.filter in
    let t : JudgeState = record {
      policy = policy_facts filter.policy;
      times = filter.times;
      four = c.in-Err-split_callers.callers.four.seat;
      six = c.in-Err-split_callers.callers.six.seat;
      counts = c.self.inside.counts;
      shared = _;
    } in
    subst (λ (s : JudgeState). IsSplitJudgeRefused (layout_of g.A.Shape g.B.Shape) c.in-Err-split_callers.fault s t)
    c.self.view_is (record { by = (refl, refl, refl); callers = c.in-Err-split_callers.ensures.refused })
