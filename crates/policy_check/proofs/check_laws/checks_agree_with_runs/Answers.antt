use Rattle.policy_check.proofs.CheckLaws.{first_told, none_right, right_none}
use Rattle.policy_check.proofs.check_laws.checks_agree_with_runs.Goals as goal

pub returns : goal.returns
returns c = record {
  right = λ text policy said cs. none_right text policy said cs;
  none = λ text said cs. right_none text said cs;
  first = λ text fault said cs. first_told text fault said cs;
}
