-- The judge that was found to be alone has the other one's policy and timeouts.
use Rattle.std.proofs.Common.{rules, inr}
use Rattle.flow_judge.proofs.judge.Judge.take_policy.Goals as goal

pub returns-then-is_lone-clause-ruled : goal.returns-then-is_lone-clause-ruled
returns-then-is_lone-clause-ruled g c = inr (c.is_lone.new.self, search rules, search rules)
