-- The rules that were numbered are those of the text.
use Rattle.std.proofs.Common.{inr, refl, rules}
use Rattle.racl_c.proofs.policy_text.racl_line_of.Goals as goal

pub returns : goal.returns
returns c = inr (refl, λ policy is. (_, c.in-Ok.ensures policy is, search rules))
