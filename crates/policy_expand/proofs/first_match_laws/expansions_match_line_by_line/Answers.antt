use Rattle.policy_expand.proofs.TextLemmas.{expanded_lines}
use Rattle.policy_expand.proofs.first_match_laws.expansions_match_line_by_line.Goals as goal

pub returns : goal.returns
returns c = expanded_lines
