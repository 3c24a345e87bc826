use Rattle.policy_expand.proofs.SectionLemmas.{section_decides, section_lines, section_silent}
use Rattle.policy_expand.proofs.first_match_laws.written_lines_decide_in_their_order.Goals as goal

pub returns : goal.returns
returns c = record {
  lines = section_lines;
  first = section_decides;
  default = section_silent;
}
