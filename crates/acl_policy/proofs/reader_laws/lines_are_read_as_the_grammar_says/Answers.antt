use Rattle.std.proofs.Common.{◌∙◌, ap}
use Rattle.acl_policy.specs.inner.Reading.Lines.{action_in, direction_in, family_in}
use Rattle.acl_policy.proofs.LineLaws.{action_in-complete, action_in-sound, direction_in-complete, direction_in-sound, family_in-complete, family_in-sound, interface_in-complete, interface_in-sound, line_in-complete, line_in-sound}
use Rattle.acl_policy.proofs.reader_laws.lines_are_read_as_the_grammar_says.Goals as goal

pub returns : goal.returns
returns c = record {
  direction = λ word direction. (direction_in-sound word direction, λ is. ap direction_in is ∙ direction_in-complete direction);
  action = λ word action. (action_in-sound word action, λ is. ap action_in is ∙ action_in-complete action);
  family = λ word family. (family_in-sound word family, λ is. ap family_in is ∙ family_in-complete family);
  interface = λ word number. (interface_in-sound word number, interface_in-complete word number);
  line = λ line reading. (line_in-sound line reading, line_in-complete line reading);
}
