use Rattle.std.specs.Str.Lines.{lines}
use Rattle.acl_policy.proofs.ReadingLaws
use Rattle.acl_policy.proofs.SectionLaws
use Rattle.acl_policy.proofs.TextLaws
use Rattle.acl_policy.proofs.policy_text_laws.one_reading.Goals as goal

pub returns : goal.returns
returns c = record {
  line = λ line a b. SectionLaws.one_reading line a b;
  some = ReadingLaws.some_reading;
  policy = λ text a b first second. TextLaws.one_policy (lines text) a b first.1 second.1;
  fault = λ text a b. TextLaws.one_fault text a b;
  not_both = λ text policy fault. TextLaws.policy_or_fault text policy fault;
}
