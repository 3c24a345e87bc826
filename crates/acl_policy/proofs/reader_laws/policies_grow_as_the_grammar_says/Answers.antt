use Rattle.acl_policy.proofs.AddingLaws
use Rattle.acl_policy.proofs.ReadingLaws.{nothing_said}
use Rattle.acl_policy.proofs.reader_laws.policies_grow_as_the_grammar_says.Goals as goal

pub returns : goal.returns
returns c = record {
  begins = nothing_said;
  adds = λ number texts line draft policy reads. AddingLaws.adds number texts line draft reads policy;
  wrong = λ number texts line draft reads. AddingLaws.wrong number texts line draft reads;
  surplus = λ number texts line draft reads. AddingLaws.surplus number texts line draft reads;
}
