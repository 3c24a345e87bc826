use Rattle.std.proofs.Common.{arith, drop}
use Rattle.std.proofs.lemmas.List.{take_rest}
use Rattle.policy_expand.proofs.ListLemmas.{first_five}
use Rattle.policy_expand.proofs.written_line.rule_of.Goals as goal

pub returns : goal.returns
returns c = record {
  family = c.family-item.result;
  source = c.source-item.result;
  dest = c.dest-item.result;
  more = drop 5 c.args.words.now;
  stand = first_five c.args.words.now c.direction-item.result c.action-item.result c.family-item.result c.source-item.result c.dest-item.result
      (omega arith) c.direction-item.is c.action-item.is c.family-item.is c.source-item.is c.dest-item.is;
  families = c.in_ok-families_of.ensures;
  sources = c.in_ok-list_of.ensures;
  dests = c.in_ok-list_of-2.ensures;
  rest = rw take_rest at c.in_ok-lists_of.ensures;
}
