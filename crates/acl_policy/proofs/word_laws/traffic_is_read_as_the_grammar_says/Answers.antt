use Rattle.acl_policy.proofs.RangeLaws.{flags_in-complete, flags_in-sound, range_in-complete, range_in-sound}
use Rattle.acl_policy.proofs.TrafficLaws.{protocol_in-complete, protocol_in-sound, traffic_in-complete, traffic_in-sound}
use Rattle.acl_policy.proofs.word_laws.traffic_is_read_as_the_grammar_says.Goals as goal

pub returns : goal.returns
returns c = record {
  protocol = λ family word proto. (protocol_in-sound family word proto, protocol_in-complete family word proto);
  range = λ most word range. (range_in-sound most word range, range_in-complete most word range);
  flags = λ word flags. (flags_in-sound word flags, flags_in-complete word flags);
  traffic = λ family words traffic. (traffic_in-sound family words traffic, traffic_in-complete family words traffic);
}
