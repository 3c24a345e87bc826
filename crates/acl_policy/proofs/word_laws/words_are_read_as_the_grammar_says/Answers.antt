use Rattle.acl_policy.proofs.NumeralLaws.{number_in-complete, number_in-sound, octet_in-complete, octet_in-sound}
use Rattle.acl_policy.proofs.PieceLaws.{mac_in-complete, mac_in-sound}
use Rattle.acl_policy.proofs.PrefixLaws.{address_in-complete, address_in-sound, prefix_in-complete, prefix_in-sound}
use Rattle.acl_policy.proofs.RangeLaws.{number_up_to-complete, number_up_to-sound}
use Rattle.acl_policy.proofs.ReaderLaws.{cut_read, next_read}
use Rattle.acl_policy.proofs.word_laws.words_are_read_as_the_grammar_says.Goals as goal

pub returns : goal.returns
returns c = record {
  number = λ word n. (number_in-sound word n, number_in-complete word n);
  number_up_to = λ most word n. (number_up_to-sound most word n, λ is. number_up_to-complete most word n is.0 is.1);
  octet = λ word n. (octet_in-sound word n, octet_in-complete word n);
  address = λ family word address. (address_in-sound family word address, address_in-complete family word address);
  prefix = λ family word prefix. (prefix_in-sound family word prefix, prefix_in-complete family word prefix);
  mac = λ word mac. (mac_in-sound word mac, mac_in-complete word mac);
  cut = cut_read;
  next = next_read;
}
