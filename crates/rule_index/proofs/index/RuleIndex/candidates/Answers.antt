use Rattle.std.proofs.Common.{map, refl}
use Rattle.packet_view.specs.Tuples.{tuple_facts}
use Rattle.acl_policy.specs.Rules.{rule_facts}
use Rattle.rule_index.specs.declared.ranges_of_rules.Dimension.TheVariants.{Dest, First, Protocol, Second, Source}
use Rattle.rule_index.specs.inner.NumberedRows.{words_of}
use Rattle.rule_index.specs.inner.Sieves.{Sifts}
use Rattle.rule_index.proofs.index.RuleIndex.candidates.Goals as goal

pub returns : goal.returns
returns c =
    let index = c.args.self.now in
    let rules = map rule_facts index.rules.items in
    let tuple = tuple_facts c.args.tuple.now in
    let protocol : Sifts rules tuple (words_of c.row-protocol.result) = c.row-protocol.ensures Protocol rules tuple index.protocol_sieves c.lookup_protocol.ensures in
    record {
      source = c.row.ensures Source rules tuple index.source_sieves refl;
      dest = c.row-2.ensures Dest rules tuple index.dest_sieves refl;
      protocol = protocol;
      first = c.row_or.ensures First rules tuple index.first_sieves c.lookup_first.ensures protocol;
      second = c.row_or-2.ensures Second rules tuple index.second_sieves c.lookup_second.ensures protocol;
      flags = c.row_of.ensures rules tuple index.flags_sieves c.lookup_flags.ensures;
    }
