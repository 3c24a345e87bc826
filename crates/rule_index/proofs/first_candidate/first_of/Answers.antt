use Rattle.std.proofs.Common.{arith, ◌<◌, map, length}
use Rattle.std.proofs.lemmas.Option.{slice_get_within}
use Rattle.packet_view.specs.Tuples.{tuple_facts}
use Rattle.acl_policy.specs.Rules.{rule_facts}
use Rattle.rule_index.specs.inner.Sieves.{Sifts}
use Rattle.rule_index.proofs.RowLemmas.{row_width, same_width}
use Rattle.rule_index.proofs.first_candidate.first_of.Goals as goal

pub word_of-requires : goal.word_of-requires
word_of-requires c =
    let sift = c.requires in
    let rows = c.args.rows.now in
    record {
      source = omega arith;
      dest = same_width _ _ rows.source rows.dest _ sift.source sift.dest (omega arith);
      protocol = same_width _ _ rows.source rows.protocol _ sift.source sift.protocol (omega arith);
      first = same_width _ _ rows.source rows.first _ sift.source sift.first (omega arith);
      second = same_width _ _ rows.source rows.second _ sift.source sift.second (omega arith);
      flags = λ flags there. let has : Sifts (map rule_facts c.args.rules.now) (tuple_facts c.args.tuple.now) flags.now = sift.flags flags there in
          omega (arith, has.width, row_width _ _ rows.source sift.source);
    }

pub first_in-requires-clause-kept : goal.first_in-requires-clause-kept
first_in-requires-clause-kept c = c.word_of.ensures (map rule_facts c.args.rules.now) (tuple_facts c.args.tuple.now) c.requires

pub returns : goal.returns
returns c = λ k other read matches.
    let within : k < length (map rule_facts c.args.rules.now) = slice_get_within (map rule_facts c.args.rules.now) k other read in
    c.loop-i.invariant k other (omega (arith, row_width _ _ c.args.rows.now.source c.requires.source)) read matches
