use Rattle.rule_cover.proofs.FlagLemmas.{both_flags}
use Rattle.rule_cover.specs.inner.Regions.{first_of, flags_of, second_of}
use Rattle.rule_cover.proofs.region_cuts.both_numbers.Goals as goal

pub returns : goal.returns
returns c = λ fields.
    let first = c.both_ranges.ensures (first_of fields) in
    let second = c.both_ranges-2.ensures (second_of fields) in
    let flags = both_flags c.args.one.now.ones c.args.one.now.zeros c.args.two.now.ones c.args.two.now.zeros (flags_of fields) in (
      λ has. (
        ((first.0 has.0).0, (second.0 has.1).0, (flags.0 has.2).0),
        ((first.0 has.0).1, (second.0 has.1).1, (flags.0 has.2).1),
      ),
      λ both. (first.1 (both.0.0, both.1.0), second.1 (both.0.1, both.1.1), flags.1 (both.0.2, both.1.2)),
    )
