use Rattle.std.proofs.Common.{arith, map}
use Rattle.policy_expand.specs.Inclusions.{StandsOnce, file_facts}
use Rattle.policy_expand.specs.Sources.{source_facts}
use Rattle.policy_expand.proofs.InclusionLemmas.{stand_next}
use Rattle.policy_expand.proofs.inclusion.all_lines_once.Goals as goal

pub loop-place-preserved : goal.loop-place-preserved
loop-place-preserved c =
    let found = c.in-Ok.ensures in
    stand_next (StandsOnce (map file_facts c.args.files.now)) c.args.lines.now c.loop-place.place _ (map source_facts c.loop-place.found.items)
    (map source_facts c.push_lines_once.new.out.items) found.0 (omega arith) c.loop-place.invariant found.2 found.1
