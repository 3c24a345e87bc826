use Rattle.std.proofs.Common.{arith, map}
use Rattle.policy_expand.specs.Inclusions.{file_facts}
use Rattle.policy_expand.proofs.InclusionLemmas.{missing_at}
use Rattle.policy_expand.proofs.missing_files.missing_among.Goals as goal

pub returns-in-Some : goal.returns-in-Some
returns-in-Some c =
    missing_at (map file_facts c.args.files.now) c.args.lines.now c.loop-line.line-index _ c.in-Some.missing (omega arith) (rw c.in-Some.is at c.in_ok-missing.ensures)
