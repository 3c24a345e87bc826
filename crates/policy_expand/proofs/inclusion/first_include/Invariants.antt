use Rattle.std.proofs.Common.{length, map}
use Rattle.policy_expand.specs.Inclusions.{AreOrdinary}
use Rattle.policy_expand.specs.Sources.{source_facts}
use Rattle.policy_expand.proofs.inclusion.first_include.Given as goal

-- The lines before what is left include no file.
abbrev pub invariant-lines : goal.invariant-lines
invariant-lines l =
    record {
      all : AreOrdinary (map source_facts l.rest) → AreOrdinary (map source_facts l.lines);
      left : AreOrdinary (map source_facts l.lines) → AreOrdinary (map source_facts l.rest);
    }

abbrev pub decreases-lines : goal.decreases-lines
decreases-lines l = length l.rest
