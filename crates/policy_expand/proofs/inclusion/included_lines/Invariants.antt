use Rattle.std.proofs.Common.{List, map}
use Rattle.policy_expand.specs.Inclusions.{AreOrdinary, IsWhole, file_facts}
use Rattle.policy_expand.specs.Sources.{SourceFacts, source_facts}
use Rattle.policy_expand.proofs.inclusion.included_lines.Given as goal

-- What is the whole text of the lines so far is that of the first ones, and where these include no file, those don't.
abbrev pub invariant-loop : goal.invariant-loop
invariant-loop l =
    record {
      whole : (whole : List SourceFacts) → IsWhole (map file_facts l.files) (map source_facts l.lines.items) whole
          → IsWhole (map file_facts l.files) (map source_facts l.initial.lines.items) whole;
      ordinary : AreOrdinary (map source_facts l.initial.lines.items) → AreOrdinary (map source_facts l.lines.items);
    }
