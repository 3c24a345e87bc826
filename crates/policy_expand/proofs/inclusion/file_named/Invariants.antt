use Rattle.std.proofs.Common.{◌≡◌, length, map}
use Rattle.policy_expand.specs.Inclusions.{file_facts, text_of}
use Rattle.policy_expand.proofs.inclusion.file_named.Given as goal

-- what is left decides
abbrev pub invariant-files : goal.invariant-files
invariant-files l = text_of l.name (map file_facts l.rest) ≡ text_of l.name (map file_facts l.files)

abbrev pub decreases-files : goal.decreases-files
decreases-files l = length l.rest
