use Rattle.std.specs.Prelude.{map}
use Rattle.policy_expand.specs.Inclusions.{file_facts}
use Rattle.racl_system.specs.Expands.{AreRead}
use Rattle.racl_system.proofs.file_expanding.add_files.Given as goal

-- The files so far are read where those before are.
abbrev pub invariant-loop : goal.invariant-loop
invariant-loop g l = AreRead (g.S.SystemFiles.named l.system) (map file_facts l.fn.files.items) → AreRead (g.S.SystemFiles.named l.system) (map file_facts l.files.items)
