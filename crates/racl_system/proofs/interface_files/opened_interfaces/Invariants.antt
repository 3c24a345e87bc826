use Rattle.std.specs.Prelude.{◌≡◌, map, take}
use Rattle.racl_options.specs.Origins.{capture_facts}
use Rattle.racl_system.specs.InterfaceFiles.{given_by, given_in}
use Rattle.racl_system.specs.Readers.{left_in}
use Rattle.racl_system.proofs.interface_files.opened_interfaces.Given as goal

-- The captures so far are those of the files before this one.
abbrev pub invariant-loop-file : goal.invariant-loop-file
invariant-loop-file g l = given_by (left_in g.S.Input.Read.remaining g.S.File.Read.remaining) l.captures.items
    ≡ given_in (g.S.SystemFiles.named l.system) (map capture_facts (take l.file-index l.files))
