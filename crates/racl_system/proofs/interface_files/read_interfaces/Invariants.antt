use Rattle.std.specs.Prelude.{◌≡◌, ◌+◌}
use Rattle.racl_io.specs.Inputs.{most_bytes}
use Rattle.racl_report.specs.InterfaceInputs.{AreAllBytes, bytes_in}
use Rattle.racl_system.specs.InterfaceFiles.{AreAllOf, given_by}
use Rattle.racl_system.proofs.interface_files.read_interfaces.Given as goal

-- What was read so far is all of the captures before this one, and counts.
abbrev pub invariant-loop-capture : goal.invariant-loop-capture
invariant-loop-capture g l = (l.text + bytes_in l.all.items + l.most ≡ most_bytes) × AreAllBytes l.all.items
    × AreAllOf (given_by g.R.Read.remaining l.yielded) l.all.items
