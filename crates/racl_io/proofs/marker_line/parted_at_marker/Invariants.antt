use Rattle.std.proofs.Common.{length}
use Rattle.racl_io.proofs.InputLemmas.{IsFront}
use Rattle.racl_io.proofs.marker_line.parted_at_marker.Given as goal

-- no marker line stands before the rest
abbrev pub invariant-lines : goal.invariant-lines
invariant-lines l = IsFront l.marks l.bytes l.rest

abbrev pub decreases-lines : goal.decreases-lines
decreases-lines l = length l.rest
