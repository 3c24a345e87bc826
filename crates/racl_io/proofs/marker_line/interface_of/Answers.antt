use Rattle.racl_io.proofs.InputLemmas.{interface_read, no_interface}
use Rattle.racl_io.proofs.marker_line.interface_of.Goals as goal

pub returns-clause-some : goal.returns-clause-some
returns-clause-some c = interface_read _ _ _ c.in_ok-after_hex.ensures.some c.octet_of.ensures

pub returns-clause-none : goal.returns-clause-none
returns-clause-none c = no_interface _ _ _ c.in_ok-after_hex.ensures.some c.octet_of.ensures
