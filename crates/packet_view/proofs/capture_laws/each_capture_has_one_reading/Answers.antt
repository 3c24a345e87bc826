use Rattle.packet_view.proofs.CutLemmas.{no_fault_too, one_reading}
use Rattle.packet_view.proofs.ReadingLemmas.{one_fault, some_reading}
use Rattle.packet_view.proofs.capture_laws.each_capture_has_one_reading.Goals as goal

pub returns-clause-some : goal.returns-clause-some
returns-clause-some c = some_reading

pub returns-clause-one : goal.returns-clause-one
returns-clause-one c = one_reading

pub returns-clause-apart : goal.returns-clause-apart
returns-clause-apart c = no_fault_too

pub returns-clause-fault : goal.returns-clause-fault
returns-clause-fault c = λ bytes found other fits. one_fault bytes fits found other
