use Rattle.flow_filter.proofs.ReadingLemmas.{one_reading, one_readings, some_reading, some_readings}
use Rattle.flow_filter.proofs.verdict_laws.each_packet_has_one_reading.Goals as goal

pub returns : goal.returns
returns c = record { some = some_reading; one = one_reading; list = some_readings; one_list = one_readings }
