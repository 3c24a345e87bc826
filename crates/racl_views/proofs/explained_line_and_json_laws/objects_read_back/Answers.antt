use Rattle.json.proofs.Printed.Decimals.{IsNumber-decimal}
use Rattle.racl_views.proofs.ObjectDepths.{hit_read_back, packet_read_back, session_read_back, totals_read_back, truncation_read_back}
use Rattle.racl_views.proofs.explained_line_and_json_laws.objects_read_back.Goals as goal

pub returns-clause-numbers : goal.returns-clause-numbers
returns-clause-numbers c = IsNumber-decimal

pub returns-clause-packet : goal.returns-clause-packet
returns-clause-packet c = packet_read_back

pub returns-clause-truncation : goal.returns-clause-truncation
returns-clause-truncation c = truncation_read_back

pub returns-clause-totals : goal.returns-clause-totals
returns-clause-totals c = totals_read_back

pub returns-clause-hit : goal.returns-clause-hit
returns-clause-hit c = hit_read_back

pub returns-clause-session : goal.returns-clause-session
returns-clause-session c = session_read_back
