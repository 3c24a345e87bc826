use Rattle.flow_filter.proofs.OrderLemmas.{pass_in_order}
use Rattle.flow_filter.proofs.PassingLemmas.{pass_by_reading, pass_by_rules}
use Rattle.flow_filter.proofs.verdict_laws.packets_pass_by_rule_or_session.Goals as goal

pub returns : goal.returns
returns c = record { flow = pass_by_reading; no_flow = pass_by_rules; in_order = pass_in_order }
