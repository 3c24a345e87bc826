use Rattle.flow_filter.proofs.RowLemmas.{malformed_row, not_ip_row, row_by_reading, row_by_rules, row_in_order, short_row}
use Rattle.flow_filter.proofs.verdict_table_laws.each_verdict_has_its_row.Goals as goal

pub returns : goal.returns
returns c = record {
  flow = row_by_reading;
  no_flow = row_by_rules;
  not_ip = not_ip_row;
  malformed = malformed_row;
  short = short_row;
  in_order = row_in_order;
}
