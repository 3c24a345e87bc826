-- The fault is what the table's own answer comes to.
use Rattle.std.proofs.Common.{rules, inl}
use Rattle.flow_judge.proofs.judge.Judge.renew.Goals as goal

pub returns-in-Err-renew_tables-clause-refused : goal.returns-in-Err-renew_tables-clause-refused
returns-in-Err-renew_tables-clause-refused g c = inl (c.in-Err-renew_tables.fault, c.end_of_renewal.ensures, search rules)
