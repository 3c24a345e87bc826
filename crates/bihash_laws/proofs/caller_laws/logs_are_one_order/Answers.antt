use Rattle.bihash_laws.proofs.LogOrders.{common_log, own_order}
use Rattle.bihash_laws.proofs.caller_laws.logs_are_one_order.Goals as goal

pub returns-clause-one : goal.returns-clause-one
returns-clause-one c = own_order

pub returns-clause-both : goal.returns-clause-both
returns-clause-both c = common_log
