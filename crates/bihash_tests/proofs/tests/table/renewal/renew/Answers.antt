use Rattle.std.proofs.Common.{ap}
use Rattle.bihash_rule.specs.declared.view.View.{View}
use Rattle.bihash_tests.proofs.tests.table.renewal.renew.Goals as goal

pub returns-in-Ok-clause-free : goal.returns-in-Ok-clause-free
returns-in-Ok-clause-free g c = ap (λ (v : View). v.holds) c.in-Ok.ensures.renewed.first
