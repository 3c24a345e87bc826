use Rattle.std.proofs.Common.{refl}
use Rattle.flow_workers.proofs.BatchMerges.{all_begun}
use Rattle.flow_workers.proofs.workers.Workers.new.Goals as goal

pub returns : goal.returns
returns g c = record {
  by = refl;
  rest = all_begun g.A.Shape g.B.Shape _ c.requires.sound c.in_ok-shares.ensures c.new.ensures.items refl;
}
