use Rattle.std.proofs.Common.{ap}
use Rattle.racl_io.specs.Buffers.{held_by}
use Rattle.filter_run.proofs.CaptureLemmas.{settled_parted}
use Rattle.filter_run.proofs.one_capture.OneCapture.part.Goals as goal

pub returns-clause-parted : goal.returns-clause-parted
returns-clause-parted g c =
    settled_parted c.args.self.now c.args.room c.swap.new.y c.swap.new.x c.settle.new.self c.in_ok-found.found c.in_ok-found.ensures (ap held_by c.swap.ensures.x_after)
