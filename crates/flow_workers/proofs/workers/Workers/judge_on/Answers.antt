use Rattle.std.proofs.Common.{◌++◌}
use Rattle.packet_view.specs.CheckedCaptures.{remaining}
use Rattle.flow_workers.proofs.BatchMerges.{judged_on}
use Rattle.flow_workers.proofs.workers.Workers.judge_on.Goals as goal

pub hand_over-requires : goal.hand_over-requires
hand_over-requires g c =
    (c.requires.packets ++ remaining c.args.packets, c.requires.said, c.in-Ok.ensures.rest c.requires.packets c.requires.rest)

pub returns-in-Ok : goal.returns-in-Ok
returns-in-Ok g c =
    judged_on g.A.Shape g.B.Shape c.args.self.now c.judge.new.self c.hand_over.new.self c.args.packets c.hand_over.result.items c.in-Ok.ensures
    c.hand_over.ensures
