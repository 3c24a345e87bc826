use Rattle.std.proofs.Common.{◌∙◌, []}
use Rattle.packet_view.specs.CheckedCaptures.{remaining}
use Rattle.flow_workers.proofs.RestLemmas.{said_by}
use Rattle.flow_workers.proofs.run_at_once.run_setup.Goals as goal

pub end-requires : goal.end-requires
end-requires g c = (remaining c.args.packets, [], c.in-Ok-judge.ensures.rest [] c.in-Ok.ensures.rest)

pub returns-in-Ok-end : goal.returns-in-Ok-end
returns-in-Ok-end g c =
    said_by g.A.Shape g.B.Shape _ _ (remaining c.args.packets) c.in-Ok-end.verdicts.items _
    (c.in-Ok-judge.ensures.by ∙ c.in-Ok.ensures.by)
    (c.in-Ok-judge.ensures.rest [] c.in-Ok.ensures.rest) c.in-Ok-end.ensures
