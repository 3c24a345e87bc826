-- The filter at hand is that of the call.
use Rattle.flow_workers.proofs.packet_verdict.try_judge.Goals as goal

pub returns : goal.returns
returns g c = c.try_judge_at.ensures c.args.filter.now
    (record { section = c.ready-filter.ensures.section; lives = c.ready-filter.ensures.times })
