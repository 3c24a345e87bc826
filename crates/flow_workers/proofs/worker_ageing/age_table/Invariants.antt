use Rattle.bihash_words.specs.Sizes.{sizes_of}
use Rattle.session_state.specs.Sessions.{is_expired_at}
use Rattle.flow_workers.specs.inner.Ageing.{HasAgedOn}
use Rattle.flow_workers.proofs.worker_ageing.age_table.Given as goal

abbrev pub invariant-loop : goal.invariant-loop
invariant-loop g l =
    HasAgedOn (sizes_of g.S.Shape) l.own.workers l.own.worker (is_expired_at l.expiry.times l.expiry.moment) l.fn.caller.seat l.caller.seat
    l.own.from l.at
