use Rattle.racl_system.proofs.MergeLemmas.{one_more}
use Rattle.racl_system.proofs.merged_files.behind_those.Goals as goal

pub records-preserved : goal.records-preserved
records-preserved c =
    let first = c.in-Some.ensures.some in
    one_more c.args.order c.args.bytes.now c.args.place c.args.next c.records._count c.records.left.now c.in-Some.rest.now first.0 c.records.invariant first.1 first.2
