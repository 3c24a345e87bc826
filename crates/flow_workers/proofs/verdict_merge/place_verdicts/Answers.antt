use Rattle.std.proofs.Common.{arith}
use Rattle.std.proofs.lemmas.List.{length-append}
use Rattle.flow_workers.specs.inner.Merges.{placed_behind, said_in_shares}
use Rattle.flow_workers.proofs.MergeLemmas.{all_placed}
use Rattle.flow_workers.proofs.verdict_merge.place_verdicts.Goals as goal

pub place-requires : goal.place-requires
place-requires g c = (c.requires.0, c.requires.1, c.requires.2, c.requires.3, c.requires.4.may)

pub returns : goal.returns
returns g c run traces gone said may =
    all_placed run traces gone (said_in_shares c.args.shares.now) may.may.told (placed_behind said c.place.new.self)
    (c.in_ok-place.ensures.placed run traces gone said may.may)
    (let long = c.in_ok-place.ensures.count in let last = may.last in
    let new = length-append said c.place.new.self.verdicts.items in
    let old = length-append said c.args.before.items in omega arith)
