use Rattle.std.proofs.Common.{◌≡◌, ◌+◌, ◌++◌, arith, length, refl}
use Rattle.std.proofs.lemmas.List.{length-append}
use Rattle.flow_workers.specs.inner.Merges.{placed_behind, said_in_shares}
use Rattle.flow_workers.proofs.MergeLemmas.{may_place_next}
use Rattle.flow_workers.proofs.verdict_merge.VerdictMerge.place.Goals as goal

pub place_next-requires : goal.place_next-requires
place_next-requires g c =
    let said = c.requires.3 in
    let before = c.packets.invariant.placed c.requires.0 c.requires.1 c.requires.2 said c.requires.4 in
    let many : length (said ++ c.packets.self.verdicts.items) ≡ length (said ++ c.args.self.now.verdicts.items) + c.packets.judge-index =
    let count = c.packets.invariant.count in
    let new = length-append said c.packets.self.verdicts.items in
    let old = length-append said c.args.self.now.verdicts.items in omega arith in (
      c.requires.0,
      c.requires.1,
      c.requires.2,
      said,
      record {
        before = before;
        next = may_place_next c.requires.0 c.requires.1 c.requires.2 (said_in_shares c.args.shares.now) c.args.judges.now
            (placed_behind said c.args.self.now) (placed_behind said c.packets.self) c.packets.judge-index _ c.requires.4 many
            c.packets-test.true refl before;
      },
    )

pub packets-preserved : goal.packets-preserved
packets-preserved g c = record {
  count = let longer = c.in_ok-place_next.ensures.count in let count = c.packets.invariant.count in omega arith;
  placed = λ run traces gone said may.
      let before = c.packets.invariant.placed run traces gone said may in
      let many : length (said ++ c.packets.self.verdicts.items) ≡ length (said ++ c.args.self.now.verdicts.items) + c.packets.judge-index =
      let count = c.packets.invariant.count in
      let new = length-append said c.packets.self.verdicts.items in
      let old = length-append said c.args.self.now.verdicts.items in omega arith in
      c.in_ok-place_next.ensures.placed run traces gone said (record {
        before = before;
        next = may_place_next run traces gone (said_in_shares c.args.shares.now) c.args.judges.now (placed_behind said c.args.self.now)
            (placed_behind said c.packets.self) c.packets.judge-index _ may many c.packets-test.true refl before;
      });
}
