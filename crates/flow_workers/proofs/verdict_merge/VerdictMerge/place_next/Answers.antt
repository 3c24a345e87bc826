use Rattle.std.proofs.Common.{◌∙◌, ◌++◌, ap, append_assoc, arith, get_or, length, refl, sym}
use Rattle.bihash_steps.proofs.Lists.{within}
use Rattle.flow_workers.specs.inner.Merges.{placed_behind, said_in_shares}
use Rattle.flow_workers.proofs.MergeLemmas.{next_inside, placed_more, said_is, said_of, told_next}
use Rattle.flow_workers.proofs.verdict_merge.VerdictMerge.place_next.Goals as goal

pub bounds-self-worker : goal.bounds-self-worker
bounds-self-worker g c = c.requires.4.next.few

pub bounds-shares-worker : goal.bounds-shares-worker
bounds-shares-worker g c = next_inside _ _ _ c.args.shares.now _ _ c.requires.4.next

pub index-requires : goal.index-requires
index-requires g c =
    let next = c.requires.4.next in
    let here = get_or c.args.shares.now c.args.worker c.index-shares-worker.result in
    let same = said_is _ _ _ _ _ _ next here.said (said_of _ _ _ (next_inside _ _ _ c.args.shares.now _ _ next)) in
    let below = within next.said.items _ _ next.verdict in
    let many = ap (λ s. length s.items) same in
    omega arith

pub overflow_add-self : goal.overflow_add-self
overflow_add-self g c =
    let next = c.requires.4.next in
    let here = get_or c.args.shares.now c.args.worker c.index-shares-worker.result in
    let same = said_is _ _ _ _ _ _ next here.said (said_of _ _ _ (next_inside _ _ _ c.args.shares.now _ _ next)) in
    let below = within next.said.items _ _ next.verdict in
    let many = ap (λ s. length s.items) same in
    let small = here.said.small in
    omega arith

pub returns : goal.returns
returns g c = record {
  count = let longer = c.in_ok-push.ensures.len in omega arith;
  placed = λ run traces gone said may. placed_more run traces gone (said_in_shares c.args.shares.now) (placed_behind said c.args.self.now) _ c.args.worker
      c.index.result.now may.before may.next
      (told_next _ _ _ _ _ _ may.next (get_or c.args.shares.now c.args.worker c.index-shares-worker.result).said c.index.result.now
      (said_of _ _ _ (next_inside _ _ _ c.args.shares.now _ _ may.next)) c.index.ensures)
      (ap (λ vs. said ++ vs) c.in_ok-push.ensures.items ∙ sym (append_assoc said _ _)) refl;
}
