use Rattle.std.proofs.Common.{Some, Ok, subst, sym}
use Rattle.bihash_words.specs.declared.patch.Change.{Change}
use Rattle.bihash_table.specs.inner.Seen.{WantsChange}
use Rattle.bihash_table.specs.Tries.{Tried}
use Rattle.bihash_table.proofs.Tries.{other_value, tried_locked, tried_not, under_lock}
use Rattle.bihash_table.proofs.try_update.change_pair.Goals as goal

pub lock_if_unchanged-requires-clause-own : goal.lock_if_unchanged-requires-clause-own
lock_if_unchanged-requires-clause-own g c = c.requires.own

pub lock_if_unchanged-requires-clause-seen : goal.lock_if_unchanged-requires-clause-seen
lock_if_unchanged-requires-clause-seen g c = c.requires.seen.seen

pub returns-then-not-lock_if_unchanged-clause-told : goal.returns-then-not-lock_if_unchanged-clause-told
returns-then-not-lock_if_unchanged-clause-told g c =
    tried_not g.S.Shape _ _ _ _ _ _ (sym c.args.seen.now.hashed.home) _ c.lock_if_unchanged.ensures c.if-not-lock_if_unchanged.true

pub overwrite-requires-clause-held : goal.overwrite-requires-clause-held
overwrite-requires-clause-held g c =
    let h = subst (λ (d : Change). WantsChange g.S.Shape c.args.row.now c.args.seat.now c.args.seen.now (Some c.args.pair) d) c.in-Set.is c.requires in
    under_lock g.S.Shape _ _ c.args.seen.now _ h.own h.unworn h.storable h.seen c.lock_if_unchanged.ensures
    c.if-not-lock_if_unchanged.false (λ told. told)

pub overwrite-requires-clause-other : goal.overwrite-requires-clause-other
overwrite-requires-clause-other g c =
    let h = subst (λ (d : Change). WantsChange g.S.Shape c.args.row.now c.args.seat.now c.args.seen.now (Some c.args.pair) d) c.in-Set.is c.requires in
    other_value c.in-Set.value c.args.pair.1 h.wanted

pub returns-else-not-lock_if_unchanged-clause-told : goal.returns-else-not-lock_if_unchanged-clause-told
returns-else-not-lock_if_unchanged-clause-told g c = let hashed = c.args.seen.now.hashed in
    subst (λ (d : Change). Tried g.S.Shape c.args.seat.now c.overwrite.new.seat hashed.key.now (Some c.args.pair.1) d
    (Ok c.overwrite.result)) (sym c.in-Set.is)
    (tried_locked g.S.Shape c.args.seat.now c.lock_if_unchanged.new.seat c.overwrite.new.seat hashed.bucket c.args.seen.now.word hashed.key.now _ _
    c.lock_if_unchanged.ensures c.if-not-lock_if_unchanged.false (sym hashed.home) (Ok c.overwrite.result) c.overwrite.ensures.told)

pub remove-requires : goal.remove-requires
remove-requires g c = subst (λ (d : Change). WantsChange g.S.Shape c.args.row.now c.args.seat.now c.args.seen.now (Some c.args.pair) d) c.in-Remove.is c.requires

pub returns-in-Remove-clause-told : goal.returns-in-Remove-clause-told
returns-in-Remove-clause-told g c = let hashed = c.args.seen.now.hashed in
    subst (λ (d : Change). Tried g.S.Shape c.args.seat.now c.remove.new.seat hashed.key.now (Some c.args.pair.1) d c.remove.result)
    (sym c.in-Remove.is) c.remove.ensures.told
