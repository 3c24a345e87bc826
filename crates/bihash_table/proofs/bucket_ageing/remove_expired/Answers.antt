use Rattle.std.proofs.Common.{sym, ◌∙◌}
use Rattle.bihash_table.proofs.ExpiredReads.{expired_found, no_stranger}
use Rattle.bihash_table.proofs.bucket_ageing.remove_expired.Goals as goal

pub unreachable-requires : goal.unreachable-requires
unreachable-requires g c = no_stranger g.S.Shape _ _ _ _ _ _ c.is_unchanged.ensures c.args.pair.now c.requires
    (λ home. c.if-hashed-bucket.true (sym c.of-hashed.ensures.home ∙ home)) c.if-is_unchanged.true

pub remove_unless_worn-requires : goal.remove_unless_worn-requires
remove_unless_worn-requires g c = expired_found g.S.Shape _ _ _ c.args.bucket _ c.args.pair.now c.requires c.if-hashed-bucket.false c.of-hashed.ensures.key
