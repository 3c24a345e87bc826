use Rattle.bihash_words.specs.Sizes.{sizes_of}
use Rattle.bihash_table.proofs.ExpiredReads.{expiry_away, none_confirmed, none_without_places}
use Rattle.bihash_table.proofs.OpenReadLemmas.{may_read, names_block}
use Rattle.bihash_table.proofs.bucket_ageing.find_none_expired.Goals as goal

pub place_count-requires : goal.place_count-requires
place_count-requires g c = names_block c.is_sound.ensures (may_read {s = c.args.seat.now} c.requires.own c.requires.seen.seen)

pub returns-then-place_count-eq0 : goal.returns-then-place_count-eq0
returns-then-place_count-eq0 g c = none_without_places g.S.Shape _ _ _ _ _ _ c.requires c.place_count.ensures c.if-place_count-eq0.true

pub is_unchanged-requires-clause-own : goal.is_unchanged-requires-clause-own
is_unchanged-requires-clause-own g c = c.requires.own

pub is_unchanged-requires-clause-seen : goal.is_unchanged-requires-clause-seen
is_unchanged-requires-clause-seen g c = c.requires.seen.seen

pub returns-then-not-is_unchanged : goal.returns-then-not-is_unchanged
returns-then-not-is_unchanged g c = expiry_away (sizes_of g.S.Shape) _ _ _ _ _ c.is_unchanged.ensures c.if-not-is_unchanged.true

pub returns : goal.returns
returns g c = none_confirmed g.S.Shape _ _ _ _ _ _ c.is_unchanged.ensures c.requires c.if-not-is_unchanged.false
