use Rattle.std.proofs.Common.{◌+◌, arith, sym, ◌∙◌}
use Rattle.bihash_words.specs.Sizes.{sizes_of}
use Rattle.bihash_table.proofs.ExpiredReads.{finds_expired, none_expired_free, none_expired_more}
use Rattle.bihash_table.proofs.OpenReadLemmas.{may_still, word_notes}
use Rattle.bihash_table.proofs.PairReads.{read_value}
use Rattle.bihash_table.proofs.bucket_ageing.expired_in_open_bucket.Goals as goal

pub load_word-value-requires-clause-read : goal.load_word-value-requires-clause-read
load_word-value-requires-clause-read g c =
    let h = c.requires in
    let count = c.place_count-place-end.ensures.count h.extent (word_notes (sizes_of g.S.Shape) _ _ _ h.block) in
    let low = c.loop-place-test.true in may_still c.loop-place.invariant h (omega arith)

pub loop-place-preserved-then-value : goal.loop-place-preserved-then-value
loop-place-preserved-then-value g c = none_expired_free g.S.Shape (g.E.Expiry.is_expired c.args.expiry.now) _ _ _ c.loop-place.place _ c.loop-place.invariant
    (read_value (sizes_of g.S.Shape) _ _ _ _ _ c.WORDS.ensures c.load_word-value.ensures) c.if-value.true

pub read_place-key-requires : goal.read_place-key-requires
read_place-key-requires g c =
    let h = c.requires in
    let count = c.place_count-place-end.ensures.count h.extent (word_notes (sizes_of g.S.Shape) _ _ _ h.block) in
    let low = c.loop-place-test.true in
    may_still {n = c.loop-place.place + 1} c.load_word-value.ensures (may_still c.loop-place.invariant h (omega arith)) (omega arith)

pub returns-then-expired-clause-read : goal.returns-then-expired-clause-read
returns-then-expired-clause-read g c =
    let h = c.requires in
    let count = c.place_count-place-end.ensures.count h.extent (word_notes (sizes_of g.S.Shape) _ _ _ h.block) in
    let low = c.loop-place-test.true in
    finds_expired g.S.Shape (g.E.Expiry.is_expired c.args.expiry.now) _ _ _ c.loop-place.place _ c.loop-place.invariant
    (read_value (sizes_of g.S.Shape) _ _ _ _ _ c.WORDS.ensures c.load_word-value.ensures) _ _ _ _ h.extent c.read_place-key.ensures h.block (omega arith) c.if-value.false

pub loop-place-preserved : goal.loop-place-preserved
loop-place-preserved g c = none_expired_more g.S.Shape (g.E.Expiry.is_expired c.args.expiry.now) _ _ _ c.loop-place.place _ c.loop-place.invariant
    (read_value (sizes_of g.S.Shape) _ _ _ _ _ c.WORDS.ensures c.load_word-value.ensures) (sym c.expired.ensures.told ∙ c.if-expired.false)
