use Rattle.std.proofs.Common.{◌∙◌, ℕ, arith, ap}
use Rattle.std.specs.Prelude.{slice_index}
use Rattle.bihash_words.specs.Sizes.{sizes_of}
use Rattle.bihash_words.specs.declared.block_size.BlockSize.{BlockSize}
use Rattle.bihash_steps.proofs.Bounds.{few_words}
use Rattle.bihash_steps.proofs.BucketPlaces.{bucket_below}
use Rattle.bihash_steps.proofs.OwnedWords.{bucket_inside}
use Rattle.bihash_steps.proofs.RenewedWords.{renewed_more, packed_anew}
use Rattle.bihash_steps.proofs.renewed_row.renewed_words.Goals as goal

pub bounds-words-at : goal.bounds-words-at
bounds-words-at g c =
    let z = sizes_of g.S.Shape in
    let b : ℕ = c.loop-bucket.bucket in
    let at = c.bucket_at-at.ensures.place in let wide = c.requires.wide in
    let within = bucket_inside z b (bucket_below z b _ c.is_sound.ensures c.LOG2_BUCKETS.ensures c.loop-bucket-test.true) in omega arith

pub offset_bounds-words-at : goal.offset_bounds-words-at
offset_bounds-words-at g c =
    let z = sizes_of g.S.Shape in
    let b : ℕ = c.loop-bucket.bucket in
    let at = c.bucket_at-at.ensures.place in let few = few_words z c.is_sound.ensures in
    let within = bucket_inside z b (bucket_below z b _ c.is_sound.ensures c.LOG2_BUCKETS.ensures c.loop-bucket-test.true) in omega arith

pub index_mut-requires-in-loop-bucket : goal.index_mut-requires-in-loop-bucket
index_mut-requires-in-loop-bucket g c =
    let z = sizes_of g.S.Shape in
    let b : ℕ = c.loop-bucket.bucket in
    let at = c.bucket_at-at.ensures.place in let wide = c.requires.wide in let same = c.loop-bucket.invariant.wide in
    let within = bucket_inside z b (bucket_below z b _ c.is_sound.ensures c.LOG2_BUCKETS.ensures c.loop-bucket-test.true) in omega arith

pub pack-requires-clause-page : goal.pack-requires-clause-page
pack-requires-clause-page g c =
    let z = sizes_of g.S.Shape in
    let has = c.requires.fields c.loop-bucket.bucket
    (bucket_below z c.loop-bucket.bucket _ c.is_sound.ensures c.LOG2_BUCKETS.ensures c.loop-bucket-test.true) in
    let is = c.of-word.ensures ∙ (ap (slice_index c.args.words.now) c.bucket_at-at.ensures.place ∙ has.2) in
    let page = c.page.ensures has.0 has.1 is in let fits = has.1.page in omega arith

pub pack-requires-clause-log2 : goal.pack-requires-clause-log2
pack-requires-clause-log2 g c =
    let z = sizes_of g.S.Shape in
    let has = c.requires.fields c.loop-bucket.bucket
    (bucket_below z c.loop-bucket.bucket _ c.is_sound.ensures c.LOG2_BUCKETS.ensures c.loop-bucket-test.true) in
    let is = c.of-word.ensures ∙ (ap (slice_index c.args.words.now) c.bucket_at-at.ensures.place ∙ has.2) in
    let size = ap (λ (s : BlockSize). s.log2) (c.block_size.ensures has.0 has.1 is) in let fits = has.1.log2 in omega arith

pub loop-bucket-preserved : goal.loop-bucket-preserved
loop-bucket-preserved g c =
    let z = sizes_of g.S.Shape in
    let inside = bucket_below z c.loop-bucket.bucket _ c.is_sound.ensures c.LOG2_BUCKETS.ensures c.loop-bucket-test.true in
    let at = c.bucket_at-at.ensures.place in
    renewed_more z c.loop-bucket.bucket c.bucket_at-at.result c.to_word.result c.args.words.now c.loop-bucket.renewed.items at inside c.requires.wide
    (λ x fits stood. c.to_word.ensures ∙ (c.pack.ensures
    ∙ packed_anew x c.page.result c.block_size.result
    (c.page.ensures x fits (c.of-word.ensures ∙ (ap (slice_index c.args.words.now) at ∙ stood)))
    (c.block_size.ensures x fits (c.of-word.ensures ∙ (ap (slice_index c.args.words.now) at ∙ stood)))))
    c.loop-bucket.invariant
