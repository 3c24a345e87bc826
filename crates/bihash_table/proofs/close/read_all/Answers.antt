use Rattle.std.proofs.Common.{◌≡◌, ◌∙◌, ℕ, ◌^◌, ◌≤◌, List, length, pow_mono, arith, slice_index, sym, ap, subst}
use Rattle.bihash_words.specs.Sizes.{sizes_of}
use Rattle.bihash_steps.specs.Renewals.{AreRowWords}
use Rattle.bihash_steps.specs.Seats.{CallerState}
use Rattle.bihash_rule.specs.declared.view.Known.{Known}
use Rattle.bihash_steps.proofs.Bounds.{few_words}
use Rattle.bihash_steps.proofs.BucketPlaces.{bucket_below}
use Rattle.bihash_steps.proofs.OwnedWords.{bucket_inside}
use Rattle.bihash_table.specs.inner.PairLists.{ListsBuckets}
use Rattle.bihash_table.proofs.BlockPairs.{bucket_added, has_block, row_wide}
use Rattle.bihash_table.proofs.PairListLemmas.{buckets_none}
use Rattle.bihash_table.proofs.close.read_all.Goals as goal

pub loop-bucket-init : goal.loop-bucket-init
loop-bucket-init g c = subst (ListsBuckets g.S.Shape c.read_words.new.seat.view.known 0) (sym c.new-pairs.ensures.items)
    (buckets_none g.S.Shape c.read_words.new.seat.view.known)

pub bounds-words-bucket_at : goal.bounds-words-bucket_at
bounds-words-bucket_at g c =
    let z = sizes_of g.S.Shape in
    let wide = row_wide z _ _ c.in_ok-loaded.ensures.words in
    let same = ap (λ (ws : List ℕ). length ws) c.as_slice-words.ensures.value in
    let at = c.bucket_at.ensures.place in
    let within = bucket_inside z c.loop-bucket.bucket
    (bucket_below z c.loop-bucket.bucket c.LOG2_BUCKETS.result c.is_sound.ensures c.LOG2_BUCKETS.ensures c.loop-bucket-test.true) in omega arith

pub offset_bounds-words-bucket_at : goal.offset_bounds-words-bucket_at
offset_bounds-words-bucket_at g c =
    let z = sizes_of g.S.Shape in
    let few = few_words z c.is_sound.ensures in
    let at = c.bucket_at.ensures.place in
    let within = bucket_inside z c.loop-bucket.bucket
    (bucket_below z c.loop-bucket.bucket c.LOG2_BUCKETS.result c.is_sound.ensures c.LOG2_BUCKETS.ensures c.loop-bucket-test.true) in omega arith

pub read_pairs-requires : goal.read_pairs-requires
read_pairs-requires g c =
    let z = sizes_of g.S.Shape in
    has_block z c.read_words.new.seat.view _ c.loop-bucket.bucket c.of-word.result
    (subst (AreRowWords z c.read_words.new.seat.view) (sym c.as_slice-words.ensures.value) c.in_ok-loaded.ensures.words)
    (ap (λ (s : CallerState). s.view.holds) c.read_words.ensures.noted.same ∙ c.requires.free)
    (bucket_below z c.loop-bucket.bucket c.LOG2_BUCKETS.result c.is_sound.ensures c.LOG2_BUCKETS.ensures c.loop-bucket-test.true)
    (c.of-word.ensures ∙ ap (slice_index c.as_slice-words.result.now) c.bucket_at.ensures.place)

pub loop-bucket-preserved : goal.loop-bucket-preserved
loop-bucket-preserved g c =
    let z = sizes_of g.S.Shape in
    bucket_added g.S.Shape c.read_words.new.seat.view c.as_slice-words.result.now c.loop-bucket.bucket c.of-word.result _ _
    (subst (AreRowWords z c.read_words.new.seat.view) (sym c.as_slice-words.ensures.value) c.in_ok-loaded.ensures.words)
    (ap (λ (s : CallerState). s.view.holds) c.read_words.ensures.noted.same ∙ c.requires.free)
    (bucket_below z c.loop-bucket.bucket c.LOG2_BUCKETS.result c.is_sound.ensures c.LOG2_BUCKETS.ensures c.loop-bucket-test.true)
    (c.of-word.ensures ∙ ap (slice_index c.as_slice-words.result.now) c.bucket_at.ensures.place)
    c.in_ok-read_pairs.ensures c.loop-bucket.invariant

pub returns-clause-pairs : goal.returns-clause-pairs
returns-clause-pairs g c =
    let log2 = c.LOG2_BUCKETS.ensures in
    let small = c.is_sound.ensures.few_buckets in
    let at_most : c.LOG2_BUCKETS.result ≤ 24 = omega arith in
    let few : 2 ^ c.LOG2_BUCKETS.result ≤ 2 ^ 24 = pow_mono at_most in
    let low = c.loop-bucket.auto.bucket-end in
    let end = c.loop-bucket-test.false in
    let n : ℕ = 2 ^ c.LOG2_BUCKETS.result in
    let all : c.loop-bucket.bucket ≡ n = omega arith in
    subst (λ (k : Known). ListsBuckets g.S.Shape k (2 ^ g.S.Shape.LOG2_BUCKETS) c.loop-bucket.pairs.items)
    (ap (λ (s : CallerState). s.view.known) c.read_words.ensures.noted.same)
    (subst (λ (m : ℕ). ListsBuckets g.S.Shape c.read_words.new.seat.view.known m c.loop-bucket.pairs.items)
    (all ∙ ap (λ (k : ℕ). 2 ^ k) log2) c.loop-bucket.invariant)
