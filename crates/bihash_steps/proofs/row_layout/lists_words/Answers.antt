use Rattle.std.proofs.Common.{arith, ◌≡◌, ◌/◌, ◌^◌, ℕ, suc, ap}
use Rattle.bihash_words.specs.Sizes.{sizes_of}
use Rattle.bihash_steps.proofs.Bounds.{few_listed}
use Rattle.bihash_steps.proofs.row_layout.lists_words.Goals as goal

pub overflow_add-words : goal.overflow_add-words
overflow_add-words g c =
    let z = sizes_of g.S.Shape in
    let log2 : ℕ = c.loop-smaller.smaller in
    let few = few_listed z (suc log2) c.requires.sound in
    let small = c.requires.sound.few_buckets in
    let same : c.PAGES.result / 2 ^ log2 ≡ z.pages / 2 ^ log2 = ap (λ (pages : ℕ). pages / 2 ^ log2) c.PAGES.ensures in
    let x : ℕ = c.PAGES.result / 2 ^ log2 in let y : ℕ = z.pages / 2 ^ log2 in omega arith
