use Rattle.std.proofs.Common.{arith, ◌*◌, ℕ}
use Rattle.bihash_words.specs.Sizes.{sizes_of}
use Rattle.bihash_rule.specs.Words.{page_words}
use Rattle.bihash_steps.proofs.Bounds.{few_words}
use Rattle.bihash_steps.proofs.row_and_callers.Row.bucket_at.Goals as goal

pub overflow_add-result : goal.overflow_add-result
overflow_add-result g c =
    let z = sizes_of g.S.Shape in
    let few = few_words z c.self.invariant.sound in
    let at = c.front_words.ensures.words in
    let inside = c.bucket_place.ensures.inside in
    let pages : ℕ = z.pages * page_words z in omega arith
