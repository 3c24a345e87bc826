use Rattle.std.proofs.Common.{arith, ◌≡◌, ◌+◌, ◌-◌, ◌*◌, ℕ, ap}
use Rattle.bihash_words.specs.Sizes.{sizes_of}
use Rattle.bihash_rule.specs.Words.{page_words}
use Rattle.bihash_steps.proofs.Bounds.{few_words}
use Rattle.bihash_steps.proofs.row_and_callers.Row.page_at.Goals as goal

pub overflow_add-result-2 : goal.overflow_add-result-2
overflow_add-result-2 g c =
    let z = sizes_of g.S.Shape in
    let few = few_words z c.self.invariant.sound in
    let at = c.pages_front.ensures.words in
    let inside = c.requires.inside in
    let same = ap (λ (words : ℕ). (c.args.page - 1) * (4 * (words + 1))) c.WORDS.ensures in
    let x : ℕ = (c.args.page - 1) * (4 * (c.WORDS.result + 1)) in
    let y : ℕ = (c.args.page - 1) * page_words z in let is : x ≡ y = same in
    let pages : ℕ = z.pages * page_words z in omega arith

pub overflow_add-result-3 : goal.overflow_add-result-3
overflow_add-result-3 g c =
    let z = sizes_of g.S.Shape in
    let few = few_words z c.self.invariant.sound in
    let at = c.pages_front.ensures.words in
    let inside = c.requires.inside in
    let same = ap (λ (words : ℕ). (c.args.page - 1) * (4 * (words + 1))) c.WORDS.ensures in
    let x : ℕ = (c.args.page - 1) * (4 * (c.WORDS.result + 1)) in
    let y : ℕ = (c.args.page - 1) * page_words z in let is : x ≡ y = same in
    let pages : ℕ = z.pages * page_words z in omega arith
