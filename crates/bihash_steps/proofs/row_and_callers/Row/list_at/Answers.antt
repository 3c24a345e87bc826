use Rattle.std.proofs.Common.{arith, sym, ◌∙◌, ap}
use Rattle.atomic_table.specs.Seated.{TableId}
use Rattle.bihash_words.specs.Sizes.{sizes_of}
use Rattle.bihash_steps.proofs.Bounds.{few_words, list_is}
use Rattle.bihash_steps.proofs.row_and_callers.Row.list_at.Goals as goal

pub overflow_add-result-2 : goal.overflow_add-result-2
overflow_add-result-2 g c =
    let z = sizes_of g.S.Shape in
    let few = few_words z c.self.invariant.sound in
    let is = list_is z _ _ _ _ c.MAX_LOG2.ensures c.lists_words.ensures c.requires.small c.requires.inside in omega arith

pub overflow_add-result-3 : goal.overflow_add-result-3
overflow_add-result-3 g c =
    let z = sizes_of g.S.Shape in
    let few = few_words z c.self.invariant.sound in
    let is = list_is z _ _ _ _ c.MAX_LOG2.ensures c.lists_words.ensures c.requires.small c.requires.inside in omega arith

pub returns-clause-place : goal.returns-clause-place
returns-clause-place g c = (list_is _ _ _ _ _ c.MAX_LOG2.ensures c.lists_words.ensures c.requires.small c.requires.inside).0

pub returns-clause-inside : goal.returns-clause-inside
returns-clause-inside g c =
    let z = sizes_of g.S.Shape in
    let is = list_is z _ _ _ _ c.MAX_LOG2.ensures c.lists_words.ensures c.requires.small c.requires.inside in
    let wide = ap (λ (t : TableId). t.words) (sym c.self.view_is) ∙ c.self.invariant.wide in omega arith
