use Rattle.std.proofs.Common.{arith, ◌*◌, ℕ, sym, ◌∙◌, ap}
use Rattle.atomic_table.specs.Seated.{TableId}
use Rattle.bihash_words.specs.Sizes.{sizes_of}
use Rattle.bihash_rule.specs.Words.{page_words}
use Rattle.bihash_steps.proofs.CountWord.{front}
use Rattle.bihash_steps.proofs.row_and_callers.Row.returned_count_at.Goals as goal

pub returns-clause-inside : goal.returns-clause-inside
returns-clause-inside g c =
    let z = sizes_of g.S.Shape in
    let few = front z in
    let small = c.requires in
    let wide = ap (λ (t : TableId). t.words) (sym c.self.view_is) ∙ c.self.invariant.wide in
    let pages : ℕ = z.pages * page_words z in omega arith
