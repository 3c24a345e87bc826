use Rattle.std.proofs.Common.{arith, ◌+◌, ◌*◌, ℕ, refl}
use Rattle.bihash_steps.proofs.Bounds.{row_is}
use Rattle.bihash_steps.proofs.row_layout.row_words.Goals as goal

pub overflow_add-result : goal.overflow_add-result
overflow_add-result g c =
    let r = row_is _ _ _ _ _ c.requires.sound c.front_words.ensures.words c.front_words.ensures.few c.LOG2_BUCKETS.ensures refl refl in omega arith

pub overflow_add-result-2 : goal.overflow_add-result-2
overflow_add-result-2 g c =
    let r = row_is _ _ _ _ _ c.requires.sound c.front_words.ensures.words c.front_words.ensures.few c.LOG2_BUCKETS.ensures c.PAGES.ensures
    c.WORDS.ensures in
    let pages : ℕ = c.PAGES.result * (4 * (c.WORDS.result + 1)) in omega arith

pub returns : goal.returns
returns g c = (row_is _ _ _ _ _ c.requires.sound c.front_words.ensures.words c.front_words.ensures.few c.LOG2_BUCKETS.ensures c.PAGES.ensures
    c.WORDS.ensures).0
