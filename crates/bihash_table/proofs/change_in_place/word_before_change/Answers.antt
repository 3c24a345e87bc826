use Rattle.std.proofs.Common.{◌+◌, ◌*◌, ℕ, subst, sym}
use Rattle.bihash_words.specs.Sizes.{sizes_of}
use Rattle.bihash_steps.specs.BucketSteps.{IsLockedWord}
use Rattle.bihash_table.proofs.StoredWords.{locked_word}
use Rattle.bihash_table.proofs.change_in_place.word_before_change.Goals as goal

pub load_locked-requires-clause-own : goal.load_locked-requires-clause-own
load_locked-requires-clause-own g c = c.requires.own

pub load_locked-requires-clause-word : goal.load_locked-requires-clause-word
load_locked-requires-clause-word g c =
    let z = sizes_of g.S.Shape in
    subst (λ (n : ℕ). IsLockedWord z c.args.seat.now.view c.page.result (c.args.place * (n + 1) + c.args.i)) (sym c.WORDS.ensures)
    (locked_word z c.args.seat.now.view c.args.word c.args.place c.args.i c.page.result c.requires.held c.requires.inside c.page.ensures)
