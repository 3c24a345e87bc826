use Rattle.std.proofs.Common.{ap, ◌-◌, ℕ}
use Rattle.bihash_words.specs.Sizes.{sizes_of}
use Rattle.bihash_table.proofs.PairReads.{last_tells}
use Rattle.bihash_table.proofs.OpenReadLemmas.{read_as}
use Rattle.bihash_table.proofs.open_bucket_search.search_mark.Goals as goal

pub returns : goal.returns
returns g c = read_as _ _ (λ o noted seen. last_tells (sizes_of g.S.Shape) o.extent o.block (g.S.Shape.words_of c.args.hashed.now.key.now)
    c.args.place _ _ _ (ap (λ (n : ℕ). n - 1) c.WORDS.ensures) c.is_sound.ensures.some_word seen c.args.hashed.now.ends) c.load_word.ensures
