use Rattle.std.proofs.Common.{false, arith}
use Rattle.bihash_words.specs.Sizes.{sizes_of}
use Rattle.bihash_rule.specs.Buckets.{word_of}
use Rattle.bihash_table.proofs.OpenReadLemmas.{open_word_of_place, read_word_of_place}
use Rattle.bihash_table.proofs.open_bucket_search.load_word.Goals as goal

pub load_open-requires-clause-own : goal.load_open-requires-clause-own
load_open-requires-clause-own g c = c.requires.read.own

pub load_open-requires-clause-word : goal.load_open-requires-clause-word
load_open-requires-clause-word g c =
    let h = c.requires.read in
    let b = h.block in
    let low = c.requires.inside in
    let room = h.inside in
    rw c.WORDS.ensures (open_word_of_place (sizes_of g.S.Shape) _ _ _ _ _ h.extent b
    (c.page.ensures (word_of h.extent false b.open_bucket.version) b.fits b.stood) (omega arith) (omega arith))

pub returns : goal.returns
returns g c = read_word_of_place _ _ _ _ _ _ _ c.WORDS.ensures c.load_open.ensures
