use Rattle.std.proofs.Common.{arith}
use Rattle.bihash_words.specs.Sizes.{sizes_of}
use Rattle.bihash_table.proofs.OpenReadLemmas.{may_less, may_still}
use Rattle.bihash_table.proofs.PairReads.{all_marks}
use Rattle.bihash_table.proofs.open_bucket_search.search_marks.Goals as goal

pub search_mark-a-requires : goal.search_mark-a-requires
search_mark-a-requires g c = may_less c.requires (omega arith)

pub search_mark-b-requires : goal.search_mark-b-requires
search_mark-b-requires g c = let room = c.requires.inside in may_still c.search_mark-a.ensures c.requires (omega arith)

pub search_mark-c-requires : goal.search_mark-c-requires
search_mark-c-requires g c = let room = c.requires.inside in
    may_still c.search_mark-b.ensures (may_still c.search_mark-a.ensures c.requires room) (omega arith)

pub search_mark-d-requires : goal.search_mark-d-requires
search_mark-d-requires g c = let room = c.requires.inside in
    may_still c.search_mark-c.ensures (may_still c.search_mark-b.ensures (may_still c.search_mark-a.ensures c.requires room) room) (omega arith)

pub returns : goal.returns
returns g c = all_marks (sizes_of g.S.Shape) (g.S.Shape.words_of c.args.hashed.now.key.now) c.args.first _ _ _ _ _ _ _ _ _
    c.search_mark-a.ensures c.search_mark-b.ensures c.search_mark-c.ensures c.search_mark-d.ensures
