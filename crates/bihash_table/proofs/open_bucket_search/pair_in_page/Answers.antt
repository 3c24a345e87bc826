use Rattle.std.proofs.Common.{◌+◌, ◌*◌, ap, arith, refl}
use Rattle.bihash_words.specs.Sizes.{sizes_of}
use Rattle.bihash_table.proofs.PairReads.{later_marked, no_marks, pair_marked}
use Rattle.bihash_table.proofs.OpenReadLemmas.{may_less, may_still}
use Rattle.bihash_table.proofs.open_bucket_search.pair_in_page.Goals as goal

pub search_marks-marks-requires : goal.search_marks-marks-requires
search_marks-marks-requires g c = may_less c.requires.read (omega arith)

pub value_at-requires : goal.value_at-requires
value_at-requires g c = let room = c.requires.read.inside in let low = c.first_search_mark.ensures.inside in
    may_still c.marked.invariant c.requires.read (omega arith)

pub returns-in-Some : goal.returns-in-Some
returns-in-Some g c = pair_marked (sizes_of g.S.Shape) (g.S.Shape.words_of c.args.hashed.now.key.now) (4 * c.args.page) _ _ _ c.marked.marks _
    (let some = c.marked-test.true in let is = c.count_search_marks.ensures in omega arith) (ap (λ n. 4 * c.args.page + n) c.first_search_mark.ensures.first)
    c.marked.invariant 0 0 c.in-Some.value c.in-Some.ensures

pub marked-preserved : goal.marked-preserved
marked-preserved g c = later_marked (sizes_of g.S.Shape) (g.S.Shape.words_of c.args.hashed.now.key.now) (4 * c.args.page) _ _ _ c.marked.marks _
    (let some = c.marked-test.true in let is = c.count_search_marks.ensures in omega arith) (ap (λ n. 4 * c.args.page + n) c.first_search_mark.ensures.first)
    c.marked.invariant c.later_search_marks-marks.result c.later_search_marks-marks.ensures c.in_default.ensures

pub returns : goal.returns
returns g c = no_marks (sizes_of g.S.Shape) (g.S.Shape.words_of c.args.hashed.now.key.now) (4 * c.args.page) c.marked.marks _ _ _ _
    (let none = c.marked-test.false in let is = c.count_search_marks.ensures in omega arith) refl (omega arith) c.marked.invariant
