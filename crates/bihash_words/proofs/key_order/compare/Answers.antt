use Rattle.std.proofs.Common.{◌∙◌, ◌<◌, ℕ, length, arith, sym, ap}
use Rattle.std.proofs.lemmas.Cmp.{tied_itself}
use Rattle.std.proofs.lemmas.Grind.{same_number_lists}
use Rattle.std.specs.Cmp.Lexicographic.{nat_list_cmp_total, slice_cmp}
use Rattle.std.specs.Ordering.{nat_cmp}
use Rattle.bihash_words.proofs.KeyOrders.{first_decides}
use Rattle.bihash_words.proofs.key_order.compare.Goals as goal

pub returns-then-ne : goal.returns-then-ne
returns-then-ne g c = λ _.
    let here = c.loop-i-test.true in
    let end = c.WORDS-i-end.ensures in
    let first = c.word.ensures in
    let second = c.word-in-loop-i.ensures in
    first_decides (g.S.Shape.words_of c.args.a.now) (g.S.Shape.words_of c.args.b.now) c.loop-i.i c.cmp-order.result c.loop-i.invariant.same
    (let long = first.counted in omega arith) (let long = second.counted in omega arith)
    (c.cmp-order.ensures ∙ (λ i. nat_cmp (first.word i) (second.word i))) (sym c.ne.ensures ∙ c.if-ne.true)

pub returns : goal.returns
returns g c = λ one.
    let some : 0 < c.loop-i.i = omega (arith, c.WORDS-i-end.ensures, c.loop-i-test.false) in
    let counted = c.loop-i.invariant.counted some in
    let all_same = λ (k : ℕ) (below : k < length (g.S.Shape.words_of c.args.a.now)).
    c.loop-i.invariant.same k (omega (arith, counted, c.WORDS-i-end.ensures, c.loop-i-test.false)) in
    sym (tied_itself nat_list_cmp_total (g.S.Shape.words_of c.args.a.now))
    ∙ ap (slice_cmp nat_cmp (g.S.Shape.words_of c.args.a.now)) (same_number_lists _ _ (omega (arith, counted)) all_same)
