use Rattle.std.proofs.Common.{rules}
use Rattle.std.proofs.lemmas.List.Sorted.{answers_always, ranks_by}
use Rattle.std.specs.Cmp.Lexicographic.{nat_list_cmp_total, slice_cmp}
use Rattle.std.specs.Ordering.{is_lt, nat_cmp}
use Rattle.bihash_table.proofs.close.sort_closed_pairs.Goals as goal

pub returns-clause-sorted : goal.returns-clause-sorted
returns-clause-sorted g c = λ some. c.sort_unstable_by.ensures.sorted
    (λ p q. is_lt (slice_cmp nat_cmp (g.S.Shape.words_of p.0) (g.S.Shape.words_of q.0)))
    (ranks_by nat_list_cmp_total (λ p. g.S.Shape.words_of p.0))
    (answers_always _ _ _ (λ f a r f' h. search rules))
