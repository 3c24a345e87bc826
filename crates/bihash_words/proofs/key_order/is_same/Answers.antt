-- All words were compared, and each was the same.
use Rattle.std.proofs.Common.{refl, arith, ◌<◌, ℕ, length}
use Rattle.std.proofs.lemmas.Grind.{same_number_lists}
use Rattle.bihash_words.proofs.key_order.is_same.Goals as goal

pub returns : goal.returns
returns g c =
    let some : 0 < c.loop-i.i = omega (arith, c.WORDS-i-end.ensures, c.requires) in
    let counted = c.loop-i.invariant.counted some in
    let all_same = λ (k : ℕ) (below : k < length (g.S.Shape.words_of c.args.a.now)).
    c.loop-i.invariant.same k (omega (arith, counted, c.WORDS-i-end.ensures)) in
    (λ yes. same_number_lists _ _ (omega (arith, counted)) all_same, λ same. refl)
