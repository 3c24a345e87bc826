use Rattle.std.proofs.Common.{◌≡◌, ◌≤◌, arith, length, refl, slice_get, Some, subst, sym}
use Rattle.std.proofs.lemmas.Option.{slice_get_read}
use Rattle.bihash_plan.specs.inner.LeastPairs.{IsLeastAmong}
use Rattle.bihash_plan.proofs.LeastPairLemmas.{above_least}
use Rattle.bihash_plan.proofs.least_expired_pair.least_expired.Goals as goal
use Rattle.bihash_plan.proofs.least_expired_pair.least_expired.Goals.{then-word-least, else-word-least}

pub loop-i-preserved : goal.loop-i-preserved
loop-i-preserved g c =
    let words_of = g.S.Shape.words_of in
    let places = c.args.places.now in
    elim c.if-word-least.branch [
      | then-word-least w ↦ record {
        least = rw w.least-is w.lesser-least.ensures.least;
        bound = rw w.least-is w.lesser-least.ensures.bound;
      }
      | else-word-least w ↦
          let counted = c.word.ensures.counted in
          let some = c.requires.shape.some_word in
          let word = c.word.ensures.word in
          let above = w.if-word-least.false in
          let at = subst (λ p. slice_get places c.loop-i.i ≡ Some p) c.index-places-i.is
          (slice_get_read places (length places) c.loop-i.i _ refl c.loop-i-test.true c.index-places-i.is) in
          record {
            least = rw w.least-is
                (above_least words_of _ places c.loop-i.i _ _ c.loop-i.least at (subst (λ n. 1 ≤ n) (sym counted) some) (omega arith) (omega arith) c.loop-i.invariant.bound c.loop-i.invariant.least);
            bound = rw w.least-is c.loop-i.invariant.bound;
          }
    ]

pub returns : goal.returns
returns g c =
    let all : c.loop-i.i ≡ length c.args.places.now = omega arith in
    subst (λ n. IsLeastAmong g.S.Shape.words_of (g.E.Expiry.is_expired c.args.expiry.now) c.args.places.now n c.loop-i.least.place) all c.loop-i.invariant.least
