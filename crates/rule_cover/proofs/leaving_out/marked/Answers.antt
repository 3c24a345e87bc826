use Rattle.std.proofs.Common.{◌≡◌, ◌<◌, ◌+◌, ◌++◌, ℕ, [], ◌∷◌, All, Global, Vec, arith, false, get_or, length, rules, subst, sym, true}
use Rattle.std.specs.Prelude.{Contains}
use Rattle.std.proofs.lemmas.Option.{get_or_from_slice_get, slice_get_within}
use Rattle.rule_cover.specs.Covers.{IsMarked}
use Rattle.rule_cover.proofs.TakerLemmas.{marked_passed, marked_pushed}
use Rattle.rule_cover.proofs.leaving_out.marked.Goals as goal
use Rattle.rule_cover.proofs.leaving_out.marked.Goals.{then-marks-place+in_ok-push, else-marks-place}

pub loop-place-preserved : goal.loop-place-preserved
loop-place-preserved c =
    let marks = c.args.marks.now in
    let place = c.loop-place.place in
    let so = λ (v : Vec ℕ Global). All (λ k. k < length marks) v.items × ((k : ℕ) → k < place + 1 → IsMarked marks k → Contains v.items k) in
    elim c.if-marks-place.branch [
      | then-marks-place+in_ok-push w ↦
          let items : w.push.new.self.items ≡ c.loop-place.places.items ++ place ∷ [] = search rules in
          subst so (sym w.places-is)
          (marked_pushed marks c.loop-place.places.items w.push.new.self.items place (omega arith) c.loop-place.invariant.0 c.loop-place.invariant.1 items)
      | else-marks-place w ↦
          subst so (sym w.places-is) (
            c.loop-place.invariant.0,
            marked_passed marks c.loop-place.places.items place
                (λ marked. let yes : get_or marks place false ≡ true = get_or_from_slice_get marks place true false marked in let f : ⊥ = cc (yes, w.if-marks-place.false) in f)
                c.loop-place.invariant.1,
          )
    ]

pub returns-clause-every : goal.returns-clause-every
returns-clause-every c = λ k marked. c.loop-place.invariant.1 k (omega (arith, slice_get_within c.args.marks.now k _ marked)) marked
