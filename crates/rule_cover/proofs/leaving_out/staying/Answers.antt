use Rattle.std.proofs.Common.{◌≡◌, ◌+◌, ℕ, List, Global, Vec, arith, false, get_or, subst, sym, take, true}
use Rattle.std.proofs.lemmas.List.{length-take-le, take_more}
use Rattle.std.proofs.lemmas.Option.{get_or_from_slice_get}
use Rattle.rule_cover.specs.Covers.{IsMarked}
use Rattle.rule_cover.specs.inner.Takers.{AreMarkedIn}
use Rattle.rule_cover.proofs.TakerLemmas.{stay_pushed, stay_without}
use Rattle.rule_cover.proofs.leaving_out.staying.Goals as goal
use Rattle.rule_cover.proofs.leaving_out.staying.Goals.{then-i-first+in_ok-push, else-i-first+else-marks-i}

pub loop-i-preserved : goal.loop-i-preserved
loop-i-preserved c =
    let places = c.args.places.now in
    let i = c.loop-i.i in
    let first = c.args.first in
    let marks = c.args.marks.now in
    let stay = c.loop-i.stay.items in
    let more = take_more places i 0 (omega arith) in
    let size = length-take-le i places (omega arith) in
    elim c.if-i-first.branch [
      | then-i-first+in_ok-push w ↦
          let pushed = stay_pushed (take i places) first marks stay (get_or places i 0) c.loop-i.invariant in
          subst (λ (v : Vec ℕ Global). AreMarkedIn (take (i + 1) places) first marks v.items) (sym w.stay-is)
          (subst (λ (xs : List ℕ). AreMarkedIn xs first marks w.push.new.self.items) (sym more)
          (subst (AreMarkedIn _ first marks) (sym w.in_ok-push.ensures.items) pushed))
      | else-i-first+else-marks-i w ↦
          let not : IsMarked marks i → ⊥ =
          λ marked. let yes : get_or marks i false ≡ true = get_or_from_slice_get marks i true false marked in let f : ⊥ = cc (yes, w.if-marks-i.false) in f in
          let without = stay_without (take i places) first marks stay (get_or places i 0) c.loop-i.invariant (omega (arith, size, w.if-i-first.false))
          (λ marked. not (subst (IsMarked marks) size marked)) in
          subst (λ (v : Vec ℕ Global). AreMarkedIn (take (i + 1) places) first marks v.items) (sym w.stay-is)
          (subst (λ (xs : List ℕ). AreMarkedIn xs first marks stay) (sym more) without)
    ]
