use Rattle.std.proofs.Common.{◌≢◌, ap, arith, eq-eqb, length, not, rules, sym, ◌∙◌}
use Rattle.std.proofs.lemmas.Bool.{false≢true}
use Rattle.bihash_words.specs.Pages.{paging_of}
use Rattle.bihash_plan.proofs.PlanLemmas.{exhausted, only_plan}
use Rattle.bihash_plan.proofs.larger_block.larger.Goals as goal
use Rattle.bihash_plan.proofs.larger_block.larger.Goals.{else-not-size-via-then-not-size+else-has_free_place_for_plan, else-not-size-via-else-not-size}

pub returns-then-is_empty-clause-lawful : goal.returns-then-is_empty-clause-lawful
returns-then-is_empty-clause-lawful g c = λ lawful new crowded. only_plan _ _ _ _ _ _ lawful (search rules)

pub returns-then-has_room-clause-lawful : goal.returns-then-has_room-clause-lawful
returns-then-has_room-clause-lawful g c = λ lawful new crowded. only_plan _ _ _ _ _ _ lawful (search rules)

pub returns-then-has_room-2-clause-lawful : goal.returns-then-has_room-2-clause-lawful
returns-then-has_room-2-clause-lawful g c = λ lawful new crowded. only_plan _ _ _ _ _ _ lawful (search rules)

pub returns-then-size-MAX_LOG2-clause-lawful : goal.returns-then-size-MAX_LOG2-clause-lawful
returns-then-size-MAX_LOG2-clause-lawful g c = λ lawful new crowded. only_plan _ _ _ _ _ _ lawful (search rules)

pub returns-then-has_free_place_for_plan-clause-lawful : goal.returns-then-has_free_place_for_plan-clause-lawful
returns-then-has_free_place_for_plan-clause-lawful g c =
    λ lawful new crowded. only_plan _ _ _ _ _ _ lawful (search rules)

pub returns-clause-lawful : goal.returns-clause-lawful
returns-clause-lawful g c = λ lawful new crowded. only_plan _ _ _ _ _ _ lawful (
  new,
  crowded,
  exhausted (paging_of g.S.Shape) _ _ _ _ (let some : length c.args.places.now ≢ 0 = λ none. false≢true (c.if-is_empty.ensures ∙ eq-eqb _ _ none) in omega arith) (omega arith)
      (λ can. elim c.else-not-size.branch [
        | else-not-size-via-then-not-size+else-has_free_place_for_plan w ↦ false≢true
            (w.if-has_free_place_for_plan.ensures.1 can.2)
        | else-not-size-via-else-not-size w ↦ false≢true (sym w.if-not-size.false ∙ ap not can.1)
      ]),
)
