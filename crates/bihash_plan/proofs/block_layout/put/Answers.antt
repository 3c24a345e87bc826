use Rattle.std.proofs.Common.{◌≢◌, ◌<◌, ◌+◌, ℕ, Bool, true, false, ◌≤◌, List, set, arith, refl, ⊎_elim}
use Rattle.std.proofs.lemmas.Bool.{cases_lt, false≢true}
use Rattle.bihash_words.specs.Patches.{free_mark}
use Rattle.bihash_plan.specs.Blocks.{IsFirstFree}
use Rattle.bihash_plan.specs.Layouts.{IsTakenBefore}
use Rattle.bihash_plan.proofs.Places.{free_inside}
use Rattle.bihash_plan.proofs.Puts.{free_after_put}
use Rattle.bihash_plan.proofs.block_layout.put.Goals as goal

-- a linear block has no free place up to the one that was its first
taken_after : {K : Type 0} (linear : Bool) (page : ℕ) (places : List (K × ℕ)) (i : ℕ) (pair : K × ℕ)
    → pair.1 ≢ free_mark → IsFirstFree linear page places i → IsTakenBefore linear (i + 1) (set places i pair)
taken_after true page places i pair taken first e j less h =
    let was = free_after_put places i pair j (free_inside first.vacant) taken h in
    ⊎_elim (λ (low : j < i). first.first j low tt was.1) (λ (high : i ≤ j). was.0 (omega arith)) (cases_lt j i)
taken_after false page places i pair taken first e j less h = absurd (false≢true e)

pub returns-in-Some-clause-placed : goal.returns-in-Some-clause-placed
returns-in-Some-clause-placed g c = λ taken before _.
    let first = (c.in-Some.ensures.first before).found in
    (c.in-Some.i, first, refl, taken_after _ _ _ _ _ taken first)
