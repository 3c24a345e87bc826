-- What is left of a list whose items are taken one after the other.
use Rattle.std.proofs.Common.{◌≡◌, ◌∙◌, ◌+◌, ◌<◌, ◌≤◌, ℕ, suc, List, [], ◌∷◌, ap, arith, drop, get_or, length, length-drop, sym}
use Rattle.std.proofs.Math.ListN.{drop_of_length-le}
use Rattle.std.proofs.Math.Seq.{drop-cons}
use Rattle.std.proofs.lemmas.List.{drop-drop}

-- before what is left stands the next one
pub drop_one : {A : Type 0} (xs : List A) (k : ℕ) (d : A) → k < length xs → drop k xs ≡ get_or xs k d ∷ drop (k + 1) xs
drop_one xs k d within = let one : suc k ≡ k + 1 = omega arith in drop-cons xs k d within ∙ ap (λ n. get_or xs k d ∷ drop n xs) one

-- after one more was taken
pub left_more : {A : Type 0} (all old new : List A) (x : A) (k : ℕ) → old ≡ drop k all → old ≡ x ∷ new → new ≡ drop (k + 1) all
left_more all old new x k so_far took = ap (drop 1) (sym took) ∙ ap (drop 1) so_far ∙ drop-drop 1 k all

-- where none are left after some, none are left after more
pub left_none : {A : Type 0} (all old : List A) (k n : ℕ) → old ≡ drop k all → old ≡ [] → k ≤ n → [] ≡ drop n all
left_none all old k n so_far none few =
    sym (drop_of_length-le all (omega (arith, length-drop k all, ap length so_far, ap length none, few)))
