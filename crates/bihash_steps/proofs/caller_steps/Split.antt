-- What the steps of a split come to: the parent keeps its numbers, and the new caller has the next one.
use Rattle.std.proofs.Common.{◌≡◌, ℕ, ◌+◌, List, [], ◌∷◌, ◌++◌, length, take, drop, refl, sym, ap, ◌∙◌, None}
use Rattle.std.proofs.Math.Seq.{take-append_seam, drop-append_seam}
use Rattle.bihash_rule.specs.Views.{empty_record}
use Rattle.bihash_steps.specs.Steps.{view_after_count, view_after_number, first_numbers, other_numbers, parent, newcomer}
use Rattle.bihash_steps.specs.Seats.{CallerState, with_view, stamp_of}
use Rattle.bihash_rule.specs.declared.view.Record.{Record}
use Rattle.bihash_rule.specs.declared.view.View.{View}

-- the steps of a split of the caller a: it loads the count n, and takes the next number
module _ (a loaded taken : CallerState) (n kept : ℕ) (load : loaded ≡ with_view a (view_after_count a.view n)) (row : taken.row ≡ loaded.row)
    (seat : taken.seat ≡ loaded.seat) (number : taken.view ≡ view_after_number loaded.view n) (all : length a.view.records ≡ kept) where
  view_is : taken.view ≡ view_after_number (view_after_count a.view n) n
  view_is = number ∙ ap (λ (k : CallerState). view_after_number k.view n) load

  abbrev both : List Record
  both = a.view.records ++ empty_record (n + 1) ∷ []

  first_are : take kept both ≡ a.view.records
  first_are = ap (λ (k : ℕ). take k both) (sym all) ∙ take-append_seam a.view.records (empty_record (n + 1) ∷ [])

  other_is : drop kept both ≡ empty_record (n + 1) ∷ []
  other_is = ap (λ (k : ℕ). drop k both) (sym all) ∙ drop-append_seam a.view.records (empty_record (n + 1) ∷ [])

  pub old_caller : (left : CallerState) → left ≡ with_view taken (first_numbers kept taken.view) → left ≡ with_view a (parent a.view n)
  old_caller left is =
      let row_is = row ∙ ap (λ (k : CallerState). k.row) load in
      let seat_is = seat ∙ ap (λ (k : CallerState). k.seat) load in
      let view = ap (first_numbers kept) view_is ∙ ap (λ (rs : List Record). record (parent a.view n) { records = rs }) first_are in
      is ∙ (λ i. record { row = row_is i; seat = seat_is i; view = view i })

  pub new_caller : (right : View) → right ≡ other_numbers kept taken.view → right ≡ newcomer a.view n
  new_caller right is =
      is ∙ (ap (other_numbers kept) view_is ∙ ap (λ (rs : List Record). record (newcomer a.view n) { records = rs }) other_is)

  -- it has made no call
  pub new_stamp : stamp_of (other_numbers kept taken.view).records ≡ None
  new_stamp = ap (λ (v : View). stamp_of v.records) (new_caller (other_numbers kept taken.view) refl)
