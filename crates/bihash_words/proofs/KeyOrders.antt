-- The first words that differ decide how two keys stand.
use Rattle.std.proofs.Common.{◌≡◌, ◌∙◌, ℕ, zero, suc, ◌<◌, ◌==◌, true, true≢false, not, List, [], ◌∷◌, length, slice_index, arith, refl, sym, ap}
use Rattle.std.proofs.lemmas.Cmp.{nat_cmp_total, tied_itself}
use Rattle.std.specs.Cmp.Lexicographic.{slice_cmp}
use Rattle.std.specs.Ordering.{nat_cmp, ordering_index, ordering_then}
use Rattle.std.specs.declared.cmp.Ordering.{Ordering}
use Rattle.std.specs.declared.cmp.Ordering.TheVariants.{Less, Equal, Greater}

decided : (r s : Ordering) → not (ordering_index r == 1) ≡ true → r ≡ ordering_then r s
decided Less s other = refl
decided Equal s other = absurd (true≢false (sym other))
decided Greater s other = refl

pub first_decides : (xs ys : List ℕ) (i : ℕ) (r : Ordering) → ((k : ℕ) → k < i → slice_index xs k ≡ slice_index ys k)
    → i < length xs → i < length ys → r ≡ nat_cmp (slice_index xs i) (slice_index ys i) → not (ordering_index r == 1) ≡ true
    → r ≡ slice_cmp nat_cmp xs ys
first_decides [] ys i r same low high is other = absurd (omega arith)
first_decides (x ∷ xs) [] i r same low high is other = absurd (omega arith)
first_decides (x ∷ xs) (y ∷ ys) zero r same low high is other =
    decided r (slice_cmp nat_cmp xs ys) other ∙ ap (λ (o : Ordering). ordering_then o (slice_cmp nat_cmp xs ys)) is
first_decides (x ∷ xs) (y ∷ ys) (suc i) r same low high is other =
    first_decides xs ys i r (λ k l. same (suc k) (omega arith)) (omega arith) (omega arith) is other
    ∙ ap (λ (o : Ordering). ordering_then o (slice_cmp nat_cmp xs ys))
    (sym (tied_itself nat_cmp_total x) ∙ ap (nat_cmp x) (same 0 (omega arith)))
