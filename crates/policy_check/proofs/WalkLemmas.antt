-- What a walk over a list has left.
use Rattle.std.proofs.Common.{◌≡◌, ℕ, ◌-◌, List, [], ◌∷◌, ◌++◌, length, take, drop, length-drop, sym, ap, ◌∙◌, arith}
use Rattle.std.proofs.lemmas.List.{append_assoc, take-append-drop, take_all}

pub left_of : (word front rest : List ℕ) (n : ℕ) → n ≡ length rest - 1 → word ≡ front ++ rest → (x : List ℕ) × (word ≡ x ++ take n (drop 1 rest))
left_of word front rest n counted split =
    let whole : take n (drop 1 rest) ≡ drop 1 rest = take_all n (drop 1 rest) (omega (arith, length-drop 1 rest)) in (
      front ++ take 1 rest,
      split ∙ ap (λ (bs : List ℕ). front ++ bs) (sym (take-append-drop 1 rest)) ∙ sym (append_assoc front (take 1 rest) (drop 1 rest))
          ∙ ap (λ (bs : List ℕ). (front ++ take 1 rest) ++ bs) (sym whole),
    )

pub one_further : {X : Type 0} (all front rest more : List X) (x : X) → all ≡ front ++ rest → rest ≡ x ∷ more → all ≡ (front ++ x ∷ []) ++ more
one_further {X} all front rest more x split next =
    split ∙ ap (λ (xs : List X). front ++ xs) next ∙ sym (append_assoc front (x ∷ []) more)
