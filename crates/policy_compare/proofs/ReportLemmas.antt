-- The lines of some differences or interfaces, and of those behind them.
use Rattle.std.proofs.Common.{◌≡◌, ◌∙◌, ◌-◌, ◌++◌, ℕ, false, suc, List, [], ◌∷◌, ap, append_assoc, arith, drop, get_or, length, refl, sym, take}
use Rattle.std.specs.Prelude.{◌==◌}
use Rattle.std.proofs.lemmas.List.{take_all}
use Rattle.policy_compare.specs.ComparisonReports.{line_of, lines_of, own_line, own_lines}
use Rattle.policy_compare.specs.declared.difference.Difference.{Difference}

lines_of_both : (xs ys : List Difference) → lines_of (xs ++ ys) ≡ lines_of xs ++ lines_of ys
lines_of_both [] ys = refl
lines_of_both (x ∷ xs) ys = ap (λ l. line_of x ++ l) (lines_of_both xs ys) ∙ sym (append_assoc (line_of x) (lines_of xs) (lines_of ys))

-- a piece of lines behind those before
pub lines_further : (front piece all : List ℕ) (rest first others : List Difference) → front ++ lines_of rest ≡ all → rest ≡ first ++ others → piece ≡ lines_of first
    → (front ++ piece) ++ lines_of others ≡ all
lines_further front piece all rest first others whole parted text =
    append_assoc front piece (lines_of others) ∙ ap (λ p. front ++ (p ++ lines_of others)) text
    ∙ ap (λ l. front ++ l) (sym (lines_of_both first others) ∙ ap lines_of (sym parted)) ∙ whole

-- the line of the first interface behind those before
pub own_further : (front all rest : List ℕ) → false ≡ (length rest == 0) → front ++ own_lines rest ≡ all
    → (front ++ own_line (get_or rest 0 0)) ++ own_lines (take (length rest - 1) (drop 1 rest)) ≡ all
own_further front all [] none whole = let f : ⊥ = cc none in absurd f
own_further front all (x ∷ xs) none whole =
    let less : suc (length xs) - 1 ≡ length xs = omega arith in
    let others : take (length (x ∷ xs) - 1) (drop 1 (x ∷ xs)) ≡ xs = ap (λ (n : ℕ). take n xs) less ∙ take_all (length xs) xs (omega arith) in
    append_assoc front (own_line x) (own_lines (take (length (x ∷ xs) - 1) (drop 1 (x ∷ xs))))
    ∙ ap (λ (ns : List ℕ). front ++ (own_line x ++ own_lines ns)) others ∙ whole
