-- The report with the lines of some packets is that on the first of them, and after it that on the others.
use Rattle.std.proofs.Common.{◌≡◌, ◌∙◌, ◌+◌, ◌++◌, ℕ, List, [], ◌∷◌, Option, length, arith, append_assoc, refl, sym, ap}
use Rattle.session_state.specs.declared.verdict.Verdict.{Verdict}
use Rattle.session_state.specs.declared.shown_verdicts.Shown.{Shown}
use Rattle.session_state.specs.declared.shown_verdicts.Shown.TheVariants.{Every}
use Rattle.racl_io.specs.Reports.{line_of, lines_from}
use Rattle.racl_io.specs.ShownReports.{line_shown, lines_shown}

shown_of_both : (shown : Shown) (named : Option ℕ) (n m : ℕ) (xs ys : List Verdict) → m ≡ n + length xs
    → lines_shown shown named n (xs ++ ys) ≡ lines_shown shown named n xs ++ lines_shown shown named m ys
shown_of_both shown named n m [] ys e = let same : m ≡ n = omega (arith, e) in rw same refl
shown_of_both shown named n m (x ∷ xs) ys e =
    ap (λ l. line_shown shown named n x ++ l) (shown_of_both shown named (n + 1) m xs ys (omega (arith, e)))
    ∙ sym (append_assoc (line_shown shown named n x) (lines_shown shown named (n + 1) xs) (lines_shown shown named m ys))

-- what is written where a further part of the lines is
pub more_shown : (shown : Shown) (named : Option ℕ) (front piece lines : List ℕ) (n m : ℕ) (rest xs ys : List Verdict) → front ++ lines_shown shown named n rest ≡ lines
    → rest ≡ xs ++ ys → piece ≡ lines_shown shown named n xs → m ≡ n + length xs → (front ++ piece) ++ lines_shown shown named m ys ≡ lines
more_shown shown named front piece lines n m rest xs ys told parted is e =
    append_assoc front piece (lines_shown shown named m ys)
    ∙ ap (λ l. front ++ l) (ap (λ p. p ++ lines_shown shown named m ys) is ∙ sym (shown_of_both shown named n m xs ys e) ∙ ap (lines_shown shown named n) (sym parted)) ∙ told

-- where every packet has a line, they are those of all packets
pub every_line : (named : Option ℕ) (n : ℕ) (verdicts : List Verdict) → lines_shown Every named n verdicts ≡ lines_from named n verdicts
every_line named n [] = refl
every_line named n (v ∷ vs) = ap (λ l. line_of named n v ++ l) (every_line named (n + 1) vs)
