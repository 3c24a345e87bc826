-- Lines of expectations one after the other.
use Rattle.std.proofs.Common.{◌≡◌, ◌≢◌, ◌∙◌, ◌+◌, ◌++◌, ℕ, List, ◌∷◌, None, Option, Some, ap, append_assoc, refl, sym}
use Rattle.std.specs.Prelude.{Result, Ok, Err}
use Rattle.compared_verdicts.specs.Expectations.{line_in}
use Rattle.compared_verdicts.specs.Files.{expected_at, expected_from, wrong_at}
use Rattle.compared_verdicts.specs.declared.expectation.Expectation.{Expectation}
use Rattle.compared_verdicts.specs.declared.expectation.Line.{Line}
use Rattle.compared_verdicts.specs.declared.expectation_fault.ExpectationFault.{ExpectationFault}
use Rattle.compared_verdicts.specs.declared.expectation_fault.ExpectationFault.TheVariants.{Memory, NotUtf8, BadLine}
use Rattle.compared_verdicts.specs.declared.expectation_fault.ExpectationReason.{ExpectationReason}

-- behind a line that isn't wrong
pub wrong_later : (n : ℕ) (read : Result Line ExpectationReason) (later : Option ExpectationFault) → wrong_at n read None ≡ None → wrong_at n read later ≡ later
wrong_later n (Ok line) later right = refl
wrong_later n (Err reason) later right = cc

-- at one that is
pub wrong_here : (n : ℕ) (read : Result Line ExpectationReason) (later : Option ExpectationFault) (fault : ExpectationFault) → wrong_at n read None ≡ Some fault
    → wrong_at n read later ≡ Some fault
wrong_here n (Ok line) later fault wrong = cc
wrong_here n (Err reason) later fault wrong = wrong

-- what the next line expects, behind what those before do
pub says_further : (before found all : List Expectation) (n : ℕ) (rest others : List (List ℕ)) (text : List ℕ) → before ++ expected_from n rest ≡ all → rest ≡ text ∷ others
    → found ≡ before ++ expected_at n (line_in text) → found ++ expected_from (n + 1) others ≡ all
says_further before found all n rest others text whole parted is =
    ap (λ f. f ++ expected_from (n + 1) others) is ∙ append_assoc before (expected_at n (line_in text)) (expected_from (n + 1) others)
    ∙ ap (λ r. before ++ expected_from n r) (sym parted) ∙ whole

-- a text whose first wrong line is known is no other
pub no_fault : (fault : ExpectationFault) (first : Option ExpectationFault) → first ≡ None → (fault ≢ Memory → first ≡ Some fault) → fault ≡ Memory
no_fault Memory first none wrong = refl
no_fault NotUtf8 first none wrong = let bad = sym none ∙ wrong (λ e. cc) in cc
no_fault (BadLine n reason) first none wrong = let bad = sym none ∙ wrong (λ e. cc) in cc
