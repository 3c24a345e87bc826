-- What a file of expectations says, and where it is wrong (this project's profile).
use Rattle.std.specs.Prelude.{◌≡◌, ◌⊎◌, ◌+◌, ◌++◌, ℕ, List, [], ◌∷◌, Option, None, Some, Result, Ok, Err}
use Rattle.std.specs.Str.{IsUtf8}
use Rattle.std.specs.Str.Lines.{lines}
use Rattle.compared_verdicts.specs.Expectations.{line_in}
use Rattle.compared_verdicts.specs.declared.expectation.Expectation.{Expectation}
use Rattle.compared_verdicts.specs.declared.expectation.Line.{Line}
use Rattle.compared_verdicts.specs.declared.expectation.Line.TheVariants.{Blank, Expects}
use Rattle.compared_verdicts.specs.declared.expectation_fault.ExpectationFault.{ExpectationFault}
use Rattle.compared_verdicts.specs.declared.expectation_fault.ExpectationFault.TheVariants.{NotUtf8, BadLine}
use Rattle.compared_verdicts.specs.declared.expectation_fault.ExpectationReason.{ExpectationReason}

-- what the line with this number expects, where it expects something
abbrev pub expected_at : ℕ → Result Line ExpectationReason → List Expectation
expected_at n (Ok Blank) = []
expected_at n (Ok (Expects expected)) = record { line = n; expected = expected } ∷ []
expected_at n (Err reason) = []

-- what lines expect whose numbers begin with n
abbrev pub expected_from : ℕ → List (List ℕ) → List Expectation
expected_from n [] = []
expected_from n (line ∷ lines) = expected_at n (line_in line) ++ expected_from (n + 1) lines

abbrev pub wrong_at : ℕ → Result Line ExpectationReason → Option ExpectationFault → Option ExpectationFault
wrong_at n (Ok line) later = later
wrong_at n (Err reason) later = Some (BadLine n reason)

-- the first of such lines that is wrong, and why
abbrev pub first_wrong : ℕ → List (List ℕ) → Option ExpectationFault
first_wrong n [] = None
first_wrong n (line ∷ lines) = wrong_at n (line_in line) (first_wrong (n + 1) lines)

-- the text has no wrong line, and its lines expect this
pub record IsExpectationText (text : List ℕ) (expectations : List Expectation) : Type 0 where
  pub utf8 : IsUtf8 text
  pub right : first_wrong 1 (lines text) ≡ None
  pub says : expectations ≡ expected_from 1 (lines text)

-- it isn't UTF-8, or this is its first wrong line
abbrev pub IsExpectationFault : List ℕ → ExpectationFault → Type 0
IsExpectationFault text fault = ((fault ≡ NotUtf8) × (IsUtf8 text → ⊥)) ⊎ (IsUtf8 text × (first_wrong 1 (lines text) ≡ Some fault))
