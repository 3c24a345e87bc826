-- The lines of a written policy, and their places (this project's profile).
use Rattle.std.specs.Prelude.{ℕ, List, map}
use Rattle.std.specs.List.{enumerate_from}
use Rattle.std.specs.Str.Lines.{lines}
use Rattle.policy_expand.specs.declared.file_lines.SourceLine.{SourceLine}

-- a line of a file as a value
pub record SourceFacts : Type 0 where
  pub file : List ℕ
  pub number : ℕ
  pub text : List ℕ

abbrev pub source_facts : SourceLine → SourceFacts
source_facts line = record { file = line.file.now; number = line.number; text = line.text.now }

-- texts as the lines of a file, numbered from 1
abbrev pub numbered : List ℕ → List (List ℕ) → List SourceFacts
numbered file texts = map (λ (line : ℕ × List ℕ). record { file = file; number = line.0; text = line.1 }) (enumerate_from 1 texts)

-- the lines of a file that has this text
abbrev pub file_lines : List ℕ → List ℕ → List SourceFacts
file_lines file text = numbered file (lines text)
