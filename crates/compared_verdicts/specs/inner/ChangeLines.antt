-- The lines of changed packets, by the steps of the code.
use Rattle.std.specs.Prelude.{ℕ, List, [], ◌∷◌, ◌++◌}
use Rattle.acl_policy.specs.Policies.{PolicyFacts}
use Rattle.packet_words.specs.inner.ViewedPackets.{view_at}
use Rattle.compared_verdicts.specs.Changes.{ChangeFacts, change_facts}
use Rattle.compared_verdicts.specs.ChangeReports.{line_of}
use Rattle.compared_verdicts.specs.declared.change_lines.Change.{Change}

abbrev pub line_by : PolicyFacts → ChangeFacts → List ℕ
line_by policy change = line_of change (view_at policy change.packet)

abbrev pub lines_by : PolicyFacts → List ChangeFacts → List ℕ
lines_by policy [] = []
lines_by policy (change ∷ changes) = line_by policy change ++ lines_by policy changes

-- of what the code has of them
abbrev pub lines_told : PolicyFacts → List Change → List ℕ
lines_told policy [] = []
lines_told policy (change ∷ changes) = line_by policy (change_facts change) ++ lines_told policy changes
