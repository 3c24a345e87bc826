-- The plain lines that a written one stands for, as rows of words: those with a word of each list (this project's profile).
use Rattle.std.specs.Prelude.{List, ◌∷◌, ◌++◌, [], fold, map}
use Rattle.std.specs.List.{flat_map}
use Rattle.packet_view.specs.declared.tuple.Family.TheVariants.{V4, V6}
use Rattle.policy_expand.specs.Families.{kept}
use Rattle.policy_expand.specs.Written.{LineWritten, Nothing, Plain, Rule, RuleWritten}
use Rattle.policy_expand.specs.declared.visible_word.Word.{Word}

-- each row with each of these words behind it
abbrev pub grown : List (List Word) → List Word → List (List Word)
grown rows list = flat_map (λ (row : List Word). map (λ (word : Word). row ++ word ∷ []) list) rows

-- the rows of a written rule for a family's word, with these of its addresses
abbrev pub family_rows : RuleWritten → Word → List Word → List Word → List (List Word)
family_rows rule family sources dests =
    fold grown (grown (grown ((rule.direction ∷ rule.action ∷ family ∷ []) ∷ []) sources) dests) rule.rest

-- those for the families, where both are asked for each with its own addresses
abbrev pub rows_by_family : RuleWritten → List Word → List (List Word)
rows_by_family rule [] = []
rows_by_family rule (family ∷ []) = family_rows rule family rule.sources rule.dests
rows_by_family rule (first ∷ second ∷ []) =
    family_rows rule first (kept V4 rule.sources) (kept V4 rule.dests) ++ family_rows rule second (kept V6 rule.sources) (kept V6 rule.dests)
rows_by_family rule (first ∷ second ∷ third ∷ more) = []

abbrev pub rule_rows : RuleWritten → List (List Word)
rule_rows rule = rows_by_family rule rule.families

-- The plain lines of a written one: none where it says nothing of its own, a plain line itself, as it is, and the rows of a rule.
abbrev pub line_rows : LineWritten → List (List Word)
line_rows Nothing = []
line_rows (Plain words) = words ∷ []
line_rows (Rule rule) = rule_rows rule
