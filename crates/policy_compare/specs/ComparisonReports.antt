-- What is told of two policies: a line for each difference, and the totals (this project's profile).
use Rattle.std.specs.Prelude.{ℕ, Bool, true, false, List, [], ◌∷◌, ◌++◌, Option, None, Some, codes, count_by, decimal}
use Rattle.packet_view.specs.Tuples.{tuple_facts}
use Rattle.packet_view.specs.declared.tuple.Tuple.{Tuple}
use Rattle.acl_policy.specs.declared.rule.Action.{Action}
use Rattle.acl_policy.specs.declared.rule.Action.TheVariants.{Deny, Permit, Reflect}
use Rattle.policy_compare.specs.Examples.{carried_words, way_words}
use Rattle.policy_compare.specs.declared.difference.Comparison.{Comparison}
use Rattle.policy_compare.specs.declared.difference.Difference.{Difference}

-- what the report of a run says where a rule with this number decides
abbrev pub rule_words : Action → ℕ → List ℕ
rule_words Deny number = codes "drop rule " ++ decimal number
rule_words Permit number = codes "pass rule " ++ decimal number
rule_words Reflect number = codes "pass rule " ++ (decimal number ++ codes " reflect")

abbrev pub decider_words : Option (ℕ × Action) → List ℕ
decider_words None = codes "drop default"
decider_words (Some decider) = rule_words decider.1 decider.0

-- the packet, where it is known that there is one
abbrev pub example_words : Option Tuple → List ℕ
example_words None = codes "unknown"
example_words (Some tuple) = carried_words (tuple_facts tuple) tuple.fields

-- what the one decider lets become of the packet, and the other
abbrev pub pair_words : Difference → List ℕ
pair_words d = codes ": " ++ (decider_words d.pair.before ++ (codes " -> " ++ (decider_words d.pair.after ++ codes "\n")))

abbrev pub line_of : Difference → List ℕ
line_of d = way_words d.pair.direction d.pair.interface ++ (example_words d.packet ++ pair_words d)

abbrev pub lines_of : List Difference → List ℕ
lines_of [] = []
lines_of (difference ∷ differences) = line_of difference ++ lines_of differences

-- of an interface whose own addresses differ
abbrev pub own_line : ℕ → List ℕ
own_line interface = codes "interface " ++ (decimal interface ++ codes ": the mac lines differ\n")

abbrev pub own_lines : List ℕ → List ℕ
own_lines [] = []
own_lines (interface ∷ interfaces) = own_line interface ++ own_lines interfaces

abbrev pub is_known : Difference → Bool
is_known d = has d.packet
  where
    has : Option Tuple → Bool
    has None = false
    has (Some tuple) = true

abbrev pub is_unknown : Difference → Bool
is_unknown d = lacks d.packet
  where
    lacks : Option Tuple → Bool
    lacks None = true
    lacks (Some tuple) = false

-- nothing differs
abbrev pub says_same : Comparison → Bool
says_same told = none told.interfaces.items told.differences.items
  where
    none : List ℕ → List Difference → Bool
    none [] [] = true
    none [] (difference ∷ differences) = false
    none (interface ∷ interfaces) differences = false

abbrev pub totals_line : List Difference → List ℕ
totals_line differences =
    codes "pairs that differ " ++ (decimal (count_by is_known differences) ++ (codes " unknown " ++ (decimal (count_by is_unknown differences) ++ codes "\n")))

-- the last line
abbrev pub end_of_report : Comparison → List ℕ
end_of_report told = end_by (says_same told) told.differences.items
  where
    end_by : Bool → List Difference → List ℕ
    end_by true differences = codes "the policies say the same of every packet\n"
    end_by false differences = totals_line differences

abbrev pub report_of : Comparison → List ℕ
report_of told = own_lines told.interfaces.items ++ (lines_of told.differences.items ++ end_of_report told)

-- the exit status: 0 where nothing differs, and else 5
abbrev pub status_behind : Comparison → ℕ
status_behind told = status_by (says_same told)
  where
    status_by : Bool → ℕ
    status_by true = 0
    status_by false = 5
