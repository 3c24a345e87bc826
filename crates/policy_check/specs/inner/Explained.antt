-- What a line at fault is explained by, from what it says.
use Rattle.std.specs.Prelude.{◌≡◌, ℕ, List, Option, None, Some}
use Rattle.acl_policy.specs.Lines.{Begins, Blank, LineFacts, Own, Ruled}
use Rattle.policy_check.specs.Complaints.{line_words}
use Rattle.policy_check.specs.Reasons.{IsFirst, IsFormReason}
use Rattle.policy_check.specs.declared.reason.Reason.{Reason}
use Rattle.policy_check.specs.declared.reason.Reason.TheVariants.{SecondMac, SecondSection, Surplus}

abbrev pub Explains : List ℕ → Option LineFacts → Reason → List ℕ → Type 0
Explains line None reason word = IsFormReason (line_words line) reason word
Explains line (Some Blank) reason word = Unit {0}
Explains line (Some (Begins number)) reason word = (reason ≡ SecondSection) × IsFirst (line_words line) word
Explains line (Some (Own mac)) reason word = (reason ≡ SecondMac) × IsFirst (line_words line) word
Explains line (Some (Ruled direction rule)) reason word = (reason ≡ Surplus) × IsFirst (line_words line) word
