-- Which verdict of the report it is, and by which rule (this project's profile).
use Rattle.std.specs.Prelude.{ℕ, Option, None, Some}
use Rattle.session_state.specs.declared.verdict.Verdict.{Verdict}
use Rattle.session_state.specs.declared.verdict.Verdict.TheVariants.{Session, Reflect, Permit, Deny, ByDefault, Worn, Full, NoPages, NotIp, Malformed, Short}

-- which verdict of the report it is, whatever its rule's number
abbrev pub kind_of : Verdict → ℕ
kind_of Session = 0
kind_of (Reflect number) = 1
kind_of (Permit number) = 2
kind_of (Deny number) = 3
kind_of ByDefault = 4
kind_of Worn = 5
kind_of Full = 6
kind_of NoPages = 7
kind_of NotIp = 8
kind_of Malformed = 9
kind_of Short = 10

-- the number of the rule that decided, where one did
abbrev pub rule_number : Verdict → Option ℕ
rule_number (Reflect number) = Some number
rule_number (Permit number) = Some number
rule_number (Deny number) = Some number
rule_number Session = None
rule_number ByDefault = None
rule_number Worn = None
rule_number Full = None
rule_number NoPages = None
rule_number NotIp = None
rule_number Malformed = None
rule_number Short = None
