-- Which verdicts let a packet through, and which have a line in a report of some packets (this project's profile).
use Rattle.std.specs.Prelude.{Bool, true, false, not}
use Rattle.session_state.specs.declared.verdict.Verdict.{Verdict}
use Rattle.session_state.specs.declared.verdict.Verdict.TheVariants as verdict
use Rattle.session_state.specs.declared.shown_verdicts.Shown.{Shown}
use Rattle.session_state.specs.declared.shown_verdicts.Shown.TheVariants.{Every, Passing, Dropped, Nothing}

-- whether the packet goes through
abbrev pub passes : Verdict → Bool
passes verdict.Session = true
passes (verdict.Reflect n) = true
passes (verdict.Permit n) = true
passes (verdict.Deny n) = false
passes verdict.ByDefault = false
passes verdict.Worn = false
passes verdict.Full = false
passes verdict.NoPages = false
passes verdict.NotIp = true
passes verdict.Malformed = false
passes verdict.Short = false

-- whether a packet with this verdict has a line
abbrev pub is_shown : Shown → Verdict → Bool
is_shown Every verdict = true
is_shown Passing verdict = passes verdict
is_shown Dropped verdict = not (passes verdict)
is_shown Nothing verdict = false
