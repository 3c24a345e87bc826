-- The verdict on a packet, from its reading and what its one update found and was answered (this project's profile).
use Rattle.std.specs.Prelude.{ℕ, ◌+◌, if◌then◌else◌, Option, Some, None}
use Rattle.acl_policy.specs.declared.rule.Action.{Action}
use Rattle.acl_policy.specs.declared.rule.Action.TheVariants as action
use Rattle.bihash_words.specs.declared.patch.Reply.{Reply}
use Rattle.bihash_words.specs.declared.patch.Reply.TheVariants as reply
use Rattle.session_state.specs.Decisions.{PatchFacts, is_live_for}
use Rattle.session_state.specs.declared.verdict.Verdict.{Verdict}
use Rattle.session_state.specs.declared.verdict.Verdict.TheVariants as verdict
use Rattle.flow_filter.specs.Readings.{Ruling}

-- what the rules alone say: a reflecting rule that enters no session permits
abbrev pub verdict_by : ℕ → Action → Verdict
verdict_by rule action.Deny = verdict.Deny rule
verdict_by rule action.Permit = verdict.Permit rule
verdict_by rule action.Reflect = verdict.Permit rule

abbrev pub verdict_of_rules : Ruling → Verdict
verdict_of_rules None = verdict.ByDefault
verdict_of_rules (Some decided) = verdict_by (decided.0 + 1) decided.1

-- what a packet meets whose session was to be entered
abbrev pub verdict_entered : ℕ → Reply → Verdict
verdict_entered rule (reply.Worn found) = verdict.Worn
verdict_entered rule reply.Full = verdict.Full
verdict_entered rule (reply.NoPages log2 left) = verdict.NoPages
verdict_entered rule (reply.Kept found) = verdict.Reflect rule
verdict_entered rule (reply.Changed found) = verdict.Reflect rule

abbrev pub verdict_reflected : Ruling → Reply → Verdict
verdict_reflected None reply = verdict.ByDefault
verdict_reflected (Some decided) reply = verdict_entered (decided.0 + 1) reply

-- The verdict on a packet that takes part in sessions, from what was found, the rule that decides, and the reply:
-- a live session lets it through before any rule counts.
abbrev pub verdict_of : PatchFacts → Ruling → Option ℕ → Reply → Verdict
verdict_of patch ruling found reply =
    if is_live_for patch found then verdict.Session
    else (if patch.reflects then verdict_reflected ruling reply else verdict_of_rules ruling)
