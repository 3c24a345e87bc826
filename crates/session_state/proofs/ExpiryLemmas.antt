-- A word is expired exactly where it is no live session.
use Rattle.std.proofs.Common.{◌≡◌, ℕ, Bool, true, false, Option, Some, None, refl}
use Rattle.std.specs.Prelude.{if◌then◌else◌, is_some, nat_le, not, option_and_then}
use Rattle.session_state.specs.Decisions.{PatchFacts, if_live, is_live_for}
use Rattle.session_state.specs.Sessions.{SessionFacts, has_ended, is_expired_at, live_until, session_of}

by_test : (session : SessionFacts) (live : Bool) → not live ≡ not (is_some (if live then Some session else None))
by_test session true = refl
by_test session false = refl

by_session : (packet : PatchFacts) (found : Option SessionFacts)
    → has_ended packet.times packet.moment found ≡ not (is_some (option_and_then (if_live packet) found))
by_session packet None = refl
by_session packet (Some session) = by_test session (nat_le packet.moment (live_until session packet.times))

pub expired_is_not_live : (packet : PatchFacts) (word : ℕ)
    → is_expired_at packet.times packet.moment word ≡ not (is_live_for packet (Some word))
expired_is_not_live packet word = by_session packet (session_of word)
