-- What decides a packet: the rules count only where no session is live.
use Rattle.std.specs.Prelude.{ℕ, Option, Some, None}
use Rattle.session_state.specs.Decisions.{PatchFacts, live_session}
use Rattle.session_state.specs.Sessions.{SessionFacts}
use Rattle.flow_filter.specs.declared.lazy_patch.Decider.{Decider}
use Rattle.flow_filter.specs.declared.lazy_patch.Decider.TheVariants.{Rules, Session}
use Rattle.flow_filter.specs.Readings.{Ruling}

abbrev pub decider_at : Ruling → Option SessionFacts → Decider
decider_at ruling (Some session) = Session session
decider_at ruling None = Rules ruling

-- what decides a packet that found this value
abbrev pub decider_of : PatchFacts → Option ℕ → Ruling → Decider
decider_of patch found ruling = decider_at ruling (live_session patch found)
