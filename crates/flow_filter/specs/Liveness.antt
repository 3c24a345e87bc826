-- Which stored values are live sessions for a packet, as it is known before the packet is asked.
use Rattle.std.specs.Prelude.{false, ◌≡◌, ℕ, Bool, Option}
use Rattle.session_state.specs.Decisions.{PatchFacts, is_live_for}
use Rattle.session_state.specs.declared.timeouts.Timeouts.{Timeouts}

-- a packet of this moment, whatever else it is: sessions are live by the moment and the timeouts alone
abbrev pub packet_at : Timeouts → ℕ → PatchFacts
packet_at times moment = record { moment = moment; side = 0; flags = 0; tcp = false; reflects = false; times = times }

-- so they are for each packet of this moment
abbrev pub IsForeseen : Timeouts → ℕ → (Option ℕ → Bool) → Type 0
IsForeseen times moment is_live = (found : Option ℕ) → is_live_for (packet_at times moment) found ≡ is_live found
