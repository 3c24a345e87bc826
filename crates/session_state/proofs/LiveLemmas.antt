-- The test for a live session tells whether there is one.
use Rattle.std.proofs.Common.{◌≡◌, ℕ, true, Option, Some, None, ap, refl}
use Rattle.std.specs.Prelude.{◌↔◌, is_some}
use Rattle.session_state.specs.Decisions.{IsLiveFor, PatchFacts, is_live_for, live_session}
use Rattle.session_state.specs.Sessions.{SessionFacts}
use Rattle.session_state.proofs.DecisionLemmas.{live_found, live_only}

by_found : (packet : PatchFacts) (old : Option ℕ) (found : Option SessionFacts) → live_session packet old ≡ found
    → is_some found ≡ true → (session : SessionFacts) × IsLiveFor packet old session
by_found packet old None same test = let f : ⊥ = cc in absurd f
by_found packet old (Some session) same test = (session, live_found packet old session same)

pub live_told : (packet : PatchFacts) (old : Option ℕ)
    → (is_live_for packet old ≡ true) ↔ ((session : SessionFacts) × IsLiveFor packet old session)
live_told packet old =
    (by_found packet old (live_session packet old) refl, λ live. ap is_some (live_only packet old live.0 live.1))
