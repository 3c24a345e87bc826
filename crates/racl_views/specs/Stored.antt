-- The sessions that stand in tables, as their pairs.
use Rattle.std.specs.Prelude.{ℕ, List, filter, not}
use Rattle.session_state.specs.Sessions.{is_expired_at}
use Rattle.session_state.specs.declared.timeouts.Timeouts.{Timeouts}
use Rattle.racl_views.specs.declared.session_counts.StoredPairs.{StoredPairs}

-- `StoredPairs` as a value
pub record StoredFacts : Type 0 where
  pub four : List (List ℕ × ℕ)
  pub six : List (List ℕ × ℕ)

abbrev pub stored_facts : StoredPairs → StoredFacts
stored_facts s = record { four = s.four.items; six = s.six.items }

-- those of these pairs that are sessions which are live at a moment
abbrev pub live_pairs : Timeouts → ℕ → List (List ℕ × ℕ) → List (List ℕ × ℕ)
live_pairs times moment pairs = filter (λ pair. not (is_expired_at times moment pair.1)) pairs

-- the sessions that are live at a moment, of both families' tables
abbrev pub live_at : Timeouts → ℕ → StoredFacts → StoredFacts
live_at times moment stored = record { four = live_pairs times moment stored.four; six = live_pairs times moment stored.six }
