-- The sessions of a table that was closed, as C is told of them.
use Rattle.std.specs.Prelude.{◌≡◌, ℕ, List, [], ◌∷◌, length, slice_index, slice_get, Option, None, Some}
use Rattle.std.specs.Int.{to_be_bytes, w32, w128}
use Rattle.packet_view.specs.declared.tuple.Family.{Family}
use Rattle.packet_view.specs.declared.tuple.Family.TheVariants.{V4, V6}
use Rattle.session_state.specs.Sessions.{SessionFacts, live_until, session_of}
use Rattle.session_state.specs.declared.flow_end.End.{End}
use Rattle.session_state.specs.declared.timeouts.Timeouts.{Timeouts}
use Rattle.racl_views.specs.SessionLines.{FlowFacts, four_flow, six_flow}
use Rattle.racl_c.specs.FlowHashes.{family_number}
use Rattle.racl_c.specs.declared.session_list_read.ClosedPairs.{ClosedPairs}
use Rattle.racl_c.specs.declared.session_list_read.ClosedPairs.TheVariants.{Four, Six}
use Rattle.racl_c.specs.declared.session_list_read.SessionList.{SessionList}
use Rattle.racl_c.specs.declared.stored_session.StoredEnd.{StoredEnd}
use Rattle.racl_c.specs.declared.stored_session.StoredSession.{StoredSession}

-- four bytes, and twelve that are 0
abbrev pub padded : List ℕ → List ℕ
padded bytes = slice_index bytes 0 ∷ slice_index bytes 1 ∷ slice_index bytes 2 ∷ slice_index bytes 3
    ∷ 0 ∷ 0 ∷ 0 ∷ 0 ∷ 0 ∷ 0 ∷ 0 ∷ 0 ∷ 0 ∷ 0 ∷ 0 ∷ 0 ∷ []

-- an address as its bytes stand on the wire (RFC 791, RFC 8200)
abbrev pub address_bytes : Family → ℕ → List ℕ
address_bytes V4 address = padded (to_be_bytes w32 address)
address_bytes V6 address = to_be_bytes w128 address

abbrev pub stored_end : Family → End → ℕ → StoredEnd
stored_end family end flags = record { address = address_bytes family end.address; port = end.port; flags = flags }

-- a session of this flow
abbrev pub stored_session : Timeouts → FlowFacts → SessionFacts → StoredSession
stored_session times flow session = record {
  until = live_until session times;
  last = session.last;
  interface_number = flow.interface;
  family = family_number flow.family;
  protocol = flow.proto;
  first = stored_end flow.family flow.first session.first_flags;
  second = stored_end flow.family flow.second session.second_flags;
}

-- a stored pair's session, where its word is one
abbrev pub session_told : Timeouts → FlowFacts → Option SessionFacts → Option StoredSession
session_told times flow None = None
session_told times flow (Some session) = Some (stored_session times flow session)

-- that of a pair, where there is one
abbrev pub told_of_pair : {K : Type 0} → Timeouts → (K → FlowFacts) → Option (K × ℕ) → Option StoredSession
told_of_pair times flow None = None
told_of_pair times flow (Some pair) = session_told times (flow pair.0) (session_of pair.1)

-- the session at a place, counted from 0
abbrev pub session_at : Timeouts → ClosedPairs → ℕ → Option StoredSession
session_at times (Four pairs) at = told_of_pair times four_flow (slice_get pairs.items at)
session_at times (Six pairs) at = told_of_pair times six_flow (slice_get pairs.items at)

abbrev pub pair_count : ClosedPairs → ℕ
pair_count (Four pairs) = length pairs.items
pair_count (Six pairs) = length pairs.items

-- the session that was found was given, or there was none
abbrev pub IsGiven : Option StoredSession → (before after : StoredSession) → ℕ → Type 0
IsGiven None before after given = (given ≡ 0) × (after ≡ before)
IsGiven (Some session) before after given = (given ≡ 1) × (after ≡ session)
