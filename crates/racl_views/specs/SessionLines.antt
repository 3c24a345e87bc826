-- What is told of the sessions that stand in the tables: the ends of each flow as its key has them, and what its word keeps (this
-- project's profile).
use Rattle.std.specs.Prelude.{◌≡◌, ℕ, Bool, ◌==◌, ◌||◌, ◌/◌, ◌%◌, ◌*◌, ◌+◌, ◌^◌, List, [], ◌∷◌, ◌++◌, Option, None, Some, codes, get_or, if◌then◌else◌}
use Rattle.std.specs.List.{flat_map}
use Rattle.json.specs.Json.{Json, array, item, no_items}
use Rattle.packet_view.specs.Tuples.{TupleFacts}
use Rattle.packet_view.specs.declared.tuple.Family.{Family}
use Rattle.packet_view.specs.declared.tuple.Family.TheVariants.{V4, V6}
use Rattle.session_state.specs.Flows.{StandAs}
use Rattle.session_state.specs.Sessions.{SessionFacts, live_until, session_of}
use Rattle.session_state.specs.declared.flow_end.End.{End}
use Rattle.session_state.specs.declared.flow.FlowKey.{FlowKey}
use Rattle.session_state.specs.declared.flow.FlowKey.TheVariants.{Four, Six}
use Rattle.session_state.specs.declared.timeouts.Timeouts.{Timeouts}
use Rattle.racl_views.specs.declared.stored_flow.FlowEnd.{FlowEnd}
use Rattle.racl_views.specs.declared.stored_flow.StoredFlow.{StoredFlow}
use Rattle.racl_views.specs.declared.sessions_as_text_and_json.TextOrJson.{TextOrJson}
use Rattle.racl_views.specs.declared.sessions_as_text_and_json.TextOrJson.TheVariants as form
use Rattle.racl_views.specs.Objects.{Field, number, object_line, object_of, string}
use Rattle.packet_words.specs.PacketWords.{address_text, flags_text, numbered, protocol_text}
use Rattle.racl_views.specs.Stored.{StoredFacts}

-- ---- keys

-- a flow at an interface, and its ends in the order of its key; without ports these are 0
pub record FlowFacts : Type 0 where
  pub interface : ℕ
  pub family : Family
  pub proto : ℕ
  pub first : End
  pub second : End

abbrev pub end_facts : FlowEnd → End
end_facts e = record { address = e.address; port = e.port }

-- what a `StoredFlow` says
abbrev pub flow_facts : StoredFlow → FlowFacts
flow_facts f =
    record { interface = f.interface; family = f.family; proto = f.proto; first = end_facts f.first; second = end_facts f.second }

-- the flow between two addresses, where the last word of its key is this
abbrev pub flow_between : Family → ℕ → ℕ → ℕ → FlowFacts
flow_between family first second word = record {
  interface = word % 2 ^ 8;
  family = family;
  proto = word / 2 ^ 24 % 2 ^ 8;
  first = record { address = first; port = word / 2 ^ 48 };
  second = record { address = second; port = word / 2 ^ 32 % 2 ^ 16 };
}

-- the flow of a key of IPv4: the upper half of the first word is the address of the first end, the lower half that of the other
abbrev pub four_flow : List ℕ → FlowFacts
four_flow key = flow_between V4 (get_or key 0 0 / 2 ^ 32) (get_or key 0 0 % 2 ^ 32) (get_or key 1 0)

-- of IPv6: two words for each address, the upper half first
abbrev pub six_flow : List ℕ → FlowFacts
six_flow key =
    flow_between V6 (get_or key 0 0 * 2 ^ 64 + get_or key 1 0) (get_or key 2 0 * 2 ^ 64 + get_or key 3 0) (get_or key 4 0)

abbrev pub flow_of_key : FlowKey → FlowFacts
flow_of_key (Four key) = four_flow key
flow_of_key (Six key) = six_flow key

-- the flow says what a packet says, whose ends stand in this order
pub record SaysPacket (packet : TupleFacts) (flow : FlowFacts) : Type 0 where
  pub interface : flow.interface ≡ packet.interface
  pub family : flow.family ≡ packet.family
  pub proto : flow.proto ≡ packet.proto
  pub ends : StandAs packet packet.fields flow.first flow.second

-- TCP, and TCP or UDP
abbrev pub is_tcp : ℕ → Bool
is_tcp proto = proto == 6

abbrev pub has_ports : ℕ → Bool
has_ports proto = (proto == 6) || (proto == 17)

-- ---- lines

abbrev pub port_told : ℕ → ℕ → List ℕ
port_told proto port = if has_ports proto then numbered (codes " port ") port else []

-- the flags that are kept of the end
abbrev pub end_flags : ℕ → ℕ → List ℕ
end_flags proto flags = if is_tcp proto then flags_text flags else []

abbrev pub end_told : FlowFacts → End → ℕ → List ℕ
end_told flow end flags = address_text flow.family end.address ++ (port_told flow.proto end.port ++ end_flags flow.proto flags)

abbrev pub flow_told : FlowFacts → List ℕ
flow_told flow = numbered (codes "session interface ") flow.interface ++ (codes " " ++ protocol_text flow.family flow.proto)

-- the latest second of its packets, and the last second in which the session is live
abbrev pub seconds_told : Timeouts → SessionFacts → List ℕ
seconds_told times session =
    numbered (codes " last ") session.last ++ (numbered (codes " until ") (live_until session times) ++ codes "\n")

abbrev pub session_line : Timeouts → FlowFacts → SessionFacts → List ℕ
session_line times flow session = flow_told flow
    ++ (codes " " ++ (end_told flow flow.first session.first_flags
    ++ (codes " and " ++ (end_told flow flow.second session.second_flags ++ seconds_told times session))))

-- ---- objects

-- the port of an end, and the flags that are kept of it
abbrev pub end_fields : ℕ → End → ℕ → List Field
end_fields proto end flags = (if has_ports proto then number (codes "port") end.port ∷ [] else [])
    ++ (if is_tcp proto then number (codes "flags") flags ∷ [] else [])

abbrev pub end_object : FlowFacts → End → ℕ → Json
end_object flow end flags =
    object_of (string (codes "address") (address_text flow.family end.address) ∷ end_fields flow.proto end flags)

abbrev pub ends_field : FlowFacts → SessionFacts → Field
ends_field flow session = (
  codes "ends",
  array (item (end_object flow flow.first session.first_flags) (item (end_object flow flow.second session.second_flags) no_items)),
)

abbrev pub session_object : Timeouts → FlowFacts → SessionFacts → Json
session_object times flow session =
    object_of (number (codes "interface") flow.interface ∷ number (codes "protocol") flow.proto ∷ ends_field flow session
    ∷ number (codes "last") session.last ∷ number (codes "until") (live_until session times) ∷ [])

-- ---- sessions in either form

abbrev pub session_told : TextOrJson → Timeouts → FlowFacts → SessionFacts → List ℕ
session_told form.Text times flow session = session_line times flow session
session_told form.Json times flow session = object_line (session_object times flow session)

-- of a stored pair: nothing where its word is no session's, which no packet stores
abbrev pub pair_told : TextOrJson → Timeouts → FlowFacts → Option SessionFacts → List ℕ
pair_told view times flow None = []
pair_told view times flow (Some session) = session_told view times flow session

abbrev pub pairs_told : (List ℕ → FlowFacts) → TextOrJson → Timeouts → List (List ℕ × ℕ) → List ℕ
pairs_told flow view times pairs = flat_map (λ pair. pair_told view times (flow pair.0) (session_of pair.1)) pairs

-- a line or an object for each session of the tables, in the order of their keys, those of IPv4 first
abbrev pub sessions_told : TextOrJson → Timeouts → StoredFacts → List ℕ
sessions_told view times stored = pairs_told four_flow view times stored.four ++ pairs_told six_flow view times stored.six
