-- The key of a flow tells its ends.
use Rattle.std.proofs.Common.{◌≡◌, ◌∙◌, ◌<◌, ◌+◌, ◌*◌, ◌/◌, ◌%◌, ◌^◌, ℕ, ap, arith, inl, inr, refl, subst, sym}
use Rattle.packet_view.specs.Addresses.{address_limit}
use Rattle.packet_view.specs.Tuples.{TupleFacts}
use Rattle.packet_view.specs.declared.tuple.Family.{Family}
use Rattle.packet_view.specs.declared.tuple.Family.TheVariants.{V4, V6}
use Rattle.session_state.specs.declared.flow_end.End.{End}
use Rattle.session_state.specs.declared.flow.Flow.{Flow}
use Rattle.session_state.specs.Flows.{IsFlow, key_of, receiver_of, sender_of}
use Rattle.session_state.specs.SameFlow.{IsTuple}
use Rattle.session_state.proofs.SameFlowLemmas.{are_ends}
use Rattle.racl_views.specs.SessionLines.{SaysPacket, flow_of_key}

-- an end whose numbers have the widths that they have in a packet
record IsEndOf (family : Family) (end : End) : Type 0 where
  address : end.address < address_limit family
  port : end.port < 2 ^ 16

-- what is at the places of a key's last word
abbrev word : ℕ → ℕ → ℕ → ℕ → ℕ
word p q r s = p * 2 ^ 48 + q * 2 ^ 32 + r * 2 ^ 24 + s

record HasPlaces (p q r s : ℕ) : Type 0 where
  first : word p q r s / 2 ^ 48 ≡ p
  second : word p q r s / 2 ^ 32 % 2 ^ 16 ≡ q
  proto : word p q r s / 2 ^ 24 % 2 ^ 8 ≡ r
  interface : word p q r s % 2 ^ 8 ≡ s

places : (p q r s : ℕ) → q < 2 ^ 16 → r < 2 ^ 8 → s < 2 ^ 8 → HasPlaces p q r s
places p q r s fits_q fits_r fits_s = record { first = omega arith; second = omega arith; proto = omega arith; interface = omega arith }

upper : (a b : ℕ) → b < 2 ^ 32 → (a * 2 ^ 32 + b) / 2 ^ 32 ≡ a
upper a b fits = omega arith

lower : (a b : ℕ) → b < 2 ^ 32 → (a * 2 ^ 32 + b) % 2 ^ 32 ≡ b
lower a b fits = omega arith

halves : (a : ℕ) → a / 2 ^ 64 * 2 ^ 64 + a % 2 ^ 64 ≡ a
halves a = omega arith

-- the flow of a key is the one that it was made of
told : (family : Family) (first second : End) (proto interface : ℕ) → IsEndOf family first → IsEndOf family second → proto < 2 ^ 8 → interface < 2 ^ 8
    → flow_of_key (key_of family first second proto interface) ≡ record { interface = interface; family = family; proto = proto; first = first; second = second }
told V4 first second proto interface one other fits_proto fits_interface =
    let at = places first.port second.port proto interface other.port fits_proto fits_interface in
    let a = upper first.address second.address other.address in
    let b = lower first.address second.address other.address in
    λ i. record {
      interface = at.interface i;
      family = V4;
      proto = at.proto i;
      first = record { address = a i; port = at.first i };
      second = record { address = b i; port = at.second i };
    }
told V6 first second proto interface one other fits_proto fits_interface =
    let at = places first.port second.port proto interface other.port fits_proto fits_interface in
    let a = halves first.address in
    let b = halves second.address in
    λ i. record {
      interface = at.interface i;
      family = V6;
      proto = at.proto i;
      first = record { address = a i; port = at.first i };
      second = record { address = b i; port = at.second i };
    }

ends_fit : (packet : TupleFacts) (flow : Flow) (is : IsFlow packet flow) → IsTuple packet → IsEndOf packet.family is.first × IsEndOf packet.family is.second
ends_fit packet flow is tuple =
    let from : IsEndOf packet.family (sender_of packet) = record { address = tuple.source; port = tuple.source_port } in
    let to : IsEndOf packet.family (receiver_of packet) = record { address = tuple.dest; port = tuple.dest_port } in
    elim (are_ends packet flow is) [
      | inl (first, second) ↦ (subst (IsEndOf packet.family) (sym first) from, subst (IsEndOf packet.family) (sym second) to)
      | inr (first, second) ↦ (subst (IsEndOf packet.family) (sym first) to, subst (IsEndOf packet.family) (sym second) from)
    ]

pub packet_told : (packet : TupleFacts) (flow : Flow) → IsTuple packet → IsFlow packet flow → SaysPacket packet (flow_of_key flow.key)
packet_told packet flow tuple is =
    let fit = ends_fit packet flow is tuple in
    let same = ap flow_of_key is.key ∙ told packet.family is.first is.second packet.proto packet.interface fit.0 fit.1 tuple.proto tuple.interface in
    subst (SaysPacket packet) (sym same) (record { interface = refl; family = refl; proto = refl; ends = is.ends })
