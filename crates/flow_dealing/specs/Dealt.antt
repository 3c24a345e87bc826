-- Packets with the workers that judge them.
use Rattle.std.specs.Global.{Vec}
use Rattle.std.specs.List.{AllZip}
use Rattle.std.specs.Option.{ForSome}
use Rattle.std.specs.Prelude.{◌≡◌, ◌+◌, ◌<◌, ◌≤◌, ◌==◌, if◌then◌else◌, ℕ, List, [], ◌∷◌, Option, None, Some, drop, length, map, slice_get, slice_index, slice_index_or}
use Rattle.packet_view.specs.Captures.{PacketFacts, packet_facts}
use Rattle.packet_view.specs.Frames.{FrameFacts, frame_facts}
use Rattle.packet_view.specs.PlainFrames.{IsPlainFrame}
use Rattle.packet_view.specs.declared.tuple.Mac.{Mac}
use Rattle.packet_view.specs.declared.plain_packet.PlainFrame.{PlainFrame}
use Rattle.bihash_words.specs.Sizes.{IsSound, sizes_of}
use Rattle.bihash_words.specs.declared.shape.Shape.{Ghosts}
use Rattle.session_state.specs.PlainFlows.{flow_in, packet_in}
use Rattle.session_state.specs.declared.flow.Flow.{Flow}
use Rattle.session_state.specs.declared.flow.FlowKey.TheVariants.{Four}
use Rattle.session_state.specs.declared.plain_packet_flow.PlainFlow.{PlainFlow}
use Rattle.flow_filter.specs.OneThread.{IsFlowLayout, Layout, layout_of}
use Rattle.flow_filter.specs.Readings.{IsSeenAt}
use Rattle.flow_dealing.specs.Dealings.{Deal, flow_of_frame, hash_in, worker_of}
use Rattle.flow_dealing.specs.HashedFlows.{IsHashed}
use Rattle.flow_dealing.specs.declared.dealer.Dealer.{Dealer}
use Rattle.flow_dealing.specs.declared.plain_sighting.PlainSighting.{PlainSighting}
use Rattle.flow_dealing.specs.declared.other_sighting.OtherSighting.{OtherSighting}
use Rattle.flow_dealing.specs.declared.dealt_chunk.DealtPacket.{DealtPacket}
use Rattle.flow_dealing.specs.declared.dealt_chunk.DealtPacket.TheVariants.{Plain, Other}
use Rattle.flow_dealing.specs.declared.dealt_chunk.DealtChunk.{DealtChunk}

-- the shapes are sound, and their keys are those of flows
pub record AreShapes {A B K L : Type 0} (ga : Ghosts A K) (gb : Ghosts B L) : Type 0 where
  pub four : IsSound (sizes_of ga)
  pub six : IsSound (sizes_of gb)
  pub keys : IsFlowLayout (layout_of ga gb)

-- what packets are dealt by, over tables of these shapes
abbrev pub deal_of : {A B K L : Type 0} (ga : Ghosts A K) (gb : Ghosts B L) → Dealer → Deal
deal_of ga gb dealer = record { layout = layout_of ga gb; dealing = dealer.dealing; workers = dealer.workers }

-- the worker that judges the packet with this number, from 0, whatever the own address of its interface
abbrev pub IsDealtTo : {A B K L : Type 0} (ga : Ghosts A K) (gb : Ghosts B L) → Dealer → ℕ → PacketFacts → ℕ → Type 0
IsDealtTo ga gb dealer number packet worker = (own : Option Mac) (seen : FrameFacts) → IsSeenAt own packet seen
    → worker ≡ worker_of (deal_of ga gb dealer) number (flow_of_frame seen)

-- these are the workers of the first of the packets, whose numbers begin with this one
pub record AreWorkers {A B K L : Type 0} (ga : Ghosts A K) (gb : Ghosts B L) (dealer : Dealer) (first : ℕ)
    (workers : List ℕ) (packets : List PacketFacts) : Type 0 where
  pub inside : length workers ≤ length packets
  pub each : (k : ℕ) (packet : PacketFacts) → k < length workers → slice_get packets k ≡ Some packet
      → IsDealtTo ga gb dealer (first + k) packet (slice_index workers k)

-- each frame that the packet shows has this flow, whatever the own address of its interface
abbrev pub HasFlow : PacketFacts → Option Flow → Type 0
HasFlow packet flow = (own : Option Mac) (seen : FrameFacts) → IsSeenAt own packet seen → flow_of_frame seen ≡ flow

-- the packet's place in its flow
abbrev pub plain_flow_in : PlainSighting → PlainFlow
plain_flow_in seen = record { key = seen.key; side = seen.side }

-- the plain frame that was seen
abbrev pub frame_in : PlainSighting → PlainFrame
frame_in seen = record { packet = packet_in (plain_flow_in seen) seen.flags; sender = seen.sender }

-- the packet's plain frame was seen so, where and when the packet was, and the key's hash is this in these tables
pub record IsSightingOf (l : Layout) (packet : PacketFacts) (seen : PlainSighting) : Type 0 where
  pub interface : packet.interface ≡ seen.interface
  pub moment : packet.moment ≡ seen.moment
  pub frame : IsPlainFrame packet.frame (frame_in seen)
  pub flow : HasFlow packet (Some (flow_in (plain_flow_in seen)))
  pub side : seen.side < 2
  pub hashed : seen.hash ≡ hash_in l (Four seen.key)

-- the packet was seen so where its interface has no own address, and the key's hash is this in these tables
pub record IsOtherOf (l : Layout) (packet : PacketFacts) (seen : OtherSighting) : Type 0 where
  pub packet_is : packet_facts seen.packet ≡ packet
  pub frame : IsSeenAt None packet (frame_facts seen.frame)
  pub flow : HasFlow packet seen.hashed.flow
  pub side : ForSome seen.hashed.flow (λ f. f.side < 2)
  pub hashed : IsHashed l seen.hashed

-- a packet's place in its chunk
abbrev pub place_of : DealtPacket → ℕ
place_of (Plain at seen) = at
place_of (Other at place) = at

-- this was found of the packet: a plain frame, or its place among these
abbrev pub IsFoundOf : Layout → List PacketFacts → PacketFacts → DealtPacket → Type 0
IsFoundOf l others packet (Plain at seen) = IsSightingOf l packet seen
IsFoundOf l others packet (Other at place) = slice_get others place ≡ Some packet

-- the packet with its place
pub record IsDealtPacket (l : Layout) (others : List PacketFacts) (dealt : DealtPacket) (placed : ℕ × PacketFacts)
    : Type 0 where
  pub at : place_of dealt ≡ placed.0
  pub found : IsFoundOf l others placed.1 dealt

-- Those of the packets, each with its place, whose worker is this one. The places begin with this one.
unfoldable pub picked : ℕ → ℕ → List ℕ → List PacketFacts → List (ℕ × PacketFacts)
picked worker at [] packets = []
picked worker at (w ∷ ws) [] = []
picked worker at (w ∷ ws) (packet ∷ packets) =
    if w == worker then (at, packet) ∷ picked worker (at + 1) ws packets else picked worker (at + 1) ws packets

-- Each of so many workers has a list of the packets that are its own.
pub record HaveOwn (l : Layout) (count : ℕ) (chunk : DealtChunk) (packets : List PacketFacts) : Type 0 where
  pub lists : length chunk.own.items ≡ count
  pub each : (w : ℕ) (d : Vec DealtPacket) → w < count
      → AllZip (IsDealtPacket l (map packet_facts chunk.others.items)) (slice_index_or chunk.own.items w d).items
      (picked w 0 chunk.workers.items packets)

-- the chunk has the workers of the first of these packets, whose numbers begin with this one, and for each worker its own
pub record IsDealtChunk {A B K L : Type 0} (ga : Ghosts A K) (gb : Ghosts B L) (dealer : Dealer) (first : ℕ)
    (chunk : DealtChunk) (packets : List PacketFacts) : Type 0 where
  pub workers : AreWorkers ga gb dealer first chunk.workers.items packets
  pub own : HaveOwn (layout_of ga gb) dealer.workers chunk packets

-- these are all packets, whose numbers begin with this one, each with its worker
abbrev pub AreDealt : {A B K L : Type 0} (ga : Ghosts A K) (gb : Ghosts B L) → Dealer → ℕ → List DealtChunk
    → List PacketFacts → Type 0
AreDealt ga gb dealer first [] packets = packets ≡ []
AreDealt ga gb dealer first (chunk ∷ chunks) packets = IsDealtChunk ga gb dealer first chunk packets
    × AreDealt ga gb dealer (first + length chunk.workers.items) chunks (drop (length chunk.workers.items) packets)
