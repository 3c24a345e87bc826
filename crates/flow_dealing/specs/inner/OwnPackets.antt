-- A chunk whose packets are handed to their workers one by one.
use Rattle.std.specs.Prelude.{◌≡◌, ◌≢◌, ℕ, [], ◌∷◌, ◌++◌, All, Some, length, map, slice_get, slice_index_or}
use Rattle.std.specs.Global.{Vec}
use Rattle.packet_view.specs.Captures.{PacketFacts, packet_facts}
use Rattle.flow_filter.specs.OneThread.{Layout}
use Rattle.flow_dealing.specs.Dealt.{IsDealtPacket}
use Rattle.flow_dealing.specs.declared.dealt_chunk.DealtPacket.{DealtPacket}
use Rattle.flow_dealing.specs.declared.dealt_chunk.DealtChunk.{DealtChunk}
use Rattle.flow_dealing.specs.declared.dealt_chunk.DealtRoom.{DealtRoom}

-- nothing stands in the lists of so many workers
pub record IsEmptyRoom (workers : ℕ) (room : DealtRoom) : Type 0 where
  pub none : room.workers.items ≡ []
  pub count : length room.own.items ≡ workers
  pub each : All (λ list. list.items ≡ []) room.own.items

-- none of so many workers has a packet yet
abbrev pub IsEmptyChunk : ℕ → DealtChunk → Type 0
IsEmptyChunk workers chunk = IsEmptyRoom workers (record { workers = chunk.workers; own = chunk.own })

-- the next packet was noted as this worker's, with what was found of it
pub record HasHandedFound (old : DealtChunk) (worker : ℕ) (found : DealtPacket) (new : DealtChunk) : Type 0 where
  pub noted : new.workers.items ≡ old.workers.items ++ worker ∷ []
  pub count : length new.own.items ≡ length old.own.items
  pub here : (d e : Vec DealtPacket) → (slice_index_or new.own.items worker d).items
      ≡ (slice_index_or old.own.items worker e).items ++ found ∷ []
  pub apart : (w : ℕ) (d : Vec DealtPacket) → w ≢ worker
      → slice_index_or new.own.items w d ≡ slice_index_or old.own.items w d
  pub others : new.others ≡ old.others

-- the next packet was handed to this worker, and to no other
pub record HasHanded (l : Layout) (old : DealtChunk) (worker : ℕ) (packet : PacketFacts) (new : DealtChunk) : Type 0 where
  pub dealt : DealtPacket
  pub is : IsDealtPacket l (map packet_facts new.others.items) dealt (length old.workers.items, packet)
  pub noted : new.workers.items ≡ old.workers.items ++ worker ∷ []
  pub count : length new.own.items ≡ length old.own.items
  pub here : (d e : Vec DealtPacket) → (slice_index_or new.own.items worker d).items
      ≡ (slice_index_or old.own.items worker e).items ++ dealt ∷ []
  pub apart : (w : ℕ) (d : Vec DealtPacket) → w ≢ worker
      → slice_index_or new.own.items w d ≡ slice_index_or old.own.items w d
  pub others : (i : ℕ) (other : PacketFacts) → slice_get (map packet_facts old.others.items) i ≡ Some other
      → slice_get (map packet_facts new.others.items) i ≡ Some other
