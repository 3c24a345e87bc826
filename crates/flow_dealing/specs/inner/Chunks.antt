-- Chunks of the packets, which threads deal.
use Rattle.std.specs.Prelude.{◌≡◌, ◌≤◌, ◌<◌, ℕ, ◌+◌, ◌^◌, List, length, drop, All, slice_index_or, IfOk}
use Rattle.packet_view.specs.Captures.{PacketFacts}
use Rattle.packet_view.specs.CheckedCaptures.{remaining}
use Rattle.packet_view.specs.declared.packets.Packets.{Packets}
use Rattle.bihash_words.specs.declared.shape.Shape.{Ghosts}
use Rattle.flow_filter.specs.OneThread.{layout_of}
use Rattle.flow_dealing.specs.Dealt.{AreShapes, IsDealtChunk, IsDealtTo}
use Rattle.flow_dealing.specs.declared.dealer.Dealer.{Dealer}
use Rattle.flow_dealing.specs.inner.OwnPackets.{HasHanded, IsEmptyChunk}
use Rattle.flow_dealing.specs.declared.dealt_chunk.DealtChunk.{DealtChunk}
use Rattle.flow_dealing.specs.declared.chunk.DealingJob.{DealingJob}
use Rattle.flow_dealing.specs.declared.chunk.Chunk.{Chunk}
use Rattle.flow_dealing.specs.declared.chunk.Chunk.TheVariants.{Ahead, Over}

-- what dealing rests on
pub record MayDeal {A B K L : Type 0} (ga : Ghosts A K) (gb : Ghosts B L) (dealer : Dealer) : Type 0 where
  pub shapes : AreShapes ga gb
  pub some : 1 ≤ dealer.workers
  pub few : dealer.workers ≤ 16

-- the next packet, which has this number, was handed to its worker
pub record HasDealtNext {A B K L : Type 0} (ga : Ghosts A K) (gb : Ghosts B L) (dealer : Dealer) (number : ℕ)
    (packet : PacketFacts) (old new : DealtChunk) : Type 0 where
  pub worker : ℕ
  pub one : worker < dealer.workers
  pub dealt : IsDealtTo ga gb dealer number packet worker
  pub handed : HasHanded (layout_of ga gb) old worker packet new

pub record CanDeal {A B K L : Type 0} (ga : Ghosts A K) (gb : Ghosts B L) (job : DealingJob A B) : Type 0 where
  pub may : MayDeal ga gb job.dealer
  pub forward : job.first ≤ job.next
  pub inside : job.next ≤ length (remaining job.packets)
  pub fits : job.number + length (remaining job.packets) < 2 ^ 64
  pub empty : IsEmptyChunk job.dealer.workers job.chunk

-- These are the packets from this place on, up to that place, each with its worker. All packets' numbers begin with
-- this one.
pub record AreBetween {A B K L : Type 0} (ga : Ghosts A K) (gb : Ghosts B L) (dealer : Dealer) (number : ℕ)
    (packets : List PacketFacts) (first next : ℕ) (chunk : DealtChunk) : Type 0 where
  pub count : first + length chunk.workers.items ≡ next
  pub dealt : IsDealtChunk ga gb dealer (number + first) chunk (drop first packets)

abbrev pub IsChunkOfJob : {A B K L : Type 0} (ga : Ghosts A K) (gb : Ghosts B L) → DealingJob A B → DealtChunk → Type 0
IsChunkOfJob ga gb job = AreBetween ga gb job.dealer job.number (remaining job.packets) job.first job.next

abbrev pub CanRunChunk : {A B K L : Type 0} (ga : Ghosts A K) (gb : Ghosts B L) → Chunk A B → Type 0
CanRunChunk ga gb (Ahead job) = CanDeal ga gb job
CanRunChunk ga gb (Over done) = Unit {0}

abbrev pub BecomesDealt : {A B K L : Type 0} (ga : Ghosts A K) (gb : Ghosts B L) → Chunk A B → Chunk A B → Type 0
BecomesDealt ga gb (Ahead job) (Ahead other) = ⊥
BecomesDealt ga gb (Ahead job) (Over done) = IfOk done (IsChunkOfJob ga gb job)
BecomesDealt ga gb (Over done) other = Unit {0}

-- the job of these packets' chunk from this place on, up to that place
pub record IsJob {A B K L : Type 0} (ga : Ghosts A K) (gb : Ghosts B L) (dealer : Dealer) (number : ℕ)
    (packets : Packets) (first next : ℕ) (job : DealingJob A B) : Type 0 where
  pub by : job.dealer ≡ dealer
  pub counts : job.number ≡ number
  pub of : job.packets ≡ packets
  pub begins : job.first ≡ first
  pub ends : job.next ≡ next
  pub can : CanDeal ga gb job

abbrev pub IsAhead : {A B K L : Type 0} (ga : Ghosts A K) (gb : Ghosts B L) → Dealer → ℕ → Packets → ℕ → ℕ
    → Chunk A B → Type 0
IsAhead ga gb dealer number packets first next (Ahead job) = IsJob ga gb dealer number packets first next job
IsAhead ga gb dealer number packets first next (Over done) = ⊥

-- so many chunks of these packets: each begins where the one before it ends, and together they have all
pub record AreChunksAhead {A B K L : Type 0} (ga : Ghosts A K) (gb : Ghosts B L) (dealer : Dealer) (number : ℕ)
    (packets : Packets) (count : ℕ) (chunks : List (Chunk A B)) : Type 0 where
  pub ready : All (CanRunChunk ga gb) chunks
  pub many : length chunks ≡ count
  pub begin : ℕ → ℕ
  pub first : begin 0 ≡ 0
  pub last : begin count ≡ length (remaining packets)
  pub each : (i : ℕ) (d : Chunk A B) → i < count
      → IsAhead ga gb dealer number packets (begin i) (begin (i + 1)) (slice_index_or chunks i d)

abbrev pub IsChunkPast : {A B : Type 0} → Chunk A B → Type 0
IsChunkPast (Ahead job) = ⊥
IsChunkPast (Over done) = Unit {0}

abbrev pub IsOver : {A B K L : Type 0} (ga : Ghosts A K) (gb : Ghosts B L) → Dealer → ℕ → Packets → ℕ → ℕ
    → Chunk A B → Type 0
IsOver ga gb dealer number packets first next (Ahead job) = ⊥
IsOver ga gb dealer number packets first next (Over done) =
    IfOk done (AreBetween ga gb dealer number (remaining packets) first next)
