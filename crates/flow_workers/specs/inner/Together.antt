-- All workers at packets of a batch that are judged one after the other.
use Rattle.std.specs.Prelude.{◌≡◌, ◌≤◌, ◌<◌, ◌+◌, ◌++◌, ◌^◌, ℕ, List, [], Some, length, slice_get, slice_index_or}
use Rattle.packet_view.specs.Captures.{PacketFacts}
use Rattle.packet_view.specs.CheckedCaptures.{remaining}
use Rattle.bihash_words.specs.declared.shape.Shape.{Ghosts}
use Rattle.flow_dealing.specs.Dealt.{AreWorkers, IsDealtTo}
use Rattle.flow_dealing.specs.declared.dealer.Dealer.{Dealer}
use Rattle.flow_workers.specs.declared.worker_share.Batch.{Batch}
use Rattle.flow_workers.specs.declared.worker_share.Share.{Share}
use Rattle.flow_workers.specs.Callers.{AreIdle, AreShapes}
use Rattle.flow_workers.specs.inner.Jobs.{dealer_of}
use Rattle.flow_workers.specs.inner.Turns.{HaveWorked, HaveWorkedOn}

-- the packet at this place of the batch may be judged by its worker, whichever it is: all hold nothing
pub record MayJudgeNext {A B R G K L : Type 0} (ga : Ghosts A K) (gb : Ghosts B L) (batch : Batch A B R G K L) (at : ℕ)
    (packet : PacketFacts) (shares : List (Share A B K L ga gb)) : Type 0 where
  pub shapes : AreShapes ga gb
  pub some : 1 ≤ batch.setup.workers
  pub count : length shares ≡ batch.setup.workers
  pub idle : (i : ℕ) (d : Share A B K L ga gb) → i < length shares
      → AreIdle ga gb batch.setup.tables.now (slice_index_or shares i d).callers
  pub fits : batch.first + length (remaining batch.packets) < 2 ^ 64
  pub there : slice_get (remaining batch.packets) at ≡ Some packet

-- its worker judged it, and the others passed by it
pub record HasJudgedNext {A B R G K L : Type 0} (ga : Ghosts A K) (gb : Ghosts B L) (batch : Batch A B R G K L) (at : ℕ)
    (packet : PacketFacts) (old new : List (Share A B K L ga gb)) (worker : ℕ) : Type 0 where
  pub worked : HaveWorkedOn batch at (at + 1) old new
  pub dealt : IsDealtTo ga gb (dealer_of batch.setup) (batch.first + at) packet worker
  pub one : worker < batch.setup.workers

-- the workers of so many of these packets, whose numbers begin with this one, were noted after others
pub record HaveNotedSome {A B K L : Type 0} (ga : Ghosts A K) (gb : Ghosts B L) (dealer : Dealer) (first : ℕ)
    (packets : List PacketFacts) (count : ℕ) (old new : List ℕ) : Type 0 where
  pub workers : List ℕ
  pub noted : new ≡ old ++ workers
  pub are : AreWorkers ga gb dealer first workers packets
  pub many : length workers ≡ count

-- those of all of them
abbrev pub HaveNoted : {A B K L : Type 0} (ga : Ghosts A K) (gb : Ghosts B L) → Dealer → ℕ → List PacketFacts → List ℕ
    → List ℕ → Type 0
HaveNoted ga gb dealer first packets = HaveNotedSome ga gb dealer first packets (length packets)

-- the packets of the batch may be judged by the only worker, who holds nothing
pub record MayJudgeByOne {A B R G K L : Type 0} (ga : Ghosts A K) (gb : Ghosts B L) (batch : Batch A B R G K L)
    (share : Share A B K L ga gb) : Type 0 where
  pub shapes : AreShapes ga gb
  pub alone : batch.setup.workers ≡ 1
  pub idle : AreIdle ga gb batch.setup.tables.now share.callers
  pub fits : batch.first + length (remaining batch.packets) < 2 ^ 64

-- the packets of the batch were judged, and the worker of each was noted
pub record HaveJudgedBatch {A B R G K L : Type 0} {ga : Ghosts A K} {gb : Ghosts B L} (batch : Batch A B R G K L)
    (old new : List (Share A B K L ga gb)) (judges : List ℕ) : Type 0 where
  pub worked : HaveWorked batch old new
  pub noted : HaveNoted ga gb (dealer_of batch.setup) batch.first (remaining batch.packets) [] judges
