-- What a worker is given, and what it gives back.
use Rattle.std.specs.Prelude.{◌≡◌, ◌<◌, ◌+◌, ◌++◌, ◌^◌, ℕ, List, Some, drop, length, slice_get}
use Rattle.packet_view.specs.Captures.{PacketFacts}
use Rattle.packet_view.specs.CheckedCaptures.{remaining}
use Rattle.packet_view.specs.Frames.{FrameFacts, frame_facts}
use Rattle.acl_policy.specs.Policies.{PolicyFacts, policy_facts}
use Rattle.bihash_words.specs.declared.shape.Shape.{Ghosts}
use Rattle.flow_filter.specs.OneThread.{layout_of}
use Rattle.flow_filter.specs.Readings.{IsSeenAt}
use Rattle.flow_filter.specs.InterfaceFilters.{IsReadyAt}
use Rattle.flow_filter.specs.declared.interface_filters.InterfaceFilter.{InterfaceFilter}
use Rattle.session_state.specs.declared.verdict.Verdict.{Verdict}
use Rattle.flow_dealing.specs.Dealings.{flow_of_frame, worker_of}
use Rattle.flow_dealing.specs.Views.{Views}
use Rattle.flow_dealing.specs.HashedFlows.{IsHashed}
use Rattle.flow_dealing.specs.Dealt.{AreDealt, IsDealtChunk, IsDealtTo, IsOtherOf, IsSightingOf, deal_of}
use Rattle.flow_dealing.specs.declared.dealer.Dealer.{Dealer}
use Rattle.flow_dealing.specs.declared.plain_sighting.PlainSighting.{PlainSighting}
use Rattle.flow_dealing.specs.declared.other_sighting.OtherSighting.{OtherSighting}
use Rattle.flow_dealing.specs.declared.dealt_chunk.DealtChunk.{DealtChunk}
use Rattle.flow_workers.specs.declared.worker_setup.Setup.{Setup}
use Rattle.flow_workers.specs.declared.worker_share.WorkerJob.{WorkerJob}
use Rattle.flow_workers.specs.declared.worker_share.Batch.{Batch}
use Rattle.flow_workers.specs.declared.worker_share.Share.{Share}
use Rattle.flow_workers.specs.declared.viewed_packet.ViewedPacket.{ViewedPacket}
use Rattle.flow_workers.specs.Callers.{AreIdle, AreShapes, views_of}
use Rattle.flow_workers.specs.inner.ViewedPackets.{IsViewed}
use Rattle.flow_workers.specs.inner.Work.{IsWorkUntil, RunFacts}

-- the policy that workers go by
abbrev pub policy_of : {A B R G K L : Type 0} → Setup A B R G K L → PolicyFacts
policy_of setup = policy_facts setup.filter.now.policy.now

-- what verdicts on all packets rest on
abbrev pub run_facts : {A B R G K L : Type 0} (ga : Ghosts A K) (gb : Ghosts B L) → Setup A B R G K L
    → List PacketFacts → RunFacts
run_facts ga gb setup all = record {
  deal = record { layout = layout_of ga gb; dealing = setup.dealing; workers = setup.workers };
  times = setup.filter.now.times;
  policy = policy_of setup;
  packets = all;
  ages = setup.ages;
}

-- what packets are dealt by
abbrev pub dealer_of : {A B R G K L : Type 0} → Setup A B R G K L → Dealer
dealer_of setup = record { dealing = setup.dealing; workers = setup.workers }

-- the packets of the batch stand among all packets, from the batch's first number on
pub record StandAmong {A B R G K L : Type 0} (batch : Batch A B R G K L) (all : List PacketFacts) : Type 0 where
  pub behind : List PacketFacts
  pub stand : drop batch.first all ≡ remaining batch.packets ++ behind

-- these packets with their workers are all that are left behind the first of a batch
abbrev pub AreDealtFrom : {A B R G K L : Type 0} (ga : Ghosts A K) (gb : Ghosts B L) → Batch A B R G K L → ℕ
    → List DealtChunk → Type 0
AreDealtFrom ga gb batch first chunks =
    AreDealt ga gb (dealer_of batch.setup) (batch.first + first) chunks (drop first (remaining batch.packets))

pub record CanWork {A B R G K L : Type 0} (ga : Ghosts A K) (gb : Ghosts B L)
    (job : WorkerJob A B R G K L ga gb) : Type 0 where
  pub shapes : AreShapes ga gb
  pub few : job.worker < job.batch.setup.workers
  pub fits : job.batch.first + length (remaining job.batch.packets) < 2 ^ 64
  pub idle : AreIdle ga gb job.batch.setup.tables.now job.share.callers
  pub dealt : AreDealtFrom ga gb job.batch 0 job.dealt.chunks.now.items

-- The packet at this place of the batch is one of the worker's, which holds nothing.
pub record MayJudgePacket {A B R G K L : Type 0} (ga : Ghosts A K) (gb : Ghosts B L) (batch : Batch A B R G K L)
    (worker at : ℕ) (packet : PacketFacts) (share : Share A B K L ga gb) : Type 0 where
  pub shapes : AreShapes ga gb
  pub few : worker < batch.setup.workers
  pub idle : AreIdle ga gb batch.setup.tables.now share.callers
  pub fits : batch.first + length (remaining batch.packets) < 2 ^ 64
  pub there : slice_get (remaining batch.packets) at ≡ Some packet
  pub mine : IsDealtTo ga gb (dealer_of batch.setup) (batch.first + at) packet worker

-- it is one whose plain frame was seen so
pub record MayJudgeSighting {A B R G K L : Type 0} (ga : Ghosts A K) (gb : Ghosts B L) (batch : Batch A B R G K L)
    (worker at : ℕ) (seen : PlainSighting) (share : Share A B K L ga gb) : Type 0 where
  pub packet : PacketFacts
  pub is : IsSightingOf (layout_of ga gb) packet seen
  pub may : MayJudgePacket ga gb batch worker at packet share

-- it is one that was seen so
pub record MayJudgeOther {A B R G K L : Type 0} (ga : Ghosts A K) (gb : Ghosts B L) (batch : Batch A B R G K L)
    (worker at : ℕ) (seen : OtherSighting) (share : Share A B K L ga gb) : Type 0 where
  pub packet : PacketFacts
  pub is : IsOtherOf (layout_of ga gb) packet seen
  pub may : MayJudgePacket ga gb batch worker at packet share

-- the packet at this place of the batch was viewed so, by the filter at its interface, and its frame is nothing else
pub record IsViewedAt {A B R G K L : Type 0} (batch : Batch A B R G K L) (at : ℕ) (filter : InterfaceFilter)
    (viewed : ViewedPacket) : Type 0 where
  pub packet : PacketFacts
  pub there : slice_get (remaining batch.packets) at ≡ Some packet
  pub ready : IsReadyAt (policy_of batch.setup) batch.setup.filter.now.times packet.interface filter
  pub seen : IsViewed filter.own packet viewed
  pub only : (other : FrameFacts) → IsSeenAt filter.own packet other → other ≡ frame_facts viewed.frame.now

-- the worker of the packet at this place, whose frame turned out to be this
abbrev pub IsWorkerOf : {A B R G K L : Type 0} (ga : Ghosts A K) (gb : Ghosts B L) → Batch A B R G K L → ℕ → FrameFacts
    → ℕ → Type 0
IsWorkerOf ga gb batch at frame worker =
    worker ≡ worker_of (deal_of ga gb (dealer_of batch.setup)) (batch.first + at) (flow_of_frame frame)

-- the same of a packet that was viewed
pub record MayJudgeViewed {A B R G K L : Type 0} (ga : Ghosts A K) (gb : Ghosts B L) (batch : Batch A B R G K L)
    (worker at : ℕ) (filter : InterfaceFilter) (viewed : ViewedPacket) (share : Share A B K L ga gb) : Type 0 where
  pub shapes : AreShapes ga gb
  pub few : worker < batch.setup.workers
  pub idle : AreIdle ga gb batch.setup.tables.now share.callers
  pub fits : batch.first + length (remaining batch.packets) < 2 ^ 64
  pub stands : IsViewedAt batch at filter viewed
  pub hashed : IsHashed (layout_of ga gb) viewed.hashed.now
  pub mine : IsWorkerOf ga gb batch at (frame_facts viewed.frame.now) worker

-- the chunk has packets of the batch from this place on, with their workers
abbrev pub IsChunkAt : {A B R G K L : Type 0} (ga : Ghosts A K) (gb : Ghosts B L) → Batch A B R G K L → ℕ → DealtChunk
    → Type 0
IsChunkAt ga gb batch first chunk =
    IsDealtChunk ga gb (dealer_of batch.setup) (batch.first + first) chunk (drop first (remaining batch.packets))

-- The worker, which holds nothing, may judge its own of these packets, which begin at this place of the batch.
pub record MayJudgeChunk {A B R G K L : Type 0} (ga : Ghosts A K) (gb : Ghosts B L) (batch : Batch A B R G K L)
    (worker first : ℕ) (chunk : DealtChunk) (share : Share A B K L ga gb) : Type 0 where
  pub shapes : AreShapes ga gb
  pub few : worker < batch.setup.workers
  pub idle : AreIdle ga gb batch.setup.tables.now share.callers
  pub fits : batch.first + length (remaining batch.packets) < 2 ^ 64
  pub of : IsChunkAt ga gb batch first chunk

-- of all packets, the worker has looked at so many, and judged its own: what it said before and keeps no longer, and what
-- is in its share
abbrev pub HasDoneAfter : {A B R G K L : Type 0} (ga : Ghosts A K) (gb : Ghosts B L) → List Verdict → Setup A B R G K L
    → List PacketFacts → ℕ → ℕ → Views → Share A B K L ga gb → Type 0
HasDoneAfter ga gb said setup all worker at v share = IsWorkUntil (run_facts ga gb setup all) worker at v
    (views_of ga gb share.callers) (said ++ share.said.items)

-- The worker, which had looked at the packets before this place of the batch, has looked at those before that place too,
-- and judged its own of them, whatever packets the batch's stand among, and whatever it said before.
pub record HasWorkedOn {A B R G K L : Type 0} (ga : Ghosts A K) (gb : Ghosts B L) (batch : Batch A B R G K L)
    (worker first last : ℕ) (old new : Share A B K L ga gb) : Type 0 where
  pub idle : AreIdle ga gb batch.setup.tables.now new.callers
  pub work : (all : List PacketFacts) → StandAmong batch all → (v : Views) (said : List Verdict)
      → HasDoneAfter ga gb said batch.setup all worker (batch.first + first) v old
      → HasDoneAfter ga gb said batch.setup all worker (batch.first + last) v new

-- the worker judged its packets of the batch, all of them
abbrev pub HasWorked : {A B R G K L : Type 0} (ga : Ghosts A K) (gb : Ghosts B L) → Batch A B R G K L → ℕ
    → Share A B K L ga gb → Share A B K L ga gb → Type 0
HasWorked ga gb batch worker = HasWorkedOn ga gb batch worker 0 (length (remaining batch.packets))

-- the job was done
abbrev pub IsShareOf : {A B R G K L : Type 0} (ga : Ghosts A K) (gb : Ghosts B L) → WorkerJob A B R G K L ga gb
    → Share A B K L ga gb → Type 0
IsShareOf ga gb job = HasWorked ga gb job.batch job.worker job.share
