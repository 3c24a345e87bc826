-- What workers begin with, what they have after the packets that they judged so far, and what they say in the end.
use Rattle.std.specs.Prelude.{◌≡◌, ◌≤◌, ◌<◌, ◌+◌, ◌++◌, ◌^◌, ℕ, List, [], length, slice_index_or}
use Rattle.packet_view.specs.Captures.{PacketFacts}
use Rattle.packet_view.specs.CheckedCaptures.{remaining}
use Rattle.packet_view.specs.declared.packets.Packets.{Packets}
use Rattle.bihash_words.specs.declared.shape.Shape.{Ghosts}
use Rattle.flow_filter.specs.OneThread.{layout_of}
use Rattle.session_state.specs.declared.verdict.Verdict.{Verdict}
use Rattle.flow_dealing.specs.Dealings.{Deal}
use Rattle.flow_dealing.specs.WorkerRecords.{AreJudgedAgeing}
use Rattle.flow_dealing.specs.Views.{Views}
use Rattle.flow_workers.specs.declared.worker_setup.Setup.{Setup}
use Rattle.flow_workers.specs.declared.worker_share.Share.{Share}
use Rattle.flow_workers.specs.declared.session_tables.Callers.{Callers}
use Rattle.flow_workers.specs.declared.workers.Workers.{Workers}
use Rattle.flow_workers.specs.Callers.{AreIdle, AreShapes, views_of}
use Rattle.flow_workers.specs.inner.Fresh.{IsFreshView}
use Rattle.flow_workers.specs.inner.Jobs.{HasDoneAfter, policy_of, run_facts}
use Rattle.flow_workers.specs.inner.Merges.{AreInPlace, LetGo}
use Rattle.flow_workers.specs.inner.Shares.{AreFresh}

-- from 1 to 16 workers, over tables whose keys are those of flows
pub record IsSoundSetup {A B R G K L : Type 0} (ga : Ghosts A K) (gb : Ghosts B L) (setup : Setup A B R G K L)
    : Type 0 where
  pub shapes : AreShapes ga gb
  pub some : 1 ≤ setup.workers
  pub few : setup.workers ≤ 16

-- workers begin with callers of their tables that made no call
pub record MayBegin {A B R G K L : Type 0} {ga : Ghosts A K} {gb : Ghosts B L} (setup : Setup A B R G K L)
    (callers : Callers A B K L ga gb) : Type 0 where
  pub sound : IsSoundSetup ga gb setup
  pub fresh : AreFresh setup.tables.now callers

-- A worker after these packets: it holds nothing, and whatever packets follow them, it has looked at these and judged
-- its own: what it said before and keeps no longer, and what is in its share.
pub record IsAtRestAfter {A B R G K L : Type 0} (ga : Ghosts A K) (gb : Ghosts B L) (said : List Verdict)
    (setup : Setup A B R G K L) (packets : List PacketFacts) (worker : ℕ) (share : Share A B K L ga gb) : Type 0 where
  pub idle : AreIdle ga gb setup.tables.now share.callers
  pub began : Views
  pub fresh : IsFreshView began.four × IsFreshView began.six
  pub work : (more : List PacketFacts)
      → HasDoneAfter ga gb said setup (packets ++ more) worker (length packets) began share

-- All workers after these packets, of which they said this before and handed it over. Where they are several, what they said
-- then is merged, and they let it go; what the only one said is in its share.
pub record AreRestingBehind {A B R G K L : Type 0} {ga : Ghosts A K} {gb : Ghosts B L} (said : List Verdict) (packets : List PacketFacts)
    (all : Workers A B R G K L ga gb) : Type 0 where
  pub sound : IsSoundSetup ga gb all.setup
  pub count : all.count ≡ length packets
  pub shares : length all.shares.items ≡ all.setup.workers
  pub gone : LetGo
  pub each : (i : ℕ) (d : Share A B K L ga gb) → i < all.setup.workers
      → IsAtRestAfter ga gb (gone i) all.setup packets i (slice_index_or all.shares.items i d)
  pub merged : 1 < all.setup.workers → AreInPlace (run_facts ga gb all.setup packets) gone (said ++ all.verdicts.items)
  pub kept : all.setup.workers ≡ 1 → gone 0 ≡ said

-- all workers after these packets, of which they handed over no verdict
abbrev pub AreAtRest : {A B R G K L : Type 0} {ga : Ghosts A K} {gb : Ghosts B L} → List PacketFacts → Workers A B R G K L ga gb → Type 0
AreAtRest packets all = AreRestingBehind [] packets all

-- workers of this setup that judged no packet
pub record AreBegun {A B R G K L : Type 0} {ga : Ghosts A K} {gb : Ghosts B L} (setup : Setup A B R G K L)
    (all : Workers A B R G K L ga gb) : Type 0 where
  pub by : all.setup ≡ setup
  pub rest : AreAtRest [] all

-- whatever packets they judged so far, these may follow
pub record CanJudge {A B R G K L : Type 0} {ga : Ghosts A K} {gb : Ghosts B L} (all : Workers A B R G K L ga gb)
    (more : Packets) : Type 0 where
  pub packets : List PacketFacts
  pub said : List Verdict
  pub rest : AreRestingBehind said packets all
  pub fits : length packets + length (remaining more) < 2 ^ 64

-- they judged these packets too
pub record HaveJudged {A B R G K L : Type 0} {ga : Ghosts A K} {gb : Ghosts B L} (old : Workers A B R G K L ga gb)
    (more : Packets) (new : Workers A B R G K L ga gb) : Type 0 where
  pub by : new.setup ≡ old.setup
  pub rest : {said : List Verdict} (packets : List PacketFacts) → AreRestingBehind said packets old
      → AreRestingBehind said (packets ++ remaining more) new

-- they judged some packets
abbrev pub CanEnd : {A B R G K L : Type 0} {ga : Ghosts A K} {gb : Ghosts B L} → Workers A B R G K L ga gb → Type 0
CanEnd all = (packets : List PacketFacts) × (said : List Verdict) × AreRestingBehind said packets all

-- what packets are dealt by, to workers of this setup
abbrev pub deal_in : {A B R G K L : Type 0} (ga : Ghosts A K) (gb : Ghosts B L) → Setup A B R G K L → Deal
deal_in ga gb setup = record { layout = layout_of ga gb; dealing = setup.dealing; workers = setup.workers }

-- these are the verdicts on these packets, by workers of this setup, who know this then
abbrev pub HaveSaidKnowing : {A B R G K L : Type 0} (ga : Ghosts A K) (gb : Ghosts B L) → Setup A B R G K L → List PacketFacts
    → List Verdict → Views → Type 0
HaveSaidKnowing ga gb setup packets verdicts known =
    AreJudgedAgeing (deal_in ga gb setup) setup.filter.now.times setup.ages (policy_of setup) packets verdicts known

-- so they are, whatever the workers know then
abbrev pub HaveAllSaid : {A B R G K L : Type 0} (ga : Ghosts A K) (gb : Ghosts B L) → Setup A B R G K L → List PacketFacts
    → List Verdict → Type 0
HaveAllSaid ga gb setup packets verdicts = (known : Views) × HaveSaidKnowing ga gb setup packets verdicts known

-- They hand over what they said of the packets that they judged, and keep it no longer. What the only one said so far are the
-- verdicts on all packets.
pub record HaveHandedOver {A B R G K L : Type 0} {ga : Ghosts A K} {gb : Ghosts B L} (old new : Workers A B R G K L ga gb)
    (verdicts : List Verdict) : Type 0 where
  pub by : new.setup ≡ old.setup
  pub rest : {said : List Verdict} (packets : List PacketFacts) → AreRestingBehind said packets old
      → AreRestingBehind (said ++ verdicts) packets new
  pub count : {said : List Verdict} (packets : List PacketFacts) → AreRestingBehind said packets old → length (said ++ verdicts) ≡ length packets
  pub judged : {said : List Verdict} (packets : List PacketFacts) → AreRestingBehind said packets old → old.setup.workers ≡ 1
      → HaveAllSaid ga gb old.setup packets (said ++ verdicts)

-- They judged these packets too, and hand over what they said of all packets so far that they hadn't. What the only one said so
-- far are the verdicts on all of them.
pub record HaveJudgedOn {A B R G K L : Type 0} {ga : Ghosts A K} {gb : Ghosts B L} (old : Workers A B R G K L ga gb) (more : Packets)
    (new : Workers A B R G K L ga gb) (verdicts : List Verdict) : Type 0 where
  pub by : new.setup ≡ old.setup
  pub rest : {said : List Verdict} (packets : List PacketFacts) → AreRestingBehind said packets old
      → AreRestingBehind (said ++ verdicts) (packets ++ remaining more) new
  pub count : {said : List Verdict} (packets : List PacketFacts) → AreRestingBehind said packets old
      → length (said ++ verdicts) ≡ length (packets ++ remaining more)
  pub judged : {said : List Verdict} (packets : List PacketFacts) → AreRestingBehind said packets old → old.setup.workers ≡ 1
      → HaveAllSaid ga gb old.setup (packets ++ remaining more) (said ++ verdicts)

-- These are the verdicts on the packets that they judged, and callers that are all of theirs, joined: they hold nothing, and
-- know what the workers knew.
pub record HaveEnded {A B R G K L : Type 0} {ga : Ghosts A K} {gb : Ghosts B L} (all : Workers A B R G K L ga gb)
    (verdicts : List Verdict) (callers : Callers A B K L ga gb) : Type 0 where
  pub idle : AreIdle ga gb all.setup.tables.now callers
  pub said : {before : List Verdict} (packets : List PacketFacts) → AreRestingBehind before packets all
      → HaveSaidKnowing ga gb all.setup packets (before ++ verdicts) (views_of ga gb callers)
