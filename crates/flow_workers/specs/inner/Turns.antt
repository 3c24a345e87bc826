-- What becomes of workers.
use Rattle.std.specs.Prelude.{◌≡◌, ◌<◌, ◌≤◌, ◌+◌, ◌^◌, ℕ, List, All, length, slice_index_or, IfOk}
use Rattle.packet_view.specs.CheckedCaptures.{remaining}
use Rattle.bihash_words.specs.declared.shape.Shape.{Ghosts}
use Rattle.flow_workers.specs.declared.worker_share.Dealt.{Dealt}
use Rattle.flow_workers.specs.declared.worker_share.Batch.{Batch}
use Rattle.flow_workers.specs.declared.worker_share.Share.{Share}
use Rattle.flow_workers.specs.declared.worker_turn.Turn.{Turn}
use Rattle.flow_workers.specs.declared.worker_turn.Turn.TheVariants.{Ahead, Over}
use Rattle.flow_workers.specs.Callers.{AreIdle, AreShapes}
use Rattle.flow_workers.specs.inner.Jobs.{CanWork, HasWorkedOn, IsShareOf}

abbrev pub CanTakeTurn : {A B R G K L : Type 0} (ga : Ghosts A K) (gb : Ghosts B L) → Turn A B R G K L ga gb → Type 0
CanTakeTurn ga gb (Ahead job) = CanWork ga gb job
CanTakeTurn ga gb (Over done) = Unit {0}

abbrev pub BecomesWorked : {A B R G K L : Type 0} (ga : Ghosts A K) (gb : Ghosts B L) → Turn A B R G K L ga gb
    → Turn A B R G K L ga gb → Type 0
BecomesWorked ga gb (Ahead job) (Ahead other) = ⊥
BecomesWorked ga gb (Ahead job) (Over done) = IfOk done (IsShareOf ga gb job)
BecomesWorked ga gb (Over done) other = Unit {0}

abbrev pub IsTurnPast : {A B R G K L : Type 0} (ga : Ghosts A K) (gb : Ghosts B L) → Turn A B R G K L ga gb → Type 0
IsTurnPast ga gb (Ahead job) = ⊥
IsTurnPast ga gb (Over done) = Unit {0}

-- what a batch begins with: a share of each worker, whose callers hold nothing
pub record MayJudgeBatch {A B R G K L : Type 0} {ga : Ghosts A K} {gb : Ghosts B L} (batch : Batch A B R G K L)
    (shares : List (Share A B K L ga gb)) : Type 0 where
  pub shapes : AreShapes ga gb
  pub some : 1 ≤ batch.setup.workers
  pub few : batch.setup.workers ≤ 16
  pub count : length shares ≡ batch.setup.workers
  pub fits : batch.first + length (remaining batch.packets) < 2 ^ 64
  pub idle : (i : ℕ) (d : Share A B K L ga gb) → i < length shares
      → AreIdle ga gb batch.setup.tables.now (slice_index_or shares i d).callers

-- the turns of the workers that have these shares, at the packets that were dealt so
pub record AreTurns {A B R G K L : Type 0} {ga : Ghosts A K} {gb : Ghosts B L} (batch : Batch A B R G K L) (dealt : Dealt)
    (shares : List (Share A B K L ga gb)) (turns : List (Turn A B R G K L ga gb)) : Type 0 where
  pub count : length turns ≡ length shares
  pub each : (i : ℕ) (d : Turn A B R G K L ga gb) (e : Share A B K L ga gb) → i < length shares
      → slice_index_or turns i d ≡ Ahead (record { batch = batch; dealt = dealt; worker = i; share = slice_index_or shares i e })

-- they can be taken
pub record AreTurnsAhead {A B R G K L : Type 0} {ga : Ghosts A K} {gb : Ghosts B L} (batch : Batch A B R G K L) (dealt : Dealt)
    (shares : List (Share A B K L ga gb)) (turns : List (Turn A B R G K L ga gb)) : Type 0 where
  pub ready : All (CanTakeTurn ga gb) turns
  pub are : AreTurns batch dealt shares turns

-- each worker has looked at the packets of the batch between these places, and judged its own: these are the shares
-- before and after it
pub record HaveWorkedOn {A B R G K L : Type 0} {ga : Ghosts A K} {gb : Ghosts B L} (batch : Batch A B R G K L)
    (first last : ℕ) (old new : List (Share A B K L ga gb)) : Type 0 where
  pub count : length new ≡ length old
  pub each : (i : ℕ) (d e : Share A B K L ga gb) → i < length old
      → HasWorkedOn ga gb batch i first last (slice_index_or old i d) (slice_index_or new i e)

-- each worker judged its packets of the batch
abbrev pub HaveWorked : {A B R G K L : Type 0} {ga : Ghosts A K} {gb : Ghosts B L} → Batch A B R G K L
    → List (Share A B K L ga gb) → List (Share A B K L ga gb) → Type 0
HaveWorked batch = HaveWorkedOn batch 0 (length (remaining batch.packets))
