-- Records that are saved: what was given to what saves them.
use Rattle.std.specs.Prelude.{◌≡◌, ◌+◌, ◌∷◌, ℕ, List, []}
use Rattle.packet_view.specs.declared.capture.Order.{Order}
use Rattle.session_state.specs.declared.verdict.Verdict.{Verdict}
use Rattle.racl_io.specs.declared.fault.Fault.{Fault}
use Rattle.racl_io.specs.declared.fault.Fault.TheVariants.{Write}
use Rattle.filter_run.specs.Batches.{JudgedBatch, batches_of, said_of}
use Rattle.filter_run.specs.OneCapture.{bytes_of}
use Rattle.filter_run.specs.declared.saved_records.SavedRecords.{SavedRecords}

-- the captures' numbers have this order
abbrev pub AreOf : Order → List (JudgedBatch Verdict) → Type 0
AreOf order [] = Unit {0}
AreOf order (one ∷ others) = (one.batch.order ≡ order) × AreOf order others

-- Records were given to what saves them: all of them, where all captures have its order.
pub record HasSavedSome {K : Type 0} (saved : K → Order → List ℕ → List Verdict → K → Type 0) (failures : K → ℕ) (begun : SavedRecords K)
    (judged : List (JudgedBatch Verdict)) (now : SavedRecords K) : Type 0 where
  pub same : now.saver.ghost_name ≡ begun.saver.ghost_name
  pub order : now.order ≡ begun.order
  pub bytes : List ℕ
  pub said : List Verdict
  pub stand : saved begun.saver.now begun.order bytes said now.saver.now
  pub all : AreOf begun.order judged → (bytes ≡ bytes_of (batches_of judged)) × (said ≡ said_of judged)
  pub sound : failures now.saver.now ≡ failures begun.saver.now

-- it failed once
pub record HasCutSaves {K : Type 0} (failures : K → ℕ) (begun : SavedRecords K) (fault : Fault) (now : SavedRecords K) : Type 0 where
  pub same : now.saver.ghost_name ≡ begun.saver.ghost_name
  pub write : fault ≡ Write
  pub failed : failures now.saver.now ≡ failures begun.saver.now + 1
