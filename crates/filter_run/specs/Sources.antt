-- What gives packets: all batches that it gave so far, how they end, and how it fails.
use Rattle.std.specs.Prelude.{◌<◌, ◌++◌, ◌∷◌, List, []}
use Rattle.racl_io.specs.declared.totals_and_truncation.Captured.{Captured}
use Rattle.filter_run.specs.Batches.{BatchFacts, IsWhole, batch_facts, total}
use Rattle.filter_run.specs.declared.source.Step.{Step}
use Rattle.filter_run.specs.declared.source.Step.TheVariants as step

-- as what it began, and whatever it gave so far, it is less than 2^62 packets
pub record MayGive {S : Type 0} (Gave : S → List BatchFacts → S → Type 0) (now : S) : Type 0 where
  pub begun : S
  pub batches : List BatchFacts
  pub stand : Gave begun batches now
  pub few : total batches < 4611686018427387904

-- this batch followed what it gave so far, whatever that was
abbrev pub GivesMore : {S : Type 0} → (S → List BatchFacts → S → Type 0) → S → BatchFacts → S → Type 0
GivesMore {S} Gave old batch new = (begun : S) (batches : List BatchFacts) → Gave begun batches old → Gave begun (batches ++ batch ∷ []) new

-- whatever it gave so far was all, of captures of which this is told
abbrev pub IsAllGiven : {S : Type 0} → (S → List BatchFacts → S → Type 0) → (S → List BatchFacts → List Captured → S → Type 0) → S → List Captured → S → Type 0
IsAllGiven {S} Gave Over old captures new = (begun : S) (batches : List BatchFacts) → Gave begun batches old → Over begun batches captures new

-- a batch came; or none is left
abbrev pub HasStepped : {S : Type 0} → (S → List BatchFacts → S → Type 0) → (S → List BatchFacts → List Captured → S → Type 0) → S → S → Step → Type 0
HasStepped Gave Over old new (step.Batch batch) = IsWhole batch × GivesMore Gave old (batch_facts batch) new
HasStepped Gave Over old new (step.End captures) = IsAllGiven Gave Over old captures.items new

-- behind whatever it gave so far it failed so
abbrev pub HasFailed : {S F : Type 0} → (S → List BatchFacts → S → Type 0) → (S → List BatchFacts → F → S → Type 0) → S → S → F → Type 0
HasFailed {S} Gave Failed old new found = (begun : S) (batches : List BatchFacts) → Gave begun batches old → Failed begun batches found new
