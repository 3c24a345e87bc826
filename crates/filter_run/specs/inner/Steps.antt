-- A run between two batches.
use Rattle.std.specs.Prelude.{◌≡◌, ℕ, List, length}
use Rattle.filter_run.specs.Batches.{AreAllWhole, AreEach, JudgedBatch, batches_of, packets_of, said_of}
use Rattle.filter_run.specs.Ran.{Words}

-- all that was given so far was judged, and an observer was told of it
pub record IsGoing {S J O V : Type 0} (words : Words S J O V) (source : S) (judge : J) (observer : O) (now : S) (at : J) (after : O) (batches packets : ℕ) : Type 0 where
  pub judged : List (JudgedBatch V)
  pub gave : words.gave source (batches_of judged) now
  pub became : words.became judge (packets_of judged) (said_of judged) at
  pub each : AreEach judged
  pub whole : AreAllWhole (batches_of judged)
  pub told : words.told observer judged after
  pub batches_are : batches ≡ length judged
  pub packets_are : packets ≡ length (said_of judged)
