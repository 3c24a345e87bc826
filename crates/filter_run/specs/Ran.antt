-- One run: what was told is what its source gave, as its judge said; or why it isn't (this project's profile).
use Rattle.std.specs.Prelude.{◌≡◌, ◌≤◌, ◌++◌, ◌∷◌, ◌⊎◌, ℕ, List, [], None, Some, length}
use Rattle.packet_view.specs.Captures.{PacketFacts}
use Rattle.racl_io.specs.declared.fault.Fault.{Fault}
use Rattle.racl_io.specs.declared.fault.Fault.TheVariants.{Memory, TooLarge}
use Rattle.racl_io.specs.declared.totals_and_truncation.Captured.{Captured}
use Rattle.capture_stream.specs.declared.arrivals.FaultAt.{FaultAt}
use Rattle.filter_run.specs.Batches.{AreAllWhole, AreEach, BatchFacts, JudgedBatch, batches_of, packets_of, said_of}

-- once so many batches or packets came, no more are asked for
abbrev pub most : ℕ
most = 4611686018427387904

-- what is said of a source, of a judge, and of an observer
pub record Words (S J O V : Type 0) : Type 1 where
  pub gave : S → List BatchFacts → S → Type 0
  pub over : S → List BatchFacts → List Captured → S → Type 0
  pub failed : S → List BatchFacts → FaultAt → S → Type 0
  pub became : J → List PacketFacts → List V → J → Type 0
  pub told : O → List (JudgedBatch V) → O → Type 0
  pub cut : O → List (JudgedBatch V) → Fault → O → Type 0

abbrev pub words_of : {S J O V : Type 0} → (S → List BatchFacts → S → Type 0) → (S → List BatchFacts → List Captured → S → Type 0)
    → (S → List BatchFacts → FaultAt → S → Type 0) → (J → List PacketFacts → List V → J → Type 0) → (O → List (JudgedBatch V) → O → Type 0)
    → (O → List (JudgedBatch V) → Fault → O → Type 0) → Words S J O V
words_of gave over failed became told cut = record { gave = gave; over = over; failed = failed; became = became; told = told; cut = cut }

-- nothing was given, judged or told
pub record IsBegun {S J O V : Type 0} (Gave : S → List BatchFacts → S → Type 0) (Became : J → List PacketFacts → List V → J → Type 0)
    (Told : O → List (JudgedBatch V) → O → Type 0) (source : S) (judge : J) (observer : O) : Type 0 where
  pub gave : Gave source [] source
  pub became : Became judge [] [] judge
  pub told : Told observer [] observer

-- The one relation of a run: the source gave all its batches, the judge said this of their packets, and that is what the observer
-- was told, in the order in which they came, and no more.
pub record Ran {S J O V : Type 0} (words : Words S J O V) (source : S) (judge : J) (observer : O) (then : S) (at : J) (after : O) (captures : List Captured) : Type 0 where
  pub judged : List (JudgedBatch V)
  pub over : words.over source (batches_of judged) captures then
  pub became : words.became judge (packets_of judged) (said_of judged) at
  pub each : AreEach judged
  pub whole : AreAllWhole (batches_of judged)
  pub told : words.told observer judged after

-- of the packets of these batches this was said
abbrev pub HasSaid : {S J O V : Type 0} → Words S J O V → J → List (JudgedBatch V) → Type 0
HasSaid {J = J} words judge judged = (now : J) × words.became judge (packets_of judged) (said_of judged) now

-- The run stopped before its end: the source failed, memory was refused to the judge, or too much came. The observer was told of all
-- that was judged.
pub record HasStopped {S J O V : Type 0} (words : Words S J O V) (source : S) (judge : J) (observer : O) (then : S) (after : O) (found : FaultAt) : Type 0 where
  pub judged : List (JudgedBatch V)
  pub why : words.failed source (batches_of judged) found then
      ⊎ ((found.fault ≡ Memory) × (gone : BatchFacts) × (found.interface ≡ Some gone.interface) × words.gave source (batches_of judged ++ gone ∷ []) then)
      ⊎ ((found ≡ record { fault = TooLarge; interface = None }) × words.gave source (batches_of judged) then
      × ((most ≤ length judged) ⊎ (most ≤ length (said_of judged))))
  pub said : HasSaid words judge judged
  pub each : AreEach judged
  pub whole : AreAllWhole (batches_of judged)
  pub told : words.told observer judged after

-- the observer failed within the last batch, and was told of all before
pub record HasCutRun {S J O V : Type 0} (words : Words S J O V) (source : S) (judge : J) (observer : O) (then : S) (after : O) (found : FaultAt) : Type 0 where
  pub earlier : List (JudgedBatch V)
  pub last : JudgedBatch V
  pub gave : words.gave source (batches_of (earlier ++ last ∷ [])) then
  pub before : HasSaid words judge earlier
  pub said : HasSaid words judge (earlier ++ last ∷ [])
  pub each : AreEach (earlier ++ last ∷ [])
  pub whole : AreAllWhole (batches_of (earlier ++ last ∷ []))
  pub cut : words.cut observer (earlier ++ last ∷ []) found.fault after
  pub place : found.interface ≡ Some last.batch.interface

-- The one relation of faults: which it is, whose, and what was told.
abbrev pub IsRunFault : {S J O V : Type 0} → Words S J O V → S → J → O → S → O → FaultAt → Type 0
IsRunFault words source judge observer then after found =
    HasStopped words source judge observer then after found ⊎ HasCutRun words source judge observer then after found
