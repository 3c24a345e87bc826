-- Who is told of packets: all batches that it was told of so far, and where it failed.
use Rattle.std.specs.Prelude.{◌≡◌, ◌+◌, ◌<◌, ◌^◌, ◌++◌, ◌∷◌, ℕ, List, [], MatchResult, Result, length, ⊤}
use Rattle.racl_io.specs.declared.fault.Fault.{Fault}
use Rattle.filter_run.specs.Batches.{JudgedBatch, said_of}

-- as what it began, and whatever it was told so far, so many more packets may follow
pub record MayHear {O V : Type 0} (Told : O → List (JudgedBatch V) → O → Type 0) (now : O) (more : ℕ) : Type 0 where
  pub begun : O
  pub batches : List (JudgedBatch V)
  pub stand : Told begun batches now
  pub fits : length (said_of batches) + more < 2 ^ 64

-- this batch followed whatever it was told so far
abbrev pub TellsMore : {O V : Type 0} → (O → List (JudgedBatch V) → O → Type 0) → O → JudgedBatch V → O → Type 0
TellsMore {O} {V} Told old batch new = (begun : O) (batches : List (JudgedBatch V)) → Told begun batches old → Told begun (batches ++ batch ∷ []) new

-- it failed within this batch, which followed whatever it was told so far
abbrev pub IsCutAt : {O V : Type 0} → (O → List (JudgedBatch V) → O → Type 0) → (O → List (JudgedBatch V) → Fault → O → Type 0) → O → JudgedBatch V → Fault → O → Type 0
IsCutAt {O} {V} Told Cut old batch fault new =
    (begun : O) (batches : List (JudgedBatch V)) → Told begun batches old → Cut begun (batches ++ batch ∷ []) fault new

-- it was told of this batch, or it failed
abbrev pub HasHeard : {O V : Type 0} → (O → List (JudgedBatch V) → O → Type 0) → (O → List (JudgedBatch V) → Fault → O → Type 0) → O → O → JudgedBatch V
    → Result ⊤ Fault → Type 0
HasHeard Told Cut old new batch result =
    MatchResult result (λ _. TellsMore Told old batch new) (λ fault. IsCutAt Told Cut old batch fault new)

-- it was told of all of these batches but the last
pub record IsBeforeLast {O V : Type 0} (Told : O → List (JudgedBatch V) → O → Type 0) (begun : O) (batches : List (JudgedBatch V)) (now : O) : Type 0 where
  pub earlier : List (JudgedBatch V)
  pub last : JudgedBatch V
  pub all : batches ≡ earlier ++ last ∷ []
  pub told : Told begun earlier now
