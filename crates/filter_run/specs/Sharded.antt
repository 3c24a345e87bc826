-- What gives the packets of a shard, of those that another source gives (this project's profile).
use Rattle.std.specs.Prelude.{◌≡◌, ◌≤◌, ◌⊎◌, ◌+◌, ◌++◌, ◌∷◌, ℕ, List, [], None, Option, Some, max, true}
use Rattle.std.specs.List.{AllZip, concat, flat_map}
use Rattle.packet_view.specs.Captures.{packets_at}
use Rattle.racl_io.specs.declared.fault.Fault.TheVariants.{Memory, TooLarge}
use Rattle.racl_io.specs.declared.totals_and_truncation.Captured.{Captured}
use Rattle.capture_stream.specs.declared.arrivals.FaultAt.{FaultAt}
use Rattle.capture_shards.specs.OwnRecords.{IsWholeRecord, latest_of}
use Rattle.capture_shards.specs.Sharing.{own_numbers}
use Rattle.capture_shards.specs.Shards.{Own, own_in}
use Rattle.capture_shards.specs.declared.shard.Shard.{Shard}
use Rattle.capture_shards.specs.inner.OwnTests.{own_of}
use Rattle.filter_run.specs.Batches.{BatchFacts, numbers_in, packets_in, total}
use Rattle.filter_run.specs.Ran.{most}
use Rattle.filter_run.specs.declared.sharded.Sharded.{Sharded}

-- Of a batch's whole records these are those of one's own packets, as they stand there, with the packets' numbers among all.
pub record IsOwnBatch (own : Own) (whole mine : BatchFacts) : Type 0 where
  pub interface : mine.interface ≡ whole.interface
  pub order : mine.order ≡ whole.order
  pub pieces : List (List ℕ)
  pub each : AllZip (IsWholeRecord whole.order) pieces whole.records
  pub spelt : whole.bytes ≡ concat pieces
  pub bytes : mine.bytes ≡ concat (own_in own (whole.others + 1) (packets_at 0 whole.records) pieces)
  pub records : mine.records ≡ own_in own (whole.others + 1) (packets_at 0 whole.records) whole.records
  pub numbers : numbers_in mine ≡ own_numbers own (whole.others + 1) (packets_at 0 whole.records)

-- what is given of a batch: the records of the shard's packets, or all where there is no shard
abbrev pub IsPart : Option Shard → BatchFacts → BatchFacts → Type 0
IsPart None whole mine = mine ≡ whole
IsPart (Some shard) whole mine = IsOwnBatch (own_of shard) whole mine

-- The same source goes on with the same shard. So many packets came, and the latest second of any is noted, where it is to be.
pub record GoesOn {S : Type 0} (begun : Sharded S) (all : List BatchFacts) (now : Sharded S) : Type 0 where
  pub shard : now.shard ≡ begun.shard
  pub noted : now.noted ≡ begun.noted
  pub seen : now.seen ≡ begun.seen + total all
  pub latest : begun.noted ≡ true → now.latest ≡ max begun.latest (latest_of (flat_map packets_in all))

-- the source gave all these, and these were given of them
pub record HasGivenOwn {S : Type 0} (Gave : S → List BatchFacts → S → Type 0) (begun : Sharded S) (batches : List BatchFacts) (now : Sharded S) : Type 0 where
  pub all : List BatchFacts
  pub gave : Gave begun.inner all now.inner
  pub parts : AllZip (IsPart begun.shard) all batches
  pub goes_on : GoesOn begun all now

-- and it has no more, of captures of which this is told
pub record HasGivenAllOwn {S : Type 0} (Over : S → List BatchFacts → List Captured → S → Type 0) (begun : Sharded S) (batches : List BatchFacts)
    (captures : List Captured) (now : Sharded S) : Type 0 where
  pub all : List BatchFacts
  pub over : Over begun.inner all captures now.inner
  pub parts : AllZip (IsPart begun.shard) all batches
  pub goes_on : GoesOn begun all now

-- Why no more was given: the source failed; or memory ran out, and a batch of it is lost; or too many packets came.
abbrev pub IsWhyNoPart : {S : Type 0} → (S → List BatchFacts → S → Type 0) → (S → List BatchFacts → FaultAt → S → Type 0) → Sharded S → List BatchFacts
    → FaultAt → Sharded S → Type 0
IsWhyNoPart Gave Failed begun all found now =
    Failed begun.inner all found now.inner
    ⊎ ((found.fault ≡ Memory) × (gone : BatchFacts) × (found.interface ≡ Some gone.interface) × Gave begun.inner (all ++ gone ∷ []) now.inner)
    ⊎ ((found ≡ record { fault = TooLarge; interface = None }) × Gave begun.inner all now.inner × (most ≤ begun.seen + total all))

pub record HasFailedOwn {S : Type 0} (Gave : S → List BatchFacts → S → Type 0) (Failed : S → List BatchFacts → FaultAt → S → Type 0) (begun : Sharded S)
    (batches : List BatchFacts) (found : FaultAt) (now : Sharded S) : Type 0 where
  pub all : List BatchFacts
  pub parts : AllZip (IsPart begun.shard) all batches
  pub why : IsWhyNoPart Gave Failed begun all found now
