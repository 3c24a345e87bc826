-- What reading from a source did: to the bytes that it has left, where they are known, and to its failures.
use Rattle.std.specs.Prelude.{◌≡◌, ◌+◌, ◌<◌, ◌≤◌, ℕ, Bool, true, false, List, ◌++◌, length, max, Option, Result, Ok, Err, ⊤}
use Rattle.std.specs.Io.KnownBytes.{Consumes, IsAtEnd}
use Rattle.racl_io.specs.declared.fault.Fault.{Fault}
use Rattle.racl_io.specs.declared.fault.Fault.TheVariants.{Read, TooLarge}
use Rattle.racl_io.specs.Inputs.{most_bytes}

-- a read that failed is the last one, and counts
abbrev pub failures_after_reads : {X : Type 0} → ℕ → Result X Fault → ℕ
failures_after_reads failures (Err Read) = failures + 1
failures_after_reads failures result = failures

-- the source gave at most so many bytes
abbrev pub GaveAtMost : Option (List ℕ) → Option (List ℕ) → ℕ → Type 0
GaveAtMost before after most = (given : List ℕ) × Consumes before after given × (length given ≤ most)

-- the source gave at most so many bytes, and failed once more where the answer is that a read failed
pub record HasReadWithin {R X : Type 0} (bytes_left : R → Option (List ℕ)) (failures : R → ℕ) (most : ℕ) (before after : R) (result : Result X Fault) : Type 0 where
  pub gave : GaveAtMost (bytes_left before) (bytes_left after) most
  pub failed : failures after ≡ failures_after_reads (failures before) result

-- what a buffer got is what the source lost: all that it had and less than `least` bytes, or as many as make `least`
pub record HasRead (before after : Option (List ℕ)) (old new : List ℕ) (least : ℕ) (at_end : Bool) : Type 0 where
  pub read : List ℕ
  pub consumed : Consumes before after read
  pub appended : new ≡ old ++ read
  pub ended : at_end ≡ true → IsAtEnd after × (length new < least)
  pub enough : at_end ≡ false → length new ≡ max (length old) least

-- a buffer got so many bytes by one read, which the source lost, and then had no more than `most`; or none, only at the source's end
pub record HasGained (before after : Option (List ℕ)) (old new : List ℕ) (most count : ℕ) : Type 0 where
  pub read : List ℕ
  pub consumed : Consumes before after read
  pub appended : new ≡ old ++ read
  pub size : count ≡ length read
  pub few : length new ≤ most
  pub ended : count ≡ 0 → IsAtEnd after

-- the source is at its end after `count` bytes and those that it lost, or these are too many
abbrev pub HasDrained : Option (List ℕ) → Option (List ℕ) → ℕ → Result ⊤ Fault → Type 0
HasDrained before after count (Ok x) = (gone : List ℕ) × Consumes before after gone × IsAtEnd after × (count + length gone ≤ most_bytes)
HasDrained before after count (Err TooLarge) = (gone : List ℕ) × Consumes before after gone × (most_bytes < count + length gone)
HasDrained before after count (Err Read) = ⊤
HasDrained before after count (Err fault) = ⊥
