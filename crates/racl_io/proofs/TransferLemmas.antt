-- How far a source was read.
use Rattle.std.proofs.Common.{◌≡◌, ◌∙◌, ◌≤◌, ◌+◌, ℕ, List, [], ◌++◌, Option, Err, Result, ap, arith, length, subst, sym}
use Rattle.std.proofs.lemmas.List.{length-append}
use Rattle.std.proofs.KnownBytes.{Consumes-nil, Consumes-trans}
use Rattle.std.specs.Io.KnownBytes.{Consumes}
use Rattle.racl_io.specs.declared.fault.Fault.{Fault}
use Rattle.racl_io.specs.declared.fault.Fault.TheVariants.{Read}
use Rattle.racl_io.specs.Transfers.{GaveAtMost, HasReadWithin, failures_after_reads}

pub gave_none : (before : Option (List ℕ)) (most : ℕ) → GaveAtMost before before most
gave_none before most = ([], Consumes-nil before, omega arith)

pub gave_fewer : (before after : Option (List ℕ)) (few most : ℕ) → few ≤ most → GaveAtMost before after few → GaveAtMost before after most
gave_fewer before after few most less (given, consumed, fits) = (given, consumed, omega (arith, less, fits))

-- what it gave in two parts
pub gave_more : (before now after : Option (List ℕ)) (given more : List ℕ) (most : ℕ) → length given + length more ≤ most → Consumes before now given
    → Consumes now after more → GaveAtMost before after most
gave_more before now after given more most fits consumed then =
    let size = length-append given more in (given ++ more, Consumes-trans before now after given more consumed then, omega (arith, size, fits))

failures_of : (X Y : Type 0) (first before after : ℕ) (fault : Fault) → before ≡ first → after ≡ failures_after_reads {X = X} before (Err fault)
    → after ≡ failures_after_reads {X = Y} first (Err fault)
failures_of X Y first before after Read same failed = failed ∙ ap (λ n. n + 1) same
failures_of X Y first before after fault same failed = failed ∙ same

-- what a fault says of failures, whatever else might have been answered
pub within_of_err : {R X Y : Type 0} (left : R → Option (List ℕ)) (failures : R → ℕ) (most : ℕ) (first before after : R) (one : Result X Fault)
    (other : Result Y Fault) (fault : Fault) → GaveAtMost (left first) (left after) most → failures before ≡ failures first → one ≡ Err fault
    → other ≡ Err fault → failures after ≡ failures_after_reads (failures before) one → HasReadWithin left failures most first after other
within_of_err {X = X} {Y = Y} left failures most first before after one other fault gave same is is_too failed = record {
  gave = gave;
  failed = subst (λ result. failures after ≡ failures_after_reads (failures first) result) (sym is_too)
      (failures_of X Y (failures first) (failures before) (failures after) fault same
      (subst (λ result. failures after ≡ failures_after_reads (failures before) result) is failed));
}
