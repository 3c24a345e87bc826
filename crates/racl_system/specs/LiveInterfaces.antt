-- Which captures a live run on several interfaces is of, and how it ended (this project's profile).
use Rattle.std.specs.Prelude.{◌≡◌, ◌≢◌, ◌++◌, ℕ, zero, suc, Bool, List, ◌∷◌, true, false, Result, Ok, Err, map}
use Rattle.std.specs.List.{AllPairs, Contains}
use Rattle.capture_stream.specs.declared.arrivals.FaultAt.{FaultAt}
use Rattle.racl_io.specs.declared.fault.Fault.{Fault}
use Rattle.racl_io.specs.declared.fault.Fault.TheVariants.{Read, Short, Magic, Version, LinkType, LongRecord}
use Rattle.racl_io.specs.declared.totals_and_truncation.Totals.{Totals}
use Rattle.racl_options.specs.declared.settings.CaptureFile.{CaptureFile}

-- the numbers of the interfaces of captures
abbrev pub interfaces_of : List CaptureFile → List ℕ
interfaces_of captures = map (λ (c : CaptureFile). c.interface) captures

-- no two are of one interface
abbrev pub AreApart : List CaptureFile → Type 0
AreApart captures = AllPairs (λ one other. one ≢ other) (interfaces_of captures)

-- this number is the first that stands there again
pub record IsFirstTwice (numbers : List ℕ) (number : ℕ) : Type 0 where
  pub before : List ℕ
  pub behind : List ℕ
  pub parted : numbers ≡ before ++ number ∷ behind
  pub again : Contains before number
  pub first : AllPairs (λ one other. one ≢ other) before

-- the status where captures can't be had whose policy was read: 1 where two are of one interface, and else 4
abbrev pub IsComingStatus : List CaptureFile → ℕ → Type 0
IsComingStatus captures (suc zero) = AreApart captures → ⊥
IsComingStatus captures status = (status ≡ 4) × AreApart captures

-- what came of it, but for whose capture has the fault
abbrev pub placeless_outcome : Result Totals FaultAt → Result Totals Fault
placeless_outcome (Ok totals) = Ok totals
placeless_outcome (Err found) = Err found.fault

-- it can be one of a capture: not of memory, of what is written, or of all captures together
abbrev pub can_be_of_capture : Fault → Bool
can_be_of_capture Read = true
can_be_of_capture Short = true
can_be_of_capture Magic = true
can_be_of_capture Version = true
can_be_of_capture LinkType = true
can_be_of_capture (LongRecord number) = true
can_be_of_capture _ = false
