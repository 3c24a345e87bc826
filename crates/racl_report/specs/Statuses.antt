-- The exit statuses of a run.
use Rattle.std.specs.Prelude.{ℕ, if◌then◌else◌, Result, Ok, Err}
use Rattle.racl_io.specs.declared.fault.Fault.{Fault}
use Rattle.racl_io.specs.declared.fault.Fault.TheVariants.{Memory, Read, Write}
use Rattle.racl_io.specs.declared.totals_and_truncation.Totals.{Totals}

-- 4 where memory or a device failed, and else 1
abbrev pub status_of_fault : Fault → ℕ
status_of_fault Memory = 4
status_of_fault Read = 4
status_of_fault Write = 4
status_of_fault _ = 1

-- 3 where a capture was truncated, and else 0
abbrev pub status_of : Result Totals Fault → ℕ
status_of (Ok totals) = if totals.truncated then 3 else 0
status_of (Err fault) = status_of_fault fault
