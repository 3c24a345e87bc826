-- How a run judges its batches, by what a packet took in those before.
use Rattle.std.specs.Prelude.{◌-◌, ◌*◌, ◌/◌, ℕ, Bool, false, not, if◌then◌else◌, nat_le, nat_lt, max, min, Option, Some}
use Rattle.std.specs.Time.{instant_nanos}
use Rattle.std.specs.declared.time.Instant.{Instant}
use Rattle.racl_runs.specs.declared.pace.Pace.{Pace}

-- in threads at first
abbrev pub first_pace : Pace
first_pace = record { by_turns = false; tries = false; left = 2; stretch = 32; took = 0 }

-- the other manner is tried, or the one that is kept goes on
abbrev pub takes_turns : Pace → Bool
takes_turns pace = if pace.tries then not pace.by_turns else pace.by_turns

-- after the last batch of a stretch the other manner is tried
abbrev went_on : Pace → ℕ → Pace
went_on pace took = record pace { tries = nat_le pace.left 1; left = pace.left - 1; took = took }

-- the other manner took less, and is kept
abbrev changed : Pace → ℕ → Pace
changed pace took = record { by_turns = not pace.by_turns; tries = false; left = 32; stretch = 32; took = took }

-- it didn't, and is tried again after twice as many batches, at most 64
abbrev stayed : Pace → Pace
stayed pace = record pace { tries = false; left = min (pace.stretch * 2) 64; stretch = min (pace.stretch * 2) 64 }

-- a packet took so many nanoseconds in a batch
abbrev pub after_batch : Pace → ℕ → Pace
after_batch pace took = if pace.tries then (if nat_lt took pace.took then changed pace took else stayed pace) else went_on pace took

-- a batch of so many packets began and ended then, where both are known
abbrev pub noted : Pace → Option Instant → Option Instant → ℕ → Pace
noted pace (Some began) (Some ended) count = after_batch pace ((instant_nanos ended - instant_nanos began) / max count 1)
noted pace began ended count = pace
