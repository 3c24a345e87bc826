-- Where a capture's records begin, how many bytes may come there, and that all of its input was read (this project's profile).
use Rattle.std.specs.Prelude.{◌+◌, ◌-◌, ◌≤◌, ◌++◌, ℕ, Bool, List, [], None, Option, Some, length, ⊤}
use Rattle.std.specs.Io.KnownBytes.{IsAtEnd}
use Rattle.packet_view.specs.Captures.{IsEnd, end_of}
use Rattle.packet_view.specs.declared.capture.Order.{Order}
use Rattle.racl_io.specs.Inputs.{most_bytes}
use Rattle.filter_run.specs.declared.capture_start.CaptureStart.{CaptureStart}

-- the order of a capture's numbers, the bytes behind its header that were read before, and, where it is part of an input, how many
-- bytes of the input stand before these
pub record Start : Type 0 where
  pub order : Order
  pub front : List ℕ
  pub input : Option ℕ

-- behind the header of a capture that is all that comes
abbrev pub behind_header : Order → Start
behind_header order = record { order = order; front = []; input = None }

abbrev pub start_facts : CaptureStart → Start
start_facts start = record { order = start.order; front = start.front.items; input = start.input }

-- so many bytes may come, with those that were read before
abbrev pub most_at : Option ℕ → ℕ
most_at None = 4611686018427387903
most_at (Some before) = most_bytes - before

-- behind so many bytes an input is at its end, and has no more than it may
abbrev pub IsInputOut : Option ℕ → ℕ → Option (List ℕ) → Type 0
IsInputOut None size after = ⊤
IsInputOut (Some before) size after = IsAtEnd after × (before + size ≤ most_bytes)

-- all of the input was read, which isn't too much
abbrev pub IsReadOut : Start → (read : List ℕ) → (after : Option (List ℕ)) → Type 0
IsReadOut start read after = IsInputOut start.input (length (start.front ++ read)) after

-- Where a read failed, no whole record is at the front of the rest: it is nothing or the front of a record. Of an input, of which
-- nothing is told where a read failed, more may have been read.
abbrev pub IsUnreadRest : Option ℕ → Order → (rest : List ℕ) → Type 0
IsUnreadRest None order rest = (truncated : Bool) × IsEnd order rest (end_of truncated)
IsUnreadRest (Some before) order rest = ⊤
