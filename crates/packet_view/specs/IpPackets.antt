-- What a packet of either family carries, and where it ends.
use Rattle.std.specs.Prelude.{ℕ, ◌==◌, min, if◌then◌else◌, List}

-- a fragment other than the first, and else the bytes after the headers, each under its protocol
pub data Upper : Type 0 where
  LaterFragment : ℕ → Upper
  Payload : ℕ → List ℕ → Upper

-- How many of the bytes that are there belong to a packet that declares its length. One that declares 0,
-- as offloaded packets do in captures, has them all.
abbrev pub extent : ℕ → ℕ → ℕ
extent declared there = if declared == 0 then there else min declared there
