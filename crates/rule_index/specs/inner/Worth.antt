-- When rules are prepared, by measurement. That is no promise.
use Rattle.std.specs.Prelude.{◌<◌, ℕ, ◌+◌, ◌/◌}

-- so many rules are prepared for so many packets
abbrev pub IsWorthPreparing : ℕ → ℕ → Type 0
IsWorthPreparing rules packets = (64 < rules) × (2500 + rules / 2 < packets)
