-- How many bytes of a capture that comes a read asks for (this project's profile).
use Rattle.std.specs.Prelude.{◌&&◌, ◌||◌, ℕ, Bool, false, Option, None, Some, nat_le, nat_lt}

-- Behind a read that asked for so many bytes and gave so many, of so many packets, reads grow on: where they do, and this one gave
-- all that it was asked for, and was not one of the largest, or came to so many packets that threads pay.
abbrev pub grows_behind : Option ℕ → ℕ → ℕ → ℕ → Bool
grows_behind None bytes read packets = false
grows_behind (Some many) bytes read packets = nat_le bytes read && (nat_lt bytes 8388608 || nat_le many packets)
