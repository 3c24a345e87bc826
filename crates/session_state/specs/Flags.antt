-- The TCP flags that a session keeps. The flags are of RFC 9293, section 3.1; which of them are kept
-- is this project's profile.
use Rattle.std.specs.Prelude.{◌≡◌, ℕ, bit_and}

-- FIN, SYN, RST and ACK
abbrev pub kept_flags : ℕ → ℕ
kept_flags flags = bit_and flags 0x17

-- no other flags than the kept ones
abbrev pub IsKept : ℕ → Type 0
IsKept flags = kept_flags flags ≡ flags

-- SYN and ACK alone, which a side has sent in a connection that is set up and not yet closed
abbrev pub syn_and_ack : ℕ
syn_and_ack = 0x12
