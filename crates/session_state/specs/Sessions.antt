-- Sessions, how long they live, and their words (this project's profile).
use Rattle.std.specs.Prelude.{◌≤◌, ◌<◌, ℕ, ◌+◌, ◌*◌, ◌/◌, ◌%◌, ◌^◌, Bool, true, not, ◌&&◌, ◌==◌, nat_le, nat_lt, if◌then◌else◌, Option, Some, None, bit_or, max}
use Rattle.session_state.specs.Flags.{IsKept, kept_flags, syn_and_ack}
use Rattle.session_state.specs.declared.timeouts.Timeouts.{Timeouts}

-- a session: the last moment in seconds, the flags seen of side 0 and of side 1, and whether it is TCP
pub record SessionFacts : Type 0 where
  pub last : ℕ
  pub first_flags : ℕ
  pub second_flags : ℕ
  pub tcp : Bool

-- moments have 32 bits, and no other flags than the kept ones are kept
pub record IsSession (session : SessionFacts) : Type 0 where
  pub moment : session.last < 2 ^ 32
  pub first : IsKept session.first_flags
  pub second : IsKept session.second_flags

-- the flags seen of a side
abbrev pub flags_seen : SessionFacts → ℕ → ℕ
flags_seen session side = if side == 0 then session.first_flags else session.second_flags

-- the session with more flags seen of a side
abbrev pub with_flags : SessionFacts → ℕ → ℕ → SessionFacts
with_flags session side flags =
    if side == 0 then record session { first_flags = bit_or session.first_flags (kept_flags flags) }
    else record session { second_flags = bit_or session.second_flags (kept_flags flags) }

-- the session that a packet of this side and these flags starts
abbrev pub new_session : ℕ → ℕ → ℕ → Bool → SessionFacts
new_session moment side flags tcp =
    with_flags (record { last = moment; first_flags = 0; second_flags = 0; tcp = tcp }) side flags

-- the session after a packet of this side and these flags
abbrev pub touched_session : SessionFacts → ℕ → ℕ → ℕ → SessionFacts
touched_session session moment side flags =
    with_flags (record session { last = max session.last moment }) side flags

-- exactly SYN and ACK were seen on both sides
abbrev pub is_established : SessionFacts → Bool
is_established session =
    (session.first_flags == syn_and_ack) && (session.second_flags == syn_and_ack)

-- how long the session outlives its last moment
abbrev pub timeout_of : SessionFacts → Timeouts → ℕ
timeout_of session times =
    if session.tcp then (if is_established session then times.established else times.transient)
    else times.udp

-- the last second in which the session is live
abbrev pub live_until : SessionFacts → Timeouts → ℕ
live_until session times = session.last + timeout_of session times

-- the session is live at a moment
abbrev pub IsLive : SessionFacts → Timeouts → ℕ → Type 0
IsLive session times moment = moment ≤ live_until session times

-- the word of a session
abbrev pub session_word : SessionFacts → ℕ
session_word session =
    session.last + session.first_flags * 2 ^ 32 + session.second_flags * 2 ^ 40
    + (if session.tcp then 1 else 0) * 2 ^ 48

-- what is at the places of a session in a word
abbrev pub fields_of_word : ℕ → SessionFacts
fields_of_word word = record {
  last = word % 2 ^ 32;
  first_flags = word / 2 ^ 32 % 2 ^ 8;
  second_flags = word / 2 ^ 40 % 2 ^ 8;
  tcp = word / 2 ^ 48 == 1;
}

-- the word is one of a session
abbrev pub is_session_word : ℕ → Bool
is_session_word word =
    let session = fields_of_word word in
    nat_lt (word / 2 ^ 48) 2
    && ((kept_flags session.first_flags == session.first_flags)
    && (kept_flags session.second_flags == session.second_flags))

-- the session of a word, where it has one
abbrev pub session_of : ℕ → Option SessionFacts
session_of word = if is_session_word word then Some (fields_of_word word) else None

-- what is stored has ended by a moment: no session, or one that isn't live then
abbrev pub has_ended : Timeouts → ℕ → Option SessionFacts → Bool
has_ended times moment None = true
has_ended times moment (Some session) = not (nat_le moment (live_until session times))

-- the word counts as expired at a moment: it is no session's, or the session isn't live then
abbrev pub is_expired_at : Timeouts → ℕ → ℕ → Bool
is_expired_at times moment word = has_ended times moment (session_of word)
