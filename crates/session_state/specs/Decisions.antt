-- What a packet does to the value that its flow has in the table (this project's profile).
use Rattle.std.specs.Prelude.{true, false, ◌≡◌, ℕ, Bool, nat_le, if◌then◌else◌, Option, Some, None, is_some, option_and_then}
use Rattle.bihash_words.specs.declared.patch.Change.{Change}
use Rattle.bihash_words.specs.declared.patch.Change.TheVariants.{Keep, Set, Remove}
use Rattle.session_state.specs.Sessions.{SessionFacts, IsSession, IsLive, new_session, session_of, session_word, live_until, touched_session}
use Rattle.session_state.specs.declared.packet_patch.PacketPatch.{PacketPatch}
use Rattle.session_state.specs.declared.timeouts.Timeouts.{Timeouts}

-- what is decided of a packet, without what the type of a patch keeps
pub record PatchFacts : Type 0 where
  pub moment : ℕ
  pub side : ℕ
  pub flags : ℕ
  pub tcp : Bool
  pub reflects : Bool
  pub times : Timeouts

abbrev pub patch_facts : PacketPatch → PatchFacts
patch_facts p = record {
  moment = p.moment;
  side = p.side;
  flags = p.flags;
  tcp = p.tcp;
  reflects = p.reflects;
  times = p.times;
}

-- the stored value is the word of a session that is live at the packet's moment
pub record IsLiveFor (packet : PatchFacts) (old : Option ℕ) (session : SessionFacts) : Type 0 where
  pub fits : IsSession session
  pub stored : old ≡ Some (session_word session)
  pub live : IsLive session packet.times packet.moment

-- the session where it is live at the packet's moment
abbrev pub if_live : PatchFacts → SessionFacts → Option SessionFacts
if_live packet session =
    if nat_le packet.moment (live_until session packet.times) then Some session else None

-- the live session of a stored value
abbrev pub live_session : PatchFacts → Option ℕ → Option SessionFacts
live_session packet None = None
live_session packet (Some word) = option_and_then (if_live packet) (session_of word)

-- the stored value is a live session
abbrev pub is_live_for : PatchFacts → Option ℕ → Bool
is_live_for packet old = is_some (live_session packet old)

-- a value that is no live session goes
abbrev pub removal_of : Option ℕ → Change
removal_of None = Keep
removal_of (Some word) = Remove

-- the session with which a packet begins
abbrev pub started_session : PatchFacts → SessionFacts
started_session packet = new_session packet.moment packet.side packet.flags packet.tcp

-- a live session as the packet leaves it
abbrev pub passed_session : PatchFacts → SessionFacts → SessionFacts
passed_session packet session = touched_session session packet.moment packet.side packet.flags

abbrev pub decision_at : PatchFacts → Option ℕ → Option SessionFacts → Change
decision_at packet old (Some session) = Set (session_word (passed_session packet session))
decision_at packet old None =
    if packet.reflects then Set (session_word (started_session packet)) else removal_of old

-- the decision of a packet on the stored value
abbrev pub decision_of : PatchFacts → Option ℕ → Change
decision_of packet old = decision_at packet old (live_session packet old)

-- no session is live for the packet
abbrev pub HasNoneLive : PatchFacts → Option ℕ → Type 0
HasNoneLive packet old = (session : SessionFacts) → IsLiveFor packet old session → ⊥

-- what a packet decides: a live session is touched; else a packet that reflects starts a session;
-- else what is stored goes
pub record IsDecision (packet : PatchFacts) (old : Option ℕ) (change : Change) : Type 0 where
  pub passes : (session : SessionFacts) → IsLiveFor packet old session
      → change ≡ Set (session_word (passed_session packet session))
  pub starts : HasNoneLive packet old → packet.reflects ≡ true
      → change ≡ Set (session_word (started_session packet))
  pub clears : HasNoneLive packet old → packet.reflects ≡ false → change ≡ removal_of old
