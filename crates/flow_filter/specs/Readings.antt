-- What the filter reads in a packet, from its frame, the policy and the rule that decides it (this project's profile).
use Rattle.std.specs.Prelude.{◌≡◌, ℕ, List, Option}
use Rattle.std.specs.List.{AllZip}
use Rattle.packet_view.specs.Captures.{PacketFacts}
use Rattle.packet_view.specs.Frames as frames
use Rattle.packet_view.specs.Frames.{IsFrame, FrameFacts}
use Rattle.packet_view.specs.declared.tuple.Mac.{Mac}
use Rattle.packet_view.specs.Tuples.{TupleFacts}
use Rattle.acl_policy.specs.declared.rule.Action.{Action}
use Rattle.acl_policy.specs.Matching.{IsRuling}
use Rattle.acl_policy.specs.Policies.{PolicyFacts, SectionFacts, rules_of, section_of}
use Rattle.session_state.specs.declared.verdict.Verdict.{Verdict}
use Rattle.session_state.specs.declared.verdict.Verdict.TheVariants as verdict

-- the rule that decides, by its position from 0, and its action; none where no rule matches
abbrev pub Ruling : Type 0
Ruling = Option (ℕ × Action)

-- a packet as the filter sees it: a verdict that its frame alone gives, or its moment, its tuple and the rule that
-- decides it
pub data Reading : Type 0 where
  Framed : Verdict → Reading
  Ruled : ℕ → TupleFacts → Ruling → Reading

-- the reading of a packet whose frame turns out to be this
abbrev pub IsReadingOf : SectionFacts → ℕ → FrameFacts → Reading → Type 0
IsReadingOf section moment frames.NotIp reading = reading ≡ Framed verdict.NotIp
IsReadingOf section moment frames.Malformed reading = reading ≡ Framed verdict.Malformed
IsReadingOf section moment frames.Short reading = reading ≡ Framed verdict.Short
IsReadingOf section moment (frames.Ip direction tuple) reading =
    (ruling : Ruling) × IsRuling (rules_of direction section) tuple ruling × (reading ≡ Ruled moment tuple ruling)

-- what a packet's frame is at its interface, which has this own address
abbrev pub IsSeenAt : Option Mac → PacketFacts → FrameFacts → Type 0
IsSeenAt own packet view = IsFrame packet.frame (record { number = packet.interface; own = own }) view

-- the own address is the one that the policy names for that interface
abbrev pub IsSeen : PolicyFacts → PacketFacts → FrameFacts → Type 0
IsSeen policy packet view = IsSeenAt (section_of packet.interface policy).own packet view

-- each packet goes by the section of its interface
abbrev pub IsReading : PolicyFacts → PacketFacts → Reading → Type 0
IsReading policy packet reading =
    (view : FrameFacts) × IsSeen policy packet view × IsReadingOf (section_of packet.interface policy) packet.moment view reading

-- each packet has its reading
abbrev pub AreReadings : PolicyFacts → List PacketFacts → List Reading → Type 0
AreReadings policy packets readings = AllZip (IsReading policy) packets readings
