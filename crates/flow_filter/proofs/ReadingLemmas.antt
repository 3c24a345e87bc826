-- A packet has one reading.
use Rattle.std.proofs.Common.{◌≡◌, ◌∙◌, ℕ, Option, List, [], ◌∷◌, refl, sym, ap, ap₂, subst}
use Rattle.packet_view.specs.Captures.{PacketFacts}
use Rattle.packet_view.specs.Interfaces.{Interface}
use Rattle.packet_view.specs.declared.tuple.Mac.{Mac}
use Rattle.packet_view.specs.Frames as frames
use Rattle.packet_view.specs.Frames.{FrameFacts}
use Rattle.packet_view.specs.inner.FrameSteps.{view_of}
use Rattle.packet_view.proofs.FrameLemmas.{view_only, view_shown}
use Rattle.acl_policy.specs.Policies.{PolicyFacts, SectionFacts, rules_of, section_of}
use Rattle.acl_policy.proofs.RulingLaws.{some_ruling_of}
use Rattle.acl_policy.proofs.RulingLemmas.{one_ruling}
use Rattle.session_state.specs.declared.verdict.Verdict.TheVariants as verdict
use Rattle.flow_filter.specs.Readings.{AreReadings, Framed, IsReading, IsReadingOf, Reading, Ruled}

some_reading_of : (section : SectionFacts) (moment : ℕ) (view : FrameFacts)
    → (reading : Reading) × IsReadingOf section moment view reading
some_reading_of section moment frames.NotIp = (Framed verdict.NotIp, refl)
some_reading_of section moment frames.Malformed = (Framed verdict.Malformed, refl)
some_reading_of section moment frames.Short = (Framed verdict.Short, refl)
some_reading_of section moment (frames.Ip direction tuple) =
    let (ruling, decides) = some_ruling_of (rules_of direction section) tuple in
    (Ruled moment tuple ruling, (ruling, decides, refl))

abbrev at_own : PacketFacts → Option Mac → Interface
at_own packet own = record { number = packet.interface; own = own }

-- each packet has a reading
pub some_reading : (policy : PolicyFacts) (packet : PacketFacts) → (reading : Reading) × IsReading policy packet reading
some_reading policy packet =
    let section = section_of packet.interface policy in
    let at = at_own packet section.own in
    let (reading, of) = some_reading_of section packet.moment (view_of packet.frame at) in
    (reading, (view_of packet.frame at, view_shown packet.frame at, of))

one_reading_of : (section : SectionFacts) (moment : ℕ) (view : FrameFacts) (a b : Reading)
    → IsReadingOf section moment view a → IsReadingOf section moment view b → a ≡ b
one_reading_of section moment frames.NotIp a b one two = one ∙ sym two
one_reading_of section moment frames.Malformed a b one two = one ∙ sym two
one_reading_of section moment frames.Short a b one two = one ∙ sym two
one_reading_of section moment (frames.Ip direction tuple) a b (ruling, decides, one) (other, decides', two) =
    one ∙ ap (λ d. Ruled moment tuple d)
    (sym (one_ruling (rules_of direction section) tuple ruling other decides decides'))
    ∙ sym two

-- and one
pub one_reading : (policy : PolicyFacts) (packet : PacketFacts) (a b : Reading) → IsReading policy packet a
    → IsReading policy packet b → a ≡ b
one_reading policy packet a b (view, shown, of) (other, shown', of') =
    let section = section_of packet.interface policy in
    let at = at_own packet section.own in
    let same : view ≡ other = view_only packet.frame at view shown ∙ sym (view_only packet.frame at other shown') in
    one_reading_of section packet.moment view a b of (subst (λ v. IsReadingOf section packet.moment v b) (sym same) of')

pub some_readings : (policy : PolicyFacts) (packets : List PacketFacts)
    → (readings : List Reading) × AreReadings policy packets readings
some_readings policy [] = ([], tt)
some_readings policy (packet ∷ packets) =
    let (reading, is) = some_reading policy packet in
    let (readings, are) = some_readings policy packets in
    (reading ∷ readings, (is, are))

pub one_readings : (policy : PolicyFacts) (packets : List PacketFacts) (a b : List Reading)
    → AreReadings policy packets a → AreReadings policy packets b → a ≡ b
one_readings policy [] [] [] one two = refl
one_readings policy [] [] (y ∷ b) one two = absurd two
one_readings policy [] (x ∷ a) b one two = absurd one
one_readings policy (packet ∷ packets) [] b one two = absurd one
one_readings policy (packet ∷ packets) (x ∷ a) [] one two = absurd two
one_readings policy (packet ∷ packets) (x ∷ a) (y ∷ b) one two =
    ap₂ (λ h t. h ∷ t) (one_reading policy packet x y one.0 two.0) (one_readings policy packets a b one.1 two.1)
