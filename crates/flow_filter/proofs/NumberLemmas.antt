-- The number of a packet's interface is read from the key of its flow.
use Rattle.std.proofs.Common.{◌≡◌, ◌≢◌, ◌∙◌, ◌<◌, ◌%◌, ◌^◌, ◌==◌, ℕ, Bool, false, List, Option, Some, None, sym, refl, ap, arith, subst}
use Rattle.std.proofs.lemmas.Bool.{ne_eqb}
use Rattle.std.proofs.lemmas.Option.{same_Some}
use Rattle.std.specs.Option.{ForSome}
use Rattle.std.specs.Prelude.{option_map}
use Rattle.packet_view.specs.Captures.{PacketFacts}
use Rattle.packet_view.specs.Frames as frames
use Rattle.packet_view.specs.Frames.{FrameFacts}
use Rattle.packet_view.specs.Tuples.{TupleFacts}
use Rattle.packet_view.specs.declared.tuple.Family.{Family}
use Rattle.packet_view.specs.declared.tuple.Family.TheVariants.{V4, V6}
use Rattle.acl_policy.specs.Policies.{PolicyFacts, section_of}
use Rattle.bihash_words.specs.Maps.{Event}
use Rattle.session_state.specs.declared.flow_end.End.{End}
use Rattle.session_state.specs.declared.flow.Flow.{Flow}
use Rattle.session_state.specs.declared.timeouts.Timeouts.{Timeouts}
use Rattle.session_state.specs.Flows.{flow_of, key_of, ports_word}
use Rattle.session_state.proofs.FlowLemmas.{flow_told}
use Rattle.flow_filter.specs.Apart.{HasKeyNumber, number_in}
use Rattle.flow_filter.specs.Readings.{IsReading, IsReadingOf, IsSeen, Reading, Ruled, Ruling}
use Rattle.flow_filter.specs.Updates.{Update, update_in, update_of, words_of}

-- the key is of this interface
abbrev pub is_of : ℕ → List ℕ → Bool
is_of interface words = number_in words == interface

number_in_word : (first second : End) (proto number : ℕ) → number < 2 ^ 24
    → ports_word first second proto number % 2 ^ 24 ≡ number
number_in_word first second proto number fits = omega (arith, fits)

number_of_key : (family : Family) (first second : End) (proto number : ℕ) → number < 2 ^ 24
    → number_in (words_of (key_of family first second proto number)) ≡ number
number_of_key V4 first second proto number fits = number_in_word first second proto number fits
number_of_key V6 first second proto number fits = number_in_word first second proto number fits

-- the key of a packet's flow has the number of its interface
number_of_flow : (tuple : TupleFacts) (flow : Flow) → tuple.interface < 2 ^ 24 → flow_of tuple ≡ Some flow
    → number_in (words_of flow.key) ≡ tuple.interface
number_of_flow tuple flow fits is =
    let of = (flow_told tuple flow).0 is in
    ap (λ k. number_in (words_of k)) of.key
    ∙ number_of_key tuple.family of.first of.second tuple.proto tuple.interface fits

number_of_update : (times : Timeouts) (moment : ℕ) (tuple : TupleFacts) (ruling : Ruling) (u : Update)
    → tuple.interface < 2 ^ 24 → update_of times (Ruled moment tuple ruling) ≡ Some u
    → number_in (words_of u.key) ≡ tuple.interface
number_of_update times moment tuple ruling u fits is = go (flow_of tuple) refl
  where
    go : (flow : Option Flow) → flow_of tuple ≡ flow → number_in (words_of u.key) ≡ tuple.interface
    go None none =
        let clash : None ≡ Some u = ap (option_map (update_in times moment tuple ruling)) (sym none) ∙ is in
        let f : ⊥ = cc in absurd f
    go (Some flow) some =
        let same : Some (update_in times moment tuple ruling flow) ≡ Some u =
        ap (option_map (update_in times moment tuple ruling)) (sym some) ∙ is in
        ap (λ (v : Update). number_in (words_of v.key)) (sym (same_Some (update_in times moment tuple ruling flow) u same))
        ∙ number_of_flow tuple flow fits some

number_by_view : (times : Timeouts) (policy : PolicyFacts) (packet : PacketFacts) (view : FrameFacts)
    (reading : Reading) (u : Update) → packet.interface < 2 ^ 24 → IsSeen policy packet view
    → IsReadingOf (section_of packet.interface policy) packet.moment view reading
    → update_of times reading ≡ Some u → number_in (words_of u.key) ≡ packet.interface
number_by_view times policy packet frames.NotIp reading u fits seen of is =
    let clash : None ≡ Some u = ap (update_of times) (sym of) ∙ is in let f : ⊥ = cc in absurd f
number_by_view times policy packet frames.Malformed reading u fits seen of is =
    let clash : None ≡ Some u = ap (update_of times) (sym of) ∙ is in let f : ⊥ = cc in absurd f
number_by_view times policy packet frames.Short reading u fits seen of is =
    let clash : None ≡ Some u = ap (update_of times) (sym of) ∙ is in let f : ⊥ = cc in absurd f
number_by_view times policy packet (frames.Ip direction tuple) reading u fits (source, content, ethernet, way, at)
    (ruling, decides, reads) is =
    number_of_update times packet.moment tuple ruling u (subst (λ n. n < 2 ^ 24) (sym at.0) fits)
    (ap (update_of times) (sym reads) ∙ is)
    ∙ at.0

-- a packet's key is of an interface exactly where the packet is
pub of_interface : (times : Timeouts) (policy : PolicyFacts) (packet : PacketFacts) (reading : Reading) (u : Update)
    (interface : ℕ) → HasKeyNumber packet → IsReading policy packet reading → update_of times reading ≡ Some u
    → is_of interface (words_of u.key) ≡ (packet.interface == interface)
of_interface times policy packet reading u interface fits (view, seen, of) is =
    ap (λ n. n == interface) (number_by_view times policy packet view reading u fits seen of is)

-- a key that is not of the interface
pub unlike : (interface : ℕ) (e : Event) → ForSome e.recycling.removed (λ gone. number_in gone ≢ interface)
    → ForSome e.recycling.removed (λ gone. is_of interface gone ≡ false)
unlike interface e others gone is = ne_eqb (number_in gone) interface (others gone is)
