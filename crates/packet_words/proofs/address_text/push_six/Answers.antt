use Rattle.std.proofs.Common.{◌≡◌, false, [], ◌∷◌, take, bytes_eq, refl, arith}
use Rattle.std.proofs.lemmas.Slice.Eq.{bytes_eq-Decides}
use Rattle.std.specs.Net.Addr.{ipv6_segments}
use Rattle.std.specs.Net.Text.{ipv6_text}
use Rattle.packet_words.proofs.TextLemmas.{behind}
use Rattle.packet_words.proofs.address_text.push_six.Goals as goal

pub returns-in-Some-clause-text : goal.returns-in-Some-clause-text
unfolding ipv6_text
returns-in-Some-clause-text c =
    let mapped = (bytes_eq-Decides _ _).1 (c.in-Some.ensures.found.0 refl) in
    rw (mapped, ← c.in-Some.ensures.value, ← c.octets.ensures) (behind _ _ _ _ _ c.push.ensures c.push_dotted.ensures.text)

pub returns-in-None-clause-text : goal.returns-in-None-clause-text
unfolding ipv6_text
returns-in-None-clause-text c =
    let other : bytes_eq (take 6 (ipv6_segments c.args.address)) (0 ∷ 0 ∷ 0 ∷ 0 ∷ 0 ∷ 0xffff ∷ []) ≡ false =
    grind (arith, bytes_eq-Decides (take 6 (ipv6_segments c.args.address)) (0 ∷ 0 ∷ 0 ∷ 0 ∷ 0 ∷ 0xffff ∷ []), c.in-None.ensures.found) in
    rw (other, ← c.segments.ensures) c.push_shortened.ensures.text
