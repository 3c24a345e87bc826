-- Both ends of a packet are read as they are written.
use Rattle.std.proofs.Common.{◌≡◌, ◌∙◌, ℕ, List, ◌∷◌, Option, Some, ap, refl, subst, sym}
use Rattle.std.specs.Prelude.{option_map}
use Rattle.packet_view.specs.declared.tuple.Family.{Family}
use Rattle.packet_view.specs.declared.tuple.Family.TheVariants.{V4, V6}
use Rattle.acl_policy.specs.Prefixes.{IsAddress}
use Rattle.acl_policy.specs.Readers.{IsNumberUpTo, IsReaderOf}
use Rattle.acl_policy.specs.inner.WordReading.Prefixes.{address_in}
use Rattle.acl_policy.specs.inner.WordReading.Traffic.{number_up_to_in}
use Rattle.acl_policy.proofs.OptionLemmas.{bind_some, map_some, same_some}
use Rattle.acl_policy.proofs.PrefixLaws.{address_in-complete, address_in-sound}
use Rattle.packet_questions.specs.Questions.{ArePorts, family_of}
use Rattle.packet_questions.specs.inner.Reading.{Ends, end_in, ends_by, ends_in, ported_in, step}
use Rattle.packet_questions.proofs.StepLaws.{number_read, step-complete, step-sound}

-- the word is an address of this family
abbrev pub IsEndOf : List ℕ → Family × ℕ → Type 0
IsEndOf word end = (family_of word ≡ end.0) × IsAddress end.0 word end.1

pub end_read : IsReaderOf IsEndOf end_in
unfolding end_in
end_read word (family, address) = (
  λ found.
      let at = map_some {B = Family × ℕ} (λ a. (family_of word, a)) (address_in (family_of word) word) (family, address) found in
      subst (IsEndOf word) (sym at.2) (refl, address_in-sound (family_of word) word at.0 at.1),
  λ is.
      let own = subst (λ (f : Family). IsAddress f word address) (sym is.0) is.1 in
      ap (λ (o : Option ℕ). option_map (λ a. (family_of word, a)) o) (address_in-complete (family_of word) word address own)
      ∙ ap (λ (f : Family). Some (f, address)) is.0,
)

-- both are of one family
pub record AreEndsOf (a b : Family × ℕ) (ends : Ends) : Type 0 where
  pub source : a ≡ (ends.family, ends.source)
  pub dest : b ≡ (ends.family, ends.dest)

pub ends_by-sound : (a b : Family × ℕ) (ends : Ends) → ends_by a b ≡ Some ends → AreEndsOf a b ends
ends_by-sound (V4, x) (V4, y) ends found = subst (AreEndsOf (V4, x) (V4, y)) (same_some _ ends found) (record { source = refl; dest = refl })
ends_by-sound (V4, x) (V6, y) ends found = absurd (cc)
ends_by-sound (V6, x) (V4, y) ends found = absurd (cc)
ends_by-sound (V6, x) (V6, y) ends found = subst (AreEndsOf (V6, x) (V6, y)) (same_some _ ends found) (record { source = refl; dest = refl })

of_one_family : (family : Family) (x y : ℕ) → ends_by (family, x) (family, y) ≡ Some (record { family = family; source = x; dest = y })
of_one_family V4 x y = refl
of_one_family V6 x y = refl

pub ends_by-complete : (ends : Ends) → ends_by (ends.family, ends.source) (ends.family, ends.dest) ≡ Some ends
ends_by-complete ends = of_one_family ends.family ends.source ends.dest

pub record AreSpeltEnds (words : List (List ℕ)) (found : Ends × List (List ℕ)) : Type 0 where
  pub source : List ℕ
  pub dest : List ℕ
  pub spelt : words ≡ source ∷ dest ∷ found.1
  pub source_is : IsEndOf source (found.0.family, found.0.source)
  pub dest_is : IsEndOf dest (found.0.family, found.0.dest)

pub ends-sound : (words : List (List ℕ)) (found : Ends × List (List ℕ)) → ends_in words ≡ Some found → AreSpeltEnds words found
unfolding ends_in
ends-sound words found is =
    let a = bind_some (step end_in words) _ found is in
    let b = bind_some (step end_in a.0.1) _ found a.2 in
    let e = map_some {B = Ends × List (List ℕ)} (λ ends. (ends, b.0.1)) (ends_by a.0.0 b.0.0) found b.2 in
    let source = step-sound IsEndOf end_in end_read words a.0 a.1 in
    let dest = step-sound IsEndOf end_in end_read a.0.1 b.0 b.1 in
    let are = ends_by-sound a.0.0 b.0.0 e.0 e.1 in
    subst (AreSpeltEnds words) (sym e.2) (record {
      source = source.word;
      dest = dest.word;
      spelt = source.spelt ∙ ap (λ (ws : List (List ℕ)). source.word ∷ ws) dest.spelt;
      source_is = subst (IsEndOf source.word) are.source source.is;
      dest_is = subst (IsEndOf dest.word) are.dest dest.is;
    })

pub ends-complete : (ends : Ends) (source dest : List ℕ) (rest : List (List ℕ)) → IsEndOf source (ends.family, ends.source) → IsEndOf dest (ends.family, ends.dest)
    → ends_in (source ∷ dest ∷ rest) ≡ Some (ends, rest)
unfolding ends_in
ends-complete ends source dest rest a b =
    rw (
      step-complete IsEndOf end_in end_read source (dest ∷ rest) (ends.family, ends.source) a,
      step-complete IsEndOf end_in end_read dest rest (ends.family, ends.dest) b,
      ends_by-complete ends,
    ) refl

pub record ArePortedEnds (words : List (List ℕ)) (found : (Ends × (ℕ × ℕ)) × List (List ℕ)) : Type 0 where
  pub source : List ℕ
  pub source_port : List ℕ
  pub dest : List ℕ
  pub dest_port : List ℕ
  pub spelt : words ≡ source ∷ source_port ∷ dest ∷ dest_port ∷ found.1
  pub source_is : IsEndOf source (found.0.0.family, found.0.0.source)
  pub dest_is : IsEndOf dest (found.0.0.family, found.0.0.dest)
  pub ports : ArePorts source_port dest_port found.0.1.0 found.0.1.1

pub ported-sound : (words : List (List ℕ)) (found : (Ends × (ℕ × ℕ)) × List (List ℕ)) → ported_in words ≡ Some found → ArePortedEnds words found
unfolding ported_in
ported-sound words found is =
    let a = bind_some (step end_in words) _ found is in
    let from = bind_some (step (number_up_to_in 65535) a.0.1) _ found a.2 in
    let b = bind_some (step end_in from.0.1) _ found from.2 in
    let to = bind_some (step (number_up_to_in 65535) b.0.1) _ found b.2 in
    let e = map_some {B = (Ends × (ℕ × ℕ)) × List (List ℕ)} (λ ends. ((ends, (from.0.0, to.0.0)), to.0.1)) (ends_by a.0.0 b.0.0) found to.2 in
    let source = step-sound IsEndOf end_in end_read words a.0 a.1 in
    let from_is = step-sound (IsNumberUpTo 65535) (number_up_to_in 65535) (number_read 65535) a.0.1 from.0 from.1 in
    let dest = step-sound IsEndOf end_in end_read from.0.1 b.0 b.1 in
    let to_is = step-sound (IsNumberUpTo 65535) (number_up_to_in 65535) (number_read 65535) b.0.1 to.0 to.1 in
    let are = ends_by-sound a.0.0 b.0.0 e.0 e.1 in
    subst (ArePortedEnds words) (sym e.2) (record {
      source = source.word;
      source_port = from_is.word;
      dest = dest.word;
      dest_port = to_is.word;
      spelt = source.spelt ∙ ap (λ (ws : List (List ℕ)). source.word ∷ ws) (from_is.spelt
          ∙ ap (λ (ws : List (List ℕ)). from_is.word ∷ ws) (dest.spelt ∙ ap (λ (ws : List (List ℕ)). dest.word ∷ ws) to_is.spelt));
      source_is = subst (IsEndOf source.word) are.source source.is;
      dest_is = subst (IsEndOf dest.word) are.dest dest.is;
      ports = (from_is.is, to_is.is);
    })

pub ported-complete : (ends : Ends) (from to : ℕ) (source source_port dest dest_port : List ℕ) (rest : List (List ℕ))
    → IsEndOf source (ends.family, ends.source) → IsEndOf dest (ends.family, ends.dest) → ArePorts source_port dest_port from to
    → ported_in (source ∷ source_port ∷ dest ∷ dest_port ∷ rest) ≡ Some ((ends, (from, to)), rest)
unfolding ported_in
ported-complete ends from to source source_port dest dest_port rest a b ports =
    rw (
      step-complete IsEndOf end_in end_read source (source_port ∷ dest ∷ dest_port ∷ rest) (ends.family, ends.source) a,
      step-complete (IsNumberUpTo 65535) (number_up_to_in 65535) (number_read 65535) source_port (dest ∷ dest_port ∷ rest) from ports.0,
      step-complete IsEndOf end_in end_read dest (dest_port ∷ rest) (ends.family, ends.dest) b,
      step-complete (IsNumberUpTo 65535) (number_up_to_in 65535) (number_read 65535) dest_port rest to ports.1,
      ends_by-complete ends,
    ) refl
