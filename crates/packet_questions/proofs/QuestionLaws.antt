-- A packet's words are read as they are written.
use Rattle.std.proofs.Common.{◌≡◌, ◌∙◌, ℕ, List, ◌∷◌, Option, Some, None, ap, inl, inr, lit≤, refl, subst, sym}
use Rattle.std.specs.Prelude.{IfSome, codes, option_map}
use Rattle.packet_view.specs.Tuples.{TupleFacts}
use Rattle.packet_view.specs.declared.tuple.Direction.{Direction}
use Rattle.acl_policy.specs.Numerals.{IsOctet}
use Rattle.acl_policy.specs.Readers.{IsReaderOf}
use Rattle.acl_policy.specs.inner.WordReading.{next_in}
use Rattle.acl_policy.specs.inner.WordReading.Numerals.{octet_in}
use Rattle.acl_policy.specs.inner.WordReading.Traffic.{after_in}
use Rattle.acl_policy.proofs.NumeralLaws.{Lacks-AllDigits, bytes_eq-Lacks, octet_in-complete, octet_in-sound}
use Rattle.acl_policy.proofs.OptionLemmas.{bind_some, map_some, next_in-some, same_some}
use Rattle.acl_policy.specs.Lines.{direction_word}
use Rattle.acl_policy.specs.inner.Reading.Lines.{direction_in}
use Rattle.acl_policy.proofs.LineLaws.{direction_in-complete, direction_in-sound}
use Rattle.packet_questions.specs.Questions.{IsCarried, IsPlaced, IsQuestion, IsSecond, QuestionFacts, question_facts}
use Rattle.packet_questions.specs.declared.question_words.Question.{Question}
use Rattle.packet_questions.specs.inner.Reading.{carried_in, place_by, place_in, question_in, second_in, seen_in, step, timed_by}
use Rattle.packet_questions.proofs.CarriedLaws.{carried-complete, carried-sound, not_if}
use Rattle.packet_questions.proofs.StepLaws.{after-complete, after-other, after-sound, second-complete, second-sound, step-complete, step-sound}

octet_read : IsReaderOf IsOctet octet_in
octet_read word n = (λ found. octet_in-sound word n found, λ is. octet_in-complete word n is)

direction_read : IsReaderOf (λ (word : List ℕ) (direction : Direction). word ≡ direction_word direction) direction_in
direction_read word direction = (λ found. direction_in-sound word direction found, λ is. ap direction_in is ∙ direction_in-complete direction)

-- what stands behind the interface, and which that is
data IsPlace (words : List (List ℕ)) (place : ℕ × List (List ℕ)) : Type 0 where
  Unnamed : words ≡ place.1 → place.0 ≡ 0 → IsPlace words place
  Numbered : (number : List ℕ) → words ≡ codes "if" ∷ number ∷ place.1 → IsOctet number place.0 → IsPlace words place

place-sound : (words : List (List ℕ)) (place : ℕ × List (List ℕ)) → place_in words ≡ Some place → IsPlace words place
unfolding place_in
place-sound words place found = go (after_in (codes "if") words) refl found
  where
    go : (behind : Option (List (List ℕ))) → after_in (codes "if") words ≡ behind → place_by words behind ≡ Some place → IsPlace words place
    go None none is = let same = same_some (0, words) place is in Unnamed (ap (λ (p : ℕ × List (List ℕ)). p.1) same) (sym (ap (λ (p : ℕ × List (List ℕ)). p.0) same))
    go (Some rest) some is =
        let s = step-sound IsOctet octet_in octet_read rest place is in
        Numbered s.word (after-sound (codes "if") words rest some ∙ ap (λ (ws : List (List ℕ)). codes "if" ∷ ws) s.spelt) s.is

carried_next-sound : (interface : ℕ) (words : List (List ℕ)) (t : TupleFacts) → carried_in interface words ≡ Some t
    → (word : List ℕ) × (rest : List (List ℕ)) × (words ≡ word ∷ rest) × IsCarried word rest t × (t.interface ≡ interface)
unfolding carried_in
carried_next-sound interface words t found =
    let next = bind_some (next_in words) _ t found in
    let is = carried-sound interface next.0.0 next.0.1 t next.2 in
    (next.0.0, next.0.1, next_in-some words next.0.0 next.0.1 next.1, is.0, is.1)

seen-sound : (moment : ℕ) (direction : Direction) (words : List (List ℕ)) (q : QuestionFacts) → seen_in moment direction words ≡ Some q
    → IsPlaced words q.tuple × (q.moment ≡ moment) × (q.direction ≡ direction)
unfolding seen_in
seen-sound moment direction words q found =
    let place = bind_some (place_in words) _ q found in
    let tuple = map_some {B = QuestionFacts} (λ t. record { moment = moment; direction = direction; tuple = t }) (carried_in place.0.0 place.0.1) q place.2 in
    let c = carried_next-sound place.0.0 place.0.1 tuple.0 tuple.1 in
    let placed : IsPlaced words tuple.0 = elim (place-sound words place.0 place.1) [
      | Unnamed same zero ↦ (c.0, c.1, c.3, inl (same ∙ c.2, c.4 ∙ zero))
      | Numbered number spelt octet ↦ (c.0, c.1, c.3, inr (number, spelt ∙ ap (λ (ws : List (List ℕ)). codes "if" ∷ number ∷ ws) c.2, subst (IsOctet number) (sym c.4) octet))
    ] in
    subst (λ (r : QuestionFacts). IsPlaced words r.tuple × (r.moment ≡ moment) × (r.direction ≡ direction)) (sym tuple.2) (placed, refl, refl)

carried_next-complete : (interface : ℕ) (word : List ℕ) (rest : List (List ℕ)) (t : TupleFacts) → IsCarried word rest t → t.interface ≡ interface
    → carried_in interface (word ∷ rest) ≡ Some t
unfolding carried_in
carried_next-complete interface word rest t is place = carried-complete interface word rest t is place

seen-complete : (words : List (List ℕ)) (q : QuestionFacts) → IsPlaced words q.tuple → seen_in q.moment q.direction words ≡ Some q
unfolding seen_in place_in
seen-complete words q (word, rest, carried, inl (spelt, zero)) =
    rw (spelt, after-other (codes "if") word rest (not_if word rest q.tuple carried), carried_next-complete 0 word rest q.tuple carried zero) refl
seen-complete words q (word, rest, carried, inr (number, spelt, octet)) =
    rw (
      spelt,
      after-complete (codes "if") (number ∷ word ∷ rest),
      step-complete IsOctet octet_in octet_read number (word ∷ rest) q.tuple.interface octet,
      carried_next-complete q.tuple.interface word rest q.tuple carried refl,
    ) refl

-- a second isn't a direction
second_not_way : (word : List ℕ) (second : ℕ) → IsSecond word second → direction_in word ≡ None
second_not_way word second is =
    let way = bytes_eq-Lacks 105 word (codes "in") (Lacks-AllDigits 10 105 word (lit≤ tt) is.0.0.1) (λ lacks. absurd (cc (lacks.0))) in
    let other = bytes_eq-Lacks 111 word (codes "out") (Lacks-AllDigits 10 111 word (lit≤ tt) is.0.0.1) (λ lacks. absurd (cc (lacks.0))) in
    rw (way, other) refl

pub question-sound : (before : ℕ) (words : List (List ℕ)) (q : QuestionFacts) → question_in before words ≡ Some q → IsQuestion before words q
unfolding question_in
question-sound before words q found =
    let next = bind_some (next_in words) _ q found in
    let spelt = next_in-some words next.0.0 next.0.1 next.1 in
    go next.0.0 next.0.1 spelt (direction_in next.0.0) refl next.2
  where
    go : (word : List ℕ) (rest : List (List ℕ)) → words ≡ word ∷ rest → (way : Option Direction) → direction_in word ≡ way
        → timed_by before word rest way ≡ Some q → IsQuestion before words q
    go word rest spelt (Some direction) way is =
        let seen = seen-sound before direction rest q is in
        (rest, seen.0, inl (spelt ∙ ap (λ (w : List ℕ). w ∷ rest) (direction_in-sound word direction way ∙ ap direction_word (sym seen.2)), seen.1))
    go word rest spelt None none is =
        let second = bind_some (second_in word) _ q is in
        let way = bind_some (step direction_in rest) _ q second.2 in
        let s = step-sound (λ (w : List ℕ) (direction : Direction). w ≡ direction_word direction) direction_in direction_read rest way.0 way.1 in
        let seen = seen-sound second.0 way.0.0 way.0.1 q way.2 in (
          way.0.1,
          seen.0,
          inr (
            word,
            spelt ∙ ap (λ (ws : List (List ℕ)). word ∷ ws) (s.spelt ∙ ap (λ (w : List ℕ). w ∷ way.0.1) (s.is ∙ ap direction_word (sym seen.2))),
            subst (IsSecond word) (sym seen.1) (second-sound word second.0 second.1),
          ),
        )

pub question-complete : (before : ℕ) (words : List (List ℕ)) (q : QuestionFacts) → IsQuestion before words q → question_in before words ≡ Some q
unfolding question_in
question-complete before words q (rest, placed, inl (spelt, moment)) =
    rw (spelt, direction_in-complete q.direction, ← moment) (seen-complete rest q placed)
question-complete before words q (rest, placed, inr (second, spelt, is)) =
    rw (
      spelt,
      second_not_way second q.moment is,
      second-complete second q.moment is,
      direction_in-complete q.direction,
    ) (seen-complete rest q placed)

pub question_found : (before : ℕ) (words : List (List ℕ)) (found : Option Question) → option_map question_facts found ≡ question_in before words
    → IfSome found (λ q. IsQuestion before words (question_facts q))
question_found before words None e = tt
question_found before words (Some q) e = question-sound before words (question_facts q) (sym e)

-- words write one packet at most
pub one_question : (before : ℕ) (words : List (List ℕ)) (q other : QuestionFacts) → IsQuestion before words q → IsQuestion before words other → other ≡ q
one_question before words q other is also =
    same_some other q (sym (question-complete before words other also) ∙ question-complete before words q is)
