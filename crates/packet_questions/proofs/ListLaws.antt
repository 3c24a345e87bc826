-- The packets that texts write, one text more at a time.
use Rattle.std.proofs.Common.{◌≡◌, ◌∙◌, ◌+◌, ◌-◌, ◌++◌, ◌==◌, ℕ, suc, true, false, List, [], ◌∷◌, ap, arith, drop, get_or, length, map, refl, subst, sym, take}
use Rattle.std.specs.Borrow.{Bor}
use Rattle.std.proofs.lemmas.Bool.{eqb-true}
use Rattle.acl_policy.specs.Words.{words_of}
use Rattle.packet_questions.specs.Asks.{texts}
use Rattle.packet_questions.specs.declared.asked_packets.AskedPacket.{AskedPacket}
use Rattle.std.specs.Prelude.{All}
use Rattle.std.proofs.lemmas.List.{append-nil, append_assoc, length-append, map-append}
use Rattle.std.proofs.lemmas.List.Elements.{All-append, All-cons, All-nil}
use Rattle.packet_view.specs.Frames.{IsFrame}
use Rattle.acl_policy.specs.Policies.{PolicyFacts, section_of}
use Rattle.packet_questions.specs.Answers.{AreAsked, AskedFacts, IsFaultAt, IsSeenAsked, IsTextFault, IsUnseen, IsWrong, asked_facts, words_of_each}
use Rattle.packet_questions.specs.Forms.{form_in}
use Rattle.packet_questions.specs.declared.question_fault.QuestionFault.{QuestionFault}
use Rattle.packet_questions.specs.declared.question_fault.QuestionFault.TheVariants.{NoWayOut, Run, Wrong}
use Rattle.packet_questions.specs.Frames.{frame_bytes, seen_facts}
use Rattle.packet_questions.specs.Questions.{AreQuestions, IsQuestion, QuestionFacts}
use Rattle.packet_questions.proofs.QuestionLaws.{one_question}

abbrev pub questions : List AskedFacts → List QuestionFacts
questions asked = map (λ a. a.question) asked

-- These are the packets of the texts in front of the rest, and the last of them is seen in this second.
pub record HaveCome (policy : PolicyFacts) (all : List (List (List ℕ))) (asked : List AskedFacts) (before : ℕ) (rest : List (List (List ℕ))) : Type 0 where
  pub front : List (List (List ℕ))
  pub spelt : all ≡ front ++ rest
  pub counted : length front ≡ length asked
  pub left : (texts : List (List (List ℕ))) (more : List QuestionFacts) → AreQuestions before texts more → AreQuestions 0 (front ++ texts) (questions asked ++ more)
  pub only : (texts : List (List (List ℕ))) (all : List QuestionFacts) → AreQuestions 0 (front ++ texts) all → (more : List QuestionFacts) × AreQuestions before texts more
  pub seen : All (IsSeenAsked policy) asked

pub begins : (policy : PolicyFacts) (all : List (List (List ℕ))) → HaveCome policy all [] 0 all
begins policy all = record {
  front = [];
  spelt = refl;
  counted = refl;
  left = λ texts more are. are;
  only = λ texts found are. (found, are);
  seen = All-nil (IsSeenAsked policy);
}

next_only : (before : ℕ) (words : List (List ℕ)) (texts : List (List (List ℕ))) (q : QuestionFacts) (all : List QuestionFacts)
    → ((other : QuestionFacts) → IsQuestion before words other → other ≡ q) → AreQuestions before (words ∷ texts) all
    → (more : List QuestionFacts) × AreQuestions q.moment texts more
next_only before words texts q [] one are = absurd are
next_only before words texts q (other ∷ more) one are = (more, subst (λ (r : QuestionFacts). AreQuestions r.moment texts more) (one other are.0) are.1)

pub goes_on : (policy : PolicyFacts) (all : List (List (List ℕ))) (asked : List AskedFacts) (before : ℕ) (words : List (List ℕ)) (rest : List (List (List ℕ))) (a : AskedFacts)
    → HaveCome policy all asked before (words ∷ rest) → IsQuestion before words a.question → ((other : QuestionFacts) → IsQuestion before words other → other ≡ a.question)
    → IsSeenAsked policy a → HaveCome policy all (asked ++ a ∷ []) a.question.moment rest
goes_on policy all asked before words rest a c is one seen = record {
  front = c.front ++ words ∷ [];
  spelt = c.spelt ∙ sym (append_assoc c.front (words ∷ []) rest);
  counted = let x = length-append c.front (words ∷ []) in let y = length-append asked (a ∷ []) in let z = c.counted in omega arith;
  left = λ texts more are.
      let both : questions asked ++ a.question ∷ more ≡ questions (asked ++ a ∷ []) ++ more =
      sym (append_assoc (questions asked) (a.question ∷ []) more)
      ∙ ap (λ (qs : List QuestionFacts). qs ++ more) (sym (map-append (λ (b : AskedFacts). b.question) asked (a ∷ []))) in
      subst (λ (qs : List QuestionFacts). AreQuestions 0 ((c.front ++ words ∷ []) ++ texts) qs) both
      (subst (λ (ts : List (List (List ℕ))). AreQuestions 0 ts (questions asked ++ a.question ∷ more)) (sym (append_assoc c.front (words ∷ []) texts))
      (c.left (words ∷ texts) (a.question ∷ more) (is, are)));
  only = λ texts found are.
      let more = c.only (words ∷ texts) found (subst (λ (ts : List (List (List ℕ))). AreQuestions 0 ts found) (append_assoc c.front (words ∷ []) texts) are) in
      next_only before words texts a.question more.0 one more.1;
  seen = All-append (IsSeenAsked policy) asked (a ∷ []) c.seen (All-cons (IsSeenAsked policy) a [] seen (All-nil (IsSeenAsked policy)));
}

-- the packet that the next text writes comes to those so far
pub goes_on_by : (policy : PolicyFacts) (all : List (List (List ℕ))) (asked : List AskedFacts) (before : ℕ) (words : List (List ℕ)) (rest : List (List (List ℕ))) (a : AskedFacts)
    → HaveCome policy all asked before (words ∷ rest) → IsQuestion before words a.question × IsSeenAsked policy a → HaveCome policy all (asked ++ a ∷ []) a.question.moment rest
goes_on_by policy all asked before words rest a c is =
    goes_on policy all asked before words rest a c is.0 (λ other also. one_question before words a.question other is.0 also) is.1

pub comes_to_end : (policy : PolicyFacts) (all : List (List (List ℕ))) (asked : List AskedFacts) (before : ℕ) → HaveCome policy all asked before [] → AreAsked policy all asked
comes_to_end policy all asked before c = record {
  written = subst (λ (ts : List (List (List ℕ))). AreQuestions 0 ts (questions asked)) (sym c.spelt)
      (subst (λ (qs : List QuestionFacts). AreQuestions 0 (c.front ++ []) qs) (append-nil (questions asked)) (c.left [] [] tt));
  seen = c.seen;
}

none_first : (before : ℕ) (words : List (List ℕ)) (all : List QuestionFacts) → ((q : QuestionFacts) → IsQuestion before words q → ⊥) → AreQuestions before (words ∷ []) all → ⊥
none_first before words [] none are = are
none_first before words (q ∷ more) none are = none q are.0

pub is_wrong : (policy : PolicyFacts) (all : List (List (List ℕ))) (asked : List AskedFacts) (before : ℕ) (words : List (List ℕ)) (rest : List (List (List ℕ))) (number : ℕ)
    → HaveCome policy all asked before (words ∷ rest) → ((q : QuestionFacts) → IsQuestion before words q → ⊥) → number ≡ length asked + 1
    → (wrong : IsWrong all number) × (wrong.words ≡ words)
is_wrong policy all asked before words rest number c none counted = (
  record {
    front = c.front;
    words = words;
    rest = rest;
    spelt = c.spelt;
    counted = counted ∙ ap (λ n. n + 1) (sym c.counted);
    before = questions asked;
    right = subst (λ (ts : List (List (List ℕ))). AreQuestions 0 ts (questions asked)) (append-nil c.front)
        (subst (λ (qs : List QuestionFacts). AreQuestions 0 (c.front ++ []) qs) (append-nil (questions asked)) (c.left [] [] tt));
    none = λ found are. let more = c.only (words ∷ []) found are in none_first before words more.0 none more.1;
  },
  refl,
)

pub is_unseen : (policy : PolicyFacts) (all : List (List (List ℕ))) (asked : List AskedFacts) (before : ℕ) (words : List (List ℕ)) (rest : List (List (List ℕ))) (number : ℕ) (q : QuestionFacts)
    → HaveCome policy all asked before (words ∷ rest) → IsQuestion before words q → number ≡ length asked + 1
    → (IsFrame (frame_bytes (section_of q.tuple.interface policy).own q) (record { number = q.tuple.interface; own = (section_of q.tuple.interface policy).own }) (seen_facts q) → ⊥)
    → IsUnseen policy all number q.tuple.interface
is_unseen policy all asked before words rest number q c is counted unseen = record {
  front = c.front;
  words = words;
  rest = rest;
  spelt = c.spelt;
  counted = counted ∙ ap (λ n. n + 1) (sym c.counted);
  before = questions asked;
  question = q;
  right = c.left (words ∷ []) (q ∷ []) (is, tt);
  place = refl;
  unseen = unseen;
}

-- a fault of the next text is one of the texts
pub is_fault : (policy : PolicyFacts) (all : List (List (List ℕ))) (asked : List AskedFacts) (before : ℕ) (words : List (List ℕ)) (rest : List (List (List ℕ))) (number : ℕ)
    (fault : QuestionFault) → HaveCome policy all asked before (words ∷ rest) → number ≡ length asked + 1 → IsFaultAt policy before number words fault
    → IsTextFault policy all fault
is_fault policy all asked before words rest number (Wrong n form) c counted (same, shape, none) =
    let wrong = is_wrong policy all asked before words rest n c none (same ∙ counted) in
    (wrong.0, shape ∙ ap form_in (sym wrong.1))
is_fault policy all asked before words rest number (NoWayOut n interface) c counted (same, q, is, place, unseen) =
    subst (λ (i : ℕ). IsUnseen policy all n i) (sym place) (is_unseen policy all asked before words rest n q c is (same ∙ counted) unseen)
is_fault policy all asked before words rest number (Run fault) c counted memory = memory

-- ---- texts in memory

whole : (rest : List (Bor (List ℕ))) → take (length rest) rest ≡ rest
whole [] = refl
whole (t ∷ ts) = ap (λ (us : List (Bor (List ℕ))). t ∷ us) (whole ts)

-- the words of the first text, and those of the others
pub front_text : (rest : List (Bor (List ℕ))) (d : Bor (List ℕ)) → false ≡ (length rest == 0)
    → words_of_each (texts rest) ≡ words_of (get_or rest 0 d).now ∷ words_of_each (texts (take (length rest - 1) (drop 1 rest)))
front_text [] d some = absurd (cc)
front_text (t ∷ ts) d some =
    let less : length (t ∷ ts) - 1 ≡ length ts = omega arith in
    sym (ap (λ (n : ℕ). words_of t.now ∷ words_of_each (texts (take n ts))) less
    ∙ ap (λ (us : List (Bor (List ℕ))). words_of t.now ∷ words_of_each (texts us)) (whole ts))

pub no_text : (rest : List (Bor (List ℕ))) → true ≡ (length rest == 0) → words_of_each (texts rest) ≡ []
no_text [] none = refl
no_text (t ∷ ts) none = let bad : length (t ∷ ts) ≡ 0 = eqb-true (length (t ∷ ts)) 0 (sym none) in absurd (omega (arith, bad))

pub same_length : (asked : List AskedPacket) → length (map asked_facts asked) ≡ length asked
same_length [] = refl
same_length (a ∷ asked) = ap suc (same_length asked)
