-- Sections one after another, with one line more.
use Rattle.std.proofs.Common.{◌≡◌, ◌∙◌, ◌⊎◌, ℕ, ◌==◌, ◌||◌, false, true, List, [], ◌∷◌, ◌++◌, refl, sym, ap, subst, arith, inl, inr}
use Rattle.std.proofs.lemmas.Bool.{cases_Bool, eq-eqb, eqb-true}
use Rattle.std.proofs.lemmas.List.{append-nil, append_assoc}
use Rattle.acl_policy.specs.Lines.{Begins, IsLine}
use Rattle.acl_policy.specs.Policies.{AreAllSections, AreDistinct, AreLinesOf, AreSections, IsAmong, SayPolicy, SectionFacts, empty_section, numbers_of}
use Rattle.acl_policy.specs.inner.Reading.Policies.{is_among}

-- ---- numbers that differ

pub among_true : (n : ℕ) (ns : List ℕ) → is_among n ns ≡ true → IsAmong n ns
among_true n [] is = absurd (cc)
among_true n (m ∷ ms) is = elim (cases_Bool (n == m)) [
  | inl same ↦ inl (eqb-true n m same)
  | inr differ ↦ inr (among_true n ms (rw differ at is))
]

pub among_false : (n : ℕ) (ns : List ℕ) → is_among n ns ≡ false → IsAmong n ns → ⊥
among_false n [] none is = is
among_false n (m ∷ ms) none (inl same) =
    let found = eq-eqb n m same in
    let f = rw found at none in
    cc
among_false n (m ∷ ms) none (inr there) = elim (cases_Bool (n == m)) [
  | inl same ↦ let f = rw same at none in cc
  | inr differ ↦ among_false n ms (rw differ at none) there
]

pub among_front : (n : ℕ) (ns ms : List ℕ) → IsAmong n ns → IsAmong n (ns ++ ms)
among_front n [] ms is = absurd is
among_front n (x ∷ xs) ms (inl same) = inl same
among_front n (x ∷ xs) ms (inr there) = inr (among_front n xs ms there)

among_last : (n : ℕ) (ns : List ℕ) (m : ℕ) → IsAmong n (ns ++ m ∷ []) → IsAmong n ns ⊎ (n ≡ m)
among_last n [] m (inl same) = inr same
among_last n [] m (inr there) = absurd there
among_last n (x ∷ xs) m (inl same) = inl (inl same)
among_last n (x ∷ xs) m (inr there) = elim (among_last n xs m there) [
  | inl front ↦ inl (inr front)
  | inr last ↦ inr last
]

distinct_more : (ns : List ℕ) (n : ℕ) → AreDistinct ns → (IsAmong n ns → ⊥) → AreDistinct (ns ++ n ∷ [])
distinct_more [] n one none = ((λ is. is), tt)
distinct_more (m ∷ ms) n one none = (
  (λ is. elim (among_last m ms n is) [
    | inl front ↦ one.0 front
    | inr last ↦ none (inl (sym last))
  ]),
  distinct_more ms n one.1 (λ is. none (inr is)),
)

numbers_more : (sections : List SectionFacts) (section : SectionFacts)
    → numbers_of (sections ++ section ∷ []) ≡ numbers_of sections ++ section.interface ∷ []
numbers_more [] section = refl
numbers_more (s ∷ ss) section = ap (λ (ns : List ℕ). s.interface ∷ ns) (numbers_more ss section)

-- a number stands where it follows others
pub among_behind : (front : List SectionFacts) (next : SectionFacts) (others : List SectionFacts) (number : ℕ) → number ≡ next.interface
    → IsAmong number (numbers_of (front ++ next ∷ others))
among_behind [] next others number same = inl same
among_behind (s ∷ ss) next others number same = inr (among_behind ss next others number same)

-- ---- one line more

pub no_lines : (number : ℕ) → AreLinesOf [] (empty_section number)
no_lines number = record {
  readings = [];
  lines = tt;
  one = refl;
  own = refl;
  inbound = refl;
  outbound = refl;
  inbound_fits = omega arith;
  outbound_fits = omega arith;
}

-- what a line makes of the section to which it belongs
abbrev Grows : List ℕ → SectionFacts → SectionFacts → Type 0
Grows line section next = (lines : List (List ℕ)) → AreLinesOf lines section → AreLinesOf (lines ++ line ∷ []) next

sections_grown : (done : List SectionFacts) (texts : List (List ℕ)) (line : List ℕ) (section next : SectionFacts)
    → next.interface ≡ section.interface → Grows line section next
    → AreSections texts (done ++ section ∷ []) → AreSections (texts ++ line ∷ []) (done ++ next ∷ [])
sections_grown [] texts line section next same grows (heading, lines, rest, split, is, of, end) = (
  heading,
  lines ++ line ∷ [],
  [],
  ap (λ (ls : List (List ℕ)). ls ++ line ∷ []) split
      ∙ ap (λ (ls : List (List ℕ)). heading ∷ ((lines ++ ls) ++ line ∷ [])) end
      ∙ ap (λ (ls : List (List ℕ)). heading ∷ (ls ++ line ∷ [])) (append-nil lines)
      ∙ ap (λ (ls : List (List ℕ)). heading ∷ ls) (sym (append-nil (lines ++ line ∷ []))),
  subst (λ (n : ℕ). IsLine heading (Begins n)) (sym same) is,
  grows lines of,
  refl,
)
sections_grown (d ∷ done) texts line section next same grows (heading, lines, rest, split, is, of, more) = (
  heading,
  lines,
  rest ++ line ∷ [],
  ap (λ (ls : List (List ℕ)). ls ++ line ∷ []) split
      ∙ ap (λ (ls : List (List ℕ)). heading ∷ ls) (append_assoc lines rest (line ∷ [])),
  is,
  of,
  sections_grown done rest line section next same grows more,
)

all_grown : (done : List SectionFacts) (texts : List (List ℕ)) (line : List ℕ) (section next : SectionFacts)
    → next.interface ≡ section.interface → Grows line section next
    → AreAllSections texts (done ++ section ∷ []) → AreAllSections (texts ++ line ∷ []) (done ++ next ∷ [])
all_grown [] texts line section next same grows (lines, rest, split, first, of, end) = (
  lines ++ line ∷ [],
  [],
  ap (λ (ls : List (List ℕ)). ls ++ line ∷ []) split
      ∙ ap (λ (ls : List (List ℕ)). (lines ++ ls) ++ line ∷ []) end
      ∙ ap (λ (ls : List (List ℕ)). ls ++ line ∷ []) (append-nil lines)
      ∙ sym (append-nil (lines ++ line ∷ [])),
  same ∙ first,
  grows lines of,
  refl,
)
all_grown (d ∷ done) texts line section next same grows (lines, rest, split, first, of, more) = (
  lines,
  rest ++ line ∷ [],
  ap (λ (ls : List (List ℕ)). ls ++ line ∷ []) split ∙ append_assoc lines rest (line ∷ []),
  first,
  of,
  sections_grown done rest line section next same grows more,
)

pub grown : (texts : List (List ℕ)) (line : List ℕ) (done : List SectionFacts) (section next : SectionFacts)
    → next.interface ≡ section.interface → Grows line section next
    → SayPolicy texts (record { sections = done ++ section ∷ [] })
    → SayPolicy (texts ++ line ∷ []) (record { sections = done ++ next ∷ [] })
grown texts line done section next same grows says = record {
  sections = all_grown done texts line section next same grows says.sections;
  once = subst AreDistinct
      (numbers_more done section ∙ ap (λ (n : ℕ). numbers_of done ++ n ∷ []) (sym same) ∙ sym (numbers_more done next))
      says.once;
}

-- ---- one section more

sections_begun : (sections : List SectionFacts) (texts : List (List ℕ)) (line : List ℕ) (number : ℕ)
    → IsLine line (Begins number) → AreSections texts sections
    → AreSections (texts ++ line ∷ []) (sections ++ empty_section number ∷ [])
sections_begun [] texts line number is end =
    (line, [], [], ap (λ (ls : List (List ℕ)). ls ++ line ∷ []) end, is, no_lines number, refl)
sections_begun (s ∷ ss) texts line number is (heading, lines, rest, split, begins, of, more) = (
  heading,
  lines,
  rest ++ line ∷ [],
  ap (λ (ls : List (List ℕ)). ls ++ line ∷ []) split
      ∙ ap (λ (ls : List (List ℕ)). heading ∷ ls) (append_assoc lines rest (line ∷ [])),
  begins,
  of,
  sections_begun ss rest line number is more,
)

all_begun : (sections : List SectionFacts) (texts : List (List ℕ)) (line : List ℕ) (number : ℕ)
    → IsLine line (Begins number) → AreAllSections texts sections
    → AreAllSections (texts ++ line ∷ []) (sections ++ empty_section number ∷ [])
all_begun [] texts line number is none = absurd none
all_begun (s ∷ ss) texts line number is (lines, rest, split, first, of, more) = (
  lines,
  rest ++ line ∷ [],
  ap (λ (ls : List (List ℕ)). ls ++ line ∷ []) split ∙ append_assoc lines rest (line ∷ []),
  first,
  of,
  sections_begun ss rest line number is more,
)

pub begun_after : (texts : List (List ℕ)) (line : List ℕ) (sections : List SectionFacts) (number : ℕ)
    → IsLine line (Begins number) → (IsAmong number (numbers_of sections) → ⊥)
    → SayPolicy texts (record { sections = sections })
    → SayPolicy (texts ++ line ∷ []) (record { sections = sections ++ empty_section number ∷ [] })
begun_after texts line sections number is first says = record {
  sections = all_begun sections texts line number is says.sections;
  once = subst AreDistinct (sym (numbers_more sections (empty_section number)))
      (distinct_more (numbers_of sections) number says.once first);
}

-- ---- the section to which further lines belong

sections_last : (done : List SectionFacts) (section : SectionFacts) (texts : List (List ℕ))
    → AreSections texts (done ++ section ∷ []) → (lines : List (List ℕ)) × AreLinesOf lines section
sections_last [] section texts (heading, lines, rest, split, is, of, end) = (lines, of)
sections_last (d ∷ done) section texts (heading, lines, rest, split, is, of, more) = sections_last done section rest more

all_last : (done : List SectionFacts) (section : SectionFacts) (texts : List (List ℕ))
    → AreAllSections texts (done ++ section ∷ []) → (lines : List (List ℕ)) × AreLinesOf lines section
all_last [] section texts (lines, rest, split, first, of, end) = (lines, of)
all_last (d ∷ done) section texts (lines, rest, split, first, of, more) = sections_last done section rest more

pub last_says : (texts : List (List ℕ)) (done : List SectionFacts) (section : SectionFacts)
    → SayPolicy texts (record { sections = done ++ section ∷ [] }) → (lines : List (List ℕ)) × AreLinesOf lines section
last_says texts done section says = all_last done section texts says.sections

-- ---- the test for a section

pub among_more : (n : ℕ) (sections : List SectionFacts) (section : SectionFacts)
    → is_among n (numbers_of (sections ++ section ∷ [])) ≡ (is_among n (numbers_of sections) || (n == section.interface))
among_more n [] section = elim (n == section.interface) as (λ t. (t || false) ≡ t) [ true ↦ refl | false ↦ refl ]
among_more n (s ∷ ss) section = elim (n == s.interface) as (λ t.
    (t || is_among n (numbers_of (ss ++ section ∷ []))) ≡ ((t || is_among n (numbers_of ss)) || (n == section.interface))) [
      | true ↦ refl
      | false ↦ among_more n ss section
    ]
