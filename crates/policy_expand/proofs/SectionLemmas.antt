-- What decides at an interface is written in its section.
use Rattle.std.proofs.Common.{◌≡◌, ◌≢◌, ℕ, List, [], ◌∷◌, ◌++◌, map, refl, sym, ap, ap₂, ◌∙◌, subst, ◌⊎◌, inl, inr, arith}
use Rattle.std.proofs.lemmas.Bool.{cases_eq, eq-eqb, ne_eqb}
use Rattle.std.proofs.lemmas.List.{append-nil, map-append}
use Rattle.packet_view.specs.Tuples.{TupleFacts}
use Rattle.packet_view.specs.declared.tuple.Direction.{Direction}
use Rattle.acl_policy.specs.declared.rule.Action.{Action}
use Rattle.acl_policy.specs.Lines.{Begins, Blank, IsLine, LineFacts, Own, Ruled, Say}
use Rattle.acl_policy.specs.Matching.{Decides, DecidesByDefault}
use Rattle.acl_policy.specs.Policies.{AreAllSections, AreDistinct, AreLines, AreLinesOf, AreSections, IsAmong, PolicyFacts, SayPolicy, SectionFacts, empty_section, numbers_of, rules_of, section_among, section_of}
use Rattle.acl_policy.proofs.SectionLaws.{AreInside, inside_of, one_reading}
use Rattle.acl_policy.specs.Words.{without_comment, words_of}
use Rattle.policy_expand.specs.FirstMatch.{AreAlike, DecidesFirst, HaveWords, joined}
use Rattle.policy_expand.specs.Meaning.{IsOneOf}
use Rattle.policy_expand.specs.Sections.{AreIn, AreOfInterface, BeginAlike, BeginsSection}
use Rattle.policy_expand.specs.Written.{LineWritten, word_text}
use Rattle.policy_expand.specs.declared.visible_word.Word.{Word}
use Rattle.policy_expand.proofs.FirstMatchLemmas.{first_decides, none_decides}

abbrev line_words : List ℕ → List (List ℕ)
line_words line = words_of (without_comment line)

-- ---- plain lines
-- As `AreIn`, of plain lines.
abbrev TextsIn : ℕ → ℕ → List (List ℕ) → List (List ℕ) → Type 0
TextsIn number current [] own = own ≡ []
TextsIn number current (line ∷ lines) own =
    ((next : ℕ) × IsLine line (Begins next) × TextsIn number next lines own)
    ⊎ (((next : ℕ) → IsLine line (Begins next) → ⊥)
    × (((current ≡ number) × ((more : List (List ℕ)) × (own ≡ line ∷ more) × TextsIn number current lines more))
    ⊎ ((current ≢ number) × TextsIn number current lines own)))

inside_own : (number : ℕ) (lines rest own : List (List ℕ)) → AreInside lines → TextsIn number number (lines ++ rest) own
    → (more : List (List ℕ)) × (own ≡ lines ++ more) × TextsIn number number rest more
inside_own number [] rest own inside are = (own, refl, are)
inside_own number (l ∷ ls) rest own inside (inl (next, begins, are)) = absurd (inside.0 next begins)
inside_own number (l ∷ ls) rest own inside (inr (stays, inl (same, (more, split, are)))) =
    let behind = inside_own number ls rest more inside.1 are in
    (behind.0, split ∙ ap (λ (ts : List (List ℕ)). l ∷ ts) behind.1, behind.2)
inside_own number (l ∷ ls) rest own inside (inr (stays, inr (other, are))) = absurd (other refl)

inside_other : (number current : ℕ) (lines rest own : List (List ℕ)) → current ≢ number → AreInside lines → TextsIn number current (lines ++ rest) own
    → TextsIn number current rest own
inside_other number current [] rest own other inside are = are
inside_other number current (l ∷ ls) rest own other inside (inl (next, begins, are)) = absurd (inside.0 next begins)
inside_other number current (l ∷ ls) rest own other inside (inr (stays, inl (same, more))) = absurd (other same)
inside_other number current (l ∷ ls) rest own other inside (inr (stays, inr (differs, are))) = inside_other number current ls rest own other inside.1 are

begun : (number current next : ℕ) (heading : List ℕ) (rest own : List (List ℕ)) → IsLine heading (Begins next) → TextsIn number current (heading ∷ rest) own
    → TextsIn number next rest own
begun number current next heading rest own begins (inl (other, is, are)) =
    let same : Begins other ≡ Begins next = one_reading heading (Begins other) (Begins next) is begins in
    let e : other ≡ next = cc in
    subst (λ (n : ℕ). TextsIn number n rest own) e are
begun number current next heading rest own begins (inr (stays, more)) = absurd (stays next begins)

none_later : (number current : ℕ) (rest own : List (List ℕ)) (sections : List SectionFacts) → AreSections rest sections
    → (IsAmong number (numbers_of sections) → ⊥) → TextsIn number current rest own → own ≡ []
none_later number current rest own [] no_text absent are = subst (λ (ts : List (List ℕ)). TextsIn number current ts own) no_text are
none_later number current rest own (section ∷ sections) (heading, lines, later, split, begins, of, others) absent are =
    let behind = begun number current section.interface heading (lines ++ later) own begins (subst (λ (ts : List (List ℕ)). TextsIn number current ts own) split are) in
    none_later number section.interface later own sections others (λ h. absent (inr h))
    (inside_other number section.interface lines later own (λ e. absent (inl (sym e))) (inside_of lines of.readings of.lines of.one) behind)

-- the lines of a section and those behind it, of which the ones of an interface say its section
from_section : (number : ℕ) (lines rest own : List (List ℕ)) (section : SectionFacts) (sections : List SectionFacts) → AreLinesOf lines section
    → AreSections rest sections → (IsAmong section.interface (numbers_of sections) → ⊥) → TextsIn number section.interface (lines ++ rest) own
    → (TextsIn number section.interface rest own → AreLinesOf own (section_among number sections))
    → AreLinesOf own (section_among number (section ∷ sections))
from_section number lines rest own section sections of others absent are later = elim (cases_eq section.interface number) [
  | inl same ↦
      let inside = inside_of lines of.readings of.lines of.one in
      let parts = inside_own number lines rest own inside (subst (λ (n : ℕ). TextsIn number n (lines ++ rest) own) same are) in
      let none : parts.0 ≡ [] = none_later number number rest parts.0 sections others
      (subst (λ (n : ℕ). IsAmong n (numbers_of sections) → ⊥) same absent) parts.2 in
      let front : own ≡ lines = parts.1 ∙ ap (λ (ts : List (List ℕ)). lines ++ ts) none ∙ append-nil lines in
      let found : section_among number (section ∷ sections) ≡ section = rw (eq-eqb section.interface number same) refl in
      subst (λ (s : SectionFacts). AreLinesOf own s) (sym found) (subst (λ (ts : List (List ℕ)). AreLinesOf ts section) (sym front) of)
  | inr other ↦
      let passed : section_among number (section ∷ sections) ≡ section_among number sections = rw (ne_eqb section.interface number other) refl in
      subst (λ (s : SectionFacts). AreLinesOf own s) (sym passed)
      (later (inside_other number section.interface lines rest own other (inside_of lines of.readings of.lines of.one) are))
]

no_lines : (number : ℕ) → AreLinesOf [] (empty_section number)
no_lines number = record {
  readings = [];
  lines = tt;
  one = refl;
  own = refl;
  inbound = refl;
  outbound = refl;
  inbound_fits = omega arith;
  outbound_fits = omega arith;
}

later_own : (number current : ℕ) (rest own : List (List ℕ)) (sections : List SectionFacts) → AreSections rest sections → AreDistinct (numbers_of sections)
    → TextsIn number current rest own → AreLinesOf own (section_among number sections)
later_own number current rest own [] no_text distinct are =
    let none : own ≡ [] = subst (λ (ts : List (List ℕ)). TextsIn number current ts own) no_text are in
    subst (λ (ts : List (List ℕ)). AreLinesOf ts (empty_section number)) (sym none) (no_lines number)
later_own number current rest own (section ∷ sections) (heading, lines, later, split, begins, of, others) distinct are =
    from_section number lines later own section sections of others distinct.0
    (begun number current section.interface heading (lines ++ later) own begins (subst (λ (ts : List (List ℕ)). TextsIn number current ts own) split are))
    (λ behind. later_own number section.interface later own sections others distinct.1 behind)

-- the lines of an interface say its section
of_interface : (number : ℕ) (texts own : List (List ℕ)) (sections : List SectionFacts) → AreAllSections texts sections → AreDistinct (numbers_of sections)
    → TextsIn number 0 texts own → AreLinesOf own (section_among number sections)
of_interface number texts own [] none distinct are = absurd none
of_interface number texts own (section ∷ sections) (lines, rest, split, zero_is, of, others) distinct are =
    from_section number lines rest own section sections of others distinct.0
    (subst (λ (n : ℕ). TextsIn number n (lines ++ rest) own) (sym zero_is) (subst (λ (ts : List (List ℕ)). TextsIn number 0 ts own) split are))
    (λ behind. later_own number section.interface rest own sections others distinct.1 behind)

-- ---- written lines and the plain ones that they stand for
split_texts : (texts : List (List ℕ)) (rows more : List (List Word)) → HaveWords texts (rows ++ more)
    → (front back : List (List ℕ)) × (texts ≡ front ++ back) × HaveWords front rows × HaveWords back more
split_texts texts [] more have = ([], texts, refl, refl, have)
split_texts [] (row ∷ rows) more have = absurd (cc)
split_texts (t ∷ ts) (row ∷ rows) more have =
    let here : line_words t ≡ map word_text row = cc in
    let later : map line_words ts ≡ map (map word_text) (rows ++ more) = cc in
    let rest = split_texts ts rows more later in (
      t ∷ rest.0,
      rest.1,
      ap (λ (ls : List (List ℕ)). t ∷ ls) rest.2,
      ap₂ (λ (ws : List (List ℕ)) (all : List (List (List ℕ))). ws ∷ all) here rest.3,
      rest.4,
    )

-- lines of rows that begin no section
inside_rows : (front : List (List ℕ)) (rows : List (List Word)) → HaveWords front rows
    → ((row : List Word) (next : ℕ) → IsOneOf row rows → Say (map word_text row) (Begins next) → ⊥) → AreInside front
inside_rows [] rows have none = tt
inside_rows (t ∷ ts) [] have none = absurd (cc)
inside_rows (t ∷ ts) (row ∷ rows) have none =
    let here : line_words t ≡ map word_text row = cc in
    let later : map line_words ts ≡ map (map word_text) rows = cc in (
      λ next is. none row next (inl refl) (subst (λ (ws : List (List ℕ)). Say ws (Begins next)) here is),
      inside_rows ts rows later (λ r next one. none r next (inr one)),
    )

kept_front : (number current : ℕ) (front back own : List (List ℕ)) → current ≡ number → AreInside front → TextsIn number current back own
    → TextsIn number current (front ++ back) (front ++ own)
kept_front number current [] back own same inside are = are
kept_front number current (t ∷ ts) back own same inside are =
    inr (inside.0, inl (same, (ts ++ own, refl, kept_front number current ts back own same inside.1 are)))

left_front : (number current : ℕ) (front back own : List (List ℕ)) → current ≢ number → AreInside front → TextsIn number current back own
    → TextsIn number current (front ++ back) own
left_front number current [] back own other inside are = are
left_front number current (t ∷ ts) back own other inside are =
    inr (inside.0, inr (other, left_front number current ts back own other inside.1 are))

-- the line of a row that stands alone
lone_line : (front : List (List ℕ)) (row : List Word) → HaveWords front (row ∷ []) → (t : List ℕ) × (front ≡ t ∷ []) × (line_words t ≡ map word_text row)
lone_line [] row have = absurd (cc)
lone_line (t ∷ []) row have = (t, refl, cc)
lone_line (t ∷ u ∷ more) row have = absurd (cc)

no_texts : (texts : List (List ℕ)) → map line_words texts ≡ [] → texts ≡ []
no_texts [] e = refl
no_texts (t ∷ ts) e = absurd (cc)

-- plain lines in the section of an interface, which written ones stand for
abbrev PlainOf : ℕ → ℕ → List (List ℕ) → List LineWritten → Type 0
PlainOf number current texts own =
    (plain : List (List (List Word))) × (mine : List (List ℕ)) × AreAlike own plain × HaveWords mine (joined plain) × TextsIn number current texts mine

plain_of : (number current : ℕ) (written : List LineWritten) (plain : List (List (List Word))) (texts : List (List ℕ)) (own : List LineWritten)
    → AreAlike written plain → HaveWords texts (joined plain) → AreIn number current written own → PlainOf number current texts own
plain_of number current [] plain texts own no_plain have none =
    let empty : texts ≡ [] = no_texts texts (have ∙ ap (λ (p : List (List (List Word))). map (map word_text) (joined p)) no_plain) in (
      [],
      [],
      subst (λ (ws : List LineWritten). AreAlike ws []) (sym none) refl,
      refl,
      subst (λ (ts : List (List ℕ)). TextsIn number current ts []) (sym empty) refl,
    )
plain_of number current (line ∷ lines) plain texts own (rows, more, split, alike, begin, others) have (inl (next, begins, are)) =
    let parts = split_texts texts rows (joined more) (have ∙ ap (λ (p : List (List (List Word))). map (map word_text) (joined p)) split) in
    let later = plain_of number next lines more parts.1 own others parts.4 are in
    let only = begin.whole next begins in
    let lone = lone_line parts.0 only.0 (subst (λ (rs : List (List Word)). HaveWords parts.0 rs) only.1 parts.3) in
    let is : IsLine lone.0 (Begins next) = subst (λ (ws : List (List ℕ)). Say ws (Begins next)) (sym lone.2) only.2 in
    let whole : texts ≡ lone.0 ∷ parts.1 = parts.2 ∙ ap (λ (ts : List (List ℕ)). ts ++ parts.1) lone.1 in
    (later.0, later.1, later.2, later.3, subst (λ (ts : List (List ℕ)). TextsIn number current ts later.1) (sym whole) (inl (next, is, later.4)))
plain_of number current (line ∷ lines) plain texts own (rows, more, split, alike, begin, others) have (inr (stays, inl (same, (rest, own_split, are)))) =
    let parts = split_texts texts rows (joined more) (have ∙ ap (λ (p : List (List (List Word))). map (map word_text) (joined p)) split) in
    let later = plain_of number current lines more parts.1 rest others parts.4 are in
    let inside = inside_rows parts.0 rows parts.3 (λ row next one says. stays next (begin.sound row next one says)) in (
      rows ∷ later.0,
      parts.0 ++ later.1,
      subst (λ (ws : List LineWritten). AreAlike ws (rows ∷ later.0)) (sym own_split) (rows, later.0, refl, alike, begin, later.2),
      map-append line_words parts.0 later.1
          ∙ ap₂ (λ (xs ys : List (List (List ℕ))). xs ++ ys) parts.3 later.3 ∙ sym (map-append (map word_text) rows (joined later.0)),
      subst (λ (ts : List (List ℕ)). TextsIn number current ts (parts.0 ++ later.1)) (sym parts.2)
          (kept_front number current parts.0 parts.1 later.1 same inside later.4),
    )
plain_of number current (line ∷ lines) plain texts own (rows, more, split, alike, begin, others) have (inr (stays, inr (other, are))) =
    let parts = split_texts texts rows (joined more) (have ∙ ap (λ (p : List (List (List Word))). map (map word_text) (joined p)) split) in
    let later = plain_of number current lines more parts.1 own others parts.4 are in
    let inside = inside_rows parts.0 rows parts.3 (λ row next one says. stays next (begin.sound row next one says)) in (
      later.0,
      later.1,
      later.2,
      later.3,
      subst (λ (ts : List (List ℕ)). TextsIn number current ts later.1) (sym parts.2)
          (left_front number current parts.0 parts.1 later.1 other inside later.4),
    )

-- ---- the law
-- the first rule that matches is of the first line of the interface's section that does
pub section_decides : (written : List LineWritten) (plain : List (List (List Word))) (texts : List (List ℕ)) (policy : PolicyFacts) (number : ℕ)
    (own : List LineWritten) (direction : Direction) (tuple : TupleFacts) (i : ℕ) (action : Action) → AreAlike written plain → HaveWords texts (joined plain)
    → SayPolicy texts policy → AreOfInterface number written own → Decides (rules_of direction (section_of number policy)) tuple i action
    → DecidesFirst own direction tuple action
section_decides written plain texts policy number own direction tuple i action alike have say are decides =
    let mine = plain_of number 0 written plain texts own alike have are in
    first_decides own mine.0 mine.1 (section_of number policy) direction tuple i action mine.2 mine.3
    (of_interface number texts mine.1 policy.sections say.sections say.once mine.4) decides

-- where no rule matches, no line of the interface's section does
pub section_silent : (written : List LineWritten) (plain : List (List (List Word))) (texts : List (List ℕ)) (policy : PolicyFacts) (number : ℕ)
    (own : List LineWritten) (direction : Direction) (tuple : TupleFacts) (action : Action) → AreAlike written plain → HaveWords texts (joined plain)
    → SayPolicy texts policy → AreOfInterface number written own → DecidesByDefault (rules_of direction (section_of number policy)) tuple
    → DecidesFirst own direction tuple action → ⊥
section_silent written plain texts policy number own direction tuple action alike have say are none decides =
    let mine = plain_of number 0 written plain texts own alike have are in
    none_decides own mine.0 mine.1 (section_of number policy) direction tuple action mine.2 mine.3
    (of_interface number texts mine.1 policy.sections say.sections say.once mine.4) none decides

-- ---- each interface has such lines
-- each of these lines says something
abbrev AreRead : List (List ℕ) → Type 0
AreRead [] = Unit {0}
AreRead (line ∷ lines) = ((reading : LineFacts) × IsLine line reading) × AreRead lines

lines_read : (lines : List (List ℕ)) (readings : List LineFacts) → AreLines lines readings → AreRead lines
lines_read [] readings are = tt
lines_read (l ∷ ls) [] are = absurd are
lines_read (l ∷ ls) (r ∷ rs) are = ((r, are.0), lines_read ls rs are.1)

both_read : (front back : List (List ℕ)) → AreRead front → AreRead back → AreRead (front ++ back)
both_read [] back front_read back_read = back_read
both_read (l ∷ ls) back front_read back_read = (front_read.0, both_read ls back front_read.1 back_read)

sections_read : (texts : List (List ℕ)) (sections : List SectionFacts) → AreSections texts sections → AreRead texts
sections_read texts [] none = subst (λ (ts : List (List ℕ)). AreRead ts) (sym none) tt
sections_read texts (section ∷ sections) (heading, lines, rest, split, begins, of, others) =
    subst (λ (ts : List (List ℕ)). AreRead ts) (sym split)
    ((Begins section.interface, begins), both_read lines rest (lines_read lines of.readings of.lines) (sections_read rest sections others))

all_read : (texts : List (List ℕ)) (sections : List SectionFacts) → AreAllSections texts sections → AreRead texts
all_read texts [] none = absurd none
all_read texts (section ∷ sections) (lines, rest, split, zero_is, of, others) =
    subst (λ (ts : List (List ℕ)). AreRead ts) (sym split)
    (both_read lines rest (lines_read lines of.readings of.lines) (sections_read rest sections others))

back_read : (front back : List (List ℕ)) → AreRead (front ++ back) → AreRead back
back_read [] back read = read
back_read (l ∷ ls) back read = back_read ls back read.1

-- another line than one that begins a section
not_begun : (line : LineWritten) (rows : List (List Word)) (t : List ℕ) (front : List (List ℕ)) (reading : LineFacts) → BeginAlike line rows
    → HaveWords (t ∷ front) rows → IsLine t reading → ((next : ℕ) → reading ≡ Begins next → ⊥) → (next : ℕ) → BeginsSection line next → ⊥
not_begun line rows t front reading alike have is other next begins =
    let only = alike.whole next begins in
    let lone = lone_line (t ∷ front) only.0 (subst (λ (rs : List (List Word)). HaveWords (t ∷ front) rs) only.1 have) in
    let same : t ≡ lone.0 = cc in
    let says : IsLine t (Begins next) = subst (λ (ws : List (List ℕ)). Say ws (Begins next)) (sym (ap line_words same ∙ lone.2)) only.2 in
    other next (one_reading t reading (Begins next) is says)

-- whether a written line begins a section
decided : (line : LineWritten) (rows : List (List Word)) (front : List (List ℕ)) → BeginAlike line rows → HaveWords front rows → AreRead front
    → ((next : ℕ) × BeginsSection line next) ⊎ ((next : ℕ) → BeginsSection line next → ⊥)
decided line rows [] alike have read = inr (λ next begins.
    let only = alike.whole next begins in
    let lone = lone_line [] only.0 (subst (λ (rs : List (List Word)). HaveWords [] rs) only.1 have) in
    cc)
decided line [] (t ∷ ts) alike have read = absurd (cc)
decided line (row ∷ rows) (t ∷ ts) alike have ((Begins next, is), read) =
    let here : line_words t ≡ map word_text row = cc in
    inl (next, alike.sound row next (inl refl) (subst (λ (ws : List (List ℕ)). Say ws (Begins next)) here is))
decided line (row ∷ rows) (t ∷ ts) alike have ((Blank, is), read) = inr (not_begun line (row ∷ rows) t ts Blank alike have is (λ next e. cc))
decided line (row ∷ rows) (t ∷ ts) alike have ((Own mac, is), read) = inr (not_begun line (row ∷ rows) t ts (Own mac) alike have is (λ next e. cc))
decided line (row ∷ rows) (t ∷ ts) alike have ((Ruled direction rule, is), read) =
    inr (not_begun line (row ∷ rows) t ts (Ruled direction rule) alike have is (λ next e. cc))

front_read : (front back : List (List ℕ)) → AreRead (front ++ back) → AreRead front
front_read [] back read = tt
front_read (l ∷ ls) back read = (read.0, front_read ls back read.1)

own_lines : (number current : ℕ) (written : List LineWritten) (plain : List (List (List Word))) (texts : List (List ℕ)) → AreAlike written plain
    → HaveWords texts (joined plain) → AreRead texts → (own : List LineWritten) × AreIn number current written own
own_lines number current [] plain texts alike have read = ([], refl)
own_lines number current (line ∷ lines) plain texts (rows, more, split, alike, begin, others) have read =
    let parts = split_texts texts rows (joined more) (have ∙ ap (λ (p : List (List (List Word))). map (map word_text) (joined p)) split) in
    let all : AreRead (parts.0 ++ parts.1) = subst (λ (ts : List (List ℕ)). AreRead ts) parts.2 read in
    let rest = back_read parts.0 parts.1 all in
    elim (decided line rows parts.0 begin parts.3 (front_read parts.0 parts.1 all)) [
      | inl begins ↦
          let later = own_lines number begins.0 lines more parts.1 others parts.4 rest in
          (later.0, inl (begins.0, begins.1, later.1))
      | inr stays ↦
          let later = own_lines number current lines more parts.1 others parts.4 rest in
          elim (cases_eq current number) [
            | inl same ↦ (line ∷ later.0, inr (stays, inl (same, (later.0, refl, later.1))))
            | inr other ↦ (later.0, inr (stays, inr (other, later.1)))
          ]
    ]

pub section_lines : (written : List LineWritten) (plain : List (List (List Word))) (texts : List (List ℕ)) (policy : PolicyFacts) (number : ℕ)
    → AreAlike written plain → HaveWords texts (joined plain) → SayPolicy texts policy → (own : List LineWritten) × AreOfInterface number written own
section_lines written plain texts policy number alike have say =
    own_lines number 0 written plain texts alike have (all_read texts policy.sections say.sections)
