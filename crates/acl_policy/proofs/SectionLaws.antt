-- The lines of one section say one thing, and where the sections of a text stand.
use Rattle.std.proofs.Common.{◌≡◌, ◌∙◌, ◌⊎◌, ℕ, ◌≤◌, List, [], ◌∷◌, ◌++◌, length, Option, Some, None, IsSome, refl, sym, ap, ap₂, subst, arith, inl, inr}
use Rattle.std.specs.List.{cons_option, filter_map}
use Rattle.std.proofs.lemmas.List.{append-nil, append_assoc, length-append}
use Rattle.std.proofs.lemmas.List.Elements.{filter_map-append}
use Rattle.packet_view.specs.declared.tuple.Direction.{Direction}
use Rattle.packet_view.specs.declared.tuple.Direction.TheVariants.{Inbound, Outbound}
use Rattle.packet_view.specs.declared.tuple.Mac.{Mac}
use Rattle.acl_policy.specs.Lines.{Begins, Blank, IsLine, LineFacts, Own, Ruled}
use Rattle.acl_policy.specs.Policies.{AreAllSections, AreLines, AreLinesOf, AreSections, IsOnly, SectionFacts, begun_in, own_in, rule_in, rules_of}
use Rattle.acl_policy.specs.Rules.{RuleFacts, most_rules}
use Rattle.acl_policy.proofs.LineLaws.{line_in-complete}

pub one_reading : (line : List ℕ) (a b : LineFacts) → IsLine line a → IsLine line b → a ≡ b
one_reading line a b first second =
    let one = line_in-complete line a first in
    let two = line_in-complete line b second in
    cc

one_lines : (texts : List (List ℕ)) (rs qs : List LineFacts) → AreLines texts rs → AreLines texts qs → rs ≡ qs
one_lines [] [] [] first second = refl
one_lines [] [] (q ∷ qs) first second = absurd second
one_lines [] (r ∷ rs) qs first second = absurd first
one_lines (t ∷ ts) [] qs first second = absurd first
one_lines (t ∷ ts) (r ∷ rs) [] first second = absurd second
one_lines (t ∷ ts) (r ∷ rs) (q ∷ qs) first second =
    let head = one_reading t r q first.0 second.0 in
    let tail = one_lines ts rs qs first.1 second.1 in
    cc

one_own : (macs : List Mac) (a b : Option Mac) → IsOnly macs a → IsOnly macs b → a ≡ b
one_own macs None None first second = refl
one_own macs None (Some b) first second = absurd (cc)
one_own macs (Some a) None first second = absurd (cc)
one_own macs (Some a) (Some b) first second = cc

-- lines say one section
abbrev section_by : ℕ → Option Mac → List RuleFacts → List RuleFacts → SectionFacts
section_by number own inbound outbound = record { interface = number; own = own; inbound = inbound; outbound = outbound }

pub one_section : (texts : List (List ℕ)) (a b : SectionFacts) → a.interface ≡ b.interface → AreLinesOf texts a → AreLinesOf texts b → a ≡ b
one_section texts a b number first second =
    let same : first.readings ≡ second.readings = one_lines texts first.readings second.readings first.lines second.lines in
    let own : a.own ≡ b.own = one_own (filter_map own_in second.readings) a.own b.own (subst (λ (rs : List LineFacts). IsOnly (filter_map own_in rs) a.own) same first.own) second.own in
    let inbound : a.inbound ≡ b.inbound = first.inbound ∙ ap (filter_map (rule_in Inbound)) same ∙ sym second.inbound in
    let outbound : a.outbound ≡ b.outbound = first.outbound ∙ ap (filter_map (rule_in Outbound)) same ∙ sym second.outbound in
    ap₂ (λ n o. section_by n o a.inbound a.outbound) number own
    ∙ ap₂ (λ (is os : List RuleFacts). section_by b.interface b.own is os) inbound outbound

-- the readings up to a line, its own, and those after it
split_lines : (before : List (List ℕ)) (line : List ℕ) (after : List (List ℕ)) (readings : List LineFacts) → AreLines (before ++ line ∷ after) readings
    → (first : List LineFacts) × (reading : LineFacts) × (rest : List LineFacts) × (readings ≡ first ++ reading ∷ rest) × AreLines before first × IsLine line reading
split_lines [] line after [] are = absurd are
split_lines [] line after (r ∷ rs) are = ([], r, rs, refl, tt, are.0)
split_lines (t ∷ ts) line after [] are = absurd are
split_lines (t ∷ ts) line after (r ∷ rs) are =
    let more = split_lines ts line after rs are.1 in
    (r ∷ more.0, more.1, more.2, ap (λ (ls : List LineFacts). r ∷ ls) more.3, (are.0, more.4), more.5)

length-IsOnly : (macs : List Mac) (own : Option Mac) → IsOnly macs own → length macs ≤ 1
length-IsOnly macs None only = rw only (omega arith)
length-IsOnly macs (Some mac) only = rw only (omega arith)

length-IsOnly-some : (macs : List Mac) (own : Option Mac) → IsOnly macs own → IsSome own → length macs ≡ 1
length-IsOnly-some macs None only some = absurd (cc)
length-IsOnly-some macs (Some mac) only some = ap length only ∙ omega arith

-- the readings of a section up to a line are those of the lines before it
pub same_front : (before : List (List ℕ)) (line : List ℕ) (after : List (List ℕ)) (whole section : SectionFacts) (reading : LineFacts)
    → (all : AreLinesOf (before ++ line ∷ after) whole) → (front : AreLinesOf before section) → IsLine line reading
    → (rest : List LineFacts) × (all.readings ≡ front.readings ++ reading ∷ rest)
same_front before line after whole section reading all front is =
    let split = split_lines before line after all.readings all.lines in
    let first : split.0 ≡ front.readings = one_lines before split.0 front.readings split.4 front.lines in
    let one : split.1 ≡ reading = one_reading line split.1 reading split.5 is in
    (split.2, split.3 ∙ ap (λ (ls : List LineFacts). ls ++ split.1 ∷ split.2) first ∙ ap (λ (r : LineFacts). front.readings ++ r ∷ split.2) one)

-- a line of a section is of some form
pub has_reading : (before : List (List ℕ)) (line : List ℕ) (after : List (List ℕ)) (whole : SectionFacts)
    → AreLinesOf (before ++ line ∷ after) whole → (reading : LineFacts) × IsLine line reading
has_reading before line after whole all =
    let split = split_lines before line after all.readings all.lines in
    (split.1, split.5)

-- a section names no second own address
pub no_second_own : (before : List (List ℕ)) (line : List ℕ) (after : List (List ℕ)) (whole section : SectionFacts) (mac : Mac)
    → AreLinesOf (before ++ line ∷ after) whole → AreLinesOf before section → IsLine line (Own mac) → IsSome section.own → ⊥
no_second_own before line after whole section mac all front is second =
    let parts = same_front before line after whole section (Own mac) all front is in
    let macs : filter_map own_in all.readings ≡ filter_map own_in front.readings ++ mac ∷ filter_map own_in parts.0 =
    ap (filter_map own_in) parts.1 ∙ filter_map-append own_in front.readings (Own mac ∷ parts.0) in
    let few = length-IsOnly (filter_map own_in all.readings) whole.own all.own in
    let one = length-IsOnly-some (filter_map own_in front.readings) section.own front.own second in
    omega (arith, few, one, ap length macs, length-append (filter_map own_in front.readings) (mac ∷ filter_map own_in parts.0))

rules_fit : (texts : List (List ℕ)) (section : SectionFacts) (direction : Direction) → (reads : AreLinesOf texts section)
    → (rules_of direction section ≡ filter_map (rule_in direction) reads.readings) × (length (rules_of direction section) ≤ most_rules)
rules_fit texts section Inbound reads = (reads.inbound, reads.inbound_fits)
rules_fit texts section Outbound reads = (reads.outbound, reads.outbound_fits)

rule_in-Ruled : (direction : Direction) (rule : RuleFacts) → rule_in direction (Ruled direction rule) ≡ Some rule
rule_in-Ruled Inbound rule = refl
rule_in-Ruled Outbound rule = refl

-- nor has it a rule too many
pub no_surplus : (before : List (List ℕ)) (line : List ℕ) (after : List (List ℕ)) (whole section : SectionFacts) (direction : Direction) (rule : RuleFacts)
    → AreLinesOf (before ++ line ∷ after) whole → AreLinesOf before section → IsLine line (Ruled direction rule)
    → length (rules_of direction section) ≡ most_rules → ⊥
no_surplus before line after whole section direction rule all front is many =
    let parts = same_front before line after whole section (Ruled direction rule) all front is in
    let behind = filter_map (rule_in direction) parts.0 in
    let rules : filter_map (rule_in direction) all.readings ≡ filter_map (rule_in direction) front.readings ++ rule ∷ behind =
    ap (filter_map (rule_in direction)) parts.1 ∙ filter_map-append (rule_in direction) front.readings (Ruled direction rule ∷ parts.0)
    ∙ ap (λ (o : Option RuleFacts). filter_map (rule_in direction) front.readings ++ cons_option o behind) (rule_in-Ruled direction rule) in
    let fits = rules_fit (before ++ line ∷ after) whole direction all in
    let few = rules_fit before section direction front in
    omega (arith, fits.1, ap length fits.0, ap length rules, ap length few.0, many, length-append (filter_map (rule_in direction) front.readings) (rule ∷ behind))

-- none of these lines begins a section
abbrev pub AreInside : List (List ℕ) → Type 0
AreInside [] = Unit {0}
AreInside (line ∷ lines) = ((number : ℕ) → IsLine line (Begins number) → ⊥) × AreInside lines

-- the first of these lines, if there is one, begins a section
abbrev pub Opens : List (List ℕ) → Type 0
Opens [] = Unit {0}
Opens (line ∷ lines) = (number : ℕ) × IsLine line (Begins number)

pub inside_of : (lines : List (List ℕ)) (readings : List LineFacts) → AreLines lines readings → filter_map begun_in readings ≡ [] → AreInside lines
inside_of [] readings are one = tt
inside_of (l ∷ ls) [] are one = absurd are
inside_of (l ∷ ls) (Blank ∷ rs) are one = ((λ number is. let e = one_reading l Blank (Begins number) are.0 is in cc), inside_of ls rs are.1 one)
inside_of (l ∷ ls) (Begins n ∷ rs) are one = absurd (cc)
inside_of (l ∷ ls) (Own mac ∷ rs) are one = ((λ number is. let e = one_reading l (Own mac) (Begins number) are.0 is in cc), inside_of ls rs are.1 one)
inside_of (l ∷ ls) (Ruled d rule ∷ rs) are one =
    ((λ number is. let e = one_reading l (Ruled d rule) (Begins number) are.0 is in cc), inside_of ls rs are.1 one)

inside_at : (before : List (List ℕ)) (line : List ℕ) (after : List (List ℕ)) → AreInside (before ++ line ∷ after) → (number : ℕ) → IsLine line (Begins number) → ⊥
inside_at [] line after inside number is = inside.0 number is
inside_at (b ∷ bs) line after inside number is = inside_at bs line after inside.1 number is

none_among : (before : List (List ℕ)) (line : List ℕ) (after : List (List ℕ)) (number : ℕ) (readings : List LineFacts)
    → AreLines (before ++ line ∷ after) readings → filter_map begun_in readings ≡ [] → IsLine line (Begins number) → ⊥
none_among before line after number readings are one is = inside_at before line after (inside_of (before ++ line ∷ after) readings are one) number is

-- nor a line that begins another section
pub no_heading : (before : List (List ℕ)) (line : List ℕ) (after : List (List ℕ)) (whole : SectionFacts) (number : ℕ)
    → AreLinesOf (before ++ line ∷ after) whole → IsLine line (Begins number) → ⊥
no_heading before line after whole number all is = none_among before line after number all.readings all.lines all.one is

-- ---- where sections stand

pub inside_section : (lines : List (List ℕ)) (section : SectionFacts) → AreLinesOf lines section → AreInside lines
inside_section lines section of = inside_of lines of.readings of.lines of.one

pub opens_of : (texts : List (List ℕ)) (sections : List SectionFacts) → AreSections texts sections → Opens texts
opens_of texts [] end = subst Opens (sym end) tt
opens_of texts (s ∷ ss) (heading, lines, rest, split, is, of, more) = subst Opens (sym split) (s.interface, is)

-- lines are cut where the next section begins, and nowhere else
pub cut_once : (lines others rest left : List (List ℕ)) → lines ++ rest ≡ others ++ left → AreInside lines → AreInside others → Opens rest → Opens left
    → (lines ≡ others) × (rest ≡ left)
cut_once [] [] rest left same inside insides opens starts = (refl, same)
cut_once [] (o ∷ os) rest left same inside insides opens starts =
    let (number, is) : Opens (o ∷ (os ++ left)) = subst Opens same opens in
    absurd (insides.0 number is)
cut_once (l ∷ ls) [] rest left same inside insides opens starts =
    let (number, is) : Opens (l ∷ (ls ++ rest)) = subst Opens (sym same) starts in
    absurd (inside.0 number is)
cut_once (l ∷ ls) (o ∷ os) rest left same inside insides opens starts =
    let head : l ≡ o = cc in
    let tail : ls ++ rest ≡ os ++ left = cc in
    let more = cut_once ls os rest left tail inside.1 insides.1 opens starts in
    (ap₂ (λ (x : List ℕ) (xs : List (List ℕ)). x ∷ xs) head more.0, more.1)

same_begun : (line : List ℕ) (n m : ℕ) → IsLine line (Begins n) → IsLine line (Begins m) → n ≡ m
same_begun line n m is are = let e = one_reading line (Begins n) (Begins m) is are in cc

-- lines are sections in one way
pub one_sections : (a b : List SectionFacts) (texts : List (List ℕ)) → AreSections texts a → AreSections texts b → a ≡ b
one_sections [] [] texts end ends = refl
one_sections [] (t ∷ tt') texts end (heading, lines, rest, split, is, of, more) = let e : [] ≡ heading ∷ (lines ++ rest) = sym end ∙ split in let f : ⊥ = cc in absurd f
one_sections (s ∷ ss) [] texts (heading, lines, rest, split, is, of, more) end = let e : [] ≡ heading ∷ (lines ++ rest) = sym end ∙ split in let f : ⊥ = cc in absurd f
one_sections (s ∷ ss) (t ∷ ts) texts (heading, lines, rest, split, is, of, more) (other, others, left, cut, are, off, further) =
    let whole : heading ∷ (lines ++ rest) ≡ other ∷ (others ++ left) = sym split ∙ cut in
    let head : heading ≡ other = cc in
    let tail : lines ++ rest ≡ others ++ left = cc in
    let number = same_begun heading s.interface t.interface is (subst (λ (l : List ℕ). IsLine l (Begins t.interface)) (sym head) are) in
    let (same, behind) = cut_once lines others rest left tail (inside_section lines s of) (inside_section others t off) (opens_of rest ss more) (opens_of left ts further) in
    ap₂ (λ (x : SectionFacts) (xs : List SectionFacts). x ∷ xs)
    (one_section lines s t number of (subst (λ (ls : List (List ℕ)). AreLinesOf ls t) (sym same) off))
    (one_sections ss ts rest more (subst (λ (ls : List (List ℕ)). AreSections ls ts) (sym behind) further))

pub one_all : (a b : List SectionFacts) (texts : List (List ℕ)) → AreAllSections texts a → AreAllSections texts b → a ≡ b
one_all [] b texts none are = absurd none
one_all (s ∷ ss) [] texts is none = absurd none
one_all (s ∷ ss) (t ∷ ts) texts (lines, rest, split, first, of, more) (others, left, cut, zero, off, further) =
    let (same, behind) = cut_once lines others rest left (sym split ∙ cut) (inside_section lines s of) (inside_section others t off) (opens_of rest ss more) (opens_of left ts further) in
    ap₂ (λ (x : SectionFacts) (xs : List SectionFacts). x ∷ xs)
    (one_section lines s t (first ∙ sym zero) of (subst (λ (ls : List (List ℕ)). AreLinesOf ls t) (sym same) off))
    (one_sections ss ts rest more (subst (λ (ls : List (List ℕ)). AreSections ls ts) (sym behind) further))

-- ---- one line of a text

-- The line stands within the last of the sections before it, and goes on with it.
pub record IsWithin (line : List ℕ) (front whole : List SectionFacts) : Type 0 where
  pub done : List SectionFacts
  pub section : SectionFacts
  pub grown : SectionFacts
  pub others : List SectionFacts
  pub lines : List (List ℕ)
  pub more : List (List ℕ)
  pub front_is : front ≡ done ++ section ∷ []
  pub whole_is : whole ≡ done ++ grown ∷ others
  pub before : AreLinesOf lines section
  pub all : AreLinesOf (lines ++ line ∷ more) grown

-- Or it begins the next one.
pub record IsNext (line : List ℕ) (front whole : List SectionFacts) : Type 0 where
  pub next : SectionFacts
  pub others : List SectionFacts
  pub whole_is : whole ≡ front ++ next ∷ others
  pub begins : IsLine line (Begins next.interface)

abbrev pub Stands : List ℕ → List SectionFacts → List SectionFacts → Type 0
Stands line front whole = IsWithin line front whole ⊎ IsNext line front whole

stands_behind : (s t : SectionFacts) (line : List ℕ) (front whole : List SectionFacts) → s ≡ t → Stands line front whole → Stands line (s ∷ front) (t ∷ whole)
stands_behind s t line front whole same (inl h) = inl (record {
  done = s ∷ h.done;
  section = h.section;
  grown = h.grown;
  others = h.others;
  lines = h.lines;
  more = h.more;
  front_is = ap (λ (xs : List SectionFacts). s ∷ xs) h.front_is;
  whole_is = ap₂ (λ (x : SectionFacts) (xs : List SectionFacts). x ∷ xs) (sym same) h.whole_is;
  before = h.before;
  all = h.all;
})
stands_behind s t line front whole same (inr h) = inr (record {
  next = h.next;
  others = h.others;
  whole_is = ap₂ (λ (x : SectionFacts) (xs : List SectionFacts). x ∷ xs) (sym same) h.whole_is;
  begins = h.begins;
})

opened : (whole : List SectionFacts) (line : List ℕ) (after : List (List ℕ)) → AreSections (line ∷ after) whole → IsNext line [] whole
opened [] line after end = let f : ⊥ = cc in absurd f
opened (t ∷ ts) line after (heading, lines, rest, split, is, of, more) =
    let head : line ≡ heading = cc in
    record { next = t; others = ts; whole_is = refl; begins = subst (λ (l : List ℕ). IsLine l (Begins t.interface)) (sym head) is }

-- where the lines of a section end before a line, the same section has more lines or the line begins the next one
goes_on : (lines others left : List (List ℕ)) (line : List ℕ) (after : List (List ℕ)) → lines ++ line ∷ after ≡ others ++ left → AreInside lines → Opens left
    → ((more : List (List ℕ)) × (others ≡ lines ++ line ∷ more)) ⊎ ((lines ≡ others) × (line ∷ after ≡ left))
goes_on [] [] left line after same inside starts = inr (refl, same)
goes_on [] (o ∷ os) left line after same inside starts = let head : line ≡ o = cc in inl (os, ap (λ (x : List ℕ). x ∷ os) (sym head))
goes_on (l ∷ ls) [] left line after same inside starts =
    let (number, is) : Opens (l ∷ (ls ++ line ∷ after)) = subst Opens (sym same) starts in
    absurd (inside.0 number is)
goes_on (l ∷ ls) (o ∷ os) left line after same inside starts =
    let head : l ≡ o = cc in
    let tail : ls ++ line ∷ after ≡ os ++ left = cc in
    elim (goes_on ls os left line after tail inside.1 starts) [
      | inl longer ↦ inl (longer.0, ap₂ (λ (x : List ℕ) (xs : List (List ℕ)). x ∷ xs) (sym head) longer.1)
      | inr ends ↦ inr (ap₂ (λ (x : List ℕ) (xs : List (List ℕ)). x ∷ xs) head ends.0, ends.1)
    ]

-- what stands behind one section, where that is known of what follows it
abbrev StandsIn : List ℕ → List (List ℕ) → List SectionFacts → Type 0
StandsIn line after front = (whole : List SectionFacts) (before : List (List ℕ)) → AreSections before front → AreSections (before ++ line ∷ after) whole → Stands line front whole

stands_after : (s t : SectionFacts) (front whole : List SectionFacts) (lines rest others left : List (List ℕ)) (line : List ℕ) (after : List (List ℕ))
    → s.interface ≡ t.interface → AreLinesOf lines s → AreLinesOf others t → AreSections rest front → AreSections left whole
    → (lines ++ rest) ++ line ∷ after ≡ others ++ left → StandsIn line after front → Stands line (s ∷ front) (t ∷ whole)
stands_after s t [] whole lines rest others left line after number of off end more same behind =
    let here : lines ++ line ∷ after ≡ others ++ left =
    sym (ap (λ (ls : List (List ℕ)). (lines ++ ls) ++ line ∷ after) end ∙ ap (λ (ls : List (List ℕ)). ls ++ line ∷ after) (append-nil lines)) ∙ same in
    elim (goes_on lines others left line after here (inside_section lines s of) (opens_of left whole more)) [
      | inl longer ↦ inl (record {
        done = [];
        section = s;
        grown = t;
        others = whole;
        lines = lines;
        more = longer.0;
        front_is = refl;
        whole_is = refl;
        before = of;
        all = subst (λ (ls : List (List ℕ)). AreLinesOf ls t) longer.1 off;
      })
      | inr ends ↦
          let next = opened whole line after (subst (λ (ls : List (List ℕ)). AreSections ls whole) (sym ends.1) more) in
          let one = one_section lines s t number of (subst (λ (ls : List (List ℕ)). AreLinesOf ls t) (sym ends.0) off) in
          stands_behind s t line [] whole one (inr next)
    ]
stands_after s t (u ∷ us) whole lines rest others left line after number of off (heading, ins, outs, split, is, within, further) more same behind =
    let whole_rest : lines ++ (rest ++ line ∷ after) ≡ others ++ left = sym (append_assoc lines rest (line ∷ after)) ∙ same in
    let opens : Opens (rest ++ line ∷ after) = subst (λ (ls : List (List ℕ)). Opens (ls ++ line ∷ after)) (sym split) (u.interface, is) in
    let (lines_are, left_is) = cut_once lines others (rest ++ line ∷ after) left whole_rest (inside_section lines s of) (inside_section others t off) opens (opens_of left whole more) in
    let one = one_section lines s t number of (subst (λ (ls : List (List ℕ)). AreLinesOf ls t) (sym lines_are) off) in
    stands_behind s t line (u ∷ us) whole one
    (behind whole rest (heading, ins, outs, split, is, within, further) (subst (λ (ls : List (List ℕ)). AreSections ls whole) (sym left_is) more))

stands_in : (front : List SectionFacts) (line : List ℕ) (after : List (List ℕ)) → StandsIn line after front
stands_in [] line after = λ whole before end all. inr (opened whole line after (subst (λ (ls : List (List ℕ)). AreSections (ls ++ line ∷ after) whole) end all))
stands_in (s ∷ ss) line after = λ whole before is all. stands_first s ss whole before line after is all (stands_in ss line after)
  where
    stands_first : (s : SectionFacts) (ss whole : List SectionFacts) (before : List (List ℕ)) (line : List ℕ) (after : List (List ℕ))
        → AreSections before (s ∷ ss) → AreSections (before ++ line ∷ after) whole → StandsIn line after ss → Stands line (s ∷ ss) whole
    stands_first s ss [] before line after (heading, lines, rest, split, is, of, more) end behind =
        let e : heading ∷ ((lines ++ rest) ++ line ∷ after) ≡ [] = sym (ap (λ (ls : List (List ℕ)). ls ++ line ∷ after) split) ∙ end in
        let f : ⊥ = cc in absurd f
    stands_first s ss (t ∷ ts) before line after (heading, lines, rest, split, is, of, more) (other, others, left, cut, are, off, further) behind =
        let e : heading ∷ ((lines ++ rest) ++ line ∷ after) ≡ other ∷ (others ++ left) = sym (ap (λ (ls : List (List ℕ)). ls ++ line ∷ after) split) ∙ cut in
        let head : heading ≡ other = cc in
        let tail : (lines ++ rest) ++ line ∷ after ≡ others ++ left = cc in
        let number = same_begun heading s.interface t.interface is (subst (λ (l : List ℕ). IsLine l (Begins t.interface)) (sym head) are) in
        stands_after s t ss ts lines rest others left line after number of off more further tail behind

-- a line after a text stands within its last section or begins the next one
pub stands : (front whole : List SectionFacts) (before : List (List ℕ)) (line : List ℕ) (after : List (List ℕ))
    → AreAllSections before front → AreAllSections (before ++ line ∷ after) whole → Stands line front whole
stands [] whole before line after none all = absurd none
stands (s ∷ ss) [] before line after is none = absurd none
stands (s ∷ ss) (t ∷ ts) before line after (lines, rest, split, first, of, more) (others, left, cut, zero, off, further) =
    let same : (lines ++ rest) ++ line ∷ after ≡ others ++ left = sym (ap (λ (ls : List (List ℕ)). ls ++ line ∷ after) split) ∙ cut in
    stands_after s t ss ts lines rest others left line after (first ∙ sym zero) of off more further same (stands_in ss line after)
