-- The first plain rule that matches is of the first written line that does.
use Rattle.std.proofs.Common.{◌≡◌, ℕ, zero, suc, List, [], ◌∷◌, ◌++◌, map, Some, None, refl, sym, ap, ◌∙◌, subst, ◌⊎◌, inl, inr, arith}
use Rattle.std.specs.List.{filter_map}
use Rattle.packet_view.specs.Tuples.{TupleFacts}
use Rattle.packet_view.specs.declared.tuple.Direction.{Direction}
use Rattle.packet_view.specs.declared.tuple.Direction.TheVariants.{Inbound, Outbound}
use Rattle.acl_policy.specs.declared.rule.Action.{Action}
use Rattle.acl_policy.specs.Lines.{Begins, Blank, IsLine, LineFacts, Own, Ruled}
use Rattle.acl_policy.specs.Matching.{Decides, DecidesByDefault, Matches}
use Rattle.acl_policy.specs.Policies.{AreLines, AreLinesOf, SectionFacts, rule_in, rules_of}
use Rattle.acl_policy.specs.Rules.{RuleFacts}
use Rattle.acl_policy.proofs.SectionLaws.{one_reading}
use Rattle.acl_policy.specs.Words.{without_comment, words_of}
use Rattle.policy_expand.specs.FirstMatch.{AreAlike, DecidesFirst, HaveWords, joined}
use Rattle.policy_expand.specs.Meaning.{IsOneOf, MatchesPlain}
use Rattle.policy_expand.specs.Written.{LineWritten, word_text}
use Rattle.policy_expand.specs.declared.visible_word.Word.{Word}

-- the first of the rules that matches has this action
abbrev DecidesRule : List RuleFacts → TupleFacts → Action → Type 0
DecidesRule [] tuple action = ⊥
DecidesRule (rule ∷ rules) tuple action =
    (Matches rule tuple × (action ≡ rule.action)) ⊎ ((Matches rule tuple → ⊥) × DecidesRule rules tuple action)

rule_decides : (rules : List RuleFacts) (tuple : TupleFacts) (i : ℕ) (action : Action) → Decides rules tuple i action → DecidesRule rules tuple action
rule_decides [] tuple i action (rule, stands, matches, is, first) = let bad : None ≡ Some rule = stands in cc
rule_decides (r ∷ rules) tuple zero action (rule, stands, matches, is, first) =
    let same : r ≡ rule = cc in
    inl (subst (λ (x : RuleFacts). Matches x tuple) (sym same) matches, is ∙ ap (λ (x : RuleFacts). x.action) (sym same))
rule_decides (r ∷ rules) tuple (suc i) action (rule, stands, matches, is, first) = inr (
  first zero r (omega arith) refl,
  rule_decides rules tuple i action (rule, stands, matches, is, λ k other less. first (suc k) other (omega (arith, less))),
)

-- the first of the lines with these words that matches has this action
abbrev DecidesPlain : List (List (List ℕ)) → Direction → TupleFacts → Action → Type 0
DecidesPlain [] direction tuple action = ⊥
DecidesPlain (words ∷ lines) direction tuple action =
    MatchesPlain words direction tuple action
    ⊎ (((other : Action) → MatchesPlain words direction tuple other → ⊥) × DecidesPlain lines direction tuple action)

abbrev line_words : List ℕ → List (List ℕ)
line_words line = words_of (without_comment line)

-- a line that says something else is no rule that matches
no_rule : (line : List ℕ) (reading : LineFacts) (direction : Direction) (tuple : TupleFacts) → IsLine line reading
    → ((rule : RuleFacts) → reading ≡ Ruled direction rule → ⊥) → (action : Action) → MatchesPlain (line_words line) direction tuple action → ⊥
no_rule line reading direction tuple is other action (rule, said, matches, same) = other rule (one_reading line reading (Ruled direction rule) is said)

-- the rule of a direction, where a line has one
ruled : (line : List ℕ) (rule : RuleFacts) (lines : List (List ℕ)) (rules : List RuleFacts) (direction : Direction) (tuple : TupleFacts) (action : Action)
    → IsLine line (Ruled direction rule) → (DecidesRule rules tuple action → DecidesPlain (map line_words lines) direction tuple action)
    → DecidesRule (rule ∷ rules) tuple action → DecidesPlain (map line_words (line ∷ lines)) direction tuple action
ruled line rule lines rules direction tuple action is later (inl (matches, same)) = inl (rule, is, matches, same)
ruled line rule lines rules direction tuple action is later (inr (fails, rest)) = inr (
  λ other h.
      let same : Ruled direction rule ≡ Ruled direction h.0 = one_reading line (Ruled direction rule) (Ruled direction h.0) is h.1 in
      let one : h.0 ≡ rule = cc in
      fails (subst (λ (r : RuleFacts). Matches r tuple) one h.2),
  later rest,
)

plain_decides : (lines : List (List ℕ)) (readings : List LineFacts) (direction : Direction) (tuple : TupleFacts) (action : Action) → AreLines lines readings
    → DecidesRule (filter_map (rule_in direction) readings) tuple action → DecidesPlain (map line_words lines) direction tuple action
plain_decides [] [] direction tuple action are h = h
plain_decides [] (reading ∷ readings) direction tuple action are h = absurd are
plain_decides (line ∷ lines) [] direction tuple action are h = absurd are
plain_decides (line ∷ lines) (Blank ∷ readings) direction tuple action (is, are) h =
    inr (no_rule line Blank direction tuple is (λ rule e. cc), plain_decides lines readings direction tuple action are h)
plain_decides (line ∷ lines) (Begins number ∷ readings) direction tuple action (is, are) h =
    inr (no_rule line (Begins number) direction tuple is (λ rule e. cc), plain_decides lines readings direction tuple action are h)
plain_decides (line ∷ lines) (Own mac ∷ readings) direction tuple action (is, are) h =
    inr (no_rule line (Own mac) direction tuple is (λ rule e. cc), plain_decides lines readings direction tuple action are h)
plain_decides (line ∷ lines) (Ruled Inbound rule ∷ readings) Inbound tuple action (is, are) h =
    ruled line rule lines (filter_map (rule_in Inbound) readings) Inbound tuple action is (plain_decides lines readings Inbound tuple action are) h
plain_decides (line ∷ lines) (Ruled Outbound rule ∷ readings) Outbound tuple action (is, are) h =
    ruled line rule lines (filter_map (rule_in Outbound) readings) Outbound tuple action is (plain_decides lines readings Outbound tuple action are) h
plain_decides (line ∷ lines) (Ruled Outbound rule ∷ readings) Inbound tuple action (is, are) h =
    inr (no_rule line (Ruled Outbound rule) Inbound tuple is (λ r e. cc), plain_decides lines readings Inbound tuple action are h)
plain_decides (line ∷ lines) (Ruled Inbound rule ∷ readings) Outbound tuple action (is, are) h =
    inr (no_rule line (Ruled Inbound rule) Outbound tuple is (λ r e. cc), plain_decides lines readings Outbound tuple action are h)

abbrev texts : List (List Word) → List (List (List ℕ))
texts rows = map (map word_text) rows

-- among rows in front of others one matches, or else the others decide
among_rows : (rows more : List (List Word)) (direction : Direction) (tuple : TupleFacts) (action : Action) → DecidesPlain (texts (rows ++ more)) direction tuple action
    → ((row : List Word) × IsOneOf row rows × MatchesPlain (map word_text row) direction tuple action)
    ⊎ (((row : List Word) (other : Action) → IsOneOf row rows → MatchesPlain (map word_text row) direction tuple other → ⊥)
    × DecidesPlain (texts more) direction tuple action)
among_rows [] more direction tuple action h = inr (λ row other none matches. none, h)
among_rows (row ∷ rows) more direction tuple action (inl matches) = inl (row, inl refl, matches)
among_rows (row ∷ rows) more direction tuple action (inr (fails, later)) = elim (among_rows rows more direction tuple action later) [
  | inl found ↦ inl (found.0, inr found.1, found.2)
  | inr rest ↦ inr (
    λ other_row other one matches. elim one [
      | inl e ↦ fails other (subst (λ (r : List Word). MatchesPlain (map word_text r) direction tuple other) e matches)
      | inr among ↦ rest.0 other_row other among matches
    ],
    rest.1,
  )
]

written_decides : (written : List LineWritten) (plain : List (List (List Word))) (direction : Direction) (tuple : TupleFacts) (action : Action)
    → AreAlike written plain → DecidesPlain (texts (joined plain)) direction tuple action → DecidesFirst written direction tuple action
written_decides [] plain direction tuple action none h = subst (λ (p : List (List (List Word))). DecidesPlain (texts (joined p)) direction tuple action) none h
written_decides (line ∷ lines) plain direction tuple action (rows, more, split, alike, begin, others) h =
    let here : DecidesPlain (texts (rows ++ joined more)) direction tuple action =
    subst (λ (p : List (List (List Word))). DecidesPlain (texts (joined p)) direction tuple action) split h in
    elim (among_rows rows (joined more) direction tuple action here) [
      | inl found ↦ inl (alike.sound found.0 direction tuple action found.1 found.2)
      | inr rest ↦ inr (
        λ other matches.
            let found = alike.whole direction tuple other matches in
            rest.0 found.0 other found.1 found.2,
        written_decides lines more direction tuple action others rest.1,
      )
    ]

rules_are : (direction : Direction) (lines : List (List ℕ)) (section : SectionFacts) (of : AreLinesOf lines section)
    → rules_of direction section ≡ filter_map (rule_in direction) of.readings
rules_are Inbound lines section of = of.inbound
rules_are Outbound lines section of = of.outbound

-- the first rule that matches is of the first written line that does
pub first_decides : (written : List LineWritten) (plain : List (List (List Word))) (lines : List (List ℕ)) (section : SectionFacts) (direction : Direction)
    (tuple : TupleFacts) (i : ℕ) (action : Action) → AreAlike written plain → HaveWords lines (joined plain) → AreLinesOf lines section
    → Decides (rules_of direction section) tuple i action → DecidesFirst written direction tuple action
first_decides written plain lines section direction tuple i action alike have of decides =
    let rule : DecidesRule (filter_map (rule_in direction) of.readings) tuple action =
    subst (λ (rules : List RuleFacts). DecidesRule rules tuple action) (rules_are direction lines section of)
    (rule_decides (rules_of direction section) tuple i action decides) in
    written_decides written plain direction tuple action alike
    (subst (λ (words : List (List (List ℕ))). DecidesPlain words direction tuple action) have
    (plain_decides lines of.readings direction tuple action of.lines rule))

-- no rule matches
abbrev NoRule : List RuleFacts → TupleFacts → Type 0
NoRule [] tuple = Unit {0}
NoRule (rule ∷ rules) tuple = (Matches rule tuple → ⊥) × NoRule rules tuple

no_rules : (rules : List RuleFacts) (tuple : TupleFacts) → DecidesByDefault rules tuple → NoRule rules tuple
no_rules [] tuple none = tt
no_rules (rule ∷ rules) tuple none = (none zero rule refl, no_rules rules tuple (λ k other. none (suc k) other))

-- no line with these words matches
abbrev NoPlain : List (List (List ℕ)) → Direction → TupleFacts → Type 0
NoPlain [] direction tuple = Unit {0}
NoPlain (words ∷ lines) direction tuple =
    ((other : Action) → MatchesPlain words direction tuple other → ⊥) × NoPlain lines direction tuple

unruled : (line : List ℕ) (rule : RuleFacts) (direction : Direction) (tuple : TupleFacts) → IsLine line (Ruled direction rule) → (Matches rule tuple → ⊥)
    → (other : Action) → MatchesPlain (line_words line) direction tuple other → ⊥
unruled line rule direction tuple is fails other h =
    let same : Ruled direction rule ≡ Ruled direction h.0 = one_reading line (Ruled direction rule) (Ruled direction h.0) is h.1 in
    let one : h.0 ≡ rule = cc in
    fails (subst (λ (r : RuleFacts). Matches r tuple) one h.2)

no_plain : (lines : List (List ℕ)) (readings : List LineFacts) (direction : Direction) (tuple : TupleFacts) → AreLines lines readings
    → NoRule (filter_map (rule_in direction) readings) tuple → NoPlain (map line_words lines) direction tuple
no_plain [] [] direction tuple are none = tt
no_plain [] (reading ∷ readings) direction tuple are none = absurd are
no_plain (line ∷ lines) [] direction tuple are none = absurd are
no_plain (line ∷ lines) (Blank ∷ readings) direction tuple (is, are) none =
    (no_rule line Blank direction tuple is (λ rule e. cc), no_plain lines readings direction tuple are none)
no_plain (line ∷ lines) (Begins number ∷ readings) direction tuple (is, are) none =
    (no_rule line (Begins number) direction tuple is (λ rule e. cc), no_plain lines readings direction tuple are none)
no_plain (line ∷ lines) (Own mac ∷ readings) direction tuple (is, are) none =
    (no_rule line (Own mac) direction tuple is (λ rule e. cc), no_plain lines readings direction tuple are none)
no_plain (line ∷ lines) (Ruled Inbound rule ∷ readings) Inbound tuple (is, are) (fails, none) =
    (unruled line rule Inbound tuple is fails, no_plain lines readings Inbound tuple are none)
no_plain (line ∷ lines) (Ruled Outbound rule ∷ readings) Outbound tuple (is, are) (fails, none) =
    (unruled line rule Outbound tuple is fails, no_plain lines readings Outbound tuple are none)
no_plain (line ∷ lines) (Ruled Outbound rule ∷ readings) Inbound tuple (is, are) none =
    (no_rule line (Ruled Outbound rule) Inbound tuple is (λ r e. cc), no_plain lines readings Inbound tuple are none)
no_plain (line ∷ lines) (Ruled Inbound rule ∷ readings) Outbound tuple (is, are) none =
    (no_rule line (Ruled Inbound rule) Outbound tuple is (λ r e. cc), no_plain lines readings Outbound tuple are none)

front_plain : (rows more : List (List Word)) (direction : Direction) (tuple : TupleFacts) → NoPlain (texts (rows ++ more)) direction tuple
    → ((row : List Word) (other : Action) → IsOneOf row rows → MatchesPlain (map word_text row) direction tuple other → ⊥) × NoPlain (texts more) direction tuple
front_plain [] more direction tuple none = (λ row other absent matches. absent, none)
front_plain (row ∷ rows) more direction tuple (fails, none) =
    let rest = front_plain rows more direction tuple none in (
      λ other_row other one matches. elim one [
        | inl e ↦ fails other (subst (λ (r : List Word). MatchesPlain (map word_text r) direction tuple other) e matches)
        | inr among ↦ rest.0 other_row other among matches
      ],
      rest.1,
    )

none_written : (written : List LineWritten) (plain : List (List (List Word))) (direction : Direction) (tuple : TupleFacts) (action : Action)
    → AreAlike written plain → NoPlain (texts (joined plain)) direction tuple → DecidesFirst written direction tuple action → ⊥
none_written [] plain direction tuple action none silent h = h
none_written (line ∷ lines) plain direction tuple action (rows, more, split, alike, begin, others) silent h =
    let here : NoPlain (texts (rows ++ joined more)) direction tuple =
    subst (λ (p : List (List (List Word))). NoPlain (texts (joined p)) direction tuple) split silent in
    let rest = front_plain rows (joined more) direction tuple here in
    elim h [
      | inl matches ↦ let found = alike.whole direction tuple action matches in rest.0 found.0 action found.1 found.2
      | inr later ↦ none_written lines more direction tuple action others rest.1 later.1
    ]

-- where no rule matches, no written line does
pub none_decides : (written : List LineWritten) (plain : List (List (List Word))) (lines : List (List ℕ)) (section : SectionFacts) (direction : Direction)
    (tuple : TupleFacts) (action : Action) → AreAlike written plain → HaveWords lines (joined plain) → AreLinesOf lines section
    → DecidesByDefault (rules_of direction section) tuple → DecidesFirst written direction tuple action → ⊥
none_decides written plain lines section direction tuple action alike have of none decides =
    let rules : NoRule (filter_map (rule_in direction) of.readings) tuple =
    subst (λ (rules : List RuleFacts). NoRule rules tuple) (rules_are direction lines section of) (no_rules (rules_of direction section) tuple none) in
    none_written written plain direction tuple action alike
    (subst (λ (words : List (List (List ℕ))). NoPlain words direction tuple) have (no_plain lines of.readings direction tuple of.lines rules))
    decides
