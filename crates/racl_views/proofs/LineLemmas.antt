-- The lines of a policy, and what each of them says.
use Rattle.std.proofs.Common.{◌≡◌, ◌∙◌, ◌++◌, ◌+◌, ◌<◌, ◌≤◌, ℕ, List, [], ◌∷◌, append-nil, append_assoc, arith, ap, ap₂, drop, get_or, length, map, refl, subst, sym, Result, Ok, Err, IfOk}
use Rattle.std.proofs.Math.ListN.{drop_of_length-le}
use Rattle.std.specs.Prelude.{unwrap_or}
use Rattle.std.specs.Str.Lines.{lines}
use Rattle.packet_view.specs.declared.tuple.Direction.{Direction}
use Rattle.packet_view.specs.declared.tuple.Direction.TheVariants.{Inbound, Outbound}
use Rattle.acl_policy.specs.Lines.{Begins, Blank, IsLine, LineFacts, Own, Ruled}
use Rattle.acl_policy.specs.Policies.{AreAllSections, AreLines, AreSections, IsPolicyText, PolicyFacts, SectionFacts}
use Rattle.acl_policy.proofs.LineLaws.{line_in-complete}
use Rattle.racl_io.proofs.LeftLemmas.{drop_one}
use Rattle.racl_views.specs.RuleLines.{AreRules, rule_here, rules_behind, rules_from}
use Rattle.racl_views.specs.declared.rule_numbering.RuleLine.{RuleLine}
use Rattle.racl_views.specs.inner.Spots.{said}

said_of : (line : List ℕ) (reading : LineFacts) → IsLine line reading → said line ≡ reading
unfolding said
said_of line reading is = ap (λ r. unwrap_or r Blank) (line_in-complete line reading is)

-- lines say what their readings are
pub all_said : (texts : List (List ℕ)) (readings : List LineFacts) → AreLines texts readings → map said texts ≡ readings
all_said [] [] are = refl
all_said [] (reading ∷ readings) are = absurd are
all_said (text ∷ texts) [] are = absurd are
all_said (text ∷ texts) (reading ∷ readings) (is, are) = ap₂ (λ r rs. r ∷ rs) (said_of text reading is) (all_said texts readings are)

both_lines : (texts others : List (List ℕ)) (readings more : List LineFacts) → AreLines texts readings → AreLines others more → AreLines (texts ++ others) (readings ++ more)
both_lines [] others [] more are then = then
both_lines [] others (reading ∷ readings) more are then = absurd are
both_lines (text ∷ texts) others [] more are then = absurd are
both_lines (text ∷ texts) others (reading ∷ readings) more (is, are) then = (is, both_lines texts others readings more are then)

-- the lines of sections say something
section_lines : (sections : List SectionFacts) (texts : List (List ℕ)) → AreSections texts sections → (readings : List LineFacts) × AreLines texts readings
section_lines [] texts none = ([], subst (λ (ts : List (List ℕ)). AreLines ts []) (sym none) tt)
section_lines (section ∷ sections) texts (heading, lines, rest, same, begins, own, others) =
    let more = section_lines sections rest others in (
      Begins section.interface ∷ (own.readings ++ more.0),
      subst (λ (ts : List (List ℕ)). AreLines ts (Begins section.interface ∷ (own.readings ++ more.0))) (sym same)
          (begins, both_lines lines rest own.readings more.0 own.lines more.1),
    )

policy_lines : (sections : List SectionFacts) (texts : List (List ℕ)) → AreAllSections texts sections → (readings : List LineFacts) × AreLines texts readings
policy_lines [] texts all = absurd all
policy_lines (section ∷ sections) texts (lines, rest, same, zero, own, others) =
    let more = section_lines sections rest others in (
      own.readings ++ more.0,
      subst (λ (ts : List (List ℕ)). AreLines ts (own.readings ++ more.0)) (sym same) (both_lines lines rest own.readings more.0 own.lines more.1),
    )

-- the rules of what its lines say are those of a policy's text
pub policy_rules : (text : List ℕ) (policy : PolicyFacts) (rules : List RuleLine) → rules ≡ rules_from [] (map said (lines text)) → IsPolicyText text policy → AreRules text rules
policy_rules text policy rules are (valid, says) =
    let all = policy_lines policy.sections (lines text) says.sections in
    record { readings = all.0; lines = all.1; all = are ∙ ap (rules_from []) (all_said (lines text) all.0 all.1) }

-- and so those that a call gives
pub policy_rules_of : {V E : Type 0} (items : V → List RuleLine) (result : Result V E) (text now : List ℕ) → now ≡ text
    → IfOk result (λ v. items v ≡ rules_from [] (map said (lines now)))
    → IfOk result (λ v. (policy : PolicyFacts) → IsPolicyText text policy → AreRules text (items v))
policy_rules_of items (Ok v) text now same made = λ policy is. policy_rules text policy (items v) (made ∙ ap (λ (t : List ℕ). rules_from [] (map said (lines t))) same) is
policy_rules_of items (Err e) text now same made = tt

-- a section has no more rules than there are lines
pub few_rules : (way : Direction) (before : List LineFacts) → rules_behind way before ≤ length before
few_rules way [] = omega arith
few_rules way (Blank ∷ before) = let few = few_rules way before in omega arith
few_rules way (Begins number ∷ before) = omega arith
few_rules way (Own mac ∷ before) = let few = few_rules way before in omega arith
few_rules Inbound (Ruled Inbound rule ∷ before) = let few = few_rules Inbound before in omega arith
few_rules Inbound (Ruled Outbound rule ∷ before) = let few = few_rules Inbound before in omega arith
few_rules Outbound (Ruled Inbound rule ∷ before) = let few = few_rules Outbound before in omega arith
few_rules Outbound (Ruled Outbound rule ∷ before) = let few = few_rules Outbound before in omega arith

-- the rules so far, after one more line
pub rules_more : (texts : List (List ℕ)) (k : ℕ) (line : List ℕ) (before : List LineFacts) (reading : LineFacts) (rules now : List RuleLine)
    → k < length texts → line ≡ get_or texts k line → reading ≡ said line → now ≡ rules ++ rule_here before reading
    → rules_from [] (map said texts) ≡ rules ++ rules_from before (map said (drop k texts))
    → rules_from [] (map said texts) ≡ now ++ rules_from (reading ∷ before) (map said (drop (k + 1) texts))
rules_more texts k line before reading rules now within there says more all =
    let others = map said (drop (k + 1) texts) in
    let left : map said (drop k texts) ≡ reading ∷ others =
    ap (map said) (drop_one texts k line within) ∙ ap (λ (l : List ℕ). said l ∷ others) (sym there) ∙ ap (λ (r : LineFacts). r ∷ others) (sym says) in
    all ∙ ap (λ (rs : List LineFacts). rules ++ rules_from before rs) left
    ∙ sym (append_assoc rules (rule_here before reading) (rules_from (reading ∷ before) others))
    ∙ ap (λ (rs : List RuleLine). rs ++ rules_from (reading ∷ before) others) (sym more)

-- after the last line
pub rules_done : (texts : List (List ℕ)) (before : List LineFacts) (rules : List RuleLine) (k : ℕ) → length texts ≤ k
    → rules_from [] (map said texts) ≡ rules ++ rules_from before (map said (drop k texts)) → rules ≡ rules_from [] (map said texts)
rules_done texts before rules k end all =
    sym (all ∙ ap (λ (ts : List (List ℕ)). rules ++ rules_from before (map said ts)) (drop_of_length-le texts end) ∙ append-nil rules)
