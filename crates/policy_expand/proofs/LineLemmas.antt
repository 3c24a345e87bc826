-- The plain lines of a written one match as it does.
use Rattle.std.proofs.Common.{◌≡◌, List, [], ◌∷◌, map, refl, sym, subst, ap, ◌∙◌, codes, inl, inr}
use Rattle.policy_expand.specs.Meaning.{MatchAlike, MatchesPlain}
use Rattle.acl_policy.specs.Lines.{Begins, Say}
use Rattle.policy_expand.specs.Sections.{BeginAlike}
use Rattle.policy_expand.specs.Written.{LineWritten, Nothing, Plain, Rule, word_text}
use Rattle.policy_expand.specs.WrittenLines.{IsReadAs}
use Rattle.policy_expand.specs.Rows.{line_rows}
use Rattle.policy_expand.specs.declared.set_lists.NamedSet.{NamedSet}
use Rattle.policy_expand.specs.declared.visible_word.Word.{Word}
use Rattle.policy_expand.proofs.RuleLemmas.{long_rows, rule_alike}

pub line_alike : (sets : List NamedSet) (words : List Word) (written : LineWritten) (news : List NamedSet) → IsReadAs sets words written news
    → MatchAlike written (line_rows written)
line_alike sets words Nothing news is = record {
  sound = λ row direction tuple action none matches. none;
  whole = λ direction tuple action none. absurd none;
}
line_alike sets words (Plain said) news is = record {
  sound = λ row direction tuple action one matches. elim one [
    | inl e ↦ subst (λ (r : List Word). MatchesPlain (map word_text r) direction tuple action) e matches
    | inr none ↦ absurd none
  ];
  whole = λ direction tuple action matches. (said, inl refl, matches);
}
line_alike sets words (Rule rule) news is = rule_alike rule is.0.family is.0.families

-- nor does it begin another section
pub line_begins : (written : LineWritten) → BeginAlike written (line_rows written)
line_begins Nothing = record {
  sound = λ row number none says. none;
  whole = λ number none. absurd none;
}
line_begins (Plain said) = record {
  sound = λ row number one says. elim one [
    | inl e ↦ subst (λ (r : List Word). Say (map word_text r) (Begins number)) e says
    | inr none ↦ absurd none
  ];
  whole = λ number says. (said, refl, says);
}
line_begins (Rule rule) = record {
  sound = λ row number one says.
      let long = long_rows rule rule.families row one in
      let words : codes "interface" ∷ says.0 ∷ [] ≡ word_text long.0 ∷ word_text long.1 ∷ word_text long.2 ∷ map word_text long.3 =
      sym says.1 ∙ ap (map word_text) long.4 in
      cc;
  whole = λ number none. absurd none;
}
