-- What a line of a written policy says behind the sets before it (this project's profile).
use Rattle.std.specs.Prelude.{◌≡◌, ◌≢◌, ◌<◌, ◌⊎◌, List, [], ◌∷◌, ◌++◌, codes, length, map, None}
use Rattle.policy_expand.specs.Lists.{AreListsOf, IsListOf, IsUnionOf, find_set}
use Rattle.policy_expand.specs.Written.{AreFamilies, LineWritten, Nothing, Plain, Rule, RuleWritten, list_words, word_text}
use Rattle.policy_expand.specs.declared.set_lists.NamedSet.{NamedSet}
use Rattle.policy_expand.specs.declared.visible_word.Word.{Word}
use Rattle.policy_expand.specs.declared.written_line.Written.{Written}
use Rattle.policy_expand.specs.declared.written_line.Written.TheVariants as read
use Rattle.policy_expand.specs.declared.written_line.WrittenRule.{WrittenRule}

-- a rule as a value, without where its lists lie in memory
abbrev pub rule_written : WrittenRule → RuleWritten
rule_written rule = record {
  direction = rule.direction;
  action = rule.action;
  families = list_words rule.families;
  sources = list_words rule.sources;
  dests = list_words rule.dests;
  rest = map list_words rule.rest.items;
}

abbrev pub line_written : Written → LineWritten
line_written read.Nothing = Nothing
line_written (read.Plain list) = Plain (list_words list)
line_written (read.Rule rule) = Rule (rule_written rule)

-- Words write this rule: a direction, an action, a family, two addresses and more, of which all behind the action may be lists.
pub record IsRuleOf (sets : List NamedSet) (words : List Word) (rule : RuleWritten) : Type 0 where
  pub family : Word
  pub source : Word
  pub dest : Word
  pub more : List Word
  pub stand : words ≡ rule.direction ∷ rule.action ∷ family ∷ source ∷ dest ∷ more
  pub families : AreFamilies family rule.families
  pub sources : IsListOf sets source rule.sources
  pub dests : IsListOf sets dest rule.dests
  pub rest : AreListsOf sets more rule.rest

-- The set of this name and of what these words stand for joins those that there are, none of which has the name.
pub record AddsSet (sets : List NamedSet) (name : Word) (words : List Word) (news : List NamedSet) : Type 0 where
  pub set : NamedSet
  pub named : set.name ≡ name
  pub words_are : IsUnionOf sets words (list_words set.list)
  pub first : find_set (word_text name) sets ≡ None
  pub added : news ≡ sets ++ set ∷ []

-- no set, and `mac`, `interface` or too few words for a rule
abbrev pub IsPlain : List Word → Type 0
IsPlain [] = ⊥
IsPlain (first ∷ more) =
    (word_text first ≢ codes "set")
    × ((length (first ∷ more) < 5) ⊎ ((word_text first ≡ codes "mac") ⊎ (word_text first ≡ codes "interface")))

-- The words behind these sets say this, and behind them there are these.
abbrev pub IsReadAs : List NamedSet → List Word → LineWritten → List NamedSet → Type 0
IsReadAs sets words Nothing news =
    ((words ≡ []) × (news ≡ sets))
    ⊎ ((first name : Word) × (more : List Word) × (words ≡ first ∷ name ∷ more) × (word_text first ≡ codes "set") × AddsSet sets name more news)
IsReadAs sets words (Plain said) news = (said ≡ words) × IsPlain words × (news ≡ sets)
IsReadAs sets words (Rule rule) news = IsRuleOf sets words rule × (news ≡ sets)
