-- Which packets a written rule matches (this project's profile).
use Rattle.std.specs.Prelude.{◌≡◌, ◌⊎◌, ℕ, List, [], ◌∷◌, map}
use Rattle.packet_view.specs.Tuples.{TupleFacts}
use Rattle.packet_view.specs.declared.tuple.Direction.{Direction}
use Rattle.packet_view.specs.declared.tuple.Family.{Family}
use Rattle.acl_policy.specs.declared.rule.Action.{Action}
use Rattle.acl_policy.specs.Lines.{IsRule, action_word, direction_word, family_word, traffic_of}
use Rattle.acl_policy.specs.Matching.{HoldsPrefix, HoldsProtocol, Matches}
use Rattle.acl_policy.specs.Rules.{RuleFacts}
use Rattle.acl_policy.specs.Prefixes.{IsPrefix}
use Rattle.acl_policy.specs.Traffic.{IsTraffic}
use Rattle.policy_expand.specs.Written.{LineWritten, Nothing, Plain, Rule, RuleWritten, word_text}
use Rattle.policy_expand.specs.declared.visible_word.Word.{Word}

-- it stands among these
abbrev pub IsOneOf : {X : Type 0} → X → List X → Type 0
IsOneOf x [] = ⊥
IsOneOf x (y ∷ ys) = (x ≡ y) ⊎ IsOneOf x ys

-- a word of each list, in the lists' order
abbrev pub AreChosen : List (List Word) → List Word → Type 0
AreChosen [] words = words ≡ []
AreChosen (list ∷ lists) words =
    (word : Word) × (more : List Word) × (words ≡ word ∷ more) × IsOneOf word list × AreChosen lists more

-- One of the words is a prefix of the family that the address begins with.
abbrev pub HoldsOne : Family → List Word → ℕ → Type 0
HoldsOne family words address =
    (word : Word) × (prefix : ℕ × ℕ) × IsOneOf word words × IsPrefix family (word_text word) prefix × HoldsPrefix family prefix address

-- With one word of each list, what follows the addresses holds of the packet: its protocol, and some of the ranges of each part.
abbrev pub HoldsTraffic : List (List Word) → TupleFacts → Type 0
HoldsTraffic lists tuple =
    (words : List Word) × (plain : RuleFacts) × AreChosen lists words
    × IsTraffic tuple.family (map word_text words) (traffic_of plain) × HoldsProtocol plain tuple

-- A written rule of this direction and action matches: one of its families is the packet's, one of its sources and one of its
-- destinations hold, and what follows them does.
pub record MatchesWritten (rule : RuleWritten) (direction : Direction) (tuple : TupleFacts) (action : Action) : Type 0 where
  pub direction_is : word_text rule.direction ≡ direction_word direction
  pub action_is : word_text rule.action ≡ action_word action
  pub family : (word : Word) × IsOneOf word rule.families × (word_text word ≡ family_word tuple.family)
  pub source : HoldsOne tuple.family rule.sources tuple.source
  pub dest : HoldsOne tuple.family rule.dests tuple.dest
  pub traffic : HoldsTraffic rule.rest tuple

-- A plain line with these words is a rule of this direction and action that matches.
abbrev pub MatchesPlain : List (List ℕ) → Direction → TupleFacts → Action → Type 0
MatchesPlain words direction tuple action =
    (rule : RuleFacts) × IsRule words direction rule × Matches rule tuple × (action ≡ rule.action)

-- A written line is a rule of this direction and action that matches.
abbrev pub MatchesLine : LineWritten → Direction → TupleFacts → Action → Type 0
MatchesLine Nothing direction tuple action = ⊥
MatchesLine (Plain words) direction tuple action = MatchesPlain (map word_text words) direction tuple action
MatchesLine (Rule rule) direction tuple action = MatchesWritten rule direction tuple action

-- Plain lines match as the written line does: one of them wherever that does, and none elsewhere.
pub record MatchAlike (line : LineWritten) (rows : List (List Word)) : Type 0 where
  pub sound : (row : List Word) (direction : Direction) (tuple : TupleFacts) (action : Action) → IsOneOf row rows
      → MatchesPlain (map word_text row) direction tuple action → MatchesLine line direction tuple action
  pub whole : (direction : Direction) (tuple : TupleFacts) (action : Action) → MatchesLine line direction tuple action
      → (row : List Word) × IsOneOf row rows × MatchesPlain (map word_text row) direction tuple action
