-- What a written policy's lines stand for (this project's profile).
use Rattle.std.specs.Prelude.{◌≡◌, ℕ, List, [], ◌∷◌, ◌++◌, map}
use Rattle.acl_policy.specs.Words.{without_comment, words_of}
use Rattle.policy_expand.specs.IcmpParts.{IsOfOneIcmp}
use Rattle.policy_expand.specs.Meaning.{MatchAlike}
use Rattle.policy_expand.specs.Rows.{line_rows}
use Rattle.policy_expand.specs.Sections.{BeginAlike}
use Rattle.policy_expand.specs.Sources.{SourceFacts}
use Rattle.policy_expand.specs.Texts.{place_mark, plain_text}
use Rattle.policy_expand.specs.Written.{LineWritten, word_text}
use Rattle.policy_expand.specs.WrittenLines.{IsReadAs}
use Rattle.policy_expand.specs.declared.set_lists.NamedSet.{NamedSet}
use Rattle.policy_expand.specs.declared.visible_word.Word.{Word}

-- A line behind these sets is read as what is written, behind it there are those sets, and the text that is added is of the
-- plain lines that it stands for, which match and begin sections as it does, each with a comment that names the line's place; a rule for both
-- families names no message of ICMP, which would be another one in each.
pub record IsLineExpanded (sets : List NamedSet) (line : SourceFacts) (news : List NamedSet) (written : LineWritten) (rows : List (List Word)) (added : List ℕ) : Type 0 where
  pub words : List Word
  pub said : map word_text words ≡ words_of (without_comment line.text)
  pub read : IsReadAs sets words written news
  pub stands : rows ≡ line_rows written
  pub icmp : IsOfOneIcmp written
  pub alike : MatchAlike written rows
  pub begin : BeginAlike written rows
  pub spells : added ≡ plain_text (place_mark line) rows

-- Each line behind the sets of those before it; the text is what the lines add, in their order.
abbrev pub AreExpanded : List NamedSet → List SourceFacts → List NamedSet → List LineWritten → List (List (List Word)) → List ℕ → Type 0
AreExpanded sets [] news written plain text = (news ≡ sets) × (written ≡ []) × (plain ≡ []) × (text ≡ [])
AreExpanded sets (line ∷ lines) news written plain text =
    (mid : List NamedSet) × (first : LineWritten) × (others : List LineWritten) × (rows : List (List Word)) × (more : List (List (List Word)))
    × (added rest : List ℕ)
    × (written ≡ first ∷ others) × (plain ≡ rows ∷ more) × (text ≡ added ++ rest)
    × IsLineExpanded sets line mid first rows added × AreExpanded mid lines news others more rest

-- Of these lines those before this one stand for plain ones.
abbrev pub IsBehindExpanded : List SourceFacts → SourceFacts → Type 0
IsBehindExpanded lines line =
    (before after : List SourceFacts) × (news : List NamedSet) × (written : List LineWritten) × (plain : List (List (List Word))) × (text : List ℕ)
    × (lines ≡ before ++ line ∷ after) × AreExpanded [] before news written plain text

-- The text is the expansion of these lines, of which no set stands before.
abbrev pub IsExpansion : List SourceFacts → List ℕ → Type 0
IsExpansion lines text =
    (news : List NamedSet) × (written : List LineWritten) × (plain : List (List (List Word))) × AreExpanded [] lines news written plain text
