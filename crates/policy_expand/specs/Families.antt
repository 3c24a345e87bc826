-- Which addresses a rule for both families leaves to the other one (this project's profile).
use Rattle.std.specs.Prelude.{Bool, List, ◌&&◌, ℕ, filter, is_none, is_some, not}
use Rattle.packet_view.specs.declared.tuple.Family.{Family}
use Rattle.packet_view.specs.declared.tuple.Family.TheVariants.{V4, V6}
use Rattle.acl_policy.specs.inner.WordReading.Prefixes.{prefix_in}
use Rattle.policy_expand.specs.Written.{word_text}
use Rattle.policy_expand.specs.declared.visible_word.Word.{Word}

abbrev pub other_family : Family → Family
other_family V4 = V6
other_family V6 = V4

-- an address of the other family, or a prefix of one, and none of this one
abbrev pub is_of_other : Family → List ℕ → Bool
is_of_other family word = is_none (prefix_in family word) && is_some (prefix_in (other_family family) word)

-- the words that aren't
abbrev pub kept : Family → List Word → List Word
kept family words = filter (λ (word : Word). not (is_of_other family (word_text word))) words
