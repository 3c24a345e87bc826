-- The numbers of types and codes of ICMP, which mean another message in each family (RFC 792, RFC 4443; this project's profile).
use Rattle.std.specs.Prelude.{◌≡◌, ◌&&◌, ◌||◌, Bool, false, true, List, [], ◌∷◌, codes, not, ⊤}
use Rattle.std.specs.List.{list_any}
use Rattle.std.specs.Str.{bytes_eq}
use Rattle.packet_view.specs.declared.tuple.Family.{Family}
use Rattle.packet_view.specs.declared.tuple.Family.TheVariants.{V4, V6}
use Rattle.policy_expand.specs.Families.{is_of_other}
use Rattle.policy_expand.specs.Written.{LineWritten, Nothing, Plain, Rule, RuleWritten, word_text}
use Rattle.policy_expand.specs.declared.visible_word.Word.{Word}

-- it names such a part of a rule
abbrev pub is_icmp_part : Word → Bool
is_icmp_part word = bytes_eq (word_text word) (codes "type") || bytes_eq (word_text word) (codes "code")

-- one of the words behind a rule's addresses does
abbrev pub has_icmp_part : List (List Word) → Bool
has_icmp_part lists = list_any (list_any is_icmp_part) lists

-- one of these may be an address of the family
abbrev pub has_address : Family → List Word → Bool
has_address family words = list_any (λ (word : Word). not (is_of_other family (word_text word))) words

-- the rule has such an address on each side
abbrev pub has_sides : Family → RuleWritten → Bool
has_sides family rule = has_address family rule.sources && has_address family rule.dests

-- A rule for both families with addresses of each names no type and no code of ICMP.
abbrev pub IsOfOneIcmp : LineWritten → Type 0
IsOfOneIcmp Nothing = ⊤
IsOfOneIcmp (Plain words) = ⊤
IsOfOneIcmp (Rule rule) =
    (first second : Word) → rule.families ≡ first ∷ second ∷ [] → has_sides V4 rule ≡ true → has_sides V6 rule ≡ true → has_icmp_part rule.rest ≡ false
