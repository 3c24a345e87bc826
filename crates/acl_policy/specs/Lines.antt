-- What a line says, by cases on its words, in this project's policy grammar.
use Rattle.std.specs.Prelude.{◌≡◌, ◌≢◌, ◌≤◌, ℕ, List, [], ◌∷◌, codes}
use Rattle.packet_view.specs.declared.tuple.Direction.{Direction}
use Rattle.packet_view.specs.declared.tuple.Direction.TheVariants.{Inbound, Outbound}
use Rattle.packet_view.specs.declared.tuple.Family.{Family}
use Rattle.packet_view.specs.declared.tuple.Family.TheVariants.{V4, V6}
use Rattle.packet_view.specs.declared.tuple.Mac.{Mac}
use Rattle.acl_policy.specs.declared.rule.Action.{Action}
use Rattle.acl_policy.specs.declared.rule.Action.TheVariants.{Deny, Permit, Reflect}
use Rattle.acl_policy.specs.declared.protocol_parts.Traffic.{Traffic}
use Rattle.acl_policy.specs.Numerals.{IsNumber}
use Rattle.acl_policy.specs.Prefixes.{IsMac, IsPrefix}
use Rattle.acl_policy.specs.Rules.{RuleFacts}
use Rattle.acl_policy.specs.Traffic.{IsTraffic}
use Rattle.acl_policy.specs.Words.{without_comment, words_of}

-- a line without words, the beginning of an interface's section, the own address, or a rule of a direction
pub data LineFacts : Type 0 where
  Blank : LineFacts
  Begins : ℕ → LineFacts
  Own : Mac → LineFacts
  Ruled : Direction → RuleFacts → LineFacts

abbrev pub direction_word : Direction → List ℕ
direction_word Inbound = codes "in"
direction_word Outbound = codes "out"

abbrev pub action_word : Action → List ℕ
action_word Deny = codes "deny"
action_word Permit = codes "permit"
action_word Reflect = codes "permit+reflect"

abbrev pub family_word : Family → List ℕ
family_word V4 = codes "ipv4"
family_word V6 = codes "ipv6"

-- what a rule says beyond its addresses
abbrev pub traffic_of : RuleFacts → Traffic
traffic_of rule = record { proto = rule.proto; first = rule.first; second = rule.second; value = rule.value; mask = rule.mask }

-- A rule is a direction, an action, a family, two prefixes, and what follows them.
abbrev pub IsRule : List (List ℕ) → Direction → RuleFacts → Type 0
IsRule words direction rule =
    (source dest : List ℕ) × (rest : List (List ℕ))
    × (words ≡ direction_word direction ∷ action_word rule.action ∷ family_word rule.family ∷ source ∷ dest ∷ rest)
    × IsPrefix rule.family source rule.source × IsPrefix rule.family dest rule.dest × IsTraffic rule.family rest (traffic_of rule)

-- The number of an interface whose section begins: one to five digits, and not 0.
abbrev pub IsInterface : List ℕ → ℕ → Type 0
IsInterface word number = IsNumber word number × (number ≤ 255) × (number ≢ 0)

-- These words say this.
abbrev pub Say : List (List ℕ) → LineFacts → Type 0
Say words Blank = words ≡ []
Say words (Begins number) = (digits : List ℕ) × (words ≡ codes "interface" ∷ digits ∷ []) × IsInterface digits number
Say words (Own mac) = (address : List ℕ) × (words ≡ codes "mac" ∷ address ∷ []) × IsMac address mac
Say words (Ruled direction rule) = IsRule words direction rule

-- A line says what its words up to the comment say.
abbrev pub IsLine : List ℕ → LineFacts → Type 0
IsLine line reading = Say (words_of (without_comment line)) reading
