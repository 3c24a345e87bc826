-- What the reader of a line gives.
use Rattle.std.specs.Prelude.{ℕ, ◌==◌, List, [], ◌∷◌, codes, Option, Some, None, if◌then◌else◌}
use Rattle.std.specs.Str.{bytes_eq}
use Rattle.packet_view.specs.declared.tuple.Direction.{Direction}
use Rattle.packet_view.specs.declared.tuple.Direction.TheVariants.{Inbound, Outbound}
use Rattle.packet_view.specs.declared.tuple.Family.{Family}
use Rattle.packet_view.specs.declared.tuple.Family.TheVariants.{V4, V6}
use Rattle.acl_policy.specs.declared.policy_line.Line.{Line}
use Rattle.acl_policy.specs.declared.policy_line.Line.TheVariants as read
use Rattle.acl_policy.specs.declared.rule.Action.{Action}
use Rattle.acl_policy.specs.declared.rule.Action.TheVariants.{Deny, Permit, Reflect}
use Rattle.acl_policy.specs.Lines.{Begins, Blank, LineFacts, Own, Ruled}
use Rattle.acl_policy.specs.inner.WordReading.{if_last, next_in, ◌>>=◌}
use Rattle.acl_policy.specs.inner.WordReading.Prefixes.{mac_in, prefix_in}
use Rattle.acl_policy.specs.inner.WordReading.Traffic.{number_up_to_in, traffic_in}
use Rattle.acl_policy.specs.Rules.{rule_facts}
use Rattle.acl_policy.specs.Words.{without_comment, words_of}

-- what a line says, without what the type of a rule keeps
abbrev pub line_facts : Line → LineFacts
line_facts read.Blank = Blank
line_facts (read.Begins number) = Begins number
line_facts (read.Own mac) = Own mac
line_facts (read.Ruled direction rule) = Ruled direction (rule_facts rule)

abbrev pub direction_in : List ℕ → Option Direction
direction_in word = if bytes_eq word (codes "in") then Some Inbound else (if bytes_eq word (codes "out") then Some Outbound else None)

abbrev pub action_in : List ℕ → Option Action
action_in word =
    if bytes_eq word (codes "deny") then Some Deny
    else (if bytes_eq word (codes "permit") then Some Permit else (if bytes_eq word (codes "permit+reflect") then Some Reflect else None))

abbrev pub family_in : List ℕ → Option Family
family_in word = if bytes_eq word (codes "ipv4") then Some V4 else (if bytes_eq word (codes "ipv6") then Some V6 else None)

-- the first three words of a rule's line, and those after them
unfoldable pub head_in : List (List ℕ) → Option (Direction × Action × Family × List (List ℕ))
head_in words = do
  one ← next_in words
  direction ← direction_in one.0
  two ← next_in one.1
  action ← action_in two.0
  three ← next_in two.1
  family ← family_in three.0
  Some (direction, action, family, three.1)

-- the two prefixes, and the words after them
unfoldable pub ends_in : Family → List (List ℕ) → Option ((ℕ × ℕ) × (ℕ × ℕ) × List (List ℕ))
ends_in family words = do
  one ← next_in words
  source ← prefix_in family one.0
  two ← next_in one.1
  dest ← prefix_in family two.0
  Some (source, dest, two.1)

unfoldable pub rule_line_in : List (List ℕ) → Option LineFacts
rule_line_in words = do
  head ← head_in words
  ends ← ends_in head.2 head.3
  traffic ← traffic_in head.2 ends.2
  Some (Ruled head.0 (record {
    action = head.1;
    family = head.2;
    source = ends.0;
    dest = ends.1;
    proto = traffic.proto;
    first = traffic.first;
    second = traffic.second;
    value = traffic.value;
    mask = traffic.mask;
  }))

unfoldable pub own_line_in : List (List ℕ) → Option LineFacts
own_line_in words = do
  one ← next_in words
  mac ← mac_in one.0
  if_last (Own mac) one.1

-- the number of an interface whose section begins
unfoldable pub interface_in : List ℕ → Option ℕ
interface_in word = number_up_to_in 255 word >>= λ number. if number == 0 then None else Some number

unfoldable pub heading_in : List (List ℕ) → Option LineFacts
heading_in words = do
  one ← next_in words
  number ← interface_in one.0
  if_last (Begins number) one.1

unfoldable pub said_in : List (List ℕ) → Option LineFacts
said_in [] = Some Blank
said_in (word ∷ words) =
    if bytes_eq word (codes "mac") then own_line_in words
    else (if bytes_eq word (codes "interface") then heading_in words else rule_line_in (word ∷ words))

unfoldable pub line_in : List ℕ → Option LineFacts
line_in line = said_in (words_of (without_comment line))
