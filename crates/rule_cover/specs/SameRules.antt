-- Rules that match the same packets with the same action, whatever their words are (this project's profile of first match).
use Rattle.std.specs.Prelude.{ℕ, ◌-◌, ◌/◌, ◌^◌, ◌==◌, ◌&&◌, ◌||◌, Bool, true, bit_and, if◌then◌else◌, nat_le, not}
use Rattle.packet_view.specs.Addresses.{icmp_of}
use Rattle.packet_view.specs.declared.tuple.Family.{Family}
use Rattle.packet_view.specs.declared.tuple.Family.TheVariants.{V4, V6}
use Rattle.acl_policy.specs.Rules.{RuleFacts}
use Rattle.acl_policy.specs.Widths.{width}
use Rattle.acl_policy.specs.declared.rule.Action.{Action}
use Rattle.acl_policy.specs.declared.rule.Action.TheVariants as action

abbrev pub action_number : Action → ℕ
action_number action.Deny = 0
action_number action.Permit = 1
action_number action.Reflect = 2

abbrev pub family_number : Family → ℕ
family_number V4 = 4
family_number V6 = 6

-- the bits of the address that count
abbrev pub counted : Family → ℕ × ℕ → ℕ
counted family prefix = prefix.0 / 2 ^ (width family - prefix.1)

-- prefixes of one length whose bits that count are equal
abbrev pub same_prefix : Family → ℕ × ℕ → ℕ × ℕ → Bool
same_prefix family one other = (one.1 == other.1) && (counted family one == counted family other)

abbrev pub same_pair : ℕ × ℕ → ℕ × ℕ → Bool
same_pair one other = (one.0 == other.0) && (one.1 == other.1)

-- a byte is at most 255, so that no range of bytes goes on behind it
abbrev pub last_byte : ℕ → ℕ
last_byte n = if nat_le 255 n then 255 else n

-- ranges of bytes, as types and codes are
abbrev pub same_bytes : ℕ × ℕ → ℕ × ℕ → Bool
same_bytes one other = (one.0 == other.0) && (last_byte one.1 == last_byte other.1)

-- no flags are as the rule says: it wants one that it doesn't look at
abbrev pub has_no_flags : RuleFacts → Bool
has_no_flags rule = not (bit_and rule.value rule.mask == rule.value)

abbrev pub same_ports : RuleFacts → RuleFacts → Bool
same_ports one other = same_pair one.first other.first && same_pair one.second other.second

-- TCP: both match fragments alone, or have the same ports and flags
abbrev pub same_segments : RuleFacts → RuleFacts → Bool
same_segments one other =
    (has_no_flags one && has_no_flags other)
    || (same_ports one other && ((one.value == other.value) && (one.mask == other.mask)))

-- what the rules' one protocol has: TCP, UDP, ICMP, or no fields
abbrev pub same_fields : RuleFacts → RuleFacts → Bool
same_fields one other =
    if one.proto == 6 then same_segments one other else (
    if one.proto == 17 then same_ports one other else (
    if one.proto == icmp_of one.family then same_bytes one.first other.first && same_bytes one.second other.second else true))

-- one action, one family, and the same packets
abbrev pub same_rule : RuleFacts → RuleFacts → Bool
same_rule one other =
    (family_number one.family == family_number other.family) && ((action_number one.action == action_number other.action)
    && ((one.proto == other.proto) && ((same_prefix one.family one.source other.source && same_prefix one.family one.dest other.dest)
    && same_fields one other)))
