-- What a change of policy changes: packets on which the two say more than rules of other numbers (this project's profile).
use Rattle.std.specs.Prelude.{ℕ, ◌+◌, ◌-◌, ◌==◌, ◌&&◌, Bool, true, false, nat_le, not, if◌then◌else◌, List, [], ◌∷◌, ◌++◌, Option, None, Some, length, option_and_then, slice_get, slice_range}
use Rattle.std.specs.Str.{bytes_eq}
use Rattle.packet_view.specs.Captures.{PacketFacts, packet_facts}
use Rattle.packet_view.specs.declared.tuple.Mac.{Mac}
use Rattle.acl_policy.specs.Policies.{PolicyFacts, SectionFacts, policy_facts, section_of}
use Rattle.acl_policy.specs.Rules.{RuleFacts}
use Rattle.session_state.specs.declared.verdict.Verdict.{Verdict}
use Rattle.packet_words.specs.VerdictKinds.{kind_of, rule_number}
use Rattle.rule_cover.specs.SameRules.{same_rule}
use Rattle.compared_verdicts.specs.declared.change_lines.Change.{Change}
use Rattle.compared_verdicts.specs.declared.change_lines.PolicyPair.{PolicyPair}

-- a policy, and the one that is to take its place, as values
pub record PairFacts : Type 0 where
  pub before : PolicyFacts
  pub after : PolicyFacts

abbrev pub pair_facts : PolicyPair → PairFacts
pair_facts pair = record { before = policy_facts pair.before.now; after = policy_facts pair.after.now }

-- a packet on which the two say different things, its number, and its verdict by each
pub record ChangeFacts : Type 0 where
  pub number : ℕ
  pub before : Verdict
  pub after : Verdict
  pub packet : PacketFacts

abbrev pub change_facts : Change → ChangeFacts
change_facts c = record { number = c.number; before = c.before; after = c.after; packet = packet_facts c.packet }

-- ---- the rule that gave a verdict

-- a frame goes out where it comes from the interface's own address, which is in its bytes 6 to 11 (IEEE 802.3)
abbrev pub goes_out : Option Mac → List ℕ → Bool
goes_out None frame = false
goes_out (Some mac) frame = nat_le 12 (length frame) && bytes_eq (slice_range frame 6 12) mac.0

-- a packet goes out at its interface by the policy's section of that
abbrev pub goes_out_by : PolicyFacts → PacketFacts → Bool
goes_out_by policy packet = goes_out (section_of packet.interface policy).own packet.frame

abbrev pub same_way : Bool → Bool → Bool
same_way one other = if one then other else not other

-- the rules of the way that a packet goes
abbrev pub rules_for : SectionFacts → List ℕ → List RuleFacts
rules_for section frame = if goes_out section.own frame then section.outbound else section.inbound

-- the rule with this number, from 1
abbrev pub rule_numbered : List RuleFacts → ℕ → Option RuleFacts
rule_numbered rules n = if n == 0 then None else slice_get rules (n - 1)

-- the rule by which a policy gives a packet this verdict
abbrev pub rule_by : PolicyFacts → PacketFacts → Verdict → Option RuleFacts
rule_by policy packet verdict = option_and_then (rule_numbered (rules_for (section_of packet.interface policy) packet.frame)) (rule_number verdict)

-- ---- what is the same

-- both are by no rule, or by rules of one direction that match the same packets with the same action
abbrev pub same_decision : Bool → Option RuleFacts → Option RuleFacts → Bool
same_decision way None None = true
same_decision way None (Some other) = false
same_decision way (Some one) None = false
same_decision way (Some one) (Some other) = way && same_rule one other

-- both policies say the same of a packet: verdicts of one kind, by rules of one direction that match the same with one action
unfoldable pub agree : PairFacts → PacketFacts → Verdict → Verdict → Bool
agree policies packet before after =
    (kind_of before == kind_of after)
    && same_decision (same_way (goes_out_by policies.before packet) (goes_out_by policies.after packet))
    (rule_by policies.before packet before) (rule_by policies.after packet after)

-- ---- what is changed

-- of the packet with this number
abbrev pub changed_at : PairFacts → ℕ → Verdict → Verdict → PacketFacts → List ChangeFacts
changed_at policies n before after packet =
    if agree policies packet before after then [] else (record { number = n; before = before; after = after; packet = packet } ∷ [])

-- of packets whose numbers begin with n, which have these verdicts by the one policy and by the other
abbrev pub changes_from : PairFacts → ℕ → List Verdict → List Verdict → List PacketFacts → List ChangeFacts
changes_from policies n [] afters packets = []
changes_from policies n (before ∷ befores) [] packets = []
changes_from policies n (before ∷ befores) (after ∷ afters) [] = []
changes_from policies n (before ∷ befores) (after ∷ afters) (packet ∷ packets) =
    changed_at policies n before after packet ++ changes_from policies (n + 1) befores afters packets
