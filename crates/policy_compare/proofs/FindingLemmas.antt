-- What is found of packets, and of those that the actions of two rules tell apart.
use Rattle.std.proofs.Common.{◌≡◌, ◌≤◌, ◌⊎◌, ℕ, ◌+◌, ◌-◌, Bool, true, false, List, ◌++◌, Option, Some, None, Ok, Err, arith, drop, length, length-append, length-drop, map, take, refl, sym, subst, ap, ◌∙◌, inl, inr, if◌then◌else◌}
use Rattle.std.specs.Prelude.{IfOk, Result}
use Rattle.std.proofs.lemmas.List.{drop-map, length-map, take_all}
use Rattle.std.proofs.Math.Seq.{drop-append_seam}
use Rattle.packet_view.specs.declared.tuple.Family.{Family}
use Rattle.packet_view.specs.Addresses.{icmp_of}
use Rattle.packet_view.specs.Tuples.{TupleFacts, tuple_facts}
use Rattle.acl_policy.specs.declared.rule.Action.{Action}
use Rattle.acl_policy.specs.declared.rule.Action.TheVariants.{Deny, Permit, Reflect}
use Rattle.acl_policy.specs.declared.rule.Rule.{Rule}
use Rattle.acl_policy.specs.Rules.{RuleFacts, rule_facts}
use Rattle.rule_cover.specs.Covers.{IsCover, IsLeft}
use Rattle.rule_cover.specs.declared.uncovered_packets.Cover.{Cover}
use Rattle.rule_cover.specs.declared.uncovered_packets.Cover.TheVariants as cover
use Rattle.policy_compare.specs.Comparisons.{may_start, outcome}
use Rattle.policy_compare.specs.declared.finding.Finding.{Finding}
use Rattle.policy_compare.specs.declared.finding.Finding.TheVariants.{Packet, Nothing, Unknown}
use Rattle.policy_compare.specs.inner.Findings.{IsFinding, IsFree, IsFreeApart, action_of, either, finding_of}
use Rattle.policy_compare.specs.inner.Starting.{IsLeftOf, IsLeftOfStarting, IsNarrowed, idle_of, idle_rules}
use Rattle.policy_compare.proofs.DeciderLemmas.{none_of_both, none_of_left, none_of_right}
use Rattle.policy_compare.proofs.StartingLemmas.{idle_pass, may_start_by, of_flows, starts_past_idle}

-- ---- findings

-- what was found is so in other words
pub finding_as : (P Q : TupleFacts → Type 0) (found : Finding) → IsFinding P found → ((tuple : TupleFacts) → P tuple → Q tuple)
    → ((tuple : TupleFacts) → Q tuple → P tuple) → IsFinding Q found
finding_as P Q (Packet tuple) is to from = to (tuple_facts tuple) is
finding_as P Q Nothing is to from = λ tuple other. is tuple (from tuple other)
finding_as P Q Unknown is to from = tt

-- what a search of rules found
pub finding_of_cover : (P : TupleFacts → Type 0) (one two : RuleFacts) (earlier : List RuleFacts) (found : Cover) → IsCover one two earlier found
    → ((tuple : TupleFacts) → IsLeft one two earlier tuple → P tuple) → ((tuple : TupleFacts) → P tuple → IsLeft one two earlier tuple)
    → IsFinding P (finding_of found)
finding_of_cover P one two earlier (cover.Left tuple) is to from = to (tuple_facts tuple) is
finding_of_cover P one two earlier (cover.Taken marks) is to from = λ tuple it.
    let left = from tuple it in
    let taken = is.taken tuple left.packet left.one left.two in
    left.none taken.0 taken.1 taken.3 taken.4
finding_of_cover P one two earlier cover.Unknown is to from = tt

pub finding_either : (P Q R : TupleFacts → Type 0) (one other : Finding) → IsFinding P one → IsFinding Q other → ((tuple : TupleFacts) → P tuple → R tuple)
    → ((tuple : TupleFacts) → Q tuple → R tuple) → ((tuple : TupleFacts) → R tuple → P tuple ⊎ Q tuple) → IsFinding R (either one other)
finding_either P Q R (Packet tuple) other is also first second parts = first (tuple_facts tuple) is
finding_either P Q R Nothing (Packet tuple) is also first second parts = second (tuple_facts tuple) also
finding_either P Q R Nothing Nothing is also first second parts = λ tuple it. elim (parts tuple it) [ inl p ↦ is tuple p | inr q ↦ also tuple q ]
finding_either P Q R Nothing Unknown is also first second parts = tt
finding_either P Q R Unknown (Packet tuple) is also first second parts = second (tuple_facts tuple) also
finding_either P Q R Unknown Nothing is also first second parts = tt
finding_either P Q R Unknown Unknown is also first second parts = tt

pub unknown_either : (one other : Finding) → either one other ≡ Unknown → (one ≡ Unknown) ⊎ (other ≡ Unknown)
unknown_either (Packet tuple) other is = let f : ⊥ = cc in absurd f
unknown_either Nothing other is = inr is
unknown_either Unknown other is = inl refl

pub unknown_cover : (found : Cover) → finding_of found ≡ Unknown → found ≡ cover.Unknown
unknown_cover (cover.Left tuple) is = let f : ⊥ = cc in absurd f
unknown_cover (cover.Taken marks) is = let f : ⊥ = cc in absurd f
unknown_cover cover.Unknown is = refl

-- ---- packets of a protocol

pub left_of_part : (one part two : RuleFacts) (proto : ℕ) (earlier : List RuleFacts) (found : Cover) → IsNarrowed one proto part → IsCover part two earlier found
    → IsFinding (IsLeftOf proto one two earlier) (finding_of found)
left_of_part one part two proto earlier found narrow is =
    finding_of_cover (IsLeftOf proto one two earlier) part two earlier found is
    (λ tuple left.
    let both = (narrow tuple left.packet).0 left.one in
    (record { packet = left.packet; one = both.0; two = left.two; none = left.none }, both.1))
    (λ tuple it.
    record { packet = it.0.packet; one = (narrow tuple it.0.packet).1 (it.0.one, it.1); two = it.0.two; none = it.0.none })

pub left_of_three : (one two : RuleFacts) (earlier : List RuleFacts) (a b c : Finding) → IsFinding (IsLeftOf 6 one two earlier) a
    → IsFinding (IsLeftOf 17 one two earlier) b → IsFinding (IsLeftOf (icmp_of one.family) one two earlier) c
    → IsFinding (IsLeftOfStarting one two earlier) (either a (either b c))
left_of_three one two earlier a b c first second third =
    let others : TupleFacts → Type 0 = λ tuple. IsLeft one two earlier tuple × ((tuple.proto ≡ 17) ⊎ (tuple.proto ≡ icmp_of one.family)) in
    finding_either (IsLeftOf 6 one two earlier) others (IsLeftOfStarting one two earlier) a (either b c) first
    (finding_either (IsLeftOf 17 one two earlier) (IsLeftOf (icmp_of one.family) one two earlier) others b c second third
    (λ tuple it. (it.0, inl it.1)) (λ tuple it. (it.0, inr it.1))
    (λ tuple it. elim it.1 [ inl udp ↦ inl (it.0, udp) | inr icmp ↦ inr (it.0, icmp) ]))
    (λ tuple it. (it.0, inl it.1)) (λ tuple it. (it.0, inr it.1))
    (λ tuple it. elim it.1 [ inl tcp ↦ inl (it.0, tcp) | inr rest ↦ inr (it.0, rest) ])

-- ---- what actions let become of a packet

-- by whether it may start a session
abbrev outcome_by : Bool → Action → Action
outcome_by b Deny = Deny
outcome_by b Permit = Permit
outcome_by b Reflect = if b then Reflect else Permit

outcome_is : (tuple : TupleFacts) (x : Action) → outcome tuple x ≡ outcome_by (may_start tuple) x
outcome_is tuple Deny = refl
outcome_is tuple Permit = refl
outcome_is tuple Reflect = refl

denied : (b : Bool) (x : Action) → (Deny ≡ x → ⊥) → Deny ≡ outcome_by b x → ⊥
denied b Deny other same = other refl
denied b Permit other same = let f : ⊥ = cc in f
denied true Reflect other same = let f : ⊥ = cc in f
denied false Reflect other same = let f : ⊥ = cc in f

-- one that denies, and another
denied_apart : (tuple : TupleFacts) (x y : Action) → (x ≡ y → ⊥) → (x ≡ Deny) ⊎ (y ≡ Deny) → outcome tuple x ≡ outcome tuple y → ⊥
denied_apart tuple x y other denies same =
    elim denies [
      | inl is ↦ denied (may_start tuple) y (λ e. other (is ∙ e)) (ap (outcome tuple) (sym is) ∙ same ∙ outcome_is tuple y)
      | inr is ↦ denied (may_start tuple) x (λ e. other (sym (is ∙ e))) (ap (outcome tuple) (sym is) ∙ sym same ∙ outcome_is tuple x)
    ]

permitted : (x : Action) → (x ≡ Deny → ⊥) → outcome_by false x ≡ Permit
permitted Deny passes = absurd (passes refl)
permitted Permit passes = refl
permitted Reflect passes = refl

kept : (x : Action) → outcome_by true x ≡ x
kept Deny = refl
kept Permit = refl
kept Reflect = refl

starts_by : (b : Bool) (x y : Action) → (x ≡ Deny → ⊥) → (y ≡ Deny → ⊥) → (outcome_by b x ≡ outcome_by b y → ⊥) → b ≡ true
starts_by true x y one two apart = refl
starts_by false x y one two apart = absurd (apart (permitted x one ∙ sym (permitted y two)))

-- two that let packets through tell just those apart that may start a session
starts_apart : (tuple : TupleFacts) (x y : Action) → (x ≡ Deny → ⊥) → (y ≡ Deny → ⊥) → (outcome tuple x ≡ outcome tuple y → ⊥) → may_start tuple ≡ true
starts_apart tuple x y one two apart =
    starts_by (may_start tuple) x y one two (λ same. apart (outcome_is tuple x ∙ same ∙ sym (outcome_is tuple y)))

apart_starts : (tuple : TupleFacts) (x y : Action) → (x ≡ y → ⊥) → may_start tuple ≡ true → outcome tuple x ≡ outcome tuple y → ⊥
apart_starts tuple x y other starts same =
    let is = λ (z : Action). outcome_is tuple z ∙ ap (λ (b : Bool). outcome_by b z) starts ∙ kept z in
    other (sym (is x) ∙ same ∙ is y)

-- ---- packets of which two rules let different things become

-- where one denies, all that both match
pub apart_of_free : (one two : Option RuleFacts) (earlier : List RuleFacts) (found : Finding) → (action_of one ≡ action_of two → ⊥)
    → (action_of one ≡ Deny) ⊎ (action_of two ≡ Deny) → IsFinding (IsFree one two earlier) found → IsFinding (IsFreeApart one two earlier) found
apart_of_free one two earlier found other denies is =
    finding_as (IsFree one two earlier) (IsFreeApart one two earlier) found is
    (λ tuple free. (free, denied_apart tuple (action_of one) (action_of two) other denies)) (λ tuple both. both.0)

-- else those that may start a session, and so none of the idle rules matches
pub apart_of_starting : (one two : RuleFacts) (earlier rest : List RuleFacts) (found : Finding) → (one.action ≡ two.action → ⊥)
    → (one.action ≡ Deny → ⊥) → (two.action ≡ Deny → ⊥) → earlier ≡ idle_rules ++ rest
    → IsFinding (IsLeftOfStarting one two earlier) found → IsFinding (IsFreeApart (Some one) (Some two) rest) found
apart_of_starting one two earlier rest found other first second is left =
    let here = subst (λ (rules : List RuleFacts). IsFinding (IsLeftOfStarting one two rules) found) is left in
    finding_as (IsLeftOfStarting one two (idle_rules ++ rest)) (IsFreeApart (Some one) (Some two) rest) found here
    (λ tuple it.
    let none = none_of_right idle_rules rest tuple it.0.none in
    let of = subst (λ (f : Family). (tuple.proto ≡ 6) ⊎ ((tuple.proto ≡ 17) ⊎ (tuple.proto ≡ icmp_of f))) it.0.one.0 it.1 in
    let starts = starts_past_idle tuple it.0.packet of (none_of_left idle_rules rest tuple it.0.none) in
    (record { packet = it.0.packet; by_one = it.0.one; by_two = it.0.two; none = none }, apart_starts tuple one.action two.action other starts))
    (λ tuple both.
    let free = both.0 in
    let starts = starts_apart tuple one.action two.action first second both.1 in
    let of = of_flows tuple.family tuple.proto tuple.fields free.packet.suits (sym (may_start_by tuple) ∙ starts) in (
      record {
        packet = free.packet;
        one = free.by_one;
        two = free.by_two;
        none = none_of_both idle_rules rest tuple (idle_pass tuple free.packet starts) free.none;
      },
      subst (λ (f : Family). (tuple.proto ≡ 6) ⊎ ((tuple.proto ≡ 17) ⊎ (tuple.proto ≡ icmp_of f))) (sym free.by_one.0) of,
    ))

-- ---- one rule, or both

pub free_of_two : (one two : RuleFacts) (earlier : List RuleFacts) (found : Cover) → IsCover one two earlier found
    → IsFinding (IsFree (Some one) (Some two) earlier) (finding_of found)
free_of_two one two earlier found is =
    finding_of_cover (IsFree (Some one) (Some two) earlier) one two earlier found is
    (λ tuple left. record { packet = left.packet; by_one = left.one; by_two = left.two; none = left.none })
    (λ tuple free. record { packet = free.packet; one = free.by_one; two = free.by_two; none = free.none })

pub free_of_first : (rule : RuleFacts) (earlier : List RuleFacts) (found : Cover) → IsCover rule rule earlier found
    → IsFinding (IsFree (Some rule) None earlier) (finding_of found)
free_of_first rule earlier found is =
    finding_of_cover (IsFree (Some rule) None earlier) rule rule earlier found is
    (λ tuple left. record { packet = left.packet; by_one = left.one; by_two = tt; none = left.none })
    (λ tuple free. record { packet = free.packet; one = free.by_one; two = free.by_one; none = free.none })

pub free_of_second : (rule : RuleFacts) (earlier : List RuleFacts) (found : Cover) → IsCover rule rule earlier found
    → IsFinding (IsFree None (Some rule) earlier) (finding_of found)
free_of_second rule earlier found is =
    finding_of_cover (IsFree None (Some rule) earlier) rule rule earlier found is
    (λ tuple left. record { packet = left.packet; by_one = tt; by_two = left.one; none = left.none })
    (λ tuple free. record { packet = free.packet; one = free.by_two; two = free.by_two; none = free.none })

-- ---- what a search answers, unless memory ran out

pub starting_if_ok : {E : Type 0} (found : Result Finding E) (one two : Option RuleFacts) (a b : RuleFacts) (earlier rest : List RuleFacts) → one ≡ Some a
    → two ≡ Some b → (action_of one ≡ action_of two → ⊥) → (a.action ≡ Deny → ⊥) → (b.action ≡ Deny → ⊥) → earlier ≡ idle_rules ++ rest
    → IfOk found (IsFinding (IsLeftOfStarting a b earlier)) → IfOk found (IsFinding (IsFreeApart one two rest))
starting_if_ok (Ok f) one two a b earlier rest first second other denies also is left =
    let apart = λ (same : a.action ≡ b.action). other (ap action_of first ∙ same ∙ ap action_of (sym second)) in
    subst (λ (o : Option RuleFacts). IsFinding (IsFreeApart o two rest) f) (sym first)
    (subst (λ (o : Option RuleFacts). IsFinding (IsFreeApart (Some a) o rest) f) (sym second) (apart_of_starting a b earlier rest f apart denies also is left))
starting_if_ok (Err e) one two a b earlier rest first second other denies also is left = tt

pub free_if_ok : {E : Type 0} (found : Result Finding E) (one two : Option RuleFacts) (earlier rest : List RuleFacts) → (action_of one ≡ action_of two → ⊥)
    → (action_of one ≡ Deny) ⊎ (action_of two ≡ Deny) → earlier ≡ rest → IfOk found (IsFinding (IsFree one two earlier))
    → IfOk found (IsFinding (IsFreeApart one two rest))
free_if_ok (Ok f) one two earlier rest other denies is free =
    apart_of_free one two rest f other denies (subst (λ (rules : List RuleFacts). IsFinding (IsFree one two rules) f) is free)
free_if_ok (Err e) one two earlier rest other denies is free = tt

pub idle_long : (rules : List Rule) (rest : List RuleFacts) → map rule_facts rules ≡ idle_rules ++ rest → 8 ≤ length rules
unfolding idle_rules idle_of
idle_long rules rest is =
    let same = length-map rules rule_facts in
    let long : length (map rule_facts rules) ≡ 8 + length rest = ap length is ∙ length-append idle_rules rest in
    omega (arith, same, long)

-- behind the idle rules
pub behind_idle : (rules : List Rule) (rest : List RuleFacts) → map rule_facts rules ≡ idle_rules ++ rest
    → map rule_facts (take (length rules - 8) (drop 8 rules)) ≡ rest
unfolding idle_rules idle_of
behind_idle rules rest is =
    let long = length-drop 8 rules in
    ap (map rule_facts) (take_all (length rules - 8) (drop 8 rules) (omega (arith, long))) ∙ sym (drop-map rule_facts 8 rules) ∙ ap (drop 8) is
    ∙ drop-append_seam idle_rules rest
