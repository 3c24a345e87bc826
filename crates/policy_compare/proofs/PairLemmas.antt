-- The packets that the rules at two places decide differently.
use Rattle.std.proofs.Common.{◌≡◌, ℕ, ◌+◌, Bool, List, ◌++◌, Option, Some, None, take, refl, sym, subst, ap, ◌∙◌, if◌then◌else◌}
use Rattle.std.specs.Prelude.{option_map, slice_get}
use Rattle.packet_view.specs.Tuples.{TupleFacts}
use Rattle.acl_policy.specs.declared.rule.Action.{Action}
use Rattle.acl_policy.specs.declared.rule.Action.TheVariants.{Deny, Permit, Reflect}
use Rattle.acl_policy.specs.Rules.{RuleFacts}
use Rattle.policy_compare.specs.Comparisons.{AreApart, IsDecider, action_by, decider_at, may_start, outcome}
use Rattle.policy_compare.specs.declared.difference.Pair.{Pair}
use Rattle.policy_compare.specs.inner.Findings.{IsFreeApart, action_of}
use Rattle.policy_compare.specs.inner.Found.{SidesFacts, pair_at}
use Rattle.policy_compare.proofs.DeciderLemmas.{decided, decides, none_of_both, none_of_left, none_of_right}
use Rattle.policy_compare.proofs.StartingLemmas.{may_start_by}

-- the action of what decides at a place
pub acts : (rules : List RuleFacts) (place : ℕ) → action_by (decider_at rules place) ≡ action_of (slice_get rules place)
acts rules place = go (slice_get rules place)
  where
    go : (there : Option RuleFacts) → action_by (option_map (λ rule. (place + 1, rule.action)) there) ≡ action_of there
    go None = refl
    go (Some rule) = refl

-- so the actions of the rules there differ, where those of a pair do
pub acts_apart : (sides : SidesFacts) (i j : ℕ) (one two : Option RuleFacts) (pair : Pair) → one ≡ slice_get sides.before i → two ≡ slice_get sides.after j
    → pair ≡ pair_at sides i j → (action_by pair.before ≡ action_by pair.after → ⊥) → action_of one ≡ action_of two → ⊥
acts_apart sides i j one two pair first second pairs apart same =
    let here : action_by (decider_at sides.before i) ≡ action_by (decider_at sides.after j) =
    acts sides.before i ∙ sym (ap action_of first) ∙ same ∙ ap action_of second ∙ sym (acts sides.after j) in
    apart (subst (λ (p : Pair). action_by p.before ≡ action_by p.after) (sym pairs) here)

-- a packet that is left for two places is decided by what stands there
apart_at : (sides : SidesFacts) (i j : ℕ) (tuple : TupleFacts)
    → IsFreeApart (slice_get sides.before i) (slice_get sides.after j) (take i sides.before ++ take j sides.after) tuple
    → AreApart sides.before sides.after (pair_at sides i j) tuple
apart_at sides i j tuple (free, apart) = record {
  packet = free.packet;
  by_before = decides sides.before i tuple (slice_get sides.before i) refl free.by_one (none_of_left (take i sides.before) (take j sides.after) tuple free.none);
  by_after = decides sides.after j tuple (slice_get sides.after j) refl free.by_two (none_of_right (take i sides.before) (take j sides.after) tuple free.none);
  apart = λ same. apart (ap (outcome tuple) (sym (acts sides.before i)) ∙ same ∙ ap (outcome tuple) (acts sides.after j));
}

-- and the other way round
free_at : (sides : SidesFacts) (i j : ℕ) (tuple : TupleFacts) → AreApart sides.before sides.after (pair_at sides i j) tuple
    → IsFreeApart (slice_get sides.before i) (slice_get sides.after j) (take i sides.before ++ take j sides.after) tuple
free_at sides i j tuple apart =
    let one = decided sides.before i tuple (slice_get sides.before i) refl apart.by_before in
    let two = decided sides.after j tuple (slice_get sides.after j) refl apart.by_after in (
      record {
        packet = apart.packet;
        by_one = one.0;
        by_two = two.0;
        none = none_of_both (take i sides.before) (take j sides.after) tuple one.1 two.1;
      },
      λ same. apart.apart (ap (outcome tuple) (acts sides.before i) ∙ same ∙ ap (outcome tuple) (sym (acts sides.after j))),
    )

-- a packet at another interface is decided in the same way
same_outcome : (tuple there : TupleFacts) (x : Action) → may_start there ≡ may_start tuple → outcome there x ≡ outcome tuple x
same_outcome tuple there Deny is = refl
same_outcome tuple there Permit is = refl
same_outcome tuple there Reflect is = ap (λ (b : Bool). if b then Reflect else Permit) is

elsewhere : (before after : List RuleFacts) (pair : Pair) (tuple : TupleFacts) (interface : ℕ) → AreApart before after pair tuple
    → AreApart before after pair (record tuple { interface = interface })
elsewhere before after pair tuple interface apart =
    let there : TupleFacts = record tuple { interface = interface } in
    let starts : may_start there ≡ may_start tuple = may_start_by there ∙ sym (may_start_by tuple) in
    record {
      packet = record {
        source = apart.packet.source;
        dest = apart.packet.dest;
        proto = apart.packet.proto;
        suits = apart.packet.suits;
        small = apart.packet.small;
      };
      by_before = at before pair.before apart.by_before;
      by_after = at after pair.after apart.by_after;
      apart = λ same. apart.apart (sym (same_outcome tuple there (action_by pair.before) starts) ∙ same ∙ same_outcome tuple there (action_by pair.after) starts);
    }
  where
    at : (rules : List RuleFacts) (decider : Option (ℕ × Action)) → IsDecider rules tuple decider → IsDecider rules (record tuple { interface = interface }) decider
    at rules None is = is
    at rules (Some decider) is = is

-- A packet that was found, at its interface, is decided by a pair; and where there is none, none is.
pub told_of_packet : (sides : SidesFacts) (i j : ℕ) (one two : Option RuleFacts) (pair : Pair) (tuple there : TupleFacts)
    → one ≡ slice_get sides.before i → two ≡ slice_get sides.after j → pair ≡ pair_at sides i j → there ≡ record tuple { interface = sides.interface }
    → IsFreeApart one two (take i sides.before ++ take j sides.after) tuple → AreApart sides.before sides.after pair there
told_of_packet sides i j one two pair tuple there first second pairs at free =
    let earlier = take i sides.before ++ take j sides.after in
    let here = subst (λ (o : Option RuleFacts). IsFreeApart (slice_get sides.before i) o earlier tuple) second
    (subst (λ (o : Option RuleFacts). IsFreeApart o two earlier tuple) first free) in
    let found = elsewhere sides.before sides.after (pair_at sides i j) tuple sides.interface (apart_at sides i j tuple here) in
    subst (λ (t : TupleFacts). AreApart sides.before sides.after pair t) (sym at)
    (subst (λ (p : Pair). AreApart sides.before sides.after p (record tuple { interface = sides.interface })) (sym pairs) found)

pub none_at : (sides : SidesFacts) (i j : ℕ) (one two : Option RuleFacts) (tuple : TupleFacts) → one ≡ slice_get sides.before i → two ≡ slice_get sides.after j
    → (IsFreeApart one two (take i sides.before ++ take j sides.after) tuple → ⊥) → AreApart sides.before sides.after (pair_at sides i j) tuple → ⊥
none_at sides i j one two tuple first second none apart =
    let earlier = take i sides.before ++ take j sides.after in
    none (subst (λ (o : Option RuleFacts). IsFreeApart o two earlier tuple) (sym first)
    (subst (λ (o : Option RuleFacts). IsFreeApart (slice_get sides.before i) o earlier tuple) (sym second) (free_at sides i j tuple apart)))
