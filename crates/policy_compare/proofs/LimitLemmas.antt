-- Behind a rule that takes all packets of another, none decides what this one matches.
use Rattle.std.proofs.Common.{◌≡◌, ◌<◌, ◌≤◌, ◌⊎◌, ℕ, zero, suc, ◌+◌, List, [], ◌∷◌, ◌++◌, Option, Some, None, length, map, take, refl, sym, subst, ap, ◌∙◌, inl, inr, arith}
use Rattle.std.specs.Prelude.{option_map, slice_get}
use Rattle.std.proofs.lemmas.List.{length-map, length_push}
use Rattle.std.proofs.lemmas.Option.{slice_get_cases, slice_get_within}
use Rattle.packet_view.specs.Tuples.{TupleFacts}
use Rattle.acl_policy.specs.Matching.{DecidesByDefault}
use Rattle.acl_policy.specs.Rules.{RuleFacts, rule_facts}
use Rattle.acl_policy.specs.declared.rule.Rule.{Rule}
use Rattle.acl_policy.proofs.OptionLemmas.{same_some}
use Rattle.policy_check.specs.Remarks.{TakesAll}
use Rattle.policy_compare.specs.Comparisons.{AreApart}
use Rattle.policy_compare.specs.declared.taking_rules.Limits.{Limits}
use Rattle.policy_compare.specs.inner.Findings.{MatchesIf}
use Rattle.policy_compare.specs.inner.Found.{SidesFacts, pair_at}
use Rattle.policy_compare.specs.inner.Limits.{AreLimits, AreLimitsOf, IsBehind, IsLimit}
use Rattle.policy_compare.proofs.DeciderLemmas.{decided, from_front}

-- behind the last rule there is none
pub limit_at_end : (rules : List Rule) (there : Option RuleFacts) → IsLimit (map rule_facts rules) there (length rules)
limit_at_end rules None = let same = length-map rules rule_facts in omega (arith, same)
limit_at_end rules (Some taken) = λ other read.
    let same = length-map rules rule_facts in
    let within = slice_get_within (map rule_facts rules) (length rules) other read in
    absurd (omega (arith, same, within))

-- a rule there takes all
pub limit_there : (rules : List Rule) (place : ℕ) (there : Option Rule) (earlier taken : Rule) → there ≡ Some taken
    → slice_get (map rule_facts rules) place ≡ Some (rule_facts earlier) → TakesAll (rule_facts earlier) (rule_facts taken)
    → IsLimit (map rule_facts rules) (option_map rule_facts there) place
limit_there rules place there earlier taken is here takes =
    subst (λ (o : Option Rule). IsLimit (map rule_facts rules) (option_map rule_facts o) place) (sym is)
    (λ other at. subst (λ (r : RuleFacts). TakesAll r (rule_facts taken)) (same_some _ _ (sym here ∙ at)) takes)

-- ---- limits of a list

push_cases : (xs : List ℕ) (x k l : ℕ) → slice_get (xs ++ x ∷ []) k ≡ Some l → (slice_get xs k ≡ Some l) ⊎ ((k ≡ length xs) × (x ≡ l))
push_cases [] x zero l read = inr (refl, cc)
push_cases [] x (suc k) l read = let f : ⊥ = cc in absurd f
push_cases (y ∷ ys) x zero l read = inl read
push_cases (y ∷ ys) x (suc k) l read =
    elim (push_cases ys x k l read) [
      | inl before ↦ inl before
      | inr here ↦ inr (omega (arith, here.0), here.1)
    ]

-- the limits so far
abbrev pub AreLimitsBefore : List RuleFacts → List RuleFacts → ℕ → List ℕ → Type 0
AreLimitsBefore rules taken place limits =
    (length limits ≡ place) × ((k l : ℕ) → slice_get limits k ≡ Some l → IsLimit rules (slice_get taken k) l)

pub limit_pushed : (rules taken : List RuleFacts) (place limit : ℕ) (there : Option RuleFacts) (old new : List ℕ) → AreLimitsBefore rules taken place old
    → new ≡ old ++ limit ∷ [] → there ≡ slice_get taken place → IsLimit rules there limit → AreLimitsBefore rules taken (place + 1) new
limit_pushed rules taken place limit there old new (long, each) is at one =
    subst (AreLimitsBefore rules taken (place + 1)) (sym is) (
      length_push old limit ∙ ap (λ n. n + 1) long,
      λ k l read. elim (push_cases old limit k l read) [
        | inl before ↦ each k l before
        | inr here ↦ subst (IsLimit rules (slice_get taken k)) here.1
            (subst (λ (n : ℕ). IsLimit rules (slice_get taken n) limit) (sym (here.0 ∙ long)) (subst (λ (o : Option RuleFacts). IsLimit rules o limit) at one))
      ],
    )

pub limits_whole : (rules taken : List RuleFacts) (place : ℕ) (limits : List ℕ) → place ≡ length taken + 1 → AreLimitsBefore rules taken place limits
    → AreLimitsOf rules taken limits
limits_whole rules taken place limits is (long, each) = record {
  long = long ∙ is;
  each = each;
}

-- ---- what is behind a limit

not_behind : (rules : List RuleFacts) (there : Option RuleFacts) (limit place : ℕ) (tuple : TupleFacts) → IsLimit rules there limit → MatchesIf there tuple
    → DecidesByDefault (take place rules) tuple → place ≤ length rules → limit < place → ⊥
not_behind rules None limit place tuple is m none within below = omega (arith, is, within, below)
not_behind rules (Some taken) limit place tuple is m none within below =
    elim (slice_get_cases rules limit).1 [
      | inl found ↦ from_front rules place tuple none limit found.0 below found.2 (is found.0 found.2 tuple m)
      | inr past ↦ omega (arith, past.0, within, below)
    ]

pub none_behind : (sides : SidesFacts) (limits : Limits) (i j : ℕ) (tuple : TupleFacts) → AreLimits sides limits → i ≤ length sides.before → j ≤ length sides.after
    → IsBehind limits i j → AreApart sides.before sides.after (pair_at sides i j) tuple → ⊥
none_behind sides limits i j tuple are first second behind apart =
    let one = decided sides.before i tuple (slice_get sides.before i) refl apart.by_before in
    let two = decided sides.after j tuple (slice_get sides.after j) refl apart.by_after in
    elim behind [
      | inl row ↦ not_behind sides.after (slice_get sides.before i) row.0 j tuple (are.rows.each i row.0 row.1) one.0 two.1 second row.2
      | inr column ↦ not_behind sides.before (slice_get sides.after j) column.0 i tuple (are.columns.each j column.0 column.1) two.0 one.1 first column.2
    ]
