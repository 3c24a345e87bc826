-- Packets that are counted one after the other.
use Rattle.std.proofs.Common.{◌≡◌, ◌∙◌, ◌++◌, ◌+◌, ◌-◌, ◌<◌, ◌≤◌, ℕ, List, [], ◌∷◌, Option, append_assoc, arith, ap, count_by, drop, get_or, length, max, refl, subst, sym, cond}
use Rattle.std.proofs.lemmas.List.Sums.{sum_by-append}
use Rattle.packet_view.specs.Captures.{PacketFacts}
use Rattle.acl_policy.specs.Policies.{PolicyFacts}
use Rattle.session_state.specs.declared.verdict.Verdict.{Verdict}
use Rattle.racl_io.proofs.LeftLemmas.{drop_one}
use Rattle.racl_views.specs.Deciding.{AreDecided, IsDecided, decided_by, hits_on}
use Rattle.racl_views.specs.Hits.{is_entry, latest_second}
use Rattle.racl_views.specs.declared.rule_numbering.RuleName.{RuleName}

-- before what is left stands the last one that was taken
pub drop_before : {A : Type 0} (xs : List A) (i : ℕ) (d : A) → 0 < i → i ≤ length xs → drop (i - 1) xs ≡ get_or xs (i - 1) d ∷ drop i xs
drop_before xs i d some within =
    let back : i - 1 + 1 ≡ i = omega arith in drop_one xs (i - 1) d (omega arith) ∙ ap (λ n. get_or xs (i - 1) d ∷ drop n xs) back

-- one more packet is decided
pub decided_more : (policy : PolicyFacts) (packets all left now : List PacketFacts) (packet : PacketFacts) (verdicts : List Verdict) (k : ℕ) (verdict : Verdict)
    (rules others : List (Option RuleName)) (rule : Option RuleName) → k < length verdicts → left ≡ packet ∷ now → IsDecided policy packet (get_or verdicts k verdict) rule
    → ((more : List (Option RuleName)) → AreDecided policy left (drop k verdicts) more → AreDecided policy all verdicts (rules ++ more))
    → AreDecided policy now (drop (k + 1) verdicts) others → AreDecided policy all verdicts ((rules ++ rule ∷ []) ++ others)
decided_more policy packets all left now packet verdicts k verdict rules others rule within took is goes_on more =
    let one : AreDecided policy (packet ∷ now) (get_or verdicts k verdict ∷ drop (k + 1) verdicts) (rule ∷ others) = (is, more) in
    let two : AreDecided policy left (drop k verdicts) (rule ∷ others) =
    subst (λ (ps : List PacketFacts). AreDecided policy ps (drop k verdicts) (rule ∷ others)) (sym took)
    (subst (λ (vs : List Verdict). AreDecided policy (packet ∷ now) vs (rule ∷ others)) (sym (drop_one verdicts k verdict within)) one) in
    subst (λ (rs : List (Option RuleName)). AreDecided policy all verdicts rs) (sym (append_assoc rules (rule ∷ []) others)) (goes_on (rule ∷ others) two)

-- a rule's count after one more packet
pub hits_more : (name : RuleName) (rules : List (Option RuleName)) (rule : Option RuleName)
    → hits_on name (rules ++ rule ∷ []) ≡ hits_on name rules + cond (decided_by name rule) 1 0
hits_more name rules rule = let parts = sum_by-append (λ (r : Option RuleName). cond (decided_by name r) 1 0) rules (rule ∷ []) in omega (arith, parts)

-- nothing is left to decide
pub none_left : (policy : PolicyFacts) (packets : List PacketFacts) → AreDecided policy packets [] []
none_left policy [] = refl
none_left policy (packet ∷ packets) = refl

-- ---- Packets that are counted behind others

pub decided_both : (policy : PolicyFacts) (ps qs : List PacketFacts) (vs ws : List Verdict) (rules more : List (Option RuleName)) → length vs ≡ length ps
    → AreDecided policy ps vs rules → AreDecided policy qs ws more → AreDecided policy (ps ++ qs) (vs ++ ws) (rules ++ more)
decided_both policy [] qs [] ws rules more each one two = subst (λ (rs : List (Option RuleName)). AreDecided policy qs ws (rs ++ more)) (sym one) two
decided_both policy [] qs (v ∷ vs) ws rules more each one two = absurd (omega (arith, each))
decided_both policy (p ∷ ps) qs [] ws rules more each one two = absurd (omega (arith, each))
decided_both policy (p ∷ ps) qs (v ∷ vs) ws [] more each one two = absurd one
decided_both policy (p ∷ ps) qs (v ∷ vs) ws (r ∷ rs) more each (is, one) two = (is, decided_both policy ps qs vs ws rs more (omega (arith, each)) one two)

pub hits_both : (name : RuleName) (rules more : List (Option RuleName)) → hits_on name (rules ++ more) ≡ hits_on name rules + hits_on name more
hits_both name rules more = sum_by-append (λ (r : Option RuleName). cond (decided_by name r) 1 0) rules more

pub entries_both : (said more : List Verdict) → count_by is_entry (said ++ more) ≡ count_by is_entry said + count_by is_entry more
entries_both said more = sum_by-append (λ (v : Verdict). cond (is_entry v) 1 0) said more

pub latest_both : (ps qs : List PacketFacts) → latest_second (ps ++ qs) ≡ max (latest_second ps) (latest_second qs)
latest_both [] qs = let later = latest_second qs in let none : later ≡ max 0 later = omega arith in none
latest_both (p ∷ ps) qs =
    let now = p.moment in
    let before = latest_second ps in
    let later = latest_second qs in
    let joined : max now (max before later) ≡ max (max now before) later = omega arith in
    ap (max now) (latest_both ps qs) ∙ joined
