-- What is changed of some packets and of those behind them.
use Rattle.std.proofs.Common.{◌≡◌, ◌∙◌, ◌≤◌, ◌+◌, ◌-◌, ◌++◌, ℕ, Bool, true, false, List, [], ◌∷◌, ap, append_assoc, arith, cond, drop, length, map, refl, subst, sym, take}
use Rattle.std.specs.Prelude.{count_by}
use Rattle.std.proofs.lemmas.List.{drop-drop, length-append, take-append-drop}
use Rattle.std.proofs.lemmas.List.Sums.{count_by-le-length, sum_by-append}
use Rattle.packet_view.specs.Captures.{PacketFacts}
use Rattle.acl_policy.specs.Policies.{PolicyFacts}
use Rattle.session_state.specs.declared.verdict.Verdict.{Verdict}
use Rattle.packet_words.specs.inner.ViewedPackets.{view_at}
use Rattle.packet_words.proofs.ViewLemmas.{at_seen}
use Rattle.compared_verdicts.specs.Changes.{ChangeFacts, PairFacts, agree, change_facts, changed_at, changes_from}
use Rattle.compared_verdicts.specs.ChangeReports.{AreLines, is_other, is_to_drop, is_to_pass, line_of, totals_of, with_changes}
use Rattle.compared_verdicts.specs.declared.change_lines.Change.{Change}
use Rattle.compared_verdicts.specs.declared.change_totals.ChangeTotals.{ChangeTotals}
use Rattle.compared_verdicts.specs.inner.ChangeLines.{line_by, lines_by, lines_told}

-- ---- Lines

lines_told_both : (policy : PolicyFacts) (xs ys : List Change) → lines_told policy (xs ++ ys) ≡ lines_told policy xs ++ lines_told policy ys
lines_told_both policy [] ys = refl
lines_told_both policy (x ∷ xs) ys =
    ap (λ l. line_by policy (change_facts x) ++ l) (lines_told_both policy xs ys)
    ∙ sym (append_assoc (line_by policy (change_facts x)) (lines_told policy xs) (lines_told policy ys))

-- what the code has of changes says this of them
pub told_by : (policy : PolicyFacts) (changes : List Change) → lines_told policy changes ≡ lines_by policy (map change_facts changes)
told_by policy [] = refl
told_by policy (x ∷ xs) = ap (λ l. line_by policy (change_facts x) ++ l) (told_by policy xs)

-- they are the lines
pub are_by : (policy : PolicyFacts) (changes : List ChangeFacts) → AreLines policy changes (lines_by policy changes)
are_by policy [] = refl
are_by policy (x ∷ xs) = (view_at policy x.packet, lines_by policy xs, at_seen policy x.packet, are_by policy xs, refl)

-- and those of others behind them
pub are_both : (policy : PolicyFacts) (xs ys : List ChangeFacts) (s t : List ℕ) → AreLines policy xs s → AreLines policy ys t → AreLines policy (xs ++ ys) (s ++ t)
are_both policy [] ys s t none are = subst (AreLines policy ys) (ap (λ l. l ++ t) (sym none)) are
are_both policy (x ∷ xs) ys s t (view, others, seen, more, is) are = (
  view,
  others ++ t,
  seen,
  are_both policy xs ys others t more are,
  ap (λ l. l ++ t) is ∙ append_assoc (line_of x view) others t,
)

-- ---- Changes

pub changes_of_both : (policies : PairFacts) (n m : ℕ) (vs vs' ws ws' : List Verdict) (ps qs : List PacketFacts) → length vs ≡ length ps
    → length ws ≡ length ps → m ≡ n + length ps
    → changes_from policies n (vs ++ vs') (ws ++ ws') (ps ++ qs) ≡ changes_from policies n vs ws ps ++ changes_from policies m vs' ws' qs
changes_of_both policies n m [] vs' [] ws' [] qs each also next = let same : m ≡ n = omega (arith, next) in rw same refl
changes_of_both policies n m [] vs' (w ∷ ws) ws' [] qs each also next = absurd (omega (arith, also))
changes_of_both policies n m [] vs' ws ws' (p ∷ ps) qs each also next = absurd (omega (arith, each))
changes_of_both policies n m (v ∷ vs) vs' ws ws' [] qs each also next = absurd (omega (arith, each))
changes_of_both policies n m (v ∷ vs) vs' [] ws' (p ∷ ps) qs each also next = absurd (omega (arith, also))
changes_of_both policies n m (v ∷ vs) vs' (w ∷ ws) ws' (p ∷ ps) qs each also next =
    ap (λ l. changed_at policies n v w p ++ l) (changes_of_both policies (n + 1) m vs vs' ws ws' ps qs (omega (arith, each)) (omega (arith, also)) (omega (arith, next)))
    ∙ sym (append_assoc (changed_at policies n v w p) (changes_from policies (n + 1) vs ws ps) (changes_from policies m vs' ws' qs))

changed_once : (policies : PairFacts) (n : ℕ) (v w : Verdict) (p : PacketFacts) (b : Bool) → agree policies p v w ≡ b → length (changed_at policies n v w p) ≤ 1
changed_once policies n v w p true same = rw same (omega arith)
changed_once policies n v w p false same = rw same (omega arith)

pub few_changes : (policies : PairFacts) (n : ℕ) (vs ws : List Verdict) (ps : List PacketFacts) → length (changes_from policies n vs ws ps) ≤ length vs
few_changes policies n [] ws ps = omega arith
few_changes policies n (v ∷ vs) [] ps = omega arith
few_changes policies n (v ∷ vs) (w ∷ ws) [] = omega arith
few_changes policies n (v ∷ vs) (w ∷ ws) (p ∷ ps) =
    let more = few_changes policies (n + 1) vs ws ps in
    let once = changed_once policies n v w p (agree policies p v w) refl in
    let both = length-append (changed_at policies n v w p) (changes_from policies (n + 1) vs ws ps) in
    omega arith

-- the totals over some packets and others behind them
pub totals_more : (xs ys : List ChangeFacts) → with_changes (totals_of xs 0 false) ys ≡ totals_of (xs ++ ys) 0 false
totals_more xs ys =
    let all = sym (length-append xs ys) in
    let drop = sym (sum_by-append (λ c. cond (is_to_drop c) 1 0) xs ys) in
    let pass = sym (sum_by-append (λ c. cond (is_to_pass c) 1 0) xs ys) in
    let other = sym (sum_by-append (λ c. cond (is_other c) 1 0) xs ys) in
    cc

-- no count is more than the packets that are changed
pub few_counted : (xs : List ChangeFacts) (t : ChangeTotals) → t ≡ totals_of xs 0 false
    → (t.changed ≤ length xs) × (t.to_drop ≤ length xs) × (t.to_pass ≤ length xs) × (t.other ≤ length xs)
few_counted xs t is =
    rw is (omega arith, count_by-le-length is_to_drop xs, count_by-le-length is_to_pass xs, count_by-le-length is_other xs)

-- how many of them are of a kind
pub count_facts : (kind : ChangeFacts → Bool) (xs : List Change) → count_by (λ x. kind (change_facts x)) xs ≡ count_by kind (map change_facts xs)
count_facts kind [] = refl
count_facts kind (x ∷ xs) =
    sum_by-append (λ y. cond (kind (change_facts y)) 1 0) (x ∷ []) xs
    ∙ ap (λ n. count_by kind (change_facts x ∷ []) + n) (count_facts kind xs)
    ∙ sym (sum_by-append (λ c. cond (kind c) 1 0) (change_facts x ∷ []) (map change_facts xs))

-- a piece of lines behind those before
pub lines_further : (policy : PolicyFacts) (front piece all : List ℕ) (rest first others : List Change) → front ++ lines_told policy rest ≡ all → rest ≡ first ++ others
    → piece ≡ lines_told policy first → (front ++ piece) ++ lines_told policy others ≡ all
lines_further policy front piece all rest first others whole parted text =
    append_assoc front piece (lines_told policy others) ∙ ap (λ p. front ++ (p ++ lines_told policy others)) text
    ∙ ap (λ l. front ++ l) (sym (lines_told_both policy first others) ∙ ap (lines_told policy) (sym parted)) ∙ whole

-- those from one place to another, behind those before
pub lines_next : (policy : PolicyFacts) (front piece all : List ℕ) (changes first : List Change) (from to : ℕ) → from ≤ to
    → front ++ lines_told policy (drop from changes) ≡ all → first ≡ take (to - from) (drop from changes) → piece ≡ lines_told policy first
    → (front ++ piece) ++ lines_told policy (drop to changes) ≡ all
lines_next policy front piece all changes first from to less whole is text =
    let reached : from + (to - from) ≡ to = omega (arith, less) in
    let behind = drop-drop (to - from) from changes ∙ ap (λ (n : ℕ). drop n changes) reached in
    let parted = sym (take-append-drop (to - from) (drop from changes)) ∙ ap (λ (f : List Change). f ++ drop (to - from) (drop from changes)) (sym is)
    ∙ ap (λ (b : List Change). first ++ b) behind in
    lines_further policy front piece all (drop from changes) first (drop to changes) whole parted text
