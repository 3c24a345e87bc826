-- What a view knows of a bucket is a write list, and has each write under its numbers that another view knows.
use Rattle.std.proofs.Common.{◌≡◌, ℕ, zero, suc, ◌∙◌, ◌<◌, ◌≤◌, true, List, [], ◌∷◌, length, get_or, set, ap, arith, inr, refl, subst, sym}
use mathlib.Core.Logic.{dite}
use native.Mathlib.Decide.{dec_lt}
use mathlib.Core.Option.{some, some-ne-none}
use lib.ListN.{get_elem?}
use Rattle.atomic_table.specs.Table.{State}
use Rattle.bihash_words.specs.Maps.{Pairs}
use Rattle.bihash_words.specs.Sizes.{Sizes}
use Rattle.bihash_rule.specs.Words.{buckets, count_of}
use Rattle.bihash_rule.specs.Histories.{IsPrefix, IsWrite, IsWriteList}
use Rattle.bihash_rule.specs.Callers.{HasNumbers, IsLawfulCaller, IsWhole, KnowsOwn, MatchesLog, known_at, opening_at, opening_in}
use Rattle.bihash_rule.specs.declared.view.Openings.{Openings}
use Rattle.bihash_rule.specs.Logs.{IsLogged, writes_on}
use Rattle.bihash_rule.specs.WordRule.{IsInformed, TableState, WordRule}
use Rattle.bihash_rule.specs.declared.view.Entry.{Entry}
use Rattle.bihash_rule.specs.declared.view.Write.{Write}
use Rattle.bihash_rule.specs.declared.view.Record.{Record}
use Rattle.bihash_rule.specs.declared.view.Known.{Known}
use Rattle.bihash_rule.specs.declared.view.View.{View}
use Rattle.atomic_table.proofs.Lists.{set_here}
use Rattle.bihash_steps.proofs.Lists.{within}
use Rattle.bihash_steps.proofs.LogSteps.{is_logged, log_begins}
use Rattle.bihash_steps.proofs.Prefixes.{after_longer, one_begins, prefix_at, prefix_below, prefix_length}

-- the beginning of a write list is one
pub prefix_list : (z : Sizes) (b : ℕ) (opening : Pairs) (K H : List Write) → IsPrefix K H → IsWriteList z b opening H
    → IsWriteList z b opening K
prefix_list z b opening K H begins list = record {
  short = let few = list.short in let less = prefix_length K H begins in omega arith;
  each = λ n w at. let inside = within K n w at in
      subst (λ (m : Pairs). IsWrite z b n m w) (after_longer opening K H n begins (omega arith)) (list.each n w (prefix_at K H n w begins at));
  home = list.home;
}

module _ (z : Sizes) (s : State (Unit {0}) View) (r : WordRule z s) (b : ℕ) (inside : b < buckets z) where
  pub known_list : (known : Known) (records : List Record) → IsInformed z r.table known records → 1 ≤ length records
      → IsWriteList z b (opening_at known b) (known_at known b)
  known_list known records ok has = subst (λ (o : Openings). IsWriteList z b (opening_in o b) (known_at known b)) (sym (ok.opening has))
      (prefix_list z b (opening_in r.table.openings b) (known_at known b) (r.table.bucket b).history (ok.begins b inside) (r.each_bucket b inside).writes)

  -- each write that is known bears the number of a caller that was made
  pub known_bearers : (known : Known) (records : List Record) → IsInformed z r.table known records → (n : ℕ) (w : Write)
      → get_elem? (known_at known b) n ≡ some w → (1 ≤ w.by) × (w.by ≤ count_of s.words)
  known_bearers known records ok n w at = (r.each_bucket b inside).bearers n w (prefix_at (known_at known b) (r.table.bucket b).history n w (ok.begins b inside) at)

pub none_past : (xss : List (List Write)) (b : ℕ) → length xss ≤ b → get_or xss b [] ≡ []
none_past [] b l = refl
none_past (xs ∷ xss) zero l = absurd (omega arith)
none_past (xs ∷ xss) (suc b) l = none_past xss b (omega arith)

-- a view knows each write under its numbers that another view knows
pub knows_own : (z : Sizes) (t : TableState) (known other : Known) (records others : List Record) → IsInformed z t known records
    → IsInformed z t other others → KnowsOwn records known other
knows_own z t known other records others ok ok' b n x at by = dite (dec_lt b (buckets z))
    (λ inside.
    let H : List Write = (t.bucket b).history in
    let there : get_elem? H n ≡ some x = prefix_at (known_at other b) H n x (ok'.begins b inside) at in
    prefix_below (known_at known b) H n x (ok.begins b inside) (ok.own by.0 b n by.1 x by.2 inside there (sym by.3)) there)
    (λ out. let none = none_past other.writes b (let wide = ok'.wide in omega arith) in
    absurd (some-ne-none x (sym (ap (λ (xs : List Write). get_elem? xs n) (sym none) ∙ at))))

-- each history begins with what the log has
abbrev pub BeginsEach : Sizes → TableState → List Entry → Type 0
BeginsEach z t log = (b : ℕ) → b < buckets z → IsPrefix (writes_on b log) (t.bucket b).history

-- what a view knows of the log matches what it, or another, knows of the buckets
pub matches_log : (z : Sizes) (t : TableState) (known : Known) (records : List Record) (log : List Entry) → IsInformed z t known records
    → BeginsEach z t log → MatchesLog known log
matches_log z t known records log ok begins b = dite (dec_lt b (buckets z))
    (λ inside. one_begins (writes_on b log) (known_at known b) (t.bucket b).history (begins b inside) (ok.begins b inside))
    (λ out. inr (subst (λ (xs : List Write). IsPrefix xs (writes_on b log)) (sym (none_past known.writes b (let wide = ok.wide in omega arith)))
    record { rest = writes_on b log; whole = refl }))

-- a view that is informed of the table is a lawful caller's
pub lawful_here : (z : Sizes) (s : State (Unit {0}) View) (r : WordRule z s) (v : View) → 1 ≤ length v.records → HasNumbers v.seen v.records
    → IsInformed z r.table v.known v.records → (v.lone ≡ true → IsWhole v.records (count_of s.words))
    → IsLogged z v.known.openings v.log v.records × BeginsEach z r.table v.log → IsLawfulCaller z v
lawful_here z s r v acts numbers ok whole logged = record {
  acts = acts;
  numbers = numbers;
  lawful = ok.lawful;
  lists = λ b inside. known_list z s r b inside v.known v.records ok acts;
  made = λ lone b inside n w at. let by = known_bearers z s r b inside v.known v.records ok n w at in whole lone w.by by.0 by.1;
  logged = logged.0;
  matches = matches_log z r.table v.known v.records v.log ok logged.1;
}

-- what the view of a seat knows of the log is a log
pub logged_at : (z : Sizes) (s : State (Unit {0}) View) (r : WordRule z s) (id : ℕ) (v : View) → get_elem? s.views id ≡ some v
    → 1 ≤ length v.records → IsLogged z v.known.openings v.log v.records × BeginsEach z r.table v.log
logged_at z s r id v at acts = (
  is_logged z r.table.openings (λ b. (r.table.bucket b).history) s.views id v r.logged at ((r.each_view id v at).informed.opening acts),
  log_begins z r.table.openings (λ b. (r.table.bucket b).history) s.views id v r.logged at,
)

-- the caller of each view that has a number is lawful
pub lawful_at : (z : Sizes) (s : State (Unit {0}) View) → WordRule z s → (id : ℕ) (v : View) → get_elem? s.views id ≡ some v
    → 1 ≤ length v.records → IsLawfulCaller z v
lawful_at z s r id v at acts = let ok = r.each_view id v at in lawful_here z s r v acts ok.numbers ok.informed ok.lone
    (logged_at z s r id v at acts)

-- also that of a view that was just set
pub lawful_set : (z : Sizes) (words : List ℕ) (s : State (Unit {0}) View) (id : ℕ) (v w : View) → get_elem? s.views id ≡ some v
    → 1 ≤ length w.records → WordRule z record { words = words; homes = s.homes; views = set s.views id w } → IsLawfulCaller z w
lawful_set z words s id v w at acts r =
    lawful_at z record { words = words; homes = s.homes; views = set s.views id w } r id w (set_here s.views id w (within s.views id v at)) acts
