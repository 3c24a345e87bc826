-- What a lone caller knows of a bucket is its whole history.
use Rattle.std.proofs.Common.{◌≡◌, ℕ, zero, suc, ◌<◌, ◌≤◌, true, List, [], ◌∷◌, ◌++◌, length, refl, sym, ap, ◌∙◌, arith, length-append, append-nil}
use mathlib.Core.Option.{some}
use lib.ListN.{get_elem?}
use Rattle.atomic_table.specs.Table.{State}
use Rattle.bihash_words.specs.Sizes.{Sizes}
use Rattle.bihash_rule.specs.Words.{count_of, buckets}
use Rattle.bihash_rule.specs.Histories.{IsPrefix}
use Rattle.bihash_rule.specs.Callers.{known_at}
use Rattle.bihash_rule.specs.WordRule.{IsView, WordRule}
use Rattle.bihash_rule.specs.declared.view.Write.{Write}
use Rattle.bihash_rule.specs.declared.view.View.{View}
use Rattle.bihash_steps.proofs.Lists.{there}

-- a beginning that is no shorter than the whole is the whole
pub prefix_whole : (xs ys : List Write) → IsPrefix xs ys → length ys ≤ length xs → xs ≡ ys
prefix_whole xs ys p l = go p.rest p.whole (let e = ap length p.whole in let a = length-append xs p.rest in omega arith)
  where
    go : (rest : List Write) → ys ≡ xs ++ rest → length rest ≡ 0 → xs ≡ ys
    go [] whole e = sym (whole ∙ append-nil xs)
    go (w ∷ ws) whole e = absurd (omega arith)

-- each write of the bucket bears a number of a lone caller, so it knows it
pub whole_known : (z : Sizes) (s : State (Unit {0}) View) (r : WordRule z s) (id b : ℕ) (v : View) → get_elem? s.views id ≡ some v
    → v.lone ≡ true → b < buckets z → known_at v.known b ≡ (r.table.bucket b).history
whole_known z s r id b v at lone inside = prefix_whole known history (ok.informed.begins b inside) (long (length history) refl)
  where
    known : List Write
    known = known_at v.known b

    history : List Write
    history = (r.table.bucket b).history

    ok : IsView z s.words (count_of s.words) r.table id v
    ok = r.each_view id v at

    long : (n : ℕ) → length history ≡ n → length history ≤ length known
    long zero e = omega arith
    long (suc n) e =
        let last = there history n (omega arith) in
        let by = (r.each_bucket b inside).bearers n last.0 last.1 in
        let mine = ok.lone lone last.0.by by.0 by.1 in
        let reached : n < length known = ok.informed.own mine.0 b n mine.1 last.0 mine.2 inside last.1 (sym mine.3) in omega arith
