-- Callers of workers, split and joined.
use Rattle.std.proofs.Common.{◌≡◌, ◌∙◌, List, [], ◌∷◌, ◌++◌, ap, refl, subst, sym}
use Rattle.std.specs.List.{All, AllZip}
use Rattle.std.proofs.lemmas.List.Elements.{All-cons, All-head, All-nil, All-tail}
use Rattle.packet_view.specs.declared.tuple.Family.{Family}
use Rattle.bihash_words.specs.Sizes.{Sizes}
use Rattle.bihash_rule.specs.Callers.{IsConsistent}
use Rattle.bihash_steps.specs.Steps.{view_after_join}
use Rattle.bihash_rule.specs.declared.view.Known.{Known}
use Rattle.bihash_rule.specs.declared.view.Record.{Record}
use Rattle.bihash_rule.specs.declared.view.View.{View}
use Rattle.flow_dealing.specs.AgeingTraces.{Deed, HaveDeeds}
use Rattle.flow_dealing.proofs.TraceMerges.{HasCalls}
use Rattle.flow_dealing.specs.Wanted.{HasWanted}
use Rattle.flow_workers.proofs.WantedLemmas.{joined_wanted}

-- one record before others
with_deeds : (family : Family) (t : List Deed) (ts : List (List Deed)) (rs qs : List Record)
    → AllZip (HasCalls family) (t ∷ []) rs → AllZip (HasCalls family) ts qs
    → AllZip (HasCalls family) (t ∷ ts) (rs ++ qs)
with_deeds family t ts [] qs one more = absurd one
with_deeds family t ts (r ∷ []) qs one more = (one.0, more)
with_deeds family t ts (r ∷ q ∷ rs) qs one more = absurd one.1

pub joined_deeds : (v w : View) → IsConsistent v.known w.known → (z : Sizes) (family : Family)
    (t : List Deed) (ts : List (List Deed)) → HaveDeeds z family (t ∷ []) v → HaveDeeds z family ts w
    → HaveDeeds z family (t ∷ ts) (view_after_join v w)
joined_deeds v w agree z family t ts one more = record {
  records = with_deeds family t ts v.records w.records one.records more.records;
  openings = one.openings;
  wanted = joined_wanted z v w agree one.wanted more.wanted;
}

-- the same records over the same writes
pub same_deeds : (z : Sizes) (family : Family) (ts : List (List Deed)) (v w : View)
    → w.records ≡ v.records → w.known ≡ v.known → HaveDeeds z family ts v → HaveDeeds z family ts w
same_deeds z family ts v w did known had = record {
  records = subst (AllZip (HasCalls family) ts) (sym did) had.records;
  openings = ap (λ (k : Known). k.openings) known ∙ had.openings;
  wanted = subst (λ k. All (λ r. All (HasWanted z k) r.calls) w.records) (sym known)
      (subst (All (λ r. All (HasWanted z v.known) r.calls)) (sym did) had.wanted);
}

-- ---- The last of a list

pub all_but_last : {X : Type 0} (P : X → Type 0) (xs : List X) (x : X) → All P (xs ++ x ∷ []) → All P xs × P x
all_but_last P [] x all = (All-nil P, All-head P x [] all)
all_but_last P (y ∷ ys) x all = let rest = all_but_last P ys x (All-tail P y (ys ++ x ∷ []) all) in
    (All-cons P y ys (All-head P y (ys ++ x ∷ []) all) rest.0, rest.1)

pub record LastOf {X Y : Type 0} (R : X → Y → Type 0) (xs : List X) (ys : List Y) (y : Y) : Type 0 where
  pub front : List X
  pub last : X
  pub split : xs ≡ front ++ last ∷ []
  pub others : AllZip R front ys
  pub one : R last y

pub last_of : {X Y : Type 0} (R : X → Y → Type 0) (xs : List X) (ys : List Y) (y : Y) → AllZip R xs (ys ++ y ∷ [])
    → LastOf R xs ys y
last_of R [] [] y all = absurd all
last_of R [] (z ∷ zs) y all = absurd all
last_of R (x ∷ []) [] y all = record { front = []; last = x; split = refl; others = tt; one = all.0 }
last_of R (x ∷ w ∷ ws) [] y all = absurd all.1
last_of R (x ∷ xs) (z ∷ zs) y all = let rest = last_of R xs zs y all.1 in record {
  front = x ∷ rest.front;
  last = rest.last;
  split = ap (λ k. x ∷ k) rest.split;
  others = (all.0, rest.others);
  one = rest.one;
}

pub no_deeds : {X Y : Type 0} (R : X → Y → Type 0) (xs : List X) (ys : List Y) → ys ≡ [] → AllZip R xs ys → xs ≡ []
no_deeds R [] ys none all = refl
no_deeds R (x ∷ xs) [] none all = absurd all
no_deeds R (x ∷ xs) (y ∷ ys) none all = let f : ⊥ = cc in absurd f
