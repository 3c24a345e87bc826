-- What the bounded map answers, case by case of what was found and decided.
use Rattle.std.proofs.Common.{◌≡◌, ◌≢◌, ◌∙◌, ◌<◌, ℕ, ap, arith, refl, sym, subst, inl, ne_eqb, List, Option, Some, None}
use Rattle.std.proofs.lemmas.Bool.{lt-ltb, le-ltb}
use Rattle.std.specs.FinMap.{get, len}
use Rattle.std.specs.Prelude.{if◌then◌else◌, nat_lt}
use Rattle.bihash_words.specs.declared.patch.Change.{Change}
use Rattle.bihash_words.specs.declared.patch.Change.TheVariants.{Keep, Set, Remove}
use Rattle.bihash_words.specs.declared.patch.Reply.TheVariants.{Changed, Kept, Worn}
use Rattle.bihash_words.specs.Maps.{Answers, Bounds, NoRoom, NewKey, WornOut, Pairs, OldKey, IsEvent, changed, effect_of, most_pairs, case_with}
use Rattle.bihash_words.proofs.MapLemmas.{none_removed}
use Rattle.bihash_steps.specs.BucketCalls.{event}

-- a decision that changes nothing
pub kept_step : (b : Bounds) (m : Pairs) (n : ℕ) (key : List ℕ) (found : Option ℕ) (change : Change)
    → found ≡ get m key → effect_of change found ≡ Keep
    → IsEvent b m n (event key found change (Kept found)) m
kept_step b m n key found change is idle = record {
  found = is;
  removed = sym (none_removed _ m);
  answers = subst (λ c. Answers (case_with b (len m) n found c) b m (event key found change (Kept found)) m)
      (sym idle) (refl, refl);
}

exhausted : (b : Bounds) (pairs n : ℕ) (found : Option ℕ) (effect : Change) → effect ≢ Keep → n ≡ b.limit
    → case_with b pairs n found effect ≡ WornOut
exhausted b pairs n found Keep wanted is = absurd (wanted refl)
exhausted b pairs n None (Set value) wanted is =
    ap (λ t. if t then (if nat_lt pairs (most_pairs b) then NewKey else NoRoom) else WornOut)
    (le-ltb n b.limit (omega arith))
exhausted b pairs n (Some old) (Set value) wanted is =
    ap (λ t. if t then OldKey else WornOut) (le-ltb n b.limit (omega arith))
exhausted b pairs n found Remove wanted is =
    ap (λ t. if t then OldKey else WornOut) (le-ltb n b.limit (omega arith))

-- a change where the map may not change any more
pub worn_step : (b : Bounds) (m : Pairs) (n : ℕ) (key : List ℕ) (found : Option ℕ) (change : Change)
    → found ≡ get m key → effect_of change found ≢ Keep → n ≡ b.limit
    → IsEvent b m n (event key found change (Worn found)) m
worn_step b m n key found change is wanted worn = record {
  found = is;
  removed = sym (none_removed _ m);
  answers = subst (λ r. Answers r b m (event key found change (Worn found)) m)
      (sym (exhausted b (len m) n found (effect_of change found) wanted worn)) (refl, refl);
}

-- a key that is there gets another value
pub set_step : (b : Bounds) (m : Pairs) (n : ℕ) (key : List ℕ) (old value : ℕ) → Some old ≡ get m key
    → value ≢ old → n < b.limit
    → IsEvent b m n (event key (get m key) (Set value) (Changed (get m key))) (changed m key (Set value))
set_step b m n key old value is other room = record {
  found = refl;
  removed = sym (none_removed _ m);
  answers = subst (λ o. Answers (case_with b (len m) n o (effect_of (Set value) o)) b m
      (event key o (Set value) (Changed o)) (changed m key (Set value))) is
      (subst (λ r. Answers r b m (event key (Some old) (Set value) (Changed (Some old))) (changed m key (Set value))) (sym row) (refl, refl));
}
  where
    row : case_with b (len m) n (Some old) (effect_of (Set value) (Some old)) ≡ OldKey
    row = ap (λ t. case_with b (len m) n (Some old) (if t then Keep else Set value)) (ne_eqb old value (λ e. other (sym e)))
        ∙ ap (λ t. if t then OldKey else WornOut) (lt-ltb n b.limit room)

-- a key that is there goes
pub remove_step : (b : Bounds) (m : Pairs) (n : ℕ) (key : List ℕ) (old : ℕ) → Some old ≡ get m key
    → n < b.limit
    → IsEvent b m n (event key (get m key) Remove (Changed (get m key))) (changed m key Remove)
remove_step b m n key old is room = record {
  found = refl;
  removed = sym (none_removed _ m);
  answers = subst (λ o. Answers (case_with b (len m) n o (effect_of Remove o)) b m (event key o Remove (Changed o)) (changed m key Remove)) is
      (subst (λ r. Answers r b m (event key (Some old) Remove (Changed (Some old))) (changed m key Remove))
      (sym (ap (λ t. if t then OldKey else WornOut) (lt-ltb n b.limit room))) (refl, refl));
}

entering : (b : Bounds) (pairs n value : ℕ) → n < b.limit → pairs < most_pairs b
    → case_with b pairs n None (Set value) ≡ NewKey
entering b pairs n value room few =
    ap (λ t. if t then (if nat_lt pairs (most_pairs b) then NewKey else NoRoom) else WornOut) (lt-ltb n b.limit room)
    ∙ ap (λ t. if t then NewKey else NoRoom) (lt-ltb pairs (most_pairs b) few)

-- a new key finds room
pub enter_step : (b : Bounds) (m : Pairs) (n : ℕ) (key : List ℕ) (value : ℕ) → None ≡ get m key
    → n < b.limit → len m < most_pairs b
    → IsEvent b m n (event key (get m key) (Set value) (Changed (get m key))) (changed m key (Set value))
enter_step b m n key value is room few = record {
  found = refl;
  removed = sym (none_removed _ m);
  answers = subst (λ o. Answers (case_with b (len m) n o (effect_of (Set value) o)) b m
      (event key o (Set value) (Changed o)) (changed m key (Set value))) is
      (subst (λ r. Answers r b m (event key None (Set value) (Changed None)) (changed m key (Set value)))
      (sym (entering b (len m) n value room few)) (inl (refl, refl)));
}
