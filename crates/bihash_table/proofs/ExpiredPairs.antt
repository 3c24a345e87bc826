-- A new pair that takes the place of an expired one in a full bucket, and its refusal where no pair is expired.
use Rattle.std.proofs.Common.{◌≡◌, ◌∙◌, ◌<◌, ◌≤◌, ◌/◌, ◌==◌, ◌++◌, ℕ, Bool, true, false, true≢false, not, ap, arith, refl, subst, sym, List, [], ◌∷◌, length, Option, Some, None}
use Rattle.std.specs.Prelude.{◌||◌}
use Rattle.std.proofs.lemmas.Bool.{eqb-true}
use Rattle.std.specs.Cmp.Lexicographic.{slice_cmp}
use Rattle.std.specs.FinMap.{get, insert, len, remove}
use Rattle.std.specs.Ordering.{nat_cmp}
use Rattle.bihash_words.specs.Blocks.{IsOpen}
use Rattle.bihash_words.specs.Expiries.{expired_words}
use Rattle.bihash_words.specs.Maps.{Answers, Bounds, Case, Event, IsEvent, IsSpare, NoRoom, Pairs, case_with, effect_of, most_pairs, removed_in, spare}
use Rattle.bihash_words.specs.Pages.{page_of, paging_of}
use Rattle.bihash_words.specs.Patches.{free_mark}
use Rattle.bihash_words.specs.Sizes.{Sizes, sizes_of}
use Rattle.bihash_words.specs.declared.patch.Change.TheVariants.{Set}
use Rattle.bihash_words.specs.declared.patch.Reply.TheVariants.{Changed, Full}
use Rattle.bihash_words.specs.declared.shape.Shape.{Ghosts}
use Rattle.bihash_words.proofs.SpareLemmas.{among_words, counted_told, none_spare, not_counted, spare_only}
use Rattle.bihash_plan.specs.Recycles.{IsLeastExpired, IsMarked, NoneIsExpired}
use Rattle.bihash_plan.specs.declared.recycled_place.Recycle.{Recycle}
use Rattle.bihash_rule.specs.Blocks.{HoldsPair, IsBlockOf, places}
use Rattle.bihash_steps.specs.BucketSteps.{Enters, MayMark, acting, call_of, map_now, view_after_write, with_lock}
use Rattle.bihash_rule.specs.Callers.{IsLawfulCaller, known_at}
use Rattle.bihash_rule.specs.Histories.{bounds_of, bucket_of, write_of}
use Rattle.bihash_steps.specs.Seats.{CallerState, with_view}
use Rattle.bihash_rule.specs.declared.view.Extent.{Extent}
use Rattle.bihash_rule.specs.declared.view.Holdings.{Holdings}
use Rattle.bihash_rule.specs.declared.view.LockedBucket.{LockedBucket}
use Rattle.bihash_rule.specs.declared.view.View.{View}
use Rattle.bihash_table.specs.Answers.{locks_of, recycled_update}
use Rattle.bihash_table.specs.Promise.{IsAnswered, IsEntered}
use Rattle.bihash_table.specs.Tries.{FinishedOver}
use Rattle.bihash_table.specs.inner.Locked.{HasLock, IsSpareFor, TakesPlace}
use Rattle.bihash_rule.specs.Places.{ArePlaces}
use Rattle.bihash_table.specs.inner.Stores.{HasStored}
use Rattle.bihash_table.proofs.Blocks.{replaced_block}
use Rattle.bihash_table.proofs.Bridge.{as_place, as_words}
use Rattle.bihash_table.proofs.PlaceWrites.{IsValueStored, with_value}
use Rattle.bihash_table.proofs.NewPairs.{crowded_row}
use Rattle.bihash_table.proofs.LockCounts.{took_no_lock}
use Rattle.bihash_table.proofs.PairReads.{pair_value}
use Rattle.bihash_table.proofs.LockReleases.{written_from_lock}
use Rattle.bihash_table.proofs.SameCallers.{view_entered, write_entered}
use Rattle.bihash_table.proofs.StoredWords.{key_stored, stored_is, stored_placed, value_stored}

-- ---- The rows of a call

module _ (b : Bounds) (m : Pairs) (n : ℕ) (key : List ℕ) (value : ℕ) (is_expired : ℕ → Bool)
    (unworn : n < b.limit) (full : most_pairs b ≤ len m) (absent : get m key ≡ None) where
  -- a new key takes the place of the least expired one
  pub recycles : (gone : List ℕ) → IsSpare m (expired_words is_expired) gone → (found : Option ℕ) → found ≡ get m key
      → IsEvent b m n (recycled_update key found (Set value) is_expired (Some gone) (Changed found))
      (insert (remove m gone) key value)
  recycles gone goes found is = record {
    found = is;
    removed = sym (ap (λ (r : Case). removed_in r m (expired_words is_expired)) row
        ∙ spare_only m (expired_words is_expired) gone goes);
    answers = subst (λ (r : Case). Answers r b m
        (recycled_update key found (Set value) is_expired (Some gone) (Changed found)) (insert (remove m gone) key value))
        (sym row) (ap Changed (is ∙ absent), refl);
  }
    where
      row : case_with b (len m) n found (effect_of (Set value) found) ≡ NoRoom
      row = ap (λ (f : Option ℕ). case_with b (len m) n f (effect_of (Set value) f)) (is ∙ absent)
          ∙ crowded_row b (len m) n value unworn full

  -- it is refused where no value counts as expired
  pub refuses : spare m (expired_words is_expired) ≡ None
      → IsEvent b m n (recycled_update key None (Set value) is_expired None Full) m
  refuses none = let row = crowded_row b (len m) n value unworn full in record {
    found = sym absent;
    removed = sym (ap (λ (r : Case). removed_in r m (expired_words is_expired)) row ∙ none);
    answers = subst (λ (r : Case). Answers r b m (recycled_update key None (Set value) is_expired None Full) m) (sym row) (refl, refl);
  }

-- ---- What the places tell

is_set : (t : Bool) → false ≡ not t → t ≡ true
is_set true is = refl
is_set false is = absurd (true≢false (sym is))

-- the place is open to the key where the block has the mark that was planned
open_of_mark : (was : Bool) (page i : ℕ) (linear : Bool) → linear ≡ (was || not (i / 4 == page)) → IsOpen linear page i
open_of_mark was page i true is = tt
open_of_mark true page i false is = absurd (true≢false (sym is))
open_of_mark false page i false is = eqb-true (i / 4) page (is_set (i / 4 == page) is)

module _ {A K : Type 0} (g : Ghosts A K) (e : Extent) (block : List ℕ) (ps : List (K × ℕ)) (are : ArePlaces g ps block)
    (count : length ps ≡ places e.page e.size.log2) (key : K) (is_expired : ℕ → Bool) where
  pub spare_for : (r : Recycle) (gone : K) (h : IsLeastExpired g.words_of is_expired ps r.place)
      → IsMarked (paging_of g) e.size key r → gone ≡ h.key
      → IsSpareFor (sizes_of g) (g.words_of key) (g.words_of gone) is_expired r.linear r.place e block
  spare_for r gone h mark same = record {
    value = h.value;
    pair = subst (λ (k : K). HoldsPair (sizes_of g) e block (g.words_of k) h.value r.place) (sym same)
        (as_words g e block ps are count h.key h.value r.place h.pair);
    word = h.word;
    expired = h.expired;
    least = λ other v j p counts more. let q = as_place g e block ps are count key other v j p in
        h.least q.0 v j q.1 counts ((λ i. slice_cmp nat_cmp (g.words_of (sym same i)) (sym q.2 i)) ∙ more);
    open_to = open_of_mark e.size.linear (page_of (paging_of g) e.size.log2 key) r.place r.linear mark;
    stays = λ was. mark ∙ ap (λ (t : Bool). t || not (r.place / 4 == page_of (paging_of g) e.size.log2 key)) was;
  }

  pub none_goes : (m : Pairs) → IsBlockOf (sizes_of g) e block m → NoneIsExpired is_expired ps
      → spare m (expired_words is_expired) ≡ None
  none_goes m pairs none = (none_spare m (expired_words is_expired)).0 (λ k v found.
      let f = pairs.map.found k v found in
      let q = as_place g e block ps are count key k v f.0 f.1 in
      not_counted is_expired v (none q.0 v f.0 q.1))

pub goes : (z : Sizes) (key gone : List ℕ) (is_expired : ℕ → Bool) (linear : Bool) (i : ℕ) (e : Extent) (block : List ℕ) (m : Pairs)
    → IsSpareFor z key gone is_expired linear i e block → IsBlockOf z e block m → IsSpare m (expired_words is_expired) gone
goes z key gone is_expired linear i e block m h pairs = record {
  value = h.value;
  stands = pairs.map.mapped gone h.value i h.pair;
  counts = among_words is_expired h.value h.word ∙ h.expired;
  least = λ k other found counts. let f = pairs.map.found k other found in
      h.least k other f.0 f.1 (counted_told is_expired other counts);
}

-- ---- Under the lock

module _ (z : Sizes) (v : View) (b word : ℕ) (l : LockedBucket) (has : HasLock z v b word l) (key : List ℕ)
    (long : length key ≡ z.key_words) (home : bucket_of z key ≡ b) (unworn : length (known_at v.known b) < z.limit)
    (gone : List ℕ) (is_expired : ℕ → Bool) (linear : Bool) (i value : ℕ)
    (takes : TakesPlace z key gone is_expired linear i l.extent l.now) (storable : value < free_mark)
    (w : View) (h : HasStored z v w l i key z.key_words) (w' : View)
    (is : IsValueStored z w (record l { now = h.now; stored = h.stored }) i value w') where
  abbrev e : Event
  e = recycled_update key None (Set value) is_expired (Some gone) (Changed None)

  abbrev m : Pairs
  m = map_now v b

  inside : i < places l.extent.page l.extent.size.log2
  inside = takes.2.pair.pair.0

  absent : get m key ≡ None
  absent = sym (pair_value z l.extent l.now key m None takes.0 has.pairs)

  filled_is : w' ≡ with_lock v (Some (record l { now = with_value z h.now i value; stored = true }))
  filled_is = stored_is z v b word l has w i inside key z.key_words h w' z.key_words value is

  step : (found : Option ℕ) → found ≡ get m key
      → IsEvent (bounds_of z) m (length (known_at v.known b))
      (recycled_update key found (Set value) is_expired (Some gone) (Changed found)) (insert (remove m gone) key value)
  step = recycles (bounds_of z) m (length (known_at v.known b)) key value is_expired unworn (takes.1 m has.pairs) absent gone
      (goes z key gone is_expired linear i l.extent l.now m takes.2 has.pairs)

  pub may_recycle : MayMark z w' b word linear (call_of w' b 1 e)
  may_recycle = subst (λ (u : View). MayMark z u b word linear (call_of u b 1 e)) (sym filled_is) (record {
    write = record {
      lock = record l { now = with_value z h.now i value; stored = true };
      held = refl;
      bucket = has.bucket;
      version = has.version;
      fits = has.fits;
      stood = has.stood;
      unworn = unworn;
      call = refl;
      stamp = refl;
      found = sym absent;
      reply = refl;
      store = refl;
      write = record {
        key = record { long = long; home = home };
        storable = storable;
        changes = record {
          found = (step (get m key) refl).found;
          removed = (step (get m key) refl).removed;
          answers = (step (get m key) refl).answers;
        };
      };
    };
    pairs = replaced_block z l.extent l.now (with_value z h.now i value) m i has.pairs
        (stored_placed z v b word l has w i inside key z.key_words h w' z.key_words value is (omega arith))
        linear gone key takes.2.value value takes.2.pair absent takes.2.open_to takes.2.stays storable
        (key_stored z v b word l has w i inside key z.key_words h w' value refl long is)
        (value_stored z v b word l has w i inside key z.key_words h w' value refl long is);
  })

  pub recycled : (u : View) → Enters z w' (call_of w' b 1 e) (view_after_write w' (call_of w' b 1 e)) u → IsAnswered z v u e
  recycled u entered =
      let after : View → View = λ x. record (view_after_write x (call_of x b 1 e)) { log = u.log } in
      let all : u ≡ after (with_lock v (Some (record l { now = with_value z h.now i value; stored = true }))) = view_entered entered ∙ ap after filled_is in
      let here : View = record (view_after_write v (call_of v b 1 e)) { log = u.log } in
      let notes = ap (λ (x : View). x.notes) all in
      written_from_lock z v u b word l e has home refl
      (all ∙ (ap (λ (h : Holdings). record here { holds = record h { bucket = None } }) has.held
      ∙ ap (λ n. record here { holds = record { bucket = None; store = None; block = None }; notes = n }) (sym notes)))
      (subst (λ (x : View). IsEntered x.log (acting x.records) (call_of x b 1 e) u.log
      (known_at x.known b ++ write_of (acting x.records) (call_of x b 1 e) ∷ [])) filled_is (write_entered entered refl))

-- the end of a try that entered its pair so
pub finished_recycled : {A K : Type 0} (g : Ghosts A K) (s t : CallerState) (key : K) (value : ℕ) (is_expired : ℕ → Bool)
    (gone : List ℕ) (old : ℕ) → is_expired old ≡ true → t ≡ with_view s t.view → IsLawfulCaller (sizes_of g) t.view
    → locks_of t.view.records ≡ locks_of s.view.records
    → IsAnswered (sizes_of g) s.view t.view
    (recycled_update (g.words_of key) None (Set value) is_expired (Some gone) (Changed None))
    → FinishedOver g s t key None (Set value) is_expired (Changed None)
finished_recycled g s t key value is_expired gone old expired same lawful locks answered = record {
  tried = record {
    same = same;
    answered = record { removed = Some gone; answered = answered; expired = λ _ _. (old, expired) };
    no_pages = λ log2 left short. absurd (let c : ⊥ = cc in c);
    locks = took_no_lock s.view t.view locks 1;
    contended = tt;
    lone = λ _. refl;
    lawful = lawful;
  };
  paid = refl;
  no_lock = locks;
}
