-- A returned block is cut: its second halves go into the lists of their sizes, and its first pages are held.
use Rattle.std.proofs.Common.{◌≡◌, ◌≢◌, ◌∙◌, ◌≤◌, ◌<◌, ◌+◌, ◌-◌, ◌*◌, ◌%◌, ◌^◌, ℕ, List, [], ◌∷◌, ◌++◌, Option, Some, None, ap, arith, le_refl, length, length-set, get_or-set_same, get_or-set_other, pow-add, refl, subst, sym, take}
use mathlib.Core.Logic.{dite}
use native.Mathlib.Decide.{ℕ_discrete}
use Rattle.std.proofs.lemmas.List.{length-take-le}
use Rattle.std.specs.Prelude.{slice_index}
use Rattle.bihash_words.specs.Sizes.{IsSound, Sizes}
use Rattle.bihash_rule.specs.Words.{list_words, page_words}
use Rattle.bihash_rule.specs.PageStores.{returned_in}
use Rattle.bihash_steps.specs.StoreCalls.{ReadsStore}
use Rattle.bihash_steps.specs.StoreSteps.{HasRoomFor, MayCut, MayList, TakesBlock, halved, holding, listing, relisted, unlisted}
use Rattle.bihash_steps.specs.Seats.{CallerState, with_view}
use Rattle.bihash_steps.specs.declared.steps_on_page_store.word.PoolWord.TheVariants.{Count, Listed}
use Rattle.bihash_rule.specs.declared.view.HeldBlock.{HeldBlock}
use Rattle.bihash_rule.specs.declared.view.LockedStore.{LockedStore}
use Rattle.bihash_rule.specs.declared.view.PageStore.{PageStore}
use Rattle.bihash_rule.specs.declared.view.View.{View}
use Rattle.bihash_table.specs.inner.Copying.{HasStore}
use Rattle.bihash_table.specs.inner.Taking.{HoldsPages, IsCutDown, TakesCut, TellsCutDown}

-- ---- The lists

pub cut_none : (store : PageStore) (page from : ℕ) → IsCutDown store store page from from
cut_none store page from = record {
  used = refl;
  unpublished = refl;
  wide = refl;
  halves = λ size low high. absurd (omega arith);
  below = λ size low. refl;
  above = λ size high. refl;
}

pub cut_more : (store left : PageStore) (page from m : ℕ) → m < from → m < length left.returned → IsCutDown store left page from (m + 1)
    → IsCutDown store (relisted left m (page + 2 ^ m)) page from m
cut_more store left page from m less listed h =
    let longer : List ℕ = returned_in left m ++ (page + 2 ^ m) ∷ [] in
    let other : (size : ℕ) → size ≢ m → returned_in (relisted left m (page + 2 ^ m)) size ≡ returned_in left size =
    λ size ne. get_or-set_other left.returned m size longer [] ne in
    let here : returned_in (relisted left m (page + 2 ^ m)) m ≡ returned_in store m ++ (page + 2 ^ m) ∷ [] =
    get_or-set_same left.returned m longer [] listed ∙ ap (λ (xs : List ℕ). xs ++ (page + 2 ^ m) ∷ []) (h.below m (omega arith)) in record {
      used = h.used;
      unpublished = h.unpublished;
      wide = length-set left.returned m longer ∙ h.wide;
      halves = λ size low high. dite (ℕ_discrete size m)
          (λ e. subst (λ (k : ℕ). returned_in (relisted left m (page + 2 ^ m)) k ≡ returned_in store k ++ (page + 2 ^ k) ∷ []) (sym e) here)
          (λ ne. other size ne ∙ h.halves size (omega arith) high);
      below = λ size low. other size (λ e. absurd (omega arith)) ∙ h.below size (omega arith);
      above = λ size high. other size (λ e. absurd (omega arith)) ∙ h.above size high;
    }

-- ---- The caller

-- the page that begins the second half, as the code adds it
pub second_page : (z : Sizes) → IsSound z → (page m : ℕ) → page + 2 ^ (m + 1) ≤ z.pages + 1
    → page + 1 * 2 ^ m % 18446744073709551616 ≡ page + 2 ^ m
second_page z sound page m near =
    let few = sound.few_pages in let x : ℕ = 2 ^ m in let e : 2 ^ (m + 1) ≡ x * 2 = pow-add 2 m 1 in omega arith

module _ (z : Sizes) where
  -- what was taken is held
  pub held_then : (v w : View) (store : PageStore) (page log2 : ℕ) → TakesBlock z v store page log2 w → TakesBlock z w store page log2 w
  held_then v w store page log2 t =
      let n : LockedStore = record { store = store; listed = None } in
      let h : HeldBlock = record { page = page; log2 = log2; words = t.words } in record {
        words = t.words;
        size = t.size;
        some_page = t.some_page;
        near = t.near;
        is = t.is ∙ ap (λ (u : View). holding u (Some n) (Some h)) (sym t.is);
      }

  -- what is taken from what was taken before
  pub taken_from : (v u w : View) (store left : PageStore) (page log2 page' log2' : ℕ) → TakesBlock z v store page log2 u
      → TakesBlock z u left page' log2' w → TakesBlock z v left page' log2' w
  taken_from v u w store left page log2 page' log2' t t' =
      let n : LockedStore = record { store = left; listed = None } in
      let h : HeldBlock = record { page = page'; log2 = log2'; words = t'.words } in record {
        words = t'.words;
        size = t'.size;
        some_page = t'.some_page;
        near = t'.near;
        is = t'.is ∙ ap (λ (x : View). holding x (Some n) (Some h)) t.is;
      }

  -- a block of 2 ^ (m + 1) pages is held, and cut
  module _ (v : View) (t : CallerState) (left : PageStore) (page m : ℕ) (small : m ≤ z.max_log2) (block : TakesBlock z v left page (m + 1) t.view) where
    abbrev pub kept : LockedStore
    kept = record { store = left; listed = None }

    abbrev whole : HeldBlock
    whole = record { page = page; log2 = m + 1; words = block.words }

    pub has_kept : t.view.holds.store ≡ Some kept
    has_kept = ap (λ (u : View). u.holds.store) block.is

    has_whole : t.view.holds.block ≡ Some whole
    has_whole = ap (λ (u : View). u.holds.block) block.is

    module _ (u : CallerState) (count : ℕ) (read : ReadsStore z t u (Count m) count) where
      counted : length (returned_in left m) ≡ count
      counted = sym (read.value kept has_kept)

      has_room : count < list_words z m
      has_room = subst (λ (b : Option HeldBlock). HasRoomFor z b (Count m) count) has_whole read.room (omega arith) (le_refl (m + 1))

      pub may_list : MayList z u.view m count
      may_list = record {
        locked = kept;
        store = ap (λ (c : CallerState). c.view.holds.store) read.same ∙ has_kept;
        small = small;
        listed = counted;
        room = has_room;
      }

      module _ (a : CallerState) (second : ℕ) (is_second : second ≡ page + 2 ^ m) (lists : (n : LockedStore) → u.view.holds.store ≡ Some n
          → a ≡ with_view u (holding u.view (Some (listing n m second)) u.view.holds.block)) where
        abbrev noted : LockedStore
        noted = listing kept m (page + 2 ^ m)

        listed_is : a ≡ with_view t (holding t.view (Some noted) t.view.holds.block)
        listed_is = lists kept (ap (λ (c : CallerState). c.view.holds.store) read.same ∙ has_kept)
            ∙ ap (λ (p : ℕ). with_view u (holding u.view (Some (listing kept m p)) u.view.holds.block)) is_second
            ∙ ap (λ (c : CallerState). with_view c (holding c.view (Some noted) c.view.holds.block)) read.same

        has_noted : a.view.holds.store ≡ Some noted
        has_noted = ap (λ (c : CallerState). c.view.holds.store) listed_is

        still_whole : a.view.holds.block ≡ Some whole
        still_whole = ap (λ (c : CallerState). c.view.holds.block) listed_is ∙ has_whole

        pub may_cut : MayCut z a.view m count
        may_cut = record {
          locked = noted;
          store = has_noted;
          block = whole;
          held = still_whole;
          twice = refl;
          small = small;
          page = refl;
          listed = counted;
          room = has_room;
        }

        module _ (b : CallerState) (cuts : (n : LockedStore) (h : HeldBlock) → a.view.holds.store ≡ Some n → a.view.holds.block ≡ Some h
            → b ≡ with_view a (halved z a.view n h m)) where
          halved_is : b ≡ with_view t (halved z t.view noted whole m)
          halved_is = cuts noted whole has_noted still_whole ∙ ap (λ (c : CallerState). with_view c (halved z c.view noted whole m)) listed_is

          -- the same caller, with half the block
          pub half_same : b ≡ with_view t b.view
          half_same = halved_is ∙ ap (λ (c : CallerState). with_view t c.view) (sym halved_is)

          pub half_taken : TakesBlock z v (relisted left m (page + 2 ^ m)) page m b.view
          half_taken =
              let n : ℕ = 2 ^ m * page_words z in
              let e : 2 ^ (m + 1) ≡ 2 ^ m * 2 = pow-add 2 m 1 in
              let both : (2 ^ m * 2) * page_words z ≡ n + n = omega arith in
              let all : length block.words ≡ n + n = block.size ∙ (ap (λ (k : ℕ). k * page_words z) e ∙ both) in
              let near = block.near in let d : ℕ = 2 ^ m in let e' : 2 ^ (m + 1) ≡ d * 2 = e in record {
                words = take n block.words;
                size = length-take-le n block.words (omega arith);
                some_page = block.some_page;
                near = omega arith;
                is = ap (λ (c : CallerState). c.view) halved_is ∙ ap (λ (x : View). halved z x noted whole m) block.is;
              }

  -- ---- A larger block is taken

  module _ (s t u w a : CallerState) (from count page : ℕ) (same : t ≡ s) (read : ReadsStore z t u (Count from) count) (some : 0 < count)
      (last : ReadsStore z u w (Listed from (count - 1)) page)
      (takes : (n : LockedStore) → w.view.holds.store ≡ Some n → TakesBlock z w.view (unlisted n.store from)
      (slice_index (returned_in n.store from) (count - 1)) from a.view)
      (n : LockedStore) (has : HasStore z s.view n) (small : from ≤ z.max_log2) where
    holds_read : t.view.holds.store ≡ Some n
    holds_read = ap (λ (c : CallerState). c.view.holds.store) same ∙ has.held

    there : w ≡ s
    there = last.same ∙ (read.same ∙ same)

    how_many : length (returned_in n.store from) ≡ count
    how_many = sym (read.value n holds_read)

    page_is : page ≡ slice_index (returned_in n.store from) (count - 1)
    page_is = last.value n (ap (λ (c : CallerState). c.view.holds.store) read.same ∙ holds_read)

    got : TakesBlock z s.view (unlisted n.store from) page from a.view
    got = subst (λ (c : CallerState). TakesBlock z c.view (unlisted n.store from) page from a.view) there
        (subst (λ (p : ℕ). TakesBlock z w.view (unlisted n.store from) p from a.view) (sym page_is)
        (takes n (ap (λ (c : CallerState). c.view.holds.store) (last.same ∙ read.same) ∙ holds_read)))

    pub larger_held : HoldsPages z a.view (unlisted n.store from) page from
    larger_held = record {
      block = held_then s.view a.view (unlisted n.store from) page from got;
      wide = length-set n.store.returned from (take (length (returned_in n.store from) - 1) (returned_in n.store from)) ∙ has.wide;
      small = small;
    }

    pub larger_taken : (log2 : ℕ) → log2 < from → ((size : ℕ) → log2 < size → size < from → returned_in n.store size ≡ [])
        → (b : CallerState) → TellsCutDown z a b page from log2 → TakesCut z s.view n.store page log2 b.view
    larger_taken log2 more none b told = let cut = told.cut (unlisted n.store from) larger_held in record {
      from = from;
      larger = more;
      small = small;
      smallest = none;
      some = let e = how_many in omega arith;
      last = page_is ∙ ap (λ (k : ℕ). slice_index (returned_in n.store from) (k - 1)) (sym how_many);
      left = cut.0;
      cut = cut.1;
      block = taken_from s.view a.view b.view (unlisted n.store from) cut.0 page from page log2 got cut.2;
    }
