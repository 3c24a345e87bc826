-- What a plan on the places of a block says of its bucket, for a new key that finds no place in it.
use Rattle.std.proofs.Common.{◌≡◌, ◌∙◌, ◌<◌, ◌≤◌, ◌+◌, ◌*◌, ◌^◌, ◌⊎◌, ◌∷◌, ℕ, Bool, true, false, List, [], None, ap, arith, get_or, inl, inr, length, length-take, pow_pos, refl, subst, sym, take, ⊎_elim}
use Rattle.std.specs.FinMap.{get, len}
use Rattle.std.proofs.lemmas.Option.{slice_get-get_or}
use Rattle.bihash_words.specs.declared.shape.Shape.{Ghosts}
use Rattle.bihash_words.specs.Maps.{Pairs, most_pairs}
use Rattle.bihash_words.specs.Sizes.{sizes_of}
use Rattle.bihash_words.specs.declared.block_size.BlockSize.{BlockSize}
use Rattle.bihash_words.specs.Blocks.{HoldsMap}
use Rattle.bihash_words.specs.Pages.{Paging, page_of, paging_of}
use Rattle.bihash_words.proofs.BlockLemmas.{open_of_page}
use Rattle.bihash_plan.specs.Blocks.{HasKey, HasPairAt, IsCrowded, IsFree, IsLawfulBlock, IsNew}
use Rattle.bihash_plan.specs.Layouts.{IsNamed}
use Rattle.bihash_plan.specs.Plans.{CanBecomeLinear, IsExhausted, IsGrowth, IsPlan}
use Rattle.bihash_plan.specs.Searches.{IsOnlyPlan}
use Rattle.bihash_plan.specs.declared.plan_answer.Plan.{Plan}
use Rattle.bihash_plan.specs.declared.plan_answer.Plan.TheVariants.{Full, Grow, InPlace}
use Rattle.bihash_plan.proofs.Places.{free_at, free_inside}
use Rattle.bihash_rule.specs.Words.{block_words}
use Rattle.bihash_rule.specs.Histories.{bounds_of}
use Rattle.bihash_rule.specs.Blocks.{IsBlockOf, free, places, value_in}
use Rattle.bihash_rule.specs.declared.view.Extent.{Extent}
use Rattle.bihash_steps.specs.BucketSteps.{map_now}
use Rattle.bihash_rule.specs.declared.view.PageStore.{PageStore}
use Rattle.bihash_rule.specs.declared.view.View.{View}
use Rattle.bihash_table.specs.inner.Taking.{LacksPages}
use Rattle.bihash_rule.specs.Places.{ArePlaces, IsCrowdedFor}
use Rattle.bihash_plan.specs.Wants.{IsPlanned}
use Rattle.bihash_table.specs.OutOfPages.{IsOutOfPages}
use Rattle.bihash_table.proofs.Bridge.{AreKeyWords, AreKeysOf, are_keys, count_places, hold_map, lawful_places}
use Rattle.bihash_table.proofs.Count.{few_pairs, few_places, full_block}
use Rattle.bihash_table.proofs.StoreLemmas.{Bears}

-- as many places are read as the block has
pub places_read : {X : Type 0} (page first log2 count most : ℕ) (xs : List X)
    → page ≡ first → count ≡ places first log2 → count ≤ most → length xs ≡ most
    → length (take count xs) ≡ places page log2
places_read page first log2 count most xs page_at is few long =
    let all : length (take count xs) ≡ count = omega (arith, length-take count xs, few, long) in
    all ∙ is ∙ ap (λ n. places n log2) (sym page_at)

exhausted : {K : Type 0} (paging : Paging K) (log2 : ℕ) (linear : Bool) (ps : List (K × ℕ)) (key : K)
    → IsExhausted paging log2 linear ps key
    → (paging.max_log2 < log2 + 1) × (CanBecomeLinear paging log2 linear ps → ⊥) × (1 ≤ length ps)
exhausted paging log2 linear [] key none = absurd none
exhausted paging log2 linear (p ∷ ps) key e = (e.0, e.1, omega arith)

-- why a block grows: there was none, it is below the greatest size, or it has a free place
grows : {K : Type 0} (paging : Paging K) (log2 : ℕ) (linear : Bool) (ps : List (K × ℕ)) (key : K) (size : ℕ)
    (mark : Bool)
    → IsGrowth paging log2 linear ps key size mark
    → (length ps ≡ 0) ⊎ ((log2 < paging.max_log2) ⊎ ((i : ℕ) × IsFree ps i))
grows paging log2 linear [] key size mark g = inl refl
grows paging log2 linear (p ∷ ps) key size false g =
    let room = g.0.0 in
    elim g.1 [
      | inl one ↦ inr (inl (omega arith))
      | inr two ↦ let is = two.0 in inr (inl (omega arith))
    ]
grows paging log2 linear (p ∷ ps) key size true g =
    elim g.1 [
      | inl twice ↦ let is = twice.0 in let few = twice.1 in inr (inl (omega arith))
      | inr same ↦ inr (inr same.1.2)
    ]

module _ {A K : Type 0} (g : Ghosts A K) (keys : AreKeyWords g) (e : Extent) (block : List ℕ) (m : Pairs) (key : K)
    (size : length block ≡ block_words (sizes_of g) e.page e.size.log2) (held : IsBlockOf (sizes_of g) e block m)
    (crowded : IsCrowdedFor (sizes_of g) e block (g.words_of key))
    (absent : get m (g.words_of key) ≡ None) (ps : List (K × ℕ)) (are : ArePlaces g ps block) where
  count : length ps ≡ places e.page e.size.log2
  count = count_places g e.page e.size.log2 block ps size are

  pub lawful : IsLawfulBlock (paging_of g) e.size.log2 e.size.linear ps
  lawful = lawful_places g keys e block ps m size held are

  pub hold : HoldsMap g.words_of (HasPairAt ps) m
  hold = hold_map g keys e block ps m size held are

  pub of_keys : AreKeysOf g m
  of_keys = are_keys g keys e block ps m size held are key

  -- the value of a free place
  free_value : (i : ℕ) → IsFree ps i → value_in (sizes_of g) block i ≡ free
  free_value i vacant = are.value i (vacant.key, free) vacant.at

  free_inside_block : (i : ℕ) → IsFree ps i → i < places e.page e.size.log2
  free_inside_block i vacant = omega (arith, free_inside vacant, count)

  -- the key is new in the places, and no place that is open to it is free
  is_new : IsNew ps key
  is_new i had = let clash = sym absent ∙ hold.mapped key had.value i had.pair in let c : ⊥ = cc in c

  is_crowded : IsCrowded e.size.linear (page_of (paging_of g) e.size.log2 key) ps
  is_crowded i reached vacant = crowded i (record {
    inside = free_inside_block i vacant;
    free = free_value i vacant;
    reached = reached;
  })

  -- the plan was made on the fields that the word tells
  pub planned : (log2 : ℕ) (linear : Bool) (plan : Plan) → log2 ≡ e.size.log2 → linear ≡ e.size.linear
      → (IsLawfulBlock (paging_of g) log2 linear ps → IsNew ps key → IsCrowded linear (page_of (paging_of g) log2 key) ps
      → IsOnlyPlan (paging_of g) log2 linear ps key plan)
      → IsPlan (paging_of g) e.size.log2 e.size.linear ps key plan
  planned log2 linear plan log2_at linear_at told =
      (subst (λ (x : ℕ × Bool). IsLawfulBlock (paging_of g) x.0 x.1 ps → IsNew ps key
      → IsCrowded x.1 (page_of (paging_of g) x.0 key) ps → IsOnlyPlan (paging_of g) x.0 x.1 ps key plan)
      (λ i. (log2_at i, linear_at i)) told lawful is_new is_crowded).exact

  not_placed : (i : ℕ) → IsPlan (paging_of g) e.size.log2 e.size.linear ps key (InPlace i) → ⊥
  not_placed i plan = ⊎_elim (λ (had : HasKey ps key i). is_new i had) (λ first. is_crowded i first.1.reached first.1.vacant) plan

  none_free : IsPlan (paging_of g) e.size.log2 e.size.linear ps key Full → (i : ℕ) → IsFree ps i → ⊥
  none_free plan i vacant =
      let x = exhausted (paging_of g) e.size.log2 e.size.linear ps key plan.2 in
      plan.1 i (open_of_page e.size.linear _ i (λ plain. absurd (x.1 (x.0, plain, (i, vacant))))) vacant

  full : IsPlan (paging_of g) e.size.log2 e.size.linear ps key Full
      → most_pairs (bounds_of (sizes_of g)) ≤ len m
  full plan =
      let x = exhausted (paging_of g) e.size.log2 e.size.linear ps key plan.2 in
      let above = x.0 in
      let some = x.2 in
      let all : len m ≡ places e.page e.size.log2 =
      full_block (sizes_of g) e block m held (λ i inside vacant.
      let d : K × ℕ = (key, 0) in
      let within : i < length ps = omega (arith, count) in
      none_free plan i (free_at ps i d within (sym (are.value i (get_or ps i d) (slice_get-get_or ps i d within)) ∙ vacant))) in
      let greatest : e.size.log2 ≡ g.MAX_LOG2 = omega (arith, lawful.rule.small) in
      let same : 2 ^ e.size.log2 ≡ 2 ^ g.MAX_LOG2 = ap (λ n. 2 ^ n) greatest in
      ⊎_elim
      (λ (none : length ps ≡ 0). absurd (omega arith))
      (λ (whole : length ps ≡ 4 * 2 ^ e.size.log2). omega (arith, all, count, whole, same))
      lawful.sized

  -- a plan that isn't a larger block says that the bucket has as many pairs as it can
  pub is_full : (plan : Plan) → IsPlan (paging_of g) e.size.log2 e.size.linear ps key plan
      → ((size : BlockSize) → plan ≡ Grow size → ⊥)
      → most_pairs (bounds_of (sizes_of g)) ≤ len m
  is_full (InPlace i) plan other = absurd (not_placed i plan)
  is_full (Grow size) plan other = absurd (other size refl)
  is_full Full plan other = full plan

  -- a larger block says that there is room
  pub has_room : (size : BlockSize)
      → IsPlan (paging_of g) e.size.log2 e.size.linear ps key (Grow size)
      → len m < most_pairs (bounds_of (sizes_of g))
  has_room size plan = ⊎_elim
      (λ (none : length ps ≡ 0).
      let all : len m ≡ places e.page e.size.log2 =
      full_block (sizes_of g) e block m held (λ i inside. absurd (omega (arith, count))) in
      omega (arith, all, count, pow_pos g.MAX_LOG2))
      (λ (more : (e.size.log2 < g.MAX_LOG2) ⊎ ((i : ℕ) × IsFree ps i)). ⊎_elim
      (λ (below : e.size.log2 < g.MAX_LOG2). few_places (sizes_of g) e block m held below)
      (λ (vacant : (i : ℕ) × IsFree ps i). few_pairs (sizes_of g) e block m vacant.0 held
      (free_inside_block vacant.0 vacant.1) (free_value vacant.0 vacant.1)) more)
      (grows (paging_of g) e.size.log2 e.size.linear ps key size.log2 size.linear plan.2)

  pub is_named : (size : BlockSize)
      → IsPlan (paging_of g) e.size.log2 e.size.linear ps key (Grow size)
      → IsNamed (paging_of g) ps key size
  is_named size plan = record {
    was = e.size;
    lawful = lawful;
    plan = plan;
  }

  pub is_planned : (size : BlockSize) → IsPlan (paging_of g) e.size.log2 e.size.linear ps key (Grow size)
      → IsPlanned g m key size
  is_planned size plan = record {
    places = ps;
    was = e.size;
    lawful = lawful;
    map = hold;
    plan = plan;
  }

-- in the page store that the entry bears, the block that was planned is wanting
pub is_shortage : {A K : Type 0} (g : Ghosts A K) (m : Pairs) (key : K) (w : View) (b : ℕ) → map_now w b ≡ m → (size : BlockSize) (left : ℕ)
    (store : PageStore) → IsPlanned g m key size → LacksPages (sizes_of g) store size.log2 left → Bears w b store
    → IsOutOfPages g w b key size.log2 left
is_shortage g m key w b same size left store p wanting bears = record {
  linear = size.linear;
  planned = subst (λ (x : Pairs). IsPlanned g x key size) (sym same) p;
  store = store;
  bears = bears;
  none = wanting.none;
  unused = wanting.unused;
  few = wanting.few;
}
