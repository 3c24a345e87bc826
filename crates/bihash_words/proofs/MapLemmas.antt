-- What a step of the bounded map leaves, case by case.
use Rattle.std.proofs.Common.{◌≡◌, ◌≢◌, ◌∙◌, ◌<◌, ◌≤◌, ◌⊎◌, ◌+◌, ◌-◌, ℕ, Bool, true, false, cond, ap, arith, sym, subst, refl, inl, inr, List, [], Option, Some, None}
use Rattle.std.proofs.lemmas.Bool.{ltb-true, ltb-false}
use Rattle.std.specs.Cmp.Lexicographic.{nat_list_cmp_total, slice_cmp}
use Rattle.std.specs.FinMap.{contains_key, get, get-insert, get-remove, insert, len, len-insert, len-remove, nat_cmp-IsAntisymmetric, remove, slice_cmp-IsAntisymmetric}
use Rattle.std.specs.Ordering.{eq_by_cmp, is_eq, nat_cmp}
use Rattle.std.specs.declared.cmp.Ordering.TheVariants.{Less, Equal, Greater}
use Rattle.std.specs.Prelude.{is_some, if◌then◌else◌, nat_lt}
use Rattle.bihash_words.specs.declared.patch.Change.{Change}
use Rattle.bihash_words.specs.declared.patch.Change.TheVariants.{Keep, Set, Remove}
use Rattle.bihash_words.specs.declared.patch.Reply.TheVariants.{Changed, Full, Kept}
use Rattle.std.proofs.lemmas.Nat.{pow_pos}
use Rattle.bihash_words.proofs.MapValues.{get_left, len_less}
use Rattle.bihash_words.proofs.SpareLemmas.{spare_tells}
use Rattle.bihash_words.specs.Maps.{Answers, AnswersFull, removed_in, spare, without, written, Bounds, NoRoom, NewKey, Event, WornOut, Unchanged, Pairs, OldKey, Case, IsEvent, changed, effect_of, found_by, most_pairs, case_with, IsSpare}

-- a new key that finds no room is refused, or takes the place of another
pub refused_or_recycled : (removed : Option (List ℕ)) (m n : Pairs) (e : Event) → AnswersFull removed m e n
    → ((e.reply ≡ Full) × (n ≡ m)) ⊎ ((e.reply ≡ Changed None) × (n ≡ written m e.key e.change e.recycling))
refused_or_recycled None m n e h = inl h
refused_or_recycled (Some gone) m n e h = inr h

-- the map is left or changed
left_or_changed : (r : Case) (b : Bounds) (m n : Pairs) (e : Event) → Answers r b m e n
    → (n ≡ m) ⊎ (n ≡ written m e.key e.change e.recycling)
left_or_changed Unchanged b m n e h = inl h.1
left_or_changed WornOut b m n e h = inl h.1
left_or_changed NoRoom b m n e h = elim (refused_or_recycled e.recycling.removed m n e h) [
  | inl refused ↦ inl refused.1
  | inr recycled ↦ inr recycled.1
]
left_or_changed NewKey b m n e (inl h) = inr h.1
left_or_changed NewKey b m n e (inr h) = inl h.1
left_or_changed OldKey b m n e h = inr h.1

unchanged_at : (r : Case) (b : Bounds) (m n : Pairs) (e : Event) → Answers r b m e n
    → ((found : Option ℕ) → e.reply ≢ Changed found) → n ≡ m
unchanged_at Unchanged b m n e h other = h.1
unchanged_at WornOut b m n e h other = h.1
unchanged_at NoRoom b m n e h other = elim (refused_or_recycled e.recycling.removed m n e h) [
  | inl refused ↦ refused.1
  | inr recycled ↦ absurd (other None recycled.0)
]
unchanged_at NewKey b m n e (inl h) other = absurd (other None h.0)
unchanged_at NewKey b m n e (inr h) other = h.1
unchanged_at OldKey b m n e h other = absurd (other e.found h.0)

-- a call that isn't answered Changed leaves the map
pub unchanged : (b : Bounds) (m n : Pairs) (w : ℕ) (e : Event) → IsEvent b m w e n
    → ((found : Option ℕ) → e.reply ≢ Changed found) → n ≡ m
unchanged b m n w e step other = unchanged_at _ b m n e step.answers other

-- a call that keeps is answered Kept
pub kept : (b : Bounds) (m n : Pairs) (w : ℕ) (e : Event) → IsEvent b m w e n → e.change ≡ Keep
    → e.reply ≡ Kept (get m e.key)
kept b m n w e step keep =
    let row : Change → Case = λ c. case_with b (len m) w e.found (effect_of c e.found) in
    let answers : Answers Unchanged b m e n = subst (λ c. Answers (row c) b m e n) keep step.answers in
    answers.0 ∙ ap Kept step.found

-- another key is not in the order's way
apart : (key other : List ℕ) → key ≢ other → eq_by_cmp (slice_cmp nat_cmp) key other ≡ false
apart key other differ =
    elim (slice_cmp nat_cmp key other) as (λ r. slice_cmp nat_cmp key other ≡ r → is_eq r ≡ false) [
      | Less ↦ λ is. refl
      | Equal ↦ λ is. absurd (differ (slice_cmp-IsAntisymmetric nat_cmp-IsAntisymmetric key other is))
      | Greater ↦ λ is. refl
    ] refl

others_after : (m : Pairs) (key other : List ℕ) (change : Change) → other ≢ key
    → get (changed m key change) other ≡ get m other
others_after m key other Keep differ = refl
others_after m key other (Set value) differ =
    get-insert nat_list_cmp_total m key value other
    ∙ ap (λ b. cond b (Some value) (get m other)) (apart other key differ)
others_after m key other Remove differ =
    get-remove nat_list_cmp_total m key other ∙ ap (λ b. cond b None (get m other)) (apart other key differ)

others_written : (m : Pairs) (key other : List ℕ) (change : Change) (removed : Option (List ℕ)) → other ≢ key
    → removed ≢ Some other → get (changed (without m removed) key change) other ≡ get m other
others_written m key other change None differ stays = others_after m key other change differ
others_written m key other change (Some gone) differ stays =
    others_after (remove m gone) key other change differ ∙ get_left m gone other (λ same. stays (ap Some (sym same)))

-- the values of other keys stay, but for the one that was removed
pub others_stay : (b : Bounds) (m n : Pairs) (w : ℕ) (e : Event) (key : List ℕ) → IsEvent b m w e n
    → key ≢ e.key → e.recycling.removed ≢ Some key → get n key ≡ get m key
others_stay b m n w e key step differ stays =
    elim (left_or_changed _ b m n e step.answers) [
      | inl same ↦ ap (λ x. get x key) same
      | inr after ↦ ap (λ x. get x key) after ∙ others_written m e.key key e.change e.recycling.removed differ stays
    ]

-- where a change was made, the map could still change
limited : (b : Bounds) (w : ℕ) (r : Case) (m n : Pairs) (e : Event) (found : Option ℕ)
    → Answers (if nat_lt w b.limit then r else WornOut) b m e n → e.reply ≡ Changed found → w < b.limit
limited b w r m n e found =
    elim (nat_lt w b.limit) as (λ t. nat_lt w b.limit ≡ t → Answers (if t then r else WornOut) b m e n
    → e.reply ≡ Changed found → w < b.limit) [
      | true ↦ λ test h is. ltb-true w b.limit test
      | false ↦ λ test h is. absurd (let clash = sym h.0 ∙ is in cc)
    ] refl

limited_at : (b : Bounds) (pairs w : ℕ) (at : Option ℕ) (effect : Change) (m n : Pairs) (e : Event) (found : Option ℕ)
    → Answers (case_with b pairs w at effect) b m e n → e.reply ≡ Changed found → w < b.limit
limited_at b pairs w at Keep m n e found h is = absurd (let clash = sym h.0 ∙ is in cc)
limited_at b pairs w None (Set value) m n e found h is =
    limited b w (if nat_lt pairs (most_pairs b) then NewKey else NoRoom) m n e found h is
limited_at b pairs w (Some old) (Set value) m n e found h is = limited b w OldKey m n e found h is
limited_at b pairs w at Remove m n e found h is = limited b w OldKey m n e found h is

-- a change is made only where the map may still change
pub within_limit : (b : Bounds) (m n : Pairs) (w : ℕ) (e : Event) (found : Option ℕ) → IsEvent b m w e n
    → e.reply ≡ Changed found → w < b.limit
within_limit b m n w e found step is =
    limited_at b (len m) w e.found (effect_of e.change e.found) m n e found step.answers is

-- a new key is refused at the bound, or finds its place
abbrev RoomCases : Bounds → Pairs → Pairs → Event → Type 0
RoomCases b m n e =
    ((n ≡ m) × (e.reply ≡ Full → most_pairs b ≤ len m))
    ⊎ ((n ≡ written m e.key e.change e.recycling) × (e.reply ≡ Changed None))

entering : (b : Bounds) (m n : Pairs) (e : Event) → Answers NewKey b m e n → RoomCases b m n e
entering b m n e (inl h) = inr (h.1, h.0)
entering b m n e (inr ((log2, left, refused, may, few), same)) =
    inl (same, λ is. absurd (let clash = sym refused ∙ is in cc))

at_bound : (b : Bounds) (m n : Pairs) (e : Event) → most_pairs b ≤ len m → Answers NoRoom b m e n → RoomCases b m n e
at_bound b m n e many h = elim (refused_or_recycled e.recycling.removed m n e h) [
  | inl refused ↦ inl (refused.1, λ is. many)
  | inr recycled ↦ inr (recycled.1, recycled.0)
]

by_room : (b : Bounds) (m n : Pairs) (e : Event)
    → Answers (if nat_lt (len m) (most_pairs b) then NewKey else NoRoom) b m e n → RoomCases b m n e
by_room b m n e =
    elim (nat_lt (len m) (most_pairs b)) as (λ t. nat_lt (len m) (most_pairs b) ≡ t
    → Answers (if t then NewKey else NoRoom) b m e n → RoomCases b m n e) [
      | true ↦ λ test h. entering b m n e h
      | false ↦ λ test h. at_bound b m n e (ltb-false (len m) (most_pairs b) test) h
    ] refl

-- a new key, by the room that there is
room_cases : (b : Bounds) (m n : Pairs) (w : ℕ) (e : Event)
    → Answers (if nat_lt w b.limit then (if nat_lt (len m) (most_pairs b) then NewKey else NoRoom) else WornOut) b m e n
    → RoomCases b m n e
room_cases b m n w e =
    elim (nat_lt w b.limit) as (λ t.
    Answers (if t then (if nat_lt (len m) (most_pairs b) then NewKey else NoRoom) else WornOut) b m e n
    → RoomCases b m n e) [
      | true ↦ by_room b m n e
      | false ↦ λ h. inl (h.1, λ is. absurd (let clash = sym h.0 ∙ is in cc))
    ]

not_full : (b : Bounds) (m n : Pairs) (w : ℕ) (e : Event)
    → Answers (if nat_lt w b.limit then OldKey else WornOut) b m e n → e.reply ≡ Full → ⊥
not_full b m n w e =
    elim (nat_lt w b.limit) as (λ t. Answers (if t then OldKey else WornOut) b m e n → e.reply ≡ Full → ⊥) [
      | true ↦ λ h is. (let clash = sym h.0 ∙ is in cc)
      | false ↦ λ h is. (let clash = sym h.0 ∙ is in cc)
    ]

full_at : (b : Bounds) (m n : Pairs) (w : ℕ) (e : Event) (at : Option ℕ) (effect : Change)
    → Answers (case_with b (len m) w at effect) b m e n → e.reply ≡ Full → most_pairs b ≤ len m
full_at b m n w e at Keep h is = absurd (let clash = sym h.0 ∙ is in cc)
full_at b m n w e None (Set value) h is =
    elim (room_cases b m n w e h) [
      | inl (same, full) ↦ full is
      | inr (after, entered) ↦ absurd (let clash = sym entered ∙ is in cc)
    ]
full_at b m n w e (Some old) (Set value) h is = absurd (not_full b m n w e h is)
full_at b m n w e at Remove h is = absurd (not_full b m n w e h is)

-- Full is answered only where the map has its most pairs
pub full_at_bound : (b : Bounds) (m n : Pairs) (w : ℕ) (e : Event) → IsEvent b m w e n → e.reply ≡ Full
    → most_pairs b ≤ len m
full_at_bound b m n w e step is = full_at b m n w e e.found (effect_of e.change e.found) step.answers is

-- the number of pairs after a change of a key that is there
len_after_set : (m : Pairs) (key : List ℕ) (value old : ℕ) → get m key ≡ Some old
    → len (insert m key value) ≡ len m
len_after_set m key value old there =
    len-insert nat_list_cmp_total m key value ∙ ap (λ o. cond (is_some o) (len m) (len m + 1)) there

at_most_one_more : (b : Bool) (n : ℕ) → cond b n (n + 1) ≤ n + 1
at_most_one_more true n = omega arith
at_most_one_more false n = omega arith

len_after_insert : (m : Pairs) (key : List ℕ) (value : ℕ) → len (insert m key value) ≤ len m + 1
len_after_insert m key value = subst (λ l. l ≤ len m + 1) (sym (len-insert nat_list_cmp_total m key value))
    (at_most_one_more (contains_key m key) (len m))

fewer : (b : Bool) (n : ℕ) → cond b (n - 1) n ≤ n
fewer true n = omega arith
fewer false n = omega arith

len_after_remove : (m : Pairs) (key : List ℕ) → len (remove m key) ≤ len m
len_after_remove m key =
    subst (λ l. l ≤ len m) (sym (len-remove nat_list_cmp_total m key)) (fewer (contains_key m key) (len m))

-- the map after a step, where it is one of two
bounded_by : (b : Bounds) (m n after : Pairs) → (n ≡ m) ⊎ (n ≡ after) → len after ≤ most_pairs b
    → len m ≤ most_pairs b → len n ≤ most_pairs b
bounded_by b m n after (inl same) few before = subst (λ x. len x ≤ most_pairs b) (sym same) before
bounded_by b m n after (inr same) few before = subst (λ x. len x ≤ most_pairs b) (sym same) few

-- no key is removed for a key that is there
pub none_for_old : (b : Bounds) (pairs w old : ℕ) (effect : Change) (m : Pairs) (expired : List ℕ)
    → removed_in (case_with b pairs w (Some old) effect) m expired ≡ None
none_for_old b pairs w old Keep m expired = refl
none_for_old b pairs w old (Set value) m expired =
    elim (nat_lt w b.limit) as (λ t. removed_in (if t then OldKey else WornOut) m expired ≡ None) [ true ↦ refl | false ↦ refl ]
none_for_old b pairs w old Remove m expired =
    elim (nat_lt w b.limit) as (λ t. removed_in (if t then OldKey else WornOut) m expired ≡ None) [ true ↦ refl | false ↦ refl ]

-- the map that is left where no key was removed
plain : (m n : Pairs) (e : Event) → e.recycling.removed ≡ None → (n ≡ m) ⊎ (n ≡ written m e.key e.change e.recycling)
    → (n ≡ m) ⊎ (n ≡ changed m e.key e.change)
plain m n e none (inl same) = inl same
plain m n e none (inr after) = inr (after ∙ ap (λ r. changed (without m r) e.key e.change) none)

module _ (b : Bounds) (m n : Pairs) (e : Event) (value : ℕ) (sets : e.change ≡ Set value) (before : len m ≤ most_pairs b) where
  bounded_full : (removed : Option (List ℕ)) → e.recycling.removed ≡ removed → removed ≡ spare m e.recycling.expired
      → most_pairs b ≤ len m → AnswersFull removed m e n → len n ≤ most_pairs b
  bounded_full None is named many h = subst (λ x. len x ≤ most_pairs b) (sym h.1) before
  bounded_full (Some gone) is named many h =
      let goes = spare_tells m e.recycling.expired gone (sym named) in
      let some = pow_pos b.max_log2 in
      subst (λ x. len x ≤ most_pairs b)
      (sym (h.1 ∙ (λ i. changed (without m (is i)) e.key (sets i))))
      (omega (arith, len_after_insert (remove m gone) e.key value, len_less m gone goes.value goes.stands, many, before, some))

  bounded_new : (may room : Bool) → nat_lt (len m) (most_pairs b) ≡ room
      → e.recycling.removed ≡ removed_in (if may then (if room then NewKey else NoRoom) else WornOut) m e.recycling.expired
      → Answers (if may then (if room then NewKey else NoRoom) else WornOut) b m e n → len n ≤ most_pairs b
  bounded_new true true test removed (inl h) = subst (λ x. len x ≤ most_pairs b)
      (sym (h.1 ∙ (λ i. changed (without m (removed i)) e.key (sets i))))
      (omega (arith, len_after_insert m e.key value, ltb-true (len m) (most_pairs b) test))
  bounded_new true true test removed (inr h) = subst (λ x. len x ≤ most_pairs b) (sym h.1) before
  bounded_new true false test removed h =
      bounded_full e.recycling.removed refl removed (ltb-false (len m) (most_pairs b) test) h
  bounded_new false room test removed h = subst (λ x. len x ≤ most_pairs b) (sym h.1) before

bounded_at : (b : Bounds) (m n : Pairs) (w : ℕ) (e : Event) (found : Option ℕ) (change : Change)
    → found ≡ get m e.key → e.change ≡ change
    → e.recycling.removed ≡ removed_in (case_with b (len m) w found (effect_of change found)) m e.recycling.expired
    → Answers (case_with b (len m) w found (effect_of change found)) b m e n → len m ≤ most_pairs b
    → len n ≤ most_pairs b
bounded_at b m n w e found Keep there is removed h before = subst (λ x. len x ≤ most_pairs b) (sym h.1) before
bounded_at b m n w e None Remove there is removed h before = subst (λ x. len x ≤ most_pairs b) (sym h.1) before
bounded_at b m n w e (Some old) Remove there is removed h before =
    bounded_by b m n (changed m e.key e.change)
    (plain m n e (removed ∙ none_for_old b (len m) w old Remove m e.recycling.expired) (left_or_changed _ b m n e h))
    (subst (λ c. len (changed m e.key c) ≤ most_pairs b) (sym is)
    (omega (arith, len_after_remove m e.key, before))) before
bounded_at b m n w e (Some old) (Set value) there is removed h before =
    bounded_by b m n (changed m e.key e.change)
    (plain m n e (removed ∙ none_for_old b (len m) w old (effect_of (Set value) (Some old)) m e.recycling.expired)
    (left_or_changed _ b m n e h))
    (subst (λ c. len (changed m e.key c) ≤ most_pairs b) (sym is)
    (omega (arith, len_after_set m e.key value old (sym there), before))) before
bounded_at b m n w e None (Set value) there is removed h before =
    bounded_new b m n e value is before (nat_lt w b.limit) (nat_lt (len m) (most_pairs b)) refl removed h

-- no step makes a map exceed its bound
pub stays_bounded : (b : Bounds) (m n : Pairs) (w : ℕ) (e : Event) → IsEvent b m w e n → len m ≤ most_pairs b
    → len n ≤ most_pairs b
stays_bounded b m n w e step before =
    bounded_at b m n w e e.found e.change step.found refl step.removed step.answers before

-- a new key was absent, whatever it is answered
told_of_new : (may room : Bool) (b : Bounds) (m n : Pairs) (e : Event) → e.found ≡ None
    → Answers (if may then (if room then NewKey else NoRoom) else WornOut) b m e n
    → e.found ≡ found_by e.reply
told_of_new true true b m n e absent (inl h) = absent ∙ sym (ap found_by h.0)
told_of_new true true b m n e absent (inr ((log2, left, refused, within, few), same)) = absent ∙ sym (ap found_by refused)
told_of_new true false b m n e absent h = elim (refused_or_recycled e.recycling.removed m n e h) [
  | inl refused ↦ absent ∙ sym (ap found_by refused.0)
  | inr recycled ↦ absent ∙ sym (ap found_by recycled.0)
]
told_of_new false room b m n e absent h = sym (ap found_by h.0)

told_of_present : (may : Bool) (b : Bounds) (m n : Pairs) (e : Event)
    → Answers (if may then OldKey else WornOut) b m e n → e.found ≡ found_by e.reply
told_of_present true b m n e h = sym (ap found_by h.0)
told_of_present false b m n e h = sym (ap found_by h.0)

told_at : (b : Bounds) (m n : Pairs) (w : ℕ) (e : Event) (found : Option ℕ) (effect : Change)
    → e.found ≡ found → Answers (case_with b (len m) w found effect) b m e n → e.found ≡ found_by e.reply
told_at b m n w e found Keep is h = sym (ap found_by h.0)
told_at b m n w e None (Set value) is h =
    told_of_new (nat_lt w b.limit) (nat_lt (len m) (most_pairs b)) b m n e is h
told_at b m n w e (Some old) (Set value) is h = told_of_present (nat_lt w b.limit) b m n e h
told_at b m n w e found Remove is h = told_of_present (nat_lt w b.limit) b m n e h

-- what was found is what the reply tells
pub found_is_told : (b : Bounds) (m n : Pairs) (w : ℕ) (e : Event) → IsEvent b m w e n → e.found ≡ found_by e.reply
found_is_told b m n w e step = told_at b m n w e e.found (effect_of e.change e.found) refl step.answers

-- what the map gives is what the reply tells
pub stored_is_told : (b : Bounds) (m n : Pairs) (w : ℕ) (e : Event) → IsEvent b m w e n
    → get m e.key ≡ found_by e.reply
stored_is_told b m n w e step = sym step.found ∙ found_is_told b m n w e step

-- a key that was removed for a new one was the least whose value counts as expired
at_removed : (r : Case) (m : Pairs) (expired gone : List ℕ) → removed_in r m expired ≡ Some gone → spare m expired ≡ Some gone
at_removed Unchanged m expired gone is = absurd (let c : ⊥ = cc in c)
at_removed WornOut m expired gone is = absurd (let c : ⊥ = cc in c)
at_removed NoRoom m expired gone is = is
at_removed NewKey m expired gone is = absurd (let c : ⊥ = cc in c)
at_removed OldKey m expired gone is = absurd (let c : ⊥ = cc in c)

pub removed_was_spare : (b : Bounds) (m n : Pairs) (w : ℕ) (e : Event) (gone : List ℕ) → IsEvent b m w e n
    → e.recycling.removed ≡ Some gone → IsSpare m e.recycling.expired gone
removed_was_spare b m n w e gone step is = spare_tells m e.recycling.expired gone
    (at_removed _ m e.recycling.expired gone (sym step.removed ∙ is))

-- where nothing counts as expired no key is removed
pub none_removed : (r : Case) (m : Pairs) → removed_in r m [] ≡ None
none_removed Unchanged m = refl
none_removed WornOut m = refl
none_removed NoRoom m = refl
none_removed NewKey m = refl
none_removed OldKey m = refl
