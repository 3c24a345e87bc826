-- A bounded map whose keys are of two kinds, as two maps: a call of one kind is one of that kind's map alone.
use Rattle.std.proofs.Common.{◌≡◌, ◌≢◌, ◌∙◌, ◌≤◌, ◌⊎◌, ◌+◌, ◌-◌, ℕ, Bool, true, false, true≢false, cond, ap, arith, lt_of_le_of_lt, sym, subst, subst₂, refl, inl, inr, List, Option, Some, None}
use Rattle.std.proofs.lemmas.Bool.{lt-ltb, ltb-true}
use Rattle.std.specs.Cmp.Lexicographic.{nat_list_cmp_total, slice_cmp}
use Rattle.std.specs.Ordering.{nat_cmp}
use Rattle.std.specs.FinMap.{empty_of_len, get, get-empty, insert, len, len-insert, len-remove, remove}
use Rattle.std.specs.Option.{ForSome}
use Rattle.std.specs.Prelude.{if◌then◌else◌, is_some, nat_lt}
use Rattle.bihash_words.specs.declared.patch.Change.{Change}
use Rattle.bihash_words.specs.declared.patch.Change.TheVariants.{Keep, Set, Remove}
use Rattle.bihash_words.specs.declared.patch.Reply.TheVariants.{Changed}
use Rattle.bihash_words.specs.Expiries.{no_recycling}
use Rattle.bihash_words.specs.Maps.{Answers, AnswersFull, Bounds, Case, Event, IsEvent, NewKey, NoRoom, OldKey, Pairs, Unchanged, WornOut, case_with, changed, effect_of, most_pairs, removed_in, spare, without, written}
use Rattle.bihash_words.specs.Refusals.{IsTaken}
use Rattle.bihash_words.proofs.MapLemmas.{none_removed, refused_or_recycled}
use Rattle.bihash_words.proofs.MapValues.{get_left, get_other, get_removed, get_set, len_less, same_or_other}
use Rattle.bihash_words.proofs.SpareLemmas.{spare_tells}

-- the map's pairs are those of two maps, one for the keys of one kind, one for the others
pub record AreParts (kind : List ℕ → Bool) (m own rest : Pairs) : Type 0 where
  pub own_values : (key : List ℕ) → kind key ≡ true → get own key ≡ get m key
  pub rest_values : (key : List ℕ) → kind key ≡ false → get rest key ≡ get m key
  pub sum : len m ≡ len own + len rest

-- a change leaves the other keys
others_kept : (m : Pairs) (key other : List ℕ) (change : Change) → other ≢ key
    → get (changed m key change) other ≡ get m other
others_kept m key other Keep differ = refl
others_kept m key other (Set value) differ = get_other m key value other differ
others_kept m key other Remove differ = get_left m key other differ

-- two maps have one value at a key after the same change of it
same_there : (m n : Pairs) (key : List ℕ) (change : Change) → get m key ≡ get n key
    → get (changed m key change) key ≡ get (changed n key change) key
same_there m n key Keep same = same
same_there m n key (Set value) same = get_set m key value ∙ sym (get_set n key value)
same_there m n key Remove same = get_removed m key ∙ sym (get_removed n key)

-- a map with a value is not empty
filled : (m : Pairs) (key : List ℕ) (value : ℕ) → get m key ≡ Some value → len m ≢ 0
filled m key value there none =
    let absent : get m key ≡ None = ap (λ p. get p key) (empty_of_len m none) ∙ get-empty (slice_cmp nat_cmp) key in
    let clash : None ≡ Some value = sym absent ∙ there in
    let f : ⊥ = cc in f

-- how many pairs there are after a key was set, or one was removed that is not there
len_set : (m : Pairs) (key : List ℕ) (value : ℕ) (found : Option ℕ) → get m key ≡ found
    → len (insert m key value) ≡ cond (is_some found) (len m) (len m + 1)
len_set m key value found is = len-insert nat_list_cmp_total m key value
    ∙ ap (λ o. cond (is_some o) (len m) (len m + 1)) is

len_kept : (m : Pairs) (key : List ℕ) → get m key ≡ None → len (remove m key) ≡ len m
len_kept m key none = len-remove nat_list_cmp_total m key ∙ ap (λ o. cond (is_some o) (len m - 1) (len m)) none

-- two maps with one value at a key gain and lose as many pairs by a change of it
lens_together : (m n : Pairs) (key : List ℕ) (change : Change) (found : Option ℕ) → get m key ≡ found
    → get n key ≡ found → len (changed m key change) + len n ≡ len m + len (changed n key change)
lens_together m n key Keep found one two = refl
lens_together m n key (Set value) None one two =
    let a : len (insert m key value) ≡ len m + 1 = len_set m key value None one in
    let b : len (insert n key value) ≡ len n + 1 = len_set n key value None two in
    omega (arith, a, b)
lens_together m n key (Set value) (Some old) one two =
    let a : len (insert m key value) ≡ len m = len_set m key value (Some old) one in
    let b : len (insert n key value) ≡ len n = len_set n key value (Some old) two in
    omega (arith, a, b)
lens_together m n key Remove None one two =
    let a = len_kept m key one in
    let b = len_kept n key two in
    omega (arith, a, b)
lens_together m n key Remove (Some old) one two =
    let a = len_less m key old one in
    let b = len_less n key old two in
    let some = filled m key old one in
    let some' = filled n key old two in
    omega (arith, a, b, some, some')

-- a change of a key is one of its own part
own_changed : (kind : List ℕ → Bool) (m own rest : Pairs) (key : List ℕ) (change : Change) → kind key ≡ true
    → AreParts kind m own rest → AreParts kind (changed m key change) (changed own key change) rest
own_changed kind m own rest key change of parts = record {
  own_values = λ other same. elim (same_or_other other key) [
    | inl is ↦ subst (λ k. get (changed own key change) k ≡ get (changed m key change) k) (sym is)
        (same_there own m key change (parts.own_values key of))
    | inr differ ↦ others_kept own key other change differ ∙ parts.own_values other same
        ∙ sym (others_kept m key other change differ)
  ];
  rest_values = λ other unlike.
      let differ : other ≢ key = λ e. true≢false (sym of ∙ ap kind (sym e) ∙ unlike) in
      parts.rest_values other unlike ∙ sym (others_kept m key other change differ);
  sum =
      let both = lens_together m own key change (get m key) refl (parts.own_values key of) in
      let all = parts.sum in
      omega (arith, both, all);
}

rest_changed : (kind : List ℕ → Bool) (m own rest : Pairs) (key : List ℕ) (change : Change) → kind key ≡ false
    → AreParts kind m own rest → AreParts kind (changed m key change) own (changed rest key change)
rest_changed kind m own rest key change of parts = record {
  own_values = λ other same.
      let differ : other ≢ key = λ e. true≢false (sym same ∙ ap kind e ∙ of) in
      parts.own_values other same ∙ sym (others_kept m key other change differ);
  rest_values = λ other unlike. elim (same_or_other other key) [
    | inl is ↦ subst (λ k. get (changed rest key change) k ≡ get (changed m key change) k) (sym is)
        (same_there rest m key change (parts.rest_values key of))
    | inr differ ↦ others_kept rest key other change differ ∙ parts.rest_values other unlike
        ∙ sym (others_kept m key other change differ)
  ];
  sum =
      let both = lens_together m rest key change (get m key) refl (parts.rest_values key of) in
      let all = parts.sum in
      omega (arith, both, all);
}

-- a removed key of the other kind goes from the rest
rest_without : (kind : List ℕ → Bool) (m own rest : Pairs) (removed : Option (List ℕ))
    → ForSome removed (λ gone. kind gone ≡ false) → AreParts kind m own rest
    → AreParts kind (without m removed) own (without rest removed)
rest_without kind m own rest None unlike parts = parts
rest_without kind m own rest (Some gone) unlike parts = rest_changed kind m own rest gone Remove (unlike gone refl) parts

-- what a call leaves: the map, or what it wrote
left_or_written : (r : Case) (b : Bounds) (m n : Pairs) (e : Event) → Answers r b m e n
    → (n ≡ m) ⊎ (n ≡ written m e.key e.change e.recycling)
left_or_written Unchanged b m n e h = inl h.1
left_or_written WornOut b m n e h = inl h.1
left_or_written NoRoom b m n e h = elim (refused_or_recycled e.recycling.removed m n e h) [
  | inl refused ↦ inl refused.1
  | inr recycled ↦ inr recycled.1
]
left_or_written NewKey b m n e (inl h) = inr h.1
left_or_written NewKey b m n e (inr h) = inl h.1
left_or_written OldKey b m n e h = inr h.1

-- a call of the other kind that removes no key of the one leaves that kind's part
pub rest_step : (kind : List ℕ → Bool) (b : Bounds) (m own rest n : Pairs) (w : ℕ) (e : Event) → kind e.key ≡ false
    → ForSome e.recycling.removed (λ gone. kind gone ≡ false) → AreParts kind m own rest → IsEvent b m w e n
    → (rest' : Pairs) × AreParts kind n own rest'
rest_step kind b m own rest n w e of unlike parts step =
    elim (left_or_written _ b m n e step.answers) [
      | inl left ↦ (rest, subst (λ p. AreParts kind p own rest) (sym left) parts)
      | inr is ↦ (
        written rest e.key e.change e.recycling,
        subst (λ p. AreParts kind p own (written rest e.key e.change e.recycling)) (sym is)
            (rest_changed kind (without m e.recycling.removed) own (without rest e.recycling.removed) e.key e.change of
            (rest_without kind m own rest e.recycling.removed unlike parts)),
      )
    ]

-- the same call where no key has to go for its own
abbrev pub bare : Event → Event
bare e = record { key = e.key; found = e.found; change = e.change; reply = e.reply; recycling = no_recycling }

-- A call of the one kind that was taken, and removed no key of it, is a call of that kind's part: this has no more
-- pairs than the whole, and fewer where a key of the other kind goes.
module _ (kind : List ℕ → Bool) (b : Bounds) (m own rest n : Pairs) (w v : ℕ) (e : Event) (of : kind e.key ≡ true)
    (taken : IsTaken e.reply) (unlike : ForSome e.recycling.removed (λ gone. kind gone ≡ false)) (fewer : v ≤ w)
    (bounded : len m ≤ most_pairs b) (parts : AreParts kind m own rest) where
  -- the answer to the call of the part
  abbrev Own : Case → Type 0
  Own r = (left rest' : Pairs) × Answers r b own (bare e) left × AreParts kind n left rest'

  own_kept : Answers Unchanged b m e n → Own Unchanged
  own_kept h = (own, rest, (h.0, refl), subst (λ p. AreParts kind p own rest) (sym h.1) parts)

  own_parts : n ≡ written m e.key e.change e.recycling
      → AreParts kind n (changed own e.key e.change) (without rest e.recycling.removed)
  own_parts is = subst (λ p. AreParts kind p (changed own e.key e.change) (without rest e.recycling.removed)) (sym is)
      (own_changed kind (without m e.recycling.removed) own (without rest e.recycling.removed) e.key e.change of
      (rest_without kind m own rest e.recycling.removed unlike parts))

  still : nat_lt w b.limit ≡ true → nat_lt v b.limit ≡ true
  still more = lt-ltb v b.limit (lt_of_le_of_lt fewer (ltb-true w b.limit more))

  own_old : (more : Bool) → nat_lt w b.limit ≡ more → Answers (if more then OldKey else WornOut) b m e n
      → Own (if nat_lt v b.limit then OldKey else WornOut)
  own_old true more h = subst (λ t. Own (if t then OldKey else WornOut)) (sym (still more))
      (changed own e.key e.change, without rest e.recycling.removed, (h.0, refl), own_parts h.1)
  own_old false more h = absurd (subst IsTaken h.0 taken)

  room : nat_lt (len m) (most_pairs b) ≡ true → nat_lt (len own) (most_pairs b) ≡ true
  room roomy =
      let less = ltb-true (len m) (most_pairs b) roomy in
      let all = parts.sum in
      lt-ltb (len own) (most_pairs b) (omega (arith, less, all))

  -- a key of the rest goes, so that the part has fewer pairs
  room_left : (gone : List ℕ) → e.recycling.removed ≡ Some gone → spare m e.recycling.expired ≡ Some gone
      → nat_lt (len own) (most_pairs b) ≡ true
  room_left gone removed is =
      let went = spare_tells m e.recycling.expired gone is in
      let some = filled rest gone went.value (parts.rest_values gone (unlike gone removed) ∙ went.stands) in
      let all = parts.sum in
      lt-ltb (len own) (most_pairs b) (omega (arith, some, all, bounded))

  own_new : nat_lt w b.limit ≡ true → nat_lt (len own) (most_pairs b) ≡ true → e.reply ≡ Changed None
      → n ≡ written m e.key e.change e.recycling
      → Own (if nat_lt v b.limit then (if nat_lt (len own) (most_pairs b) then NewKey else NoRoom) else WornOut)
  own_new more roomy reply is =
      subst₂ (λ t s. Own (if t then (if s then NewKey else NoRoom) else WornOut)) (sym (still more)) (sym roomy)
      (changed own e.key e.change, without rest e.recycling.removed, inl (reply, refl), own_parts is)

  own_recycled : (removed : Option (List ℕ)) → e.recycling.removed ≡ removed → nat_lt w b.limit ≡ true
      → spare m e.recycling.expired ≡ removed → AnswersFull removed m e n
      → Own (if nat_lt v b.limit then (if nat_lt (len own) (most_pairs b) then NewKey else NoRoom) else WornOut)
  own_recycled None removed more is h = absurd (subst IsTaken h.0 taken)
  own_recycled (Some gone) removed more is h = own_new more (room_left gone removed is) h.0 h.1

  own_set : (more roomy : Bool) → nat_lt w b.limit ≡ more → nat_lt (len m) (most_pairs b) ≡ roomy
      → e.recycling.removed
      ≡ removed_in (if more then (if roomy then NewKey else NoRoom) else WornOut) m e.recycling.expired
      → Answers (if more then (if roomy then NewKey else NoRoom) else WornOut) b m e n
      → Own (if nat_lt v b.limit then (if nat_lt (len own) (most_pairs b) then NewKey else NoRoom) else WornOut)
  own_set true true more roomy removed (inl h) = own_new more (room roomy) h.0 h.1
  own_set true true more roomy removed (inr h) = absurd (subst IsTaken h.0.2 taken)
  own_set true false more roomy removed h = own_recycled e.recycling.removed refl more (sym removed) h
  own_set false roomy more is removed h = absurd (subst IsTaken h.0 taken)

  own_answer : (found : Option ℕ) (effect : Change)
      → e.recycling.removed ≡ removed_in (case_with b (len m) w found effect) m e.recycling.expired
      → Answers (case_with b (len m) w found effect) b m e n → Own (case_with b (len own) v found effect)
  own_answer found Keep removed h = own_kept h
  own_answer None (Set value) removed h =
      own_set (nat_lt w b.limit) (nat_lt (len m) (most_pairs b)) refl refl removed h
  own_answer (Some old) (Set value) removed h = own_old (nat_lt w b.limit) refl h
  own_answer found Remove removed h = own_old (nat_lt w b.limit) refl h

  pub own_step : IsEvent b m w e n → (own' rest' : Pairs) × IsEvent b own v (bare e) own' × AreParts kind n own' rest'
  own_step step =
      let effect : Change = effect_of e.change e.found in
      let (left, rest', answers, parts') = own_answer e.found effect step.removed step.answers in (
        left,
        rest',
        record {
          found = step.found ∙ sym (parts.own_values e.key of);
          removed = sym (none_removed (case_with b (len own) v e.found effect) own);
          answers = answers;
        },
        parts',
      )
