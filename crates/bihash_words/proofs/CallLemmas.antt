-- Each call on a bounded map has one answer where pages don't run out.
use Rattle.std.proofs.Common.{◌≡◌, ◌∙◌, ℕ, ap, sym, refl, subst, inl, inr, List, [], Option, Some, None}
use Rattle.std.specs.FinMap.{get, len, remove}
use Rattle.bihash_words.specs.declared.patch.Change.{Change}
use Rattle.bihash_words.specs.declared.patch.Reply.{Reply}
use Rattle.bihash_words.specs.declared.patch.Reply.TheVariants.{Changed, Full, Kept, NoPages, Worn}
use Rattle.bihash_words.specs.declared.recycling_note.Recycling.{Recycling}
use Rattle.bihash_words.specs.Refusals.{IsNoRefusal}
use Rattle.bihash_words.specs.Maps.{Answers, AnswersFull, Bounds, NoRoom, NewKey, Event, WornOut, Unchanged, Pairs, OldKey, Case, IsEvent, changed, effect_of, case_with, removed_in, spare, expired_told, HasExpiry}

abbrev event : List ℕ → Option ℕ → Change → Reply → Recycling → Event
event key found change reply recycling = record { key = key; found = found; change = change; reply = reply; recycling = recycling }

abbrev row_of : Bounds → Pairs → ℕ → Option ℕ → Change → Case
row_of b m w found change = case_with b (len m) w found (effect_of change found)

abbrev recycled : List ℕ → Option (List ℕ) → Recycling
recycled expired removed = record { expired = expired; removed = removed }

-- the words that a call of this case bears as expired ones
abbrev borne : Case → List ℕ → List ℕ
borne Unchanged words = []
borne WornOut words = []
borne NoRoom words = words
borne NewKey words = []
borne OldKey words = []

-- an answer in this case that removes this key
abbrev IsSomeAnswer : Case → Bounds → Pairs → List ℕ → Option ℕ → Change → List ℕ → Option (List ℕ) → Reply → Pairs → Type 0
IsSomeAnswer r b m key found change words removed reply n = IsNoRefusal reply × (borne r words ≡ expired_told removed reply words)
    × Answers r b m (event key found change reply (recycled (borne r words) removed)) n

full_answer : (removed : Option (List ℕ)) (b : Bounds) (m : Pairs) (key : List ℕ) (found : Option ℕ) (change : Change)
    (words : List ℕ) → (reply : Reply) × (n : Pairs) × IsSomeAnswer NoRoom b m key found change words removed reply n
full_answer None b m key found change words = (Full, m, (λ log2 left e. cc, refl, (refl, refl)))
full_answer (Some gone) b m key found change words =
    (Changed None, changed (remove m gone) key change, (λ log2 left e. cc, refl, (refl, refl)))

some_answer : (r : Case) (b : Bounds) (m : Pairs) (key : List ℕ) (found : Option ℕ) (change : Change) (words : List ℕ)
    → (reply : Reply) × (n : Pairs) × IsSomeAnswer r b m key found change words (removed_in r m (borne r words)) reply n
some_answer Unchanged b m key found change words = (Kept found, m, (λ log2 left e. cc, refl, (refl, refl)))
some_answer WornOut b m key found change words = (Worn found, m, (λ log2 left e. cc, refl, (refl, refl)))
some_answer NoRoom b m key found change words = full_answer (spare m words) b m key found change words
some_answer NewKey b m key found change words = (Changed None, changed m key change, (λ log2 left e. cc, refl, inl (refl, refl)))
some_answer OldKey b m key found change words = (Changed found, changed m key change, (λ log2 left e. cc, refl, (refl, refl)))

-- what a call bears goes with its case
full_bears : (removed : Option (List ℕ)) (m n : Pairs) (e : Event) (words : List ℕ) → AnswersFull removed m e n
    → expired_told removed e.reply words ≡ words
full_bears None m n e words h = ap (λ r. expired_told None r words) h.0
full_bears (Some gone) m n e words h = refl

bears : (r : Case) (b : Bounds) (m n : Pairs) (e : Event) (words : List ℕ)
    → e.recycling.removed ≡ removed_in r m e.recycling.expired → HasExpiry words e → Answers r b m e n
    → e.recycling.expired ≡ borne r words
bears Unchanged b m n e words none is h = is ∙ (λ i. expired_told (none i) (h.0 i) words)
bears WornOut b m n e words none is h = is ∙ (λ i. expired_told (none i) (h.0 i) words)
bears NoRoom b m n e words none is h = is ∙ full_bears e.recycling.removed m n e words h
bears NewKey b m n e words none is (inl h) = is ∙ (λ i. expired_told (none i) (h.0 i) words)
bears NewKey b m n e words none is (inr h) = is ∙ (λ i. expired_told (none i) (h.0.2 i) words)
bears OldKey b m n e words none is h = is ∙ (λ i. expired_told (none i) (h.0 i) words)

one_full : (removed : Option (List ℕ)) (m n o : Pairs) (key : List ℕ) (found : Option ℕ) (change : Change) (reply other : Reply)
    (recycling : Recycling) → AnswersFull removed m (event key found change reply recycling) n
    → AnswersFull removed m (event key found change other recycling) o → (reply ≡ other) × (n ≡ o)
one_full None m n o key found change reply other recycling h g = (h.0 ∙ sym g.0, h.1 ∙ sym g.1)
one_full (Some gone) m n o key found change reply other recycling h g = (h.0 ∙ sym g.0, h.1 ∙ sym g.1)

one_answer : (r : Case) (b : Bounds) (m n o : Pairs) (key : List ℕ) (found : Option ℕ) (change : Change) (reply other : Reply)
    (recycling : Recycling) → IsNoRefusal reply → IsNoRefusal other → Answers r b m (event key found change reply recycling) n
    → Answers r b m (event key found change other recycling) o → (reply ≡ other) × (n ≡ o)
one_answer Unchanged b m n o key found change reply other recycling paged paged' h g = (h.0 ∙ sym g.0, h.1 ∙ sym g.1)
one_answer WornOut b m n o key found change reply other recycling paged paged' h g = (h.0 ∙ sym g.0, h.1 ∙ sym g.1)
one_answer NoRoom b m n o key found change reply other recycling paged paged' h g =
    one_full recycling.removed m n o key found change reply other recycling h g
one_answer NewKey b m n o key found change reply other recycling paged paged' (inl h) (inl g) = (h.0 ∙ sym g.0, h.1 ∙ sym g.1)
one_answer NewKey b m n o key found change reply other recycling paged paged' (inr h) g = absurd (paged h.0.0 h.0.1 h.0.2)
one_answer NewKey b m n o key found change reply other recycling paged paged' (inl h) (inr g) = absurd (paged' g.0.0 g.0.1 g.0.2)
one_answer OldKey b m n o key found change reply other recycling paged paged' h g = (h.0 ∙ sym g.0, h.1 ∙ sym g.1)

-- a call of a key that decides by what it finds has an answer
pub some_call : (b : Bounds) (m : Pairs) (w : ℕ) (key : List ℕ) (decision : Option ℕ → Change) (words : List ℕ)
    → (reply : Reply) × (recycling : Recycling) × (n : Pairs) × IsNoRefusal reply
    × (recycling.expired ≡ expired_told recycling.removed reply words)
    × IsEvent b m w (record {
      key = key;
      found = get m key;
      change = decision (get m key);
      reply = reply;
      recycling = recycling;
    }) n
some_call b m w key decision words =
    let row = row_of b m w (get m key) (decision (get m key)) in
    let (reply, n, (paged, bears, answers)) = some_answer row b m key (get m key) (decision (get m key)) words in (
      reply,
      recycled (borne row words) (removed_in row m (borne row words)),
      n,
      paged,
      bears,
      record { found = refl; removed = refl; answers = answers },
    )

module _ (b : Bounds) (m n o : Pairs) (w : ℕ) (key : List ℕ) where
  one_of_change : (found found' : Option ℕ) (change change' : Change) (reply other : Reply) (r r' : Recycling)
      → found ≡ found' → change ≡ change' → r.expired ≡ r'.expired → IsNoRefusal reply → IsNoRefusal other
      → IsEvent b m w (event key found change reply r) n → IsEvent b m w (event key found' change' other r') o
      → (event key found change reply r ≡ event key found' change' other r') × (n ≡ o)
  one_of_change found found' change change' reply other r r' same alike counted paged paged' one two =
      let two' : IsEvent b m w (event key found change other r') o =
      subst (λ (x : Option ℕ × Change). IsEvent b m w (event key x.0 x.1 other r') o) (λ i. (sym same i, sym alike i)) two in
      let removed : r.removed ≡ r'.removed = one.removed ∙ ap (removed_in (row_of b m w found change) m) counted ∙ sym two'.removed in
      let again : r ≡ r' = λ i. record { expired = counted i; removed = removed i } in
      let two'' = subst (λ (x : Recycling). IsEvent b m w (event key found change other x) o) (sym again) two' in
      let both = one_answer (row_of b m w found change) b m n o key found change reply other r paged paged' one.answers two''.answers in
      (λ i. event key (same i) (alike i) (both.0 i) (again i), both.1)

-- and one, with one map after it
pub one_call : (b : Bounds) (m n o : Pairs) (w : ℕ) (decision : Option ℕ → Change) (words : List ℕ) (e f : Event) → e.key ≡ f.key
    → e.change ≡ decision e.found → f.change ≡ decision f.found → HasExpiry words e → HasExpiry words f
    → IsNoRefusal e.reply → IsNoRefusal f.reply
    → IsEvent b m w e n → IsEvent b m w f o → (e ≡ f) × (n ≡ o)
one_call b m n o w decision words e f keys decided decided' has has' paged paged' one two =
    let found : e.found ≡ f.found = one.found ∙ ap (get m) keys ∙ sym two.found in
    let change : e.change ≡ f.change = decided ∙ ap decision found ∙ sym decided' in
    let counted : e.recycling.expired ≡ f.recycling.expired =
    bears (row_of b m w e.found e.change) b m n e words one.removed has one.answers
    ∙ (λ i. borne (row_of b m w (found i) (change i)) words)
    ∙ sym (bears (row_of b m w f.found f.change) b m o f words two.removed has' two.answers) in
    let two' = subst (λ k. IsEvent b m w (event k f.found f.change f.reply f.recycling) o) (sym keys) two in
    let both = one_of_change b m n o w e.key e.found f.found e.change f.change e.reply f.reply e.recycling f.recycling
    found change counted paged paged' one two' in
    let same : e ≡ event e.key f.found f.change f.reply f.recycling = both.0 in
    (same ∙ ap (λ k. event k f.found f.change f.reply f.recycling) keys, both.1)

-- a call bears nothing where nothing counts as expired
pub asks_nothing : (removed : Option (List ℕ)) (reply : Reply) → expired_told removed reply [] ≡ []
asks_nothing (Some gone) reply = refl
asks_nothing None (Kept found) = refl
asks_nothing None (Changed found) = refl
asks_nothing None (Worn found) = refl
asks_nothing None Full = refl
asks_nothing None (NoPages log2 left) = refl
