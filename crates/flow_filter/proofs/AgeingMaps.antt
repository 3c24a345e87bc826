-- Two maps that agree on all that is live: a packet's event on the one and on the other comes to one verdict, and leaves
-- them so.
use Rattle.std.proofs.Common.{◌≡◌, ◌≢◌, ◌∙◌, ◌≤◌, ◌⊎◌, ◌+◌, ◌-◌, ℕ, zero, suc, Bool, true, false, true≢false, cond, ap, arith, refl, sym, subst, inl, inr, length, List, [], ◌∷◌, Option, Some, None}
use Rattle.std.proofs.lemmas.Bool.{leb-false, lt-leb, ltb-false}
use Rattle.std.specs.Cmp.Lexicographic.{nat_list_cmp_total, slice_cmp}
use Rattle.std.specs.Cmp.{eq_by_cmp_equiv}
use Rattle.std.specs.Ordering.{nat_cmp}
use Rattle.std.specs.FinMap.{empty_of_len, entries, find, get, get-empty, get-entries, len, len-entries, remove}
use Rattle.std.specs.Prelude.{if◌then◌else◌, nat_le, nat_lt, not}
use Rattle.bihash_words.specs.Expiries.{expired_words, is_among}
use Rattle.bihash_words.specs.Maps.{Answers, Bounds, Case, Event, IsEvent, NewKey, NoRoom, OldKey, Pairs, Unchanged, WornOut, case_with, changed, effect_of, expired_told, found_by, HasExpiry, most_pairs, removed_in, spare, without, written}
use Rattle.bihash_words.specs.Refusals.{IsNoRefusal, IsTaken}
use Rattle.bihash_words.specs.declared.patch.Change.{Change}
use Rattle.bihash_words.specs.declared.patch.Change.TheVariants.{Keep, Set, Remove}
use Rattle.bihash_words.specs.declared.patch.Reply.{Reply}
use Rattle.bihash_words.specs.declared.patch.Reply.TheVariants.{Kept, Changed, Worn, Full, NoPages}
use Rattle.bihash_words.proofs.MapLemmas.{found_is_told, kept, none_for_old, others_stay, refused_or_recycled, removed_was_spare, stays_bounded, unchanged}
use Rattle.bihash_words.proofs.MapValues.{get_left, get_other, get_removed, len_less, same_or_other}
use Rattle.bihash_words.proofs.SetLemmas.{set_stands}
use Rattle.bihash_words.proofs.SpareLemmas.{among_words, counted_told, none_spare}
use Rattle.session_state.specs.declared.timeouts.Timeouts.{Timeouts}
use Rattle.session_state.specs.Decisions.{PatchFacts, decision_at, decision_of, is_live_for, live_session, removal_of, started_session}
use Rattle.session_state.specs.Sessions.{SessionFacts, has_ended, is_expired_at, live_until, session_of, session_word}
use Rattle.session_state.specs.declared.verdict.Verdict.{Verdict}
use Rattle.session_state.specs.declared.verdict.Verdict.TheVariants as verdict
use Rattle.flow_filter.specs.Judged.{IsEventOf, expired_for}
use Rattle.flow_filter.specs.Readings.{Ruling}
use Rattle.flow_filter.specs.Updates.{Update, words_of}
use Rattle.flow_filter.specs.Verdicts.{verdict_entered, verdict_of, verdict_of_rules, verdict_reflected}
use Rattle.flow_filter.specs.Ageing.{IsNotWorn}
use Rattle.flow_filter.proofs.FullLemmas.{refused_full}
use Rattle.flow_filter.proofs.RecyclingLemmas.{counted_below, ended_for}

-- ---- Fewer pairs

filled : (m : Pairs) (key : List ℕ) (value : ℕ) → get m key ≡ Some value → len m ≢ 0
filled m key value there none =
    let absent : get m key ≡ None = ap (λ p. get p key) (empty_of_len m none) ∙ get-empty (slice_cmp nat_cmp) key in
    let clash : None ≡ Some value = sym absent ∙ there in
    let f : ⊥ = cc in f

-- each pair of the one map is one of the other
abbrev pub IsWithin : Pairs → Pairs → Type 0
IsWithin m n = (key : List ℕ) (value : ℕ) → get m key ≡ Some value → get n key ≡ Some value

-- a map that has pairs has a key
some_key : (m : Pairs) (n : ℕ) → len m ≡ suc n → (key : List ℕ) × (value : ℕ) × (get m key ≡ Some value)
some_key m n long = go (entries m) refl
  where
    go : (es : List (List ℕ × ℕ)) → entries m ≡ es → (key : List ℕ) × (value : ℕ) × (get m key ≡ Some value)
    go [] is = let none : len m ≡ 0 = len-entries m ∙ ap (λ (es : List (List ℕ × ℕ)). length es) is in absurd (omega arith)
    go (e ∷ es) is = (
      e.0,
      e.1,
      get-entries m e.0 ∙ ap (λ (xs : List (List ℕ × ℕ)). find (slice_cmp nat_cmp) e.0 xs) is
          ∙ ap (λ (b : Bool). cond b (Some e.1) (find (slice_cmp nat_cmp) e.0 es)) ((eq_by_cmp_equiv nat_list_cmp_total).refl e.0),
    )

within_left : (m n : Pairs) (key : List ℕ) → IsWithin m n → IsWithin (remove m key) (remove n key)
within_left m n key within other value there = elim (same_or_other other key) [
  | inl is ↦ let none : get (remove m key) other ≡ None = ap (get (remove m key)) is ∙ get_removed m key in
      let clash : None ≡ Some value = sym none ∙ there in let f : ⊥ = cc in absurd f
  | inr differ ↦ get_left n key other differ ∙ within other value (sym (get_left m key other differ) ∙ there)
]

fewer_at : (count : ℕ) (m n : Pairs) → len m ≡ count → IsWithin m n → len m ≤ len n
fewer_at zero m n long within = omega arith
fewer_at (suc count) m n long within =
    let (key, value, there) = some_key m count long in
    let less : len (remove m key) ≡ len m - 1 = len_less m key value there in
    let less' : len (remove n key) ≡ len n - 1 = len_less n key value (within key value there) in
    let some = filled n key value (within key value there) in
    let rest = fewer_at count (remove m key) (remove n key) (omega (arith, less, long)) (within_left m n key within) in
    omega (arith, less, less', some, rest, long)

pub fewer : (m n : Pairs) → IsWithin m n → len m ≤ len n
fewer m n within = fewer_at (len m) m n refl within

-- and fewer where the other has one more key
pub fewer_by_one : (m n : Pairs) (key : List ℕ) (value : ℕ) → IsWithin m n → get m key ≡ None → get n key ≡ Some value
    → len m + 1 ≤ len n
fewer_by_one m n key value within absent there =
    let inside : IsWithin m (remove n key) = λ other v has. elim (same_or_other other key) [
      | inl is ↦ let none : get m other ≡ None = ap (get m) is ∙ absent in
          let clash : None ≡ Some v = sym none ∙ has in let f : ⊥ = cc in absurd f
      | inr differ ↦ get_left n key other differ ∙ within other v has
    ] in
    let few = fewer m (remove n key) inside in
    let less : len (remove n key) ≡ len n - 1 = len_less n key value there in
    let some = filled n key value there in
    omega (arith, few, less, some)

-- ---- Agreement

-- what the one map has of words that don't count as expired, the other has
abbrev pub HasLiveOf : List ℕ → Pairs → Pairs → Type 0
HasLiveOf expired m n = (key : List ℕ) (value : ℕ) → is_among value expired ≡ false → get m key ≡ Some value
    → get n key ≡ Some value

abbrev pub Agree : List ℕ → Pairs → Pairs → Type 0
Agree expired m n = HasLiveOf expired m n × HasLiveOf expired n m

-- the key was left as it was, or was one of an expired word and is gone
abbrev pub IsLeftOrGone : List ℕ → Pairs → Pairs → List ℕ → Type 0
IsLeftOrGone expired m n key = (get n key ≡ get m key)
    ⊎ ((value : ℕ) × (get m key ≡ Some value) × (is_among value expired ≡ true))

-- of other keys than this one only such went
abbrev pub LosesExpired : List ℕ → List ℕ → Pairs → Pairs → Type 0
LosesExpired expired key m n = (other : List ℕ) → other ≢ key
    → (get n other ≡ get m other) ⊎ ((get n other ≡ None) × ((value : ℕ) × (get m other ≡ Some value) × (is_among value expired ≡ true)))

live_after : (expired : List ℕ) (m n m' n' : Pairs) (key : List ℕ) → HasLiveOf expired m n → LosesExpired expired key m m'
    → LosesExpired expired key n n'
    → ((value : ℕ) → is_among value expired ≡ false → get m' key ≡ Some value → get n' key ≡ Some value) → HasLiveOf expired m' n'
live_after expired m n m' n' key has left left' here other value live there = elim (same_or_other other key) [
  | inl is ↦ subst (λ k. get n' k ≡ Some value) (sym is) (here value live (subst (λ k. get m' k ≡ Some value) is there))
  | inr differ ↦ elim (left other differ) [
    | inl same ↦
        let there' : get n other ≡ Some value = has other value live (sym same ∙ there) in
        elim (left' other differ) [
          | inl same' ↦ same' ∙ there'
          | inr gone ↦
              let one : Some value ≡ Some gone.1.0 = sym there' ∙ gone.1.1 in
              let is : value ≡ gone.1.0 = cc in
              absurd (true≢false (sym gone.1.2 ∙ ap (λ v. is_among v expired) (sym is) ∙ live))
        ]
    | inr gone ↦ let clash : None ≡ Some value = sym gone.0 ∙ there in let f : ⊥ = cc in absurd f
  ]
]

pub agree_after : (expired : List ℕ) (m n m' n' : Pairs) (key : List ℕ) → Agree expired m n → LosesExpired expired key m m'
    → LosesExpired expired key n n' → get m' key ≡ get n' key → Agree expired m' n'
agree_after expired m n m' n' key agree left left' same = (
  live_after expired m n m' n' key agree.0 left left' (λ value live there. sym same ∙ there),
  live_after expired n m n' m' key agree.1 left' left (λ value live there. same ∙ there),
)

-- ---- What an event leaves

left_or_written : (r : Case) (b : Bounds) (m n : Pairs) (e : Event) → Answers r b m e n
    → (n ≡ m) ⊎ (n ≡ written m e.key e.change e.recycling)
left_or_written Unchanged b m n e h = inl h.1
left_or_written WornOut b m n e h = inl h.1
left_or_written NoRoom b m n e h = elim (refused_or_recycled e.recycling.removed m n e h) [
  | inl refused ↦ inl refused.1
  | inr recycled ↦ inr recycled.1
]
left_or_written NewKey b m n e (inl h) = inr h.1
left_or_written NewKey b m n e (inr h) = inl h.1
left_or_written OldKey b m n e h = inr h.1

others_kept : (m : Pairs) (key other : List ℕ) (change : Change) → other ≢ key
    → get (changed m key change) other ≡ get m other
others_kept m key other Keep differ = refl
others_kept m key other (Set value) differ = get_other m key value other differ
others_kept m key other Remove differ = get_left m key other differ

-- a key that was removed is gone where the map was written
module _ (expired : List ℕ) (b : Bounds) (m n : Pairs) (w : ℕ) (e : Event) (step : IsEvent b m w e n) (bears : HasExpiry expired e) where
  pub event_loses : LosesExpired expired e.key m n
  event_loses other differ = go e.recycling.removed refl
    where
      go : (removed : Option (List ℕ)) → e.recycling.removed ≡ removed
          → (get n other ≡ get m other) ⊎ ((get n other ≡ None) × ((value : ℕ) × (get m other ≡ Some value) × (is_among value expired ≡ true)))
      go None is = inl (others_stay b m n w e other step differ (λ gone. let clash : None ≡ Some other = sym is ∙ gone in let f : ⊥ = cc in f))
      go (Some gone) is = elim (same_or_other other gone) [
        | inl same ↦ elim (left_or_written _ b m n e step.answers) [
          | inl left ↦ inl (ap (λ x. get x other) left)
          | inr wrote ↦
              let went = removed_was_spare b m n w e gone step is in
              let words : e.recycling.expired ≡ expired = bears ∙ ap (λ r. expired_told r e.reply expired) is in
              inr (
                ap (λ x. get x other) (wrote ∙ ap (λ r. changed (without m r) e.key e.change) is)
                    ∙ others_kept (remove m gone) e.key other e.change differ ∙ ap (get (remove m gone)) same ∙ get_removed m gone,
                (went.value, ap (get m) same ∙ went.stands, subst (λ ws. is_among went.value ws ≡ true) words went.counts),
              )
        ]
        | inr apart ↦ inl (others_stay b m n w e other step differ (λ gone'.
            let one : Some other ≡ Some gone = sym gone' ∙ is in let same : other ≡ gone = cc in apart same))
      ]

-- the value of a key after a call that was taken
abbrev pub value_after : Change → Option ℕ → Option ℕ
value_after Keep found = found
value_after (Set value) found = Some value
value_after Remove found = None

module _ (b : Bounds) (m n : Pairs) (w : ℕ) (e : Event) (step : IsEvent b m w e n) (taken : IsTaken e.reply) where
  removed_by : (found : Option ℕ) → e.found ≡ found → e.change ≡ Remove
      → Answers (case_with b (len m) w found (effect_of Remove found)) b m e n → get n e.key ≡ None
  removed_by None is change h = ap (λ x. get x e.key) h.1 ∙ sym step.found ∙ is
  removed_by (Some old) is change h = elim (nat_lt w b.limit) as (λ t. Answers (if t then OldKey else WornOut) b m e n → get n e.key ≡ None) [
    | true ↦ λ h. ap (λ x. get x e.key) (h.1 ∙ ap (λ c. changed (without m e.recycling.removed) e.key c) change)
        ∙ get_removed (without m e.recycling.removed) e.key
    | false ↦ λ h. absurd (subst IsTaken h.0 taken)
  ] h

  pub after_taken : (change : Change) → e.change ≡ change → get n e.key ≡ value_after change e.found
  after_taken Keep is =
      ap (λ x. get x e.key) (unchanged b m n w e step (λ found other. let clash = sym (kept b m n w e step is) ∙ other in let f : ⊥ = cc in f))
      ∙ sym step.found
  after_taken (Set value) is = (set_stands b m n w value e step is).0 taken
  after_taken Remove is = removed_by e.found refl is
      (subst (λ c. Answers (case_with b (len m) w e.found (effect_of c e.found)) b m e n) is step.answers)

-- a reply that is no refusal for want of pages, and not worn, is that of a call that was taken, or full
pub taken_or_full : (reply : Reply) → IsNotWorn reply → IsNoRefusal reply → IsTaken reply ⊎ (reply ≡ Full)
taken_or_full (Kept found) unworn paged = inl tt
taken_or_full (Changed found) unworn paged = inl tt
taken_or_full (Worn found) unworn paged = absurd (unworn found refl)
taken_or_full Full unworn paged = inr refl
taken_or_full (NoPages log2 left) unworn paged = absurd (paged log2 left refl)

-- ---- What a packet decides on both

-- nothing is stored, or what counts as expired
abbrev pub HasEnded : List ℕ → Option ℕ → Type 0
HasEnded expired None = Unit {0}
HasEnded expired (Some word) = is_among word expired ≡ true

alike_by : (expired : List ℕ) (m n : Pairs) (key : List ℕ) → Agree expired m n → (found found' : Option ℕ) → get m key ≡ found → get n key ≡ found'
    → (found ≡ found') ⊎ (HasEnded expired found × HasEnded expired found')
alike_by expired m n key agree None None is is' = inl refl
alike_by expired m n key agree None (Some v) is is' =
    elim (is_among v expired) as (λ t. is_among v expired ≡ t → (None ≡ Some v) ⊎ (Unit {0} × (is_among v expired ≡ true))) [
      | true ↦ λ t. inr (tt, t)
      | false ↦ λ t. let clash : None ≡ Some v = sym is ∙ agree.1 key v t is' in inl clash
    ] refl
alike_by expired m n key agree (Some u) None is is' =
    elim (is_among u expired) as (λ t. is_among u expired ≡ t → (Some u ≡ None) ⊎ ((is_among u expired ≡ true) × Unit {0})) [
      | true ↦ λ t. inr (t, tt)
      | false ↦ λ t. inl (sym (agree.0 key u t is) ∙ is')
    ] refl
alike_by expired m n key agree (Some u) (Some v) is is' =
    elim (is_among u expired) as (λ t. is_among u expired ≡ t → (Some u ≡ Some v) ⊎ ((is_among u expired ≡ true) × (is_among v expired ≡ true))) [
      | true ↦ λ t. elim (is_among v expired) as (λ s. is_among v expired ≡ s → (Some u ≡ Some v) ⊎ ((is_among u expired ≡ true) × (is_among v expired ≡ true))) [
        | true ↦ λ s. inr (t, s)
        | false ↦ λ s. inl (sym is ∙ agree.1 key v s is')
      ] refl
      | false ↦ λ t. inl (sym (agree.0 key u t is) ∙ is')
    ] refl

-- what has ended is no live session for the packet
none_lives : (patch : PatchFacts) (found : Option ℕ) → HasEnded (expired_for patch) found → is_live_for patch found ≡ false
none_lives patch None ended = refl
none_lives patch (Some word) ended = ended_for patch word ended

abbrev decision_without : PatchFacts → Option ℕ → Bool → Change
decision_without patch found reflects = if reflects then Set (session_word (started_session patch)) else removal_of found

none_decides : (patch : PatchFacts) (found : Option ℕ) → is_live_for patch found ≡ false
    → decision_of patch found ≡ decision_without patch found patch.reflects
none_decides patch found none = go (live_session patch found) refl
  where
    go : (live : Option SessionFacts) → live_session patch found ≡ live → decision_of patch found ≡ decision_without patch found patch.reflects
    go None is = ap (decision_at patch found) is
    go (Some session) is = let lives : is_live_for patch found ≡ true = ap (λ (o : Option SessionFacts). elim o [ None ↦ false | Some s ↦ true ]) is in
        absurd (true≢false (sym lives ∙ none))

removal_after : (found : Option ℕ) → value_after (removal_of found) found ≡ None
removal_after None = refl
removal_after (Some word) = refl

after_without : (patch : PatchFacts) (found found' : Option ℕ) (reflects : Bool)
    → value_after (decision_without patch found reflects) found ≡ value_after (decision_without patch found' reflects) found'
after_without patch found found' true = refl
after_without patch found found' false = removal_after found ∙ sym (removal_after found')

-- what the key has after a packet that was taken is the same
pub same_after : (patch : PatchFacts) (found found' : Option ℕ)
    → (found ≡ found') ⊎ (HasEnded (expired_for patch) found × HasEnded (expired_for patch) found')
    → value_after (decision_of patch found) found ≡ value_after (decision_of patch found') found'
same_after patch found found' (inl is) = ap (λ f. value_after (decision_of patch f) f) is
same_after patch found found' (inr ended) =
    ap (λ c. value_after c found) (none_decides patch found (none_lives patch found ended.0))
    ∙ after_without patch found found' patch.reflects
    ∙ sym (ap (λ c. value_after c found') (none_decides patch found' (none_lives patch found' ended.1)))

-- ---- The verdict

taken_entered : (rule : ℕ) (r r' : Reply) → IsTaken r → IsTaken r' → verdict_entered rule r ≡ verdict_entered rule r'
taken_entered rule (Kept f) (Kept f') t t' = refl
taken_entered rule (Kept f) (Changed f') t t' = refl
taken_entered rule (Changed f) (Kept f') t t' = refl
taken_entered rule (Changed f) (Changed f') t t' = refl
taken_entered rule (Kept f) (Worn f') t t' = absurd t'
taken_entered rule (Kept f) Full t t' = absurd t'
taken_entered rule (Kept f) (NoPages log2 left) t t' = absurd t'
taken_entered rule (Changed f) (Worn f') t t' = absurd t'
taken_entered rule (Changed f) Full t t' = absurd t'
taken_entered rule (Changed f) (NoPages log2 left) t t' = absurd t'
taken_entered rule (Worn f) r' t t' = absurd t
taken_entered rule Full r' t t' = absurd t
taken_entered rule (NoPages log2 left) r' t t' = absurd t

taken_reflected : (ruling : Ruling) (r r' : Reply) → IsTaken r → IsTaken r' → verdict_reflected ruling r ≡ verdict_reflected ruling r'
taken_reflected None r r' t t' = refl
taken_reflected (Some decided) r r' t t' = taken_entered (decided.0 + 1) r r' t t'

abbrev said : Bool → Bool → Ruling → Reply → Verdict
said live reflects ruling r = if live then verdict.Session else (if reflects then verdict_reflected ruling r else verdict_of_rules ruling)

said_taken : (live reflects : Bool) (ruling : Ruling) (r r' : Reply) → IsTaken r → IsTaken r' → said live reflects ruling r ≡ said live reflects ruling r'
said_taken true reflects ruling r r' t t' = refl
said_taken false true ruling r r' t t' = taken_reflected ruling r r' t t'
said_taken false false ruling r r' t t' = refl

same_lives : (patch : PatchFacts) (found found' : Option ℕ)
    → (found ≡ found') ⊎ (HasEnded (expired_for patch) found × HasEnded (expired_for patch) found')
    → is_live_for patch found ≡ is_live_for patch found'
same_lives patch found found' (inl is) = ap (is_live_for patch) is
same_lives patch found found' (inr ended) = none_lives patch found ended.0 ∙ sym (none_lives patch found' ended.1)

verdict_taken : (patch : PatchFacts) (ruling : Ruling) (found found' : Option ℕ) (r r' : Reply)
    → (found ≡ found') ⊎ (HasEnded (expired_for patch) found × HasEnded (expired_for patch) found') → IsTaken r → IsTaken r'
    → verdict_of patch ruling found r ≡ verdict_of patch ruling found' r'
verdict_taken patch ruling found found' r r' alike t t' =
    ap (λ live. said live patch.reflects ruling r) (same_lives patch found found' alike)
    ∙ said_taken (is_live_for patch found') patch.reflects ruling r r' t t'

-- ---- A packet's event on both maps

module _ (u : Update) (b : Bounds) where
  -- what a packet decides where it is answered Full
  full_sets : (m m' : Pairs) (w : ℕ) (e : Event) → IsEventOf u e → IsEvent b m w e m' → e.reply ≡ Full → e.found ≡ None
      → decision_of u.patch None ≡ Set (session_word (started_session u.patch))
  full_sets m m' w e of step full absent =
      let is : e.change ≡ (if u.patch.reflects then Set (session_word (started_session u.patch)) else Keep) = of.change ∙ ap (decision_of u.patch) absent in
      elim u.patch.reflects as (λ t. e.change ≡ (if t then Set (session_word (started_session u.patch)) else Keep)
      → (if t then Set (session_word (started_session u.patch)) else Keep) ≡ Set (session_word (started_session u.patch))) [
        | true ↦ λ is. refl
        | false ↦ λ is. let clash = sym (kept b m m' w e step is) ∙ full in let f : ⊥ = cc in absurd f
      ] is

  -- where it finds no room in the one map, it finds none in the other
  module _ (m m' n n' : Pairs) (w v : ℕ) (e f : Event) (of : IsEventOf u e) (step : IsEvent b m w e m') (of' : IsEventOf u f)
      (step' : IsEvent b n v f n') (agree : Agree (expired_for u.patch) m n) (bounded : len n ≤ most_pairs b) (unworn : IsNotWorn f.reply)
      (paged : IsNoRefusal f.reply) where
    here : get m (words_of u.key) ≡ e.found
    here = ap (get m) (sym of.key) ∙ sym step.found

    there : get n (words_of u.key) ≡ f.found
    there = ap (get n) (sym of'.key) ∙ sym step'.found

    pub found_alike : (e.found ≡ f.found) ⊎ (HasEnded (expired_for u.patch) e.found × HasEnded (expired_for u.patch) f.found)
    found_alike = alike_by (expired_for u.patch) m n (words_of u.key) agree e.found f.found here there

    pub value_there : IsTaken f.reply → get n' (words_of u.key) ≡ value_after (decision_of u.patch f.found) f.found
    value_there taken = ap (get n') (sym of'.key) ∙ after_taken b n n' v f step' taken (decision_of u.patch f.found) of'.change

    pub full_both : e.reply ≡ Full → f.reply ≡ Full
    full_both full = elim (taken_or_full f.reply unworn paged) [
      | inr is ↦ is
      | inl taken ↦
          let E : List ℕ = expired_for u.patch in
          let key : List ℕ = words_of u.key in
          let s : ℕ = session_word (started_session u.patch) in
          let absent : e.found ≡ None = found_is_told b m m' w e step ∙ ap found_by full in
          let refused = refused_full b m m' w e step full absent in
          let words : e.recycling.expired ≡ E = of.expiry ∙ (λ i. expired_told (refused.stays i) (full i) E) in
          let live : (k : List ℕ) (word : ℕ) → get m k ≡ Some word → is_among word E ≡ false
          = (none_spare m E).1 (ap (spare m) (sym words) ∙ refused.none) in
          let stored : get n' key ≡ Some s = value_there taken ∙ sym (same_after u.patch e.found f.found found_alike)
          ∙ ap (λ found. value_after (decision_of u.patch found) found) absent
          ∙ ap (λ c. value_after c None) (full_sets m m' w e of step full absent) in
          let none : get m key ≡ None = here ∙ absent in
          let within : IsWithin m n' = λ k word has.
          let apart : k ≢ f.key = λ same.
          let clash : None ≡ Some word = sym none ∙ ap (get m) (sym of'.key ∙ sym same) ∙ has in let c : ⊥ = cc in c in
          let was : get n k ≡ Some word = agree.0 k word (live k word has) has in
          elim (event_loses E b n n' v f step' of'.expiry k apart) [
            | inl same ↦ same ∙ was
            | inr gone ↦
                let one : Some word ≡ Some gone.1.0 = sym was ∙ gone.1.1 in
                let is : word ≡ gone.1.0 = cc in
                absurd (true≢false (sym gone.1.2 ∙ ap (λ x. is_among x E) (sym is) ∙ live k word has))
          ] in
          let more = fewer_by_one m n' key s within none stored in
          let most = ltb-false (len m) (most_pairs b) refused.most in
          let few = stays_bounded b n n' v f step' bounded in
          absurd (omega (arith, more, most, few))
    ]

  -- the verdict is one, and the maps that are left agree
  pub record AreAlike (m' n' : Pairs) (e f : Event) : Type 0 where
    pub same : (ruling : Ruling) → verdict_of u.patch ruling e.found e.reply ≡ verdict_of u.patch ruling f.found f.reply
    pub agree : Agree (expired_for u.patch) m' n'

  module _ (m m' n n' : Pairs) (w v : ℕ) (e f : Event) (of : IsEventOf u e) (step : IsEvent b m w e m') (of' : IsEventOf u f)
      (step' : IsEvent b n v f n') (agree : Agree (expired_for u.patch) m n) (bounded : len m ≤ most_pairs b) (bounded' : len n ≤ most_pairs b)
      (unworn : IsNotWorn e.reply) (paged : IsNoRefusal e.reply) (unworn' : IsNotWorn f.reply) (paged' : IsNoRefusal f.reply) where
    both_full : e.reply ≡ Full → f.reply ≡ Full → AreAlike m' n' e f
    both_full full full' = record {
      same = λ ruling.
          let absent : e.found ≡ None = found_is_told b m m' w e step ∙ ap found_by full in
          let absent' : f.found ≡ None = found_is_told b n n' v f step' ∙ ap found_by full' in
          (λ i. verdict_of u.patch ruling ((absent ∙ sym absent') i) ((full ∙ sym full') i));
      agree =
          let left : m' ≡ m = unchanged b m m' w e step (λ found other. let clash = sym full ∙ other in let c : ⊥ = cc in c) in
          let left' : n' ≡ n = unchanged b n n' v f step' (λ found other. let clash = sym full' ∙ other in let c : ⊥ = cc in c) in
          subst (λ x. Agree (expired_for u.patch) x n') (sym left) (subst (λ x. Agree (expired_for u.patch) m x) (sym left') agree);
    }

    both_taken : IsTaken e.reply → IsTaken f.reply → AreAlike m' n' e f
    both_taken taken taken' =
        let E : List ℕ = expired_for u.patch in
        let alike = found_alike m m' n n' w v e f of step of' step' agree bounded' unworn' paged' in record {
          same = λ ruling. verdict_taken u.patch ruling e.found f.found e.reply f.reply alike taken taken';
          agree = agree_after E m n m' n' (words_of u.key) agree
              (subst (λ k. LosesExpired E k m m') of.key (event_loses E b m m' w e step of.expiry))
              (subst (λ k. LosesExpired E k n n') of'.key (event_loses E b n n' v f step' of'.expiry))
              (ap (get m') (sym of.key) ∙ after_taken b m m' w e step taken (decision_of u.patch e.found) of.change
              ∙ same_after u.patch e.found f.found alike
              ∙ sym (value_there m m' n n' w v e f of step of' step' agree bounded' unworn' paged' taken'));
        }

    pub alike_after : AreAlike m' n' e f
    alike_after = elim (taken_or_full e.reply unworn paged) [
      | inr full ↦ both_full full (full_both m m' n n' w v e f of step of' step' agree bounded' unworn' paged' full)
      | inl taken ↦ elim (taken_or_full f.reply unworn' paged') [
        | inr full' ↦
            let full = full_both n n' m m' v w f e of' step' of step (agree.1, agree.0) bounded unworn paged full' in
            absurd (subst IsTaken full taken)
        | inl taken' ↦ both_taken taken taken'
      ]
    ]

-- ---- Time goes on

-- what has ended has ended later too
pub later_by : (times : Timeouts) (t t' : ℕ) (session : Option SessionFacts) → t ≤ t' → has_ended times t session ≡ true
    → has_ended times t' session ≡ true
later_by times t t' None goes ended = refl
later_by times t t' (Some session) goes ended =
    let until : ℕ = live_until session times in
    elim (nat_le t until) as (λ x. nat_le t until ≡ x → not x ≡ true → not (nat_le t' until) ≡ true) [
      | true ↦ λ x is. let c : ⊥ = true≢false (sym is) in absurd c
      | false ↦ λ x is. let past = leb-false t until x in ap not (lt-leb t' until (omega (arith, past, goes)))
    ] refl ended

pub later_among : (times : Timeouts) (t t' word : ℕ) → t ≤ t' → is_among word (expired_words (is_expired_at times t)) ≡ true
    → is_among word (expired_words (is_expired_at times t')) ≡ true
later_among times t t' word goes counts =
    among_words (is_expired_at times t') word (counted_below (is_expired_at times t) word counts)
    ∙ later_by times t t' (session_of word) goes (counted_told (is_expired_at times t) word counts)

live_before : (times : Timeouts) (t t' word : ℕ) → t ≤ t' → is_among word (expired_words (is_expired_at times t')) ≡ false
    → is_among word (expired_words (is_expired_at times t)) ≡ false
live_before times t t' word goes live =
    elim (is_among word (expired_words (is_expired_at times t))) as (λ x. is_among word (expired_words (is_expired_at times t)) ≡ x → x ≡ false) [
      | true ↦ λ x. absurd (true≢false (sym (later_among times t t' word goes x) ∙ live))
      | false ↦ λ x. refl
    ] refl

pub agree_later : (times : Timeouts) (t t' : ℕ) (m n : Pairs) → t ≤ t' → Agree (expired_words (is_expired_at times t)) m n
    → Agree (expired_words (is_expired_at times t')) m n
agree_later times t t' m n goes agree = (
  λ key value live there. agree.0 key value (live_before times t t' value goes live) there,
  λ key value live there. agree.1 key value (live_before times t t' value goes live) there,
)

-- ---- A removal on the one map

-- the key has its word or none
removed_at : (b : Bounds) (n n' : Pairs) (v word : ℕ) (f : Event) → IsEvent b n v f n' → f.found ≡ Some word → f.change ≡ Remove
    → (get n' f.key ≡ None) ⊎ (get n' f.key ≡ Some word)
removed_at b n n' v word f step found change =
    elim (nat_lt v b.limit) as (λ t. Answers (if t then OldKey else WornOut) b n f n' → (get n' f.key ≡ None) ⊎ (get n' f.key ≡ Some word)) [
      | true ↦ λ h. inl (ap (λ x. get x f.key) (h.1 ∙ ap (λ c. changed (without n f.recycling.removed) f.key c) change)
          ∙ get_removed (without n f.recycling.removed) f.key)
      | false ↦ λ h. inr (ap (λ x. get x f.key) h.1 ∙ sym step.found ∙ found)
    ] (subst (λ x. Answers (case_with b (len n) v x (effect_of Remove x)) b n f n') found
    (subst (λ c. Answers (case_with b (len n) v f.found (effect_of c f.found)) b n f n') change step.answers))

-- it removes no key for its own
removed_none : (b : Bounds) (n n' : Pairs) (v word : ℕ) (f : Event) → IsEvent b n v f n' → f.found ≡ Some word → f.recycling.removed ≡ None
removed_none b n n' v word f step found = step.removed
    ∙ ap (λ x. removed_in (case_with b (len n) v x (effect_of f.change x)) n f.recycling.expired) found
    ∙ none_for_old b (len n) v word (effect_of f.change (Some word)) n f.recycling.expired

pub agree_removed : (expired : List ℕ) (b : Bounds) (m n n' : Pairs) (v word : ℕ) (f : Event) → IsEvent b n v f n' → f.found ≡ Some word
    → f.change ≡ Remove → is_among word expired ≡ true → Agree expired m n → Agree expired m n'
agree_removed expired b m n n' v word f step found change counts agree =
    let had : get n f.key ≡ Some word = sym step.found ∙ found in
    let other_kept : (key : List ℕ) → key ≢ f.key → get n' key ≡ get n key
    = λ key differ. others_stay b n n' v f key step differ (λ gone. let clash : None ≡ Some key = sym (removed_none b n n' v word f step found) ∙ gone in let c : ⊥ = cc in c) in
    let is_word : (value : ℕ) → is_among value expired ≡ false → Some word ≡ Some value → ⊥
    = λ value live one. let is : word ≡ value = cc in true≢false (sym counts ∙ ap (λ x. is_among x expired) is ∙ live) in (
      λ key value live there. elim (same_or_other key f.key) [
        | inl same ↦ absurd (is_word value live (sym had ∙ ap (get n) (sym same) ∙ agree.0 key value live there))
        | inr differ ↦ other_kept key differ ∙ agree.0 key value live there
      ],
      λ key value live there. elim (same_or_other key f.key) [
        | inl same ↦ elim (removed_at b n n' v word f step found change) [
          | inl none ↦ let clash : None ≡ Some value = sym none ∙ ap (get n') (sym same) ∙ there in let c : ⊥ = cc in absurd c
          | inr stays ↦ absurd (is_word value live (sym stays ∙ ap (get n') (sym same) ∙ there))
        ]
        | inr differ ↦ agree.1 key value live (sym (other_kept key differ) ∙ there)
      ],
    )
