-- Only a session that isn't live goes for a packet's own, and none where all are live.
use Rattle.std.proofs.Common.{◌≡◌, ◌∙◌, ◌<◌, ◌==◌, ◌^◌, ℕ, zero, suc, Bool, true, false, true≢false, List, ◌∷◌, Option, Some, None, ap, arith, refl, sym, subst}
use Rattle.std.proofs.lemmas.Bool.{eqb-true}
use Rattle.std.specs.Prelude.{if◌then◌else◌, not}
use Rattle.std.specs.FinMap.{get}
use Rattle.bihash_words.specs.Expiries.{expired_words, is_among, words_below}
use Rattle.bihash_words.specs.Maps.{Bounds, Event, Pairs, IsEvent, expired_told, spare}
use Rattle.bihash_words.proofs.MapLemmas.{removed_was_spare}
use Rattle.bihash_words.proofs.SpareLemmas.{among_words, counted_told, none_spare, spare_tells}
use Rattle.session_state.specs.Decisions.{PatchFacts, is_live_for}
use Rattle.session_state.specs.Sessions.{is_expired_at}
use Rattle.session_state.proofs.ExpiryLemmas.{expired_is_not_live}
use Rattle.flow_filter.specs.Judged.{IsEventOf, expired_for}
use Rattle.flow_filter.specs.Passing.{MakesRoom}
use Rattle.flow_filter.specs.Updates.{Update}

turned : (a b : Bool) → a ≡ not b → a ≡ true → b ≡ false
turned a true is holds = absurd (true≢false (sym holds ∙ is))
turned a false is holds = refl

turned_back : (a b : Bool) → a ≡ not b → a ≡ false → b ≡ true
turned_back a true is fails = refl
turned_back a false is fails = absurd (true≢false (sym is ∙ fails))

-- a word that counts has 64 bits
below : (test : ℕ → Bool) (n v : ℕ) → is_among v (words_below test n) ≡ true → v < n
unfolding words_below
below test zero v counts = absurd (true≢false (sym counts))
below test (suc n) v counts =
    elim (test n) as (λ t. is_among v (if t then n ∷ words_below test n else words_below test n) ≡ true → v < suc n) [
      | true ↦ elim (n == v) as (λ s. (n == v) ≡ s
          → (if s then true else is_among v (words_below test n)) ≡ true → v < suc n) [
            | true ↦ λ same h. let is = eqb-true n v same in omega arith
            | false ↦ λ other h. let less = below test n v h in omega arith
          ] refl
      | false ↦ λ h. let less = below test n v h in omega arith
    ] counts

pub counted_below : (test : ℕ → Bool) (v : ℕ) → is_among v (expired_words test) ≡ true → v < 2 ^ 64
unfolding expired_words
counted_below test v counts = below test (2 ^ 64) v counts

-- a word that counts as expired for a packet is no live session for it
pub ended_for : (patch : PatchFacts) (word : ℕ) → is_among word (expired_for patch) ≡ true
    → is_live_for patch (Some word) ≡ false
ended_for patch word counts =
    turned (is_expired_at patch.times patch.moment word) (is_live_for patch (Some word)) (expired_is_not_live patch word)
    (counted_told (is_expired_at patch.times patch.moment) word counts)

-- each other word is one
pub counted_for : (patch : PatchFacts) (word : ℕ) → word < 2 ^ 64 → is_live_for patch (Some word) ≡ false
    → is_among word (expired_for patch) ≡ true
counted_for patch word is ended =
    among_words (is_expired_at patch.times patch.moment) word is ∙ expired_is_not_live patch word ∙ ap not ended

pub made_room : (u : Update) (b : Bounds) (m n : Pairs) (w : ℕ) (e : Event) (gone : List ℕ) → IsEventOf u e
    → IsEvent b m w e n → e.recycling.removed ≡ Some gone → MakesRoom u m gone
made_room u b m n w e gone of step is =
    let went = removed_was_spare b m n w e gone step is in
    let words : e.recycling.expired ≡ expired_for u.patch =
    of.expiry ∙ ap (λ removed. expired_told removed e.reply (expired_for u.patch)) is in record {
      word = went.value;
      stands = went.stands;
      ended = ended_for u.patch went.value (subst (λ ws. is_among went.value ws ≡ true) words went.counts);
      least = λ key other short found ended.
          went.least key other found
          (subst (λ ws. is_among other ws ≡ true) (sym words) (counted_for u.patch other short ended));
    }

-- no key goes exactly where each word is a live session
pub none_goes : (patch : PatchFacts) (m : Pairs) → spare m (expired_for patch) ≡ None → (key : List ℕ) (word : ℕ)
    → word < 2 ^ 64 → get m key ≡ Some word → is_live_for patch (Some word) ≡ true
none_goes patch m none key word short found =
    turned_back (is_expired_at patch.times patch.moment word) (is_live_for patch (Some word))
    (expired_is_not_live patch word)
    (sym (among_words (is_expired_at patch.times patch.moment) word short)
    ∙ (none_spare m (expired_for patch)).1 none key word found)

pub none_while_live : (patch : PatchFacts) (m : Pairs) → ((key : List ℕ) (word : ℕ) → word < 2 ^ 64
    → get m key ≡ Some word → is_live_for patch (Some word) ≡ true) → spare m (expired_for patch) ≡ None
none_while_live patch m live = go (spare m (expired_for patch)) refl
  where
    go : (goes : Option (List ℕ)) → spare m (expired_for patch) ≡ goes → goes ≡ None
    go None is = refl
    go (Some gone) is =
        let went = spare_tells m (expired_for patch) gone is in
        let short = counted_below (is_expired_at patch.times patch.moment) went.value went.counts in
        absurd (true≢false (sym (live gone went.value short went.stands) ∙ ended_for patch went.value went.counts))
