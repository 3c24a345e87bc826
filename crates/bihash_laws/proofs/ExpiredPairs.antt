-- What the entry of a call with an expiry says of the expired pairs of its bucket.
use Rattle.std.proofs.Common.{◌≡◌, ◌∙◌, ◌<◌, ◌^◌, ℕ, Bool, true, false, List, length, ap, arith, refl, sym, subst, inl, inr, pow_pos, Option, Some, None}
use Rattle.std.proofs.Math.Nat.{mod-lt}
use Rattle.std.specs.FinMap.{get}
use Rattle.bihash_words.specs.Expiries.{expired_words}
use Rattle.bihash_words.specs.Maps.{Answers, AnswersFull, Bounds, Case, Event, NewKey, NoRoom, OldKey, Pairs, Unchanged, WornOut, expired_told, removed_in, spare}
use Rattle.bihash_words.specs.Sizes.{Sizes}
use Rattle.bihash_words.specs.declared.patch.Change.{Change}
use Rattle.bihash_words.specs.declared.patch.Reply.{Reply}
use Rattle.bihash_words.specs.declared.patch.Reply.TheVariants.{Changed, Full}
use Rattle.bihash_words.proofs.MapLemmas.{removed_was_spare}
use Rattle.bihash_words.proofs.SpareLemmas.{among_words, counted_told, none_spare}
use Rattle.bihash_rule.specs.Histories.{IsWriteList, after, is_changed}
use Rattle.bihash_rule.specs.Callers.{known_at, opening_at}
use Rattle.bihash_steps.specs.BucketSteps.{map_now}
use Rattle.bihash_rule.specs.declared.view.View.{View}
use Rattle.bihash_steps.proofs.Homes.{pairs_after}
use Rattle.bihash_table.specs.Answers.{recycled_update}
use Rattle.bihash_laws.specs.Recyclings.{HasRecycled}
use Rattle.bihash_laws.specs.CallRuns.{IsLawfulAnswer}
use Rattle.bihash_laws.proofs.AnsweredCalls.{legal}
use Rattle.bihash_laws.proofs.MapSteps.{after_next}

-- ---- One step of a map

refused_none : (removed : Option (List ℕ)) (m n : Pairs) (e : Event) → AnswersFull removed m e n → e.reply ≡ Full → removed ≡ None
refused_none None m n e h is = refl
refused_none (Some gone) m n e h is = absurd (let clash = sym h.0 ∙ is in let f : ⊥ = cc in f)

full_at : (r : Case) (b : Bounds) (m n : Pairs) (e : Event) → e.recycling.removed ≡ removed_in r m e.recycling.expired
    → Answers r b m e n → e.reply ≡ Full → spare m e.recycling.expired ≡ None
full_at Unchanged b m n e removed h is = absurd (let clash = sym h.0 ∙ is in let f : ⊥ = cc in f)
full_at WornOut b m n e removed h is = absurd (let clash = sym h.0 ∙ is in let f : ⊥ = cc in f)
full_at NoRoom b m n e removed h is = sym removed ∙ refused_none e.recycling.removed m n e h is
full_at NewKey b m n e removed (inl h) is = absurd (let clash = sym h.0 ∙ is in let f : ⊥ = cc in f)
full_at NewKey b m n e removed (inr h) is = absurd (let clash = sym h.0.2 ∙ is in let f : ⊥ = cc in f)
full_at OldKey b m n e removed h is = absurd (let clash = sym h.0 ∙ is in let f : ⊥ = cc in f)

taken_place : (removed : Option (List ℕ)) (gone : List ℕ) (m n : Pairs) (e : Event) → AnswersFull removed m e n → removed ≡ Some gone
    → e.reply ≡ Changed None
taken_place None gone m n e h is = absurd (let f : ⊥ = cc in f)
taken_place (Some key) gone m n e h is = h.0

recycled_at : (r : Case) (b : Bounds) (m n : Pairs) (e : Event) (gone : List ℕ) → e.recycling.removed ≡ removed_in r m e.recycling.expired
    → Answers r b m e n → e.recycling.removed ≡ Some gone → e.reply ≡ Changed None
recycled_at Unchanged b m n e gone removed h is = absurd (let clash = sym removed ∙ is in let f : ⊥ = cc in f)
recycled_at WornOut b m n e gone removed h is = absurd (let clash = sym removed ∙ is in let f : ⊥ = cc in f)
recycled_at NoRoom b m n e gone removed h is = taken_place e.recycling.removed gone m n e h is
recycled_at NewKey b m n e gone removed h is = absurd (let clash = sym removed ∙ is in let f : ⊥ = cc in f)
recycled_at OldKey b m n e gone removed h is = absurd (let clash = sym removed ∙ is in let f : ⊥ = cc in f)

-- a refusal for want of room bears its expiry
asked_full : (removed : Option (List ℕ)) (words : List ℕ) → expired_told removed Full words ≡ words
asked_full None words = refl
asked_full (Some gone) words = refl

-- ---- An answered call

module _ (z : Sizes) (b : ℕ) (v w : View) (key : List ℕ) (found : Option ℕ) (change : Change) (is_expired : ℕ → Bool) where
  its_writes : (e : Event) → IsLawfulAnswer z b v w e → IsWriteList z b (opening_at w.known b) (known_at w.known b)
  its_writes e a = a.lawful.lists b (subst (λ (n : ℕ). n < 2 ^ z.log2_buckets) a.home
      (mod-lt (z.hash e.key) (let some = pow_pos z.log2_buckets in omega arith)))

  pub full_none : (removed : Option (List ℕ)) → IsLawfulAnswer z b v w (recycled_update key found change is_expired removed Full)
      → (other : List ℕ) (value : ℕ) → get (map_now w b) other ≡ Some value → is_expired value ≡ false
  full_none removed a other value stands =
      let e : Event = recycled_update key found change is_expired removed Full in
      let step = (legal z b v w e a).other refl in
      let low = (pairs_after z b (opening_at w.known b) (known_at w.known b) (length (known_at w.known b)) other value (its_writes e a) stands).storable in
      let none : spare (map_now w b) (expired_words is_expired) ≡ None =
      subst (λ (words : List ℕ). spare (map_now w b) words ≡ None) (asked_full removed (expired_words is_expired))
      (full_at _ _ (map_now w b) _ e step.1.removed step.1.answers refl) in
      sym (among_words is_expired value (omega arith)) ∙ (none_spare (map_now w b) (expired_words is_expired)).1 none other value stands

  pub gone_recycled : (gone : List ℕ) (reply : Reply) → IsLawfulAnswer z b v w (recycled_update key found change is_expired (Some gone) reply)
      → HasRecycled (opening_at w.known b) (known_at w.known b) key change is_expired gone reply
  gone_recycled gone reply a = go (is_changed reply) refl
    where
      go : (t : Bool) → is_changed reply ≡ t → HasRecycled (opening_at w.known b) (known_at w.known b) key change is_expired gone reply
      go false read =
          let e : Event = recycled_update key found change is_expired (Some gone) reply in
          let step = (legal z b v w e a).other read in
          let wrote = recycled_at _ _ (map_now w b) _ e gone step.1.removed step.1.answers refl in
          absurd (let clash = sym read ∙ ap is_changed wrote in let f : ⊥ = cc in f)
      go true wrote =
          let e : Event = recycled_update key found change is_expired (Some gone) reply in
          let o = (legal z b v w e a).write wrote in
          let m : Pairs = after (opening_at w.known b) (known_at w.known b) o.0 in
          let spare = removed_was_spare _ m _ _ e gone o.3.1 refl in record {
            before = o.0;
            last = o.1;
            goes = record {
              value = spare.value;
              stands = spare.stands;
              expired = counted_told is_expired spare.value spare.counts;
              least = λ other value at yes.
                  let low = (pairs_after z b (opening_at w.known b) (known_at w.known b) o.0 other value (its_writes e a) at).storable in
                  spare.least other value at (among_words is_expired value (omega arith) ∙ yes);
            };
            answered = recycled_at _ _ m _ e gone o.3.1.removed o.3.1.answers refl;
            leaves = ap (after (opening_at w.known b) (known_at w.known b)) o.1
                ∙ after_next (opening_at w.known b) (known_at w.known b) o.0 _ o.2;
          }
