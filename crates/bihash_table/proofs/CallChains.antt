-- What was learned of a bucket before a lock or an answer: from the first view on it is one call.
use lib.Seq.{set-get_or}
use Rattle.std.proofs.Common.{◌≡◌, ◌⊎◌, ℕ, zero, suc, ◌+◌, ◌≤◌, Bool, true, false, true≢false, List, [], ◌∷◌, ◌++◌, length, get_or, set, set-set, append_assoc, refl, sym, ap, ◌∙◌, subst, arith, le_refl, Option, inl, inr}
use Rattle.bihash_words.specs.Runs.{writes_of}
use Rattle.bihash_words.specs.Maps.{Event}
use Rattle.bihash_words.specs.Sizes.{Sizes}
use Rattle.bihash_words.specs.Words.{Bucket, FitsWord, packed}
use Rattle.bihash_words.specs.declared.patch.Change.{Change}
use Rattle.bihash_words.specs.declared.patch.Reply.{Reply}
use Rattle.bihash_rule.specs.Histories.{IsPrefix, bucket_of}
use Rattle.bihash_rule.specs.Callers.{known_at}
use Rattle.bihash_rule.specs.Buckets.{word_of}
use Rattle.bihash_rule.specs.Views.{nothing_held}
use Rattle.bihash_steps.specs.BucketSteps.{acting, with_history, lock_counted, push_call, SeesOpen, SeesLocked}
use Rattle.bihash_rule.specs.declared.view.Write.{Write}
use Rattle.bihash_rule.specs.declared.view.Record.{Record}
use Rattle.bihash_rule.specs.declared.view.View.{View}
use Rattle.bihash_steps.proofs.Prefixes.{prefix_refl}
use Rattle.bihash_table.specs.Answers.{locks_of, with_locks, entry_of, recycled_update}
use Rattle.bihash_table.specs.Promise.{IsAnswered, IsContended, IsEntered, IsUpdated, IsUpdatedOver}
use Rattle.bihash_table.specs.inner.Locked.{IsLocked}
use Rattle.bihash_table.proofs.CallerViews.{answered_as, answered_by, contended_as, contended_by}
use Rattle.bihash_table.proofs.LockReleases.{with_locks-locks_of}

-- ---- Lock counts

pub with_one_more : (rs : List Record) → with_locks (locks_of rs + 1) rs ≡ lock_counted rs
with_one_more [] = refl
with_one_more (r ∷ rs) = refl

pub with_locks_twice : (m n : ℕ) (rs : List Record) → with_locks m (with_locks n rs) ≡ with_locks m rs
with_locks_twice m n [] = refl
with_locks_twice m n (r ∷ rs) = refl

pub acting_locks : (n : ℕ) (rs : List Record) → acting (with_locks n rs) ≡ acting rs
acting_locks n [] = refl
acting_locks n (r ∷ rs) = refl

-- ---- Histories

pub prefix_trans : (xs ys zs : List Write) → IsPrefix xs ys → IsPrefix ys zs → IsPrefix xs zs
prefix_trans xs ys zs p q = record {
  rest = p.rest ++ q.rest;
  whole = q.whole ∙ (ap (λ (h : List Write). h ++ q.rest) p.whole ∙ append_assoc xs p.rest q.rest);
}

-- a history that continues what was learned continues what was known before
prefix_through : (writes : List (List Write)) (b : ℕ) (h H : List Write) → IsPrefix (get_or writes b []) h
    → IsPrefix (get_or (set writes b h) b []) H → IsPrefix (get_or writes b []) H
prefix_through [] b h H p q = q
prefix_through (x ∷ xs) zero h H p q = prefix_trans x h H p q
prefix_through (x ∷ xs) (suc b) h H p q = prefix_through xs b h H p q

-- ---- A view after others

-- u is v after steps that learned of bucket b and took locks
pub record IsAhead (v u : View) (b : ℕ) : Type 0 where
  pub history : List Write
  pub begins : IsPrefix (known_at v.known b) history
  pub locks : ℕ
  pub is : u ≡ record (with_history v b history) { records = with_locks locks v.records; holds = u.holds; notes = u.notes }
  pub alone : v.lone ≡ true → length history ≤ length (known_at v.known b)

pub locked_ahead : (z : Sizes) (v u : View) (b word : ℕ) → IsLocked z v u b word → IsAhead v u b
locked_ahead z v u b word s = let same = sym s.is in record {
  history = s.history;
  begins = s.begins;
  locks = locks_of v.records + 1;
  is = s.is ∙ (λ i. record (with_history v b s.history) { records = sym (with_one_more v.records) i; holds = (same i).holds; notes = (same i).notes });
  alone = s.alone;
}

pub contended_ahead : (z : Sizes) (v u : View) (b : ℕ) → IsContended z v u b → IsAhead v u b
contended_ahead z v u b a = let s = contended_as z v u b a in let same = sym s.is in record {
  history = s.history;
  begins = s.begins;
  locks = s.locks;
  is = s.is ∙ (λ i. record (with_history v b s.history) { records = with_locks s.locks v.records; holds = (same i).holds; notes = u.notes });
  alone = s.alone;
}

-- a list that was learned is as long as what was learned, or there is none
pub learned_length : (writes : List (List Write)) (b : ℕ) (h : List Write) (n : ℕ) → length h ≤ n → length (get_or (set writes b h) b []) ≤ n
learned_length [] b h n few = omega arith
learned_length (x ∷ xs) zero h n few = few
learned_length (x ∷ xs) (suc b) h n few = learned_length xs b h n few

ahead_lone : (v u : View) (b : ℕ) → IsAhead v u b → v.lone ≡ true → u.lone ≡ true
ahead_lone v u b s lone = ap (λ (x : View). x.lone) s.is ∙ lone

-- a lone caller knows no more of the bucket than before
ahead_few : (v u : View) (b : ℕ) → IsAhead v u b → v.lone ≡ true → length (known_at u.known b) ≤ length (known_at v.known b)
ahead_few v u b s lone = subst (λ (x : View). length (known_at x.known b) ≤ length (known_at v.known b)) (sym s.is)
    (learned_length v.known.writes b s.history (length (known_at v.known b)) (s.alone lone))

module _ (z : Sizes) (v u w : View) where
  -- what continues the history of u continues that of v
  goes_on : (b : ℕ) (H : List Write) → IsAhead v u b → IsPrefix (known_at u.known b) H → IsPrefix (known_at v.known b) H
  goes_on b H s p = prefix_through v.known.writes b s.history H s.begins
      (subst (λ (x : View). IsPrefix (known_at x.known b) H) s.is p)

  pub ahead_contended : (b : ℕ) → IsAhead v u b → IsContended z u w b → IsContended z v w b
  ahead_contended b s a = let t = contended_as z u w b a in contended_by z v w b record {
    history = t.history;
    begins = goes_on b t.history s t.begins;
    locks = t.locks;
    is = t.is ∙ (ap (λ (x : View). record (with_history x b t.history) {
      records = with_locks t.locks x.records;
      holds = nothing_held;
      notes = w.notes;
    }) s.is
        ∙ (λ i. record v {
          records = with_locks_twice t.locks s.locks v.records i;
          known = record v.known { writes = set-set v.known.writes b s.history t.history i };
          holds = nothing_held;
          notes = w.notes;
        }));
    alone = λ lone. let few = t.alone (ahead_lone v u b s lone) in let same = ahead_few v u b s lone in omega arith;
  }

  ahead_answered_at : (e : Event) → IsAhead v u (bucket_of z e.key) → IsAnswered z u w e → IsAnswered z v w e
  ahead_answered_at e s a = let t = answered_as z u w e a in let b : ℕ = bucket_of z e.key in answered_by z v w e record {
    history = t.history;
    begins = goes_on b t.history s t.begins;
    locks = t.locks;
    noted = t.noted;
    is = t.is ∙ (ap (λ (x : View). record (with_history x b t.history) {
      records = push_call (entry_of z (length t.history) e t.noted) (with_locks t.locks x.records);
      holds = nothing_held;
      notes = w.notes;
      log = w.log;
    }) s.is
        ∙ (λ i. record v {
          records = push_call (entry_of z (length t.history) e t.noted) (with_locks_twice t.locks s.locks v.records i);
          known = record v.known { writes = set-set v.known.writes b s.history t.history i };
          holds = nothing_held;
          notes = w.notes;
          log = w.log;
        }));
    entered = let call = entry_of z (length t.history) e t.noted in
        subst (λ (n : ℕ). IsEntered v.log n call w.log t.history) (acting_locks s.locks v.records)
        (subst (λ (x : View). IsEntered x.log (acting x.records) call w.log t.history) s.is t.entered);
    alone = λ lone. let few = t.alone (ahead_lone v u b s lone) in let same = ahead_few v u b s lone in
        let own : ℕ = writes_of e.reply in omega arith;
  }

  pub ahead_answered : (b : ℕ) (e : Event) → bucket_of z e.key ≡ b → IsAhead v u b → IsAnswered z u w e → IsAnswered z v w e
  ahead_answered b e home s = ahead_answered_at e (subst (IsAhead v u) (sym home) s)

  pub ahead_updated : (b : ℕ) (key : List ℕ) (decision : Option ℕ → Change) (reply : Reply) → bucket_of z key ≡ b → IsAhead v u b
      → IsUpdated z u w key decision reply → IsUpdated z v w key decision reply
  ahead_updated b key decision reply home s t = record { found = t.found; answered = ahead_answered b _ home s t.answered }

  -- ---- What was contended, and tried again

  pub again_contended : (b : ℕ) → IsContended z v u b → IsContended z u w b → IsContended z v w b
  again_contended b s = ahead_contended b (contended_ahead z v u b s)

  pub again_answered : (b : ℕ) (e : Event) → bucket_of z e.key ≡ b → IsContended z v u b → IsAnswered z u w e → IsAnswered z v w e
  again_answered b e home s = ahead_answered b e home (contended_ahead z v u b s)

  pub again_updated : (b : ℕ) (key : List ℕ) (decision : Option ℕ → Change) (reply : Reply) → bucket_of z key ≡ b → IsContended z v u b
      → IsUpdated z u w key decision reply → IsUpdated z v w key decision reply
  again_updated b key decision reply home s = ahead_updated b key decision reply home (contended_ahead z v u b s)

  pub again_updated_over : (b : ℕ) (key : List ℕ) (decision : Option ℕ → Change) (is_expired : ℕ → Bool) (reply : Reply)
      → bucket_of z key ≡ b → IsContended z v u b → IsUpdatedOver z u w key decision is_expired reply
      → IsUpdatedOver z v w key decision is_expired reply
  again_updated_over b key decision is_expired reply home s h = record {
    found = h.found;
    answered = record {
      removed = h.answered.removed;
      answered = again_answered b (recycled_update key h.found (decision h.found) is_expired h.answered.removed reply) home s
          h.answered.answered;
      expired = h.answered.expired;
    };
  }

-- before the first try
pub not_yet_tried : (z : Sizes) (v : View) (b : ℕ) → v.holds ≡ nothing_held → IsContended z v v b
not_yet_tried z v b free = contended_by z v v b record {
  history = known_at v.known b;
  begins = prefix_refl (known_at v.known b);
  locks = locks_of v.records;
  is = λ i. record v {
    records = sym (with_locks-locks_of v.records) i;
    known = record v.known { writes = sym (set-get_or v.known.writes b []) i };
    holds = free i;
  };
  alone = λ _. le_refl (length (known_at v.known b));
}

-- ---- The word of a bucket and its lock

-- a word tells of its lock bit
abbrev pub TellsLocked : ℕ → Bool → Type 0
TellsLocked word locked = (x : Bucket) → FitsWord x → word ≡ packed x → locked ≡ x.locked

module _ (z : Sizes) (v u : View) (b word : ℕ) where
  pub sees_open : (locked : Bool) → TellsLocked word locked → locked ≡ false → SeesOpen z v b word u ⊎ SeesLocked v word u
      → SeesOpen z v b word u
  sees_open locked tells is s = elim s [
    | inl found ↦ found
    | inr held ↦ absurd (true≢false (sym (tells (word_of held.extent true held.version) held.fits held.stood) ∙ is))
  ]

  pub open_not_locked : (locked : Bool) → TellsLocked word locked → locked ≡ true → SeesOpen z v b word u → ⊥
  open_not_locked locked tells is s = true≢false (sym is ∙ tells (word_of s.extent false (length s.history)) s.found.fits s.found.stood)

  pub sees_locked : (locked : Bool) → TellsLocked word locked → locked ≡ true → SeesOpen z v b word u ⊎ SeesLocked v word u
      → SeesLocked v word u
  sees_locked locked tells is s = elim s [
    | inl found ↦ absurd (open_not_locked locked tells is found)
    | inr held ↦ held
  ]

  pub locked_turns_away : v.holds ≡ nothing_held → SeesLocked v word u → IsContended z v u b
  locked_turns_away free s = let notes = ap (λ (x : View). x.notes) s.is in contended_by z v u b record {
    history = known_at v.known b;
    begins = prefix_refl (known_at v.known b);
    locks = locks_of v.records;
    is = s.is ∙ (λ i. record v {
      records = sym (with_locks-locks_of v.records) i;
      known = record v.known { writes = sym (set-get_or v.known.writes b []) i };
      holds = free i;
      notes = sym notes i;
    });
    alone = λ _. le_refl (length (known_at v.known b));
  }
