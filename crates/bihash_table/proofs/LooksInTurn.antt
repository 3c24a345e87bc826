-- Looks at buckets one after the other: what they leave, how many removed a pair, and how many can.
use Rattle.std.proofs.Common.{◌≡◌, ◌∙◌, ℕ, ◌+◌, ◌<◌, ◌≤◌, Bool, true, false, All, List, [], ◌∷◌, ◌++◌, length, length-append, append_assoc, Option, Some, None, inl, inr, arith, refl, sym, ap, subst}
use lib.ListN.{get_elem?}
use mathlib.Core.Option.{some}
use Rattle.std.specs.Prelude.{count_by, cond}
use Rattle.std.proofs.lemmas.Bool.{cases_lt}
use Rattle.std.proofs.lemmas.List.Elements.{All-append, All-cons, All-nil, All-weaker}
use Rattle.std.proofs.lemmas.List.Sums.{sum_by-append}
use Rattle.bihash_words.specs.Sizes.{Sizes}
use Rattle.bihash_words.specs.declared.patch.Change.TheVariants.{Remove}
use Rattle.bihash_words.specs.declared.patch.Reply.{Reply}
use Rattle.bihash_rule.specs.Callers.{IsLawfulCaller}
use Rattle.bihash_rule.specs.Histories.{is_changed}
use Rattle.bihash_rule.specs.Logs.{Begins, writes_on}
use Rattle.bihash_rule.specs.Views.{nothing_held}
use Rattle.bihash_rule.specs.Words.{buckets}
use Rattle.bihash_rule.specs.declared.view.Call.{Call}
use Rattle.bihash_rule.specs.declared.view.Entry.{Entry}
use Rattle.bihash_rule.specs.declared.view.Record.{Record}
use Rattle.bihash_rule.specs.declared.view.View.{View}
use Rattle.bihash_steps.specs.BucketCalls.{event}
use Rattle.bihash_steps.specs.BucketSteps.{acting, push_call}
use Rattle.bihash_steps.specs.Seats.{CallerState, with_view}
use Rattle.bihash_table.specs.Ageing.{Ages, EndsAt, Look, LookInTurn, RemovesExpired, Sweeps, TellsExpire, is_removal, removes}
use Rattle.bihash_table.specs.Answers.{entry_of, with_locks}
use Rattle.bihash_steps.proofs.LogLemmas.{write_here, writes_on-append}
use Rattle.bihash_table.proofs.SameCallers.{same_through}

-- ---- Writes of a bucket in the log

-- the last call of a record is at its end
at_last : (calls : List Call) (c : Call) → get_elem? (calls ++ c ∷ []) (length calls) ≡ some c
at_last [] c = refl
at_last (d ∷ calls) c = at_last calls c

-- a call that a lawful caller just made has no greater stamp than its bucket may have writes
pushed_short : (z : Sizes) (w : View) (c : Call) (rs : List Record) → IsLawfulCaller z w → w.records ≡ push_call c rs → c.bucket < buckets z
    → c.stamp ≤ z.limit
pushed_short z w c [] h is inside = absurd (let acts = h.acts in let none = ap (λ (l : List Record). length l) is in omega arith)
pushed_short z w c (r ∷ rs) h is inside =
    let legal = h.lawful.legal 0 (length r.calls) (record r { calls = r.calls ++ c ∷ [] }) c (ap (λ (l : List Record). get_elem? l 0) is)
    (at_last r.calls c) in
    let seen = legal.seen in let short = (h.lists c.bucket inside).short in omega arith

-- a log that goes on has no fewer writes of a bucket
writes_begin : (b : ℕ) (xs ys : List Entry) → Begins xs ys → length (writes_on b xs) ≤ length (writes_on b ys)
writes_begin b xs ys h =
    let both = ap (λ (l : List Entry). length (writes_on b l)) h.whole ∙ ap length (writes_on-append b xs h.rest) in
    let sum = length-append (writes_on b xs) (writes_on b h.rest) in omega arith

module _ (z : Sizes) (v w : View) (b : ℕ) (is_expired : ℕ → Bool) (reply : Reply) (h : RemovesExpired z v w b is_expired reply) where
  abbrev entry : Entry
  entry = record { by = acting v.records; call = entry_of z (length h.answered.history) (event h.key (Some h.value) Remove reply) h.answered.noted }

  -- the writes of the bucket before the entry, and with it
  writes_after : length (writes_on b w.log) ≡ length (writes_on b h.answered.entered.before) + length (writes_on b (entry ∷ []))
  writes_after = ap (λ (l : List Entry). length (writes_on b l)) h.answered.entered.is
      ∙ (ap length (writes_on-append b h.answered.entered.before (entry ∷ []))
      ∙ length-append (writes_on b h.answered.entered.before) (writes_on b (entry ∷ [])))

  writes_before : length (writes_on b v.log) ≤ length (writes_on b h.answered.entered.before)
  writes_before = writes_begin b v.log h.answered.entered.before h.answered.entered.begins

  -- a pair that is removed is one write more
  pub one_more : is_changed reply ≡ true → length (writes_on b v.log) + 1 ≤ length (writes_on b w.log)
  one_more changed = let own = ap length (write_here b entry changed h.home) in
      let before = writes_before in let after = writes_after in omega arith

  -- a bucket has no more writes than its limit
  pub few_writes : IsLawfulCaller z w → b < buckets z → length (writes_on b w.log) ≤ z.limit
  few_writes lawful inside =
      let short : length h.answered.history ≤ z.limit
      = pushed_short z w entry.call (with_locks h.answered.locks v.records) lawful h.answered.records (subst (λ (c : ℕ). c < buckets z) (sym h.home) inside) in
      let same = ap length h.answered.entered.writes in
      subst (λ (c : ℕ). length (writes_on c w.log) ≤ z.limit) h.home (omega arith)

-- ---- Looks one after the other

abbrev Between : ℕ → ℕ → Look → Type 0
Between from to look = (from ≤ look.bucket) × (look.bucket < to)

abbrev look_at : ℕ → Option Reply → Look
look_at b found = record { bucket = b; found = found }

-- nothing is held after a look
look_free : (z : Sizes) (v w : View) (b : ℕ) (is_expired : ℕ → Bool) (found : Option Reply) → Ages z v w b is_expired found → w.holds ≡ nothing_held
look_free z v w b is_expired None h = h.learned.free
look_free z v w b is_expired (Some reply) h = h.answered.free

pub looks_join : (z : Sizes) (is_expired : ℕ → Bool) (v u w : View) (looks more : List Look) → LookInTurn z is_expired v looks u
    → LookInTurn z is_expired u more w → LookInTurn z is_expired v (looks ++ more) w
looks_join z is_expired v u w [] more same h = subst (λ (x : View). LookInTurn z is_expired x more w) same h
looks_join z is_expired v u w (first ∷ looks) more (x, one, lawful, rest) h = (x, one, lawful, looks_join z is_expired x u w looks more rest h)

one_look : (z : Sizes) (is_expired : ℕ → Bool) (v w : View) (b : ℕ) (found : Option Reply) → Ages z v w b is_expired found
    → IsLawfulCaller z w → LookInTurn z is_expired v (look_at b found ∷ []) w
one_look z is_expired v w b found h lawful = (w, h, lawful, refl)

count_join : (xs ys : List Look) → count_by removes (xs ++ ys) ≡ count_by removes xs + count_by removes ys
count_join xs ys = sum_by-append (λ look. cond (removes look) 1 0) xs ys

count_one : (b : ℕ) (found : Option Reply) (removal : Bool) → is_removal found ≡ removal → count_by removes (look_at b found ∷ []) ≡ cond removal 1 0
count_one b found true is = ap (λ (c : Bool). 0 + cond c 1 0) is
count_one b found false is = ap (λ (c : Bool). 0 + cond c 1 0) is

-- looks at one bucket, each of which removed a pair
pub record Removals (z : Sizes) (s t : CallerState) (b : ℕ) (is_expired : ℕ → Bool) (went : ℕ) : Type 0 where
  pub same : t ≡ with_view s t.view
  pub looks : List Look
  pub within : All (Between b (b + 1)) looks
  pub ages : LookInTurn z is_expired s.view looks t.view
  pub counted : went ≡ count_by removes looks
  pub written : went ≤ length (writes_on b t.view.log)
  pub few : went ≤ z.limit
  pub free : t.view.holds ≡ nothing_held

module _ (z : Sizes) (b : ℕ) (is_expired : ℕ → Bool) where
  one_within : (found : Option Reply) → All (Between b (b + 1)) (look_at b found ∷ [])
  one_within found = All-cons (Between b (b + 1)) (look_at b found) [] (omega arith, omega arith) (All-nil (Between b (b + 1)))

  pub removals_none : (s : CallerState) → s.view.holds ≡ nothing_held → Removals z s s b is_expired 0
  removals_none s free = record {
    same = refl;
    looks = [];
    within = All-nil (Between b (b + 1));
    ages = refl;
    counted = refl;
    written = omega arith;
    few = omega arith;
    free = free;
  }

  module _ (s u t : CallerState) (went : ℕ) (h : Removals z s u b is_expired went) where
    pub removals_more : (found : Option Reply) → TellsExpire z u t b is_expired found → is_removal found ≡ true → b < buckets z
        → Removals z s t b is_expired (went + 1)
    removals_more None told removal inside = absurd cc
    removals_more (Some reply) told removal inside =
        let more = one_more z u.view t.view b is_expired reply told.answered removal in
        let short = few_writes z u.view t.view b is_expired reply told.answered told.lawful inside in
        let before = h.written in
        let one = count_one b (Some reply) true removal in
        let all = count_join h.looks (look_at b (Some reply) ∷ []) in
        let counted = h.counted in record {
          same = same_through s u t _ h.same told.same;
          looks = h.looks ++ look_at b (Some reply) ∷ [];
          within = All-append (Between b (b + 1)) h.looks (look_at b (Some reply) ∷ []) h.within (one_within (Some reply));
          ages = looks_join z is_expired s.view u.view t.view h.looks (look_at b (Some reply) ∷ []) h.ages
              (one_look z is_expired u.view t.view b (Some reply) told.answered told.lawful);
          counted = omega arith;
          written = omega arith;
          few = omega arith;
          free = told.answered.answered.free;
        }

    -- the last look removes nothing
    pub removals_end : (found : Option Reply) → TellsExpire z u t b is_expired found → is_removal found ≡ false
        → Sweeps z s t b (b + 1) is_expired went
    removals_end found told stays =
        let none = count_one b found false stays in
        let all = count_join h.looks (look_at b found ∷ []) in
        let counted = h.counted in record {
          same = same_through s u t _ h.same told.same;
          looks = h.looks ++ look_at b found ∷ [];
          within = All-append (Between b (b + 1)) h.looks (look_at b found ∷ []) h.within (one_within found);
          ages = looks_join z is_expired s.view u.view t.view h.looks (look_at b found ∷ []) h.ages
              (one_look z is_expired u.view t.view b found told.answered told.lawful);
          each = λ c low high. record {
            before = h.looks;
            after = [];
            found = found;
            splits = let same : b ≡ c = omega arith in ap (λ (n : ℕ). h.looks ++ look_at n found ∷ []) same;
            stays = stays;
            later = All-nil (λ look. c < look.bucket);
          };
          counted = omega arith;
          free = look_free z u.view t.view b is_expired found told.answered;
          lawful = λ some. told.lawful;
        }

-- ---- Buckets one after the other

pub sweeps_none : (z : Sizes) (s : CallerState) (from : ℕ) (is_expired : ℕ → Bool) → s.view.holds ≡ nothing_held → Sweeps z s s from from is_expired 0
sweeps_none z s from is_expired free = record {
  same = refl;
  looks = [];
  within = All-nil (Between from from);
  ages = refl;
  each = λ b low high. absurd (omega arith);
  counted = refl;
  free = free;
  lawful = λ some. absurd (omega arith);
}

-- a bucket whose last look stands among the first looks, and one whose last look stands among the next ones
ends_first : (looks more : List Look) (b at : ℕ) → b < at → All (Between at (at + 1)) more → EndsAt looks b → EndsAt (looks ++ more) b
ends_first looks more b at less within h = record {
  before = h.before;
  after = h.after ++ more;
  found = h.found;
  splits = ap (λ (l : List Look). l ++ more) h.splits ∙ append_assoc h.before (look_at b h.found ∷ h.after) more;
  stays = h.stays;
  later = All-append (λ look. b < look.bucket) h.after more h.later
      (All-weaker (Between at (at + 1)) (λ look. b < look.bucket) (λ look here. let low = here.0 in omega arith) more within);
}

ends_next : (looks more : List Look) (b : ℕ) → EndsAt more b → EndsAt (looks ++ more) b
ends_next looks more b h = record {
  before = looks ++ h.before;
  after = h.after;
  found = h.found;
  splits = ap (λ (l : List Look). looks ++ l) h.splits ∙ sym (append_assoc looks h.before (look_at b h.found ∷ h.after));
  stays = h.stays;
  later = h.later;
}

pub sweeps_more : (z : Sizes) (s u t : CallerState) (from at went more : ℕ) (is_expired : ℕ → Bool) → from ≤ at → Sweeps z s u from at is_expired went
    → Sweeps z u t at (at + 1) is_expired more → Sweeps z s t from (at + 1) is_expired (went + more)
sweeps_more z s u t from at went more is_expired order h k = record {
  same = same_through s u t _ h.same k.same;
  looks = h.looks ++ k.looks;
  within = All-append (Between from (at + 1)) h.looks k.looks
      (All-weaker (Between from at) (Between from (at + 1)) (λ look here. (here.0, let high = here.1 in omega arith)) h.looks h.within)
      (All-weaker (Between at (at + 1)) (Between from (at + 1)) (λ look here. ((let low = here.0 in omega arith), here.1)) k.looks k.within);
  ages = looks_join z is_expired s.view u.view t.view h.looks k.looks h.ages k.ages;
  each = λ b low high. elim (cases_lt b at) [
    | inl before ↦ ends_first h.looks k.looks b at before k.within (h.each b low before)
    | inr behind ↦ ends_next h.looks k.looks b (k.each b (omega arith) high)
  ];
  counted = let first = h.counted in let next = k.counted in let all = count_join h.looks k.looks in omega arith;
  free = k.free;
  lawful = λ some. k.lawful (omega arith);
}
