-- What an answered call leaves of a lawful caller.
use Rattle.std.proofs.Common.{◌≡◌, ◌≢◌, ◌⊎◌, ◌∙◌, ◌+◌, ◌<◌, ◌≤◌, ℕ, zero, suc, true, false, List, [], ◌∷◌, ◌++◌, length, get_or, set, ap, arith, refl, sym, subst, inl, inr, get_or-set_other, pow_pos}
use Rattle.std.specs.Prelude.{replicate, cond, Bool}
use Rattle.std.specs.FinMap.{get}
use Rattle.std.proofs.Math.Nat.{mod-lt}
use Rattle.std.proofs.lemmas.Bool.{cases_eq, cases_lt}
use mathlib.Core.Option.{some, some-ne-none, some-injective}
use lib.ListN.{get_elem?}
use Rattle.bihash_words.specs.Runs.{writes_of}
use Rattle.bihash_words.specs.Maps.{Event, Pairs}
use Rattle.bihash_words.specs.Sizes.{Sizes}
use Rattle.bihash_words.specs.declared.patch.Reply.{Reply}
use Rattle.bihash_rule.specs.Words.{buckets}
use Rattle.bihash_rule.specs.Histories.{IsLegal, IsPrefix, after, bucket_of, is_changed}
use Rattle.bihash_rule.specs.Callers.{HasWrite, IsLawfulCaller, known_at, opening_at, opening_in}
use Rattle.bihash_rule.specs.Views.{opening_view}
use Rattle.bihash_steps.specs.BucketSteps.{acting, map_now, push_call}
use Rattle.bihash_rule.specs.declared.view.Openings.{Openings}
use Rattle.bihash_rule.specs.declared.view.Write.{Write}
use Rattle.bihash_rule.specs.declared.view.Call.{Call}
use Rattle.bihash_rule.specs.declared.view.Record.{Record}
use Rattle.bihash_rule.specs.declared.view.Known.{Known}
use Rattle.bihash_rule.specs.declared.view.View.{View}
use Rattle.bihash_steps.proofs.Prefixes.{prefix_below}
use Rattle.bihash_steps.proofs.WholeHistories.{prefix_whole}
use Rattle.bihash_steps.proofs.Lists.{at_end, within}
use Rattle.bihash_steps.proofs.PushedCalls.{push-length}
use Rattle.bihash_table.specs.Answers.{entry_of, with_locks}
use Rattle.bihash_laws.specs.CallRuns.{IsLastWrite, IsLawfulAnswer, LearnsOnlyOwn, IsOneWriter}
use Rattle.bihash_table.proofs.CallChains.{learned_length}
use Rattle.bihash_table.proofs.LockReleases.{writes_told}
use Rattle.bihash_laws.proofs.MapSteps.{after_next}

-- no more was learned than whether the reply tells of a write
learned : (long short : ℕ) (r : Reply) → long ≤ short + writes_of r → long ≤ short + cond (is_changed r) 1 0
learned long short r few = subst (λ (n : ℕ). long ≤ short + n) (writes_told r) few

-- what is put outside of a list is not there
set_or_short : (xss : List (List Write)) (b : ℕ) (ys : List Write)
    → (get_or (set xss b ys) b [] ≡ ys) ⊎ (get_or (set xss b ys) b [] ≡ [])
set_or_short [] b ys = inr refl
set_or_short (xs ∷ xss) zero ys = inl refl
set_or_short (xs ∷ xss) (suc b) ys = set_or_short xss b ys

-- the acting record with one call more
pushed_first : (c : Call) (locks : ℕ) (records : List Record) (r : Record) → get_elem? records 0 ≡ some r
    → (q : Record) × (get_elem? (push_call c (with_locks locks records)) 0 ≡ some q) × (q.number ≡ r.number)
    × (q.calls ≡ r.calls ++ c ∷ [])
pushed_first c locks [] r at = absurd (some-ne-none r (sym at))
pushed_first c locks (x ∷ xs) r at = let same : x ≡ r = some-injective x r at in
    (record x { locks = locks; calls = x.calls ++ c ∷ [] }, refl, ap (λ (y : Record). y.number) same, ap (λ (y : Record). y.calls ++ c ∷ []) same)

with_locks-length : (locks : ℕ) (records : List Record) → length (with_locks locks records) ≡ length records
with_locks-length locks [] = refl
with_locks-length locks (r ∷ rs) = refl

first_there : (records : List Record) → 1 ≤ length records → (r : Record) × (get_elem? records 0 ≡ some r) × (r.number ≡ acting records)
first_there [] some_record = absurd (omega arith)
first_there (x ∷ xs) some_record = (x, refl, refl)

last_stands : (calls : List Call) (c : Call) → get_elem? (calls ++ c ∷ []) (length calls) ≡ some c
last_stands [] c = refl
last_stands (x ∷ xs) c = last_stands xs c

empty_list : (ws : List Write) → length ws ≤ 0 → ws ≡ []
empty_list [] none = refl
empty_list (x ∷ xs) none = absurd (omega arith)

acting_is : (records : List Record) (r : Record) → get_elem? records 0 ≡ some r → r.number ≡ acting records
acting_is [] r at = absurd (some-ne-none r (sym at))
acting_is (x ∷ xs) r at = ap (λ (y : Record). y.number) (sym (some-injective x r at))

none_known : (n b : ℕ) → get_or {A = List Write} (replicate n []) b [] ≡ []
none_known zero b = refl
none_known (suc n) zero = refl
none_known (suc n) (suc b) = none_known n b

module _ (z : Sizes) (b : ℕ) (v w : View) (e : Event) (a : IsLawfulAnswer z b v w e) where
  abbrev home : ℕ
  home = bucket_of z e.key

  -- the entry, as it was made
  abbrev entry : Call
  entry = entry_of z (length a.answered.history) e a.answered.noted

  records_are : w.records ≡ push_call entry (with_locks a.answered.locks v.records)
  records_are = a.answered.records

  writes_are : w.known.writes ≡ set v.known.writes home a.answered.history
  writes_are = ap (λ (k : Known). k.writes) a.answered.known

  acts : 1 ≤ length v.records
  acts = let after = a.lawful.acts in let records = ap length records_are in
      let long = push-length entry (with_locks a.answered.locks v.records) in
      let same = with_locks-length a.answered.locks v.records in omega arith

  acts_with : (r : Record) × (get_elem? v.records 0 ≡ some r) × (r.number ≡ acting v.records)
  acts_with = first_there v.records acts

  left_with : (r : Record) → get_elem? v.records 0 ≡ some r
      → (q : Record) × (get_elem? w.records 0 ≡ some q) × (q.number ≡ r.number) × (q.calls ≡ r.calls ++ entry ∷ [])
  left_with r at = rw records_are (pushed_first entry a.answered.locks v.records r at)

  entry_legal : IsLegal z (opening_at w.known home) (known_at w.known home) (acting v.records) entry
  entry_legal =
      let r = acts_with in
      let q = left_with r.0 r.1 in
      let last : get_elem? q.0.calls (length r.0.calls) ≡ some entry =
      ap (λ (calls : List Call). get_elem? calls (length r.0.calls)) q.3 ∙ last_stands r.0.calls entry in
      subst (λ (by : ℕ). IsLegal z (opening_at w.known home) (known_at w.known home) by entry) (q.2 ∙ r.2)
      (a.lawful.lawful.legal 0 (length r.0.calls) q.0 entry q.1 last)

  -- the history that was learned is known: else the entry's stamp would be greater than its length
  home_is : known_at w.known home ≡ a.answered.history
  home_is = ap (λ (writes : List (List Write)). get_or writes home []) writes_are
      ∙ elim (set_or_short v.known.writes home a.answered.history) [
        | inl same ↦ same
        | inr none ↦
            let known : length (known_at w.known home) ≡ 0 =
            ap length (ap (λ (writes : List (List Write)). get_or writes home []) writes_are ∙ none) in
            let seen : length a.answered.history ≤ length (known_at w.known home) = entry_legal.seen in
            none ∙ sym (empty_list a.answered.history (omega (arith, seen, known)))
      ]

  -- ---- At its bucket

  at_home : (P : ℕ → Type 0) → P home → P b
  at_home P = subst P a.home

  whole : known_at w.known b ≡ a.answered.history
  whole = at_home (λ (c : ℕ). known_at w.known c ≡ a.answered.history) home_is

  as_known : (P : List Write → Type 0) → P a.answered.history → P (known_at w.known b)
  as_known P = subst P (sym whole)

  pub continues : IsPrefix (known_at v.known b) (known_at w.known b)
  continues = as_known (IsPrefix (known_at v.known b)) (at_home (λ c. IsPrefix (known_at v.known c) a.answered.history) a.answered.begins)

  pub legal : IsLegal z (opening_at w.known b) (known_at w.known b) (acting v.records) (entry_of z (length (known_at w.known b)) e a.answered.noted)
  legal = as_known (λ H. IsLegal z (opening_at w.known b) (known_at w.known b) (acting v.records) (entry_of z (length H) e a.answered.noted))
      (at_home (λ c. IsLegal z (opening_at w.known c) (known_at w.known c) (acting v.records) entry) entry_legal)

  pub found_there : is_changed e.reply ≡ false → e.found ≡ get (map_now w b) e.key
  found_there read = (legal.other read).1.found

  pub acting_more : (r : Record) → get_elem? v.records 0 ≡ some r → (q : Record) × (get_elem? w.records 0 ≡ some q)
      × (q.number ≡ r.number) × (q.calls ≡ r.calls ++ entry_of z (length (known_at w.known b)) e a.answered.noted ∷ [])
  acting_more r at = as_known (λ H. (q : Record) × (get_elem? w.records 0 ≡ some q)
      × (q.number ≡ r.number) × (q.calls ≡ r.calls ++ entry_of z (length H) e a.answered.noted ∷ [])) (left_with r at)

  pub others_known : (other : ℕ) → other ≢ b → known_at w.known other ≡ known_at v.known other
  others_known other differ = ap (λ (writes : List (List Write)). get_or writes other []) writes_are
      ∙ get_or-set_other v.known.writes home other a.answered.history [] (λ same. differ (same ∙ a.home))

  pub openings_same : w.known.openings ≡ v.known.openings
  openings_same = ap (λ (k : Known). k.openings) a.answered.known

  -- ---- Its writes

  -- a write of the acting number that was not known before is the last, and this call's
  own_write : IsLawfulCaller z v → (n : ℕ) (x : Write) → length (known_at v.known b) ≤ n
      → get_elem? (known_at w.known b) n ≡ some x → x.by ≡ acting v.records
      → (is_changed e.reply ≡ true) × (length (known_at w.known b) ≡ n + 1)
  own_write before n x new at own =
      let r = acts_with in
      let q = left_with r.0 r.1 in
      let inside : b < buckets z = at_home (λ (c : ℕ). c < buckets z)
      (mod-lt (z.hash e.key) (let p = pow_pos z.log2_buckets in omega arith)) in
      let has : HasWrite q.0.calls b (n + 1) = a.lawful.lawful.own 0 b n q.0 x q.1 inside at (own ∙ sym (q.2 ∙ r.2)) in
      elim (at_end r.0.calls entry has.1 has.0 (ap (λ (calls : List Call). get_elem? calls has.0) (sym q.3) ∙ has.2)) [
        | inl old ↦
            let seen : has.1.stamp ≤ length (known_at v.known b) =
            subst (λ (c : ℕ). has.1.stamp ≤ length (known_at v.known c)) has.3
            (before.lawful.legal 0 has.0 r.0 has.1 r.1 old).seen in
            let stamp = has.5 in
            absurd (omega arith)
        | inr last ↦ (
          ap (λ (c : Call). is_changed c.reply) last.1 ∙ has.4,
          ap length whole ∙ (ap (λ (c : Call). c.stamp) last.1 ∙ has.5),
        )
      ]

  pub no_write : IsLawfulCaller z v → is_changed e.reply ≡ false → (n : ℕ) (x : Write) → length (known_at v.known b) ≤ n
      → get_elem? (known_at w.known b) n ≡ some x → x.by ≢ acting v.records
  no_write before read n x new at own = let clash = sym read ∙ (own_write before n x new at own).0 in let f : ⊥ = cc in f

  pub one_write : IsLawfulCaller z v → (n : ℕ) (x : Write) → length (known_at v.known b) ≤ n
      → n + 1 < length (known_at w.known b) → get_elem? (known_at w.known b) n ≡ some x → x.by ≢ acting v.records
  one_write before n x new low at own = let last = (own_write before n x new at own).1 in omega arith

  pub last_write : is_changed e.reply ≡ true → IsLastWrite (opening_at w.known b) (known_at w.known b) (acting v.records) e
  last_write wrote =
      let o = legal.write wrote in
      record {
        before = o.0;
        last = o.1;
        stands = o.2;
        found = o.3.1.found;
        leaves = ap (after (opening_at w.known b) (known_at w.known b)) o.1
            ∙ after_next (opening_at w.known b) (known_at w.known b) o.0 _ o.2;
      }

  -- ---- One writer

  acting_same : acting v.records ≡ acting w.records
  acting_same =
      let r = acts_with in
      let q = left_with r.0 r.1 in
      sym r.2 ∙ (sym q.2 ∙ acting_is w.records q.0 q.1)

  pub stays_one_writer : LearnsOnlyOwn b v w e → (d : ℕ) → IsOneWriter v.known d (acting v.records)
      → IsOneWriter w.known d (acting w.records)
  stays_one_writer few d own n x at = elim (cases_eq d b) [
    | inl here ↦
        let stands : get_elem? (known_at w.known b) n ≡ some x = subst (λ (c : ℕ). get_elem? (known_at w.known c) n ≡ some x) here at in
        elim (cases_lt n (length (known_at v.known b))) [
          | inl old ↦ own n x (subst (λ (c : ℕ). get_elem? (known_at v.known c) n ≡ some x) (sym here)
              (prefix_below (known_at v.known b) (known_at w.known b) n x continues old stands)) ∙ acting_same
          | inr new ↦ new_write n x new stands (is_changed e.reply) refl ∙ acting_same
        ]
    | inr other ↦ own n x (ap (λ (ws : List Write). get_elem? ws n) (sym (others_known d other)) ∙ at) ∙ acting_same
  ]
    where
      new_write : (n : ℕ) (x : Write) → length (known_at v.known b) ≤ n → get_elem? (known_at w.known b) n ≡ some x
          → (t : Bool) → is_changed e.reply ≡ t → x.by ≡ acting v.records
      new_write n x new stands true wrote =
          let bound : length (known_at w.known b) ≤ length (known_at v.known b) + 1 =
          subst (λ (t : Bool). length (known_at w.known b) ≤ length (known_at v.known b) + cond t 1 0) wrote (learned _ _ e.reply few) in
          let inside = within (known_at w.known b) n x stands in
          let o = last_write wrote in
          let last : o.before ≡ n = let long = o.last in omega arith in
          ap (λ (y : Write). y.by) (some-injective x _ (sym stands ∙ (ap (get_elem? (known_at w.known b)) (sym last) ∙ o.stands)))
      new_write n x new stands false read =
          let bound : length (known_at w.known b) ≤ length (known_at v.known b) + 0 =
          subst (λ (t : Bool). length (known_at w.known b) ≤ length (known_at v.known b) + cond t 1 0) read (learned _ _ e.reply few) in
          let inside = within (known_at w.known b) n x stands in
          absurd (omega arith)

-- nothing is known at first
pub first_one_writer : (z : Sizes) (o : Openings) (b : ℕ) → IsOneWriter (opening_view z o).known b (acting (opening_view z o).records)
first_one_writer z o b n w at = absurd (some-ne-none w (sym (ap (λ (ws : List Write). get_elem? ws n) (sym (none_known (buckets z) b)) ∙ at)))

-- a lone caller learns of no write but its own, and stays lone
pub lone_learns_own : (z : Sizes) (b : ℕ) (v w : View) (e : Event) → IsLawfulAnswer z b v w e → v.lone ≡ true
    → LearnsOnlyOwn b v w e × (w.lone ≡ true)
lone_learns_own z b v w e a lone =
    let h = a.answered in
    let most : ℕ = length (known_at v.known (bucket_of z e.key)) + writes_of e.reply in (
      subst (λ (c : ℕ). length (known_at w.known c) ≤ length (known_at v.known c) + writes_of e.reply) a.home
          (subst (λ (k : Known). length (known_at k (bucket_of z e.key)) ≤ most) (sym h.known)
          (learned_length v.known.writes (bucket_of z e.key) h.history most (h.alone lone))),
      h.lone ∙ lone,
    )

-- answered otherwise than Changed it learned nothing of the bucket
pub lone_keeps : (z : Sizes) (b : ℕ) (v w : View) (e : Event) → IsLawfulAnswer z b v w e → v.lone ≡ true → is_changed e.reply ≡ false
    → (known_at w.known b ≡ known_at v.known b) × (map_now w b ≡ map_now v b)
lone_keeps z b v w e a lone read =
    let own = (lone_learns_own z b v w e a lone).0 in
    let few : length (known_at w.known b) ≤ length (known_at v.known b) + 0 =
    subst (λ (t : Bool). length (known_at w.known b) ≤ length (known_at v.known b) + cond t 1 0) read (learned _ _ e.reply own) in
    let same : known_at w.known b ≡ known_at v.known b =
    sym (prefix_whole (known_at v.known b) (known_at w.known b) (continues z b v w e a) (omega arith)) in
    let from : opening_at w.known b ≡ opening_at v.known b = ap (λ (o : Openings). opening_in o b) (openings_same z b v w e a) in
    (same, ap (λ (p : Pairs × List Write). after p.0 p.1 (length p.1)) (λ t. (from t, same t)))
