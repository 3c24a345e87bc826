-- How a view stays informed where it learns a history, counts a lock, and answers a call that is no write.
use Rattle.std.proofs.Common.{◌≡◌, ◌≢◌, ◌⊎◌, ℕ, ◌+◌, ◌<◌, true, false, true≢false, List, [], ◌∷◌, ◌++◌, length, refl, sym, ap, ◌∙◌, subst, inl, inr, arith, length-set, get_or-set_same, get_or-set_other, Option}
use mathlib.Core.Logic.{dite}
use mathlib.Core.Option.{some}
use native.Mathlib.Decide.{ℕ_discrete}
use lib.ListN.{get_elem?}
use Rattle.atomic_table.proofs.Lists.{at_longer, at_last}
use Rattle.bihash_words.specs.Sizes.{Sizes}
use Rattle.bihash_words.specs.declared.patch.Reply.{Reply}
use Rattle.bihash_words.specs.declared.patch.Reply.TheVariants.{Kept, Changed, Worn, Full, NoPages}
use Rattle.bihash_rule.specs.Words.{buckets}
use Rattle.bihash_rule.specs.Histories.{IsPrefix, IsKeyOf, IsLegal, IsAnswer, after, is_changed, store_of}
use Rattle.bihash_rule.specs.Callers.{known_at, opening_at, opening_in, MayFollow, Rises, HasWrite, IsLawful}
use Rattle.bihash_rule.specs.WordRule.{TableState, IsInformed}
use Rattle.bihash_steps.specs.BucketSteps.{with_history, acting, push_call, lock_counted, map_now}
use Rattle.bihash_rule.specs.declared.view.Write.{Write}
use Rattle.bihash_rule.specs.declared.view.Call.{Call}
use Rattle.bihash_rule.specs.declared.view.Record.{Record}
use Rattle.bihash_rule.specs.declared.view.Known.{Known}
use Rattle.bihash_rule.specs.declared.view.PageStore.{PageStore}
use Rattle.bihash_rule.specs.declared.view.View.{View}
use Rattle.bihash_steps.proofs.Prefixes.{prefix_refl, prefix_length, prefix_at, prefix_below}
use Rattle.bihash_steps.proofs.LawfulCallers.{still_legal}
use Rattle.bihash_steps.proofs.PushedCalls.{push_at, push-length, pushed_calls, push_renumbers, acting_is, rises_more, counted-length, counted_at}

-- what an entry bears of a note it bears of itself
pub bears_own : (reply : Reply) (store noted : Option PageStore) → store ≡ store_of reply noted → store ≡ store_of reply store
bears_own (Kept found) store noted is = is
bears_own (Changed found) store noted is = is
bears_own (Worn found) store noted is = is
bears_own Full store noted is = is
bears_own (NoPages log2 left) store noted is = refl

-- ---- A history is learned

pub known_learned : (v : View) (b : ℕ) (history : List Write) → b < length v.known.writes → known_at (with_history v b history).known b ≡ history
known_learned v b history l = get_or-set_same v.known.writes b history [] l

pub known_else : (v : View) (b c : ℕ) (history : List Write) → c ≢ b → known_at (with_history v b history).known c ≡ known_at v.known c
known_else v b c history ne = get_or-set_other v.known.writes b c history [] ne

-- what was known of each bucket begins what is known after a history that continues it
pub learned_grows : (v : View) (b : ℕ) (history : List Write) → b < length v.known.writes → IsPrefix (known_at v.known b) history
    → (c : ℕ) → IsPrefix (known_at v.known c) (known_at (with_history v b history).known c)
learned_grows v b history l begins c = dite (ℕ_discrete c b)
    (λ e. subst (λ (y : ℕ). IsPrefix (known_at v.known y) (known_at (with_history v b history).known y)) (sym e)
    (subst (IsPrefix (known_at v.known b)) (sym (known_learned v b history l)) begins))
    (λ ne. subst (IsPrefix (known_at v.known c)) (sym (known_else v b c history ne)) (prefix_refl (known_at v.known c)))

module _ (z : Sizes) where
  -- more of the same histories is known
  pub more_known : (t : TableState) (known known' : Known) (rs : List Record) → known'.openings ≡ known.openings
      → length known'.writes ≡ length known.writes → ((b : ℕ) → IsPrefix (known_at known b) (known_at known' b))
      → ((b : ℕ) → b < buckets z → IsPrefix (known_at known' b) (t.bucket b).history) → IsInformed z t known rs → IsInformed z t known' rs
  more_known t known known' rs openings wide grows begins i = record {
    wide = wide ∙ i.wide;
    begins = begins;
    opening = λ has_one. openings ∙ i.opening has_one;
    lawful = record {
      legal = λ k m r c e f. still_legal z known known' r c (ap (λ s. opening_in s c.bucket) (sym openings)) (λ _. grows c.bucket)
          (i.lawful.legal k m r c e f);
      rises = i.lawful.rises;
      own = λ k b n r w e l f is. let whole = prefix_at (known_at known' b) (t.bucket b).history n w (begins b l) f in
          i.lawful.own k b n r w e l (prefix_below (known_at known b) (t.bucket b).history n w (i.begins b l)
          (i.own k b n r w e l whole is) whole) is;
    };
    own = λ k b n r w e l f is. let a = i.own k b n r w e l f is in let m = prefix_length (known_at known b) (known_at known' b) (grows b) in
        omega arith;
  }

  pub learned_informed : (t : TableState) (v : View) (b : ℕ) → b < buckets z → IsInformed z t v.known v.records
      → IsInformed z t (with_history v b (t.bucket b).history).known v.records
  learned_informed t v b inside i = more_known t v.known (with_history v b (t.bucket b).history).known v.records refl
      (length-set v.known.writes b (t.bucket b).history) (learned_grows v b (t.bucket b).history long (i.begins b inside)) begins i
    where
      long : b < length v.known.writes
      long = let w = i.wide in omega arith

      begins : (c : ℕ) → c < buckets z → IsPrefix (known_at (with_history v b (t.bucket b).history).known c) (t.bucket c).history
      begins c l = dite (ℕ_discrete c b)
          (λ e. subst (λ (y : ℕ). IsPrefix (known_at (with_history v b (t.bucket b).history).known y) (t.bucket y).history) (sym e)
          (subst (λ (h : List Write). IsPrefix h (t.bucket b).history) (sym (known_learned v b (t.bucket b).history long))
          (prefix_refl (t.bucket b).history)))
          (λ ne. subst (λ (h : List Write). IsPrefix h (t.bucket c).history) (sym (known_else v b c (t.bucket b).history ne)) (i.begins c l))

  -- ---- A lock is counted

  pub counted_informed : (t : TableState) (known : Known) (rs : List Record) → IsInformed z t known rs → IsInformed z t known (lock_counted rs)
  counted_informed t known rs i = record {
    wide = i.wide;
    begins = i.begins;
    opening = λ has_one. i.opening (let l = counted-length rs in omega arith);
    lawful = record {
      legal = λ k m q c e f. let o = counted_at rs k q e in
          subst (λ (by : ℕ). IsLegal z (opening_at known c.bucket) (known_at known c.bucket) by c) o.2
          (i.lawful.legal k m o.0 c o.1 (ap (λ (calls : List Call). get_elem? calls m) o.3 ∙ f));
      rises = λ k q e. let o = counted_at rs k q e in subst Rises o.3 (i.lawful.rises k o.0 o.1);
      own = λ k b n q w e l f is. let o = counted_at rs k q e in
          subst (λ (calls : List Call). HasWrite calls b (n + 1)) o.3 (i.lawful.own k b n o.0 w o.1 l f (is ∙ sym o.2));
    };
    own = λ k b n q w e l f is. let o = counted_at rs k q e in i.own k b n o.0 w o.1 l f (is ∙ sym o.2);
  }

  -- ---- A call is put after the others of the acting record

  -- what it takes that records with the call c stay lawful, where `known` holds what is known then
  pub record MayPush (known : Known) (rs : List Record) (c : Call) : Type 0 where
    pub legal : (i k : ℕ) (r : Record) (d : Call) → get_elem? rs i ≡ some r → get_elem? r.calls k ≡ some d
        → IsLegal z (opening_at known d.bucket) (known_at known d.bucket) r.number d
    pub rises : (i : ℕ) (r : Record) → get_elem? rs i ≡ some r → Rises r.calls
    pub new : IsLegal z (opening_at known c.bucket) (known_at known c.bucket) (acting rs) c
    pub last : (i k : ℕ) (r : Record) (d : Call) → get_elem? rs i ≡ some r → get_elem? r.calls k ≡ some d → MayFollow d c
    pub own : (i b n : ℕ) (r : Record) (w : Write) → get_elem? rs i ≡ some r → b < buckets z → get_elem? (known_at known b) n ≡ some w
        → w.by ≡ r.number → HasWrite r.calls b (n + 1) ⊎ ((i ≡ 0) × (c.bucket ≡ b) × (is_changed c.reply ≡ true) × (c.stamp ≡ n + 1))

  more_calls : (calls : List Call) (c : Call) (b n : ℕ) → HasWrite calls b n → HasWrite (calls ++ c ∷ []) b n
  more_calls calls c b n h = (h.0, h.1, at_longer calls (c ∷ []) h.0 h.1 h.2, h.3, h.4, h.5)

  pub pushed_lawful : (known : Known) (rs : List Record) (c : Call) → MayPush known rs c → IsLawful z known (push_call c rs)
  pushed_lawful known rs c may = record {
    legal = λ i k r d e f. elim (push_at c rs i r e) [
      | inl p ↦ let number : p.was.number ≡ r.number = ap (λ (x : Record). x.number) (sym p.is) in
          subst (λ (by : ℕ). IsLegal z (opening_at known d.bucket) (known_at known d.bucket) by d) number
          (elim (pushed_calls c rs i k r d p f) [
            | inl g ↦ may.legal i k p.was d p.at g
            | inr g ↦ subst (λ (y : ℕ × Call). IsLegal z (opening_at known y.1.bucket) (known_at known y.1.bucket) y.0 y.1)
                (λ t. (acting_is rs i p.was p.first p.at t, g.1 t)) may.new
          ])
      | inr o ↦ may.legal i k r d o.1 f
    ];
    rises = λ i r e. elim (push_at c rs i r e) [
      | inl p ↦ subst (λ (x : Record). Rises x.calls) (sym p.is)
          (rises_more p.was.calls c (may.rises i p.was p.at) (λ k d g. may.last i k p.was d p.at g))
      | inr o ↦ may.rises i r o.1
    ];
    own = λ i b n r w e l f is. elim (push_at c rs i r e) [
      | inl p ↦ subst (λ (x : Record). HasWrite x.calls b (n + 1)) (sym p.is)
          (elim (may.own i b n p.was w p.at l f (is ∙ ap (λ (x : Record). x.number) p.is)) [
            | inl h ↦ more_calls p.was.calls c b (n + 1) h
            | inr h ↦ (length p.was.calls, c, at_last p.was.calls c (length p.was.calls) refl, h.1, h.2, h.3)
          ])
      | inr o ↦ elim (may.own i b n r w o.1 l f is) [ inl h ↦ h | inr h ↦ absurd (o.0 h.0) ]
    ];
  }

  -- a call that is no write, at what is known whole
  pub answered_informed : (t : TableState) (v : View) (c : Call) → c.bucket < buckets z
      → known_at v.known c.bucket ≡ (t.bucket c.bucket).history → IsKeyOf z c.bucket c.key → is_changed c.reply ≡ false
      → c.store ≡ store_of c.reply c.store → c.stamp ≡ length (known_at v.known c.bucket) → IsAnswer z (map_now v c.bucket) (length (known_at v.known c.bucket)) c
      → IsInformed z t v.known v.records → IsInformed z t v.known (push_call c v.records)
  answered_informed t v c inside fresh key read store stamp answer i = record {
    wide = i.wide;
    begins = i.begins;
    opening = λ has_one. i.opening (let l = push-length c v.records in omega arith);
    lawful = pushed_lawful v.known v.records c record {
      legal = i.lawful.legal;
      rises = i.lawful.rises;
      new = record {
        key = key;
        seen = omega arith;
        write = λ e. absurd (true≢false (sym e ∙ read));
        other = λ _. subst (λ (n : ℕ). IsAnswer z (after (opening_at v.known c.bucket) (known_at v.known c.bucket) n) n c) (sym stamp) answer;
        store = store;
      };
      last = λ k m r d e f same. let h = (i.lawful.legal k m r d e f).seen in
          let long : length (known_at v.known d.bucket) ≡ length (known_at v.known c.bucket) = ap (λ (b : ℕ). length (known_at v.known b)) same in
          (omega arith, λ g. absurd (true≢false (sym g ∙ read)));
      own = λ k b n r w e l f is. inl (i.lawful.own k b n r w e l f is);
    };
    own = λ k b n q w e l f is. let o = push_renumbers c v.records k q e in i.own k b n o.0 w o.1 l f (is ∙ sym o.2);
  }
