-- What a write makes of a history, and of what the caller that made it knows.
use Rattle.std.proofs.Common.{◌≡◌, ◌≢◌, ℕ, suc, ◌+◌, ◌<◌, ◌≤◌, true, true≢false, List, [], ◌∷◌, ◌++◌, length, refl, sym, ap, ◌∙◌, subst, inl, inr, arith, le_refl, length-set, length-append}
use mathlib.Core.Logic.{dite}
use mathlib.Core.Option.{some}
use native.Mathlib.Decide.{ℕ_discrete}
use lib.ListN.{get_elem?}
use Rattle.atomic_table.proofs.Lists.{at_last}
use Rattle.bihash_words.specs.Maps.{Pairs, Event, IsEvent, written}
use Rattle.bihash_words.specs.Sizes.{Sizes}
use Rattle.bihash_words.specs.declared.patch.Reply.TheVariants.{Changed}
use Rattle.bihash_rule.specs.Words.{buckets}
use Rattle.bihash_rule.specs.Histories.{IsPrefix, IsKeyOf, IsLegal, IsAnswer, IsWrite, IsWriteList, after, bounds_of, event_of, event_of_write, is_changed, write_of}
use Rattle.bihash_rule.specs.Callers.{known_at, opening_at, HasNumbers}
use Rattle.bihash_rule.specs.WordRule.{TableState, IsInformed}
use Rattle.bihash_steps.specs.BucketSteps.{acting, map_now, MayWrite, view_after_write}
use Rattle.bihash_rule.specs.declared.view.Write.{Write}
use Rattle.bihash_rule.specs.declared.view.Call.{Call}
use Rattle.bihash_rule.specs.declared.view.Record.{Record}
use Rattle.bihash_rule.specs.declared.view.Known.{Known}
use Rattle.bihash_rule.specs.declared.view.View.{View}
use Rattle.bihash_steps.proofs.Lists.{within, there, at_end}
use Rattle.bihash_steps.proofs.Prefixes.{prefix_refl, after_longer}
use Rattle.bihash_steps.proofs.LawfulCallers.{still_legal}
use Rattle.bihash_steps.proofs.PushedCalls.{push-length, push_renumbers, acting_is}
use Rattle.bihash_steps.proofs.InformedViews.{known_learned, known_else, learned_grows, MayPush, bears_own, pushed_lawful}

-- ---- A history with one write more

pub one_longer : (H : List Write) (w : Write) → IsPrefix H (H ++ w ∷ [])
one_longer H w = record { rest = w ∷ []; whole = refl }

-- the map after the last write
pub after_last : (opening : Pairs) (H : List Write) (w : Write)
    → after opening (H ++ w ∷ []) (length H + 1) ≡ written (after opening H (length H)) w.key w.change w.recycling
after_last opening [] w = refl
after_last opening (x ∷ xs) w = let n : suc (length xs) + 1 ≡ suc (length xs + 1) = omega arith in
    ap (after opening (x ∷ (xs ++ w ∷ []))) n ∙ after_last (written opening x.key x.change x.recycling) xs w

pub list_more : (z : Sizes) (b : ℕ) (opening : Pairs) (H : List Write) (w : Write) → length H < z.limit → IsWriteList z b opening H
    → IsWrite z b (length H) (after opening H (length H)) w → IsWriteList z b opening (H ++ w ∷ [])
list_more z b opening H w unworn list last = record {
  short = let n = length-append H (w ∷ []) in omega arith;
  each = λ n u e. elim (at_end H w u n e) [
    | inl o ↦ let l = within H n u o in
        subst (λ (m : Pairs). IsWrite z b n m u) (sym (after_longer opening H (H ++ w ∷ []) n (one_longer H w) (omega arith))) (list.each n u o)
    | inr o ↦ subst (λ (y : ℕ × Write). IsWrite z b y.0 (after opening (H ++ w ∷ []) y.0) y.1) (λ t. (sym o.0 t, o.1 t))
        (subst (λ (m : Pairs). IsWrite z b (length H) m w)
        (sym (after_longer opening H (H ++ w ∷ []) (length H) (one_longer H w) (le_refl (length H)))) last)
  ];
  home = list.home;
}

pub bearers_more : (count : ℕ) (H : List Write) (w : Write) → (1 ≤ w.by) × (w.by ≤ count)
    → ((n : ℕ) (u : Write) → get_elem? H n ≡ some u → (1 ≤ u.by) × (u.by ≤ count))
    → (n : ℕ) (u : Write) → get_elem? (H ++ w ∷ []) n ≡ some u → (1 ≤ u.by) × (u.by ≤ count)
bearers_more count H w last all n u e = elim (at_end H w u n e) [
  | inl o ↦ all n u o
  | inr o ↦ subst (λ (x : Write). (1 ≤ x.by) × (x.by ≤ count)) o.1 last
]

-- ---- The caller after its write

module _ (z : Sizes) (v : View) (b word : ℕ) (c : Call) (may : MayWrite z v b word c) where
  -- the call tells of its write
  pub write_changes : is_changed c.reply ≡ true
  write_changes = ap is_changed may.reply

  -- it is answered at the map before the write
  write_answers : IsAnswer z (map_now v b) (length (known_at v.known b)) c
  write_answers = (
    written (map_now v b) c.key c.change c.recycling,
    subst (λ (e : Event). IsEvent (bounds_of z) (map_now v b) (length (known_at v.known b)) e (written (map_now v b) c.key c.change c.recycling))
        same may.write.changes,
  )
    where
      same : event_of_write (map_now v b) (write_of (acting v.records) c) ≡ event_of c
      same t = record {
        key = c.key;
        found = sym may.found t;
        change = c.change;
        reply = sym (may.reply ∙ ap Changed may.found) t;
        recycling = c.recycling;
      }

  module _ (t t' : TableState) (inside : b < buckets z) (openings : t'.openings ≡ t.openings)
      (other : (d : ℕ) → d ≢ b → (t'.bucket d).history ≡ (t.bucket d).history)
      (here : (t'.bucket b).history ≡ (t.bucket b).history ++ write_of (acting v.records) c ∷ [])
      (fresh : known_at v.known b ≡ (t.bucket b).history) (numbers : HasNumbers v.seen v.records)
      (i : IsInformed z t v.known v.records) where
    abbrev w : Write
    w = write_of (acting v.records) c

    abbrev H : List Write
    H = (t.bucket b).history

    abbrev all : Known
    all = (view_after_write v c).known

    long : c.bucket < length v.known.writes
    long = let same = may.call in let n = i.wide in omega arith

    known_here : known_at all b ≡ H ++ w ∷ []
    known_here = ap (known_at all) (sym may.call) ∙ (known_learned v c.bucket (known_at v.known c.bucket ++ w ∷ []) long
        ∙ (ap (λ (d : ℕ). known_at v.known d ++ w ∷ []) may.call ∙ ap (λ (h : List Write). h ++ w ∷ []) fresh))

    known_other : (d : ℕ) → d ≢ b → known_at all d ≡ known_at v.known d
    known_other d ne = known_else v c.bucket d (known_at v.known c.bucket ++ w ∷ []) (λ e. ne (e ∙ may.call))

    grows : (d : ℕ) → IsPrefix (known_at v.known d) (known_at all d)
    grows = learned_grows v c.bucket (known_at v.known c.bucket ++ w ∷ []) long (one_longer (known_at v.known c.bucket) w)

    begins : (d : ℕ) → d < buckets z → IsPrefix (known_at all d) (t'.bucket d).history
    begins d l = dite (ℕ_discrete d b)
        (λ e. subst (λ (y : ℕ). IsPrefix (known_at all y) (t'.bucket y).history) (sym e)
        (subst (λ (h : List Write). IsPrefix (known_at all b) h) (sym here)
        (subst (λ (h : List Write). IsPrefix h (H ++ w ∷ [])) (sym known_here) (prefix_refl (H ++ w ∷ [])))))
        (λ ne. subst (λ (h : List Write). IsPrefix (known_at all d) h) (sym (other d ne))
        (subst (λ (h : List Write). IsPrefix h (t.bucket d).history) (sym (known_other d ne)) (i.begins d l)))

    count : length (known_at v.known b) ≡ length H
    count = ap length fresh

    new_legal : IsLegal z (opening_at all c.bucket) (known_at all c.bucket) (acting v.records) c
    new_legal = subst (λ (d : ℕ). IsLegal z (opening_at all d) (known_at all d) (acting v.records) c) (sym may.call)
        (subst (λ (h : List Write). IsLegal z (opening_at v.known b) h (acting v.records) c) (sym known_here) record {
          key = subst (λ (d : ℕ). IsKeyOf z d c.key) (sym may.call) may.write.key;
          seen = let n = length-append H (w ∷ []) in let s = may.stamp in let l = count in omega arith;
          write = λ _. (length H, (let s = may.stamp in let l = count in omega arith), at_last H w (length H) refl, answers);
          other = λ e. absurd (true≢false (sym write_changes ∙ e));
          store = bears_own c.reply c.store v.notes.left may.store;
        })
      where
        answers : IsAnswer z (after (opening_at v.known b) (H ++ w ∷ []) (length H)) (length H) c
        answers = subst (λ (m : Pairs). IsAnswer z m (length H) c)
            (sym (after_longer (opening_at v.known b) H (H ++ w ∷ []) (length H) (one_longer H w) (le_refl (length H))))
            (subst (λ (h : List Write). IsAnswer z (after (opening_at v.known b) h (length h)) (length h) c) fresh write_answers)

    -- no other record has the acting number
    acts_first : (k : ℕ) (r : Record) → get_elem? v.records k ≡ some r → acting v.records ≡ r.number → k ≡ 0
    acts_first k r e is = let l = within v.records k r e in let r0 = there v.records 0 (omega arith) in
        dite (ℕ_discrete k 0) (λ z. z)
        (λ ne. absurd (numbers.once 0 k r0.0 r (λ h. ne (sym h)) r0.1 e (sym (acting_is v.records 0 r0.0 refl r0.1) ∙ is)))

    may_push : MayPush z all v.records c
    may_push = record {
      legal = λ k m r d e f. still_legal z v.known all r d refl (λ _. grows d.bucket) (i.lawful.legal k m r d e f);
      rises = i.lawful.rises;
      new = new_legal;
      last = λ k m r d e f same. let h = (i.lawful.legal k m r d e f).seen in let s = may.stamp in
          let l : length (known_at v.known d.bucket) ≡ length (known_at v.known b) = ap (λ (y : ℕ). length (known_at v.known y)) (same ∙ may.call) in
          (omega arith, λ _. omega arith);
      own = λ k d n r u e l f is. dite (ℕ_discrete d b)
          (λ same. elim (at_end H w u n (ap (λ (h : List Write). get_elem? h n) (sym known_here)
          ∙ (ap (λ (y : ℕ). get_elem? (known_at all y) n) (sym same) ∙ f))) [
            | inl o ↦ inl (i.lawful.own k d n r u e l
                (ap (λ (y : ℕ). get_elem? (known_at v.known y) n) same ∙ (ap (λ (h : List Write). get_elem? h n) fresh ∙ o)) is)
            | inr o ↦ inr (
              acts_first k r e (ap (λ (x : Write). x.by) o.1 ∙ is),
              may.call ∙ sym same,
              write_changes,
              (let s = may.stamp in let a = count in let p = o.0 in omega arith),
            )
          ])
          (λ ne. inl (i.lawful.own k d n r u e l (ap (λ (h : List Write). get_elem? h n) (sym (known_other d ne)) ∙ f) is));
    }

    pub written_informed : IsInformed z t' (view_after_write v c).known (view_after_write v c).records
    written_informed = record {
      wide = length-set v.known.writes c.bucket (known_at v.known c.bucket ++ w ∷ []) ∙ i.wide;
      begins = begins;
      opening = λ has_one. i.opening (let l = push-length c v.records in omega arith) ∙ sym openings;
      lawful = pushed_lawful z all v.records c may_push;
      own = λ k d n q u e l f is. dite (ℕ_discrete d b)
          (λ same. let whole : known_at all d ≡ (t'.bucket d).history = ap (known_at all) same
          ∙ (known_here ∙ (sym here ∙ ap (λ (y : ℕ). (t'.bucket y).history) (sym same))) in
          let a = within (t'.bucket d).history n u f in let m = ap length whole in omega arith)
          (λ ne. let o = push_renumbers c v.records k q e in
          let a = i.own k d n o.0 u o.1 l (ap (λ (h : List Write). get_elem? h n) (sym (other d ne)) ∙ f) (is ∙ sym o.2) in
          let m = ap length (known_other d ne) in omega arith);
    }
