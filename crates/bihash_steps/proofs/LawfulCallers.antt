-- How callers stay lawful when their numbers are cut, put together and added to, and when they know more.
use Rattle.std.proofs.Common.{◌≡◌, ◌≢◌, ℕ, ◌+◌, ◌<◌, ◌≤◌, max, List, [], ◌∷◌, ◌++◌, length, take, drop, sym, ap, ◌∙◌, subst, inl, inr, arith, pow_pos}
use mathlib.Core.Option.{some, some-ne-none}
use lib.ListN.{get_elem?}
use Rattle.std.proofs.Math.Nat.{mod-lt}
use Rattle.atomic_table.proofs.Lists.{at_longer}
use Rattle.bihash_words.specs.Maps.{Pairs}
use Rattle.bihash_words.specs.Sizes.{Sizes}
use Rattle.bihash_rule.specs.Words.{buckets}
use Rattle.bihash_rule.specs.Histories.{IsLegal, IsPrefix, IsAnswer}
use Rattle.bihash_rule.specs.Callers.{known_at, opening_at, opening_in, HasNumbers, IsLawful, Apart}
use Rattle.bihash_rule.specs.Views.{empty_record}
use Rattle.bihash_rule.specs.WordRule.{TableState, IsInformed}
use Rattle.bihash_steps.specs.Steps.{longer_each}
use Rattle.bihash_rule.specs.declared.view.Write.{Write}
use Rattle.bihash_rule.specs.declared.view.Call.{Call}
use Rattle.bihash_rule.specs.declared.view.Record.{Record}
use Rattle.bihash_rule.specs.declared.view.Known.{Known}
use Rattle.bihash_steps.proofs.Lists.{within, there, at_after, at_end, at_either, at_take, at_drop}
use Rattle.bihash_steps.proofs.Prefixes.{after_longer, prefix_length, prefix_at, prefix_below, longer_known, longer_length}

-- ---- Numbers

pub wider : (seen seen' : ℕ) (rs : List Record) → seen ≤ seen' → HasNumbers seen rs → HasNumbers seen' rs
wider seen seen' rs l has = record { range = λ i r e. let h = has.range i r e in (h.0, (let a = h.1 in omega arith)); once = has.once }

-- a number above all of them is added
pub more_numbers : (seen count : ℕ) (rs : List Record) → seen ≤ count → HasNumbers seen rs
    → HasNumbers (count + 1) (rs ++ empty_record (count + 1) ∷ [])
more_numbers seen count rs l has = record {
  range = λ i r e. elim (at_end rs new r i e) [
    | inl o ↦ let h = has.range i r o in (h.0, (let a = h.1 in omega arith))
    | inr o ↦ let n = is_new r o.1 in (omega arith, omega arith)
  ];
  once = λ i k r q ne e f. elim (at_end rs new r i e) [
    | inl o ↦ elim (at_end rs new q k f) [
      | inl p ↦ has.once i k r q ne o p
      | inr p ↦ λ h. let a = (has.range i r o).1 in let n = is_new q p.1 in omega arith
    ]
    | inr o ↦ elim (at_end rs new q k f) [
      | inl p ↦ λ h. let a = (has.range k q p).1 in let n = is_new r o.1 in omega arith
      | inr p ↦ λ h. ne (o.0 ∙ sym p.0)
    ]
  ];
}
  where
    new : Record
    new = empty_record (count + 1)

    is_new : (r : Record) → empty_record (count + 1) ≡ r → count + 1 ≡ r.number
    is_new r e = ap (λ (q : Record). q.number) e

pub both_numbers : (seen seen' : ℕ) (rs rs' : List Record) → Apart rs rs' → HasNumbers seen rs → HasNumbers seen' rs'
    → HasNumbers (max seen seen') (rs ++ rs')
both_numbers seen seen' rs rs' apart has has' = record {
  range = λ i r e. elim (at_either rs rs' i r e) [
    | inl o ↦ let h = has.range i r o in (h.0, (let a = h.1 in omega arith))
    | inr o ↦ let h = has'.range o.0 r o.2 in (h.0, (let a = h.1 in omega arith))
  ];
  once = λ i k r q ne e f. elim (at_either rs rs' i r e) [
    | inl o ↦ elim (at_either rs rs' k q f) [ inl p ↦ has.once i k r q ne o p | inr p ↦ apart i p.0 r q o p.2 ]
    | inr o ↦ elim (at_either rs rs' k q f) [
      | inl p ↦ λ h. apart k o.0 q r p o.2 (sym h)
      | inr p ↦ has'.once o.0 p.0 r q (λ h. ne (o.1 ∙ (ap (λ (y : ℕ). length rs + y) h ∙ sym p.1))) o.2 p.2
    ]
  ];
}

-- the numbers of the first records are none of the others
pub parts_apart : (seen : ℕ) (rs rs' : List Record) → HasNumbers seen (rs ++ rs') → Apart rs rs'
parts_apart seen rs rs' has i k r q e f =
    let l = within rs i r e in has.once i (length rs + k) r q (λ h. omega arith) (at_longer rs rs' i r e) (at_after rs rs' k q f)

-- ---- Parts of records

-- each record of `part` is in `rs`, no two of them at one place
pub record IsPart (part rs : List Record) : Type 0 where
  pub from : ℕ → ℕ
  pub apart : (i k : ℕ) → i ≢ k → from i ≢ from k
  pub at : (i : ℕ) (r : Record) → get_elem? part i ≡ some r → get_elem? rs (from i) ≡ some r

abbrev pub first_part : (n : ℕ) (rs : List Record) → IsPart (take n rs) rs
first_part n rs = record { from = λ i. i; apart = λ i k ne. ne; at = λ i r e. (at_take n rs i r e).1 }

abbrev pub other_part : (n : ℕ) (rs : List Record) → IsPart (drop n rs) rs
other_part n rs = record { from = λ i. n + i; apart = λ i k ne e. ne (omega arith); at = at_drop n rs }

pub part_numbers : (seen : ℕ) (part rs : List Record) → IsPart part rs → HasNumbers seen rs → HasNumbers seen part
part_numbers seen part rs p has = record {
  range = λ i r e. has.range (p.from i) r (p.at i r e);
  once = λ i k r q ne e f. has.once (p.from i) (p.from k) r q (p.apart i k ne) (p.at i r e) (p.at k q f);
}

module _ (z : Sizes) where
  pub part_lawful : (known : Known) (part rs : List Record) → IsPart part rs → IsLawful z known rs → IsLawful z known part
  part_lawful known part rs p law = record {
    legal = λ i k r c e f. law.legal (p.from i) k r c (p.at i r e) f;
    rises = λ i r e. law.rises (p.from i) r (p.at i r e);
    own = λ i b n r w e. law.own (p.from i) b n r w (p.at i r e);
  }

  pub part_informed : (t : TableState) (known : Known) (part rs : List Record) → IsPart part rs → IsInformed z t known rs
      → IsInformed z t known part
  part_informed t known part rs p i = record {
    wide = i.wide;
    begins = i.begins;
    opening = λ has_one. let r = there part 0 (omega arith) in let l = within rs (p.from 0) r.0 (p.at 0 r.0 r.1) in i.opening (omega arith);
    lawful = part_lawful known part rs p i.lawful;
    own = λ k b n r w e. i.own (p.from k) b n r w (p.at k r e);
  }

  -- ---- A number without calls is added

  pub more_informed : (t : TableState) (known : Known) (rs : List Record) (count : ℕ) → 1 ≤ length rs
      → ((b n : ℕ) (w : Write) → b < buckets z → get_elem? (t.bucket b).history n ≡ some w → w.by ≤ count)
      → IsInformed z t known rs → IsInformed z t known (rs ++ empty_record (count + 1) ∷ [])
  more_informed t known rs count has_one bearers i = record {
    wide = i.wide;
    begins = i.begins;
    opening = λ _. i.opening has_one;
    lawful = record {
      legal = λ k m r c e f. elim (at_end rs new r k e) [ inl o ↦ i.lawful.legal k m r c o f | inr o ↦ absurd (no_call r c m o.1 f) ];
      rises = λ k r e. elim (at_end rs new r k e) [ inl o ↦ i.lawful.rises k r o | inr o ↦ λ a b c d lt f g. absurd (no_call r c a o.1 f) ];
      own = λ k b n r w e l f is. elim (at_end rs new r k e) [
        | inl o ↦ i.lawful.own k b n r w o l f is
        | inr o ↦ absurd (no_write r w o.1 is (bearers b n w l (prefix_at (known_at known b) (t.bucket b).history n w (i.begins b l) f)))
      ];
    };
    own = λ k b n r w e l f is. elim (at_end rs new r k e) [
      | inl o ↦ i.own k b n r w o l f is
      | inr o ↦
          absurd (no_write r w o.1 is (bearers b n w l f))
    ];
  }
    where
      new : Record
      new = empty_record (count + 1)

      no_call : (r : Record) (c : Call) (m : ℕ) → empty_record (count + 1) ≡ r → get_elem? r.calls m ≡ some c → ⊥
      no_call r c m e f = some-ne-none c (sym (ap (λ (q : Record). get_elem? q.calls m) e ∙ f))

      no_write : (r : Record) (w : Write) → empty_record (count + 1) ≡ r → w.by ≡ r.number → w.by ≤ count → ⊥
      no_write r w e is l = let n : count + 1 ≡ r.number = ap (λ (q : Record). q.number) e in omega arith

  -- ---- Two callers' numbers are put together

  -- a legal call is one of a bucket of the table
  pub inside : (opening : Pairs) (H : List Write) (by : ℕ) (c : Call) → IsLegal z opening H by c → c.bucket < buckets z
  inside opening H by c h = subst (λ (b : ℕ). b < buckets z) h.key.home
      (mod-lt (z.hash c.key) (let p = pow_pos z.log2_buckets in omega arith))

  -- a call that is legal on a beginning is legal on the whole
  pub legal_longer : (opening : Pairs) (K H : List Write) (by : ℕ) (c : Call) → IsPrefix K H → IsLegal z opening K by c
      → IsLegal z opening H by c
  legal_longer opening K H by c p h = let s = h.seen in let l = prefix_length K H p in record {
    key = h.key;
    seen = omega arith;
    write = λ e. let w = h.write e in let n = w.1 in
        (w.0, w.1, prefix_at K H w.0 _ p w.2, subst (λ m. IsAnswer z m w.0 c) (sym (after_longer opening K H w.0 p (omega arith))) w.3);
    other = λ e. subst (λ m. IsAnswer z m c.stamp c) (sym (after_longer opening K H c.stamp p s)) (h.other e);
    store = h.store;
  }

  -- a call that is legal on what one caller knows is legal on what both know
  pub still_legal : (known all : Known) (r : Record) (c : Call) → opening_at known c.bucket ≡ opening_at all c.bucket
      → (c.bucket < buckets z → IsPrefix (known_at known c.bucket) (known_at all c.bucket))
      → IsLegal z (opening_at known c.bucket) (known_at known c.bucket) r.number c
      → IsLegal z (opening_at all c.bucket) (known_at all c.bucket) r.number c
  still_legal known all r c same longer h = legal_longer (opening_at all c.bucket) (known_at known c.bucket)
      (known_at all c.bucket) r.number c
      (longer (inside (opening_at known c.bucket) (known_at known c.bucket) r.number c h))
      (subst (λ m. IsLegal z m (known_at known c.bucket) r.number c) same h)

  pub both_informed : (t : TableState) (known known' : Known) (rs rs' : List Record) → 1 ≤ length rs → IsInformed z t known rs
      → IsInformed z t known' rs'
      → IsInformed z t (record known { writes = longer_each known.writes known'.writes }) (rs ++ rs')
  both_informed t known known' rs rs' has_one i i' = record {
    wide = longer_length known.writes known'.writes same ∙ i.wide;
    begins = λ b l. (begins b l).2;
    opening = λ _. i.opening has_one;
    lawful = record {
      legal = λ k m r c e f. elim (at_either rs rs' k r e) [
        | inl o ↦ still_legal known all r c (λ _. opening_at known c.bucket) (λ l. (begins c.bucket l).0) (i.lawful.legal k m r c o f)
        | inr o ↦ still_legal known' all r c (ap (λ s. opening_in s c.bucket) (one_opening o.0 r o.2)) (λ l. (begins c.bucket l).1)
            (i'.lawful.legal o.0 m r c o.2 f)
      ];
      rises = λ k r e. elim (at_either rs rs' k r e) [ inl o ↦ i.lawful.rises k r o | inr o ↦ i'.lawful.rises o.0 r o.2 ];
      own = λ k b n r w e l f is. let whole = prefix_at (known_at all b) (t.bucket b).history n w (begins b l).2 f in
          elim (at_either rs rs' k r e) [
            | inl o ↦ i.lawful.own k b n r w o l (prefix_below (known_at known b) (t.bucket b).history n w (i.begins b l)
                (i.own k b n r w o l whole is) whole) is
            | inr o ↦ i'.lawful.own o.0 b n r w o.2 l (prefix_below (known_at known' b) (t.bucket b).history n w (i'.begins b l)
                (i'.own o.0 b n r w o.2 l whole is) whole) is
          ];
    };
    own = λ k b n r w e l f is. elim (at_either rs rs' k r e) [
      | inl o ↦ let a = i.own k b n r w o l f is in let m = prefix_length (known_at known b) (known_at all b) (begins b l).0 in omega arith
      | inr o ↦ let a = i'.own o.0 b n r w o.2 l f is in let m = prefix_length (known_at known' b) (known_at all b) (begins b l).1 in
          omega arith
    ];
  }
    where
      same : length known.writes ≡ length known'.writes
      same = i.wide ∙ sym i'.wide

      all : Known
      all = record known { writes = longer_each known.writes known'.writes }

      begins : (b : ℕ) → b < buckets z → IsPrefix (known_at known b) (known_at all b) × IsPrefix (known_at known' b) (known_at all b)
          × IsPrefix (known_at all b) (t.bucket b).history
      begins b l = longer_known known.writes known'.writes b (t.bucket b).history same (i.begins b l) (i'.begins b l)

      one_opening : (k : ℕ) (r : Record) → get_elem? rs' k ≡ some r → known'.openings ≡ known.openings
      one_opening k r e = let l = within rs' k r e in i'.opening (omega arith) ∙ sym (i.opening has_one)
