-- The calls of two callers that agree, in one order.
use Rattle.std.proofs.Common.{◌≡◌, ◌∙◌, ◌+◌, ◌<◌, ℕ, List, ◌++◌, ap, sym, subst, inl, inr}
use mathlib.Core.Option.{some}
use lib.ListN.{get_elem?}
use Rattle.bihash_words.specs.Maps.{Pairs}
use Rattle.bihash_words.specs.Sizes.{Sizes}
use Rattle.bihash_rule.specs.Words.{buckets}
use Rattle.bihash_rule.specs.Histories.{IsLegal, IsWriteList}
use Rattle.bihash_rule.specs.Callers.{Agrees, AreOneList, HasWrite, IsLawfulCaller, known_at, opening_at}
use Rattle.bihash_rule.specs.Logs.{IsLog, writes_on}
use Rattle.bihash_rule.specs.declared.view.Write.{Write}
use Rattle.bihash_rule.specs.declared.view.Call.{Call}
use Rattle.bihash_rule.specs.declared.view.Entry.{Entry}
use Rattle.bihash_rule.specs.declared.view.Openings.{Openings}
use Rattle.bihash_rule.specs.declared.view.Record.{Record}
use Rattle.bihash_rule.specs.declared.view.View.{View}
use Rattle.bihash_steps.proofs.Lists.{at_either}
use Rattle.bihash_laws.specs.CallRuns.{IsCommonHistory}
use Rattle.bihash_laws.specs.Serializations.{IsCommonSerialization, Operation}
use Rattle.bihash_laws.proofs.CommonHistories.{common_history}
use Rattle.bihash_laws.specs.Orders.{IsCommonLog}
use Rattle.bihash_laws.proofs.LogOrders.{common_log}
use Rattle.bihash_laws.proofs.BucketOrders.{AreLogged, serialized, operations}

-- what holds of each element of two lists holds of each of both
in_both : {A : Type 0} (P : A → Type 0) (xs ys : List A) → ((i : ℕ) (x : A) → get_elem? xs i ≡ some x → P x)
    → ((i : ℕ) (x : A) → get_elem? ys i ≡ some x → P x) → (i : ℕ) (x : A) → get_elem? (xs ++ ys) i ≡ some x → P x
in_both P xs ys first second i x at = elim (at_either xs ys i x at) [ inl h ↦ first i x h | inr h ↦ second h.0 x h.2 ]

module _ (z : Sizes) (v w : View) (b : ℕ) (one : IsLawfulCaller z v) (two : IsLawfulCaller z w) (agree : Agrees v w)
    (inside : b < buckets z) where
  module _ (H : List Write) (common : IsCommonHistory z b v w H) where
    opening : Pairs
    opening = opening_at v.known b

    -- the history is a write list
    its_writes : IsWriteList z b (opening_at v.known b) H
    its_writes = elim common.known [
      | inl is ↦ subst (IsWriteList z b (opening_at v.known b)) (sym is) (one.lists b inside)
      | inr is ↦ subst (IsWriteList z b (opening_at v.known b)) (sym is)
          (subst (λ (m : Pairs). IsWriteList z b m (known_at w.known b)) (sym common.opening) (two.lists b inside))
    ]

    -- the writes of the history that either made are calls of its record
    own : (i n : ℕ) (r : Record) (x : Write) → get_elem? v.records i ≡ some r → get_elem? H n ≡ some x → x.by ≡ r.number
        → HasWrite r.calls b (n + 1)
    own i n r x at_i at by = one.lawful.own i b n r x at_i inside (elim common.known [
      | inl is ↦ sym (ap (λ (l : List Write). get_elem? l n) is) ∙ at
      | inr is ↦ agree.own b n x (sym (ap (λ (l : List Write). get_elem? l n) is) ∙ at) (i, r, at_i, sym by)
    ]) by

    other_own : (i n : ℕ) (r : Record) (x : Write) → get_elem? w.records i ≡ some r → get_elem? H n ≡ some x → x.by ≡ r.number
        → HasWrite r.calls b (n + 1)
    other_own i n r x at_i at by = two.lawful.own i b n r x at_i inside (elim common.known [
      | inl is ↦ agree.other_own b n x (sym (ap (λ (l : List Write). get_elem? l n) is) ∙ at) (i, r, at_i, sym by)
      | inr is ↦ sym (ap (λ (l : List Write). get_elem? l n) is) ∙ at
    ]) by

    -- the log that has the calls of both, and what it has of the bucket
    module _ (log : List Entry) (all : IsCommonLog z v w log) where
      legal : IsLog z v.known.openings log
      legal = elim all.known [
        | inl is ↦ subst (IsLog z v.known.openings) (sym is) one.logged.legal
        | inr is ↦ subst (IsLog z v.known.openings) (sym is) (subst (λ (o : Openings). IsLog z o w.log) (sym agree.known.0) two.logged.legal)
      ]

      matches : AreOneList (writes_on b log) H
      matches = elim all.known [
        | inl is ↦ subst (λ (l : List Entry). AreOneList (writes_on b l) H) (sym is) (elim common.known [
          | inl same ↦ subst (AreOneList (writes_on b v.log)) (sym same) (one.matches b)
          | inr same ↦ subst (AreOneList (writes_on b v.log)) (sym same) (agree.other_matches b)
        ])
        | inr is ↦ subst (λ (l : List Entry). AreOneList (writes_on b l) H) (sym is) (elim common.known [
          | inl same ↦ subst (AreOneList (writes_on b w.log)) (sym same) (agree.matches b)
          | inr same ↦ subst (AreOneList (writes_on b w.log)) (sym same) (two.matches b)
        ])
      ]

      both_logged : AreLogged z v.known.openings b log H (v.records ++ w.records)
      both_logged = record {
        legal = λ i k r c at at_k home. in_both
            (λ (r : Record). (k : ℕ) (c : Call) → get_elem? r.calls k ≡ some c → c.bucket ≡ b → IsLegal z (opening_at v.known b) H r.number c)
            v.records w.records (λ j q at_j n d. common.legal j n q d at_j) (λ j q at_j n d. common.other_legal j n q d at_j) i r at k c at_k home;
        own = λ i n r x at at_n by. in_both
            (λ (r : Record). (n : ℕ) (x : Write) → get_elem? H n ≡ some x → x.by ≡ r.number → HasWrite r.calls b (n + 1))
            v.records w.records (λ j q at_j m y. own j m q y at_j) (λ j q at_j m y. other_own j m q y at_j) i r at n x at_n by;
        calls = all.order.order;
        is_log = legal;
        matches = matches;
        steps = λ n x at. (its_writes.each n x at).changes;
      }

  pub common_order_at : (history : List Write) × (operations : List Operation) × IsCommonSerialization z b v w history operations
  common_order_at = let h = common_history z v w one two agree b in let log = common_log z v w one two agree in (
    h.0,
    operations z v.known.openings b log.0 h.0 (v.records ++ w.records),
    record {
      common = h.1;
      serial = serialized z v.known.openings b log.0 h.0 (v.records ++ w.records) (both_logged h.0 h.1 log.0 log.1);
    },
  )

pub common_order : (z : Sizes) (v w : View) (b : ℕ) → IsLawfulCaller z v → IsLawfulCaller z w → Agrees v w → b < buckets z
    → (history : List Write) × (operations : List Operation) × IsCommonSerialization z b v w history operations
common_order = common_order_at
