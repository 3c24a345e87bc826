-- The rule holds of a row in which no write was made since it began.
use Rattle.std.proofs.Common.{◌≡◌, ℕ, zero, suc, ◌<◌, ◌≤◌, false, List, [], ◌∷◌, ◌++◌, length, refl, sym, ap, ◌∙◌, subst, inr, arith, inl, le_refl, Some, None}
use mathlib.Core.Option.{some, some-ne-none, some-injective}
use lib.ListN.{get_elem?, get_or-replicate}
use Rattle.std.specs.FinMap.{get}
use Rattle.std.proofs.lemmas.List.{length-replicate}
use Rattle.atomic_table.specs.Table.{opening}
use Rattle.bihash_words.specs.Sizes.{Sizes, IsSound}
use Rattle.bihash_rule.specs.Words.{buckets, all_words, count_of}
use Rattle.bihash_rule.specs.Blocks.{no_block}
use Rattle.bihash_rule.specs.Partition.{IsPartition}
use Rattle.bihash_rule.specs.Histories.{IsPairOf, IsWriteList}
use Rattle.bihash_rule.specs.Callers.{known_at, opening_in, IsLawfulCaller}
use Rattle.bihash_rule.specs.Buckets.{BucketState, IsBucket}
use Rattle.bihash_rule.specs.PageStores.{StoreState, IsStore, all_used, runs_now}
use Rattle.bihash_rule.specs.LogRule.{KnowsLog}
use Rattle.bihash_rule.specs.Views.{empty_record, opening_view}
use Rattle.bihash_rule.specs.WordRule.{TableState, IsView, WordRule}
use Rattle.bihash_rule.specs.declared.view.Openings.{Openings}
use Rattle.bihash_rule.specs.declared.view.Write.{Write}
use Rattle.bihash_rule.specs.declared.view.Extent.{Extent}
use Rattle.bihash_rule.specs.declared.view.PageStore.{PageStore}
use Rattle.bihash_rule.specs.declared.view.Record.{Record}
use Rattle.bihash_rule.specs.declared.view.View.{View}
use Rattle.bihash_steps.proofs.Lists.{no_row}

-- the pairs of the maps with which the buckets begin may stand in the buckets
abbrev pub AreHome : Sizes → Openings → Type 0
AreHome z openings = (b : ℕ) (key : List ℕ) (value : ℕ) → b < buckets z → get (opening_in openings b) key ≡ Some value → IsPairOf z b key value

module _ (z : Sizes) (openings : Openings) where
  one_record : (i : ℕ) (r : Record) → get_elem? (opening_view z openings).records i ≡ some r → (i ≡ 0) × (empty_record 1 ≡ r)
  one_record zero r e = (refl, some-injective _ r e)
  one_record (suc i) r e = absurd (some-ne-none r (sym e))

  none_known : (b : ℕ) → b < buckets z → known_at (opening_view z openings).known b ≡ []
  none_known b l = get_or-replicate (buckets z) b [] [] l

  -- no write at all is a write list
  pub no_writes : AreHome z openings → (b : ℕ) → b < buckets z → IsWriteList z b (opening_in openings b) []
  no_writes home b inside = record {
    short = omega arith;
    each = λ n w e. absurd (some-ne-none w (sym e));
    home = λ key value h. home b key value inside h;
  }

  pub opening_lawful : AreHome z openings → IsLawfulCaller z (opening_view z openings)
  opening_lawful home = record {
    acts = omega arith;
    numbers = record {
      range = λ i r e. let n = ap (λ (q : Record). q.number) (one_record i r e).1 in (omega arith, omega arith);
      once = λ i k r q ne e f. absurd (let a = (one_record i r e).0 in let b = (one_record k q f).0 in ne (omega arith));
    };
    lawful = record {
      legal = λ i k r c e f. absurd (some-ne-none c (sym (ap (λ (q : Record). get_elem? q.calls k) (one_record i r e).1 ∙ f)));
      rises = λ i r e a b c d lt f g. absurd (some-ne-none c (sym (ap (λ (q : Record). get_elem? q.calls a) (one_record i r e).1 ∙ f)));
      own = λ i b n r w e l f is. absurd (some-ne-none w (sym (ap (λ (h : List Write). get_elem? h n) (sym (none_known b l)) ∙ f)));
    };
    lists = λ b l. subst (IsWriteList z b (opening_in openings b)) (sym (none_known b l)) (no_writes home b l);
    made = λ _ b l n w f. absurd (some-ne-none w (sym (ap (λ (h : List Write). get_elem? h n) (sym (none_known b l)) ∙ f)));
    logged = record { legal = tt; calls = λ i q e. ap (λ (x : Record). x.calls) (one_record i q e).1 };
    matches = λ b. inl record { rest = known_at (opening_view z openings).known b; whole = refl };
  }

  -- a bucket in which no write was made: where its block lies, and the words of the block
  abbrev pub unwritten : Extent → List ℕ → BucketState
  unwritten extent block = record { history = []; extent = extent; block = block; lock = None; dirty = false }

  module _ (extent : ℕ → Extent) (block : ℕ → List ℕ) (store : PageStore) where
    abbrev pub bucket_at_first : ℕ → BucketState
    bucket_at_first b = unwritten (extent b) (block b)

    abbrev pub store_at_first : StoreState
    store_at_first = record { store = store; lock = None }

    abbrev pub table_at_first : TableState
    table_at_first = record { openings = openings; bucket = bucket_at_first; store = store_at_first }

    -- what words and pages say of such a row
    pub record Begins (words : List ℕ) : Type 0 where
      pub wide : length words ≡ all_words z
      pub one : count_of words ≡ 1
      pub home : AreHome z openings
      pub bucket : (b : ℕ) → b < buckets z → IsBucket z words 1 b (opening_in openings b) (bucket_at_first b)
      pub outside : (b : ℕ) → buckets z ≤ b → extent b ≡ no_block
      pub stored : IsStore z words (all_used z openings bucket_at_first) store_at_first
      pub parted : IsPartition z.pages store.used (runs_now bucket_at_first store (opening_view z openings ∷ []))

    module _ (words : List ℕ) (begins : Begins words) where
      new_view : IsView z words 1 table_at_first 0 (opening_view z openings)
      new_view = let lawful = opening_lawful begins.home in record {
        informed = record {
          wide = length-replicate (buckets z) [];
          begins = λ b l. record { rest = []; whole = sym (ap (λ (h : List Write). h ++ []) (none_known b l)) };
          opening = λ _. refl;
          lawful = lawful.lawful;
          own = λ i b n r w e l f. absurd (some-ne-none w (sym f));
        };
        numbers = lawful.numbers;
        seen = le_refl 1;
        lone = λ _ n low high. (0, empty_record 1, refl, omega arith);
        able = inr refl;
        bucket = tt;
        only = λ b l e. absurd cc;
        store = tt;
        only_store = λ e. absurd cc;
        block = tt;
        open_bucket = tt;
        still = λ _. tt;
        row = λ _. no_row words;
        left = tt;
        short = λ c h. absurd (some-ne-none c (sym (ap (λ (q : Record). get_elem? q.calls h.1) (one_record h.0 h.2 h.3).1 ∙ h.4)));
        meeting = tt;
      }

      only_view : (j : ℕ) (v : View) → get_elem? (opening_view z openings ∷ []) j ≡ some v → (j ≡ 0) × (opening_view z openings ≡ v)
      only_view zero v e = (refl, some-injective (opening_view z openings) v e)
      only_view (suc j) v e = absurd (some-ne-none v (sym e))

      pub starts_so : IsSound z → WordRule z (opening words [] (opening_view z openings))
      starts_so sound = let one = begins.one in let many = sound.some_callers in record {
        table = table_at_first;
        sound = sound;
        wide = begins.wide;
        some_caller = omega arith;
        few_callers = omega arith;
        each_bucket = λ b l. subst (λ (n : ℕ). IsBucket z words n b (opening_in openings b) (bucket_at_first b)) (sym one) (begins.bucket b l);
        outside = λ b l. (refl, begins.outside b l);
        each_view = λ j v e. let o = only_view j v e in subst (λ (n : ℕ). IsView z words n table_at_first j v) (sym one)
            (subst (λ (q : ℕ × View). IsView z words 1 table_at_first q.0 q.1) (λ i. (sym o.0 i, o.1 i)) new_view);
        apart = λ i j v w ne e f. absurd (let a = (only_view i v e).0 in let b = (only_view j w f).0 in ne (omega arith));
        holders = λ b j e. absurd cc;
        store = begins.stored;
        keeper = λ j e. absurd cc;
        logged = record {
          log = [];
          legal = tt;
          writes = λ b l. refl;
          each = λ j v e. subst (λ (u : View). KnowsLog [] u.log u.records) (only_view j v e).1 record {
            begins = record { rest = []; whole = refl };
            calls = λ i q f. ap (λ (x : Record). x.calls) (one_record i q f).1;
            own = λ i k q x f g. absurd (some-ne-none x (sym g));
          };
          made = λ k e f. absurd (some-ne-none e (sym f));
        };
        parted = begins.parted;
      }
