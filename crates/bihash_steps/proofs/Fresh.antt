-- The rule holds of a new row.
use Rattle.std.proofs.Common.{◌≡◌, ℕ, zero, suc, ◌*◌, ◌≤◌, false, List, [], ◌∷◌, length, get_or, replicate, refl, sym, ap, ◌∙◌, subst, arith, Option, Some, None}
use mathlib.Core.Logic.{dite}
use mathlib.Core.Option.{some-ne-none}
use native.Mathlib.Decide.{dec_lt}
use lib.ListN.{get_elem?, get_or-replicate}
use Rattle.std.specs.FinMap.{empty, get, get-empty, get-from_entries}
use Rattle.std.proofs.lemmas.Cmp.{nat_list_cmp_total}
use Rattle.std.proofs.lemmas.List.{length-replicate}
use Rattle.std.specs.Ordering.{nat_cmp}
use Rattle.std.specs.Cmp.Lexicographic.{slice_cmp}
use Rattle.atomic_table.specs.Table.{opening}
use Rattle.bihash_words.specs.Sizes.{Sizes, IsSound}
use Rattle.bihash_rule.specs.Words.{bucket_at, page_words, list_words, list_at, returned_count_at, Stands}
use Rattle.bihash_rule.specs.Blocks.{no_block}
use Rattle.bihash_rule.specs.Partition.{PageRun, Owner, of_bucket, returned_at, never_used, held_by, run_at}
use Rattle.bihash_rule.specs.Callers.{opening_in, IsLawfulCaller}
use Rattle.bihash_rule.specs.Words.{IsFresh}
use Rattle.bihash_rule.specs.PageStores.{returned_in, runs_now}
use Rattle.bihash_rule.specs.Views.{first_view, no_openings}
use Rattle.bihash_rule.specs.WordRule.{WordRule}
use Rattle.bihash_rule.specs.declared.view.PageStore.{PageStore}
use Rattle.bihash_steps.proofs.Beginnings.{AreHome, bucket_at_first, no_writes, opening_lawful, starts_so}
use Rattle.bihash_steps.proofs.BlockLemmas.{bare_block}
use Rattle.bihash_steps.proofs.BucketPlaces.{place_inside}
use Rattle.bihash_steps.proofs.CountWord.{front}

module _ (z : Sizes) where
  no_pair : (key : List ℕ) (b : ℕ) → get (opening_in no_openings b) key ≡ None
  no_pair key zero = get-from_entries nat_list_cmp_total [] key
  no_pair key (suc b) = get-from_entries nat_list_cmp_total [] key

  none_home : AreHome z no_openings
  none_home b key value l h = let e = no_pair key b in absurd (cc (h, e))

  pub first_lawful : IsLawfulCaller z (first_view z)
  first_lawful = opening_lawful z no_openings none_home

  -- ---- The page store

  abbrev bare_store : PageStore
  bare_store = record { used = 0; returned = replicate (suc z.max_log2) []; unpublished = false }

  none_returned : (log2 : ℕ) → returned_in bare_store log2 ≡ []
  none_returned log2 = dite (dec_lt log2 (suc z.max_log2)) (λ l. get_or-replicate (suc z.max_log2) log2 [] [] l)
      (λ out. past (suc z.max_log2) log2 (omega arith))
    where
      past : (n i : ℕ) → n ≤ i → get_or {A = List ℕ} (replicate n []) i [] ≡ []
      past zero i l = refl
      past (suc n) zero l = absurd (omega arith)
      past (suc n) (suc i) l = past n i (omega arith)

  abbrev runs : Owner → Option PageRun
  runs = runs_now (bucket_at_first z no_openings (λ _. no_block) (λ _. []) bare_store) bare_store (first_view z ∷ [])

  no_run : (o : Owner) → runs o ≡ None
  no_run (of_bucket b) = refl
  no_run (returned_at log2 i) = ap (λ (xs : List ℕ). run_at log2 (get_elem? xs i)) (none_returned log2)
  no_run never_used = refl
  no_run (held_by zero) = refl
  no_run (held_by (suc j)) = refl

  none_has : (o : Owner) (run : PageRun) → runs o ≡ Some run → ⊥
  none_has o run e = let n = no_run o in cc

  pub starts : (words : List ℕ) → IsSound z → IsFresh z words → WordRule z (opening words [] (first_view z))
  starts words sound fresh = let one = fresh.one in let front = front z in
      let pages : ℕ = z.pages * page_words z in
      starts_so z no_openings (λ _. no_block) (λ _. []) bare_store words record {
        wide = fresh.wide;
        one = fresh.one;
        home = none_home;
        bucket = λ b l. record {
          word = let p = place_inside z b l in fresh.empty (bucket_at z b) (omega arith) (omega arith);
          writes = no_writes z no_openings none_home b l;
          bearers = λ n w e. absurd (some-ne-none w (sym e));
          size = refl;
          pairs = bare_block z empty (λ key v e. let n = get-empty {X = ℕ} (slice_cmp nat_cmp) key in cc);
          at_rest = λ _ k h. absurd (omega arith);
          clean = λ _. refl;
        };
        outside = λ b l. refl;
        stored = record {
          lock = fresh.empty 1 (omega arith) (omega arith);
          used = fresh.empty 2 (omega arith) (omega arith);
          wide = length-replicate (suc z.max_log2) [];
          count = λ log2 l. fresh.empty (returned_count_at log2) (omega arith) (omega arith) ∙ sym (ap length (none_returned log2));
          lists = λ log2 l. subst (Stands words (list_at z log2)) (sym (none_returned log2)) (λ k h. absurd (omega arith));
          room = λ log2 l. subst (λ (xs : List ℕ). length xs ≤ list_words z log2) (sym (none_returned log2))
              (let x : ℕ = list_words z log2 in omega arith);
          bound = omega arith;
          settled = λ _. refl;
        };
        parted = record {
          owner = λ _. never_used;
          no_run = refl;
          inside = λ o run e. absurd (none_has o run e);
          owned = λ o run page e w. absurd (none_has o run e);
          covered = λ page l h. absurd (omega arith);
          above = λ page l. refl;
          few = omega arith;
        };
      } sound
