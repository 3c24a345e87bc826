-- A lone caller loads the next word of its row.
use Rattle.std.proofs.Common.{◌≡◌, ℕ, ◌+◌, ◌≤◌, List, [], ◌∷◌, ◌++◌, length, set, refl, sym, ap, ◌∙◌, arith, length-append}
use Rattle.std.proofs.lemmas.List.{get_or_append_left, get_or_at}
use Rattle.std.proofs.lemmas.Grind.{same_number_lists}
use mathlib.Core.Logic.{dite}
use native.Mathlib.Decide.{dec_lt}
use lib.Seq.{set-get_or}
use Rattle.std.specs.Prelude.{slice_index}
use Rattle.atomic_table.specs.Table.{keeps, Allows}
use Rattle.bihash_words.specs.Sizes.{Sizes}
use Rattle.bihash_rule.specs.Words.{count_of, Stands}
use Rattle.bihash_rule.specs.WordRule.{IsView, WordRule}
use Rattle.bihash_steps.specs.Steps.{ViewOfSeat}
use Rattle.bihash_steps.specs.Renewals.{IsNextWord, TellsRowWord, view_after_load}
use Rattle.bihash_rule.specs.declared.view.View.{View}
use Rattle.bihash_steps.proofs.KnownLists.{lawful_here, logged_at}
use Rattle.bihash_steps.proofs.CountWord.{kept_log, others_apart, stays_at}
use Rattle.bihash_steps.proofs.NotedViews.{seen_view}
use Rattle.bihash_steps.proofs.OwnedWords.{at_same}

-- the first words, and the next one
stands_more : (words xs : List ℕ) (at : ℕ) → at ≡ length xs → Stands words 0 xs → Stands words 0 (xs ++ slice_index words at ∷ [])
stands_more words xs at is stood k l = dite (dec_lt k (length xs))
    (λ before. stood k before ∙ sym (get_or_append_left xs (slice_index words at ∷ []) 0 k before))
    (λ not. let long = length-append xs (slice_index words at ∷ []) in
    let last : length xs ≡ k = omega arith in let here : 0 + k ≡ at = omega arith in
    ap (slice_index words) here ∙ sym (get_or_at xs (slice_index words at) [] 0 k last))

-- words that are all the first ones are all words
stands_whole : (words xs : List ℕ) → length words ≡ length xs → Stands words 0 xs → words ≡ xs
stands_whole words xs long stood = same_number_lists words xs long
    (λ k l. let here : k ≡ 0 + k = omega arith in ap (slice_index words) here ∙ stood k (omega arith))

module _ (z : Sizes) where
  pub loads_row_word : (slots id at : ℕ) (m : ViewOfSeat) → IsNextWord z m.0 at → 1 ≤ length m.0.records
      → Allows (WordRule z) slots id m at (λ n. n) (TellsRowWord z m)
  loads_row_word slots id at m may acts s r deep seat fits = (
    w,
    keeps,
    tt,
    rule,
    record {
      seat = refl;
      lawful = lawful_here z s r w acts good.numbers good.informed good.lone (logged_at z s r id v seat acts);
      row = λ all. record {
        noted = refl;
        lone = may.lone;
        acts = acts;
        state = record { words = set s.words at word; homes = s.homes; views = set s.views id w };
        rule = rule;
        are = set-get_or s.words at 0 ∙ stands_whole s.words w.notes.row (r.wide ∙ sym all) (good.row may.lone);
        seat = id;
        stands = at_same s.views id v w seat;
      };
    },
  )
    where
      v : View
      v = m.0

      word : ℕ
      word = slice_index s.words at

      w : View
      w = view_after_load v word

      ok : IsView z s.words (count_of s.words) r.table id v
      ok = r.each_view id v seat

      good : IsView z s.words (count_of s.words) r.table id w
      good = seen_view z s.words (count_of s.words) r.table id v v.seen v.lone w.notes ok.numbers ok.seen ok.lone record {
        open_bucket = tt;
        still = λ _. tt;
        row = λ lone. stands_more s.words v.notes.row at may.next (ok.row lone);
        left = tt;
        meeting = tt;
      } ok

      rule : WordRule z record { words = set s.words at word; homes = s.homes; views = set s.views id w }
      rule = stays_at z s r at id v w seat refl good (others_apart z s r id v seat) (kept_log z s r id v w seat refl refl)
