-- Where the words of the page store stand.
use Rattle.std.proofs.Common.{◌≡◌, ◌≢◌, ℕ, suc, ◌+◌, ◌^◌, ◌<◌, ◌≤◌, List, length, set, take, drop, sym, ap, ◌∙◌, arith, get_or-set_other}
use mathlib.Core.Logic.{dite}
use native.Mathlib.Decide.{ℕ_discrete, dec_lt}
use Rattle.std.proofs.lemmas.Nat.{pow_below}
use Rattle.std.proofs.lemmas.List.{length-take-le, length-drop, get_or-take, get_or-drop}
use Rattle.bihash_words.specs.Sizes.{Sizes}
use Rattle.bihash_rule.specs.Words.{list_words, lists_words, list_at, Stands}
use Rattle.bihash_steps.proofs.Frames.{lists_grow}

-- powers of two differ
pub same_power : (m n : ℕ) → 2 ^ m ≡ 2 ^ n → m ≡ n
same_power m n e = dite (dec_lt m n) (λ h. absurd (let l = pow_below m n h in omega arith))
    (λ h. dite (dec_lt n m) (λ k. absurd (let l = pow_below n m k in omega arith)) (λ k. omega arith))

module _ (z : Sizes) where
  -- ---- The lists of returned blocks, one after the other

  pub list_after : (log2 : ℕ) → 4 + z.max_log2 ≤ list_at z log2
  unfolding list_at
  list_after log2 = let x : ℕ = lists_words z log2 in omega arith

  -- a word of one list is none of another
  pub lists_apart : (log2 other i k : ℕ) → log2 ≢ other → i < list_words z log2 → k < list_words z other → list_at z log2 + i ≢ list_at z other + k
  unfolding list_at
  lists_apart log2 other i k ne h l e = dite (dec_lt log2 other) (λ lt. let g = lists_grow z other (suc log2) lt in omega arith)
      (λ not. let g = lists_grow z log2 (suc other) (omega arith) in omega arith)

  pub same_list : (log2 other i k : ℕ) → i < list_words z log2 → k < list_words z other → list_at z log2 + i ≡ list_at z other + k
      → (log2 ≡ other) × (i ≡ k)
  same_list log2 other i k h l e = dite (ℕ_discrete log2 other)
      (λ is. (is, let f : list_at z log2 + i ≡ list_at z log2 + k = e ∙ ap (λ (n : ℕ). list_at z n + k) (sym is) in omega arith))
      (λ ne. absurd (lists_apart log2 other i k ne h l e))

  -- a store before the lists leaves them
  pub list_still : (words : List ℕ) (i n log2 : ℕ) (xs : List ℕ) → i < 4 + z.max_log2 → Stands words (list_at z log2) xs
      → Stands (set words i n) (list_at z log2) xs
  list_still words i n log2 xs before stands k lt = let a = list_after log2 in
      get_or-set_other words i (list_at z log2 + k) n 0 (λ e. omega arith) ∙ stands k lt

-- the words from `at` on
abbrev pub span : List ℕ → ℕ → ℕ → List ℕ
span words at n = take n (drop at words)

module _ (words : List ℕ) (at n : ℕ) (inside : at + n ≤ length words) where
  pub span_long : length (span words at n) ≡ n
  span_long = length-take-le n (drop at words) (let l = length-drop at words in omega arith)

  pub span_stands : Stands words at (span words at n)
  span_stands k lt = sym (get_or-take n (drop at words) k 0 (let l = span_long in omega arith) ∙ get_or-drop at words k 0)

  -- and they still follow a store before them
  pub span_still : (i word : ℕ) → i < at → Stands (set words i word) at (span words at n)
  span_still i word before k lt = get_or-set_other words i (at + k) word 0 (λ e. omega arith) ∙ span_stands k lt
