-- A held block is cut: its second half is given back, and the first is held.
use Rattle.std.proofs.Common.{◌≡◌, ℕ, ◌+◌, ◌*◌, ◌^◌, ◌<◌, ◌≤◌, List, [], ◌∷◌, ◌++◌, length, set, take, refl, sym, ap, ◌∙◌, subst, arith, pow-add, length-append, Some, None}
use Rattle.std.proofs.lemmas.List.{get_or-take, length-take-le}
use Rattle.atomic_table.specs.Table.{keeps, Allows}
use Rattle.bihash_words.specs.Sizes.{Sizes}
use Rattle.bihash_rule.specs.Words.{returned_count_at, front_words, block_words, page_words}
use Rattle.bihash_rule.specs.Partition.{run_of}
use Rattle.bihash_rule.specs.PageStores.{IsStore, returned_in, all_used, HoldsBlock, HoldsBlockIf, run_in}
use Rattle.bihash_rule.specs.WordRule.{WordRule}
use Rattle.bihash_steps.specs.Steps.{ViewOfSeat}
use Rattle.bihash_steps.specs.StoreSteps.{MayCut, TellsCut, first_half, halved, relisted}
use Rattle.bihash_rule.specs.declared.view.LockedStore.{LockedStore}
use Rattle.bihash_rule.specs.declared.view.HeldBlock.{HeldBlock}
use Rattle.bihash_rule.specs.declared.view.View.{View}
use Rattle.bihash_steps.proofs.CountWord.{front}
use Rattle.bihash_steps.proofs.OwnedWords.{front_still}
use Rattle.bihash_steps.proofs.Exchange.{parted_cut}
use Rattle.bihash_steps.proofs.pool_steps.PoolFrame.{after_store, known_store, known_runs, held_moved}
use Rattle.bihash_steps.proofs.pool_steps.PoolReturn.{counts_listed, listed_page}
use Rattle.bihash_steps.proofs.pool_steps.PoolTake.{block_is}

module _ (z : Sizes) where
  -- the first half stands where the block stood
  first_stands : (words : List ℕ) (h : HeldBlock) (log2 i word : ℕ) → h.log2 ≡ log2 + 1 → i < front_words z → HoldsBlock z words h
      → HoldsBlock z (set words i word) (first_half z h log2)
  first_stands words h log2 i word twice before ok =
      let n : ℕ = 2 ^ log2 * page_words z in
      let e : 2 ^ (log2 + 1) ≡ 2 ^ log2 * 2 = pow-add 2 log2 1 in
      let all : length h.words ≡ 2 ^ (log2 + 1) * page_words z = ok.size ∙ (ap (block_words z h.page) twice ∙ block_is z h.page (log2 + 1) ok.some_page) in
      let both : (2 ^ log2 * 2) * page_words z ≡ n + n = omega arith in
      let long : n ≤ length h.words = (let f : length h.words ≡ n + n = all ∙ (ap (λ (k : ℕ). k * page_words z) e ∙ both) in omega arith) in
      let half : length (take n h.words) ≡ n = length-take-le n h.words long in
      let small = ok.small in record {
        some_page = ok.some_page;
        small = omega arith;
        size = half ∙ sym (block_is z h.page log2 ok.some_page);
        stands = front_still z words i word h.page (take n h.words) (omega arith)
            (λ k lt. ok.stands k (omega arith) ∙ sym (get_or-take n h.words k 0 (omega arith)));
      }

  pub cuts_block : (slots id at number log2 count : ℕ) (m : ViewOfSeat) → MayCut z m.0 log2 count → at ≡ returned_count_at log2
      → number ≡ count + 1 → 1 ≤ length m.0.records → Allows (WordRule z) slots id m at (λ _. number) (λ _. TellsCut z at number m)
  cuts_block slots id at number log2 count m may is more acts s r deep seat fits = (
    after,
    keeps,
    tt,
    subst (λ (p : ℕ × ℕ). WordRule z (after_store s id after p.0 p.1)) (λ t. (sym is t, (long ∙ sym more) t)) rule,
    λ log2' count' k h may' is' more' e f.
        let same : log2 ≡ log2' = omega arith in
        let held = may.store in
        let had = may.held in
        let one : n ≡ k = cc in
        let block : b ≡ h = cc in
        λ t. (halved z v (one t) (block t) (same t), m.1),
  )
    where
      v : View
      v = m.0

      n : LockedStore
      n = may.locked

      b : HeldBlock
      b = may.block

      page : ℕ
      page = b.page + 2 ^ log2

      after : View
      after = halved z v n b log2

      long : length (returned_in n.store log2 ++ page ∷ []) ≡ count + 1
      long = length-append (returned_in n.store log2) (page ∷ []) ∙ ap (λ (k : ℕ). k + 1) may.listed

      ok : IsStore z s.words (all_used z r.table.openings r.table.bucket) (record { store = n.store; lock = Some id })
      ok = known_store z s r id v seat n may.store

      has_block : HoldsBlock z s.words b
      has_block = subst (HoldsBlockIf z s.words) may.held (r.each_view id v seat).block

      rule : WordRule z (after_store s id after (returned_count_at log2) (length (returned_in n.store log2 ++ page ∷ [])))
      rule = let top = front z in let small = may.small in
          held_moved z s r id v seat n may.store (returned_count_at log2) (length (returned_in n.store log2 ++ page ∷ []))
          (relisted n.store log2 page) None (Some (first_half z b log2)) acts (omega arith) (omega arith)
          (counts_listed z s.words (all_used z r.table.openings r.table.bucket) log2 page (record { store = n.store; lock = Some id }) r.wide
          (listed_page z s r id v seat n may.store log2 page may.page) ok)
          tt (first_stands s.words b log2 (returned_count_at log2) (length (returned_in n.store log2 ++ page ∷ [])) may.twice (omega arith) has_block)
          (parted_cut z.pages r.table.bucket n.store s.views id v after seat (known_runs z s r id v seat n may.store)
          log2 b.page (let wide = ok.wide in omega arith) has_block.some_page (ap run_in may.held ∙ ap (run_of b.page) may.twice) refl)
