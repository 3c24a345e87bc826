-- Words of the page store are loaded under its lock.
use Rattle.std.proofs.Common.{◌≡◌, ℕ, ◌<◌, length, sym, refl, ap, ◌∙◌, subst, Option, Some, None}
use lib.ListN.{get_elem?}
use mathlib.Core.Option.{some}
use Rattle.std.specs.Prelude.{slice_index}
use Rattle.atomic_table.specs.Table.{State, keeps, Allows}
use Rattle.bihash_words.specs.Sizes.{Sizes}
use Rattle.bihash_rule.specs.Words.{list_words}
use Rattle.bihash_rule.specs.PageStores.{StoreState, returned_in}
use Rattle.bihash_rule.specs.WordRule.{WordRule}
use Rattle.bihash_steps.specs.Steps.{ViewOfSeat}
use Rattle.bihash_steps.specs.StoreSteps.{IsInStore, word_in, HasRoomFor, pool_word_at, TellsPoolWord}
use Rattle.bihash_rule.specs.declared.view.PageStore.{PageStore}
use Rattle.bihash_rule.specs.declared.view.LockedStore.{LockedStore}
use Rattle.bihash_rule.specs.declared.view.HeldBlock.{HeldBlock}
use Rattle.bihash_rule.specs.declared.view.View.{View}
use Rattle.bihash_steps.specs.declared.steps_on_page_store.word.PoolWord.{PoolWord}
use Rattle.bihash_steps.specs.declared.steps_on_page_store.word.PoolWord.TheVariants.{Used, Count, Listed}
use Rattle.bihash_steps.proofs.pool_steps.Room.{room_for}
use Rattle.bihash_steps.proofs.pool_steps.PoolFrame.{held_store, same_rule}

module _ (z : Sizes) where
  module _ (s : State (Unit {0}) View) (r : WordRule z s) (id : ℕ) (v : View) (at : get_elem? s.views id ≡ some v) (n : LockedStore)
      (held : v.holds.store ≡ Some n) where
    abbrev q : StoreState
    q = r.table.store

    same : n.store ≡ q.store
    same = (held_store z s r id v at n held).store

    word_is : (word : PoolWord) → IsInStore z n.store word → slice_index s.words (pool_word_at z word) ≡ word_in n.store word
    word_is Used h = r.store.used ∙ ap (λ (k : PageStore). k.used) (sym same)
    word_is (Count log2) h = r.store.count log2 h ∙ ap (λ (k : PageStore). length (returned_in k log2)) (sym same)
    word_is (Listed log2 i) h = r.store.lists log2 h.0 i (subst (λ (k : PageStore). i < length (returned_in k log2)) same h.1)
        ∙ ap (λ (k : PageStore). slice_index (returned_in k log2) i) (sym same)

    has_room : (word : PoolWord) (found : ℕ) → found ≡ word_in n.store word → (block : Option HeldBlock) → v.holds.block ≡ block
        → HasRoomFor z block word found
    has_room word found is None e = tt
    has_room Used found is (Some h) e = tt
    has_room (Count log2) found is (Some h) e = λ small near. subst (λ (k : ℕ). k < list_words z log2) (sym is)
        (subst (λ (k : PageStore). length (returned_in k log2) < list_words z log2) (sym same) (room_for z s r id v h at e log2 small near))
    has_room (Listed log2 i) found is (Some h) e = tt

  pub loads_pool : (slots id at : ℕ) (m : ViewOfSeat) → Allows (WordRule z) slots id m at (λ n. n) (TellsPoolWord z at m)
  loads_pool slots id at m s r deep seat fits = (
    m.0,
    keeps,
    tt,
    same_rule z s r id m.0 seat at,
    record {
      same = refl;
      value = λ n word held inside is. let found = ap (slice_index s.words) is ∙ word_is s r id m.0 seat n held word inside in
          (found, has_room s r id m.0 seat n held word (slice_index s.words at) found m.0.holds.block refl);
    },
  )
