use Rattle.std.proofs.Common.{◌≡◌, ◌∙◌, ℕ, Some, None, ap}
use Rattle.bihash_steps.specs.Seats.{CallerState, with_view}
use Rattle.bihash_steps.specs.StoreSteps.{holding, listing, relisted}
use Rattle.bihash_rule.specs.declared.view.LockedStore.{LockedStore}
use Rattle.bihash_rule.specs.declared.view.HeldBlock.{HeldBlock}
use Rattle.bihash_table.specs.inner.Copying.{MayGiveBack}
use Rattle.bihash_table.proofs.page_allocation.give_back.Goals as goal

-- the page was listed, and then the list counted it
gave_back : (s t u w : CallerState) (log2 page : ℕ) (n : LockedStore) (h : HeldBlock)
    → MayGiveBack s.view log2 page n h → t ≡ s
    → ((n : LockedStore) → t.view.holds.store ≡ Some n
    → u ≡ with_view t (holding t.view (Some (listing n log2 page)) t.view.holds.block))
    → ((n : LockedStore) (h : HeldBlock) → u.view.holds.store ≡ Some n → u.view.holds.block ≡ Some h
    → w ≡ with_view u (holding u.view (Some (record { store = relisted n.store log2 h.page; listed = None })) None))
    → w ≡ with_view s (holding s.view (Some (record { store = relisted n.store log2 page; listed = None })) None)
gave_back s t u w log2 page n h may same listed returned =
    let there : u ≡ with_view s (holding s.view (Some (listing n log2 page)) s.view.holds.block) =
    listed n (ap (λ (c : CallerState). c.view.holds.store) same ∙ may.store)
    ∙ ap (λ (c : CallerState). with_view c (holding c.view (Some (listing n log2 page)) c.view.holds.block)) same in
    returned (listing n log2 page) h (ap (λ (c : CallerState). c.view.holds.store) there)
    (ap (λ (c : CallerState). c.view.holds.block) there ∙ may.block)
    ∙ ap (λ (c : CallerState). with_view c (holding c.view (Some
    (record { store = relisted n.store log2 h.page; listed = None })) None)) there
    ∙ ap (λ p. with_view s (holding s.view (Some (record { store = relisted n.store log2 p; listed = None })) None))
    may.same_page

pub pool_load-count-requires-clause-own : goal.pool_load-count-requires-clause-own
pool_load-count-requires-clause-own g c = c.requires.own

pub returns : goal.returns
returns g c = λ n h may. gave_back c.args.seat.now c.pool_load-count.new.caller c.pool_list.new.caller
    c.pool_return.new.caller c.args.log2 c.args.page n h may c.pool_load-count.ensures.same c.pool_list.ensures
    c.pool_return.ensures
