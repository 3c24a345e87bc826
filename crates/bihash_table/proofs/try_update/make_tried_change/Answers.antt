use Rattle.std.proofs.Common.{ℕ, Option, ap, refl, subst, sym}
use Rattle.bihash_words.specs.Sizes.{sizes_of}
use Rattle.bihash_rule.specs.Histories.{bounds_of}
use Rattle.bihash_table.specs.inner.OpenReads.{value_of}
use Rattle.bihash_table.specs.Tries.{TriedOver}
use Rattle.bihash_table.proofs.Decisions.{kept_step, worn_step}
use Rattle.bihash_table.proofs.SeenBuckets.{seen_as}
use Rattle.bihash_table.proofs.Tries.{over, value_seen, wants_change}
use Rattle.bihash_table.proofs.Versions.{unworn, worn}
use Rattle.bihash_table.proofs.try_update.make_tried_change.Goals as goal

pub answer_try-requires : goal.answer_try-requires
answer_try-requires g c =
    let z = sizes_of g.S.Shape in
    let h = c.requires.found in record {
      own = h.own;
      seen = seen_as z _ _ _ (value_seen z _ _ _ _ _ _ c.value_found-found.ensures h.seen) (λ told m pairs.
          (m, kept_step (bounds_of z) m _ _ _ _ (told m pairs) (c.is_idle.ensures.yes c.if-is_idle.true)));
      reads = refl;
      paged = λ log2 left e. absurd cc;
      roomy = λ e. let c : ⊥ = cc in c;
    }

pub returns-then-is_idle-clause-told : goal.returns-then-is_idle-clause-told
returns-then-is_idle-clause-told g c = let hashed = c.args.seen.now.hashed in
    subst (λ (f : Option ℕ). TriedOver g.S.Shape c.args.caller.now.seat c.answer_try.new.seat hashed.key.now f c.args.change
    (g.E.Expiry.is_expired c.args.expiry.now) c.answer_try.result)
    c.value_found-found.ensures (over g.S.Shape _ _ _ _ _ _ c.answer_try.result c.answer_try.ensures.told)

pub answer_try-requires-then-is_worn : goal.answer_try-requires-then-is_worn
answer_try-requires-then-is_worn g c =
    let z = sizes_of g.S.Shape in
    let h = c.requires.found in record {
      own = h.own;
      seen = seen_as z _ _ _ (value_seen z _ _ _ _ _ _ c.value_found-found.ensures h.seen) (λ told m pairs. (
        m,
        worn_step (bounds_of z) m _ _ _ _ (told m pairs) (c.is_idle.ensures.no c.if-is_idle.false)
            (worn z _ _ _ h.seen.seen c.is_worn.result c.is_worn.ensures c.if-is_worn.true),
      ));
      reads = refl;
      paged = λ log2 left e. absurd cc;
      roomy = λ e. let c : ⊥ = cc in c;
    }

pub returns-then-is_worn-clause-told : goal.returns-then-is_worn-clause-told
returns-then-is_worn-clause-told g c = let hashed = c.args.seen.now.hashed in
    subst (λ (f : Option ℕ). TriedOver g.S.Shape c.args.caller.now.seat c.answer_try-then-is_worn.new.seat hashed.key.now f c.args.change
    (g.E.Expiry.is_expired c.args.expiry.now) c.answer_try-then-is_worn.result) c.value_found-found.ensures
    (over g.S.Shape _ _ _ _ _ _ c.answer_try-then-is_worn.result c.answer_try-then-is_worn.ensures.told)

pub change_pair-requires : goal.change_pair-requires
change_pair-requires g c = wants_change g.S.Shape _ _ c.args.seen.now _ _ _ _ c.in-Some.is c.value_found-found.ensures c.requires.found
    (unworn (sizes_of g.S.Shape) _ _ _ c.requires.found.seen.seen c.is_worn.result c.is_worn.ensures c.if-is_worn.false)
    (c.is_idle.ensures.no c.if-is_idle.false) c.requires.storable

pub returns-in-Some-clause-told : goal.returns-in-Some-clause-told
returns-in-Some-clause-told g c = let hashed = c.args.seen.now.hashed in
    subst (λ (f : Option ℕ). TriedOver g.S.Shape c.args.caller.now.seat c.change_pair.new.seat hashed.key.now f c.args.change
    (g.E.Expiry.is_expired c.args.expiry.now) c.change_pair.result) (sym (ap value_of c.in-Some.is))
    (over g.S.Shape _ _ _ _ _ _ c.change_pair.result c.change_pair.ensures.told)

pub enter_new-requires : goal.enter_new-requires
enter_new-requires g c = wants_change g.S.Shape _ _ c.args.seen.now _ _ _ _ c.in-None.is c.value_found-found.ensures c.requires.found
    (unworn (sizes_of g.S.Shape) _ _ _ c.requires.found.seen.seen c.is_worn.result c.is_worn.ensures c.if-is_worn.false)
    (c.is_idle.ensures.no c.if-is_idle.false) c.requires.storable

pub returns-in-None-clause-told : goal.returns-in-None-clause-told
returns-in-None-clause-told g c = let hashed = c.args.seen.now.hashed in
    subst (λ (f : Option ℕ). TriedOver g.S.Shape c.args.caller.now.seat c.enter_new.new.caller.seat hashed.key.now f c.args.change
    (g.E.Expiry.is_expired c.args.expiry.now) c.enter_new.result) (sym (ap value_of c.in-None.is)) c.enter_new.ensures.told
