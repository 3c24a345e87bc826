use Rattle.std.proofs.Common.{◌∙◌, sym, true≢false}
use Rattle.bihash_words.specs.Sizes.{sizes_of}
use Rattle.bihash_steps.specs.BucketSteps.{map_now}
use Rattle.bihash_steps.specs.BucketCalls.{event}
use Rattle.bihash_table.proofs.SeenBuckets.{seen_answer}
use Rattle.bihash_table.proofs.Tries.{tried_invalid, tried_valid}
use Rattle.bihash_table.proofs.try_update.answer_try.Goals as goal

pub validate-requires-clause-at : goal.validate-requires-clause-at
validate-requires-clause-at g c = record { own = c.requires.own; inside = c.requires.seen.seen.inside }

pub validate-requires-clause-may : goal.validate-requires-clause-may
validate-requires-clause-may g c =
    let hashed = c.args.seen.now.hashed in
    let h = c.requires.seen in
    seen_answer (sizes_of g.S.Shape) c.args.seat.now.view hashed.bucket c.args.seen.now.word h
    (event (g.S.Shape.words_of hashed.key.now) c.args.found c.args.change c.args.reply)
    (record { long = hashed.counted; home = sym hashed.home }) c.requires.reads c.requires.paged
    (λ told. told (map_now c.args.seat.now.view hashed.bucket) h.seen.pairs)

pub returns-then-not-validate-clause-told : goal.returns-then-not-validate-clause-told
returns-then-not-validate-clause-told g c = tried_invalid g.S.Shape _ _ _ _ _ _ (sym c.args.seen.now.hashed.home) _ c.requires.seen c.validate.ensures.lawful _
    (c.validate.ensures.not c.if-not-validate.true)
    (λ lone. true≢false (sym (c.validate.ensures.lone lone) ∙ c.if-not-validate.true))

pub returns-clause-told : goal.returns-clause-told
returns-clause-told g c = tried_valid g.S.Shape _ _ _ _ _ _ (sym c.args.seen.now.hashed.home) _ c.requires.seen c.validate.ensures.lawful
    c.args.reply c.requires.reads c.validate.ensures.same (c.validate.ensures.valid c.if-not-validate.false) c.requires.paged c.requires.roomy
