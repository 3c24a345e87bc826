use Rattle.std.proofs.Common.{[], inl, refl}
use Rattle.std.proofs.lemmas.List.Elements.{All-nil}
use Rattle.bihash_words.specs.Sizes.{sizes_of}
use Rattle.flow_workers.specs.inner.Ageing.{IsOwn}
use Rattle.flow_workers.proofs.AgeingSteps.{aged_on, idle_aged}
use Rattle.flow_workers.proofs.worker_ageing.age_table.Goals as goal

pub loop-init : goal.loop-init
loop-init g c = (
  record {
    same = refl;
    free = c.requires.idle.free;
    lawful = c.requires.lawful;
    looks = [];
    own = All-nil (λ look. IsOwn c.args.own.workers c.args.own.worker look.bucket);
    ages = refl;
  },
  inl (refl, refl),
)

pub sweep-requires-clause-idle : goal.sweep-requires-clause-idle
sweep-requires-clause-idle g c = idle_aged _ _ _ _ _ _ c.requires.idle c.loop.invariant.0

pub loop-preserved : goal.loop-preserved
loop-preserved g c =
    aged_on (sizes_of g.S.Shape) _ _ _ _ _ _ _ _ _ _ c.loop.invariant.0 c.sweep.ensures c.in-Some.ensures.own c.saturating_add-at.ensures
