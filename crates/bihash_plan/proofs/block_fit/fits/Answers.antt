use Rattle.std.proofs.Common.{arith, refl}
use Rattle.bihash_plan.proofs.TallyLemmas.{fits_from_windows}
use Rattle.bihash_plan.proofs.block_fit.fits.Goals as goal

pub returns : goal.returns
returns g c = (λ yes. fits_from_windows _ _ _ _ (omega arith) c.loop-window.invariant, λ fits. refl)
