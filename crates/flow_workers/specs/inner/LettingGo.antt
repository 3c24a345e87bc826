-- A worker that keeps no verdict.
use Rattle.std.specs.Prelude.{◌≡◌, List, []}
use Rattle.bihash_words.specs.Sizes.{sizes_of}
use Rattle.bihash_words.specs.declared.shape.Shape.{Ghosts}
use Rattle.session_state.specs.declared.verdict.Verdict.{Verdict}
use Rattle.flow_workers.specs.declared.worker_share.Share.{Share}
use Rattle.flow_workers.specs.declared.session_tables.Tables.{Tables}
use Rattle.flow_workers.specs.Callers.{AreIdle}
use Rattle.flow_workers.specs.inner.CallerSplits.{IsMadeWhole}

-- the callers made each write that they know, and what was said is in no share
pub record HasLetGo {A B K L : Type 0} (ga : Ghosts A K) (gb : Ghosts B L) (tables : Tables A B K L)
    (old new : Share A B K L ga gb) (verdicts : List Verdict) : Type 0 where
  pub idle : AreIdle ga gb tables new.callers
  pub four : IsMadeWhole (sizes_of ga) old.callers.four.seat new.callers.four.seat
  pub six : IsMadeWhole (sizes_of gb) old.callers.six.seat new.callers.six.seat
  pub silent : new.said.items ≡ []
  pub said : verdicts ≡ old.said.items
