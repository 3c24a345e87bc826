-- The shares of workers that judged nothing, and the workers of packets in chunks.
use Rattle.std.specs.Prelude.{◌≡◌, ◌≤◌, ◌<◌, ◌++◌, ℕ, Bool, List, [], ◌∷◌, length, slice_index_or}
use Rattle.bihash_words.specs.declared.shape.Shape.{Ghosts}
use Rattle.flow_dealing.specs.declared.dealt_chunk.DealtChunk.{DealtChunk}
use Rattle.flow_workers.specs.declared.worker_share.Share.{Share}
use Rattle.flow_workers.specs.declared.session_tables.Callers.{Callers}
use Rattle.flow_workers.specs.declared.session_tables.Tables.{Tables}
use Rattle.flow_workers.specs.Callers.{AreIdle}
use Rattle.flow_workers.specs.inner.AgeingTimes.{first_due}
use Rattle.flow_workers.specs.inner.Fresh.{IsFreshView}

-- callers of these tables that hold nothing and made no call
pub record AreFresh {A B K L : Type 0} {ga : Ghosts A K} {gb : Ghosts B L} (tables : Tables A B K L)
    (callers : Callers A B K L ga gb) : Type 0 where
  pub idle : AreIdle ga gb tables callers
  pub fresh : IsFreshView callers.four.seat.view × IsFreshView callers.six.seat.view

-- they can be split among so many workers
pub record MaySplit {A B K L : Type 0} {ga : Ghosts A K} {gb : Ghosts B L} (tables : Tables A B K L)
    (callers : Callers A B K L ga gb) (workers : ℕ) : Type 0 where
  pub some : 1 ≤ workers
  pub fresh : AreFresh tables callers

-- the share, before its first packet, of a worker that ages or doesn't
pub record IsUnused {A B K L : Type 0} {ga : Ghosts A K} {gb : Ghosts B L} (tables : Tables A B K L) (ages : Bool)
    (share : Share A B K L ga gb) : Type 0 where
  pub callers : AreFresh tables share.callers
  pub silent : share.said.items ≡ []
  pub due : share.clock.due ≡ first_due ages

-- those of so many workers
pub record AreSplit {A B K L : Type 0} {ga : Ghosts A K} {gb : Ghosts B L} (tables : Tables A B K L) (workers : ℕ) (ages : Bool)
    (shares : List (Share A B K L ga gb)) : Type 0 where
  pub count : length shares ≡ workers
  pub each : (i : ℕ) (d : Share A B K L ga gb) → i < workers → IsUnused tables ages (slice_index_or shares i d)

-- the workers that these chunks have, in their order
abbrev pub workers_in : List DealtChunk → List ℕ
workers_in [] = []
workers_in (chunk ∷ chunks) = chunk.workers.items ++ workers_in chunks
