-- An update as the packet that made it is told of it, and what it tells of callers.
use Rattle.std.specs.Prelude.{◌≡◌, ℕ, Bool, true, List, Option, Result, IfOk, IfErr, is_ok}
use Rattle.bihash_words.specs.Maps.{Event, found_by}
use Rattle.bihash_words.specs.Sizes.{Sizes, bucket_of, sizes_of}
use Rattle.bihash_words.specs.declared.patch.Change.{Change}
use Rattle.bihash_words.specs.declared.patch.Reply.{Reply}
use Rattle.bihash_words.specs.declared.patch.Reply.TheVariants.{NoPages}
use Rattle.bihash_words.specs.declared.shape.Shape.{Ghosts}
use Rattle.bihash_rule.specs.Callers.{IsLawfulCaller}
use Rattle.bihash_steps.specs.Seats.{CallerState, with_view}
use Rattle.bihash_rule.specs.declared.view.View.{View}
use Rattle.bihash_table.specs.Answers.{recycled_update}
use Rattle.bihash_table.specs.OutOfPages.{IsOutOfPages}
use Rattle.bihash_table.specs.Promise.{IsAnswered, IsContended}
use Rattle.bihash_table.specs.Tries.{TookAtMost}
use Rattle.session_state.specs.declared.flow.FlowKey.{FlowKey}
use Rattle.flow_filter.specs.OneThread.{Layout, layout_of}
use Rattle.flow_filter.specs.Updates.{words_of}
use Rattle.flow_dealing.specs.Views.{Views}
use Rattle.flow_dealing.specs.Wanted.{HaveWanted}
use Rattle.flow_workers.specs.declared.session_tables.Callers.{Callers}
use Rattle.flow_workers.specs.declared.session_tables.Tables.{Tables}
use Rattle.flow_workers.specs.Callers.{AreIdle, AreSame, views_of}
use Rattle.flow_workers.specs.Judging.{IsAway, IsFlowEntry}
use Rattle.flow_workers.specs.OutOfPages.{IsFlowOutOfPages}
use Rattle.flow_workers.specs.inner.Wanted.{KeepWanted}

-- An update of a key by this decision, on the value that its reply tells, with this expiry. It removed a key for its
-- own, or none.
abbrev pub told_event : List ℕ → (Option ℕ → Change) → (ℕ → Bool) → Option (List ℕ) → Reply → Event
told_event key decision is_expired removed reply =
    recycled_update key (found_by reply) (decision (found_by reply)) is_expired removed reply

-- from the view v to w an update with this expiry was answered so
abbrev pub IsTold : Sizes → View → View → List ℕ → (Option ℕ → Change) → (ℕ → Bool) → Reply → Type 0
IsTold z v w words decision is_expired reply =
    (removed : Option (List ℕ)) × IsAnswered z v w (told_event words decision is_expired removed reply)

-- An update of the key of these words: s is the caller before it, t after it. Where it was answered it took locks as
-- `took` says, and where it wasn't, one at most. A lone caller is answered.
pub record TellsWords {A K E : Type 0} (took : View → View → Reply → Type 0) (g : Ghosts A K) (s t : CallerState)
    (words : List ℕ) (decision : Option ℕ → Change) (is_expired : ℕ → Bool) (r : Result Reply E) : Type 0 where
  pub same : t ≡ with_view s t.view
  pub answered : IfOk r (IsTold (sizes_of g) s.view t.view words decision is_expired)
  pub no_pages : IfOk r (λ reply. (log2 left : ℕ) → reply ≡ NoPages log2 left
      → IsOutOfPages g t.view (bucket_of (sizes_of g) words) (g.key_of words) log2 left)
  pub wanted : IfOk r (λ _. HaveWanted (sizes_of g) s.view → HaveWanted (sizes_of g) t.view)
  pub locks : IfOk r (took s.view t.view) × IfErr r (λ _. TookAtMost s.view t.view 1)
  pub contended : IfErr r (λ _. IsContended (sizes_of g) s.view t.view (bucket_of (sizes_of g) words))
  pub lone : s.view.lone ≡ true → is_ok r ≡ true
  pub lawful : IsLawfulCaller (sizes_of g) t.view

-- the same of a flow's key in the table of its family, by a call that took locks as `took` says
abbrev pub IsToldFlow : Layout → (View → View → Reply → Type 0) → FlowKey → (Option ℕ → Change) → (ℕ → Bool) → Views
    → Views → Reply → Type 0
IsToldFlow l took key decision is_expired v w reply =
    (removed : Option (List ℕ)) × IsFlowEntry l took key (told_event (words_of key) decision is_expired removed reply) v w

-- an update of a flow's key in the table of its family, by locks as `took` says, which lone callers find answered
pub record TellsFlow {A B K L E : Type 0} {ga : Ghosts A K} {gb : Ghosts B L} (took : View → View → Reply → Type 0)
    (tables : Tables A B K L) (old new : Callers A B K L ga gb) (key : FlowKey) (decision : Option ℕ → Change)
    (is_expired : ℕ → Bool) (r : Result Reply E) : Type 0 where
  pub same : AreSame ga gb old new
  pub idle : AreIdle ga gb tables new
  pub entered : IfOk r (IsToldFlow (layout_of ga gb) took key decision is_expired (views_of ga gb old) (views_of ga gb new))
  pub no_pages : IfOk r (λ reply. (log2 left : ℕ) → reply ≡ NoPages log2 left
      → IsFlowOutOfPages ga gb key (views_of ga gb new) log2 left)
  pub wanted : IfOk r (λ _. KeepWanted (layout_of ga gb) (views_of ga gb old) (views_of ga gb new))
  pub contended : IfErr r (λ _. IsAway (layout_of ga gb) key (views_of ga gb old) (views_of ga gb new))
  pub lone : old.four.seat.view.lone ≡ true → old.six.seat.view.lone ≡ true → is_ok r ≡ true
