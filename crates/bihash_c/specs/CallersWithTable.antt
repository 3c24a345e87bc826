-- What becomes of a caller that has its table with it: s is the caller before a call, t after it.
use Rattle.std.specs.Prelude.{◌≡◌, ◌≤◌, ◌<◌, ℕ, Bool, List, Option, None, Result, Ok}
use Rattle.bihash_words.specs.Sizes.{Sizes, sizes_of}
use Rattle.bihash_words.specs.declared.patch.Reply.{Reply}
use Rattle.bihash_words.specs.declared.shape.Shape.{Ghosts}
use Rattle.bihash_rule.specs.Words.{buckets}
use Rattle.bihash_rule.specs.Callers.{Agrees, IsLawfulCaller}
use Rattle.bihash_steps.specs.Renewals.{IsRenewed}
use Rattle.bihash_steps.specs.Steps.{IsRefused, newcomer, parent}
use Rattle.bihash_steps.specs.declared.split_fault.SplitFault.{SplitFault}
use Rattle.bihash_steps.specs.Seats.{CallerState, with_view}
use Rattle.bihash_rule.specs.declared.view.View.{View}
use Rattle.bihash_table.specs.Ageing.{TellsExpireTry}
use Rattle.bihash_table.specs.Closing.{ArePairsOf, LeavesStrangers, StaysWhole, WasWhole}
use Rattle.bihash_table.specs.declared.contended.Contended as Refused
use Rattle.bihash_c.specs.declared.end_of_table.EndFault.{EndFault}
use Rattle.bihash_c.specs.declared.end_of_table.EndFault.TheVariants.{Strangers, Contended, Memory}

-- One try of a look at bucket b for an expired pair. Where the table has no such bucket none is found, and nothing was
-- done.
pub record LooksAt (z : Sizes) (b : ℕ) (is_expired : ℕ → Bool) (r : Result (Option Reply) Refused.Contended) (s t : CallerState) : Type 0 where
  pub inside : b < buckets z → TellsExpireTry z s t b is_expired r
  pub outside : buckets z ≤ b → (t ≡ s) × (r ≡ Ok None)

-- the caller became t, and the new caller u has a number of its own
pub record IsSplit (z : Sizes) (s t u : CallerState) : Type 0 where
  pub count : ℕ
  pub rises : s.view.seen ≤ count
  pub few : count < z.callers
  pub left : t ≡ with_view s (parent s.view count)
  pub right : (u.row ≡ s.row) × (u.view ≡ newcomer s.view count)
  pub lawful : IsLawfulCaller z t.view × IsLawfulCaller z u.view
  pub agree : Agrees t.view u.view

-- the caller is as the refusal of a split leaves it
pub record IsSplitRefused (z : Sizes) (fault : SplitFault) (s t : CallerState) : Type 0 where
  pub same : t ≡ with_view s t.view
  pub refused : IsRefused z s.view fault t.view
  pub lawful : IsLawfulCaller z s.view → IsLawfulCaller z t.view

-- the table of a caller that had every number was closed, and these were its pairs
pub record IsClosed {A K : Type 0} (g : Ghosts A K) (v : View) (ps : List (K × ℕ)) : Type 0 where
  pub pairs : ArePairsOf g v.known ps
  pub whole : WasWhole (sizes_of g) v

-- Why a table was not closed or renewed, and what its caller knows then: there are more callers than it has numbers, or it
-- has every number, and another hold of the table is left or memory was refused.
abbrev pub IsEndRefused : Sizes → View → EndFault → View → Type 0
IsEndRefused z v Strangers w = LeavesStrangers z v w
IsEndRefused z v Contended w = StaysWhole z v w
IsEndRefused z v Memory w = StaysWhole z v w

pub record IsEndTold (z : Sizes) (s : CallerState) (fault : EndFault) (t : CallerState) : Type 0 where
  pub same : t ≡ with_view s t.view
  pub refused : IsEndRefused z s.view fault t.view
  pub lawful : IsLawfulCaller z t.view

-- the table of a caller that had every number was renewed, and w is what its caller 1 knows
pub record IsRenewedFrom (z : Sizes) (v w : View) : Type 0 where
  pub renewed : IsRenewed z v w
  pub whole : WasWhole z v
  pub lawful : IsLawfulCaller z w
