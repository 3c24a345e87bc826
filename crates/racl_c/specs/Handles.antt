-- What a handle owns: the same as a box of its place, or nothing.
use Rattle.std.specs.Prelude.{Option, None, Some}
use base.Fml.{Fml, ftrue}
use denote.RawPtr.{Ptr}
use Rattle.std.specs.Box.Ownership.{box_owns}
use Rattle.std.specs.Global.{Global}
use Rattle.std_heap.specs.contracts.GlobalAllocator.TheImpl.{ghosts}
use Rattle.racl_c.specs.declared.content_calls.Content.{Content}
use Rattle.racl_c.specs.declared.content_calls.Content.TheVariants.{Empty}
use Rattle.racl_c.specs.declared.handle.Place.{Place}
use Rattle.racl_c.specs.contracts.handle.Place.{the_row}

abbrev pub handle_owns : Global → Ptr → Option the_row.Denot → Fml
handle_owns alloc p None = ftrue
handle_owns alloc p (Some x) = box_owns (ghosts.dealloc_token alloc) the_row p x

-- there is a place behind the handle
abbrev pub HasPlace : Option Place → Type 0
HasPlace None = ⊥
HasPlace (Some x) = Unit {0}

-- what is behind the handle
abbrev pub content_in : Option Place → Content
content_in None = Empty
content_in (Some x) = x.content
