-- What a handle owns: nothing, or the session in its box.
use Rattle.std.specs.Prelude.{Option, Some, None}
use base.Fml.{Fml, ftrue}
use base.Stored.{Coded}
use denote.RawPtr.{Ptr}
use Rattle.std.specs.Box.Ownership.{box_owns}
use Rattle.std.specs.Global.{Global}
use Rattle.std_heap.specs.contracts.GlobalAllocator.TheImpl.{ghosts}
use Rattle.lc_c.specs.contracts.mux.session.CMux.{the_row}
use Rattle.std.specs.contracts.option.Option as option

-- what a handle owns: nothing, or the session in its box
abbrev pub handle_owns : Global → Ptr → Option the_row.Denot → Fml
handle_owns alloc p None = ftrue
handle_owns alloc p (Some v) = box_owns (ghosts.dealloc_token alloc) the_row p v

-- how what is held behind a handle, nothing or a session, is coded as a ghost value
abbrev pub held_coded : Coded (Option the_row.Denot)
held_coded = (option.the_row the_row).coded
