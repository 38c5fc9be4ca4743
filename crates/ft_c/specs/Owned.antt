-- What a handle owns: nothing at null, and else a session in a box.
use Rattle.std.specs.Prelude.{Option, Some, None}
use base.Fml.{Fml, feq}
use base.Stored.{Coded}
use denote.RawPtr.{Ptr, null_ptr}
use Rattle.std.specs.Coded.{coded_option}
use Rattle.std.specs.Box.Ownership.{box_owns}
use Rattle.std.specs.Global.{Global}
use Rattle.std.specs.contracts.impls.GlobalAllocator.TheImpl.{ghosts}
use Rattle.ft_session.specs.contracts.Session.{the_row}

-- a session as contracts see it: it is named only here and in the import of `the_row`
abbrev pub Held : Type 0
Held = the_row.Denot

-- how a handle's value is stored
abbrev pub held_code : Coded (Option Held)
held_code = coded_option the_row.coded

-- the global allocator
abbrev pub heap : Global
heap = record { memory = record { seal = tt } }

-- the memory of a session in a box at this pointer, with the right to free it
abbrev pub boxed : Ptr → Held → Fml
boxed = box_owns (ghosts.dealloc_token heap) the_row

-- what a handle owns by its pointer
abbrev pub handle_owns : Ptr → Option Held → Fml
handle_owns p None = feq Ptr p null_ptr
handle_owns p (Some x) = boxed p x
