-- The event at a place of a store.
use Rattle.std.specs.Prelude.{ℕ, ℤ, List, [], Option, Some, None, pos, slice_index_or}
use Rattle.std.specs.Option.{option_and_then}
use Rattle.ft_fields.specs.declared.event.Body.{Body}
use Rattle.ft_fields.specs.declared.event.Body.TheVariants as bodies
use Rattle.ft_fields.specs.declared.event.Turn.{Turn}
use Rattle.ft_fields.specs.declared.event.Wake.{Wake}
use Rattle.ft_fields.specs.declared.field.Field.{Field}
use Rattle.ft_fields.specs.declared.field.Value.{Value}
use Rattle.ft_fields.specs.declared.field.Value.TheVariants as values
use Rattle.ft_fields.specs.Fields.{field_of}
use Rattle.ft_fields.specs.Traced.{Traced}
use Rattle.ft_store.specs.declared.stored.Stored.{Stored}

-- what stands after a store's end
abbrev pub blank : Traced
blank = record { task = []; pid = pos 0; cpu = 0; stamp = 0; body = bodies.Other }

-- the event at a place of a store
abbrev pub stored_at : List Traced → ℕ → Traced
stored_at store place = slice_index_or store place blank

-- the event that a reference into a store points to
abbrev pub held : Stored → Traced
held stored = stored_at stored.store.now stored.place

-- a wake event without its name
abbrev pub bare_wake : Wake → Wake
bare_wake wake = record wake { comm = [] }

-- a switch without its names
abbrev pub bare_turn : Turn → Turn
bare_turn turn = record turn { prev_comm = []; prev_state = []; next_comm = [] }

-- what was traced, without its names
abbrev pub bare_body : Body → Body
bare_body (bodies.Waking wake) = bodies.Waking (bare_wake wake)
bare_body (bodies.Wakeup wake) = bodies.Wakeup (bare_wake wake)
bare_body (bodies.WakeupNew wake) = bodies.WakeupNew (bare_wake wake)
bare_body (bodies.Switch turn) = bodies.Switch (bare_turn turn)
bare_body (bodies.WakeupLatency matched) = bodies.WakeupLatency matched
bare_body bodies.Other = bodies.Other

-- an event without its names
abbrev pub bare : Traced → Traced
bare event = record event { task = []; body = bare_body event.body }

-- the number that a value is, if it is not a text
abbrev pub as_number : Value → Option ℤ
as_number (values.Num number) = Some number
as_number (values.Text text) = None

-- the number that a field of an event holds, if the event has the field and it holds no text
abbrev pub field_number : Traced → Field → Option ℤ
field_number event field = option_and_then as_number (field_of event field)
