-- The acts that shelves are views of, told by the shelves and the held events.
use Rattle.std.specs.Prelude.{◌≡◌, Bool, List, Some, None, option_and_then, is_some, if◌then◌else◌}
use Rattle.std.specs.FinMap as map
use Rattle.ft_fields.specs.declared.key.Part.{Part}
use Rattle.ft_hist.specs.Triggers.{Triggers}
use Rattle.ft_lanes.specs.Held.{Lanes, event_at}
use Rattle.ft_pairs.specs.declared.at.At.{At}
use Rattle.ft_pairs.specs.declared.role.Role.{Role}
use Rattle.ft_pairs.specs.declared.role.Role.TheVariants.{Plain, Saves, Reads}
use Rattle.ft_shelves.specs.Shelves.{Shelves, kept_on, role_on}
use Rattle.ft_kept.specs.Acts.{Acts, act_by_id}
use Rattle.ft_kept.specs.Entries.{hits_here}
use Rattle.ft_kept.specs.Repairs.{IsHeldAt}
use Rattle.ft_kept.specs.Signs.{event_before}
use Rattle.ft_kept.specs.Views.{AreViewsOf, HasAt, act_under, triggers_of}
use Rattle.ft_kept.specs.declared.act.Attached.{Attached}
use Rattle.ft_kept.specs.declared.act.Delta.{Delta}
use Rattle.ft_kept.specs.declared.act.Scene.{Scene}

-- the act of a key at a place is kept: its hit is, or its read, if its trigger reads
abbrev pub is_kept : Shelves → At → Role → List Part → Bool
is_kept shelves at Plain key = is_some (hits_here (kept_on shelves) at key)
is_kept shelves at Saves key = is_some (hits_here (kept_on shelves) at key)
is_kept shelves at (Reads saver) key = is_some ((kept_on shelves).ops (record { saver = saver; key = key }) at)

-- the acts: those of triggers at held events that are kept
unfoldable pub input_of : Triggers → Lanes → Shelves → Acts
input_of triggers lanes shelves at =
    option_and_then (λ act. if is_kept shelves at (role_on shelves at.trigger) act.0 then Some act else None)
    (act_by_id triggers at.trigger (event_at lanes at.pos.cpu at.pos.line))

-- what shelves keep is what the acts that they tell say
abbrev pub AreViews : Triggers → Lanes → Shelves → Type 0
AreViews triggers lanes shelves = AreViewsOf triggers lanes (input_of triggers lanes shelves) shelves

-- ---- one event more or less

-- the input that shelves tell in a scene
abbrev pub input_in : Scene → Shelves → Acts
input_in scene = input_of (triggers_of scene) scene.lanes.now

-- an event can come or go: it is held, shelves are views, and at its place the input has what triggers count before
pub record MayApply (scene : Scene) (delta : Delta) (shelves : Shelves) : Type 0 where
  pub views : AreViews (triggers_of scene) scene.lanes.now shelves
  pub held : IsHeldAt scene.lanes.now delta.pos delta.event.now
  pub before : HasAt (triggers_of scene) (input_in scene shelves) delta.pos (event_before delta.sign delta.event.now)

-- it can come or go at one attached trigger
pub record MayApplyTo (scene : Scene) (attached : Attached) (delta : Delta) (shelves : Shelves) : Type 0 where
  pub views : AreViews (triggers_of scene) scene.lanes.now shelves
  pub its : map.get (triggers_of scene) attached.id ≡ Some attached.trigger.now
  pub held : IsHeldAt scene.lanes.now delta.pos delta.event.now
  pub before : input_in scene shelves (record { pos = delta.pos; trigger = attached.id }) ≡ option_and_then (act_under attached.trigger.now) (event_before delta.sign delta.event.now)
