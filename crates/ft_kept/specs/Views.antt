-- What is kept, as views of the acts.
use Rattle.std.specs.Prelude.{◌≡◌, ℕ, Bool, true, List, Option, if◌then◌else◌}
use Rattle.std.specs.Ordering.{eq_by_cmp}
use Rattle.ft_fields.specs.Places.{pos_cmp}
use Rattle.ft_fields.specs.Traced.{Traced}
use Rattle.ft_fields.specs.declared.pos.Pos.{Pos}
use Rattle.ft_hist.specs.Triggers.{Triggers}
use Rattle.ft_fields.specs.declared.key.Part.{Part}
use Rattle.ft_lanes.specs.Held.{Lanes}
use Rattle.ft_pairs.specs.Edits.{same_at}
use Rattle.ft_pairs.specs.declared.at.At.{At}
use Rattle.ft_table.specs.Values.{values_by}
use Rattle.ft_shelves.specs.Shelves.{Shelves, role_on, admits_on, kept_on}
pub use Rattle.ft_kept.specs.Acts.{act_by_id, act_under}
use Rattle.ft_kept.specs.Acts.{Acts, AreHeld}
use Rattle.ft_kept.specs.Entries.{IsKept}
use Rattle.ft_kept.specs.Repairs.{AreShelved}
use Rattle.ft_kept.specs.declared.act.Scene.{Scene}

-- the triggers of a scene
abbrev pub triggers_of : Scene → Triggers
triggers_of scene = scene.triggers.now

-- the acts, except that at one place there is this one or none
abbrev pub set : Acts → At → Option (List Part × Traced) → Acts
set acts at act q = if same_at q at then act else acts q

-- the acts, except that at an event's place the triggers of which this holds have those at another event, or none
abbrev pub with_some : Triggers → Acts → Pos → Option Traced → (ℕ → Bool) → Acts
with_some triggers acts pos event done q = if eq_by_cmp pos_cmp q.pos pos then (if done q.trigger then act_by_id triggers q.trigger event else acts q) else acts q

-- the acts, except that at an event's place all triggers have those at another event, or none
abbrev pub with_event : Triggers → Acts → Pos → Option Traced → Acts
with_event triggers acts pos event = with_some triggers acts pos event (λ id. true)

-- at an event's place the input has what triggers count at this event, or nothing if there is none
abbrev pub HasAt : Triggers → Acts → Pos → Option Traced → Type 0
HasAt triggers acts pos event = (id : ℕ) → acts (record { pos = pos; trigger = id }) ≡ act_by_id triggers id event

-- each attached trigger has its shelf, all acts are those of held events, and what the shelves keep is what these acts say
pub record AreViewsOf (triggers : Triggers) (lanes : Lanes) (acts : Acts) (shelves : Shelves) : Type 0 where
  pub shelved : AreShelved triggers shelves
  pub held : AreHeld triggers lanes acts
  pub kept : IsKept (role_on shelves) (values_by triggers) (admits_on shelves) acts (kept_on shelves)
