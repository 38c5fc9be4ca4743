-- What is kept while a trigger joins, by its acts, and while one leaves.
use Rattle.std.specs.Prelude.{◌≡◌, ◌==◌, ℕ, Bool, true, List, Option, Some, None, if◌then◌else◌, IsPermutation}
use Rattle.std.specs.FinMap as map
use Rattle.ft_fields.specs.Traced.{Traced}
use Rattle.ft_fields.specs.declared.event.Name.{Name}
use Rattle.ft_fields.specs.declared.pos.Pos.{Pos}
use Rattle.ft_hist.specs.Hist.{Hist}
use Rattle.ft_hist.specs.Hit.{same_name}
use Rattle.ft_lanes.specs.Held.{Lanes}
use Rattle.ft_pairs.specs.declared.at.At.{At}
use Rattle.ft_pairs.specs.declared.role.Role.{Role}
use Rattle.ft_pairs.specs.declared.role.Variable.{Variable}
use Rattle.ft_kept.specs.Acts.{Acts, acts_of, op_of}
use Rattle.ft_kept.specs.Input.{input_of}
use Rattle.ft_kept.specs.Shelves.{Shelves, admits_on}
use Rattle.ft_kept.specs.Views.{triggers_of}
use Rattle.ft_shelves.specs.declared.sign.Sign.{Sign}
use Rattle.ft_shelves.specs.declared.sign.Sign.TheVariants.{Insert, Retract}
use Rattle.ft_base.specs.Base.{Base, Triggers}
use Rattle.ft_base.specs.OneTrigger.{is_kin}
use Rattle.ft_base.specs.Roles.{role_at}
use Rattle.ft_replay.specs.Merged.{merged}
use Rattle.ft_replay.specs.Named.{events_on}
use Rattle.ft_repair.specs.declared.triggers.Member.{Member}
use Rattle.ft_repair.specs.KeptFor.{AreKeptFor}

-- only one trigger
abbrev pub is_one : ℕ → ℕ → Bool
is_one id other = other == id

-- a trigger is the one with the first id or reads what that one saves, or no id is given
abbrev pub is_meant : Option ℕ → ℕ → Role → Bool
is_meant None other role = true
is_meant (Some id) other role = is_kin id other role

-- the family of a trigger, or all triggers
abbrev pub family_of : Triggers → Option ℕ → ℕ → Bool
family_of triggers head other = is_meant head other (role_at triggers other)

-- ---- a trigger gets its acts

-- an attached trigger has no act yet in the input that the shelves are kept for
pub record CanJoin (member : Member) (shelves : Shelves) : Type 0 where
  pub attached : map.get (triggers_of member.scene) member.id ≡ Some member.trigger.now
  pub kept : AreKeptFor (triggers_of member.scene) member.scene.lanes.now (input_of (triggers_of member.scene) member.scene.lanes.now shelves) shelves
  pub idle : (pos : Pos) → input_of (triggers_of member.scene) member.scene.lanes.now shelves (record { pos = pos; trigger = member.id }) ≡ None

-- an input with these acts of one trigger
abbrev pub with_acts : ℕ → Acts → Acts → Acts
with_acts id own input at = if is_one id at.trigger then own at else input at

-- an input with all acts of one trigger
abbrev pub with_trigger : Triggers → Lanes → ℕ → Acts → Acts
with_trigger triggers lanes id = with_acts id (acts_of triggers (merged lanes))

-- with all its acts the trigger has joined
abbrev pub HasItsActs : Member → Shelves → Shelves → Type 0
HasItsActs member old new =
    AreKeptFor (triggers_of member.scene) member.scene.lanes.now
    (with_trigger (triggers_of member.scene) member.scene.lanes.now member.id (input_of (triggers_of member.scene) member.scene.lanes.now old)) new

-- ---- its acts are told by a list of events

-- a list has the held events of some names in merged order, and a trigger's name is one of these
pub record HasItsEvents (lanes : Lanes) (hist : Hist) (events : List (Pos × Traced)) : Type 0 where
  pub names : Name → Bool
  pub own : (name : Name) → same_name hist.event name ≡ true → names name ≡ true
  pub all : events ≡ map.entries (events_on names (merged lanes))

-- a trigger can join, and a list has its events
pub record CanJoinWith (member : Member) (events : List (Pos × Traced)) (shelves : Shelves) : Type 0 where
  pub listed : HasItsEvents member.scene.lanes.now member.trigger.now events
  pub can : CanJoin member shelves

-- ---- its acts come or go one by one

-- the acts of a trigger that are there before they come or go
abbrev pub own_before : Sign → Triggers → Lanes → Acts
own_before Insert triggers lanes at = None
own_before Retract triggers lanes at = acts_of triggers (merged lanes) at

-- and those that are there afterwards
abbrev pub own_after : Sign → Triggers → Lanes → Acts
own_after Insert triggers lanes at = acts_of triggers (merged lanes) at
own_after Retract triggers lanes at = None

-- an attached trigger's acts can come to shelves or go from them: a list has the held events of some names in any order, and the trigger's name is one of these
pub record CanMove (member : Member) (sign : Sign) (events : List (Pos × Traced)) (shelves : Shelves) : Type 0 where
  pub attached : map.get (triggers_of member.scene) member.id ≡ Some member.trigger.now
  pub kept : AreKeptFor (triggers_of member.scene) member.scene.lanes.now (input_of (triggers_of member.scene) member.scene.lanes.now shelves) shelves
  pub before : (at : At) → at.trigger ≡ member.id → input_of (triggers_of member.scene) member.scene.lanes.now shelves at ≡ own_before sign (triggers_of member.scene) member.scene.lanes.now at
  pub names : Name → Bool
  pub own : (name : Name) → same_name member.trigger.now.event name ≡ true → names name ≡ true
  pub all : IsPermutation (map.entries (events_on names (merged member.scene.lanes.now))) events

-- they have come or gone
abbrev pub HaveMoved : Member → Sign → Shelves → Shelves → Type 0
HaveMoved member sign old new =
    AreKeptFor (triggers_of member.scene) member.scene.lanes.now
    (with_acts member.id (own_after sign (triggers_of member.scene) member.scene.lanes.now) (input_of (triggers_of member.scene) member.scene.lanes.now old)) new

-- ---- a trigger leaves

-- the shelf of a trigger can go: the shelves are views of acts; those of all other triggers are the ones at all held events, and those of this trigger do nothing to a variable of another
pub record CanLeave (id : ℕ) (base : Base) (shelves : Shelves) : Type 0 where
  pub acts : Acts
  pub kept : AreKeptFor base.triggers base.lanes acts shelves
  pub others : (at : At) → (at.trigger ≡ id → ⊥) → acts at ≡ acts_of base.triggers (merged base.lanes) at
  pub within : (variable : Variable) (at : At) → (variable.saver ≡ id → ⊥) → at.trigger ≡ id → op_of (role_at base.triggers) (admits_on shelves) acts variable at ≡ None
