-- One act that comes or goes.
use Rattle.std.specs.Prelude.{◌≡◌, [], ◌∷◌, Some, None}
use Rattle.std.specs.FinMap as map
use Rattle.ft_hist.specs.Hit.{hit}
use Rattle.ft_pairs.specs.declared.at.At.{At}
use Rattle.ft_pairs.specs.declared.role.Variable.{Variable}
use Rattle.ft_kept.specs.Acts.{Acts, op_of}
use Rattle.ft_kept.specs.Bounds.{OtherSaversStay}
use Rattle.ft_kept.specs.Changes.{HasToldFew}
use Rattle.ft_kept.specs.declared.changes.Changes.{Changes}
use Rattle.ft_kept.specs.Repairs.{IsHeldAt}
use Rattle.ft_kept.specs.Views.{AreViewsOf, set, triggers_of}
use Rattle.ft_kept.specs.Signs.{act_before, act_after}
use Rattle.ft_kept.specs.Entries.{IsRight}
use Rattle.ft_kept.specs.inner.Edits.{StaysBut}
use Rattle.ft_shelves.specs.Shelves.{Shelves, FormsStay, admits_on, kept_on, role_on}
use Rattle.ft_kept.specs.declared.act.Act.{Act}
use Rattle.ft_shelves.specs.declared.sign.HitChange.{HitChange}
use Rattle.ft_shelves.specs.declared.sign.HitChange.TheVariants as changes
use Rattle.ft_shelves.specs.declared.sign.Sign.{Sign}
use Rattle.ft_shelves.specs.declared.sign.Sign.TheVariants.{Insert, Retract}
use Rattle.ft_table.specs.Spots.{traced}
use Rattle.ft_table.specs.Values.{values_at, values_by}

-- the act of an attached trigger can come or go
pub record MayChange (act : Act) (acts : Acts) (shelves : Shelves) : Type 0 where
  pub views : AreViewsOf (triggers_of act.scene) act.scene.lanes.now acts shelves
  pub attached : map.get (triggers_of act.scene) act.at.trigger ≡ Some act.trigger.now
  pub held : IsHeldAt act.scene.lanes.now act.at.pos act.event.now
  pub counts : hit act.trigger.now act.event.now ≡ Some act.key
  pub was : acts act.at ≡ act_before act.sign (act.key, act.event.now)

-- the acts after it has come or gone
abbrev pub acts_after : Act → Acts → Acts
acts_after act acts = set acts act.at (act_after act.sign (act.key, act.event.now))

-- what was recorded says how shelves changed, and few keys were recorded, if one trigger was asked
abbrev pub HasToldAct : Act → Changes → Changes → Shelves → Shelves → Type 0
HasToldAct act = HasToldFew ((act.at.trigger, act.trigger.now) ∷ [])

-- it came or went; shelves keep their forms, and other savers their tables
pub record HasChanged (act : Act) (acts : Acts) (old new : Shelves) : Type 0 where
  pub forms : FormsStay old new
  pub savers : OtherSaversStay act.at.trigger old new
  pub views : AreViewsOf (triggers_of act.scene) act.scene.lanes.now (acts_after act acts) new

-- it came or went at its own place, and the operations are those of the acts afterwards; what readings elsewhere find is not settled yet
pub record IsInPlace (act : Act) (acts : Acts) (old new : Shelves) : Type 0 where
  pub forms : FormsStay old new
  pub ops : (variable : Variable) (q : At) → (kept_on new).ops variable q ≡ op_of (role_on old) (admits_on new) (acts_after act acts) variable q
  pub stays : StaysBut act.at (kept_on old) (kept_on new)
  pub right : IsRight (role_on old) (values_by (triggers_of act.scene)) (acts_after act acts) (kept_on new) act.at

-- the act as a change of its trigger's hits, if it reads nothing
abbrev pub change_by : Sign → Act → HitChange
change_by Insert act = changes.Insert (record { spot = traced act.at.pos; key = act.key; values = values_at act.trigger.now act.at.pos act.event.now None })
change_by Retract act = changes.Retract (record { spot = traced act.at.pos; key = act.key })

abbrev pub change_of : Act → HitChange
change_of act = change_by act.sign act
