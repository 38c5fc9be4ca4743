-- Two replays that are alike at a place, whatever differs elsewhere.
use Rattle.std.specs.Prelude.{◌≡◌, Some}
use Rattle.std.specs.FinMap as map
use Rattle.ft_pairs.specs.declared.at.At.{At}
use Rattle.ft_pairs.specs.declared.at.Op.TheVariants.{Read}
use Rattle.ft_pairs.specs.declared.role.Variable.{Variable}
use Rattle.ft_base.specs.Base.{Triggers}
use Rattle.ft_replay.specs.Merged.{Events}
use Rattle.ft_replay.specs.Hits.{found_at}
use Rattle.ft_replay.specs.Operations.{is_admitted, ops_on}
use Rattle.ft_replay.specs.Replay.{replay}
use Rattle.ft_base.specs.Roles.{role_at}

-- the place has one event in both replays, and one trigger, which does the same with its variable
pub record IsSameAct (triggers others : Triggers) (events more : Events) (at : At) : Type 0 where
  pub event : map.get more at.pos ≡ map.get events at.pos
  pub trigger : map.get others at.trigger ≡ map.get triggers at.trigger
  pub role : role_at others at.trigger ≡ role_at triggers at.trigger

-- a reading at the place, if there is one, finds the same in both replays
abbrev pub FindsTheSame : Triggers → Triggers → Events → Events → At → Type 0
FindsTheSame triggers others events more at =
    (variable : Variable) → ops_on triggers events variable at ≡ Some Read → found_at others more variable at ≡ found_at triggers events variable at

-- the variable's saver has the variable's key in its table in both replays, or in neither
abbrev pub AdmitsTheSame : Triggers → Triggers → Events → Events → Variable → Type 0
AdmitsTheSame triggers others events more variable =
    is_admitted (replay others more) variable.saver variable.key ≡ is_admitted (replay triggers events) variable.saver variable.key

-- the place has one operation on a variable in both replays, or none in either
abbrev pub OperatesTheSame : Triggers → Triggers → Events → Events → Variable → At → Type 0
OperatesTheSame triggers others events more variable at = ops_on others more variable at ≡ ops_on triggers events variable at
