-- What holds of each base that edits lead to from the empty one.
use Rattle.std.specs.Prelude.{◌≡◌, ℕ, ◌+◌, ◌<◌, ◌≤◌, true, List, Some}
use Rattle.std.specs.FinMap as map
use Rattle.ft_fields.specs.Traced.{Traced, last_cpu}
use Rattle.ft_hist.specs.declared.label.Var.TheVariants as vars
use Rattle.ft_hist.specs.Hist.{Hist}
use Rattle.ft_hist.specs.Matching.{keys_match}
use Rattle.ft_lanes.specs.Held.{Lane, event_limit, number_limit, held_in}
use Rattle.ft_base.specs.Base.{Triggers, Base, trigger_limit, id_limit}
use Rattle.ft_base.specs.Roles.{saves_name, saver_of, saves_for}

-- no two attached triggers save one name
abbrev pub HasOneSaver : Triggers → Type 0
HasOneSaver triggers =
    (i j : ℕ) (a b : Hist) (name : List ℕ) → map.get triggers i ≡ Some a → map.get triggers j ≡ Some b
    → saves_name name a.variable ≡ true → saves_name name b.variable ≡ true → i ≡ j

-- a name that a trigger reads is saved by an attached trigger, whose keys its keys match, and which is on the event that its onmatch part names (kernel: histogram.rst, inter-event hist triggers)
pub record HasSaver (triggers : Triggers) (reader : Hist) (name : List ℕ) : Type 0 where
  pub id : ℕ
  pub saver : Hist
  pub named : saver_of triggers name ≡ Some id
  pub attached : map.get triggers id ≡ Some saver
  pub matching : keys_match reader.keys saver.keys ≡ true
  pub at : saves_for reader saver ≡ true

-- each reader's saver is attached, their keys match, and the saver is on the event that the reader makes events for (kernel: histogram.rst, inter-event hist triggers)
abbrev pub HasSavers : Triggers → Type 0
HasSavers triggers =
    (id : ℕ) (hist : Hist) (own source : List ℕ) → map.get triggers id ≡ Some hist → hist.variable ≡ Some (vars.Reads own source) → HasSaver triggers hist source

-- lanes are of CPUs and hold their own CPU's events below their next number, ids are below the next id, the limits are kept, and variables are saved once and before they are read
pub record IsReachable (base : Base) : Type 0 where
  pub cpus : (cpu : ℕ) (lane : Lane) → map.get base.lanes cpu ≡ Some lane → cpu ≤ last_cpu
  pub numbers : (cpu : ℕ) (lane : Lane) → map.get base.lanes cpu ≡ Some lane → (1 ≤ lane.next) × (lane.next ≤ number_limit + 1)
  pub lines : (cpu : ℕ) (lane : Lane) → map.get base.lanes cpu ≡ Some lane → (line : ℕ) (event : Traced) → map.get lane.events line ≡ Some event → (1 ≤ line) × (line < lane.next) × (event.cpu ≡ cpu)
  pub ids : (id : ℕ) (hist : Hist) → map.get base.triggers id ≡ Some hist → (1 ≤ id) × (id < base.next_id)
  pub next_id : (1 ≤ base.next_id) × (base.next_id ≤ id_limit + 1)
  pub few_events : held_in base.lanes ≤ event_limit
  pub few_triggers : map.len base.triggers ≤ trigger_limit
  pub one_saver : HasOneSaver base.triggers
  pub savers : HasSavers base.triggers
