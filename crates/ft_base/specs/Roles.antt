-- What triggers do with variables (kernel: histogram.rst, inter-event hist triggers).
use Rattle.std.specs.Prelude.{ℕ, Bool, true, false, List, Option, Some, None, option_map, unwrap_or}
use Rattle.std.specs.List.{find}
use Rattle.std.specs.Option.{option_map_or}
use Rattle.std.specs.Str.{bytes_eq}
use Rattle.std.specs.FinMap as map
use Rattle.ft_hist.specs.Hist.{Hist}
use Rattle.ft_hist.specs.Hit.{same_name}
use Rattle.ft_hist.specs.declared.label.Var.{Var}
use Rattle.ft_hist.specs.declared.label.Var.TheVariants as vars
pub use Rattle.ft_hist.specs.Sound.{is_reader}
use Rattle.ft_pairs.specs.declared.role.Role.{Role}
use Rattle.ft_pairs.specs.declared.role.Role.TheVariants.{Plain, Saves, Reads}
use Rattle.ft_base.specs.Base.{Triggers}

-- the variable is saved, and under this name (kernel: histogram.rst, inter-event hist triggers)
abbrev pub saves_name : List ℕ → Option Var → Bool
saves_name name (Some (vars.Saves label)) = bytes_eq label name
saves_name name variable = false

-- the attached trigger that saves a name, the first by id (kernel: histogram.rst, inter-event hist triggers; no two triggers of a desk save one name)
unfoldable pub saver_of : Triggers → List ℕ → Option ℕ
saver_of triggers name = option_map (λ attached. attached.0) (find (λ attached. saves_name name attached.1.variable) (map.entries triggers))

-- the variable reads another, saved under this name (kernel: histogram.rst, inter-event hist triggers)
abbrev pub reads_name : List ℕ → Option Var → Bool
reads_name name (Some (vars.Reads own source)) = bytes_eq source name
reads_name name variable = false

-- an attached trigger that reads a name, the first by id (kernel: histogram.rst, inter-event hist triggers)
unfoldable pub reader_of : Triggers → List ℕ → Option ℕ
reader_of triggers name = option_map (λ attached. attached.0) (find (λ attached. reads_name name attached.1.variable) (map.entries triggers))

-- what a trigger does with its variable; if nobody saves what it reads, it reads that of 0, which is no trigger's id
abbrev pub role_of : Triggers → Option Var → Role
role_of triggers None = Plain
role_of triggers (Some (vars.Saves label)) = Saves
role_of triggers (Some (vars.Reads own source)) = Reads (unwrap_or (saver_of triggers source) 0)

-- what the trigger with an id does with its variable
unfoldable pub role_at : Triggers → ℕ → Role
role_at triggers id = option_map_or (λ hist. role_of triggers hist.variable) (map.get triggers id) Plain

-- a saver is on the event that a reader's onmatch part names, if it has one (kernel: histogram.rst, the `onmatch` handler)
abbrev pub saves_for : Hist → Hist → Bool
saves_for reader saver = option_map_or (λ onmatch. same_name onmatch.event saver.event) reader.onmatch true
