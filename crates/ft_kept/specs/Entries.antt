-- What is kept of the acts, told place by place from the acts and the operations.
use Rattle.std.specs.Prelude.{◌≡◌, ℕ, ℤ, List, Option, Some, None, option_map, if◌then◌else◌}
use Rattle.ft_fields.specs.Traced.{Traced}
use Rattle.ft_fields.specs.declared.pos.Pos.{Pos}
use Rattle.ft_fields.specs.declared.key.Part.{Part}
use Rattle.ft_fields.specs.Parts.{same_key}
use Rattle.ft_pairs.specs.Source.{Ops, IsSource}
use Rattle.ft_pairs.specs.declared.at.At.{At}
use Rattle.ft_table.specs.Spots.{traced}
use Rattle.ft_pairs.specs.Roles.{Admits}
use Rattle.ft_table.specs.Values.{ValuesBy}
use Rattle.ft_pairs.specs.declared.role.Role.{Role}
use Rattle.ft_pairs.specs.declared.role.Role.TheVariants.{Plain, Saves, Reads}
use Rattle.ft_pairs.specs.declared.role.Variable.{Variable}
use Rattle.ft_shelves.specs.Shelves.{Kept}
use Rattle.ft_kept.specs.Acts.{Acts, op_of}

-- the hits of a trigger at one place, by key
abbrev pub HitsHere : Type 0
HitsHere = List Part → Option (List ℤ)

-- the hits of the trigger at a place, by key
abbrev pub hits_here : Kept → At → HitsHere
hits_here kept at key = kept.hits at.trigger (record { spot = traced at.pos; key = key })

-- what the trigger's reading at a place found
abbrev pub read_here : Kept → At → Option Pos
read_here kept at = kept.read at.trigger at.pos

-- what a reading at a place finds: the place of the saving (kernel: histogram.rst, inter-event hist triggers)
abbrev pub Finds : Ops → At → Option Pos → Type 0
Finds ops at read = (found : Option At) × (IsSource ops at found × (read ≡ option_map (λ saved. saved.pos) found))

-- one hit of a key, or none
abbrev pub one_hit : List Part → Option (List ℤ) → HitsHere
one_hit own values key = if same_key key own then values else None

-- what a reading at a place found, by its act and the operations; nothing if no trigger reads there (kernel: histogram.rst, inter-event hist triggers)
abbrev pub IsReading : (Variable → Ops) → At → Role → Option (List Part × Traced) → Option Pos → Type 0
IsReading ops at role None read = read ≡ None
IsReading ops at Plain (Some act) read = read ≡ None
IsReading ops at Saves (Some act) read = read ≡ None
IsReading ops at (Reads saver) (Some act) read = Finds (ops (record { saver = saver; key = act.0 })) at read

-- the hits at a place are that of its act; a reader's act is a hit if and only if it found something (kernel: histogram.rst, inter-event hist triggers)
abbrev pub IsCounted : ValuesBy → At → Role → Option (List Part × Traced) → HitsHere → Option Pos → Type 0
IsCounted values at role None hits read = (key : List Part) → hits key ≡ None
IsCounted values at Plain (Some act) hits read = (key : List Part) → hits key ≡ one_hit act.0 (Some (values at.trigger at.pos act.1 None)) key
IsCounted values at Saves (Some act) hits read = (key : List Part) → hits key ≡ one_hit act.0 (Some (values at.trigger at.pos act.1 None)) key
IsCounted values at (Reads saver) (Some act) hits read = (key : List Part) → hits key ≡ one_hit act.0 (option_map (λ saved. values at.trigger at.pos act.1 (Some saved)) read) key

-- what is kept of an act: what its reading found, and its hit
abbrev pub IsEntry : ValuesBy → (Variable → Ops) → At → Role → Option (List Part × Traced) → HitsHere → Option Pos → Type 0
IsEntry values ops at role act hits read = IsReading ops at role act read × IsCounted values at role act hits read

module _ (role : ℕ → Role) (values : ValuesBy) where
  -- the place has what its act and the operations say
  abbrev pub IsRight : Acts → Kept → At → Type 0
  IsRight acts kept at = IsEntry values kept.ops at (role at.trigger) (acts at) (hits_here kept at) (read_here kept at)

  -- the operations are those of the acts, and each place has what its act and they say
  pub record IsKept (admits : Admits) (acts : Acts) (kept : Kept) : Type 0 where
    pub ops : (variable : Variable) (at : At) → kept.ops variable at ≡ op_of role admits acts variable at
    pub entries : (at : At) → IsRight acts kept at
