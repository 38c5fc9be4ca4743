-- Operations by key and place, and what edits of one key make of them.
use Rattle.std.specs.Prelude.{◌≡◌, ◌⊎◌, ℕ, Bool, true, List, length, Option, Some, None, option_and_then, unwrap_or, if◌then◌else◌}
use Rattle.std.specs.List.{filter}
use Rattle.std.specs.Ordering.{is_lt}
use Rattle.std.specs.FinMap as map
use Rattle.std.specs.FinMap.{FinMap}
use Rattle.ft_fields.specs.declared.key.Part.{Part}
use Rattle.ft_fields.specs.Parts.{key_cmp, same_key}
use Rattle.ft_pairs.specs.declared.at.At.{At}
use Rattle.ft_pairs.specs.declared.at.Op.{Op}
use Rattle.ft_pairs.specs.Order.{at_cmp}
use Rattle.ft_pairs.specs.Source.{Ops}

-- the operations on one key's variable, by place
abbrev pub KeyOps : Type 0
KeyOps = FinMap at_cmp Op

-- the operations of each key; a key without operations may stand there or not
abbrev pub OpsByKey : Type 0
OpsByKey = FinMap key_cmp KeyOps

-- the operations of a key
abbrev pub ops_of : OpsByKey → List Part → Ops
ops_of pairs key at = option_and_then (λ ops. map.get ops at) (map.get pairs key)

-- one key's operations become what an edit makes of them, and those of other keys stay
abbrev pub ChangesKey : List Part → (Ops → Ops) → OpsByKey → OpsByKey → Type 0
ChangesKey key edit old new = (k : List Part) (at : At) → ops_of new k at ≡ (if same_key k key then edit (ops_of old k) at else ops_of old k at)

-- each place of one key has what it had or what an edit makes of it, and each place of other keys has what it had
abbrev pub PartlyChangesKey : List Part → (Ops → Ops) → OpsByKey → OpsByKey → Type 0
PartlyChangesKey key edit old new = (k : List Part) (at : At) → (ops_of new k at ≡ ops_of old k at) ⊎ ((k ≡ key) × (ops_of new k at ≡ edit (ops_of old k) at))

-- whether a place is after another, if another is given
abbrev pub is_behind : Option At → At → Bool
is_behind None q = true
is_behind (Some after) q = is_lt (at_cmp after q)

-- how many operations of a key stand after a place; how many in all, if no place is given
abbrev pub ops_left : OpsByKey → List Part → Option At → ℕ
ops_left pairs key after = length (filter (λ e. is_behind after e.0) (map.entries (unwrap_or (map.get pairs key) map.empty)))
