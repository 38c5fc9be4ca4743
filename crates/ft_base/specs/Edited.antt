-- What an edit of a base says, or the search for what it takes away.
use Rattle.std.specs.Prelude.{◌≡◌, ◌⊎◌, ℕ, Result, Ok, Err}
use Rattle.std.specs.FinMap as map
use Rattle.ft_lanes.specs.Edits.{lanes_without}
use Rattle.ft_lanes.specs.Held.{held_on}
use Rattle.ft_base.specs.declared.refused.Place.{Place}
use Rattle.ft_base.specs.declared.refused.Refused.{Refused}
use Rattle.ft_base.specs.declared.refused.Refused.TheVariants.{Memory}
use Rattle.ft_base.specs.After.{after_unload, after_strike, after_remove}
use Rattle.ft_base.specs.Base.{Base}

-- An edit of a base did what after says: the new base and the value, or its refusal and nothing changed. Out of memory may stand in place of any answer, and changes nothing either.
abbrev pub BaseGives : {T : Type 0} → Result (Base × T) Refused → Base → Base → Result T Refused → Type 0
BaseGives after old new (Ok value) = after ≡ Ok (new, value)
BaseGives after old new (Err refused) = (new ≡ old) × ((refused ≡ Memory) ⊎ (after ≡ Err refused))

-- The lane of a CPU, which can be taken away, or why it can't be.
abbrev pub FindsToUnload : Base → ℕ → Result ℕ Refused → Type 0
FindsToUnload base cpu (Ok lane) = after_unload base cpu ≡ Ok (record base { lanes = map.remove base.lanes lane }, held_on base.lanes lane)
FindsToUnload base cpu (Err refused) = after_unload base cpu ≡ Err refused

-- The place of a CPU's line, which can be struck, or why it can't be.
abbrev pub FindsToStrike : Base → ℕ → ℕ → Result Place Refused → Type 0
FindsToStrike base cpu line (Ok place) = after_strike base cpu line ≡ Ok (record base { lanes = lanes_without base.lanes place.cpu place.line }, place)
FindsToStrike base cpu line (Err refused) = after_strike base cpu line ≡ Err refused

-- Whether a trigger can be removed, and if not, why.
abbrev pub FindsToRemove : Base → ℕ → Result Unit Refused → Type 0
FindsToRemove base id (Ok done) = after_remove base id ≡ Ok (record base { triggers = map.remove base.triggers id }, id)
FindsToRemove base id (Err refused) = after_remove base id ≡ Err refused
