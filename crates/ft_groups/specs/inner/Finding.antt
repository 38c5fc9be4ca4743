-- What triggers read of events, as it is kept beside them.
use Rattle.std.specs.Prelude.{◌≡◌, ℤ, Bool, true, Option, Some, None, if◌then◌else◌}
use Rattle.std.specs.Option.{option_and_then}
use Rattle.ft_fields.specs.Fields.{is_text}
use Rattle.ft_fields.specs.Traced.{Traced, name_of}
use Rattle.ft_hist.specs.declared.item.KeyItem.{KeyItem}
use Rattle.ft_hist.specs.Hit.{same_name, hit}
use Rattle.ft_store.specs.Stored.{bare, field_number}
use Rattle.ft_groups.specs.declared.keys.KeyFinder.{KeyFinder}

-- the key item is of a field that holds a text
abbrev pub is_text_item : KeyItem → Bool
is_text_item item = is_text item.field

-- the number that tells the key of an event, if the trigger is on its name
abbrev pub counted_by : KeyFinder → Traced → Option ℤ
counted_by finder event = option_and_then (λ field. if same_name finder.trigger.now.event (name_of event.body) then field_number event field else None) finder.field

-- what is kept is true of the trigger: an event without its names comes under the same key, and so do events that are counted by the same number
pub record FindsKeys (finder : KeyFinder) : Type 0 where
  pub bare : finder.bare ≡ true → (event : Traced) → hit finder.trigger.now (bare event) ≡ hit finder.trigger.now event
  pub number : (a b : Traced) (number : ℤ) → counted_by finder a ≡ Some number → counted_by finder b ≡ Some number → hit finder.trigger.now a ≡ hit finder.trigger.now b
