-- What contracts see of a draft.
use Rattle.std.specs.Prelude.{◌<◌, ◌≤◌, length, option_map}
use Rattle.std.specs.Option.{ForSome}
use Rattle.ft_head.specs.declared.draft.Draft.TheInside.{Inside}
use Rattle.ft_head.specs.Draft.{Draft, besides_hitcount}

-- what has been read so far, wherever it is in memory
abbrev pub draft_of : Inside → Draft
draft_of d = record { keys = option_map (λ keys. keys.items) d.keys; values = option_map (λ words. words.items) d.values; sort = option_map (λ words. words.items) d.sort; size = d.size; variable = d.variable; onmatch = d.onmatch }

-- what has been read so far is within the limits of a trigger
pub record IsFit (d : Inside) : Type 0 where
  pub keys : ForSome d.keys (λ keys. (0 < length keys.items) × (length keys.items ≤ 3))
  pub values : ForSome d.values (λ words. length (besides_hitcount words.items) ≤ 3)
  pub sort : ForSome d.sort (λ words. (0 < length words.items) × (length words.items ≤ 2))
  pub size : ForSome d.size (λ size. (128 ≤ size) × (size ≤ 131072))
