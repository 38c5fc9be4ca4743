-- The hits that an entry holds.
use Rattle.std.specs.Prelude.{ℤ, List}
use Rattle.std.specs.FinMap as map
use Rattle.ft_hits.specs.declared.spot.Spot.{Spot}
use Rattle.ft_hits.specs.declared.entry.Held.{Held}
use Rattle.ft_hits.specs.declared.entry.Held.TheVariants.{Nothing, One, Many}
use Rattle.ft_hits.specs.Hits.{EntryHits}

-- one hit: a spot and values
abbrev pub only : Spot × List ℤ → EntryHits
only hit = map.insert map.empty hit.0 hit.1

-- none, one, or those of a series
abbrev pub hits_held : Held → EntryHits
hits_held Nothing = map.empty
hits_held (One hit) = only hit
hits_held (Many hits) = hits
