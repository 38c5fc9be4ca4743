-- Hits by key, then by spot: how a table keeps them.
use Rattle.std.specs.Prelude.{List, map as list_map}
use Rattle.std.specs.List.{flat_map}
use Rattle.std.specs.BTreeMap.{BTreeMap}
use Rattle.std.specs.FinMap as map
use Rattle.std.specs.FinMap.{FinMap}
use Rattle.ft_fields.specs.declared.key.Part.{Part}
use Rattle.ft_fields.specs.Parts.{key_cmp}
use Rattle.ft_maps.specs.Seen.{seen}
use Rattle.ft_hits.specs.Hits.{Hits, EntryHits}

-- the hits of each key
abbrev pub HitsByKey : Type 0
HitsByKey = FinMap key_cmp EntryHits

-- all hits, made of the hits of each key
unfoldable pub flat : HitsByKey → Hits
flat by_key = map.from_entries (flat_map (λ entry. list_map (λ e. (record { spot = e.0; key = entry.0 }, e.1)) (map.entries entry.1)) (map.entries by_key))

-- all hits of a tree with an entry for each key
abbrev pub hits_in : BTreeMap (List Part) EntryHits → Hits
hits_in by_key = flat (seen key_cmp by_key)
