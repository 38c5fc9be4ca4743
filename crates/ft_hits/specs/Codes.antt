-- How the logic stores hits.
use Rattle.std.specs.Coded.{Coded, coded_list, coded_ℤ}
use Rattle.std.specs.FinMap as map
use Rattle.ft_hits.specs.contracts.mark.Mark as mark
use Rattle.ft_hits.specs.contracts.spot.Spot as spot
use Rattle.ft_hits.specs.Hits.{EntryHits, Hits}

-- the hits of one key, stored as their list
abbrev pub entry_code : Coded EntryHits
entry_code = map.code spot.the_row.coded (coded_list coded_ℤ)

-- all hits, stored as their list
abbrev pub hits_code : Coded Hits
hits_code = map.code mark.the_row.coded (coded_list coded_ℤ)
