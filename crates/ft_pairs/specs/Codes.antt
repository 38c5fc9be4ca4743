-- How the logic stores what contracts see.
use Rattle.std.specs.Coded.{Coded, coded_list}
use Rattle.std.specs.FinMap as map
use Rattle.ft_fields.specs.contracts.key.Part as part
use Rattle.ft_pairs.specs.contracts.at.At as at
use Rattle.ft_pairs.specs.contracts.at.Op as op
use Rattle.ft_pairs.specs.ByKey.{KeyOps, OpsByKey}

-- the operations of one key, stored as their list
abbrev pub key_ops_code : Coded KeyOps
key_ops_code = map.code at.the_row.coded op.the_row.coded

-- those of all keys, stored as a list by key
abbrev pub by_key_code : Coded OpsByKey
by_key_code = map.code (coded_list part.the_row.coded) key_ops_code
