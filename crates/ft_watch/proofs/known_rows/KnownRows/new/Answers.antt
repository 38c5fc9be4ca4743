use Rattle.std.proofs.Common.{ap, ◌∙◌}
use Rattle.ft_fields.specs.Parts.{key_cmp}
use Rattle.ft_maps.specs.Mapped.{map_by-empty}
use Rattle.ft_maps.specs.Seen.{seen-empty}
use Rattle.ft_watch.proofs.Views.{bytes_in, bytes_by}
use Rattle.ft_watch.proofs.known_rows.KnownRows.new.Goals as goal

pub returns : goal.returns
returns c = ap bytes_by (seen-empty key_cmp c.new.result c.new.ensures.empty) ∙ map_by-empty bytes_in key_cmp
