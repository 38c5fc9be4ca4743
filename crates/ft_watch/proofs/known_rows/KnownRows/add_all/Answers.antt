use Rattle.ft_fields.specs.Parts.{key_cmp}
use Rattle.ft_maps.specs.Seen.{seen}
use Rattle.ft_watch.proofs.Views.{both_absent}
use Rattle.ft_watch.proofs.known_rows.KnownRows.add_all.Goals as goal

pub with_changes-requires : goal.with_changes-requires
with_changes-requires g c key none =
    both_absent (seen key_cmp c.in_ok-keys.keys) (seen key_cmp c.self.inside.texts) (seen key_cmp c.now.inside.texts) c.args.self.now c.in_ok-now.now key c.self.view_is c.now.view_is (c.in_ok-keys.ensures key) none
