-- An operation that goes leaves none at its place.
use Rattle.std.proofs.Common.{sym, subst}
use Rattle.ft_fields.specs.Places.{pos_cmp}
use Rattle.ft_maps.specs.Seen.{seen}
use Rattle.ft_pairs.specs.ByKey.{ChangesKey}
use Rattle.ft_shelves.specs.Changes.{op_after, set_op}
use Rattle.ft_shelves.specs.declared.sign.Sign.{Sign}
use Rattle.ft_shelves.proofs.OneKey.{ops_change}
use Rattle.ft_shelves.proofs.shelf.Shelf.change_op.Goals as goal

pub returns-in-Retract-clause-ok : goal.returns-in-Retract-clause-ok
returns-in-Retract-clause-ok c =
    let inside = c.self.inside in
    ops_change c.args.key (set_op c.args.at (op_after c.args.sign c.args.op)) inside.role inside.table (seen pos_cmp inside.readings) inside.pairs c.remove.new.self c.args.self.now c.self.view_is
    (subst (λ (sign : Sign). ChangesKey c.args.key (set_op c.args.at (op_after sign c.args.op)) inside.pairs c.remove.new.self) (sym c.in-Retract.is) c.remove.ensures)
