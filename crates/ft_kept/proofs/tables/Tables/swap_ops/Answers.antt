-- The saver's shelf has the operations that are given, and gives those that it had.
use Rattle.std.proofs.Common.{sym, ap, subst, ◌∙◌, Some, is_some, true≢false}
use Rattle.std.specs.Option.{option_copied_mut}
use Rattle.ft_pairs.specs.ByKey.{OpsByKey, ops_of}
use Rattle.ft_shelves.specs.Shelves.{ChangesShelf}
use Rattle.ft_kept.specs.inner.Joining.{HasOps}
use Rattle.ft_kept.proofs.Forms.{ops_by}
use Rattle.ft_kept.proofs.Shelving.{lent_changes, lent_was, none_changes}
use Rattle.ft_kept.proofs.tables.Tables.swap_ops.Goals as goal

pub returns-in-Some : goal.returns-in-Some
returns-in-Some c =
    let saver = c.args.saver in
    let old = c.args.self.now in
    let after = c.swap_ops.new.self in
    let new = c.shelf_mut.follows.lender after in
    record {
      swapped = lent_changes saver old c.shelf_mut.result c.in-Some.shelf c.in-Some.is c.shelf_mut.ensures.value new after (c.shelf_mut.follows.holds after) (HasOps c.args.ops) c.swap_ops.ensures.has;
      had = λ there key at.
          ap (λ (ops : OpsByKey). ops_of ops key at) c.swap_ops.ensures.had
          ∙ sym (ops_by old saver (Some c.in-Some.shelf.now) (lent_was saver old c.shelf_mut.result c.in-Some.shelf c.in-Some.is c.shelf_mut.ensures.value) key at);
    }

pub returns-in-None : goal.returns-in-None
returns-in-None c =
    let none = sym c.shelf_mut.ensures.value ∙ ap option_copied_mut c.in-None.is in
    let change = HasOps c.args.ops in
    record {
      swapped = subst (ChangesShelf c.args.saver change c.args.self.now) (sym c.shelf_mut.follows.holds-at-none) (none_changes c.args.saver change c.args.self.now none);
      had = λ there key at. absurd (true≢false (sym there ∙ ap is_some none));
    }
