-- The hits of all groups are on the shelf, with what they save, and so all acts of a trigger that reads nothing came.
use Rattle.std.proofs.Common.{sym, ap, subst, ◌∙◌, Some, inl, inr}
use Rattle.std.specs.Option.{option_copied_mut}
use Rattle.std.proofs.lemmas.Result.{on_ok_weaker}
use Rattle.ft_shelves.specs.Joining.{unread}
use Rattle.ft_kept.specs.inner.Joining.{IsNoReader}
use Rattle.ft_kept.proofs.AtOnce.{joined_forms, plain_kept, saver_kept}
use Rattle.ft_kept.proofs.Forms.{ops_by, role_at, shelved_there}
use Rattle.ft_kept.proofs.Shelving.{lent_was, put_back}
use Rattle.ft_kept.proofs.tables.Tables.join.Goals as goal

pub join-requires-clause-empty : goal.join-requires-clause-empty
join-requires-clause-empty c =
    c.requires.bare.hits c.in-Some.shelf.now (lent_was c.args.joining.now.id c.args.self.now c.shelf_mut.result c.in-Some.shelf c.in-Some.is c.shelf_mut.ensures.value)

pub join-requires-clause-free : goal.join-requires-clause-free
join-requires-clause-free c = λ saves key at.
    let id = c.args.joining.now.id in
    let old = c.args.self.now in
    let was = lent_was id old c.shelf_mut.result c.in-Some.shelf c.in-Some.is c.shelf_mut.ensures.value in
    sym (ops_by old id (Some c.in-Some.shelf.now) was key at) ∙ c.requires.bare.saves (role_at old id (Some c.in-Some.shelf.now) was ∙ saves) key at

pub returns-in-Some-clause-joined : goal.returns-in-Some-clause-joined
returns-in-Some-clause-joined c =
    let joining = c.args.joining.now in
    let id = joining.id in
    let old = c.args.self.now in
    let shelf = c.in-Some.shelf.now in
    let after = c.join.new.self in
    let new = c.shelf_mut.follows.lender after in
    let w = put_back id old c.shelf_mut.result c.in-Some.shelf c.in-Some.is c.shelf_mut.ensures.value new after (c.shelf_mut.follows.holds after) in
    on_ok_weaker c.join.result (λ joined. record {
      forms = joined_forms old new id shelf after w.was w.is w.others joining.trigger.now joining.groups.now unread joined.table joined.role (c.requires.bare.hits shelf w.was);
      right = λ of before acts come kept. elim (subst IsNoReader c.role.ensures c.in-Plain.is) [
        | inl plain ↦ plain_kept joining.triggers.now joining.trigger.now id c.requires.attached joining.groups.now of before acts come old new kept shelf after w.was w.is w.others joined plain
        | inr saves ↦ saver_kept joining.triggers.now joining.trigger.now id c.requires.attached joining.groups.now of before acts come old new kept shelf after w.was w.is w.others joined saves (c.requires.bare.saves saves)
      ];
    }) c.join.ensures.ok

pub returns-in-None-clause-joined : goal.returns-in-None-clause-joined
returns-in-None-clause-joined c =
    let joining = c.args.joining.now in
    absurd (shelved_there joining.triggers.now c.args.self.now joining.id joining.trigger.now c.requires.shelved c.requires.attached (sym c.shelf_mut.ensures.value ∙ ap option_copied_mut c.in-None.is))
