-- The event of a read is held, and its reading is settled there.
use Rattle.std.proofs.Common.{◌≡◌, Some, Option, sym, ap, ◌∙◌, unwrap_or, true≢false}
use Rattle.std.proofs.lemmas.Result.{on_ok_weaker}
use Rattle.ft_pairs.specs.declared.at.At.{At}
use Rattle.ft_pairs.specs.declared.at.Op.{Op}
use Rattle.ft_pairs.specs.Source.{is_read}
use Rattle.ft_pairs.specs.declared.at.Op.TheVariants.{Save, Read}
use Rattle.ft_shelves.specs.Shelves.{kept_on}
use Rattle.ft_kept.specs.inner.Readings.{IsReadAt}
use Rattle.ft_kept.proofs.Sources.{none_settled, one_settled, read_acting, read_held, read_is, read_ready}
use Rattle.ft_kept.proofs.Told.{under_nothing}
use Rattle.ft_kept.specs.inner.Telling.{variable_key}
use Rattle.ft_kept.proofs.settle.settle_op.Goals as goal

pub settle-requires : goal.settle-requires
settle-requires g c =
    read_ready c.args.act.now.scene g.acts c.args.tables.now c.requires.0 _ (c.requires.1 ∙ ap (λ op. Some op) c.in-Read.is) (sym c.in-Some.ensures)

-- a save is no read
save_no_read : (at q : At) (op : Op) → op ≡ Save → IsReadAt (Some (at, op)) q → ⊥
save_no_read at q op save is = true≢false (sym (ap is_read (sym save ∙ ap (λ (o : Option (At × Op)). (unwrap_or o (q, Read)).1) is)))

pub returns-in-Save-clause-settled : goal.returns-in-Save-clause-settled
returns-in-Save-clause-settled g c =
    let operation = c.args.operation.now in
    none_settled c.args.act.now.scene g.acts c.args.tables.now c.requires.0 (IsReadAt (Some (operation.at, operation.op))) (λ q. save_no_read operation.at q operation.op c.in-Save.is)

pub returns-in-Save-clause-told : goal.returns-in-Save-clause-told
returns-in-Save-clause-told g c = under_nothing (variable_key c.args.operation.now.variable.now) c.args.readings.now c.args.tables.now

pub returns-in-Some-clause-settled : goal.returns-in-Some-clause-settled
returns-in-Some-clause-settled g c =
    let operation = c.args.operation.now in
    let scene = c.args.act.now.scene in
    let old = c.args.tables.now in
    let read : (kept_on old).ops operation.variable.now operation.at ≡ Some Read = c.requires.1 ∙ ap (λ op. Some op) c.in-Read.is in
    on_ok_weaker c.settle.result (λ settled.
    one_settled scene g.acts old c.requires.0 c.settle.new.tables _ settled (read_is scene g.acts old c.requires.0 operation.variable.now operation.at read).1.1
    (read_acting scene g.acts old c.requires.0 operation.variable.now operation.at read c.in-Some.event (sym c.in-Some.ensures))
    (IsReadAt (Some (operation.at, operation.op))) (λ q is. ap (λ (o : Option (At × Op)). (unwrap_or o (q, Read)).0) (sym is))) c.settle.ensures.settled

pub returns-in-None : goal.returns-in-None
returns-in-None g c =
    let operation = c.args.operation.now in
    absurd (cc (read_held c.args.act.now.scene g.acts c.args.tables.now c.requires.0 operation.variable.now operation.at (c.requires.1 ∙ ap (λ op. Some op) c.in-Read.is), c.in-None.ensures))
