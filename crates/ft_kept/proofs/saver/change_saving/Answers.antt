-- The hit comes or goes with the operations on what it saves, and then the readings are settled.
use Rattle.std.proofs.Common.{◌++◌, arith, inl, inr}
use Rattle.std.proofs.lemmas.Result.{on_ok_weaker}
use Rattle.ft_shelves.specs.Shelves.{role_on}
use Rattle.ft_kept.specs.inner.Telling.{moved_keys, own_key}
use Rattle.ft_kept.proofs.HitShelf.{saver_changed}
use Rattle.ft_kept.proofs.InPlace.{can_settle}
use Rattle.ft_kept.proofs.Told.{few_saving, told_trans}
use Rattle.ft_kept.proofs.saver.change_saving.Goals as goal

pub settle_moved-requires : goal.settle_moved-requires
settle_moved-requires g c = can_settle c.args.act.now g.acts c.args.tables.now c.requires.0 c.change_shelf.new.tables c.in-Ok.ensures.followed.placed

pub returns-in-Ok-clause-changed : goal.returns-in-Ok-clause-changed
returns-in-Ok-clause-changed g c = on_ok_weaker c.settle_moved.result
    (saver_changed c.args.act.now g.acts c.args.tables.now c.requires.0 c.requires.1 c.in-Ok.moved c.change_shelf.new.tables c.settle_moved.new.tables c.in-Ok.ensures.followed)
    c.settle_moved.ensures.settled

pub returns-in-Ok-clause-told : goal.returns-in-Ok-clause-told
returns-in-Ok-clause-told g c =
    let act = c.args.act.now in
    let id = act.at.trigger in
    let moves = c.in-Ok.moved in
    on_ok_weaker c.settle_moved.result (λ told. record {
      keys = own_key id act.key ++ moved_keys id act.key moves;
      few = few_saving (role_on c.args.tables.now) id act.trigger.now act.key moves;
      told = told_trans (own_key id act.key) (moved_keys id act.key moves) c.in-Ok.ensures.followed.placed.forms c.in-Ok.ensures.told told;
    }) c.settle_moved.ensures.told

pub returns-in-Ok-clause-puts : goal.returns-in-Ok-clause-puts
returns-in-Ok-clause-puts g c = elim c.change_shelf.ensures.puts [
  | inr moves ↦ inr moves
  | inl few ↦ elim c.in-Ok.ensures.moves [
    | inr moves ↦ inr moves
    | inl none ↦ let last = c.settle_moved.ensures.puts none in inl (omega (arith, few, last))
  ]
]

pub returns-in-Err-clause-puts : goal.returns-in-Err-clause-puts
returns-in-Err-clause-puts g c = elim c.change_shelf.ensures.puts [
  | inl few ↦ inl (omega (arith, few))
  | inr moves ↦ inr moves
]
