-- Each role has its own edit.
use Rattle.std.proofs.Common.{◌≡◌, List, sym, ap, subst, ◌∙◌, Some, None, Option, inl, inr, arith}
use Rattle.std.specs.Option.{option_copied_mut, option_map_or}
use Rattle.std.proofs.lemmas.Result.{on_ok_weaker}
use Rattle.ft_hist.specs.Hit.{hit}
use Rattle.ft_fields.specs.declared.key.Part.{Part}
use Rattle.ft_shelves.specs.Changes.{PlaceIsFree, sign_of, table_with, with_change}
use Rattle.ft_shelves.specs.Shelves.{Shelves}
use Rattle.ft_shelves.specs.declared.sign.Sign.{Sign}
use Rattle.ft_shelves.specs.declared.sign.Sign.TheVariants.{Insert, Retract}
use Rattle.ft_shelves.proofs.Counted.{few_tests_none}
use Rattle.ft_table.specs.Growth.{with_hit}
use Rattle.ft_table.specs.OneKey.{without_hit}
use Rattle.ft_table.specs.Spots.{traced}
use Rattle.ft_table.specs.Values.{values_at}
use Rattle.ft_kept.specs.Bounds.{TableMoves}
use Rattle.ft_kept.specs.Signs.{table_edit}
use Rattle.ft_kept.specs.Views.{triggers_of}
use Rattle.ft_kept.specs.declared.act.Act.{Act}
use Rattle.ft_kept.specs.inner.Changing.{change_by}
use Rattle.ft_kept.proofs.HitShelf.{hit_free, inserts_at_most, plain_changed, plain_told, sign_is}
use Rattle.ft_kept.proofs.Forms.{shelved_there}
use Rattle.ft_kept.proofs.Shelving.{lent_was, put_back}
use Rattle.ft_kept.proofs.apply.change_act.Goals as goal

pub change_hit-requires : goal.change_hit-requires
change_hit-requires g c =
    let act = c.args.act.now in
    let old = c.args.tables.now in
    subst (λ change. PlaceIsFree change c.in-Some.shelf.now.table.hits) (sym c.hit_change-change.ensures)
    (hit_free act g.acts old c.requires (inl (sym c.role.ensures ∙ c.in-Plain.is)) c.in-Some.shelf.now (lent_was act.at.trigger old c.shelf_mut.result c.in-Some.shelf c.in-Some.is c.shelf_mut.ensures.value))

pub returns-in-Some : goal.returns-in-Some
returns-in-Some g c =
    let act = c.args.act.now in
    let id = act.at.trigger in
    let old = c.args.tables.now in
    let shelf = c.in-Some.shelf.now in
    let after = c.change_hit.new.self in
    let new = c.shelf_mut.follows.lender after in
    let w = put_back id old c.shelf_mut.result c.in-Some.shelf c.in-Some.is c.shelf_mut.ensures.value new after (c.shelf_mut.follows.holds after) in
    let with = ap (λ change. with_change change shelf) c.hit_change-change.ensures in
    let plain = sym c.role.ensures ∙ c.in-Plain.is in
    let sign = ap sign_of c.hit_change-change.ensures ∙ sign_is act act.sign in
    record {
      changed = on_ok_weaker c.change_hit.result (λ e. plain_changed act g.acts old c.requires (inl plain) shelf w.was plain new after w.is w.others (e ∙ with)) c.change_hit.ensures.ok;
      told = on_ok_weaker c.change_hit.result (λ e.
          plain_told act g.acts old c.requires (inl plain) shelf w.was plain new after w.is w.others (e ∙ with) c.args.changes.now c.record_key.new.self c.record_key.ensures.keys c.record_key.ensures.readings) c.change_hit.ensures.ok;
      quiet = λ _. c.record_key.ensures.readings;
      memory = λ retracts _. c.change_hit.ensures.memory (sign ∙ retracts);
      puts = inl (omega (arith, c.change_hit.ensures.work.few, inserts_at_most (sign_of c.hit_change-change.result) 1));
      work = few_tests_none c.change_hit.ensures.work;
    }

pub returns-in-None-clause-changed : goal.returns-in-None-clause-changed
returns-in-None-clause-changed g c =
    absurd (shelved_there (triggers_of c.args.act.now.scene) c.args.tables.now c.args.act.now.at.trigger c.args.act.now.trigger.now c.requires.views.shelved c.requires.attached
    (sym c.shelf_mut.ensures.value ∙ ap option_copied_mut c.in-None.is))

pub change_saving-requires : goal.change_saving-requires
change_saving-requires g c = (c.requires, sym c.role.ensures ∙ c.in-Saves.is)

pub change_reading-requires : goal.change_reading-requires
change_reading-requires g c = (c.requires, sym c.role.ensures ∙ c.in-Reads.is)

-- the table of a saver moves as the event's hit comes or goes
table_moves : (act : Act) (shelves : Shelves) → hit act.trigger.now act.event.now ≡ Some act.key → (sign : Sign)
    → TableMoves (table_with (change_by sign act)) shelves act.at.trigger → TableMoves (table_edit sign act.at.pos act.event.now act.trigger.now) shelves act.at.trigger
table_moves act shelves one Insert moves =
    subst (λ (found : Option (List Part)). TableMoves (λ table. option_map_or (λ key. with_hit table (record { spot = traced act.at.pos; key = key }) (values_at act.trigger.now act.at.pos act.event.now None)) found table) shelves act.at.trigger) (sym one) moves
table_moves act shelves one Retract moves =
    subst (λ (found : Option (List Part)). TableMoves (λ table. option_map_or (λ key. without_hit table (record { spot = traced act.at.pos; key = key })) found table) shelves act.at.trigger) (sym one) moves

pub returns-in-Saves-clause-puts : goal.returns-in-Saves-clause-puts
returns-in-Saves-clause-puts g c = elim c.change_saving.ensures.puts [
  | inl few ↦ inl few
  | inr moves ↦ inr (sym c.role.ensures ∙ c.in-Saves.is, table_moves c.args.act.now c.args.tables.now c.requires.counts c.args.act.now.sign moves)
]
