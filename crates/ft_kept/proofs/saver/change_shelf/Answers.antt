-- A saver has a shelf; its hit comes or goes there, and the shelf is written back.
use Rattle.std.proofs.Common.{◌≡◌, Bool, true, false, List, Option, refl, sym, ap, subst, ◌∙◌, Some, None, inl, inr, arith, ◌⊎◌, option_map}
use Rattle.std.specs.Option.{option_copied_mut}
use Rattle.ft_fields.specs.declared.key.Part.{Part}
use Rattle.ft_shelves.specs.Changes.{change_mark, sign_of, table_with}
use Rattle.ft_shelves.specs.Following.{HitFollows, IsUnsaved, MovesKeys}
use Rattle.ft_shelves.specs.Shelves.{Shelved}
use Rattle.ft_shelves.specs.Switches.{HasMoved, Members}
use Rattle.ft_shelves.specs.declared.saver.Moved.{Moved}
use Rattle.ft_table.specs.Tabled.{is_in}
use Rattle.ft_kept.specs.inner.Saving.{NoneMoved}
use Rattle.ft_shelves.proofs.Decided.{if_ok_both}
use Rattle.ft_kept.proofs.HitShelf.{followed, inserts_at_most, outside, own_told, saver_there, unsaved}
use Rattle.ft_kept.proofs.Shelving.{lent_was, put_back}
use Rattle.ft_kept.proofs.saver.change_shelf.Goals as goal

pub change_saver_hit-requires : goal.change_saver_hit-requires
change_saver_hit-requires g c =
    let act = c.args.act.now in
    let old = c.args.tables.now in
    let shelf = c.in-Some.shelf.now in
    let was = lent_was act.at.trigger old c.shelf_mut.result c.in-Some.shelf c.in-Some.is c.shelf_mut.ensures.value in
    record {
      free = subst (λ change. IsUnsaved act.at.trigger change shelf) (sym c.hit_change-change.ensures) (unsaved act g.acts old c.requires.0 (inr c.requires.1) shelf was c.requires.1);
      outside = outside act g.acts old c.requires.0 (inr c.requires.1) shelf was c.requires.1;
    }

-- no key moved, or a key of the table did
none_or_moved : (key : List Part) (moves : Moved) (was now : Members) → MovesKeys key moves was now → NoneMoved moves ⊎ HasMoved was now
none_or_moved key moves was now moved = by moves.own moves.other refl refl
  where
    by : (own : Bool) (other : Option (List Part)) → moves.own ≡ own → moves.other ≡ other → NoneMoved moves ⊎ HasMoved was now
    by true other is is_other = inr (key, sym moved.itself ∙ is)
    by false (Some k) is is_other = inr (k, moved.moved k is_other)
    by false None is is_other = inl (is, is_other)

pub returns-in-Some : goal.returns-in-Some
returns-in-Some g c =
    let act = c.args.act.now in
    let id = act.at.trigger in
    let old = c.args.tables.now in
    let shelf = c.in-Some.shelf.now in
    let after = c.change_saver_hit.new.shelf in
    let new = c.shelf_mut.follows.lender after in
    let w = put_back id old c.shelf_mut.result c.in-Some.shelf c.in-Some.is c.shelf_mut.ensures.value new after (c.shelf_mut.follows.holds after) in
    let table = ap (option_map (λ (s : Shelved). s.table)) w.was in
    let follows = λ (e : HitFollows id c.hit_change-change.result shelf after). subst (λ change. HitFollows id change shelf after) c.hit_change-change.ensures e in
    record {
      followed = if_ok_both _ _ _ c.change_saver_hit.result c.change_saver_hit.result refl (λ moves e moved.
          followed act g.acts old c.requires.0 (inr c.requires.1) shelf w.was c.requires.1 new after w.is w.others (follows e) moves
          (subst (λ change. MovesKeys (change_mark change).key moves (is_in shelf.table) (is_in after.table)) c.hit_change-change.ensures moved))
          c.change_saver_hit.ensures.follows c.change_saver_hit.ensures.moved;
      told = if_ok_both _ _ _ c.change_saver_hit.result c.change_saver_hit.result refl (λ moves e moved.
          own_told act g.acts old c.requires.0 (inr c.requires.1) shelf w.was new after w.is w.others (follows e).shelf c.args.changes.now c.record_key.new.self c.record_key.ensures.keys c.record_key.ensures.readings)
          c.change_saver_hit.ensures.follows c.change_saver_hit.ensures.moved;
      moves = if_ok_both _ _ _ c.change_saver_hit.result c.change_saver_hit.result refl (λ moves e moved.
          elim (none_or_moved (change_mark c.hit_change-change.result).key moves (is_in shelf.table) (is_in after.table) moved) [
            | inl none ↦ inl none
            | inr key ↦ inr (shelf.table, (table, subst (λ t. HasMoved (is_in shelf.table) (is_in t)) (ap (λ (s : Shelved). s.table) (follows e).shelf) key))
          ]) c.change_saver_hit.ensures.follows c.change_saver_hit.ensures.moved;
      puts = elim c.change_saver_hit.ensures.puts [
        | inl few ↦ inl (omega (arith, few, inserts_at_most (sign_of c.hit_change-change.result) 2))
        | inr moves ↦ inr (shelf.table, (table, subst (λ change. HasMoved (is_in shelf.table) (is_in (table_with change shelf.table))) c.hit_change-change.ensures moves))
      ];
      work = c.change_saver_hit.ensures.work;
    }

pub returns-in-None : goal.returns-in-None
returns-in-None g c = absurd (saver_there c.args.tables.now c.args.act.now.at.trigger c.requires.1 (sym c.shelf_mut.ensures.value ∙ ap option_copied_mut c.in-None.is))
