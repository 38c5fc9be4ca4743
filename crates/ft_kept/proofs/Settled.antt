-- One shelf is written back: its hit and reading at one place were taken, and put again if the reading finds a saving.
use Rattle.std.proofs.Common.{◌≡◌, ℤ, List, [], ◌∷◌, refl, sym, ap, subst, ◌∙◌, Some, None, Option, option_map, inl, inr, is_some, true≢false}
use Rattle.std.specs.Option.{option_map_or}
use Rattle.std.specs.FinMap as map
use Rattle.ft_changes.proofs.Leading.{lead_one}
use Rattle.ft_changes.specs.declared.changed.ReadingChange.{ReadingChange}
use Rattle.ft_fields.specs.Places.{pos_cmp_total, pos_same}
use Rattle.ft_fields.specs.Traced.{Traced}
use Rattle.ft_fields.specs.declared.pos.Pos.{Pos}
use Rattle.ft_hist.specs.Hist.{Hist}
use Rattle.ft_hist.specs.Triggers.{Triggers}
use Rattle.ft_fields.specs.declared.key.Part.{Part}
use Rattle.ft_fields.specs.Parts.{same_key}
use Rattle.ft_maps.specs.Entries.{get-insert_same, get-insert_other}
use Rattle.ft_maps.proofs.Common.{cond_same}
use Rattle.ft_pairs.specs.Source.{Ops}
use Rattle.ft_pairs.specs.declared.at.At.{At}
use Rattle.ft_pairs.specs.declared.role.Role.TheVariants.{Reads}
use Rattle.ft_table.specs.Marks.{mark_cmp_total, mark_same}
use Rattle.ft_table.specs.Values.{values_at, values_by}
use Rattle.ft_hits.specs.declared.hit.Hit.{Hit}
use Rattle.ft_hits.specs.declared.mark.Mark.{Mark}
use Rattle.ft_hits.specs.declared.spot.Spot.{Spot}
use Rattle.ft_table.specs.Spots.{traced}
use Rattle.ft_shelves.specs.Edits.{with_hit_on, without_hit_on}
use Rattle.ft_shelves.specs.Shelves.{Shelved, Shelves, role_on, kept_on}
use Rattle.ft_shelves.specs.declared.sign.Sign.{Sign}
use Rattle.ft_shelves.specs.declared.sign.Sign.TheVariants.{Insert, Retract}
use Rattle.ft_shelves.proofs.Decided.{none_not_some}
use Rattle.ft_kept.specs.Changes.{ChangeUnder, Tells, whose_of}
use Rattle.ft_kept.specs.Entries.{IsEntry, hits_here, one_hit, read_here}
use Rattle.ft_kept.specs.Signs.{FindsBy, act_after}
use Rattle.ft_kept.specs.declared.settle.Reading.{Reading}
use Rattle.ft_kept.specs.declared.changes.Whose.TheVariants.{ReadersOf}
use Rattle.ft_kept.specs.inner.Edits.{OneHitChanges, ReadersChange, mark_at}
use Rattle.ft_kept.specs.inner.Readings.{IsReady, IsReread, IsSettled}
use Rattle.ft_kept.specs.inner.Telling.{variable_key}
use Rattle.ft_kept.proofs.Forms.{IsEdited, edited_but, edited_here, edited_hits, edited_read, edited_reader, edited_reads, hit_goes, made_with, role_at}
use Rattle.ft_kept.proofs.Shelving.{IsPutBack}
use Rattle.ft_kept.proofs.Told.{not_told}
use Rattle.ft_kept.proofs.Views.{values_there}

-- ---- on the shelf

-- the hit of an event on a spot, of a key, by what it read, if it read
abbrev hit_there : Hist → Traced → List Part → Option Pos → Spot → Hit
hit_there hist event key read spot = record { spot = spot; key = key; values = values_at hist spot.pos event read }

-- it stands on the spot that is given, which is that of an event of the trace
pub traced_hit : (hist : Hist) (event : Traced) (key : List Part) (read : Option Pos) (spot : Spot) (hit : Hit) (pos : Pos)
    → hit ≡ hit_there hist event key read spot → spot ≡ traced pos → hit ≡ hit_there hist event key read (traced pos)
traced_hit hist event key read spot hit pos made on = made ∙ ap (hit_there hist event key read) on

module _ (reading : Reading) (hist : Hist) (shelf : Shelved) where
  abbrev pub cleared : Shelved
  cleared = without_hit_on (mark_at reading.at.pos reading.variable.key) shelf

  -- the hit and the reading were taken
  pub is_cleared : IsReread reading hist None shelf cleared
  is_cleared = record { ops = refl; changes = hit_goes reading.at.pos reading.variable.key shelf shelf.ops }

  -- and others were put
  abbrev pub filled : Pos → Shelved
  filled saved = with_hit_on (mark_at reading.at.pos reading.variable.key) (values_at hist reading.at.pos reading.event.now (Some saved)) (Some saved) cleared

  pub is_filled : (saved : Pos) → IsReread reading hist (Some saved) shelf (filled saved)
  is_filled saved =
      let pos = reading.at.pos in
      let mark = mark_at pos reading.variable.key in
      let values = values_at hist pos reading.event.now (Some saved) in
      let clear = is_cleared.changes in
      record {
        ops = refl;
        changes = record {
          form = record { role = refl; size = refl; made = λ m made. made_with cleared.table.hits pos reading.variable.key values m made ∙ clear.form.made m made };
          read = get-insert_same pos_cmp_total cleared.readings pos saved;
          reads = λ p other. get-insert_other pos_cmp_total pos_same cleared.readings pos saved p other ∙ clear.reads p other;
          hit = get-insert_same mark_cmp_total cleared.table.hits mark values;
          hits = λ m other. get-insert_other mark_cmp_total mark_same cleared.table.hits mark values m other ∙ clear.hits m other;
        };
      }

-- ---- written back

-- the values of a reading's hit
abbrev found_hit : Triggers → Reading → Option Pos → Option (List ℤ)
found_hit triggers reading = option_map (λ (saved : Pos). values_by triggers reading.at.trigger reading.at.pos reading.event.now (Some saved))

-- the shelf of a reading's trigger was written back, and its reading found what it finds now
pub record IsWritten (triggers : Triggers) (reading : Reading) (found : Option Pos) (old new : Shelves) : Type 0 where
  pub ready : IsReady triggers reading old
  pub finds : FindsBy reading.sign ((kept_on old).ops reading.variable) reading.at found
  pub edit : IsEdited reading.at reading.variable.key (found_hit triggers reading found) found old new
  pub ops : edit.after.ops ≡ edit.shelf.ops

-- as it was put back
pub is_written : (triggers : Triggers) (reading : Reading) (found : Option Pos) (old new : Shelves) (hist : Hist) (shelf after : Shelved) → map.get triggers reading.at.trigger ≡ Some hist → IsPutBack reading.at.trigger shelf after old new
    → IsReady triggers reading old → FindsBy reading.sign ((kept_on old).ops reading.variable) reading.at found → IsReread reading hist found shelf after → IsWritten triggers reading found old new
is_written triggers reading found old new hist shelf after attached w ready finds reread = record {
  ready = ready;
  finds = finds;
  edit = record {
    shelf = shelf;
    after = after;
    was = w.was;
    is = w.is;
    others = w.others;
    changes = subst (λ (values : Option (List ℤ)). OneHitChanges reading.at.pos reading.variable.key values found shelf after)
        (λ i. option_map (λ saved. sym (values_there triggers reading.at.trigger hist reading.at.pos reading.event.now (Some saved) attached) i) found) reread.changes;
  };
  ops = reread.ops;
}

module _ (triggers : Triggers) (reading : Reading) (found : Option Pos) (old new : Shelves) (w : IsWritten triggers reading found old new) where
  abbrev at : At
  at = reading.at

  abbrev own_key : List Part
  own_key = reading.variable.key

  readers : ReadersChange old new
  readers = edited_reader old new at.trigger w.edit.shelf w.edit.after w.edit.was w.edit.is w.edit.others reading.variable.saver (sym (role_at old at.trigger (Some w.edit.shelf) w.edit.was) ∙ w.ready.role) w.edit.changes.form w.ops

  none_there : (k : List Part) → (k ≡ own_key → ⊥) → hits_here (kept_on old) at k ≡ None
  none_there k apart = elim (w.ready.own k) [ inl none ↦ none | inr h ↦ absurd (apart (sym h.1.1 ∙ sym (ap (λ (o : Option (List Part × Traced)). option_map_or (λ a. a.0) o own_key) h.1.0))) ]

  hits_are : (k : List Part) → hits_here (kept_on new) at k ≡ one_hit own_key (found_hit triggers reading found) k
  hits_are = edited_here w.edit none_there

  right_by : (sign : Sign) (found : Option Pos) → FindsBy sign ((kept_on new).ops reading.variable) at found → read_here (kept_on new) at ≡ found
      → ((k : List Part) → hits_here (kept_on new) at k ≡ one_hit own_key (found_hit triggers reading found) k)
      → IsEntry (values_by triggers) (kept_on new).ops at (Reads reading.variable.saver) (act_after sign (own_key, reading.event.now)) (hits_here (kept_on new) at) (read_here (kept_on new) at)
  right_by Insert found finds read hits = ((finds.0, (finds.1.0, read ∙ finds.1.1)), λ k. hits k ∙ ap (λ (o : Option Pos). one_hit own_key (found_hit triggers reading o) k) (sym read))
  right_by Retract None finds read hits = (read, λ k. hits k ∙ cond_same (same_key k own_key) None)
  right_by Retract (Some saved) finds read hits = absurd (none_not_some (Some saved) saved finds refl)

  -- so the reading is settled
  pub settled : IsSettled triggers reading old new
  settled = record {
    readers = readers;
    others = edited_but w.edit;
    right = right_by reading.sign found (subst (λ (ops : Ops). FindsBy reading.sign ops at found) (λ i q. sym (readers.ops reading.variable q) i) w.finds) (edited_read w.edit) hits_are;
  }

  -- and what it found before and finds is recorded
  pub under_its_key : (change : ReadingChange) → change ≡ record { id = at.trigger; pos = at.pos; before = read_here (kept_on old) at; after = found }
      → (before after : Option (List ReadingChange)) → Tells (change ∷ []) before after → ChangeUnder (variable_key reading.variable) before after old new
  under_its_key change says before after tells = record {
    hits = λ id m none. edited_hits w.edit id m (λ own same. not_told (record { whose = ReadersOf reading.variable.saver; key = reading.variable.key }) (whose_of (role_on old id) id) m.key none
        (ap (λ r. whose_of r id) (ap (role_on old) own ∙ w.ready.role)) (ap (λ (m : Mark). m.key) same));
    readings = record {
      readings = its ∷ [];
      told = subst (λ (c : ReadingChange). Tells (c ∷ []) before after) says tells;
      lead = lead_one its (kept_on old).read (kept_on new).read refl (edited_read w.edit) (edited_reads w.edit);
    };
  }
    where
      its : ReadingChange
      its = record { id = at.trigger; pos = at.pos; before = read_here (kept_on old) at; after = found }

-- ---- a reader's shelf

module _ (triggers : Triggers) (reading : Reading) (shelves : Shelves) (ready : IsReady triggers reading shelves) where
  -- a trigger that reads has a shelf
  pub reads_shelved : map.get shelves reading.at.trigger ≡ None → ⊥
  reads_shelved none = absurd (cc (role_at shelves reading.at.trigger None none, ready.role))

  -- and is attached
  pub reads_attached : map.get triggers reading.at.trigger ≡ None → ⊥
  reads_attached none = by (map.get shelves reading.at.trigger) refl
    where
      by : (o : Option Shelved) → map.get shelves reading.at.trigger ≡ o → ⊥
      by None is = reads_shelved is
      by (Some shelf) is = true≢false (sym (ap is_some is) ∙ ready.shelved.each reading.at.trigger ∙ ap is_some none)
