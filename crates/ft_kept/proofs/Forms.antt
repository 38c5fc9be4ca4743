-- What shelves tell, and what of it stays as their hits and operations change.
use Rattle.std.proofs.Common.{◌≡◌, ℕ, ℤ, true, false, cond, List, refl, sym, ap, subst, ◌∙◌, Some, None, Option, inl, inr, option_map, option_and_then, is_some, ◌&&◌, true≢false}
use Rattle.std.specs.Option.{option_map_or}
use Rattle.std.specs.Cmp.{nat_cmp_total}
use Rattle.std.specs.FinMap as map
use Rattle.std.proofs.lemmas.Map.Lookups.{exact_unsigned}
use Rattle.ft_fields.specs.Places.{pos_cmp_total, pos_same}
use Rattle.ft_fields.specs.declared.pos.Pos.{Pos}
use Rattle.ft_hist.specs.Hist.{Hist}
use Rattle.ft_hist.specs.Triggers.{Triggers}
use Rattle.ft_fields.specs.declared.key.Part.{Part}
use Rattle.ft_fields.specs.Orders.{key_cmp_total}
use Rattle.ft_fields.specs.Ties.{key_same}
use Rattle.ft_fields.specs.Parts.{same_key}
use Rattle.ft_maps.specs.Entries.{get-insert_other, get-insert_same, get-remove_other, get-remove_same}
use Rattle.ft_pairs.specs.ByKey.{OpsByKey, ops_left, ops_of}
use Rattle.ft_pairs.specs.Source.{Ops}
use Rattle.ft_pairs.specs.declared.at.At.{At}
use Rattle.ft_table.specs.Tabled.{is_in}
use Rattle.ft_hits.specs.declared.mark.Mark.{Mark}
use Rattle.ft_table.specs.Spots.{IsMade}
use Rattle.ft_table.specs.Growth.{with_hit}
use Rattle.ft_table.specs.Hits.{Hits}
use Rattle.ft_table.specs.Marks.{mark_same, mark_cmp_total}
use Rattle.ft_kept.specs.Bounds.{table_on}
use Rattle.ft_kept.specs.Entries.{hits_here, one_hit, read_here}
use Rattle.ft_kept.specs.inner.Edits.{OneHitChanges, OpsStay, ReadersChange, StaysBut, left_on, mark_at}
use Rattle.ft_kept.specs.Repairs.{AreShelved}
use Rattle.ft_shelves.specs.Shelves.{ChangesShelf, MadeStay, Shelved, Shelves, KeepsForm, FormStays, FormsStay, is_saver, role_on, admits_on, kept_on}
use Rattle.ft_shelves.specs.Edits.{OpsChange, without_hit_on}
use Rattle.ft_shelves.proofs.Decided.{decided, itself, key_decided, untied}
use Rattle.ft_pairs.specs.declared.role.Role.TheVariants.{Plain, Reads}
use Rattle.ft_pairs.specs.declared.role.Variable.{Variable}

-- ---- forms

-- a hit of an event that a trigger made stands at no spot of an event of the trace
not_traced : (pos : Pos) (key : List Part) (m : Mark) → IsMade m.spot → m ≡ mark_at pos key → ⊥
not_traced pos key m made same = made (ap (λ (x : Mark). x.spot.maker) same)

-- and so it stays, as a hit of an event of the trace comes
pub made_with : (hits : Hits) (pos : Pos) (key : List Part) (v : List ℤ) → MadeStay hits (map.insert hits (mark_at pos key) v)
made_with hits pos key v m made = get-insert_other mark_cmp_total mark_same hits (mark_at pos key) v m (not_traced pos key m made)

-- or goes
pub made_without : (hits : Hits) (pos : Pos) (key : List Part) → MadeStay hits (map.remove hits (mark_at pos key))
made_without hits pos key m made = get-remove_other mark_cmp_total mark_same hits (mark_at pos key) m (not_traced pos key m made)

-- so on a shelf it changes one hit
pub hit_comes : (pos : Pos) (key : List Part) (values : List ℤ) (shelf : Shelved) (ops : OpsByKey) → map.get shelf.readings pos ≡ None
    → OneHitChanges pos key (Some values) None shelf (record shelf { table = with_hit shelf.table (mark_at pos key) values; ops = ops })
hit_comes pos key values shelf ops none = record {
  form = record { role = refl; size = refl; made = made_with shelf.table.hits pos key values };
  read = none;
  reads = λ p apart. refl;
  hit = get-insert_same mark_cmp_total shelf.table.hits (mark_at pos key) values;
  hits = get-insert_other mark_cmp_total mark_same shelf.table.hits (mark_at pos key) values;
}

pub hit_goes : (pos : Pos) (key : List Part) (shelf : Shelved) (ops : OpsByKey) → OneHitChanges pos key None None shelf (record (without_hit_on (mark_at pos key) shelf) { ops = ops })
hit_goes pos key shelf ops = record {
  form = record { role = refl; size = refl; made = made_without shelf.table.hits pos key };
  read = get-remove_same pos_cmp_total shelf.readings pos;
  reads = get-remove_other pos_cmp_total pos_same shelf.readings pos;
  hit = get-remove_same mark_cmp_total shelf.table.hits (mark_at pos key);
  hits = get-remove_other mark_cmp_total mark_same shelf.table.hits (mark_at pos key);
}

-- a shelf has the form that it has
pub same_form : (shelf : Shelved) → KeepsForm shelf shelf
same_form shelf = record { role = refl; size = refl; made = λ m _. refl }

form_refl : (o : Option Shelved) → FormStays o o
form_refl None = refl
form_refl (Some shelf) = (shelf, (refl, same_form shelf))

pub forms_refl : (shelves : Shelves) → FormsStay shelves shelves
forms_refl shelves id = form_refl (map.get shelves id)

-- and keeps it through two changes
form_then : (a b c : Shelved) → KeepsForm a b → KeepsForm b c → KeepsForm a c
form_then a b c h k = record {
  role = k.role ∙ h.role;
  size = k.size ∙ h.size;
  made = λ m made. k.made m made ∙ h.made m made;
}

form_trans : (a b c : Option Shelved) → FormStays a b → FormStays b c → FormStays a c
form_trans None b c h k = subst (λ o. FormStays o c) h k
form_trans (Some shelf) b c h k =
    let next : FormStays (Some h.0) c = subst (λ o. FormStays o c) h.1.0 k in
    (next.0, (next.1.0, form_then shelf h.0 next.0 h.1.1 next.1.1))

pub forms_trans : (a b c : Shelves) → FormsStay a b → FormsStay b c → FormsStay a c
forms_trans a b c h k id = form_trans (map.get a id) (map.get b id) (map.get c id) (h id) (k id)

-- what a shelf's form tells stays
form_tells : {X : Type 0} (tell : Option Shelved → X) → ((shelf after : Shelved) → KeepsForm shelf after → tell (Some after) ≡ tell (Some shelf)) → (a b : Option Shelved) → FormStays a b → tell b ≡ tell a
form_tells tell same None b h = ap tell h
form_tells tell same (Some shelf) b h = ap tell h.1.0 ∙ same shelf h.0 h.1.1

-- each trigger keeps its role
pub roles_stay : (old new : Shelves) → FormsStay old new → (id : ℕ) → role_on new id ≡ role_on old id
unfolding role_on
roles_stay old new h id = form_tells (λ o. option_map_or (λ shelf. shelf.role) o Plain) (λ shelf after keeps. keeps.role) (map.get old id) (map.get new id) (h id)

-- and its shelf
pub shelf_stays : (old new : Shelves) → FormsStay old new → (id : ℕ) → is_some (map.get new id) ≡ is_some (map.get old id)
shelf_stays old new h id = form_tells is_some (λ shelf after keeps. refl) (map.get old id) (map.get new id) (h id)

pub shelved_stay : (triggers : Triggers) (old new : Shelves) → FormsStay old new → AreShelved triggers old → AreShelved triggers new
shelved_stay triggers old new h shelved = record {
  each = λ id. shelf_stays old new h id ∙ shelved.each id;
  savers = λ id saver is. shelf_stays old new h saver ∙ shelved.savers id saver (sym (roles_stay old new h id) ∙ is);
}

-- an attached trigger has a shelf
pub shelved_there : (triggers : Triggers) (shelves : Shelves) (id : ℕ) (hist : Hist) → AreShelved triggers shelves → map.get triggers id ≡ Some hist → map.get shelves id ≡ None → ⊥
shelved_there triggers shelves id hist shelved attached none = true≢false (sym (ap is_some attached) ∙ sym (shelved.each id) ∙ ap is_some none)

-- ---- look-ups

-- the operations on a shelf, if there is one
abbrev ops_at : Option Shelved → List Part → Ops
ops_at o key at = option_and_then (λ shelf. ops_of shelf.ops key at) o

module _ (shelves : Shelves) (id : ℕ) (o : Option Shelved) (is : map.get shelves id ≡ o) where
  -- what a trigger does with its variable, by its shelf
  pub role_at : role_on shelves id ≡ option_map_or (λ shelf. shelf.role) o Plain
  unfolding role_on
  role_at = ap (λ (s : Option Shelved). option_map_or (λ shelf. shelf.role) s Plain) is

  -- which keys a saver's table has, by its shelf
  pub admits_by : (key : List Part) → admits_on shelves id key ≡ option_map_or (λ shelf. is_saver shelf.role && is_in shelf.table key) o false
  unfolding admits_on
  admits_by key = ap (λ (s : Option Shelved). option_map_or (λ shelf. is_saver shelf.role && is_in shelf.table key) s false) is

  -- what is kept of a trigger, by its shelf: hits
  pub hits_by : (mark : Mark) → (kept_on shelves).hits id mark ≡ option_and_then (λ shelf. map.get shelf.table.hits mark) o
  unfolding kept_on
  hits_by mark = ap (λ (s : Option Shelved). option_and_then (λ shelf. map.get shelf.table.hits mark) s) is

  -- operations
  pub ops_by : (key : List Part) (q : At) → (kept_on shelves).ops (record { saver = id; key = key }) q ≡ option_and_then (λ shelf. ops_of shelf.ops key q) o
  unfolding kept_on
  ops_by key q = ap (λ (s : Option Shelved). option_and_then (λ shelf. ops_of shelf.ops key q) s) is

  -- the same, of all places
  pub ops_whole : (key : List Part) → (kept_on shelves).ops (record { saver = id; key = key }) ≡ ops_at o key
  unfolding kept_on
  ops_whole key = ap (λ (s : Option Shelved). ops_at s key) is

  -- and what its readings found
  pub read_by : (pos : Pos) → (kept_on shelves).read id pos ≡ option_and_then (λ shelf. map.get shelf.readings pos) o
  unfolding kept_on
  read_by pos = ap (λ (s : Option Shelved). option_and_then (λ shelf. map.get shelf.readings pos) s) is

-- what is kept of a trigger stays, if its shelf does
module _ (old new : Shelves) (id : ℕ) (same : map.get new id ≡ map.get old id) where
  pub same_role : role_on new id ≡ role_on old id
  same_role = role_at new id (map.get old id) same ∙ sym (role_at old id (map.get old id) refl)

  pub same_admits : (key : List Part) → admits_on new id key ≡ admits_on old id key
  same_admits key = admits_by new id (map.get old id) same key ∙ sym (admits_by old id (map.get old id) refl key)

  pub same_hits : (mark : Mark) → (kept_on new).hits id mark ≡ (kept_on old).hits id mark
  same_hits mark = hits_by new id (map.get old id) same mark ∙ sym (hits_by old id (map.get old id) refl mark)

  pub same_ops : (key : List Part) (q : At) → (kept_on new).ops (record { saver = id; key = key }) q ≡ (kept_on old).ops (record { saver = id; key = key }) q
  same_ops key q = ops_by new id (map.get old id) same key q ∙ sym (ops_by old id (map.get old id) refl key q)

  pub same_read : (pos : Pos) → (kept_on new).read id pos ≡ (kept_on old).read id pos
  same_read pos = read_by new id (map.get old id) same pos ∙ sym (read_by old id (map.get old id) refl pos)

-- ---- one shelf changes

-- what holds of one trigger and of each other one holds of each
pub by_id : (P : ℕ → Type 0) (id : ℕ) → P id → ((i : ℕ) → (i ≡ id → ⊥) → P i) → (i : ℕ) → P i
by_id P id here others i = elim (decided nat_cmp_total exact_unsigned i id) [ inl same ↦ subst P (sym same) here | inr apart ↦ others i apart ]

-- what readers counted and read stays, or changes twice
pub readers_refl : (shelves : Shelves) → ReadersChange shelves shelves
readers_refl shelves = record { forms = forms_refl shelves; ops = λ variable q. refl; left = λ variable after. refl; tables = λ id saves. refl; admits = λ id key. refl }

pub readers_trans : (a b c : Shelves) → ReadersChange a b → ReadersChange b c → ReadersChange a c
readers_trans a b c h k = record {
  forms = forms_trans a b c h.forms k.forms;
  ops = λ variable q. k.ops variable q ∙ h.ops variable q;
  left = λ variable after. k.left variable after ∙ h.left variable after;
  tables = λ id saves. k.tables id (roles_stay a b h.forms id ∙ saves) ∙ h.tables id saves;
  admits = λ id key. k.admits id key ∙ h.admits id key;
}

-- a shelf is written back that keeps its form, and the others stay
module _ (old new : Shelves) (id : ℕ) (shelf after : Shelved) (was : map.get old id ≡ Some shelf) (is : map.get new id ≡ Some after)
    (others : (i : ℕ) → (i ≡ id → ⊥) → map.get new i ≡ map.get old i) where
  pub edited : KeepsForm shelf after → FormsStay old new
  edited keeps = by_id (λ i. FormStays (map.get old i) (map.get new i)) id
      (subst (λ o. FormStays o (map.get new id)) (sym was) (after, (is, keeps)))
      (λ i other. subst (λ o. FormStays (map.get old i) o) (sym (others i other)) (form_refl (map.get old i)))

  -- its operations too
  pub edited_ops : after.ops ≡ shelf.ops → OpsStay (kept_on old) (kept_on new)
  edited_ops ops variable q = by_id (λ i. (kept_on new).ops (record { saver = i; key = variable.key }) q ≡ (kept_on old).ops (record { saver = i; key = variable.key }) q) id
      (ops_by new id (Some after) is variable.key q ∙ ap (λ o. ops_of o variable.key q) ops ∙ sym (ops_by old id (Some shelf) was variable.key q))
      (λ i other. same_ops old new i (others i other) variable.key q) variable.saver

  abbrev left_by : List Part → Option At → Option Shelved → ℕ
  left_by key q o = option_map_or (λ s. ops_left s.ops key q) o 0

  -- a trigger that saves nothing admits no key
  pub edited_admits : is_saver shelf.role ≡ false → after.role ≡ shelf.role → (i : ℕ) (key : List Part) → admits_on new i key ≡ admits_on old i key
  edited_admits unsaving role i key = by_id (λ j. admits_on new j key ≡ admits_on old j key) id
      (admits_by new id (Some after) is key ∙ ap (λ r. is_saver r && is_in after.table key) role ∙ ap (λ b. b && is_in after.table key) unsaving
      ∙ sym (admits_by old id (Some shelf) was key ∙ ap (λ b. b && is_in shelf.table key) unsaving))
      (λ j other. same_admits old new j (others j other) key) i

  -- a reader's shelf
  pub edited_reader : (saver : ℕ) → shelf.role ≡ Reads saver → KeepsForm shelf after → after.ops ≡ shelf.ops → ReadersChange old new
  edited_reader saver role keeps ops = record {
    forms = edited keeps;
    ops = edited_ops ops;
    left = λ v q. by_id (λ i. left_on new (record { saver = i; key = v.key }) q ≡ left_on old (record { saver = i; key = v.key }) q) id
        (ap (left_by v.key q) is ∙ ap (λ o. ops_left o v.key q) ops ∙ sym (ap (left_by v.key q) was)) (λ i other. ap (left_by v.key q) (others i other)) v.saver;
    tables = λ i saves. by_id (λ j. j ≡ i → table_on new j ≡ table_on old j) id
        (λ same. absurd (true≢false (ap is_saver (sym (ap (role_on old) same ∙ saves) ∙ role_at old id (Some shelf) was ∙ role))))
        (λ j other _. ap (option_map (λ (s : Shelved). s.table)) (others j other)) i refl;
    admits = edited_admits (ap is_saver role) keeps.role;
  }

-- a shelf is written back on which one hit changed and one reading, and the others stay
pub record IsEdited (at : At) (key : List Part) (values : Option (List ℤ)) (found : Option Pos) (old new : Shelves) : Type 0 where
  pub shelf : Shelved
  pub after : Shelved
  pub was : map.get old at.trigger ≡ Some shelf
  pub is : map.get new at.trigger ≡ Some after
  pub others : (i : ℕ) → (i ≡ at.trigger → ⊥) → map.get new i ≡ map.get old i
  pub changes : OneHitChanges at.pos key values found shelf after

module _ {at : At} {key : List Part} {values : Option (List ℤ)} {found : Option Pos} {old new : Shelves} (e : IsEdited at key values found old new) where
  pub edited_forms : FormsStay old new
  edited_forms = edited old new at.trigger e.shelf e.after e.was e.is e.others e.changes.form

  -- other hits and readings stay
  pub edited_hits : (i : ℕ) (m : Mark) → (i ≡ at.trigger → m ≡ mark_at at.pos key → ⊥) → (kept_on new).hits i m ≡ (kept_on old).hits i m
  edited_hits i m other = by_id (λ j. j ≡ i → (kept_on new).hits j m ≡ (kept_on old).hits j m) at.trigger
      (λ own. hits_by new at.trigger (Some e.after) e.is m ∙ e.changes.hits m (other (sym own)) ∙ sym (hits_by old at.trigger (Some e.shelf) e.was m))
      (λ j far _. same_hits old new j (e.others j far) m) i refl

  pub edited_reads : (i : ℕ) (p : Pos) → (i ≡ at.trigger → p ≡ at.pos → ⊥) → (kept_on new).read i p ≡ (kept_on old).read i p
  edited_reads i p other = by_id (λ j. j ≡ i → (kept_on new).read j p ≡ (kept_on old).read j p) at.trigger
      (λ own. read_by new at.trigger (Some e.after) e.is p ∙ e.changes.reads p (other (sym own)) ∙ sym (read_by old at.trigger (Some e.shelf) e.was p))
      (λ j far _. same_read old new j (e.others j far) p) i refl

  pub edited_but : StaysBut at (kept_on old) (kept_on new)
  edited_but q apart = (
    λ k. edited_hits q.trigger (mark_at q.pos k) (λ own same. apart (λ i. record { pos = (same i).spot.pos; trigger = own i })),
    edited_reads q.trigger q.pos (λ own same. apart (λ i. record { pos = same i; trigger = own i })),
  )

  -- its own place has the reading and the hit
  pub edited_read : read_here (kept_on new) at ≡ found
  edited_read = read_by new at.trigger (Some e.after) e.is at.pos ∙ e.changes.read

  pub edited_here : ((k : List Part) → (k ≡ key → ⊥) → hits_here (kept_on old) at k ≡ None) → (k : List Part) → hits_here (kept_on new) at k ≡ one_hit key values k
  edited_here none k = elim (key_decided k key) [
    | inl it ↦ subst (λ x. hits_here (kept_on new) at x ≡ one_hit key values x) (sym it)
        (hits_by new at.trigger (Some e.after) e.is (mark_at at.pos key) ∙ e.changes.hit ∙ sym (ap (λ b. cond b values None) (itself key_cmp_total key)))
    | inr apart ↦ edited_hits at.trigger (mark_at at.pos k) (λ _ same. apart (ap (λ (m : Mark). m.key) same)) ∙ none k apart ∙ sym (ap (λ b. cond b values None) (untied key_cmp_total key_same k key apart))
  ]

-- one shelf changes that keeps its form
pub changed_forms : (id : ℕ) (Change : Shelved → Shelved → Type 0) (old new : Shelves) → ChangesShelf id Change old new
    → ((shelf after : Shelved) → map.get old id ≡ Some shelf → Change shelf after → KeepsForm shelf after) → FormsStay old new
changed_forms id Change old new h keeps = by_id (λ i. FormStays (map.get old i) (map.get new i)) id (here (map.get old id) refl)
    (λ i other. subst (λ o. FormStays (map.get old i) o) (sym (h.others i other)) (form_refl (map.get old i)))
  where
    here : (o : Option Shelved) → map.get old id ≡ o → FormStays (map.get old id) (map.get new id)
    here None is = subst (λ s. FormStays s (map.get new id)) (sym is) (h.none is)
    here (Some shelf) is =
        let after = h.here shelf is in
        subst (λ s. FormStays s (map.get new id)) (sym is) (after.0, (after.1.0, keeps shelf after.0 is after.1.1))

-- and whatever shelves tell
module _ {X : Type 0} (id : ℕ) (Change : Shelved → Shelved → Type 0) (old new : Shelves) (h : ChangesShelf id Change old new) (tell : Option Shelved → X) where
  -- stays, if it stays on the shelf
  pub tells_same : ((shelf after : Shelved) → map.get old id ≡ Some shelf → Change shelf after → tell (Some after) ≡ tell (Some shelf)) → (i : ℕ) → tell (map.get new i) ≡ tell (map.get old i)
  tells_same same i = by_id (λ j. tell (map.get new j) ≡ tell (map.get old j)) id (here (map.get old id) refl) (λ j other. ap tell (h.others j other)) i
    where
      here : (o : Option Shelved) → map.get old id ≡ o → tell (map.get new id) ≡ tell (map.get old id)
      here None is = ap tell (h.none is ∙ sym is)
      here (Some shelf) is =
          let after = h.here shelf is in
          ap tell after.1.0 ∙ same shelf after.0 is after.1.1 ∙ sym (ap tell is)

  -- is what the shelf tells, if there is one
  pub tells_here : (x : X) → is_some (map.get old id) ≡ true → ((shelf after : Shelved) → map.get old id ≡ Some shelf → Change shelf after → tell (Some after) ≡ x) → tell (map.get new id) ≡ x
  tells_here x there on = here (map.get old id) refl
    where
      here : (o : Option Shelved) → map.get old id ≡ o → tell (map.get new id) ≡ x
      here None is = absurd (true≢false (sym there ∙ ap is_some is))
      here (Some shelf) is =
          let after = h.here shelf is in
          ap tell after.1.0 ∙ on shelf after.0 is after.1.1

-- ---- only operations change

-- hits, readings and tables stay
pub record OnlyOps (old new : Shelves) : Type 0 where
  pub forms : FormsStay old new
  pub hits : (id : ℕ) (mark : Mark) → (kept_on new).hits id mark ≡ (kept_on old).hits id mark
  pub read : (id : ℕ) (pos : Pos) → (kept_on new).read id pos ≡ (kept_on old).read id pos
  pub admits : (id : ℕ) (key : List Part) → admits_on new id key ≡ admits_on old id key
  pub tables : (id : ℕ) → table_on new id ≡ table_on old id

-- on one shelf
module _ (id : ℕ) (Change : Shelved → Shelved → Type 0) (old new : Shelves) (h : ChangesShelf id Change old new) (only : (shelf after : Shelved) → Change shelf after → after ≡ record shelf { ops = after.ops }) where
  tell_stays : {X : Type 0} (tell : Option Shelved → X) → ((shelf : Shelved) (ops : OpsByKey) → tell (Some (record shelf { ops = ops })) ≡ tell (Some shelf)) → (i : ℕ) → tell (map.get new i) ≡ tell (map.get old i)
  tell_stays tell stays = tells_same id Change old new h tell (λ shelf after is change. ap (λ s. tell (Some s)) (only shelf after change) ∙ stays shelf after.ops)

  pub only_ops : OnlyOps old new
  unfolding kept_on admits_on
  only_ops = record {
    forms = changed_forms id Change old new h (λ shelf after is change. subst (KeepsForm shelf) (sym (only shelf after change)) (record { role = refl; size = refl; made = λ m _. refl }));
    hits = λ i mark. tell_stays (λ o. option_and_then (λ s. map.get s.table.hits mark) o) (λ s ops. refl) i;
    read = λ i pos. tell_stays (λ o. option_and_then (λ s. map.get s.readings pos) o) (λ s ops. refl) i;
    admits = λ i key. tell_stays (λ o. option_map_or (λ s. is_saver s.role && is_in s.table key) o false) (λ s ops. refl) i;
    tables = tell_stays (option_map (λ s. s.table)) (λ s ops. refl);
  }

-- those of one key
module _ (saver : ℕ) (key : List Part) (edit : Ops → Ops) (old new : Shelves) (h : ChangesShelf saver (OpsChange key edit) old new) where
  pub key_ops : OnlyOps old new
  key_ops = only_ops saver (OpsChange key edit) old new h (λ shelf after change i. record { role = change.role i; table = change.table i; ops = after.ops; readings = change.readings i })

  module _ (there : is_some (map.get old saver) ≡ true) where
    own_ops : (k : List Part) (q : At) → (kept_on new).ops (record { saver = saver; key = k }) q
        ≡ cond (same_key k key) (edit ((kept_on old).ops (record { saver = saver; key = k })) q) ((kept_on old).ops (record { saver = saver; key = k }) q)
    unfolding kept_on
    own_ops k q = tells_here saver (OpsChange key edit) old new h (λ o. ops_at o k q) (cond (same_key k key) (edit (ops_at (map.get old saver) k) q) (ops_at (map.get old saver) k q)) there
        (λ shelf after is change. change.ops k q ∙ ap (λ o. cond (same_key k key) (edit (ops_at o k) q) (ops_at o k q)) (sym is))

    -- they are edited, if the saver has a shelf
    pub key_ops_here : (q : At) → (kept_on new).ops (record { saver = saver; key = key }) q ≡ edit ((kept_on old).ops (record { saver = saver; key = key })) q
    key_ops_here q = own_ops key q ∙ ap (λ b. cond b (edit ((kept_on old).ops (record { saver = saver; key = key })) q) ((kept_on old).ops (record { saver = saver; key = key }) q)) (itself key_cmp_total key)

    -- and those of other keys and of other savers stay
    pub key_ops_elsewhere : (variable : Variable) → (variable ≡ record { saver = saver; key = key } → ⊥) → (q : At) → (kept_on new).ops variable q ≡ (kept_on old).ops variable q
    key_ops_elsewhere variable other q = by_id (λ i. variable.saver ≡ i → (kept_on new).ops (record { saver = i; key = variable.key }) q ≡ (kept_on old).ops (record { saver = i; key = variable.key }) q) saver
        (λ own. own_ops variable.key q ∙ ap (λ b. cond b (edit ((kept_on old).ops (record { saver = saver; key = variable.key })) q) ((kept_on old).ops (record { saver = saver; key = variable.key }) q))
        (untied key_cmp_total key_same variable.key key (λ same. other (λ i. record { saver = own i; key = same i }))))
        (λ i apart _. same_ops old new i (h.others i apart) variable.key q) variable.saver refl
