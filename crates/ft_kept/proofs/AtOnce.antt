-- A trigger all of whose acts come at once: if its own hits, readings and operations are those of its acts, and all else stays, what is kept is right.
use Rattle.std.proofs.Common.{◌≡◌, ℕ, Bool, true, false, cond, List, refl, sym, ap, subst, ◌∙◌, Some, None, Option, inl, inr}
use Rattle.std.specs.Prelude.{◌&&◌, ◌⊎◌, option_and_then, option_map, is_some}
use Rattle.std.specs.Ordering.{nat_cmp, eq_by_cmp}
use Rattle.std.specs.FinMap as map
use Rattle.std.specs.FinMap.{get-empty, nat_cmp-IsAntisymmetric}
use Rattle.std.specs.Cmp.{nat_cmp_total}
use Rattle.ft_fields.specs.Traced.{Traced}
use Rattle.ft_fields.specs.Parts.{same_key}
use Rattle.ft_fields.specs.Ties.{key_same}
use Rattle.ft_fields.specs.declared.key.Part.{Part}
use Rattle.ft_fields.specs.declared.pos.Pos.{Pos}
use Rattle.ft_groups.specs.Grouped.{Grouped}
use Rattle.ft_hist.specs.Hist.{Hist}
use Rattle.ft_hist.specs.Triggers.{Triggers}
use Rattle.ft_hits.specs.declared.mark.Mark.{Mark}
use Rattle.ft_maps.specs.Entries.{same_from_tie}
use Rattle.ft_maps.proofs.Common.{cond_same, and_false}
use Rattle.ft_pairs.specs.Roles.{Admits, op_as}
use Rattle.ft_pairs.specs.Variables.{variable_cmp, variable_cmp_total, variable_same}
use Rattle.ft_pairs.specs.declared.at.At.{At}
use Rattle.ft_pairs.specs.declared.at.Op.{Op}
use Rattle.ft_pairs.specs.declared.at.Op.TheVariants.{Save, Read}
use Rattle.ft_pairs.specs.declared.role.Role.{Role}
use Rattle.ft_pairs.specs.declared.role.Role.TheVariants.{Plain, Saves, Reads}
use Rattle.ft_pairs.specs.declared.role.Variable.{Variable}
use Rattle.ft_pairs.proofs.Local.{same_source}
use Rattle.ft_table.specs.Spots.{traced}
use Rattle.ft_table.specs.Values.{values_at, values_by}
use Rattle.ft_kept.specs.Acts.{Acts, op_of}
use Rattle.ft_kept.specs.AtOnce.{AllCome, IsBare}
use Rattle.ft_kept.specs.Entries.{HitsHere, IsCounted, IsEntry, IsKept, IsReading, IsRight, hits_here, one_hit, read_here}
use Rattle.ft_shelves.specs.Joining.{AreGroupsOf, HasGroups, ReadBy, acts_with, event_in, HasJoined, OpsJoin, save_in, unread, HasRead, read_from, reading_in, what_read}
use Rattle.ft_shelves.specs.Shelves.{FormsStay, MadeStay, Shelved, Shelves, admits_on, kept_on, role_on, is_saver, ChangesShelf}
use Rattle.ft_shelves.proofs.Decided.{decided, untied, itself, none_not_some, variable_decided}
use Rattle.ft_shelves.proofs.Listed.{event_of, under, under_other, under_own, flat}
use Rattle.ft_kept.proofs.Forms.{edited, hits_by, admits_by, by_id, ops_by, read_by, role_at, same_admits, same_hits, same_ops, same_read, OnlyOps, only_ops, edited_ops, forms_trans, shelf_stays, tells_here, tells_same}
use Rattle.ft_kept.proofs.Staleness.{entry_same, op_absent, op_read, same_ops_of}
use Rattle.ft_kept.proofs.Views.{values_there}
use Rattle.std.specs.Option.{option_map_or}
use Rattle.ft_pairs.specs.ByKey.{ops_of, OpsByKey}
use Rattle.ft_table.specs.Tabled.{is_in}
use Rattle.ft_table.specs.Hits.{Hits}
use Rattle.ft_kept.specs.inner.Edits.{OpsStay}
use Rattle.ft_kept.specs.inner.Joining.{HasOps}

pub trigger_decided : (i j : ℕ) → (i ≡ j) ⊎ (i ≡ j → ⊥)
trigger_decided = decided nat_cmp_total nat_cmp-IsAntisymmetric

-- where a trigger acts
abbrev pub own_at : ℕ → Pos → At
own_at id pos = record { pos = pos; trigger = id }

-- where an act comes, there was none before
module _ (id : ℕ) (acts : Pos → Option (List Part × Traced)) (before after : Acts) (come : AllCome id acts before after) where
  pub absent_own : (role : ℕ → Role) (admits : Admits) (variable : Variable) (pos : Pos) → op_of role admits before variable (record { pos = pos; trigger = id }) ≡ None
  absent_own role admits variable pos = op_absent role admits before variable (record { pos = pos; trigger = id }) (come.absent pos)

-- ---- one act

-- what the hit of an act read, by the trigger's role and what its reading found, if it is a hit
abbrev pub hit_read : Role → Option Pos → Option (Option Pos)
hit_read Plain read = Some None
hit_read Saves read = Some None
hit_read (Reads saver) read = option_map (λ saved. Some saved) read

module _ (triggers : Triggers) (hist : Hist) (id : ℕ) (attached : map.get triggers id ≡ Some hist) (pos : Pos) where
  counts_as : (role : Role) (a : List Part × Traced) (hits : HitsHere) (read : Option Pos) → ((key : List Part) → hits key ≡ one_hit a.0 (option_map (values_at hist pos a.1) (hit_read role read)) key)
      → IsCounted (values_by triggers) (record { pos = pos; trigger = id }) role (Some a) hits read
  counts_as Plain a hits read here = λ key. here key ∙ ap (λ v. one_hit a.0 (Some v) key) (sym (values_there triggers id hist pos a.1 None attached))
  counts_as Saves a hits read here = λ key. here key ∙ ap (λ v. one_hit a.0 (Some v) key) (sym (values_there triggers id hist pos a.1 None attached))
  counts_as (Reads saver) a hits read here = λ key. here key ∙ ap (λ o. one_hit a.0 o key) (by read)
    where
      by : (o : Option Pos) → option_map (values_at hist pos a.1) (option_map (λ saved. Some saved) o) ≡ option_map (λ saved. values_by triggers id pos a.1 (Some saved)) o
      by None = refl
      by (Some saved) = ap Some (sym (values_there triggers id hist pos a.1 (Some saved) attached))

  one_there : (read : ReadBy) (a : List Part × Traced) (key : List Part) → option_and_then (λ event. option_map (values_at hist pos event) (read key pos)) (under key (Some a)) ≡ one_hit a.0 (option_map (values_at hist pos a.1) (read a.0 pos)) key
  one_there read a key = elim (same_key key a.0) as (λ b. same_key key a.0 ≡ b
      → option_and_then (λ event. option_map (values_at hist pos event) (read key pos)) (cond b (Some a.1) None) ≡ cond b (option_map (values_at hist pos a.1) (read a.0 pos)) None) [
        | true ↦ λ tie. ap (λ k. option_map (values_at hist pos a.1) (read k pos)) (same_from_tie key_same key a.0 tie)
        | false ↦ λ _. refl
      ] refl

  -- hits at a place are that of the act there, if each key's event there has its hit
  pub counted : (read : ReadBy) (role : Role) (act : Option (List Part × Traced)) (hits : HitsHere) (found : Option Pos)
      → ((key : List Part) → hits key ≡ option_and_then (λ event. option_map (values_at hist pos event) (read key pos)) (under key act))
      → ((a : List Part × Traced) → act ≡ Some a → read a.0 pos ≡ hit_read role found)
      → IsCounted (values_by triggers) (record { pos = pos; trigger = id }) role act hits found
  counted read role None hits found here fits = here
  counted read role (Some a) hits found here fits = counts_as role a hits found
      (λ key. here key ∙ one_there read a key ∙ ap (λ r. one_hit a.0 (option_map (values_at hist pos a.1) r) key) (fits a refl))

-- ---- operations

-- an act that does something only to the variable of its key does it at the event of that key
module _ (saver : ℕ) (op : List Part → Option Op) (ops : Variable → Option Op) (act : Option (List Part × Traced))
    (here : (key : List Part) → ops (record { saver = saver; key = key }) ≡ option_and_then (λ (event : Traced). op key) (under key act))
    (elsewhere : (variable : Variable) → (variable.saver ≡ saver → ⊥) → ops variable ≡ None) where
  none_of_it : (variable : Variable) → (variable.saver ≡ saver → under variable.key act ≡ None) → ops variable ≡ None
  none_of_it variable none = elim (trigger_decided variable.saver saver) [
    | inl own ↦ ap ops (λ i. record { saver = own i; key = variable.key }) ∙ here variable.key ∙ ap (option_and_then (λ (event : Traced). op variable.key)) (none own)
    | inr apart ↦ elsewhere variable apart
  ]

  pub own_op : (variable : Variable) → ops variable ≡ option_and_then (λ (a : List Part × Traced). cond (eq_by_cmp variable_cmp variable (record { saver = saver; key = a.0 })) (op a.0) None) act
  own_op variable = by act refl
    where
      by : (o : Option (List Part × Traced)) → act ≡ o → ops variable ≡ option_and_then (λ (a : List Part × Traced). cond (eq_by_cmp variable_cmp variable (record { saver = saver; key = a.0 })) (op a.0) None) o
      by None is = none_of_it variable (λ _. ap (under variable.key) is)
      by (Some a) is = elim (variable_decided variable (record { saver = saver; key = a.0 })) [
        | inl own ↦
            ap ops own ∙ here a.0
            ∙ ap (λ o. option_and_then (λ (event : Traced). op a.0) (under a.0 o)) is
            ∙ ap (option_and_then (λ (event : Traced). op a.0)) (under_own a)
            ∙ sym (ap (λ (v : Variable). cond (eq_by_cmp variable_cmp v (record { saver = saver; key = a.0 })) (op a.0) None) own ∙ ap (λ b. cond b (op a.0) None) (itself variable_cmp_total (record { saver = saver; key = a.0 })))
        | inr apart ↦
            none_of_it variable (λ own. ap (under variable.key) is ∙ under_other variable.key a (λ same. apart (λ i. record { saver = own i; key = same i })))
            ∙ sym (ap (λ b. cond b (op a.0) None) (untied variable_cmp_total variable_same variable (record { saver = saver; key = a.0 }) apart))
      ]

-- ---- all acts

module _ (triggers : Triggers) (hist : Hist) (id : ℕ) (attached : map.get triggers id ≡ Some hist) (groups : Grouped) (of : AreGroupsOf hist groups)
    (before after : Acts) (come : AllCome id (acts_with hist of.events) before after) (old new : Shelves)
    (kept : IsKept (role_on old) (values_by triggers) (admits_on old) before (kept_on old)) where
  abbrev pub acts : Pos → Option (List Part × Traced)
  acts = acts_with hist of.events

  -- what was there is right
  pub right_before : (q : At) → IsRight (role_on old) (values_by triggers) before (kept_on old) q
  right_before q = kept.entries q

  -- its own hits, readings and operations are those of its acts, and what others read stays, with their hits and readings
  pub record AreThere (read : ReadBy) : Type 0 where
    pub hits : (pos : Pos) (key : List Part) → hits_here (kept_on new) (own_at id pos) key ≡ option_and_then (λ event. option_map (values_at hist pos event) (read key pos)) (event_in groups key pos)
    pub readings : (pos : Pos) → IsReading (kept_on new).ops (own_at id pos) (role_on old id) (acts pos) (read_here (kept_on new) (own_at id pos))
    pub fits : (pos : Pos) (a : List Part × Traced) → acts pos ≡ Some a → read a.0 pos ≡ hit_read (role_on old id) (read_here (kept_on new) (own_at id pos))
    pub ops : (variable : Variable) (pos : Pos) → (kept_on new).ops variable (own_at id pos) ≡ option_and_then (λ (a : List Part × Traced). op_as (admits_on new) (role_on old id) variable id a.0) (acts pos)
    pub other_hits : (i : ℕ) → (i ≡ id → ⊥) → (mark : Mark) → (kept_on new).hits i mark ≡ (kept_on old).hits i mark
    pub other_readings : (i : ℕ) → (i ≡ id → ⊥) → (pos : Pos) → (kept_on new).read i pos ≡ (kept_on old).read i pos
    pub other_admits : (i : ℕ) → (i ≡ id → ⊥) → (key : List Part) → admits_on new i key ≡ admits_on old i key
    pub other_ops : (variable : Variable) (q : At) → (q.trigger ≡ id → ⊥) → (kept_on new).ops variable q ≡ (kept_on old).ops variable q
    pub other_sources : (q : At) (saver : ℕ) (a : List Part × Traced) → (q.trigger ≡ id → ⊥) → role_on old q.trigger ≡ Reads saver → before q ≡ Some a
        → (p : At) → (kept_on new).ops (record { saver = saver; key = a.0 }) p ≡ (kept_on old).ops (record { saver = saver; key = a.0 }) p

  module _ (read : ReadBy) (there : AreThere read) where
    own_right : (pos : Pos) → IsRight (role_on old) (values_by triggers) after (kept_on new) (own_at id pos)
    own_right pos = subst (λ act. IsEntry (values_by triggers) (kept_on new).ops (own_at id pos) (role_on old id) act (hits_here (kept_on new) (own_at id pos)) (read_here (kept_on new) (own_at id pos))) (sym (come.here pos)) (
      there.readings pos,
      counted triggers hist id attached pos read (role_on old id) (acts pos) (hits_here (kept_on new) (own_at id pos)) (read_here (kept_on new) (own_at id pos))
          (λ key. there.hits pos key ∙ ap (option_and_then (λ event. option_map (values_at hist pos event) (read key pos))) (event_of hist groups of key pos))
          (there.fits pos),
    )

    other_right : (q : At) → (q.trigger ≡ id → ⊥) → IsRight (role_on old) (values_by triggers) after (kept_on new) q
    other_right q apart = subst (λ o. IsEntry (values_by triggers) (kept_on new).ops q (role_on old q.trigger) o (hits_here (kept_on new) q) (read_here (kept_on new) q)) (sym (come.elsewhere q apart))
        (entry_same (values_by triggers) (kept_on old).ops (kept_on new).ops q (role_on old q.trigger) (before q) (hits_here (kept_on old) q) (hits_here (kept_on new) q) (read_here (kept_on old) q) (read_here (kept_on new) q)
        (λ key. there.other_hits q.trigger apart (record { spot = traced q.pos; key = key }))
        (there.other_readings q.trigger apart q.pos)
        (λ saver a role acting found. same_source ((kept_on old).ops (record { saver = saver; key = a.0 })) ((kept_on new).ops (record { saver = saver; key = a.0 })) q
        (λ p _. there.other_sources q saver a apart role acting p) found)
        (right_before q))

    op_own : (variable : Variable) (pos : Pos) → (kept_on new).ops variable (own_at id pos) ≡ op_of (role_on old) (admits_on new) after variable (own_at id pos)
    unfolding op_of
    op_own variable pos = there.ops variable pos ∙ ap (option_and_then (λ (a : List Part × Traced). op_as (admits_on new) (role_on old id) variable id a.0)) (sym (come.here pos))

    -- so all that is kept is right
    pub all_right : IsKept (role_on old) (values_by triggers) (admits_on new) after (kept_on new)
    all_right = record {
      ops = λ variable q. elim (trigger_decided q.trigger id) [
        | inl is ↦ subst (λ (p : At). (kept_on new).ops variable p ≡ op_of (role_on old) (admits_on new) after variable p) (λ i. record { pos = q.pos; trigger = sym is i }) (op_own variable q.pos)
        | inr apart ↦ there.other_ops variable q apart ∙ kept.ops variable q ∙ sym (same_ops_of (role_on old) (admits_on old) (admits_on new) before after variable q (there.other_admits q.trigger apart) (come.elsewhere q apart))
      ];
      entries = λ q. elim (trigger_decided q.trigger id) [
        | inl is ↦ subst (IsRight (role_on old) (values_by triggers) after (kept_on new)) (λ i. record { pos = q.pos; trigger = sym is i }) (own_right q.pos)
        | inr apart ↦ other_right q apart
      ];
    }

-- ---- its shelf

module _ (old new : Shelves) (id : ℕ) (shelf after : Shelved) (was : map.get old id ≡ Some shelf) (is : map.get new id ≡ Some after)
    (others : (i : ℕ) → (i ≡ id → ⊥) → map.get new i ≡ map.get old i)
    (hist : Hist) (groups : Grouped) (read : ReadBy) (table : HasGroups hist groups read shelf.table after.table) where
  made_stays : shelf.table.hits ≡ map.empty → MadeStay shelf.table.hits after.table.hits
  made_stays empty m made =
      table.hits m
      ∙ ap (λ b. cond b (option_and_then (λ event. option_map (values_at hist m.spot.pos event) (read m.key m.spot.pos)) (event_in groups m.key m.spot.pos)) None)
      (untied nat_cmp_total nat_cmp-IsAntisymmetric m.spot.maker 0 made)
      ∙ sym (ap (λ hits. map.get hits m) empty ∙ get-empty _ m)

  -- it keeps its form, as no hit of an event that a trigger made comes
  pub joined_forms : after.role ≡ shelf.role → shelf.table.hits ≡ map.empty → FormsStay old new
  joined_forms role empty = edited old new id shelf after was is others (record { role = role; size = table.size; made = made_stays empty })

  -- its hits at a place
  pub joined_hits : (pos : Pos) (key : List Part) → hits_here (kept_on new) (record { pos = pos; trigger = id }) key ≡ option_and_then (λ event. option_map (values_at hist pos event) (read key pos)) (event_in groups key pos)
  joined_hits pos key = hits_by new id (Some after) is (record { spot = traced pos; key = key }) ∙ table.hits (record { spot = traced pos; key = key })

-- ---- a trigger that reads nothing

nothing_read : (ops : (Variable → At → Option Op)) (at : At) (role : Role) (act : Option (List Part × Traced)) (read : Option Pos) → (role ≡ Plain) ⊎ (role ≡ Saves) → read ≡ None → IsReading ops at role act read
nothing_read ops at role None read no_reader none = none
nothing_read ops at Plain (Some a) read no_reader none = none
nothing_read ops at Saves (Some a) read no_reader none = none
nothing_read ops at (Reads saver) (Some a) read (inl is) none = absurd (cc)
nothing_read ops at (Reads saver) (Some a) read (inr is) none = absurd (cc)

each_hit : (role : Role) (read : Option Pos) → (role ≡ Plain) ⊎ (role ≡ Saves) → Some None ≡ hit_read role read
each_hit role read (inl is) = sym (ap (λ r. hit_read r read) is)
each_hit role read (inr is) = sym (ap (λ r. hit_read r read) is)

module _ (triggers : Triggers) (hist : Hist) (id : ℕ) (attached : map.get triggers id ≡ Some hist) (groups : Grouped) (of : AreGroupsOf hist groups)
    (before acts : Acts) (come : AllCome id (acts_with hist of.events) before acts) (old new : Shelves)
    (kept : IsKept (role_on old) (values_by triggers) (admits_on old) before (kept_on old))
    (shelf after : Shelved) (was : map.get old id ≡ Some shelf) (is : map.get new id ≡ Some after)
    (others : (i : ℕ) → (i ≡ id → ⊥) → map.get new i ≡ map.get old i) (joined : HasJoined id hist groups shelf after) where
  -- operations on what others save stay
  foreign_ops : (variable : Variable) (q : At) → (variable.saver ≡ id → ⊥) → (kept_on new).ops variable q ≡ (kept_on old).ops variable q
  foreign_ops variable q apart = same_ops old new variable.saver (others variable.saver apart) variable.key q

  none_before : (variable : Variable) (pos : Pos) → (kept_on old).ops variable (own_at id pos) ≡ None
  none_before variable pos = kept.ops variable (own_at id pos) ∙ absent_own id (acts_with hist of.events) before acts come (role_on old) (admits_on old) variable pos

  unread_here : (pos : Pos) → read_here (kept_on new) (own_at id pos) ≡ None
  unread_here pos =
      read_by new id (Some after) is pos
      ∙ ap (λ r. map.get r pos) joined.readings
      ∙ sym (read_by old id (Some shelf) was pos)
      ∙ (subst (λ o. IsEntry (values_by triggers) (kept_on old).ops (own_at id pos) (role_on old id) o (hits_here (kept_on old) (own_at id pos)) (read_here (kept_on old) (own_at id pos)))
      (come.absent pos) (kept.entries (own_at id pos))).0

  module _ (no_reader : (role_on old id ≡ Plain) ⊎ (role_on old id ≡ Saves))
      (ops : (variable : Variable) (pos : Pos) → (kept_on new).ops variable (own_at id pos) ≡ option_and_then (λ (a : List Part × Traced). op_as (admits_on new) (role_on old id) variable id a.0) (acts_with hist of.events pos))
      (other_ops : (variable : Variable) (q : At) → (q.trigger ≡ id → ⊥) → (kept_on new).ops variable q ≡ (kept_on old).ops variable q)
      (other_sources : (q : At) (saver : ℕ) (a : List Part × Traced) → (q.trigger ≡ id → ⊥) → role_on old q.trigger ≡ Reads saver → before q ≡ Some a
      → (p : At) → (kept_on new).ops (record { saver = saver; key = a.0 }) p ≡ (kept_on old).ops (record { saver = saver; key = a.0 }) p) where
    unread_kept : IsKept (role_on old) (values_by triggers) (admits_on new) acts (kept_on new)
    unread_kept = all_right triggers hist id attached groups of before acts come old new kept unread (record {
      hits = joined_hits old new id shelf after was is others hist groups unread joined.table;
      readings = λ pos. nothing_read (kept_on new).ops (own_at id pos) (role_on old id) (acts_with hist of.events pos) (read_here (kept_on new) (own_at id pos)) no_reader (unread_here pos);
      fits = λ pos a acting. each_hit (role_on old id) (read_here (kept_on new) (own_at id pos)) no_reader;
      ops = ops;
      other_hits = λ i apart mark. same_hits old new i (others i apart) mark;
      other_readings = λ i apart pos. same_read old new i (others i apart) pos;
      other_admits = λ i apart key. same_admits old new i (others i apart) key;
      other_ops = other_ops;
      other_sources = other_sources;
    })

  -- without a variable

  module _ (plain : role_on old id ≡ Plain) where
    ops_stay : OpsStay (kept_on old) (kept_on new)
    ops_stay = edited_ops old new id shelf after was is others (subst (λ r. OpsJoin r id groups after.table shelf.ops after.ops) (sym (role_at old id (Some shelf) was) ∙ plain) joined.ops)

    nothing_done : (role : Role) (variable : Variable) (act : Option (List Part × Traced)) → role ≡ Plain → None ≡ option_and_then (λ (a : List Part × Traced). op_as (admits_on new) role variable id a.0) act
    nothing_done role variable None none = refl
    nothing_done role variable (Some a) none = sym (ap (λ r. op_as (admits_on new) r variable id a.0) none)

    pub plain_kept : IsKept (role_on old) (values_by triggers) (admits_on new) acts (kept_on new)
    plain_kept = unread_kept (inl plain)
        (λ variable pos. ops_stay variable (own_at id pos) ∙ none_before variable pos ∙ nothing_done (role_on old id) variable (acts_with hist of.events pos) plain)
        (λ variable q apart. ops_stay variable q)
        (λ q saver a apart role acting p. ops_stay (record { saver = saver; key = a.0 }) p)

  -- a saver

  module _ (saves : role_on old id ≡ Saves) (unsaved : (key : List Part) (q : At) → (kept_on old).ops (record { saver = id; key = key }) q ≡ None) where
    saved : (key : List Part) (q : At) → (kept_on new).ops (record { saver = id; key = key }) q ≡ save_in id groups after.table key q
    saved key q =
        ops_by new id (Some after) is key q
        ∙ subst (λ r. OpsJoin r id groups after.table shelf.ops after.ops) (sym (role_at old id (Some shelf) was) ∙ saves) joined.ops key q

    admitted : (key : List Part) → admits_on new id key ≡ is_in after.table key
    admitted key = admits_by new id (Some after) is key ∙ ap (λ r. is_saver r && is_in after.table key) (joined.role ∙ sym (role_at old id (Some shelf) was) ∙ saves)

    -- at its own places saves stand, if the keys are in its table
    saves_are : (key : List Part) (b : Bool) (event : Option Traced) → admits_on new id key ≡ b
        → cond (b && true) (option_and_then (λ (e : Traced). Some Save) event) None ≡ option_and_then (λ (e : Traced). cond (admits_on new id key) (Some Save) None) event
    saves_are key b None admits = cond_same (b && true) None
    saves_are key true (Some e) admits = sym (ap (λ x. cond x (Some Save) None) admits)
    saves_are key false (Some e) admits = sym (ap (λ x. cond x (Some Save) None) admits)

    own_saves : (variable : Variable) (pos : Pos) → (kept_on new).ops variable (own_at id pos) ≡ option_and_then (λ (a : List Part × Traced). op_as (admits_on new) Saves variable id a.0) (acts_with hist of.events pos)
    own_saves variable pos = own_op id (λ key. cond (admits_on new id key) (Some Save) None) (λ v. (kept_on new).ops v (own_at id pos)) (acts_with hist of.events pos)
        (λ key.
        saved key (own_at id pos)
        ∙ ap (λ b. cond (is_in after.table key && b) (option_and_then (λ (event : Traced). Some Save) (event_in groups key pos)) None) (itself nat_cmp_total id)
        ∙ saves_are key (is_in after.table key) (event_in groups key pos) (admitted key)
        ∙ ap (option_and_then (λ (event : Traced). cond (admits_on new id key) (Some Save) None)) (event_of hist groups of key pos))
        (λ v apart. foreign_ops v (own_at id pos) apart ∙ none_before v pos) variable

    saver_others : (variable : Variable) (q : At) → (q.trigger ≡ id → ⊥) → (kept_on new).ops variable q ≡ (kept_on old).ops variable q
    saver_others variable q apart = by_id (λ i. (kept_on new).ops (record { saver = i; key = variable.key }) q ≡ (kept_on old).ops (record { saver = i; key = variable.key }) q) id
        (saved variable.key q
        ∙ ap (λ b. cond b (option_and_then (λ (event : Traced). Some Save) (event_in groups variable.key q.pos)) None)
        (ap (λ b. is_in after.table variable.key && b) (untied nat_cmp_total nat_cmp-IsAntisymmetric q.trigger id apart) ∙ and_false (is_in after.table variable.key))
        ∙ sym (unsaved variable.key q))
        (λ i other. foreign_ops (record { saver = i; key = variable.key }) q other) variable.saver

    -- no other trigger reads what it saves, as no read stands there
    pub saver_kept : IsKept (role_on old) (values_by triggers) (admits_on new) acts (kept_on new)
    saver_kept = unread_kept (inr saves)
        (λ variable pos. own_saves variable pos ∙ sym (ap (λ r. option_and_then (λ (a : List Part × Traced). op_as (admits_on new) r variable id a.0) (acts_with hist of.events pos)) saves))
        saver_others
        (λ q saver a apart role acting p. elim (trigger_decided saver id) [
          | inl is_own ↦ absurd (none_not_some ((kept_on old).ops (record { saver = saver; key = a.0 }) q) Read
              (ap (λ i. (kept_on old).ops (record { saver = i; key = a.0 }) q) is_own ∙ unsaved a.0 q)
              (kept.ops (record { saver = saver; key = a.0 }) q ∙ op_read (role_on old) (admits_on old) before q saver a role acting))
          | inr other ↦ foreign_ops (record { saver = saver; key = a.0 }) p other
        ])

-- ---- a reader: its saver's operations are taken off their shelf, changed with the reader's own shelf, and put back

module _ (saver : ℕ) (ops : OpsByKey) (old new : Shelves) (h : ChangesShelf saver (HasOps ops) old new) where
  -- only they change
  pub swap_only : OnlyOps old new
  swap_only = only_ops saver (HasOps ops) old new h (λ shelf after change. change ∙ (λ i. record shelf { ops = (sym change i).ops }))

  -- operations of others too
  pub swap_else : (variable : Variable) → (variable.saver ≡ saver → ⊥) → (q : At) → (kept_on new).ops variable q ≡ (kept_on old).ops variable q
  swap_else variable apart q = same_ops old new variable.saver (h.others variable.saver apart) variable.key q

  -- it has those that it was given
  pub swap_here : is_some (map.get old saver) ≡ true → (key : List Part) (q : At) → (kept_on new).ops (record { saver = saver; key = key }) q ≡ ops_of ops key q
  unfolding kept_on
  swap_here there key q = tells_here saver (HasOps ops) old new h (λ o. option_and_then (λ shelf. ops_of shelf.ops key q) o) (ops_of ops key q) there
      (λ shelf after is change. ap (λ (s : Shelved). ops_of s.ops key q) change)

  -- a shelf without hits still has none
  pub swap_empty : (id : ℕ) (shelf : Shelved) → IsBare id old → map.get new id ≡ Some shelf → shelf.table.hits ≡ map.empty
  swap_empty id shelf bare is =
      sym (ap hits_or is)
      ∙ tells_same saver (HasOps ops) old new h hits_or (λ s after at change. ap (λ (x : Shelved). x.table.hits) change) id
      ∙ by (map.get old id) refl
    where
      hits_or : Option Shelved → Hits
      hits_or o = option_map_or (λ s. s.table.hits) o map.empty

      by : (o : Option Shelved) → map.get old id ≡ o → hits_or o ≡ map.empty
      by None there = refl
      by (Some s) there = bare.hits s there

-- ---- all acts of a reader

read_there : (event : Option Traced) (b : Bool) (o : Option Op) → b ≡ true → o ≡ None → cond (is_some event && b) (Some Read) o ≡ option_and_then (λ (e : Traced). Some Read) event
read_there None b o own none = none
read_there (Some e) b o own none = ap (λ x. cond x (Some Read) o) own

some_read : (o : Option At) → option_map (λ (saved : At). Some saved.pos) o ≡ option_map (λ saved. Some saved) (option_map (λ (saved : At). saved.pos) o)
some_read None = refl
some_read (Some saved) = refl

module _ (triggers : Triggers) (hist : Hist) (id saver : ℕ) (groups : Grouped) (empty was is : OpsByKey) (old lacks joined new : Shelves) (mid after : Shelved)
    (reads : role_on old id ≡ Reads saver) (bare : IsBare id old) (saved : is_some (map.get old saver) ≡ true)
    (took : ChangesShelf saver (HasOps empty) old lacks)
    (had : (key : List Part) (q : At) → ops_of was key q ≡ (kept_on old).ops (record { saver = saver; key = key }) q)
    (own_was : map.get lacks id ≡ Some mid) (own_is : map.get joined id ≡ Some after) (others : (i : ℕ) → (i ≡ id → ⊥) → map.get joined i ≡ map.get lacks i)
    (read : HasRead id hist groups was is mid after) (put : ChangesShelf saver (HasOps is) joined new) where
  joined_so : FormsStay old joined
  joined_so = forms_trans old lacks joined (swap_only saver empty old lacks took).forms (joined_forms lacks joined id mid after own_was own_is others hist groups (read_from read.sources) read.table read.role (swap_empty saver empty old lacks took id mid bare own_was))

  -- shelves keep their forms
  pub reader_forms : FormsStay old new
  reader_forms = forms_trans old joined new joined_so (swap_only saver is joined new put).forms

  here : (key : List Part) (q : At) → (kept_on new).ops (record { saver = saver; key = key }) q ≡ ops_of is key q
  here = swap_here saver is joined new put (shelf_stays old joined joined_so saver ∙ saved)

  -- operations on what others save stay
  elsewhere : (variable : Variable) → (variable.saver ≡ saver → ⊥) → (q : At) → (kept_on new).ops variable q ≡ (kept_on old).ops variable q
  elsewhere variable apart q =
      swap_else saver is joined new put variable apart q
      ∙ edited_ops lacks joined id mid after own_was own_is others read.ops variable q
      ∙ swap_else saver empty old lacks took variable apart q

  module _ (attached : map.get triggers id ≡ Some hist) (of : AreGroupsOf hist groups) (before acts : Acts) (come : AllCome id (acts_with hist of.events) before acts)
      (kept : IsKept (role_on old) (values_by triggers) (admits_on old) before (kept_on old)) where
    read_now : (pos : Pos) → read_here (kept_on new) (own_at id pos) ≡ reading_in (read_from read.sources) (acts_with hist of.events) pos
    read_now pos = (swap_only saver is joined new put).read id pos ∙ read_by joined id (Some after) own_is pos ∙ read.readings of pos

    finds : (pos : Pos) (act : Option (List Part × Traced)) → IsReading (kept_on new).ops (own_at id pos) (Reads saver) act (option_and_then (λ (a : List Part × Traced). what_read (read_from read.sources a.0 pos)) act)
    finds pos None = refl
    finds pos (Some a) = (
      read.sources a.0 pos,
      (
        same_source (ops_of is a.0) ((kept_on new).ops (record { saver = saver; key = a.0 })) (own_at id pos) (λ q _. here a.0 q) (read.sources a.0 pos) (read.finds a.0 pos),
        sym (flat (read.sources a.0 pos)),
      ),
    )

    fits : (pos : Pos) (a : List Part × Traced) → acts_with hist of.events pos ≡ Some a → read_from read.sources a.0 pos ≡ hit_read (role_on old id) (read_here (kept_on new) (own_at id pos))
    fits pos a acting =
        some_read (read.sources a.0 pos)
        ∙ ap (option_map (λ saved. Some saved)) (flat (read.sources a.0 pos)
        ∙ sym (read_now pos ∙ ap (λ o. option_and_then (λ (x : List Part × Traced). what_read (read_from read.sources x.0 pos)) o) acting))
        ∙ sym (ap (λ r. hit_read r (read_here (kept_on new) (own_at id pos))) reads)

    own_reads : (variable : Variable) (pos : Pos) → (kept_on new).ops variable (own_at id pos) ≡ option_and_then (λ (a : List Part × Traced). op_as (admits_on new) (Reads saver) variable id a.0) (acts_with hist of.events pos)
    own_reads variable pos = own_op saver (λ key. Some Read) (λ v. (kept_on new).ops v (own_at id pos)) (acts_with hist of.events pos)
        (λ key.
        here key (own_at id pos)
        ∙ read.reads key (own_at id pos)
        ∙ read_there (event_in groups key pos) (eq_by_cmp nat_cmp id id) (ops_of was key (own_at id pos)) (itself nat_cmp_total id) (had key (own_at id pos) ∙ none_before (record { saver = saver; key = key }))
        ∙ ap (option_and_then (λ (event : Traced). Some Read)) (event_of hist groups of key pos))
        (λ v apart. elsewhere v apart (own_at id pos) ∙ none_before v) variable
      where
        none_before : (v : Variable) → (kept_on old).ops v (own_at id pos) ≡ None
        none_before v = kept.ops v (own_at id pos) ∙ absent_own id (acts_with hist of.events) before acts come (role_on old) (admits_on old) v pos

    reader_others : (variable : Variable) (q : At) → (q.trigger ≡ id → ⊥) → (kept_on new).ops variable q ≡ (kept_on old).ops variable q
    reader_others variable q apart = by_id (λ i. (kept_on new).ops (record { saver = i; key = variable.key }) q ≡ (kept_on old).ops (record { saver = i; key = variable.key }) q) saver
        (here variable.key q
        ∙ read.reads variable.key q
        ∙ ap (λ b. cond b (Some Read) (ops_of was variable.key q))
        (ap (λ b. is_some (event_in groups variable.key q.pos) && b) (untied nat_cmp_total nat_cmp-IsAntisymmetric q.trigger id apart) ∙ and_false (is_some (event_in groups variable.key q.pos)))
        ∙ had variable.key q)
        (λ i other. elsewhere (record { saver = i; key = variable.key }) other q) variable.saver

    -- no other trigger reads what it reads
    pub reader_kept : IsKept (role_on old) (values_by triggers) (admits_on new) acts (kept_on new)
    reader_kept = all_right triggers hist id attached groups of before acts come old new kept (read_from read.sources) (record {
      hits = λ pos key. (swap_only saver is joined new put).hits id (record { spot = traced pos; key = key }) ∙ joined_hits lacks joined id mid after own_was own_is others hist groups (read_from read.sources) read.table pos key;
      readings = λ pos. subst (λ (x : Role × Option Pos). IsReading (kept_on new).ops (own_at id pos) x.0 (acts_with hist of.events pos) x.1) (λ i. (sym reads i, sym (read_now pos) i)) (finds pos (acts_with hist of.events pos));
      fits = fits;
      ops = λ variable pos. own_reads variable pos ∙ sym (ap (λ r. option_and_then (λ (a : List Part × Traced). op_as (admits_on new) r variable id a.0) (acts_with hist of.events pos)) reads);
      other_hits = λ i apart mark. (swap_only saver is joined new put).hits i mark ∙ same_hits lacks joined i (others i apart) mark ∙ (swap_only saver empty old lacks took).hits i mark;
      other_readings = λ i apart pos. (swap_only saver is joined new put).read i pos ∙ same_read lacks joined i (others i apart) pos ∙ (swap_only saver empty old lacks took).read i pos;
      other_admits = λ i apart key. (swap_only saver is joined new put).admits i key ∙ same_admits lacks joined i (others i apart) key ∙ (swap_only saver empty old lacks took).admits i key;
      other_ops = reader_others;
      other_sources = λ q s a apart role acting p. elsewhere (record { saver = s; key = a.0 }) (λ e. apart (bare.alone saver q.trigger reads (role ∙ ap Reads e))) p;
    })
