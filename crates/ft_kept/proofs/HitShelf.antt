-- A hit comes or goes on the shelf of a trigger that reads nothing: its own place has what its act says, and the operations on what it saves follow its table.
use Rattle.std.proofs.Common.{◌≡◌, ◌≤◌, ℕ, ℤ, arith, refl, Some, None, Option, Bool, true, false, sym, ap, subst, ◌∙◌, inl, inr, List, [], ◌∷◌, unwrap_or, option_map, option_and_then, is_some, if◌then◌else◌, not, ◌&&◌, nat_cmp, is_eq, true≢false}
use Rattle.std.specs.FinMap as map
use Rattle.std.specs.Ordering.{eq_by_cmp}
use Rattle.std.specs.Cmp.{nat_cmp_total, tied_then}
use Rattle.std.specs.FinMap.{nat_cmp-IsAntisymmetric}
use Rattle.ft_changes.proofs.Leading.{SameFindings}
use Rattle.ft_fields.specs.Places.{pos_cmp_total, pos_same}
use Rattle.ft_fields.specs.declared.pos.Pos.{Pos}
use Rattle.ft_fields.specs.declared.key.Part.{Part}
use Rattle.ft_fields.specs.Orders.{key_cmp_total}
use Rattle.ft_fields.specs.Parts.{key_cmp, same_key}
use Rattle.ft_fields.specs.Ties.{key_same}
use Rattle.ft_fields.specs.Traced.{Traced}
use Rattle.ft_hits.specs.declared.mark.Mark.{Mark}
use Rattle.ft_maps.proofs.Common.{cond_same}
use Rattle.ft_pairs.specs.ByKey.{ops_of, OpsByKey}
use Rattle.ft_pairs.specs.Edits.{if_read}
use Rattle.ft_pairs.specs.Order.{at_cmp_total, at_same}
use Rattle.ft_pairs.specs.Roles.{Admits, op_as, variable_of}
use Rattle.ft_pairs.specs.Source.{Ops}
use Rattle.ft_pairs.specs.Variables.{variable_cmp, variable_cmp_total, variable_same}
use Rattle.ft_pairs.specs.declared.at.At.{At}
use Rattle.ft_pairs.specs.declared.at.Op.{Op}
use Rattle.ft_pairs.specs.declared.at.Op.TheVariants.{Save, Read}
use Rattle.ft_pairs.specs.declared.role.Role.{Role}
use Rattle.ft_pairs.specs.declared.role.Role.TheVariants.{Plain, Saves, Reads}
use Rattle.ft_pairs.specs.declared.role.Variable.{Variable}
use Rattle.ft_pairs.specs.Next.{IsNext}
use Rattle.ft_shelves.specs.Changes.{change_mark, on_insert, sign_of, op_after, set_op, PlaceIsFree, with_change}
use Rattle.ft_shelves.specs.Shelves.{Shelved, is_saver, Shelves, admits_on, kept_on, role_on}
use Rattle.ft_shelves.specs.declared.sign.Sign.{Sign}
use Rattle.ft_shelves.specs.declared.sign.Sign.TheVariants.{Insert, Retract}
use Rattle.ft_shelves.specs.Following.{HitFollows, switched, IsUnsaved, MovesKeys}
use Rattle.ft_shelves.specs.Switches.{Members, differ}
use Rattle.ft_shelves.specs.declared.saver.Moved.{Moved}
use Rattle.ft_table.specs.Tabled.{is_in}
use Rattle.ft_table.specs.Values.{values_at, ValuesBy, values_by}
use Rattle.ft_table.specs.Hits.{Hits}
use Rattle.ft_kept.specs.Signs.{act_before, act_after}
use Rattle.ft_kept.specs.declared.act.Act.{Act}
use Rattle.ft_kept.specs.inner.Changing.{change_by, change_of, IsInPlace, MayChange, acts_after, HasChanged}
use Rattle.ft_kept.specs.Acts.{Acts, op_of}
use Rattle.ft_kept.specs.Entries.{HitsHere, one_hit, IsEntry, hits_here, read_here}
use Rattle.ft_kept.specs.inner.Joining.{IsNoReader}
use Rattle.ft_kept.specs.Changes.{HasTold, HasToldFew, HitsStayBut, Tells, whose_of}
use Rattle.ft_kept.specs.Views.{triggers_of}
use Rattle.ft_kept.specs.declared.changes.Whose.TheVariants.{Trigger}
use Rattle.ft_kept.specs.declared.changes.Changes.{Changes}
use Rattle.ft_kept.specs.inner.Edits.{OneHitChanges, mark_at}
use Rattle.ft_kept.specs.inner.Telling.{own_key}
use Rattle.ft_kept.specs.inner.Readings.{IsReadRight, IsSwitched}
use Rattle.ft_kept.specs.inner.Saving.{HasFollowed, IsMoved, MovedAreSettled, ReadsMoved, variable_at}
use Rattle.ft_shelves.proofs.Edge.{undiffering}
use Rattle.ft_shelves.proofs.Decided.{at_decided, decided, itself, key_decided, tied, untied, none_not_some}
use Rattle.ft_kept.proofs.Forms.{IsEdited, admits_by, by_id, edited_admits, edited_but, edited_forms, edited_here, edited_hits, edited_read, forms_trans, hit_comes, hit_goes, hits_by, ops_by, read_by, role_at, same_admits, same_ops}
use Rattle.ft_kept.proofs.Staleness.{others_stay, same_ops_of}
use Rattle.ft_kept.proofs.Told.{few_own, not_told, readings_same}
use Rattle.ft_kept.proofs.Views.{one_changes as one_acts, set_apart, set_here, values_there}
use Rattle.ft_kept.proofs.FewPuts.{savers_but, savers_stay}
use Rattle.ft_kept.proofs.InPlace.{are_views, can_settle, right_but}

-- of either sign it is so many at most
pub inserts_at_most : (sign : Sign) (n : ℕ) → on_insert sign n ≤ n
inserts_at_most Insert n = omega arith
inserts_at_most Retract n = omega arith

-- a place of the trigger with an id
abbrev pub place : ℕ → Pos → At
place id p = record { pos = p; trigger = id }

module _ (act : Act) where
  abbrev own_mark : Mark
  own_mark = mark_at act.at.pos act.key

  -- the change has the act's mark and its sign
  pub mark_is : (sign : Sign) → change_mark (change_by sign act) ≡ own_mark
  mark_is Insert = refl
  mark_is Retract = refl

  pub sign_is : (sign : Sign) → sign_of (change_by sign act) ≡ sign
  sign_is Insert = refl
  sign_is Retract = refl

  -- what its hit adds, if it comes
  abbrev hit_after : Sign → Option (List ℤ)
  hit_after sign = option_map (λ a. values_at act.trigger.now act.at.pos a.1 None) (act_after sign (act.key, act.event.now))

  -- on a shelf its own hit changes
  one_changes_on : (sign : Sign) (shelf : Shelved) (ops : OpsByKey) → map.get shelf.readings act.at.pos ≡ None → OneHitChanges act.at.pos act.key (hit_after sign) None shelf (record (with_change (change_by sign act) shelf) { ops = ops })
  one_changes_on Insert shelf ops none = hit_comes act.at.pos act.key (values_at act.trigger.now act.at.pos act.event.now None) shelf ops none
  one_changes_on Retract shelf ops none = hit_goes act.at.pos act.key shelf ops

-- ---- the operations on what it saves

-- what a trigger that reads nothing does to its own variable: it saves at a hit, if it is a saver whose table has the key
abbrev pub saved : Bool → Option (List ℤ) → Option Op
saved within hit = if within then (if is_some hit then Some Save else None) else None

-- the saves on a shelf follow its table
abbrev pub SavesFollow : ℕ → Shelved → Type 0
SavesFollow id shelf = (k : List Part) (p : Pos) → ops_of shelf.ops k (place id p) ≡ saved (is_saver shelf.role && is_in shelf.table k) (map.get shelf.table.hits (mark_at p k))

pub saved_none : (within : Bool) → saved within None ≡ None
saved_none true = refl
saved_none false = refl

module _ (admits : Admits) (variable : Variable) (id : ℕ) (key : List Part) (other : variable.saver ≡ id → ⊥) where
  unlike : eq_by_cmp variable_cmp variable (record { saver = id; key = key }) ≡ false
  unlike = untied variable_cmp_total variable_same variable (record { saver = id; key = key }) (λ e. other (ap (λ (v : Variable). v.saver) e))

  -- a saver saves nothing but its own
  saves_no_other : op_as admits Saves variable id key ≡ None
  saves_no_other = ap (λ b. if b then (if admits id key then Some Save else None) else None) unlike

  -- so what other triggers do to a variable is to read it
  reads_alone_as : (role : Role) → if_read (op_as admits role variable id key) ≡ op_as admits role variable id key
  reads_alone_as Plain = refl
  reads_alone_as Saves = ap if_read saves_no_other ∙ sym saves_no_other
  reads_alone_as (Reads saver) = elim (eq_by_cmp variable_cmp variable (record { saver = saver; key = key })) as (λ b. if_read (if b then Some Read else None) ≡ (if b then Some Read else None)) [ true ↦ refl | false ↦ refl ]

module _ (role : ℕ → Role) (admits : Admits) (acts : Acts) where
  pub only_reads : (variable : Variable) (q : At) → (variable.saver ≡ q.trigger → ⊥) → if_read (op_of role admits acts variable q) ≡ op_of role admits acts variable q
  unfolding op_of
  only_reads variable q other = elim (acts q) as (λ o. if_read (option_and_then (λ act. op_as admits (role q.trigger) variable q.trigger act.0) o) ≡ option_and_then (λ act. op_as admits (role q.trigger) variable q.trigger act.0) o) [
    | None ↦ refl
    | Some act ↦ reads_alone_as admits variable q.trigger act.0 other (role q.trigger)
  ]

-- what a trigger that reads nothing does to its own variable
module _ (admits : Admits) (id : ℕ) (k : List Part) (within : Bool) (value : List Part × Traced → List ℤ) where
  abbrev kept_by : Variable
  kept_by = record { saver = id; key = k }

  own_ties : (key : List Part) → eq_by_cmp variable_cmp kept_by (record { saver = id; key = key }) ≡ same_key k key
  own_ties key = sym (tied_then (nat_cmp id id) (key_cmp k key)) ∙ ap (λ b. b && is_eq (key_cmp k key)) (itself nat_cmp_total id)

  saved_as : (role : Role) → IsNoReader role → admits id k ≡ (is_saver role && within) → (act : Option (List Part × Traced))
      → option_and_then (λ act. op_as admits role kept_by id act.0) act ≡ saved (is_saver role && within) (option_and_then (λ act. one_hit act.0 (Some (value act)) k) act)
  saved_as Plain unread is None = refl
  saved_as Plain unread is (Some act) = refl
  saved_as Saves unread is None = sym (saved_none within)
  saved_as Saves unread is (Some act) = ap (λ b. if b then (if admits id act.0 then Some Save else None) else None) (own_ties act.0)
      ∙ elim (same_key k act.0) as (λ b. same_key k act.0 ≡ b → (if b then (if admits id act.0 then Some Save else None) else None) ≡ saved within (if b then Some (value act) else None)) [
        | true ↦ λ tie. ap (λ b. if b then Some Save else None) (ap (admits id) (sym (tied key_cmp_total key_same k act.0 tie)) ∙ is)
        | false ↦ λ _. sym (saved_none within)
      ] refl
  saved_as (Reads saver) unread is act = absurd (elim unread [ inl e ↦ cc | inr e ↦ cc ])

  pub saved_op : (role : ℕ → Role) (acts : Acts) (p : Pos) → IsNoReader (role id) → admits id k ≡ (is_saver (role id) && within)
      → op_of role admits acts kept_by (place id p) ≡ saved (is_saver (role id) && within) (option_and_then (λ act. one_hit act.0 (Some (value act)) k) (acts (place id p)))
  unfolding op_of
  saved_op role acts p unread is = saved_as (role id) unread is (acts (place id p))

-- as the key comes in, goes out or stays, the place's save follows, if it did before
switched_saved : (id : ℕ) (k : List Part) (p : Pos) (hits : Hits) (ops : Ops) (was now : Bool) → ops (place id p) ≡ saved was (map.get hits (mark_at p k))
    → switched was now hits id k ops (place id p) ≡ saved now (map.get hits (mark_at p k))
switched_saved id k p hits ops true true e = e
switched_saved id k p hits ops true false e = ap if_read e ∙ elim (map.get hits (mark_at p k)) as (λ hit. if_read (saved true hit) ≡ None) [ None ↦ refl | Some v ↦ refl ]
switched_saved id k p hits ops false true e =
    ap (λ b. if b && is_some (map.get hits (mark_at p k)) then Some Save else ops (place id p)) (itself nat_cmp_total id)
    ∙ ap (λ (o : Option Op). if is_some (map.get hits (mark_at p k)) then Some Save else o) e
switched_saved id k p hits ops false false e = e

-- a saver's shelf; each key's operations follow its table
module _ (act : Act) (shelf now : Shelved) (follows : HitFollows act.at.trigger (change_of act) shelf now) where
  abbrev with_save : Mark → List Part → Ops
  with_save m k = if same_key k m.key && is_in shelf.table m.key then set_op (place act.at.trigger m.spot.pos) (op_after (sign_of (change_of act)) Save) (ops_of shelf.ops k) else ops_of shelf.ops k

  -- the reads of other triggers stay
  pub reads_stay : (k : List Part) (q : At) → (q.trigger ≡ act.at.trigger → ⊥) → if_read (ops_of shelf.ops k q) ≡ ops_of shelf.ops k q → ops_of now.ops k q ≡ ops_of shelf.ops k q
  reads_stay k q other reads = follows.ops k q ∙ by (is_in shelf.table k) (is_in now.table k)
    where
      save_apart : (m : Mark) → with_save m k q ≡ ops_of shelf.ops k q
      save_apart m = elim (same_key k m.key && is_in shelf.table m.key) as (λ b. (if b then set_op (place act.at.trigger m.spot.pos) (op_after (sign_of (change_of act)) Save) (ops_of shelf.ops k) else ops_of shelf.ops k) q ≡ ops_of shelf.ops k q) [
        | true ↦ ap (λ b. if b then op_after (sign_of (change_of act)) Save else ops_of shelf.ops k q) (untied at_cmp_total at_same q (place act.at.trigger m.spot.pos) (λ e. other (ap (λ (p : At). p.trigger) e)))
        | false ↦ refl
      ]

      by : (w n : Bool) → switched w n now.table.hits act.at.trigger k (with_save (change_mark (change_of act)) k) q ≡ ops_of shelf.ops k q
      by true true = save_apart (change_mark (change_of act))
      by true false = ap if_read (save_apart (change_mark (change_of act))) ∙ reads
      by false true =
          ap (λ b. if b && is_some (map.get now.table.hits (mark_at q.pos k)) then Some Save else with_save (change_mark (change_of act)) k q) (untied nat_cmp_total nat_cmp-IsAntisymmetric q.trigger act.at.trigger other)
          ∙ save_apart (change_mark (change_of act))
      by false false = save_apart (change_mark (change_of act))

  -- and its own saves follow its table
  module _ (changes : OneHitChanges act.at.pos act.key (hit_after act act.sign) None shelf now) (saves : shelf.role ≡ Saves) (before : SavesFollow act.at.trigger shelf) where
    abbrev late : List Part → Pos → Option (List ℤ)
    late k p = map.get now.table.hits (mark_at p k)

    early : (k : List Part) (p : Pos) → ops_of shelf.ops k (place act.at.trigger p) ≡ saved (is_in shelf.table k) (map.get shelf.table.hits (mark_at p k))
    early k p = before k p ∙ ap (λ r. saved (is_saver r && is_in shelf.table k) (map.get shelf.table.hits (mark_at p k))) saves

    saved_here : (sign : Sign) → op_after (sign_of (change_by sign act)) Save ≡ saved true (hit_after act sign)
    saved_here Insert = refl
    saved_here Retract = refl

    saved_apart : (k : List Part) (p : Pos) → (mark_at p k ≡ mark_at act.at.pos act.key → ⊥) → ops_of shelf.ops k (place act.at.trigger p) ≡ saved (is_in shelf.table k) (late k p)
    saved_apart k p apart = early k p ∙ ap (saved (is_in shelf.table k)) (sym (changes.hits (mark_at p k) apart))

    own_saved : (p : Pos) (w : Bool) → is_in shelf.table act.key ≡ w → (if w then set_op act.at (op_after (sign_of (change_of act)) Save) (ops_of shelf.ops act.key) else ops_of shelf.ops act.key) (place act.at.trigger p) ≡ saved w (late act.key p)
    own_saved p false is = early act.key p ∙ ap (λ w. saved w (map.get shelf.table.hits (mark_at p act.key))) is
    own_saved p true is = elim (decided pos_cmp_total pos_same p act.at.pos) [
      | inl here ↦ subst (λ x. set_op act.at (op_after (sign_of (change_of act)) Save) (ops_of shelf.ops act.key) (place act.at.trigger x) ≡ saved true (late act.key x)) (sym here)
          (ap (λ b. if b then op_after (sign_of (change_of act)) Save else ops_of shelf.ops act.key act.at) (itself at_cmp_total act.at) ∙ saved_here act.sign ∙ sym (ap (saved true) changes.hit))
      | inr apart ↦
          ap (λ b. if b then op_after (sign_of (change_of act)) Save else ops_of shelf.ops act.key (place act.at.trigger p)) (untied at_cmp_total at_same (place act.at.trigger p) act.at (λ e. apart (ap (λ (q : At). q.pos) e)))
          ∙ saved_apart act.key p (λ e. apart (ap (λ (m : Mark). m.spot.pos) e))
          ∙ ap (λ w. saved w (late act.key p)) is
    ]

    all_saved : (k : List Part) (p : Pos) → with_save (mark_at act.at.pos act.key) k (place act.at.trigger p) ≡ saved (is_in shelf.table k) (late k p)
    all_saved k p = elim (key_decided k act.key) [
      | inl own ↦ subst (λ x. with_save (mark_at act.at.pos act.key) x (place act.at.trigger p) ≡ saved (is_in shelf.table x) (late x p)) (sym own)
          (ap (λ b. (if b && is_in shelf.table act.key then set_op act.at (op_after (sign_of (change_of act)) Save) (ops_of shelf.ops act.key) else ops_of shelf.ops act.key) (place act.at.trigger p)) (itself key_cmp_total act.key)
          ∙ own_saved p (is_in shelf.table act.key) refl)
      | inr apart ↦
          ap (λ b. (if b && is_in shelf.table act.key then set_op act.at (op_after (sign_of (change_of act)) Save) (ops_of shelf.ops k) else ops_of shelf.ops k) (place act.at.trigger p)) (untied key_cmp_total key_same k act.key apart)
          ∙ saved_apart k p (λ e. apart (ap (λ (m : Mark). m.key) e))
    ]

    pub saves_follow : SavesFollow act.at.trigger now
    saves_follow k p =
        follows.ops k (place act.at.trigger p)
        ∙ switched_saved act.at.trigger k p now.table.hits (with_save (change_mark (change_of act)) k) (is_in shelf.table k) (is_in now.table k)
        (subst (λ m. with_save m k (place act.at.trigger p) ≡ saved (is_in shelf.table k) (late k p)) (sym (mark_is act act.sign)) (all_saved k p))
        ∙ ap (λ r. saved (is_saver r && is_in now.table k) (map.get now.table.hits (mark_at p k))) (sym (ap (λ (s : Shelved). s.role) follows.shelf ∙ saves))

-- ---- what is kept of it

-- the hits at a place of a trigger that reads nothing, by its act
abbrev counted : ValuesBy → At → Option (List Part × Traced) → HitsHere
counted values at act key = option_and_then (λ a. one_hit a.0 (Some (values at.trigger at.pos a.1 None)) key) act

-- it has its hits, and nothing was read
abbrev IsUnread : ValuesBy → At → Option (List Part × Traced) → HitsHere → Option Pos → Type 0
IsUnread values at act hits read = (read ≡ None) × ((key : List Part) → hits key ≡ counted values at act key)

-- which is what its entry says
module _ (values : ValuesBy) (ops : Variable → Ops) (at : At) (hits : HitsHere) (read : Option Pos) where
  entry_is : (role : Role) → IsNoReader role → (act : Option (List Part × Traced)) → ◌≡◌ {A = Type 0} (IsEntry values ops at role act hits read) (IsUnread values at act hits read)
  entry_is Plain unread None = refl
  entry_is Plain unread (Some act) = refl
  entry_is Saves unread None = refl
  entry_is Saves unread (Some act) = refl
  entry_is (Reads saver) unread act = absurd (elim unread [ inl e ↦ cc | inr e ↦ cc ])

module _ (act : Act) (acts : Acts) (old : Shelves) (may : MayChange act acts old) (unread : IsNoReader (role_on old act.at.trigger))
    (shelf : Shelved) (was : map.get old act.at.trigger ≡ Some shelf) where
  abbrev at : At
  at = act.at

  abbrev id : ℕ
  id = act.at.trigger

  abbrev own : List Part × Traced
  own = (act.key, act.event.now)

  abbrev after : Acts
  after = acts_after act acts

  abbrev values : ValuesBy
  values = values_by (triggers_of act.scene)

  abbrev variable : List Part → Variable
  variable k = record { saver = id; key = k }

  -- its role is that of its shelf
  shelf_role : role_on old id ≡ shelf.role
  shelf_role = role_at old id (Some shelf) was

  -- at each of its places it counts its act, and nothing was read
  before_at : (p : Pos) → IsUnread values (place id p) (acts (place id p)) (hits_here (kept_on old) (place id p)) (read_here (kept_on old) (place id p))
  before_at p = subst (λ X. X) (entry_is values (kept_on old).ops (place id p) (hits_here (kept_on old) (place id p)) (read_here (kept_on old) (place id p)) (role_on old id) unread (acts (place id p))) (may.views.kept.entries (place id p))

  before_here : IsUnread values at (act_before act.sign own) (hits_here (kept_on old) at) (read_here (kept_on old) at)
  before_here = subst (λ o. IsUnread values at o (hits_here (kept_on old) at) (read_here (kept_on old) at)) may.was (before_at at.pos)

  -- so its operations follow its table
  own_op : (shelves : Shelves) (s : Shelved) → map.get shelves id ≡ Some s → role_on old id ≡ s.role → (now : Acts) (p : Pos)
      → ((k : List Part) → hits_here (kept_on shelves) (place id p) k ≡ counted values (place id p) (now (place id p)) k) → (k : List Part)
      → op_of (role_on old) (admits_on shelves) now (variable k) (place id p) ≡ saved (is_saver s.role && is_in s.table k) (map.get s.table.hits (mark_at p k))
  own_op shelves s is role now p counts k =
      saved_op (admits_on shelves) id k (is_in s.table k) (λ a. values id p a.1 None) (role_on old) now p unread (admits_by shelves id (Some s) is k ∙ ap (λ r. is_saver r && is_in s.table k) (sym role))
      ∙ (λ i. saved (is_saver (role i) && is_in s.table k) ((sym (counts k) ∙ hits_by shelves id (Some s) is (mark_at p k)) i))

  saves_before : SavesFollow id shelf
  saves_before k p =
      sym (ops_by old id (Some shelf) was k (place id p))
      ∙ may.views.kept.ops (variable k) (place id p)
      ∙ own_op old shelf was shelf_role acts p (before_at p).1 k

  -- no hit stands where one comes
  pub hit_free : PlaceIsFree (change_of act) shelf.table.hits
  hit_free = by act.sign before_here
    where
      by : (sign : Sign) → IsUnread values at (act_before sign own) (hits_here (kept_on old) at) (read_here (kept_on old) at) → PlaceIsFree (change_by sign act) shelf.table.hits
      by Insert e = sym (hits_by old id (Some shelf) was (mark_at at.pos act.key)) ∙ e.1 act.key
      by Retract e = tt

  -- ---- afterwards: its saves follow its table, and reads stay

  module _ (new : Shelves) (now : Shelved) (is : map.get new id ≡ Some now) (others : (i : ℕ) → (i ≡ id → ⊥) → map.get new i ≡ map.get old i)
      (changes : now ≡ record (with_change (change_of act) shelf) { ops = now.ops }) where
    abbrev edit : IsEdited at act.key (hit_after act act.sign) None old new
    edit = record {
      shelf = shelf;
      after = now;
      was = was;
      is = is;
      others = others;
      changes = subst (OneHitChanges at.pos act.key (hit_after act act.sign) None shelf) (sym changes) (one_changes_on act act.sign shelf now.ops (sym (read_by old id (Some shelf) was at.pos) ∙ before_here.0));
    }

    -- its own place has what the act says
    after_here : IsUnread values at (act_after act.sign own) (hits_here (kept_on new) at) (read_here (kept_on new) at)
    after_here = (edited_read edit, λ k. edited_here edit (λ x apart. before_here.1 x ∙ none_there act.sign x apart) k ∙ here act.sign k)
      where
        none_there : (sign : Sign) (k : List Part) → (k ≡ act.key → ⊥) → counted values at (act_before sign own) k ≡ None
        none_there Insert k apart = refl
        none_there Retract k apart = ap (λ b. if b then Some (values id at.pos act.event.now None) else None) (untied key_cmp_total key_same k act.key apart)

        here : (sign : Sign) (k : List Part) → one_hit act.key (hit_after act sign) k ≡ counted values at (act_after sign own) k
        here Insert k = ap (λ v. one_hit act.key (Some v) k) (sym (values_there (triggers_of act.scene) id act.trigger.now at.pos act.event.now None may.attached))
        here Retract k = cond_same (same_key k act.key) None

    after_at : (p : Pos) (k : List Part) → hits_here (kept_on new) (place id p) k ≡ counted values (place id p) (after (place id p)) k
    after_at p k = elim (decided pos_cmp_total pos_same p at.pos) [
      | inl here ↦ subst (λ x. hits_here (kept_on new) (place id x) k ≡ counted values (place id x) (after (place id x)) k) (sym here)
          (after_here.1 k ∙ ap (λ o. counted values at o k) (sym (set_here acts at (act_after act.sign own))))
      | inr other ↦
          let apart : place id p ≡ at → ⊥ = (λ e. other (ap (λ (q : At). q.pos) e)) in
          (edited_but edit (place id p) apart).0 k ∙ (before_at p).1 k ∙ ap (λ o. counted values (place id p) o k) (sym (set_apart acts at (act_after act.sign own) (place id p) apart))
    ]

    module _ (reads_stay : (k : List Part) (q : At) → (q.trigger ≡ id → ⊥) → ops_of now.ops k q ≡ ops_of shelf.ops k q) (follow : SavesFollow id now) where
      -- the operations on what it saves
      own_ops : (k : List Part) (q : At) → (kept_on new).ops (variable k) q ≡ op_of (role_on old) (admits_on new) after (variable k) q
      own_ops k q = by_id (λ i. (kept_on new).ops (variable k) (place i q.pos) ≡ op_of (role_on old) (admits_on new) after (variable k) (place i q.pos)) id
          (ops_by new id (Some now) is k (place id q.pos) ∙ follow k q.pos ∙ sym (own_op new now is (shelf_role ∙ sym edit.changes.form.role) after q.pos (after_at q.pos) k))
          (λ i apart.
          let at_other : At = place i q.pos in
          ops_by new id (Some now) is k at_other
          ∙ reads_stay k at_other apart
          ∙ sym (ops_by old id (Some shelf) was k at_other)
          ∙ may.views.kept.ops (variable k) at_other
          ∙ sym (same_ops_of (role_on old) (admits_on old) (admits_on new) acts after (variable k) at_other (same_admits old new i (others i apart))
          (set_apart acts at (act_after act.sign own) at_other (λ e. apart (ap (λ (p : At). p.trigger) e))))) q.trigger

      own_variable : (v : Variable) → variable_of (role_on old id) id act.key ≡ Some v → v.saver ≡ id
      own_variable v owns = elim unread [
        | inl plain ↦ absurd (none_not_some (variable_of (role_on old id) id act.key) v (ap (λ r. variable_of r id act.key) plain) owns)
        | inr saves ↦ ap (λ (o : Option Variable). (unwrap_or o v).saver) (sym owns ∙ ap (λ r. variable_of r id act.key) saves)
      ]

      -- so it is in its place
      pub in_place : IsInPlace act acts old new
      in_place = record {
        forms = edited_forms edit;
        ops = λ v q. by_id (λ i. (kept_on new).ops (record { saver = i; key = v.key }) q ≡ op_of (role_on old) (admits_on new) after (record { saver = i; key = v.key }) q) id (own_ops v.key q)
            (λ i other. let its : Variable = record { saver = i; key = v.key } in
            same_ops old new i (others i other) v.key q
            ∙ may.views.kept.ops its q
            ∙ sym (others_stay (role_on old) (admits_on old) (admits_on new) acts after at own (one_acts act.sign acts at own may.was) its (λ e. other (own_variable its e)) (same_admits old new i (others i other) v.key) q)) v.saver;
        stays = edited_but edit;
        right = subst (λ X. X) (sym (entry_is values (kept_on new).ops at (hits_here (kept_on new) at) (read_here (kept_on new) at) (role_on old id) unread (after at)))
            (subst (λ o. IsUnread values at o (hits_here (kept_on new) at) (read_here (kept_on new) at)) (sym (set_here acts at (act_after act.sign own))) after_here);
      }

    -- its key tells what changed
    own_stay : HitsStayBut (own_key id act.key) old new
    own_stay i mark none = edited_hits edit i mark
        (λ same here. not_told (record { whose = Trigger id; key = act.key }) (whose_of (role_on old i) i) mark.key none (subst (λ j. whose_of (role_on old j) j ≡ Trigger id) (sym same) own_hits) (ap (λ (m : Mark). m.key) here))
      where
        own_hits : whose_of (role_on old id) id ≡ Trigger id
        own_hits = elim unread [ inl plain ↦ ap (λ r. whose_of r id) plain | inr saves ↦ ap (λ r. whose_of r id) saves ]

    found_same : SameFindings (kept_on old).read (kept_on new).read
    found_same i p = elim (at_decided (record { pos = p; trigger = i }) at) [
      | inl same ↦ subst (λ (q : At). (kept_on new).read q.trigger q.pos ≡ (kept_on old).read q.trigger q.pos) (sym same) (after_here.0 ∙ sym before_here.0)
      | inr apart ↦ (edited_but edit (record { pos = p; trigger = i }) apart).1
    ]

    pub own_told : (before after : Changes) → Tells (own_key id act.key) before.keys after.keys → after.readings ≡ before.readings → HasTold (own_key id act.key) before after old new
    own_told before after tells same = record { told = tells; under = record { hits = own_stay; readings = readings_same before.readings after.readings old new same found_same } }

  -- ---- a trigger without a variable: nothing is left to settle

  module _ (plain : role_on old id ≡ Plain) (new : Shelves) (now : Shelved) (is : map.get new id ≡ Some now) (others : (i : ℕ) → (i ≡ id → ⊥) → map.get new i ≡ map.get old i)
      (changes : now ≡ with_change (change_of act) shelf) where
    was_plain : shelf.role ≡ Plain
    was_plain = sym shelf_role ∙ plain

    now_plain : now.role ≡ Plain
    now_plain = ap (λ (s : Shelved). s.role) changes ∙ was_plain

    -- only its table and what readings found changed
    but_ops : now ≡ record (with_change (change_of act) shelf) { ops = now.ops }
    but_ops = changes ∙ (λ i. record (with_change (change_of act) shelf) { ops = (sym changes i).ops })

    saves_nothing : SavesFollow id now
    saves_nothing k p =
        ap (λ (s : Shelved). ops_of s.ops k (place id p)) changes
        ∙ saves_before k p
        ∙ ap (λ r. saved (is_saver r && is_in shelf.table k) (map.get shelf.table.hits (mark_at p k))) was_plain
        ∙ sym (ap (λ r. saved (is_saver r && is_in now.table k) (map.get now.table.hits (mark_at p k))) now_plain)

    placed : IsInPlace act acts old new
    placed = in_place new now is others but_ops (λ k q apart. ap (λ (s : Shelved). ops_of s.ops k q) changes) saves_nothing

    -- the keys that savers' tables have stay
    admits_stay : (i : ℕ) (k : List Part) → admits_on new i k ≡ admits_on old i k
    admits_stay = edited_admits old new id shelf now was is others (ap is_saver was_plain) (ap (λ (s : Shelved). s.role) changes)

    all_right : (q : At) → IsReadRight after new q
    all_right q = elim (right_but act acts old may new placed None (λ v owns. absurd (none_not_some (variable_of (role_on old id) id act.key) v (ap (λ r. variable_of r id act.key) plain) owns)) q) [
      | inl right ↦ right
      | inr (inl next) ↦ absurd (none_not_some None (q, Read) refl next)
      | inr (inr s) ↦ absurd (s.moved (admits_stay s.variable.saver s.variable.key))
    ]

    pub plain_changed : HasChanged act acts old new
    plain_changed = record {
      forms = placed.forms;
      savers = savers_but id old new others;
      views = are_views act.scene after new (can_settle act acts old may new placed) all_right;
    }

    pub plain_told : (before after : Changes) → Tells (own_key id act.key) before.keys after.keys → after.readings ≡ before.readings → HasToldFew ((id, act.trigger.now) ∷ []) before after old new
    plain_told before after tells same = record { keys = own_key id act.key; few = few_own (role_on old) id act.trigger.now act.key; told = own_told new now is others but_ops before after tells same }

  -- ---- a saver: its keys may move

  module _ (saves : role_on old id ≡ Saves) where
    was_saver : shelf.role ≡ Saves
    was_saver = sym shelf_role ∙ saves

    -- nothing stands where it comes
    pub unsaved : IsUnsaved id (change_of act) shelf
    unsaved = by act.sign hit_free
      where
        by : (sign : Sign) → PlaceIsFree (change_by sign act) shelf.table.hits → IsUnsaved id (change_by sign act) shelf
        by Insert free =
            let within : Bool = is_saver shelf.role && is_in shelf.table act.key in
            (free, saves_before act.key at.pos ∙ ap (saved within) free ∙ saved_none within)
        by Retract free = tt

    -- keys outside have no saves
    pub outside : (k : List Part) → is_in shelf.table k ≡ false → (p : Pos) → ops_of shelf.ops k (place id p) ≡ None
    outside k out p = saves_before k p ∙ (λ i. saved (is_saver (was_saver i) && out i) (map.get shelf.table.hits (mark_at p k)))

    module _ (new : Shelves) (now : Shelved) (is : map.get new id ≡ Some now) (others : (i : ℕ) → (i ≡ id → ⊥) → map.get new i ≡ map.get old i) (follows : HitFollows id (change_of act) shelf now)
        (moves : Moved) (moved : MovesKeys (change_mark (change_of act)).key moves (is_in shelf.table) (is_in now.table)) where
      reads_before : (k : List Part) (q : At) → (q.trigger ≡ id → ⊥) → if_read (ops_of shelf.ops k q) ≡ ops_of shelf.ops k q
      reads_before k q apart = subst (λ o. if_read o ≡ o) (sym (may.views.kept.ops (variable k) q) ∙ ops_by old id (Some shelf) was k q)
          (only_reads (role_on old) (admits_on old) acts (variable k) q (λ e. apart (sym e)))

      admitted : (shelves : Shelves) (s : Shelved) → map.get shelves id ≡ Some s → s.role ≡ Saves → (k : List Part) → is_in s.table k ≡ admits_on shelves id k
      admitted shelves s is role k = sym (admits_by shelves id (Some s) is k ∙ ap (λ r. is_saver r && is_in s.table k) role)

      -- the operations on what it saves have followed
      pub followed : HasFollowed act acts moves old new
      followed = record {
        placed = in_place new now is others follows.shelf (λ k q apart. reads_stay act shelf now follows k q apart (reads_before k q apart))
            (saves_follow act shelf now follows (edit new now is others follows.shelf).changes was_saver saves_before);
        others = others;
        moved = subst (λ (x : List Part × (Members × Members)). MovesKeys x.0 moves x.1.0 x.1.1)
            (λ i. ((mark_is act act.sign i).key, (λ k. admitted old shelf was was_saver k i, λ k. admitted new now is (ap (λ (s : Shelved). s.role) follows.shelf ∙ was_saver) k i))) moved;
      }

-- a saver has a shelf
pub saver_there : (shelves : Shelves) (id : ℕ) → role_on shelves id ≡ Saves → map.get shelves id ≡ None → ⊥
saver_there shelves id saves none = absurd (true≢false (sym (ap is_saver saves) ∙ ap is_saver (role_at shelves id None none)))

-- ---- keys of a saver that moved, and then the readings

same_differ : (was now : Bool) → now ≡ was → differ was now ≡ false
same_differ true now e = ap not e
same_differ false now e = e

-- a key that is in a table on one side only moved
is_moved : (key : List Part) (moves : Moved) (was now : Members) → MovesKeys key moves was now → (k : List Part) → (now k ≡ was k → ⊥) → IsMoved key moves k
is_moved key moves was now moved k differs = elim (key_decided k key) [
  | inl own ↦ inl (by moves.own refl own, own)
  | inr apart ↦ other moves.other refl apart
]
  where
    by : (b : Bool) → moves.own ≡ b → k ≡ key → moves.own ≡ true
    by true is own = is
    by false is own = absurd (differs (undiffering (was k) (now k) (subst (λ x. differ (was x) (now x) ≡ false) (sym own) (sym moved.itself ∙ is))))

    other : (o : Option (List Part)) → moves.other ≡ o → (k ≡ key → ⊥) → IsMoved key moves k
    other None is apart = absurd (differs (moved.stayed k apart (λ e. absurd (cc))))
    other (Some x) is apart = elim (key_decided x k) [
      | inl it ↦ inr (is ∙ ap (λ k. Some k) it)
      | inr not_it ↦ absurd (differs (moved.stayed k apart (λ e. not_it (cc))))
    ]

module _ (act : Act) (acts : Acts) (old : Shelves) (may : MayChange act acts old) (saves : role_on old act.at.trigger ≡ Saves) (moves : Moved) (mid new : Shelves) (follows : HasFollowed act acts moves old mid)
    (settled : MovedAreSettled act (acts_after act acts) moves mid new) where
  -- what reads a key that moved is settled
  reads_moved : (q : At) → IsSwitched old mid q → ReadsMoved act moves mid q
  reads_moved q s = by_id (λ i. i ≡ s.variable.saver → ReadsMoved act moves mid q) act.at.trigger
      (λ own. let its : List Part = s.variable.key in (
        its,
        (
          is_moved act.key moves (admits_on old act.at.trigger) (admits_on mid act.at.trigger) follows.moved its (subst (λ i. admits_on mid i its ≡ admits_on old i its → ⊥) (sym own) s.moved),
          subst (λ i. (kept_on mid).ops (record { saver = i; key = its }) q ≡ Some Read) (sym own) s.reads,
        ),
      ))
      (λ i other here. absurd (s.moved (subst (λ j. admits_on mid j s.variable.key ≡ admits_on old j s.variable.key) here (same_admits old mid i (follows.others i other) s.variable.key)))) s.variable.saver refl

  -- the next operation is the one that was settled, unless its key moved
  next_is : (v : Variable) → variable_of (role_on old act.at.trigger) act.at.trigger act.key ≡ Some v → admits_on mid v.saver v.key ≡ admits_on old v.saver v.key → IsNext ((kept_on mid).ops v) (Some act.at) settled.next
  next_is v owns same = subst (λ w. IsNext ((kept_on mid).ops w) (Some act.at) settled.next) own (settled.is_next (follows.moved.itself ∙ same_differ (admits_on old act.at.trigger act.key) (admits_on mid act.at.trigger act.key) (subst (λ w. admits_on mid w.saver w.key ≡ admits_on old w.saver w.key) (sym own) same)))
    where
      own : variable_at act act.key ≡ v
      own = ap (λ o. unwrap_or o v) (sym (ap (λ r. variable_of r act.at.trigger act.key) saves) ∙ owns)

  saver_right : (q : At) → IsReadRight (acts_after act acts) new q
  saver_right q = settled.settled.right q (elim (right_but act acts old may mid follows.placed settled.next next_is q) [
    | inl is ↦ inl is
    | inr (inl next) ↦ inr (inl next)
    | inr (inr s) ↦ inr (inr (reads_moved q s))
  ])

  -- all is right
  pub saver_changed : HasChanged act acts old new
  saver_changed = record {
    forms = forms_trans old mid new follows.placed.forms settled.settled.readers.forms;
    savers = savers_stay act.at.trigger old mid new follows.placed.forms (savers_but act.at.trigger old mid follows.others) settled.settled.readers;
    views = are_views act.scene (acts_after act acts) new settled.settled.can saver_right;
  }
