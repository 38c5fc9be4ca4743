-- What is kept as a family gets new shelves, or as a trigger's shelf goes: outside the family all stays.
use Rattle.std.proofs.Common.{◌≡◌, ℕ, Bool, true, false, true≢false, List, refl, sym, ap, subst, ◌∙◌, Option, Some, None, ⊎_elim}
use Rattle.std.specs.Prelude.{if◌then◌else◌, option_and_then}
use Rattle.std.specs.FinMap as map
use Rattle.ft_pairs.specs.ByKey.{ops_of}
use Rattle.ft_base.specs.OneTrigger.{IsUnread, JoinsAs, ReadsNothing, is_in_family}
use Rattle.ft_repair.specs.ButOneTrigger.{AreKeptBut, AwaitFilter, OtherShelvesStay}
use Rattle.ft_repair.specs.inner.Joining.{CanLeave, is_one, with_acts}
use Rattle.ft_repair.proofs.Alike.{rest, acts_same, rest_same, rest_none, rest_no_act, same_ops, op_same, no_act_of, no_op_there, no_op_of, right_moves, right_none, shelf_same}
use Rattle.ft_repair.proofs.Families.{closed, inside_is, nothing_read, outside_apart}
use Rattle.ft_repair.proofs.KeptFor.{for_right, HaveShelves, input_is, kept_for, kept_of, merged_held, right_for}
use Rattle.ft_base.specs.Base.{Base, Triggers}
use Rattle.ft_base.specs.Reachable.{HasSavers}
use Rattle.ft_base.specs.Roles.{role_at}
use Rattle.ft_fields.specs.Places.{pos_cmp}
use Rattle.ft_fields.specs.declared.key.Part.{Part}
use Rattle.ft_fields.specs.declared.pos.Pos.{Pos}
use Rattle.ft_hist.specs.Hist.{Hist}
use Rattle.ft_kept.specs.Acts.{Acts, acts_of, op_of}
use Rattle.ft_kept.specs.Entries.{hits_here, IsKept, IsRight, read_here}
use Rattle.ft_kept.specs.Input.{input_of}
use Rattle.ft_kept.specs.Shelves.{admits_on, kept_on, Shelved, Shelves}
use Rattle.ft_lanes.specs.Held.{Lanes}
use Rattle.ft_maps.specs.Entries.{get-remove_other, get-remove_same}
use Rattle.ft_pairs.specs.Roles.{Admits}
use Rattle.ft_pairs.specs.declared.at.At.{At}
use Rattle.ft_pairs.specs.declared.role.Role.{Role}
use Rattle.ft_pairs.specs.declared.role.Role.TheVariants.{Reads, Saves}
use Rattle.ft_pairs.specs.declared.role.Variable.{Variable}
use Rattle.ft_repair.specs.KeptFor.{AreKeptFor}
use Rattle.ft_repair.specs.KeptShelves.{AreKept, AreKeptOf, HasItsShelf}
use Rattle.ft_repair.specs.Outside.{acts_outside, AreKeptOutside, AreRenewed, HasNewShelf}
use Rattle.ft_replay.specs.Merged.{Events, merged}
use Rattle.ft_table.specs.Spots.{traced}
use Rattle.ft_table.specs.Tabled.{Tabled}
use Rattle.ft_table.specs.Values.{values_by, ValuesBy}
use Rattle.std.proofs.lemmas.Bool.{cases_Bool, cases_eq, eq-eqb, eqb-false, eqb-true, ne_eqb}
use Rattle.std.proofs.lemmas.Option.{none-some}
use Rattle.std.specs.Cmp.{nat_cmp_total}
use Rattle.std.specs.FinMap.{get-empty, nat_cmp-IsAntisymmetric}
use Rattle.std.specs.Ordering.{nat_cmp}
use Rattle.ft_repair.proofs.EventLists.{outside_held}

-- ---- nothing is kept

-- nothing is kept of a trigger
pub record IsBare (shelves : Shelves) (id : ℕ) : Type 0 where
  pub hits : (pos : Pos) (key : List Part) → hits_here (kept_on shelves) (record { pos = pos; trigger = id }) key ≡ None
  pub read : (pos : Pos) → read_here (kept_on shelves) (record { pos = pos; trigger = id }) ≡ None
  pub ops : (key : List Part) (at : At) → (kept_on shelves).ops (record { saver = id; key = key }) at ≡ None

-- without a shelf, or on a new one, nothing is kept
bare_none : (shelves : Shelves) (id : ℕ) → map.get shelves id ≡ None → IsBare shelves id
unfolding kept_on
bare_none shelves id none = record {
  hits = λ pos key. ap (option_and_then (λ (s : Shelved). map.get s.table.hits (record { spot = traced pos; key = key }))) none;
  read = λ pos. ap (option_and_then (λ (s : Shelved). map.get s.readings pos)) none;
  ops = λ key at. ap (option_and_then (λ (s : Shelved). ops_of s.ops key at)) none;
}

bare_new : (triggers : Triggers) (hist : Hist) (shelves : Shelves) (id : ℕ) → HasNewShelf triggers hist (map.get shelves id) → IsBare shelves id
unfolding kept_on
bare_new triggers hist shelves id has = record {
  hits = λ pos key. ap (λ (o : Option Shelved). option_and_then (λ (s : Shelved). map.get s.table.hits (record { spot = traced pos; key = key })) o) has.1.0
      ∙ ap (λ (t : Tabled). map.get t.hits (record { spot = traced pos; key = key })) has.1.1.table ∙ get-empty _ _;
  read = λ pos. ap (λ (o : Option Shelved). option_and_then (λ (s : Shelved). map.get s.readings pos) o) has.1.0
      ∙ ap (λ m. map.get m pos) has.1.1.readings ∙ get-empty {X = Pos} pos_cmp pos;
  ops = λ key at. ap (λ (o : Option Shelved). option_and_then (λ (s : Shelved). ops_of s.ops key at) o) has.1.0 ∙ has.1.1.ops key at;
}

its_new : (triggers : Triggers) (hist : Hist) (shelf : Option Shelved) → HasNewShelf triggers hist shelf → HasItsShelf triggers (Some hist) shelf
its_new triggers hist shelf has = (
  has.0,
  (
    has.1.0,
    record {
      role = has.1.1.role;
      size = ap (λ (t : Tabled). t.size) has.1.1.table;
      traced = λ m _. ap (λ (t : Tabled). map.get t.hits m) has.1.1.table ∙ get-empty _ m;
    },
  ),
)

-- if nothing is kept, that is what no acts say
none_kept : (role : ℕ → Role) (values : ValuesBy) (admits : Admits) (acts : Acts) (shelves : Shelves) → ((at : At) → acts at ≡ None) → ((id : ℕ) → IsBare shelves id) → IsKept role values admits acts (kept_on shelves)
none_kept role values admits acts shelves none bare = record {
  ops = λ variable at. (bare variable.saver).ops variable.key at ∙ sym (no_op_there role admits acts variable at (none at));
  entries = λ at. right_none role values acts (kept_on shelves) at (none at) ((bare at.trigger).read at.pos) ((bare at.trigger).hits at.pos);
}

abbrev no_shelves : Shelves
no_shelves = map.empty

-- so it is without triggers
pub empty_kept : AreKept map.empty (merged map.empty) map.empty
empty_kept = record {
  each = λ id. subst (λ (o : Option Hist). HasItsShelf none o (map.get no_shelves id)) (sym (get-empty {X = Hist} nat_cmp id)) (get-empty {X = Shelved} nat_cmp id);
  kept = none_kept (role_at none) (values_by none) (admits_on no_shelves) (acts_of none (merged map.empty)) no_shelves
      (λ at. no_act_of none (merged map.empty) at (get-empty {X = Hist} nat_cmp at.trigger)) (λ id. bare_none no_shelves id (get-empty {X = Shelved} nat_cmp id));
}
  where
    none : Triggers
    none = map.empty

-- ---- outside a family all stays

-- triggers, acts and shelves outside a family stay, in which nothing is done to a variable outside; then nothing is kept of the family or done there, and no trigger outside reads a saver of it
record StaysOutside (family : ℕ → Bool) (triggers others : Triggers) (acts more : Acts) (old new : Shelves) : Type 0 where
  kept : IsKept (role_at triggers) (values_by triggers) (admits_on old) acts (kept_on old)
  same : (q : ℕ) → family q ≡ false → map.get others q ≡ map.get triggers q
  roles : (q : ℕ) → family q ≡ false → role_at others q ≡ role_at triggers q
  shelves : (q : ℕ) → family q ≡ false → map.get new q ≡ map.get old q
  act : (at : At) → family at.trigger ≡ false → more at ≡ acts at
  within : (variable : Variable) (at : At) → family variable.saver ≡ false → family at.trigger ≡ true → op_of (role_at triggers) (admits_on old) acts variable at ≡ None
  idle : (at : At) → family at.trigger ≡ true → more at ≡ None
  bare : (q : ℕ) → family q ≡ true → IsBare new q
  unread : (reader saver : ℕ) → family reader ≡ false → family saver ≡ true → role_at others reader ≡ Reads saver → ⊥

module _ {family : ℕ → Bool} {triggers others : Triggers} {acts more : Acts} {old new : Shelves} (is : StaysOutside family triggers others acts more old new) where
  -- who acts on a variable of the family is inside
  none_done : (variable : Variable) (at : At) → family variable.saver ≡ true → op_of (role_at others) (admits_on new) more variable at ≡ None
  none_done variable at its = ⊎_elim
      (λ inside. no_op_there (role_at others) (admits_on new) more variable at (is.idle at inside))
      (λ out. no_op_of (role_at others) (admits_on new) more variable at
      (λ _ saves. true≢false (sym its ∙ ap family (sym saves) ∙ out))
      (is.unread at.trigger variable.saver out its))
      (cases_Bool (family at.trigger))

  op_stays : (variable : Variable) (at : At) → family variable.saver ≡ false → op_of (role_at others) (admits_on new) more variable at ≡ op_of (role_at triggers) (admits_on old) acts variable at
  op_stays variable at out = ⊎_elim
      (λ inside. no_op_there (role_at others) (admits_on new) more variable at (is.idle at inside) ∙ sym (is.within variable at out inside))
      (λ apart. op_same (role_at triggers) (role_at others) old new acts more variable at (is.roles at.trigger apart) (is.shelves at.trigger apart) (is.act at apart))
      (cases_Bool (family at.trigger))

  ops : (variable : Variable) (at : At) → (kept_on new).ops variable at ≡ op_of (role_at others) (admits_on new) more variable at
  ops variable at = ⊎_elim
      (λ its. (is.bare variable.saver its).ops variable.key at ∙ sym (none_done variable at its))
      (λ out. same_ops old new variable.saver (is.shelves variable.saver out) variable.key at ∙ is.kept.ops variable at ∙ sym (op_stays variable at out))
      (cases_Bool (family variable.saver))

  -- a trigger outside reads a saver outside
  saver_stays : (reader saver : ℕ) → family reader ≡ false → role_at triggers reader ≡ Reads saver → map.get new saver ≡ map.get old saver
  saver_stays reader saver out reads = ⊎_elim
      (λ inside. absurd (is.unread reader saver out inside (is.roles reader out ∙ reads)))
      (is.shelves saver)
      (cases_Bool (family saver))

  right : (at : At) → IsRight (role_at others) (values_by others) more (kept_on new) at
  right at = ⊎_elim
      (λ inside. right_none (role_at others) (values_by others) more (kept_on new) at (is.idle at inside) ((is.bare at.trigger inside).read at.pos) ((is.bare at.trigger inside).hits at.pos))
      (λ out. right_moves triggers others acts more old new at (is.same at.trigger out) (is.roles at.trigger out) (is.act at out) (is.shelves at.trigger out)
      (λ saver reads key i q. same_ops old new saver (saver_stays at.trigger saver out reads) key q i)
      (is.kept.entries at))
      (cases_Bool (family at.trigger))

  stay_kept : IsKept (role_at others) (values_by others) (admits_on new) more (kept_on new)
  stay_kept = record { ops = ops; entries = right }

-- ---- a family gets new shelves

-- the others have their shelves, and without a trigger there is no shelf
module _ (triggers : Triggers) (family : ℕ → Bool) (old new : Shelves) (renewed : AreRenewed triggers family old new)
    (each : (id : ℕ) → family id ≡ false → HasItsShelf triggers (map.get triggers id) (map.get old id)) (none : (id : ℕ) → map.get triggers id ≡ None → map.get old id ≡ None) where
  inside_new : (id : ℕ) → family id ≡ true → IsBare new id × HasItsShelf triggers (map.get triggers id) (map.get new id)
  inside_new id inside =
      elim (map.get triggers id) as (λ (o : Option Hist). map.get triggers id ≡ o → IsBare new id × HasItsShelf triggers o (map.get new id)) [
        | None ↦ λ gone. let nowhere = renewed.none id gone ∙ none id gone in (bare_none new id nowhere, nowhere)
        | Some hist ↦ λ there. let has = renewed.fresh id hist inside there in (bare_new triggers hist new id has, its_new triggers hist (map.get new id) has)
      ] refl

  each_new : HaveShelves triggers new
  each_new id = ⊎_elim
      (λ inside. (inside_new id inside).1)
      (λ out. subst (HasItsShelf triggers (map.get triggers id)) (sym (renewed.stay id out)) (each id out))
      (cases_Bool (family id))

-- if all have new shelves, all are idle
pub new_idle : (triggers : Triggers) (lanes : Lanes) → HasSavers triggers → (shelves : Shelves) → AreRenewed triggers (λ _. true) map.empty shelves → AreKeptFor triggers lanes (acts_outside (λ _. true) triggers lanes) shelves
new_idle triggers lanes savers shelves renewed =
    right_for triggers lanes savers (acts_outside (λ _. true) triggers lanes) (outside_held triggers lanes (λ _. true)) shelves
    (each_new triggers (λ _. true) no_shelves shelves renewed outside nowhere)
    (none_kept (role_at triggers) (values_by triggers) (admits_on shelves) (acts_outside (λ _. true) triggers lanes) shelves (λ _. refl) (λ id. (inside_new triggers (λ _. true) no_shelves shelves renewed outside nowhere id refl).0))
  where
    outside : (id : ℕ) → true ≡ false → HasItsShelf triggers (map.get triggers id) (map.get no_shelves id)
    outside id out = absurd (true≢false out)

    nowhere : (id : ℕ) → map.get triggers id ≡ None → map.get no_shelves id ≡ None
    nowhere id _ = get-empty {X = Shelved} nat_cmp id

-- what was kept of triggers that are the same outside a family, in which nothing was done to a variable outside
module _ (before after : Triggers) (lanes : Lanes) (id : ℕ) (acts : Acts) (shelves : Shelves) (has : HaveShelves before shelves)
    (kept : IsKept (role_at before) (values_by before) (admits_on shelves) acts (kept_on shelves))
    (others : (at : At) → (at.trigger ≡ id → ⊥) → acts at ≡ acts_of before (merged lanes) at)
    (same : (q : ℕ) → (q ≡ id → ⊥) → map.get after q ≡ map.get before q)
    (roles : (q : ℕ) → (q ≡ id → ⊥) → role_at after q ≡ role_at before q)
    (none : map.get after id ≡ None → map.get before id ≡ None)
    (within : (variable : Variable) (at : At) → is_in_family after id variable.saver ≡ false → is_in_family after id at.trigger ≡ true
    → op_of (role_at before) (admits_on shelves) acts variable at ≡ None) where
  abbrev family : ℕ → Bool
  family = is_in_family after id

  abbrev apart : (q : ℕ) → family q ≡ false → q ≡ id → ⊥
  apart = outside_apart after id

  each : (q : ℕ) → family q ≡ false → HasItsShelf after (map.get after q) (map.get shelves q)
  each q out = shelf_same before after shelves shelves q (same q (apart q out)) (roles q (apart q out)) refl (has q)

  nowhere : (q : ℕ) → map.get after q ≡ None → map.get shelves q ≡ None
  nowhere q gone = subst (λ (o : Option Hist). HasItsShelf before o (map.get shelves q))
      (⊎_elim (λ here. ap (map.get before) here ∙ none (sym (ap (map.get after) here) ∙ gone)) (λ there. sym (same q there) ∙ gone) (cases_eq q id))
      (has q)

  outside_from : AreKeptOutside family after lanes shelves
  outside_from savers new renewed =
      let stays : StaysOutside family before after acts (acts_outside family after lanes) shelves new = record {
        kept = kept;
        same = λ q out. same q (apart q out);
        roles = λ q out. roles q (apart q out);
        shelves = renewed.stay;
        act = λ at out. ap (λ (b : Bool). if b then None else acts_of after (merged lanes) at) out ∙ acts_same before after (merged lanes) at (same at.trigger (apart at.trigger out)) ∙ sym (others at (apart at.trigger out));
        within = within;
        idle = λ at inside. ap (λ (b : Bool). if b then None else acts_of after (merged lanes) at) inside;
        bare = λ q inside. (inside_new after family shelves new renewed each nowhere q inside).0;
        unread = closed after id savers;
      } in
      right_for after lanes savers (acts_outside family after lanes) (outside_held after lanes family) new (each_new after family shelves new renewed each nowhere) (stay_kept stays)

-- ---- without a trigger that no other reads

but_outside : (triggers : Triggers) (lanes : Lanes) (id : ℕ) → IsUnread triggers id → (shelves : Shelves) → AreKept (map.remove triggers id) (merged lanes) shelves → AreKeptOutside (is_in_family triggers id) triggers lanes shelves
but_outside triggers lanes id unread shelves but = outside_from (map.remove triggers id) triggers lanes id (acts_of (map.remove triggers id) (merged lanes)) shelves but.each but.kept
    (λ _ _. refl)
    (λ q apart. sym (rest_same triggers id q apart))
    (λ q apart. sym (unread.others q apart))
    (λ _. rest_none triggers id id refl)
    (λ variable at _ inside. no_op_there (role_at (map.remove triggers id)) (admits_on shelves) (acts_of (map.remove triggers id) (merged lanes)) variable at
    (rest_no_act triggers id (merged lanes) at (alone at.trigger inside)))
  where
    -- its family is itself
    alone : (q : ℕ) → is_in_family triggers id q ≡ true → q ≡ id
    alone q inside = ⊎_elim (λ same. same) (λ reads. absurd (unread.unread q reads)) (inside_is triggers id q inside)

-- so it is as a trigger was attached
pub joins_outside : (old new : Base) (id : ℕ) (hist : Hist) → JoinsAs id hist old new → (shelves : Shelves) → AreKeptOf old shelves → AreKeptOutside (is_in_family new.triggers id) new.triggers new.lanes shelves
joins_outside old new id hist joins shelves kept = but_outside new.triggers new.lanes id joins.unread shelves (subst (λ (b : Base). AreKept b.triggers (merged b.lanes) shelves) (sym joins.before) kept)

-- ---- while a trigger gets another filter

abbrev pub saver_in : Role → ℕ
saver_in (Reads saver) = saver
saver_in role = 0

-- so it is if a trigger does nothing any more to a variable of another
pub can_wait : (id : ℕ) (base : Base) (shelves : Shelves) → CanLeave id base shelves → AwaitFilter id base shelves
can_wait id base shelves can new gets = subst (λ (lanes : Lanes). AreKeptOutside (is_in_family new.triggers id) new.triggers lanes shelves) (sym gets.lanes)
    (outside_from base.triggers new.triggers base.lanes id can.acts shelves can.kept.each (for_right base.triggers base.lanes can.acts shelves can.kept) can.others
    (λ q apart. sym (rest_same new.triggers id q apart) ∙ ap (λ (t : Triggers). map.get t q) gets.others ∙ rest_same base.triggers id q apart)
    (λ q _. gets.roles q)
    (λ gone. absurd (none-some gets.hist (sym gone ∙ gets.attached)))
    (λ variable at out inside. ⊎_elim (can.within variable at (outside_apart new.triggers id variable.saver out)) (by_reader variable at out) (inside_is new.triggers id at.trigger inside)))
  where
    -- what those of the family read that are not the trigger, it saves
    by_reader : (variable : Variable) (at : At) → is_in_family new.triggers id variable.saver ≡ false → role_at new.triggers at.trigger ≡ Reads id → op_of (role_at base.triggers) (admits_on shelves) can.acts variable at ≡ None
    by_reader variable at out reads =
        let role : role_at base.triggers at.trigger ≡ Reads id = sym (gets.roles at.trigger) ∙ reads in
        no_op_of (role_at base.triggers) (admits_on shelves) can.acts variable at
        (λ saves _. let both : ◌≡◌ {A = Role} Saves (Reads id) = sym saves ∙ role in absurd cc)
        (λ its. outside_apart new.triggers id variable.saver out (ap saver_in (sym its ∙ role)))

-- ---- a trigger leaves that no other reads

module _ (base : Base) (id : ℕ) (unread : IsUnread base.triggers id) (old : Shelves) where
  abbrev others : Triggers
  others = rest base.triggers id

  abbrev events : Events
  events = merged base.lanes

  abbrev left : Shelves
  left = map.remove old id

  gone_here : (q : ℕ) → q ≡ id → map.get left q ≡ None
  gone_here q same = ap (map.get left) same ∙ get-remove_same nat_cmp_total old id

  shelf_stays : (q : ℕ) → (q ≡ id → ⊥) → map.get left q ≡ map.get old q
  shelf_stays = get-remove_other nat_cmp_total nat_cmp-IsAntisymmetric old id

  -- its shelf goes
  pub leaves : CanLeave id base old → AreKeptBut id base left
  leaves can =
      let stays : StaysOutside (is_one id) base.triggers others can.acts (acts_of others events) old left = record {
        kept = for_right base.triggers base.lanes can.acts old can.kept;
        same = λ q out. rest_same base.triggers id q (eqb-false q id out);
        roles = λ q out. unread.others q (eqb-false q id out);
        shelves = λ q out. shelf_stays q (eqb-false q id out);
        act = λ at out. acts_same base.triggers others events at (rest_same base.triggers id at.trigger (eqb-false at.trigger id out)) ∙ sym (can.others at (eqb-false at.trigger id out));
        within = λ variable at out inside. can.within variable at (eqb-false variable.saver id out) (eqb-true at.trigger id inside);
        idle = λ at inside. rest_no_act base.triggers id events at (eqb-true at.trigger id inside);
        bare = λ q inside. bare_none left q (gone_here q (eqb-true q id inside));
        unread = λ reader saver out inside reads. unread.unread reader (sym (unread.others reader (eqb-false reader id out)) ∙ reads ∙ ap (λ (k : ℕ). Reads k) (eqb-true saver id inside));
      } in
      record {
        each = λ q. ⊎_elim
            (λ here. subst (λ (o : Option Hist). HasItsShelf others o (map.get left q)) (sym (rest_none base.triggers id q here)) (gone_here q here))
            (λ apart. shelf_same base.triggers others old left q (rest_same base.triggers id q apart) (unread.others q apart) (shelf_stays q apart) (can.kept.each q))
            (cases_eq q id);
        kept = stay_kept stays;
      }

-- one that reads nothing does nothing to a variable that is not its own, and so its hits just go with its shelf
pub can_leave : (base : Base) (id : ℕ) → HasSavers base.triggers → ReadsNothing base.triggers id → (shelves : Shelves) → AreKeptOf base shelves → CanLeave id base shelves
can_leave base id savers nothing shelves kept = record {
  acts = acts_of base.triggers (merged base.lanes);
  kept = kept_for base.triggers base.lanes savers (merged base.lanes) (merged_held base.lanes) shelves kept;
  others = λ _ _. refl;
  within = λ variable at apart same. no_op_of (role_at base.triggers) (admits_on shelves) (acts_of base.triggers (merged base.lanes)) variable at
      (λ _ its. apart (sym its ∙ same))
      (λ is. nothing_read base.triggers id nothing variable.saver (sym (ap (role_at base.triggers) same) ∙ is));
}

-- nor does one whose acts have gone
pub gone_leaves : (base : Base) (id : ℕ) {triggers : Triggers} {lanes : Lanes} → triggers ≡ base.triggers → lanes ≡ base.lanes → HasSavers base.triggers → (old new : Shelves) → AreKeptOf base old
    → AreKeptFor triggers lanes (with_acts id (λ _. None) (input_of triggers lanes old)) new → CanLeave id base new
gone_leaves base id {triggers} {lanes} own all savers old new kept gone = record {
  acts = with_acts id (λ _. None) input;
  kept = subst (λ (held : Triggers × Lanes). AreKeptFor held.0 held.1 (with_acts id (λ _. None) input) new) (λ i. (own i, all i)) gone;
  others = λ at apart. ap (λ (b : Bool). if b then None else input at) (ne_eqb at.trigger id apart) ∙ ap (λ (acts : Acts). acts at) (input_is triggers lanes (acts_of triggers (merged lanes)) old (kept_of base own all savers old kept))
      ∙ (λ i. acts_of (own i) (merged (all i)) at);
  within = λ variable at _ same. no_op_there (role_at base.triggers) (admits_on new) (with_acts id (λ _. None) input) variable at (ap (λ (b : Bool). if b then None else input at) (eq-eqb at.trigger id same));
}
  where
    input : Acts
    input = input_of triggers lanes old

-- the shelves of all others stay
pub others_left : (id : ℕ) (before after : Shelves) → after ≡ map.remove before id → OtherShelvesStay id before after
others_left id before after is other apart = ap (λ (s : Shelves). map.get s other) is ∙ get-remove_other nat_cmp_total nat_cmp-IsAntisymmetric before id other apart
