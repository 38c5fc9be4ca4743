-- All acts of one trigger that come at once, if nothing is kept of it yet.
use Rattle.std.specs.Prelude.{◌≡◌, ℕ, List, Option, Some, None}
use Rattle.std.specs.FinMap as map
use Rattle.ft_fields.specs.Traced.{Traced}
use Rattle.ft_fields.specs.declared.pos.Pos.{Pos}
use Rattle.ft_fields.specs.declared.key.Part.{Part}
use Rattle.ft_hist.specs.Triggers.{Triggers}
use Rattle.ft_pairs.specs.declared.at.At.{At}
use Rattle.ft_pairs.specs.declared.role.Role.TheVariants.{Saves, Reads}
use Rattle.ft_table.specs.Values.{values_by}
use Rattle.ft_shelves.specs.Joining.{AreGroupsOf, acts_with}
use Rattle.ft_shelves.specs.Shelves.{FormsStay, Shelved, Shelves, role_on, admits_on, kept_on}
use Rattle.ft_shelves.specs.declared.joining.Joining.{Joining}
use Rattle.ft_kept.specs.Acts.{Acts}
use Rattle.ft_kept.specs.Entries.{IsKept}
use Rattle.ft_kept.specs.Repairs.{AreShelved}

-- nothing is kept of a trigger yet: no hits are on its shelf; what it saves has no operation; no other trigger reads what it reads
pub record IsBare (id : ℕ) (shelves : Shelves) : Type 0 where
  pub hits : (shelf : Shelved) → map.get shelves id ≡ Some shelf → shelf.table.hits ≡ map.empty
  pub saves : role_on shelves id ≡ Saves → (key : List Part) (at : At) → (kept_on shelves).ops (record { saver = id; key = key }) at ≡ None
  pub alone : (saver other : ℕ) → role_on shelves id ≡ Reads saver → role_on shelves other ≡ Reads saver → other ≡ id

-- an attached trigger of which nothing is kept yet can join, with groups of what it counts
pub record MayJoin (joining : Joining) (shelves : Shelves) : Type 0 where
  pub shelved : AreShelved joining.triggers.now shelves
  pub attached : map.get joining.triggers.now joining.id ≡ Some joining.trigger.now
  pub bare : IsBare joining.id shelves
  pub grouped : AreGroupsOf joining.trigger.now joining.groups.now

-- all acts of one trigger, which had none, come; those of others stay
pub record AllCome (id : ℕ) (acts : Pos → Option (List Part × Traced)) (before after : Acts) : Type 0 where
  pub elsewhere : (q : At) → (q.trigger ≡ id → ⊥) → after q ≡ before q
  pub absent : (pos : Pos) → before (record { pos = pos; trigger = id }) ≡ None
  pub here : (pos : Pos) → after (record { pos = pos; trigger = id }) ≡ acts pos

-- they came: if all was right without them, all is right with them
abbrev pub AllHaveCome : Triggers → ℕ → (Pos → Option (List Part × Traced)) → Shelves → Shelves → Type 0
AllHaveCome triggers id acts old new =
    (before after : Acts) → AllCome id acts before after
    → IsKept (role_on old) (values_by triggers) (admits_on old) before (kept_on old)
    → IsKept (role_on old) (values_by triggers) (admits_on new) after (kept_on new)

-- a trigger that joined: all its acts came, and shelves keep their forms
pub record HasAllActs (joining : Joining) (old new : Shelves) : Type 0 where
  pub forms : FormsStay old new
  pub right : (of : AreGroupsOf joining.trigger.now joining.groups.now) → AllHaveCome joining.triggers.now joining.id (acts_with joining.trigger.now of.events) old new
