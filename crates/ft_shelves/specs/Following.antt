-- How the operations on what a saver saves follow the keys of its table.
use Rattle.std.specs.Prelude.{◌≡◌, ◌&&◌, ℕ, Bool, true, List, Some, None, is_some, if◌then◌else◌}
use Rattle.std.specs.Ordering.{nat_cmp, eq_by_cmp}
use Rattle.std.specs.FinMap as map
use Rattle.ft_fields.specs.declared.key.Part.{Part}
use Rattle.ft_fields.specs.Parts.{same_key}
use Rattle.ft_pairs.specs.ByKey.{ops_of}
use Rattle.ft_pairs.specs.Edits.{reads_alone}
use Rattle.ft_pairs.specs.Source.{Ops}
use Rattle.ft_pairs.specs.declared.at.At.{At}
use Rattle.ft_pairs.specs.declared.at.Op.TheVariants.{Save}
use Rattle.ft_table.specs.Hits.{Hits}
use Rattle.ft_table.specs.Spots.{traced}
use Rattle.ft_table.specs.Tabled.{Tabled, is_in}
use Rattle.ft_shelves.specs.Changes.{PlaceIsFree, change_mark, op_after, set_op, sign_of, with_change}
use Rattle.ft_shelves.specs.Switches.{differ, Members}
use Rattle.ft_shelves.specs.Shelves.{Shelved}
use Rattle.ft_shelves.specs.declared.sign.HitChange.{HitChange}
use Rattle.ft_shelves.specs.declared.sign.HitChange.TheVariants as changes
use Rattle.ft_shelves.specs.declared.saver.Moved.{Moved}

-- the operations on a key's variable with a save at each of the key's hits that is of an event of the trace (kernel: histogram.rst, inter-event hist triggers)
abbrev pub with_saves : Hits → ℕ → List Part → Ops → Ops
with_saves hits id key ops q = if eq_by_cmp nat_cmp q.trigger id && is_some (map.get hits (record { spot = traced q.pos; key = key })) then Some Save else ops q

-- the operations on a key's variable as the key comes into its saver's table, goes out, or does neither (kernel: histogram.rst, inter-event hist triggers, `size`)
abbrev pub switched : Bool → Bool → Hits → ℕ → List Part → Ops → Ops
switched was now hits id key ops = if was then (if now then ops else reads_alone ops) else if now then with_saves hits id key ops else ops

-- the operations on a key's variable, as a saver's hit comes or goes: if it is one of the key, and the key was in the table, its save does too (kernel: histogram.rst, inter-event hist triggers)
abbrev pub with_own : ℕ → HitChange → Bool → List Part → Ops → Ops
with_own id change was key ops = if same_key key (change_mark change).key && was then set_op (record { pos = (change_mark change).spot.pos; trigger = id }) (op_after (sign_of change) Save) ops else ops

-- and as the keys then follow the table (kernel: histogram.rst, inter-event hist triggers, `size`)
abbrev pub followed : Tabled → Tabled → ℕ → HitChange → List Part → Ops → Ops
followed old new id change key ops = switched (is_in old key) (is_in new key) new.hits id key (with_own id change (is_in old (change_mark change).key) key ops)

-- nothing stands where a saver's hit comes, neither a hit nor its save
abbrev pub IsUnsaved : ℕ → HitChange → Shelved → Type 0
IsUnsaved id (changes.Insert hit) shelf = PlaceIsFree (changes.Insert hit) shelf.table.hits × (ops_of shelf.ops hit.key (record { pos = hit.spot.pos; trigger = id }) ≡ None)
IsUnsaved id (changes.Retract mark) shelf = Unit {0}

-- a saver's shelf with the change; each key's operations follow its table
pub record HitFollows (id : ℕ) (change : HitChange) (old new : Shelved) : Type 0 where
  pub shelf : new ≡ record (with_change change old) { ops = new.ops }
  pub ops : (key : List Part) (q : At) → ops_of new.ops key q ≡ followed old.table new.table id change key (ops_of old.ops key) q

-- as hits of one key changed, these keys came in or went out, and no others
pub record MovesKeys (key : List Part) (moves : Moved) (was now : Members) : Type 0 where
  pub itself : moves.own ≡ differ (was key) (now key)
  pub moved : (k : List Part) → moves.other ≡ Some k → differ (was k) (now k) ≡ true
  pub stayed : (k : List Part) → (k ≡ key → ⊥) → (moves.other ≡ Some k → ⊥) → now k ≡ was k
