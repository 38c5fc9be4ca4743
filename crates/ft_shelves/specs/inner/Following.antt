-- Definitions for private functions: a save at one hit, and the keys at the edge of a table.
use Rattle.std.specs.Prelude.{◌≡◌, ◌==◌, ◌&&◌, ℕ, Bool, false, not, List, Option, Some, None, if◌then◌else◌}
use Rattle.std.specs.Option.{option_map_or}
use Rattle.ft_fields.specs.declared.key.Part.{Part}
use Rattle.ft_fields.specs.Parts.{same_key}
use Rattle.ft_pairs.specs.ByKey.{ops_of}
use Rattle.ft_pairs.specs.Edits.{same_at}
use Rattle.ft_pairs.specs.Source.{Ops}
use Rattle.ft_pairs.specs.declared.at.At.{At}
use Rattle.ft_pairs.specs.declared.at.Op.TheVariants.{Save}
use Rattle.ft_table.specs.Tabled.{Tabled, is_in, first_out, last_in}
use Rattle.ft_hits.specs.declared.spot.Spot.{Spot}
use Rattle.ft_shelves.specs.Changes.{with_change}
use Rattle.ft_shelves.specs.Following.{switched, with_own}
use Rattle.ft_shelves.specs.Shelves.{Shelved}
use Rattle.ft_shelves.specs.Switches.{differ}
use Rattle.ft_shelves.specs.declared.sign.HitChange.{HitChange}
use Rattle.ft_shelves.specs.declared.sign.Sign.{Sign}
use Rattle.ft_shelves.specs.declared.sign.Sign.TheVariants.{Insert, Retract}

-- the operations on a key's variable with a save at a hit of the key, if that is of an event of the trace (kernel: histogram.rst, inter-event hist triggers)
abbrev pub with_save : ℕ → Spot → Ops → Ops
with_save id spot ops q = if spot.maker == 0 && same_at q (record { pos = spot.pos; trigger = id }) then Some Save else ops q

-- the key at a table's edge that a change may move: the last one in as a hit comes, the first one out as one goes
abbrev pub edge_for : Sign → Tabled → Option (List Part)
edge_for Insert table = last_in table
edge_for Retract table = first_out table

-- a key, if there is one and it is another than this one
abbrev pub beside : List Part → Option (List Part) → Option (List Part)
beside key other = if option_map_or (λ k. not (same_key k key)) other false then other else None

-- a key, if there is one, was in a table or not, and is on the other side now
abbrev pub has_moved : Bool → Tabled → Option (List Part) → Bool
has_moved was table key = option_map_or (λ k. differ was (is_in table k)) key false

-- the operations on the variable of a key, if there is one, follow the table, in which it was or not; all else stays
pub record FollowsTable (id : ℕ) (key : Option (List Part)) (was : Bool) (old new : Shelved) : Type 0 where
  pub shelf : new ≡ record old { ops = new.ops }
  pub ops : (k : List Part) (q : At) → ops_of new.ops k q
      ≡ (if option_map_or (same_key k) key false then switched was (is_in old.table k) old.table.hits id k (ops_of old.ops k) q else ops_of old.ops k q)

-- a shelf with the change: the hit's own save comes or goes with it, if its key was in the table, and no key has followed the table yet
pub record OwnChanges (id : ℕ) (change : HitChange) (was : Bool) (old new : Shelved) : Type 0 where
  pub shelf : new ≡ record (with_change change old) { ops = new.ops }
  pub ops : (key : List Part) (q : At) → ops_of new.ops key q ≡ with_own id change was key (ops_of old.ops key) q
