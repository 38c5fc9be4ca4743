-- The key at a table's edge, as the hits of another key change.
use Rattle.std.proofs.Common.{◌≡◌, ℕ, zero, suc, Bool, true, false, List, [], ◌∷◌, arith, Some}
use Rattle.std.specs.Prelude.{◌-◌, length, slice_get}
use Rattle.std.specs.List.{list_any}
use Rattle.ft_hits.proofs.Flat.{same_itself}
use Rattle.ft_fields.specs.declared.key.Part.{Part}
use Rattle.ft_fields.specs.Parts.{same_key}
use Rattle.ft_table.specs.OneKey.{FirstComesIn, FirstIsOut, LastGoesOut}
use Rattle.ft_table.specs.Tabled.{Tabled, keys_in, is_in}
use Rattle.ft_shelves.specs.Changes.{is_insert, change_mark, sign_of, table_with}
use Rattle.ft_shelves.specs.Switches.{differ}
use Rattle.ft_shelves.specs.inner.Following.{edge_for}
use Rattle.ft_shelves.specs.declared.sign.HitChange.{HitChange}
use Rattle.ft_shelves.specs.declared.sign.HitChange.TheVariants as changes
use Rattle.ft_shelves.specs.declared.sign.Sign.{Sign}
use Rattle.ft_shelves.specs.declared.sign.Sign.TheVariants.{Insert, Retract}

in_list : (k : List Part) (ks : List (List Part)) (n : ℕ) → slice_get ks n ≡ Some k → list_any (same_key k) ks ≡ true
in_list k [] n is = absurd (cc is)
in_list k (x ∷ ks) zero is = grind (arith, same_itself k)
in_list k (x ∷ ks) (suc n) is = grind (arith, in_list k ks n)

-- the key at the edge is in the table as a hit comes, and out as one goes
pub edge_there : FirstIsOut → (sign : Sign) (table : Tabled) (k : List Part) → edge_for sign table ≡ Some k → is_in table k ≡ is_insert sign
edge_there outside Insert table k is = in_list k (keys_in table) (length (keys_in table) - 1) is
edge_there outside Retract table k is = outside table k is

-- every key stays, except the hit's own and the one at the edge
pub others_stay : LastGoesOut → FirstComesIn → (change : HitChange) (table : Tabled) (k : List Part) → (k ≡ (change_mark change).key → ⊥) → (edge_for (sign_of change) table ≡ Some k → ⊥)
    → is_in (table_with change table) k ≡ is_in table k
others_stay comes goes (changes.Insert hit) table k = comes table (record { spot = hit.spot; key = hit.key }) hit.values k
others_stay comes goes (changes.Retract mark) table k = goes table mark k

pub undiffering : (a b : Bool) → differ a b ≡ false → b ≡ a
undiffering a b e = grind arith
