-- What is found at a key and a place, before and after an edit of one key.
use Rattle.std.proofs.Common.{◌≡◌, Bool, true, false, cond, List, refl, sym, ap, ◌∙◌, Some, None, Option}
use Rattle.std.specs.Prelude.{option_and_then, if◌then◌else◌}
use Rattle.std.specs.FinMap as map
use Rattle.std.specs.FinMap.{get-empty, get-insert, get-remove}
use Rattle.ft_fields.specs.declared.key.Part.{Part}
use Rattle.ft_fields.specs.Orders.{key_cmp_total}
use Rattle.ft_fields.specs.Ties.{key_same}
use Rattle.ft_fields.specs.Parts.{same_key}
use Rattle.ft_maps.specs.Entries.{same_from_tie}
use Rattle.ft_pairs.specs.declared.at.At.{At}
use Rattle.ft_pairs.specs.declared.at.Op.{Op}
use Rattle.ft_pairs.specs.Order.{at_cmp, at_cmp_total}
use Rattle.ft_pairs.specs.Source.{Ops}
use Rattle.ft_pairs.specs.Edits.{with_op, without_op, if_read, same_at}
use Rattle.ft_pairs.specs.ByKey.{KeyOps, OpsByKey, ops_of, ChangesKey}

-- what stands at places, of what a map has at a key
abbrev pub found_in : Option KeyOps → Ops
found_in held at = option_and_then (λ ops. map.get ops at) held

-- a key's operations are those of what the map has there
pub at_key : (m : OpsByKey) (key : List Part) (held : Option KeyOps) → map.get m key ≡ held → ops_of m key ≡ found_in held
at_key m key held is = ap found_in is

-- a change of what one key has changes the operations of that key
pub changed : (m : OpsByKey) (key : List Part) (ops : KeyOps) (edit : Ops → Ops) → ((q : At) → map.get ops q ≡ edit (ops_of m key) q) → ChangesKey key edit m (map.insert m key ops)
changed m key ops edit is k at = ap (λ held. found_in held at) (get-insert key_cmp_total m key ops k) ∙ by (same_key k key) refl
  where
    by : (b : Bool) → same_key k key ≡ b → found_in (cond b (Some ops) (map.get m k)) at ≡ (if b then edit (ops_of m k) at else ops_of m k at)
    by true tie = is at ∙ ap (λ (x : List Part). edit (ops_of m x) at) (sym (same_from_tie key_same k key tie))
    by false apart = refl

-- an edit that changes nothing at a key changes nothing
pub kept : (m : OpsByKey) (key : List Part) (edit : Ops → Ops) → ((q : At) → ops_of m key q ≡ edit (ops_of m key) q) → ChangesKey key edit m m
kept m key edit is k at = by (same_key k key) refl
  where
    by : (b : Bool) → same_key k key ≡ b → ops_of m k at ≡ (if b then edit (ops_of m k) at else ops_of m k at)
    by true tie = let one = same_from_tie key_same k key tie in ap (λ (x : List Part). ops_of m x at) one ∙ is at ∙ ap (λ (x : List Part). edit (ops_of m x) at) (sym one)
    by false apart = refl

-- a key without operations is taken out, and the operations of all keys stay
pub cleared : (m : OpsByKey) (key : List Part) → map.get m key ≡ Some map.empty → (k : List Part) (at : At) → ops_of (map.remove m key) k at ≡ ops_of m k at
cleared m key is k at = ap (λ held. found_in held at) (get-remove key_cmp_total m key k) ∙ by (same_key k key) refl
  where
    by : (b : Bool) → same_key k key ≡ b → found_in (cond b None (map.get m k)) at ≡ ops_of m k at
    by true tie = sym (ap (λ (x : List Part). ops_of m x at) (same_from_tie key_same k key tie) ∙ ap (λ held. found_in held at) is ∙ get-empty at_cmp at)
    by false apart = refl

-- one operation more in what a key has
pub inserted : (m : OpsByKey) (key : List Part) (ops : KeyOps) (at : At) (op : Op) → ((q : At) → map.get ops q ≡ ops_of m key q) → (q : At) → map.get (map.insert ops at op) q ≡ with_op at op (ops_of m key) q
inserted m key ops at op same q = get-insert at_cmp_total ops at op q ∙ ap (cond (same_at q at) (Some op)) (same q)

-- one less
pub removed : (m : OpsByKey) (key : List Part) (ops : KeyOps) (at : At) → ((q : At) → map.get ops q ≡ ops_of m key q) → (q : At) → map.get (map.remove ops at) q ≡ without_op at (ops_of m key) q
removed m key ops at same q = get-remove at_cmp_total ops at q ∙ ap (cond (same_at q at) None) (same q)

-- if nothing stands there, nothing is taken
none_taken : (b : Bool) (o : Option Op) → o ≡ None → o ≡ (if b then None else o)
none_taken true o is = is
none_taken false o is = refl

pub none_removed : (ops : Ops) (at q : At) → ops q ≡ None → ops q ≡ without_op at ops q
none_removed ops at q is = none_taken (same_at q at) (ops q) is

pub no_saves : (o : Option Op) → o ≡ None → o ≡ if_read o
no_saves o is = is ∙ sym (ap if_read is)
