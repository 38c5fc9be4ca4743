-- The order of the keys, except some: what is left of the order of all keys.
use Rattle.std.proofs.Common.{◌≡◌, ◌-◌, Bool, true, false, cond, List, [], ◌∷◌, length, take, drop, map as list_map, refl, sym, ap, ◌∙◌, None, Option}
use Rattle.std.specs.Prelude.{ℤ, not}
use Rattle.std.specs.List.{filter}
use Rattle.std.specs.Option.{option_map_or}
use Rattle.std.specs.Ordering.{eq_by_cmp}
use Rattle.std.specs.FinMap as map
use Rattle.std.specs.FinMap.{get-retain_keys, same_map}
use Rattle.std.proofs.lemmas.List.{take-map}
use Rattle.ft_fields.specs.declared.key.Part.{Part}
use Rattle.ft_hits.specs.declared.mark.Mark.{Mark}
use Rattle.ft_table.specs.Spots.{spot_cmp, spot_cmp_total, spot_same}
use Rattle.ft_table.specs.Marks.{mark_cmp_total, mark_same}
use Rattle.ft_table.specs.Hits.{EntryHits, Hits, hits_of, least_key}
use Rattle.ft_table.specs.Tabled.{Tabled, is_first, first_hits, order_of}
use Rattle.ft_table.proofs.Distinct.{key_of}
use Rattle.ft_table.proofs.Firsts.{get-first_hits}
use Rattle.ft_hits.proofs.Flat.{mark, get-hits_of}
use Rattle.ft_table.proofs.Retained.{keys-retained}
use Rattle.ft_changes.specs.Rivals.{is_of, hits_but, rivals, AreTablesButFor}
use Rattle.ft_changes.proofs.Fronts.{left}

-- whether a mark's key is none of some
abbrev other : List (List Part) → Mark → Bool
other keys m = not (is_of keys m.key)

get-hits_but : (hits : Hits) (keys : List (List Part)) (q : Mark) → map.get (hits_but hits keys) q ≡ cond (other keys q) (map.get hits q) None
get-hits_but hits keys q = get-retain_keys hits (other keys) q (λ x tie. ap (other keys) (sym (mark_same q x tie)))

-- another key has the hits that it has among all
pub hits_of-but : (hits : Hits) (keys : List (List Part)) (key : List Part) → is_of keys key ≡ false → hits_of (hits_but hits keys) key ≡ hits_of hits key
hits_of-but hits keys key apart = same_map spot_cmp_total spot_same _ _ (λ spot.
    get-hits_of (hits_but hits keys) spot key ∙ get-hits_but hits keys (mark spot key)
    ∙ ap (λ b. cond (not b) (map.get hits (mark spot key)) None) apart ∙ sym (get-hits_of hits spot key))

-- and so the same first hit
first_but : (hits : Hits) (keys : List (List Part)) (q : Mark) (b : Bool) → is_of keys q.key ≡ b
    → cond (is_first (hits_but hits keys) q) (map.get (hits_but hits keys) q) None ≡ cond (not b) (cond (is_first hits q) (map.get hits q) None) None
first_but hits keys q true is =
    ap (λ o. cond (is_first (hits_but hits keys) q) o None) (get-hits_but hits keys q ∙ ap (λ b. cond (not b) (map.get hits q) None) is)
    ∙ none_either (is_first (hits_but hits keys) q) where
      none_either : (b : Bool) → ◌≡◌ {A = Option (List ℤ)} (cond b None None) None
      none_either true = refl
      none_either false = refl
first_but hits keys q false is =
    let first : is_first (hits_but hits keys) q ≡ is_first hits q = ap (λ (entry : EntryHits). option_map_or (eq_by_cmp spot_cmp q.spot) (least_key (map.entries entry)) false) (hits_of-but hits keys q.key is) in
    let get : map.get (hits_but hits keys) q ≡ map.get hits q = get-hits_but hits keys q ∙ ap (λ b. cond (not b) (map.get hits q) None) is in
    λ i. cond (first i) (get i) None

first_hits-but : (hits : Hits) (keys : List (List Part)) → first_hits (hits_but hits keys) ≡ map.retain_keys (first_hits hits) (other keys)
first_hits-but hits keys = same_map mark_cmp_total mark_same _ _ (λ q.
    get-first_hits (hits_but hits keys) q ∙ first_but hits keys q (is_of keys q.key) refl
    ∙ sym (get-retain_keys (first_hits hits) (other keys) q (λ x tie. ap (other keys) (sym (mark_same q x tie)))
    ∙ ap (λ o. cond (other keys q) o None) (get-first_hits hits q)))

order-but : (hits : Hits) (keys : List (List Part)) → order_of (hits_but hits keys) ≡ filter (other keys) (order_of hits)
order-but hits keys = ap map.keys (first_hits-but hits keys) ∙ keys-retained mark_cmp_total mark_same (first_hits hits) (other keys)

-- ---- the same of only the keys

-- all keys of hits, in order of their first hits
abbrev pub keys_of : Hits → List (List Part)
keys_of hits = list_map key_of (order_of hits)

pub left-keys : (keys : List (List Part)) (ms : List Mark) → list_map key_of (filter (other keys) ms) ≡ left (is_of keys) (list_map key_of ms)
left-keys keys [] = refl
left-keys keys (m ∷ ms) = at (is_of keys m.key) (left-keys keys ms) where
  at : (b : Bool) → list_map key_of (filter (other keys) ms) ≡ left (is_of keys) (list_map key_of ms)
      → list_map key_of (cond (not b) (m ∷ filter (other keys) ms) (filter (other keys) ms)) ≡ cond (not b) (m.key ∷ left (is_of keys) (list_map key_of ms)) (left (is_of keys) (list_map key_of ms))
  at true rest = rest
  at false rest = ap (λ (ks : List (List Part)). m.key ∷ ks) rest

-- the keys without some are what these leave of all
pub keys-but : (hits : Hits) (keys : List (List Part)) → keys_of (hits_but hits keys) ≡ left (is_of keys) (keys_of hits)
keys-but hits keys = ap (list_map key_of) (order-but hits keys) ∙ left-keys keys (order_of hits)

-- and the rivals stand at the last places of that
pub rivals-left : (table : Tabled) (keys : List (List Part)) → rivals table keys ≡ drop (table.size - length keys) (take table.size (left (is_of keys) (keys_of table.hits)))
unfolding rivals
rivals-left table keys =
    ap (drop (table.size - length keys)) (sym (take-map key_of table.size (order_of (hits_but table.hits keys))) ∙ ap (take table.size) (keys-but table.hits keys))

-- ---- tables that differ in some keys' hits

pub same-but : (a b : Tabled) (keys : List (List Part)) → AreTablesButFor keys a b → hits_but b.hits keys ≡ hits_but a.hits keys
same-but a b keys same = same_map mark_cmp_total mark_same _ _ (λ q. get-hits_but b.hits keys q ∙ at q (is_of keys q.key) refl ∙ sym (get-hits_but a.hits keys q)) where
  at : (q : Mark) (c : Bool) → is_of keys q.key ≡ c → cond (not c) (map.get b.hits q) None ≡ cond (not c) (map.get a.hits q) None
  at q true is = refl
  at q false is = same.hits q is

pub same-left : (a b : Tabled) (keys : List (List Part)) → AreTablesButFor keys a b → left (is_of keys) (keys_of b.hits) ≡ left (is_of keys) (keys_of a.hits)
same-left a b keys same = sym (keys-but b.hits keys) ∙ ap keys_of (same-but a b keys same) ∙ keys-but a.hits keys

pub hits_of-same : (a b : Tabled) (keys : List (List Part)) (q : List Part) → AreTablesButFor keys a b → is_of keys q ≡ false → hits_of b.hits q ≡ hits_of a.hits q
hits_of-same a b keys q same apart = sym (hits_of-but b.hits keys q apart) ∙ ap (λ (h : Hits). hits_of h q) (same-but a b keys same) ∙ hits_of-but a.hits keys q apart
