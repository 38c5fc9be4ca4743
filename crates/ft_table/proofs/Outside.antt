-- The first key outside a table isn't in it.
use Rattle.std.proofs.Common.{◌≡◌, ℕ, zero, suc, ◌<◌, false, List, [], ◌∷◌, length, get_or, take, drop, map as list_map, refl, sym, ap, ◌∙◌, Some, Option, arith}
use Rattle.std.specs.Prelude.{◌||◌, slice_get, is_some, unwrap_or}
use Rattle.std.specs.List.{list_any}
use Rattle.std.specs.Cmp.{eq_by_cmp_equiv}
use Rattle.std.proofs.lemmas.Bool.{false≢true}
use Rattle.ft_fields.specs.Orders.{key_cmp_total}
use Rattle.ft_fields.specs.declared.key.Part.{Part}
use Rattle.ft_fields.specs.Parts.{same_key}
use Rattle.ft_table.specs.OneKey.{FirstIsOut}
use Rattle.ft_table.specs.Tabled.{order_of}
use Rattle.ft_hits.specs.declared.mark.Mark.{Mark}
use Rattle.ft_table.proofs.Tallies.{apart_after}

abbrev key_of : Mark → List Part
key_of m = m.key

-- the first key after some marks is the key of the mark there
front : (ms : List Mark) (s : ℕ) (key : List Part) → slice_get (list_map key_of (drop s ms)) 0 ≡ Some key → (s < length ms) × ((d : Mark) → (get_or ms s d).key ≡ key)
front [] zero key is = absurd (false≢true (ap is_some is))
front [] (suc s) key is = absurd (false≢true (ap is_some is))
front (m ∷ ms) zero key is = (omega arith, λ d. ap (λ (o : Option (List Part)). unwrap_or o key) is)
front (m ∷ ms) (suc s) key is = let rest = front ms s key is in (let less = rest.0 in omega (arith, less), rest.1)

outside : (ms : List Mark) (s : ℕ) → ((i j : ℕ) (d : Mark) → i < j → j < length ms → same_key (get_or ms i d).key (get_or ms j d).key ≡ false)
    → (key : List Part) → slice_get (list_map key_of (drop s ms)) 0 ≡ Some key → list_any (same_key key) (list_map key_of (take s ms)) ≡ false
outside [] zero apart key is = refl
outside [] (suc s) apart key is = refl
outside (m ∷ ms) zero apart key is = refl
outside (m ∷ ms) (suc s) apart key is =
    let there = front ms s key is in
    let less : s < length ms = there.0 in
    ap (λ b. b || list_any (same_key key) (list_map key_of (take s ms)))
    (ap (λ k. same_key k m.key) (sym (there.1 m)) ∙ (eq_by_cmp_equiv key_cmp_total).symm (get_or ms s m).key m.key ∙ apart zero (suc s) m (omega arith) (omega (arith, less)))
    ∙ outside ms s (λ i j d lt within. apart (suc i) (suc j) d (omega arith) (omega arith)) key is

pub first_is_out : FirstIsOut
first_is_out table key is = outside (order_of table.hits) table.size (apart_after table.hits) key is
