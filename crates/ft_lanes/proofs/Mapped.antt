-- More laws of a finite map with each value seen through a function.
use Rattle.std.proofs.Common.{◌≡◌, Bool, true, false, cond, refl, sym, ap, ◌∙◌, Option, Some, None}
use Rattle.std.specs.Option.{option_map}
use Rattle.std.specs.declared.cmp.Ordering.{Ordering}
use Rattle.std.specs.Ordering.{eq_by_cmp}
use Rattle.std.specs.Cmp.{IsTotalOrder}
use Rattle.std.specs.FinMap as map
use Rattle.std.specs.FinMap.{FinMap, IsAntisymmetric, get-remove, same_map}
use Rattle.ft_maps.specs.Mapped.{map_by, get-map_by}

over_cond : {X Y : Type 0} (f : X → Y) (b : Bool) (o : Option X) → option_map f (cond b None o) ≡ cond b None (option_map f o)
over_cond f true o = refl
over_cond f false o = refl

module _ {K X Y : Type 0} {R : K → K → Ordering} (total : IsTotalOrder R) (same : IsAntisymmetric R) where
  -- a removal is one of the key in the map seen through f
  pub map_by-remove : (f : X → Y) (m : FinMap R X) (k : K) → map_by f (map.remove m k) ≡ map.remove (map_by f m) k
  map_by-remove f m k = same_map total same _ _ (λ q.
      get-map_by f total (map.remove m k) q
      ∙ ap (option_map f) (get-remove total m k q)
      ∙ over_cond f (eq_by_cmp R q k) (map.get m q)
      ∙ ap (cond (eq_by_cmp R q k) None) (sym (get-map_by f total m q))
      ∙ sym (get-remove total (map_by f m) k q))

  -- two functions that agree on the values give the same map
  pub map_by-agree : (f g : X → Y) (m : FinMap R X) → ((q : K) (v : X) → map.get m q ≡ Some v → f v ≡ g v) → map_by f m ≡ map_by g m
  map_by-agree f g m agree = same_map total same _ _ (λ q. get-map_by f total m q ∙ at q (map.get m q) refl ∙ sym (get-map_by g total m q))
    where
      at : (q : K) (o : Option X) → map.get m q ≡ o → option_map f o ≡ option_map g o
      at q None e = refl
      at q (Some v) e = ap Some (agree q v e)
