-- A table without hits.
use Rattle.std.proofs.Common.{◌≡◌, ℕ, zero, suc, List, [], cond, refl, sym, ap, ◌∙◌, arith, None}
use Rattle.std.specs.Prelude.{ℤ}
use Rattle.std.specs.Map.{keys_of}
use Rattle.std.specs.FinMap as map
use Rattle.std.specs.FinMap.{get-empty, same_map}
use Rattle.ft_fields.specs.declared.key.Part.{Part}
use Rattle.ft_hits.specs.declared.mark.Mark.{Mark}
use Rattle.ft_hits.specs.Marks.{mark_cmp, mark_cmp_total, mark_same}
use Rattle.ft_table.specs.inner.Cut.{IsSplit}
use Rattle.ft_table.specs.Tabled.{is_first, first_hits, order_of}
use Rattle.ft_maps.specs.Entries.{entries-empty}
use Rattle.ft_maps.proofs.Common.{cond_same}
use Rattle.ft_table.proofs.Firsts.{get-first_hits}

no_first_hits : first_hits map.empty ≡ map.empty
no_first_hits = same_map mark_cmp_total mark_same _ _ (λ q. get-first_hits map.empty q ∙ ap (λ o. cond (is_first map.empty q) o None) (get-empty mark_cmp q) ∙ cond_same (is_first map.empty q) None ∙ sym (get-empty mark_cmp q))

pub order-empty : order_of map.empty ≡ []
order-empty = ap map.keys no_first_hits ∙ ap (λ (es : List (Mark × List ℤ)). keys_of es) (entries-empty {X = List ℤ} mark_cmp)

pub split-empty : (count : List Part → ℕ) (size : ℕ) → IsSplit count size [] 0 0
split-empty count zero = record { behind = refl; whole = refl; fits = omega arith }
split-empty count (suc t) = record { behind = refl; whole = refl; fits = omega arith }
