-- A walk goes up, and has each operation after its start once.
use Rattle.std.proofs.Common.{◌≡◌, ◌↔◌, List, [], ◌∷◌, map as list_map, refl, sym, ap, subst, ◌∙◌, Some, Option, Contains, unwrap_or}
use Rattle.std.specs.List.{AllByRecursion}
use Rattle.std.specs.List.Sorted.{IsStrictlySortedBy}
use Rattle.std.specs.declared.cmp.Ordering.TheVariants.{Less, Equal, Greater}
use Rattle.std.specs.Ordering.{ordering_reverse}
use Rattle.std.proofs.lemmas.List.Elements.{All-from_recursion, All-contains, Contains-append_left, Contains-append_right, Contains-push}
use Rattle.ft_pairs.specs.declared.at.At.{At}
use Rattle.ft_pairs.specs.declared.at.Op.{Op}
use Rattle.ft_pairs.specs.Order.{at_cmp, at_cmp_total, at_same}
use Rattle.ft_pairs.specs.Source.{Ops}
use Rattle.ft_pairs.specs.Next.{IsBehind, IsWalk}
use Rattle.ft_pairs.proofs.Local.{there_not_none}
use Rattle.ft_pairs.proofs.Nexts.{same_step, behind_too}

module _ (ops : Ops) where
  abbrev IsStep : Option At → At × Op → Type 0
  IsStep after e = IsBehind after e.0 × (ops e.0 ≡ Some e.1)

  from_here : (after : Option At) (n : At) → IsBehind after n → (es : List (At × Op)) → AllByRecursion (IsStep (Some n)) es → AllByRecursion (IsStep after) es
  from_here after n h [] all = tt
  from_here after n h (e ∷ es) all = ((behind_too after n e.0 h all.0.0, all.0.1), from_here after n h es all.1)

  -- each step is an operation after the start
  steps : (after : Option At) (es : List (At × Op)) → IsWalk ops after es → AllByRecursion (IsStep after) es
  steps after [] h = tt
  steps after (e ∷ es) h = ((h.0.behind, h.0.there), from_here after e.0 h.0.behind es (steps (Some e.0) es h.1))

  places : (n : At) (es : List (At × Op)) → AllByRecursion (IsStep (Some n)) es → AllByRecursion (λ y. at_cmp n y ≡ Less) (list_map (λ e. e.0) es)
  places n [] all = tt
  places n (e ∷ es) all = (all.0.0, places n es all.1)

  pub walk_order : (after : Option At) (es : List (At × Op)) → IsWalk ops after es → IsStrictlySortedBy at_cmp (list_map (λ e. e.0) es)
  unfolding IsStrictlySortedBy
  walk_order after [] h = tt
  walk_order after (e ∷ es) h = (places e.0 es (steps (Some e.0) es h.1), walk_order (Some e.0) es h.1)

  first_in : (e : At × Op) (es : List (At × Op)) → Contains (e ∷ es) e
  first_in e es = Contains-append_left (e ∷ []) es e (Contains-push [] e)

  first_as : (step e : At × Op) (es : List (At × Op)) → ◌≡◌ {A = Option (At × Op)} (Some step) (Some e) → Contains (e ∷ es) step
  first_as step e es same = subst (Contains (e ∷ es)) (sym (ap (λ o. unwrap_or o step) same)) (first_in e es)

  met_first : (at : At) (op : Op) → ops at ≡ Some op → (after : Option At) (e : At × Op) (es : List (At × Op)) → IsWalk ops after (e ∷ es) → IsBehind after at
      → (IsBehind (Some e.0) at → Contains es (at, op)) → Contains (e ∷ es) (at, op)
  met_first at op there after e es h behind rest = elim (at_cmp at e.0) as (λ o. at_cmp at e.0 ≡ o → Contains (e ∷ es) (at, op)) [
    | Less ↦ λ less. absurd (there_not_none ops at op there (h.0.none at behind less))
    | Equal ↦ λ tie. first_as (at, op) e es (same_step ops at e.0 op e.1 (at_same at e.0 tie) there h.0.there)
    | Greater ↦ λ more. Contains-append_right (e ∷ []) es (at, op) (rest (at_cmp_total.antisymm e.0 at ∙ ap ordering_reverse more))
  ] refl

  -- each operation after the start is met
  met : (at : At) (op : Op) → ops at ≡ Some op → (after : Option At) (es : List (At × Op)) → IsWalk ops after es → IsBehind after at → Contains es (at, op)
  met at op there after [] h behind = absurd (there_not_none ops at op there (h at behind))
  met at op there after (e ∷ es) h behind = met_first at op there after e es h behind (met at op there (Some e.0) es h.1)

  pub walk_each : (after : Option At) (es : List (At × Op)) → IsWalk ops after es → (at : At) (op : Op) → Contains es (at, op) ↔ (IsBehind after at × (ops at ≡ Some op))
  walk_each after es h at op = (
    λ in_walk. All-contains (IsStep after) es (at, op) (All-from_recursion (IsStep after) es (steps after es h)) in_walk,
    λ is. met at op is.1 after es h is.0,
  )
