-- After the next operation fewer are left.
use Rattle.std.proofs.Common.{◌≡◌, ◌<◌, ◌≤◌, Bool, true, false, cond, List, [], ◌∷◌, length, refl, sym, ap, ◌∙◌, arith, Some, None, Option}
use Rattle.std.specs.Prelude.{is_some}
use Rattle.std.specs.List.{filter}
use Rattle.std.proofs.lemmas.Bool.{true≢false}
use Rattle.std.specs.Ordering.{is_lt}
use Rattle.std.specs.Cmp.{eq_by_cmp_equiv}
use Rattle.std.specs.FinMap as map
use Rattle.std.specs.FinMap.{find, get-entries}
use Rattle.ft_maps.specs.Entries.{same_from_tie}
use Rattle.ft_maps.proofs.Common.{is_less, not_below}
use Rattle.ft_pairs.specs.declared.at.At.{At}
use Rattle.ft_pairs.specs.declared.at.Op.{Op}
use Rattle.ft_pairs.specs.Order.{at_cmp, at_cmp_total, at_same}
use Rattle.ft_pairs.specs.Next.{IsBehind}
use Rattle.ft_pairs.specs.Edits.{same_at}
use Rattle.ft_pairs.specs.ByKey.{KeyOps, is_behind}

behind_true : (after : Option At) (q : At) → IsBehind after q → is_behind after q ≡ true
behind_true None q h = refl
behind_true (Some at) q h = ap is_lt h

behind_too : (after : Option At) (n q : At) → IsBehind after n → is_behind (Some n) q ≡ true → is_behind after q ≡ true
behind_too None n q h more = refl
behind_too (Some at) n q h more = ap is_lt (at_cmp_total.trans at n q h (is_less _ more))

module _ (p q : At → Bool) (under : (x : At) → p x ≡ true → q x ≡ true) where
  abbrev by_p : List (At × Op) → List (At × Op)
  by_p es = filter (λ e. p e.0) es

  abbrev by_q : List (At × Op) → List (At × Op)
  by_q es = filter (λ e. q e.0) es

  one_more : (e : At × Op) (es : List (At × Op)) → length (by_p es) ≤ length (by_q es) → (a b : Bool) → p e.0 ≡ a → q e.0 ≡ b → length (cond a (e ∷ by_p es) (by_p es)) ≤ length (cond b (e ∷ by_q es) (by_q es))
  one_more e es rest true true pe qe = omega (arith, rest)
  one_more e es rest true false pe qe = absurd (true≢false (sym (under e.0 pe) ∙ qe))
  one_more e es rest false true pe qe = omega (arith, rest)
  one_more e es rest false false pe qe = rest

  -- no more pass the narrower test
  no_more : (es : List (At × Op)) → length (by_p es) ≤ length (by_q es)
  no_more [] = omega arith
  no_more (e ∷ es) = one_more e es (no_more es) (p e.0) (q e.0) refl refl

  module _ (n : At) (op : Op) (not : p n ≡ false) (is : q n ≡ true) where
    abbrev Fewer : List (At × Op) → Type 0
    Fewer es = length (by_p es) < length (by_q es)

    later : (e : At × Op) (es : List (At × Op)) → Fewer es → (a b : Bool) → p e.0 ≡ a → q e.0 ≡ b → length (cond a (e ∷ by_p es) (by_p es)) < length (cond b (e ∷ by_q es) (by_q es))
    later e es rest true true pe qe = omega (arith, rest)
    later e es rest true false pe qe = absurd (true≢false (sym (under e.0 pe) ∙ qe))
    later e es rest false true pe qe = omega (arith, rest)
    later e es rest false false pe qe = rest

    here : (e : At × Op) (es : List (At × Op)) → n ≡ e.0 → length (by_p es) ≤ length (by_q es) → (a b : Bool) → p e.0 ≡ a → q e.0 ≡ b → length (cond a (e ∷ by_p es) (by_p es)) < length (cond b (e ∷ by_q es) (by_q es))
    here e es same rest true b pe qe = absurd (true≢false (sym pe ∙ sym (ap p same) ∙ not))
    here e es same rest false false pe qe = absurd (true≢false (sym is ∙ ap q same ∙ qe))
    here e es same rest false true pe qe = omega (arith, rest)

    by_first : (e : At × Op) (es : List (At × Op)) → (find at_cmp n es ≡ Some op → Fewer es) → (tie : Bool) → same_at n e.0 ≡ tie → cond tie (Some e.1) (find at_cmp n es) ≡ Some op → Fewer (e ∷ es)
    by_first e es rest true tie found = here e es (same_from_tie at_same n e.0 tie) (no_more es) (p e.0) (q e.0) refl refl
    by_first e es rest false apart found = later e es (rest found) (p e.0) (q e.0) refl refl

    -- fewer pass it, if an entry passes only the wider one
    fewer : (es : List (At × Op)) → find at_cmp n es ≡ Some op → Fewer es
    fewer [] found = absurd (true≢false (sym (ap is_some found)))
    fewer (e ∷ es) found = by_first e es (fewer es) (same_at n e.0) refl found

-- the next operation isn't after itself
pub fewer_left : (ops : KeyOps) (after : Option At) (n : At) (op : Op) → IsBehind after n → map.get ops n ≡ Some op
    → length (filter (λ (e : At × Op). is_behind (Some n) e.0) (map.entries ops)) < length (filter (λ (e : At × Op). is_behind after e.0) (map.entries ops))
fewer_left ops after n op behind there =
    fewer (is_behind (Some n)) (is_behind after) (λ q more. behind_too after n q behind more) n op
    (not_below (at_cmp n n) ((eq_by_cmp_equiv at_cmp_total).refl n)) (behind_true after n behind) (map.entries ops) (sym (get-entries ops n) ∙ there)
