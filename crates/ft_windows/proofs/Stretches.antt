-- The stretches that are kept are those that are shown.
use Rattle.std.specs.Prelude.{◌≡◌, ◌||◌, Bool, true, false, List, [], ◌∷◌, Option, Some, None, is_some, map as list_map}
use Rattle.std.specs.BTreeMap.{BTreeMap}
use Rattle.std.specs.Ordering.{eq_by_cmp}
use Rattle.std.specs.FinMap as finite
use Rattle.std.specs.FinMap.{FinMap, find, get-insert, get-from_entries, same_map}
use Rattle.std.proofs.Common.{refl, sym, ap, ◌∙◌, cond}
use Rattle.ft_dispatch.specs.declared.showing.Showing.{Showing}
use Rattle.ft_maps.specs.Seen.{seen}
use Rattle.ft_windows.specs.Showings.{span_cmp, span_cmp_total, span_same, span_of, marked, is_shown, all_spans}
use Rattle.ft_windows.specs.Telling.{has_span}
use Rattle.ft_windows.specs.declared.spans.Span.{Span}

abbrev pub Spans : Type 0
Spans = FinMap span_cmp (Unit {0})

-- a stretch is put among others
put-either : (hit : Bool) (o : Option (Unit {0})) → is_some (cond hit (Some tt) o) ≡ (hit || is_some o)
put-either true o = refl
put-either false o = refl

pub has-put : (m : Spans) (one q : Span) → is_some (finite.get (finite.insert m one tt) q) ≡ (eq_by_cmp span_cmp q one || is_some (finite.get m q))
has-put m one q = ap is_some (get-insert span_cmp_total m one tt q) ∙ put-either (eq_by_cmp span_cmp q one) (finite.get m q)

-- ---- the stretches of a part

-- one of those that are left is put among others
pub span-moves : (now new : Spans) (e : Span × Unit {0}) (left rest : List (Span × Unit {0})) → left ≡ e ∷ rest → new ≡ finite.insert now e.0 tt
    → (q : Span) → (is_some (finite.get new q) || is_some (find span_cmp q rest)) ≡ (is_some (finite.get now q) || is_some (find span_cmp q left))
span-moves now new e left rest steps put q =
    ap (λ (m : Spans). is_some (finite.get m q) || is_some (find span_cmp q rest)) put
    ∙ ap (λ b. b || is_some (find span_cmp q rest)) (has-put now e.0 q)
    ∙ by (eq_by_cmp span_cmp q e.0) (is_some (finite.get now q)) (find span_cmp q rest)
    ∙ ap (λ (es : List (Span × Unit {0})). is_some (finite.get now q) || is_some (find span_cmp q es)) (sym steps)
  where
    by : (hit old : Bool) (o : Option (Unit {0})) → ((hit || old) || is_some o) ≡ (old || is_some (cond hit (Some e.1) o))
    by true true o = refl
    by true false o = refl
    by false old o = refl

-- ---- all stretches

-- a search of the stretches of showings
found : (showings : List Showing) (q : Span) → is_some (find span_cmp q (list_map marked showings)) ≡ is_shown showings q
found [] q = refl
found (s ∷ rest) q = put-either (eq_by_cmp span_cmp q (span_of s)) (find span_cmp q (list_map marked rest)) ∙ ap (λ b. eq_by_cmp span_cmp q (span_of s) || b) (found rest q)

same-mark : (o p : Option (Unit {0})) → is_some o ≡ is_some p → o ≡ p
same-mark None None h = refl
same-mark (Some u) (Some v) h = refl
same-mark None (Some u) h = absurd (cc)
same-mark (Some u) None h = absurd (cc)

-- those that are kept are all that are shown, in their order
pub spans-are : (spans : BTreeMap Span (Unit {0})) (showings : List Showing) → ((q : Span) → has_span spans q ≡ is_shown showings q) → finite.keys (seen span_cmp spans) ≡ all_spans showings
spans-are spans showings same =
    let all : List (Span × Unit {0}) = list_map marked showings in
    ap (λ (m : Spans). finite.keys m) (same_map span_cmp_total span_same (seen span_cmp spans) (finite.from_entries all) (λ q.
    same-mark (finite.get (seen span_cmp spans) q) (finite.get (finite.from_entries {R = span_cmp} all) q)
    (same q ∙ sym (ap is_some (get-from_entries span_cmp_total all q) ∙ found showings q))))
