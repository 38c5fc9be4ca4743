-- What a part shows, behind what the acts before it show.
use Rattle.std.specs.Prelude.{◌≡◌, ◌<◌, ◌+◌, ◌||◌, min, ℕ, Bool, true, false, List, [], ◌∷◌, ◌++◌, slice_index, map as list_map}
use Rattle.std.specs.List.{AllByRecursion, list_any}
use Rattle.std.specs.Cmp.{ranks, nat_cmp_is}
use Rattle.std.specs.Ordering.{nat_cmp, ordering_then}
use Rattle.std.specs.declared.cmp.Ordering.{Ordering}
use Rattle.std.specs.declared.cmp.Ordering.TheVariants.{Less, Equal, Greater}
use Rattle.std.proofs.Common.{refl, sym, ap, ◌∙◌, arith}
use Rattle.std.proofs.lemmas.List.Folds.{list_any-append}
use Rattle.ft_fields.specs.declared.pos.Pos.{Pos}
use Rattle.ft_dispatch.specs.Acts.{Act}
use Rattle.ft_dispatch.specs.Joining.{place_behind, act_behind, KeepsOrder}
use Rattle.ft_dispatch.specs.declared.showing.Showing.{Showing}
use Rattle.ft_windows.specs.Telling.{SayTheSame}
use Rattle.ft_waits.specs.Moving.{moved}
use Rattle.ft_waits.specs.inner.Seams.{HasNumber}

-- ---- places that are moved

shifted : (k a b : ℕ) → nat_cmp (a + k) (b + k) ≡ nat_cmp a b
shifted k a b = by (nat_cmp a b) refl
  where
    by : (r : Ordering) → r ≡ nat_cmp a b → nat_cmp (a + k) (b + k) ≡ r
    by Less is = let low : a < b = rw (sym is) at (ranks a b) in sym (nat_cmp_is (a + k) (b + k) Less (omega (arith, low)))
    by Equal is = let same : a ≡ b = rw (sym is) at (ranks a b) in sym (nat_cmp_is (a + k) (b + k) Equal (omega (arith, same)))
    by Greater is = let high : b < a = rw (sym is) at (ranks a b) in sym (nat_cmp_is (a + k) (b + k) Greater (omega (arith, high)))

module _ (counts : ℕ → ℕ) where
  by-cpu : (p q : Pos) (r : Ordering) → r ≡ nat_cmp p.cpu q.cpu → ordering_then r (nat_cmp (moved counts p).line (moved counts q).line) ≡ ordering_then r (nat_cmp p.line q.line)
  by-cpu p q Less is = refl
  by-cpu p q Equal is =
      let same : p.cpu ≡ q.cpu = rw (sym is) at (ranks p.cpu q.cpu) in
      ap (λ (n : ℕ). nat_cmp (p.line + counts p.cpu) (q.line + n)) (sym (ap counts same)) ∙ shifted (counts p.cpu) p.line q.line
  by-cpu p q Greater is = refl

  -- they keep their order
  pub moved-in-order : KeepsOrder (moved counts)
  moved-in-order = record {
    stamps = λ place. refl;
    order = λ first second. ap (ordering_then (nat_cmp first.stamp second.stamp)) (by-cpu first second (nat_cmp first.cpu second.cpu) refl);
  }

-- acts that have numbers behind are moved so
pub acts-in-order : (counts : List ℕ) (acts : List (Pos × Act)) → AllByRecursion (HasNumber counts) acts → list_map (act_behind (place_behind counts)) acts ≡ list_map (act_behind (moved (slice_index counts))) acts
acts-in-order counts [] all = refl
acts-in-order counts (entry ∷ acts) all =
    let place = entry.0 in
    let here = all.0 in
    let line : min (place.line + slice_index counts place.cpu) 4294967295 ≡ place.line + slice_index counts place.cpu = omega (arith, here) in
    ap (λ (n : ℕ). (record { stamp = place.stamp; cpu = place.cpu; line = n }, entry.1) ∷ list_map (act_behind (place_behind counts)) acts) line
    ∙ ap (λ (es : List (Pos × Act)). (moved (slice_index counts) place, entry.1) ∷ es) (acts-in-order counts acts all.1)

-- ---- showings

turned : (a b f : Bool) → ((a || b) || f) ≡ (f || (b || a))
turned true true true = refl
turned true true false = refl
turned true false true = refl
turned true false false = refl
turned false true true = refl
turned false true false = refl
turned false false true = refl
turned false false false = refl

-- those before, the part's own, and those of its first wakings, are all of them
pub all-shown : (before own firsts all : List Showing) → ((p : Showing → Bool) → list_any p all ≡ (list_any p firsts || (list_any p own || list_any p before))) → SayTheSame ((before ++ own) ++ firsts) all
all-shown before own firsts all is = λ p.
    list_any-append p (before ++ own) firsts ∙ ap (λ (b : Bool). b || list_any p firsts) (list_any-append p before own)
    ∙ turned (list_any p before) (list_any p own) (list_any p firsts) ∙ sym (is p)
