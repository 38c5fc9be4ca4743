-- Events taken out of lanes one by one: none is lost, and none comes twice.
use Rattle.std.proofs.Common.{◌≡◌, ◌<◌, ℕ, zero, suc, Bool, true, false, cond, List, [], ◌∷◌, ◌++◌, length, get_or, set, refl, sym, ap, subst, ◌∙◌, arith, append_assoc}
use Rattle.std.specs.Prelude.{filter, IsPermutation}
use Rattle.std.specs.Prelude.{Option, None, Some, MatchOption}
use Rattle.std.specs.Map.Iter.{TakesFirst}
use Rattle.std.proofs.lemmas.List.{map-append, set-get_or}
use Rattle.std.proofs.lemmas.List.Elements.{filter-append}
use Rattle.std.proofs.lemmas.List.Sorted.{IsPermutation-refl, IsPermutation-trans, IsPermutation-append_left, IsPermutation-append_right, IsPermutation-middle, IsPermutation-to_front, IsPermutation-insert, IsPermutation-map}
use Rattle.std.specs.List.{insert}
use Rattle.ft_fields.specs.Traced.{Traced}
use Rattle.ft_fields.specs.declared.pos.Pos.{Pos}
use Rattle.ft_maps.specs.Mapped.{entries_by}
use Rattle.ft_store.specs.Stored.{held}
use Rattle.ft_store.specs.declared.stored.Stored.{Stored}
use Rattle.ft_replay.specs.inner.Rests.{traced_entry, entries_left, IsTaken}

-- the first event of one rest is taken out of all that is left
pub taken_at : (rests : List (List (Pos × Traced))) (i : ℕ) (e : Pos × Traced) (rest d : List (Pos × Traced))
    → i < length rests → get_or rests i d ≡ e ∷ rest → IsTaken (entries_left rests) e (entries_left (set rests i rest))
taken_at [] i e rest d inside is = absurd (omega arith)
taken_at (first ∷ rests) zero e rest d inside is = record {
  before = [];
  behind = rest ++ entries_left rests;
  was = ap (λ (es : List (Pos × Traced)). es ++ entries_left rests) is;
  is = refl;
}
taken_at (first ∷ rests) (suc i) e rest d inside is =
    let taken = taken_at rests i e rest d (omega arith) is in record {
      before = first ++ taken.before;
      behind = taken.behind;
      was = ap (λ (es : List (Pos × Traced)). first ++ es) taken.was ∙ sym (append_assoc first taken.before (e ∷ taken.behind));
      is = ap (λ (es : List (Pos × Traced)). first ++ es) taken.is ∙ sym (append_assoc first taken.before taken.behind);
    }

-- and with it what `next` gives
pub next_taken : (rests : List (List (Pos × Traced))) (i : ℕ) (d old new : List (Pos × Traced)) (r : Option (Pos × Stored))
    → i < length rests → get_or rests i d ≡ old → TakesFirst traced_entry old r new
    → MatchOption r (entries_left (set rests i new) ≡ entries_left rests) (λ e. IsTaken (entries_left rests) (traced_entry e) (entries_left (set rests i new)))
next_taken rests i d old new None inside is step =
    ap (λ (rest : List (Pos × Traced)). entries_left (set rests i rest)) (step.1 ∙ sym (is ∙ step.0)) ∙ ap entries_left (set-get_or rests i d)
next_taken rests i d old new (Some e) inside is step = taken_at rests i (traced_entry e) new d inside (is ∙ step)

module _ (fits : Pos × Traced → Bool) where
  to_front : (b : Bool) (e : Pos × Traced) (before behind : List (Pos × Traced))
      → IsPermutation (before ++ cond b (e ∷ behind) behind) (cond b (e ∷ []) [] ++ (before ++ behind))
  to_front true e before behind = IsPermutation-middle before e behind
  to_front false e before behind = IsPermutation-refl (before ++ behind)

  -- an event that is taken out is listed if it fits
  pub taken_listed : (xs ys old new : List (Pos × Traced)) (e : Pos × Traced) → IsTaken old e new
      → IsPermutation (xs ++ filter fits (e ∷ [])) ys → IsPermutation (xs ++ filter fits old) (ys ++ filter fits new)
  taken_listed xs ys old new e taken pushed =
      let all = ap (filter fits) taken.was ∙ filter-append fits taken.before (e ∷ taken.behind) in
      let rest = ap (filter fits) taken.is ∙ filter-append fits taken.before taken.behind in
      let moved : IsPermutation (filter fits old) (filter fits (e ∷ []) ++ filter fits new) =
      subst (λ es. IsPermutation es (filter fits (e ∷ []) ++ filter fits new)) (sym all)
      (subst (λ es. IsPermutation (filter fits taken.before ++ filter fits (e ∷ taken.behind)) (filter fits (e ∷ []) ++ es)) (sym rest) (to_front (fits e) e (filter fits taken.before) (filter fits taken.behind))) in
      IsPermutation-trans _ _ _
      (subst (IsPermutation (xs ++ filter fits old)) (sym (append_assoc xs (filter fits (e ∷ [])) (filter fits new))) (IsPermutation-append_right xs _ _ moved))
      (IsPermutation-append_left (filter fits new) _ _ pushed)

  -- an event is listed if it fits
  pub listed_one : (b : Bool) (xs ys : List (Pos × Traced)) (e : Pos × Traced) → fits e ≡ b → IsPermutation (xs ++ cond b (e ∷ []) []) ys → IsPermutation (xs ++ filter fits (e ∷ [])) ys
  listed_one b xs ys e is moved = subst (λ (c : Bool). IsPermutation (xs ++ cond c (e ∷ []) []) ys) (sym is) moved

-- wherever an element is put in, all elements are those before and it
pub put_in : {X : Type 0} (xs : List X) (i : ℕ) (x : X) → IsPermutation (xs ++ x ∷ []) (insert xs i x)
put_in xs i x = IsPermutation-trans _ _ _ (IsPermutation-to_front xs x) (IsPermutation-insert xs i x)

-- references with one more after them, as entries
pub pushed_entry : (old new : List (Pos × Stored)) (e : Pos × Stored) → IsPermutation (old ++ e ∷ []) new → IsPermutation (entries_by held old ++ traced_entry e ∷ []) (entries_by held new)
pushed_entry old new e moved = subst (λ (es : List (Pos × Traced)). IsPermutation es (entries_by held new)) (map-append traced_entry old (e ∷ [])) (IsPermutation-map traced_entry (old ++ e ∷ []) new moved)
