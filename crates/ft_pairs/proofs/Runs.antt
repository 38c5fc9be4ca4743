-- Reads that were put, and what they find.
use Rattle.std.proofs.Common.{◌≡◌, ◌||◌, ℕ, ◌<◌, ◌≤◌, Bool, true, false, cond, List, [], ◌∷◌, ◌++◌, length, ltb, fold, refl, sym, ap, subst, ◌∙◌, arith, Some, None, Option}
use Rattle.std.specs.Prelude.{slice_index_or}
use Rattle.std.specs.List.{list_any}
use Rattle.std.specs.FinMap as map
use Rattle.std.specs.FinMap.{get-insert}
use Rattle.std.proofs.lemmas.Bool.{ltb-true, ltb-false}
use Rattle.std.proofs.lemmas.List.{length_push, get_or_at, get_or_append_left, get_or_default}
use Rattle.ft_pairs.specs.declared.at.At.{At}
use Rattle.ft_pairs.specs.declared.at.Op.{Op}
use Rattle.ft_pairs.specs.declared.at.Op.TheVariants.{Read}
use Rattle.ft_pairs.specs.Order.{at_cmp_total}
use Rattle.ft_pairs.specs.Source.{Ops, IsSource}
use Rattle.ft_pairs.specs.ByKey.{KeyOps}
use Rattle.ft_pairs.specs.Edits.{same_at}
use Rattle.ft_pairs.specs.Runs.{with_reads, FindEach}
use Rattle.ft_pairs.specs.inner.Met.{with_read, FindFirst}

both : (a b : Bool) (o : Option Op) → cond b (Some Read) (cond a (Some Read) o) ≡ cond (a || b) (Some Read) o
both true true o = refl
both true false o = refl
both false b o = refl

-- reads that are put in turn stand at each of their places
pub in_turn : (ops : KeyOps) (reads : List At) (q : At) → map.get (fold with_read ops reads) q ≡ with_reads reads (map.get ops) q
in_turn ops [] q = refl
in_turn ops (read ∷ reads) q =
    in_turn (with_read ops read) reads q
    ∙ ap (cond (list_any (same_at q) reads) (Some Read)) (get-insert at_cmp_total ops read Read q)
    ∙ both (same_at q read) (list_any (same_at q) reads) (map.get ops q)

module _ (ops : Ops) where
  pub none_first : (reads : List At) → FindFirst ops reads []
  none_first reads = record { few = omega arith; each = λ i d lt. absurd (omega (arith, lt)) }

  -- one more is found after the first of some
  pub found_next : (reads : List At) (found : List (Option At)) (read : At) (one : Option At) → length found < length reads → read ≡ slice_index_or reads (length found) read
      → IsSource ops read one → FindFirst ops reads found → FindFirst ops reads (found ++ one ∷ [])
  found_next reads found read one more is finds firsts = record { few = omega (arith, length_push found one, more); each = each }
    where
      each : (i : ℕ) (d : At) → i < length (found ++ one ∷ []) → IsSource ops (slice_index_or reads i d) (slice_index_or (found ++ one ∷ []) i None)
      each i d lt = by (ltb i (length found)) refl
        where
          by : (b : Bool) → ltb i (length found) ≡ b → IsSource ops (slice_index_or reads i d) (slice_index_or (found ++ one ∷ []) i None)
          by true below = subst (IsSource ops (slice_index_or reads i d)) (sym (get_or_append_left found (one ∷ []) None i (ltb-true _ _ below))) (firsts.each i d (ltb-true _ _ below))
          by false above =
              let last : length found ≡ i = omega (arith, length_push found one, lt, ltb-false _ _ above) in
              let place : read ≡ slice_index_or reads i d = is ∙ get_or_default reads (length found) read d more ∙ ap (λ (k : ℕ). slice_index_or reads k d) last in
              subst (IsSource ops (slice_index_or reads i d)) (sym (get_or_at found one [] None i last)) (subst (λ p. IsSource ops p one) place finds)

  -- if as many are found as there are places, each is
  pub each_found : (reads : List At) (found : List (Option At)) → length reads ≤ length found → FindFirst ops reads found → FindEach ops reads found
  each_found reads found all firsts = record { many = omega (arith, all, firsts.few); each = λ i d lt. firsts.each i d (omega (arith, all, lt)) }
