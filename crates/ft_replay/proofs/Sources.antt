-- What acts in order leave of a variable is what the last operation before left.
use Rattle.std.proofs.Common.{◌≡◌, true, false, cond, List, [], ◌∷◌, refl, sym, ap, subst, ◌∙◌, Some, None, Option, inl, inr}
use Rattle.std.specs.Prelude.{fold, filter, ◌⊎◌, option_and_then, is_some}
use Rattle.std.specs.List.{AllByRecursion}
use Rattle.std.specs.List.Sorted.{IsStrictlySortedBy}
use Rattle.std.specs.Option.{option_map_or}
use Rattle.std.specs.declared.cmp.Ordering.TheVariants.{Less}
use Rattle.std.specs.Ordering.{eq_by_cmp, is_lt}
use Rattle.std.specs.Cmp.{eq_by_cmp_equiv}
use Rattle.std.specs.FinMap.{find}
use Rattle.std.proofs.lemmas.Bool.{true≢false, false≢true}
use Rattle.ft_maps.specs.Entries.{same_from_tie}
use Rattle.ft_maps.proofs.Common.{is_less}
use Rattle.ft_pairs.specs.declared.at.At.{At}
use Rattle.ft_pairs.specs.declared.at.Op.{Op}
use Rattle.ft_pairs.specs.declared.at.Op.TheVariants.{Save, Read}
use Rattle.ft_pairs.specs.Order.{at_cmp, at_cmp_total, at_same}
use Rattle.ft_pairs.specs.Source.{Ops, HasNoneBefore, IsLastBefore, IsSource}
use Rattle.ft_replay.proofs.Acts.{Act, is_before}
use Rattle.ft_replay.proofs.ActAt.{by_place}
use Rattle.ft_base.proofs.Apart.{above-is}
use Rattle.ft_replay.proofs.Telling.{places}

-- what an operation leaves: the place of a save, or nothing
abbrev pub effect : Op → Act → Option At
effect Save a = Some a.at
effect Read a = None

module _ (op : Act → Option Op) where
  -- the operation at a place
  abbrev pub ops_in : List Act → Ops
  ops_in acts q = option_and_then op (find at_cmp q (by_place acts))

  -- what an act makes of what was left
  abbrev pub turn : Option At → Act → Option At
  turn old a = option_map_or (λ w. effect w a) (op a) old

  -- the effect of the last operation before a place
  record Last (acts : List Act) (at : At) (new : Option At) : Type 0 where
    act : Act
    kind : Op
    is : new ≡ effect kind act
    last : IsLastBefore (ops_in acts) at act.at kind

  -- what came of a list of acts: what was, with no operation before the place; or the last one's effect
  abbrev Came : List Act → At → Option At → Option At → Type 0
  Came acts at old new = ((new ≡ old) × HasNoneBefore (ops_in acts) at) ⊎ Last acts at new

  abbrev IsAbove : Act → List Act → Type 0
  IsAbove a acts = AllByRecursion (λ y. at_cmp a.at y ≡ Less) (places acts)

  found_above : (a : Act) (acts : List Act) → IsAbove a acts → (q : At) → is_some (find at_cmp q (by_place acts)) ≡ true → at_cmp a.at q ≡ Less
  found_above a [] h q is = absurd (false≢true is)
  found_above a (c ∷ acts) h q is = elim (eq_by_cmp at_cmp q c.at) as (λ b. eq_by_cmp at_cmp q c.at ≡ b → is_some (cond b (Some c) (find at_cmp q (by_place acts))) ≡ true → at_cmp a.at q ≡ Less) [
    | true ↦ λ tie _. subst (λ p. at_cmp a.at p ≡ Less) (sym (same_from_tie at_same q c.at tie)) h.0
    | false ↦ λ _ rest. found_above a acts h.1 q rest
  ] refl is

  op_above : (a : Act) (acts : List Act) → IsAbove a acts → (q : At) (w : Op) → ops_in acts q ≡ Some w → at_cmp a.at q ≡ Less
  op_above a acts h q w is = elim (find at_cmp q (by_place acts)) as (λ o. find at_cmp q (by_place acts) ≡ o → option_and_then op o ≡ Some w → at_cmp a.at q ≡ Less) [
    | None ↦ λ _ no_op. absurd (false≢true (ap is_some no_op))
    | Some b ↦ λ found _. found_above a acts h q (ap is_some found)
  ] refl is

  -- places above the first act see only the others
  behind : (a : Act) (acts : List Act) (q : At) → at_cmp a.at q ≡ Less → ops_in (a ∷ acts) q ≡ ops_in acts q
  behind a acts q h = ap (λ b. option_and_then op (cond b (Some a) (find at_cmp q (by_place acts)))) (above-is at_cmp at_cmp_total a.at q h)

  at_itself : (a : Act) (acts : List Act) → ops_in (a ∷ acts) a.at ≡ op a
  at_itself a acts = ap (λ b. option_and_then op (cond b (Some a) (find at_cmp a.at (by_place acts)))) ((eq_by_cmp_equiv at_cmp_total).refl a.at)

  lifted : (a : Act) (acts : List Act) (at : At) (new : Option At) → IsAbove a acts → Last acts at new → Last (a ∷ acts) at new
  lifted a acts at new above l =
      let over : at_cmp a.at l.act.at ≡ Less = op_above a acts above l.act.at l.kind l.last.there in
      record {
        act = l.act;
        kind = l.kind;
        is = l.is;
        last = record {
          there = behind a acts l.act.at over ∙ l.last.there;
          before = l.last.before;
          none = λ q after h. behind a acts q (at_cmp_total.trans a.at l.act.at q over after) ∙ l.last.none q after h;
        };
      }

  -- nothing at a place, by cases on whether it is the first act's
  nothing_at : (a : Act) (acts : List Act) (q : At) → (q ≡ a.at → op a ≡ None) → ops_in acts q ≡ None → ops_in (a ∷ acts) q ≡ None
  nothing_at a acts q own rest = elim (eq_by_cmp at_cmp q a.at) as (λ b. eq_by_cmp at_cmp q a.at ≡ b → option_and_then op (cond b (Some a) (find at_cmp q (by_place acts))) ≡ None) [
    | true ↦ λ tie. own (same_from_tie at_same q a.at tie)
    | false ↦ λ _. rest
  ] refl

  came_before : (a : Act) (acts : List Act) (at : At) (old new : Option At) → IsAbove a acts → is_before at a ≡ true → Came acts at (turn old a) new → Came (a ∷ acts) at old new
  came_before a acts at old new above before (inr l) = inr (lifted a acts at new above l)
  came_before a acts at old new above before (inl none) = elim (op a) as (λ o. op a ≡ o → Came (a ∷ acts) at old new) [
    | None ↦ λ is. inl (none.0 ∙ ap (λ o. option_map_or (λ w. effect w a) o old) is, λ q h. nothing_at a acts q (λ _. is) (none.1 q h))
    | Some w ↦ λ is. inr (record {
      act = a;
      kind = w;
      is = none.0 ∙ ap (λ o. option_map_or (λ w. effect w a) o old) is;
      last = record {
        there = at_itself a acts ∙ is;
        before = is_less _ before;
        none = λ q after h. behind a acts q after ∙ none.1 q h;
      };
    })
  ] refl

  came_after : (a : Act) (acts : List Act) (at : At) (old new : Option At) → IsAbove a acts → is_before at a ≡ false → Came acts at old new → Came (a ∷ acts) at old new
  came_after a acts at old new above not_before (inr l) = inr (lifted a acts at new above l)
  came_after a acts at old new above not_before (inl none) = inl (
    none.0,
    λ q h. nothing_at a acts q (λ same. absurd (true≢false (sym (ap is_lt (subst (λ p. at_cmp p at ≡ Less) same h)) ∙ not_before))) (none.1 q h),
  )

  came : (acts : List Act) → IsStrictlySortedBy at_cmp (places acts) → (at : At) (old : Option At) → Came acts at old (fold turn old (filter (is_before at) acts))
  unfolding IsStrictlySortedBy
  came [] sorted at old = inl (refl, λ q h. refl)
  came (a ∷ acts) sorted at old = elim (is_before at a) as (λ b. is_before at a ≡ b → Came (a ∷ acts) at old (fold turn old (cond b (a ∷ filter (is_before at) acts) (filter (is_before at) acts)))) [
    | true ↦ λ before. came_before a acts at old _ sorted.0 before (came acts sorted.1 at (turn old a))
    | false ↦ λ not_before. came_after a acts at old _ sorted.0 not_before (came acts sorted.1 at old)
  ] refl

  source_of : (acts : List Act) (at : At) (a : Act) (kind : Op) → IsLastBefore (ops_in acts) at a.at kind → IsSource (ops_in acts) at (effect kind a)
  source_of acts at a Save last = last
  source_of acts at a Read last = inr (a.at, last)

  source_from : (acts : List Act) (at : At) (new : Option At) → Came acts at None new → IsSource (ops_in acts) at new
  source_from acts at new (inl none) = subst (IsSource (ops_in acts) at) (sym none.0) (inl none.1)
  source_from acts at new (inr l) = subst (IsSource (ops_in acts) at) (sym l.is) (source_of acts at l.act l.kind l.last)

  pub sourced : (acts : List Act) → IsStrictlySortedBy at_cmp (places acts) → (at : At) → IsSource (ops_in acts) at (fold turn None (filter (is_before at) acts))
  sourced acts sorted at = source_from acts at _ (came acts sorted at None)
