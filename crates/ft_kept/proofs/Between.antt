-- Acts on the way: an event comes or goes trigger by trigger.
use Rattle.std.proofs.Common.{◌≡◌, ℕ, ◌+◌, Bool, true, false, cond, List, [], ◌∷◌, length, refl, sym, ap, subst, ◌∙◌, Some, None, Option, Less, arith, is_eq, is_none, nat_cmp, true≢false}
use Rattle.std.specs.List.{AllByRecursion, filter}
use Rattle.std.specs.List.Sorted.{IsStrictlySortedBy}
use Rattle.std.specs.Map.{keys_of}
use Rattle.std.specs.Cmp.{nat_cmp_total}
use Rattle.std.specs.FinMap as map
use Rattle.std.specs.FinMap.{entries_sorted, find, get-entries}
use Rattle.std.proofs.lemmas.Map.Keys.{sorted_head, sorted_tail}
use Rattle.std.proofs.lemmas.Map.Lookups.{exact_unsigned}
use Rattle.ft_fields.specs.Traced.{Traced, name_of}
use Rattle.ft_fields.specs.declared.pos.Pos.{Pos}
use Rattle.ft_hist.specs.Hist.{Hist}
use Rattle.ft_hist.specs.Triggers.{Triggers}
use Rattle.ft_hist.specs.Hit.{same_name}
use Rattle.ft_maps.specs.Entries.{strictly_sorted}
use Rattle.ft_pairs.specs.declared.at.At.{At}
use Rattle.ft_kept.specs.inner.OneAct.{IsDoneToo}
use Rattle.ft_shelves.proofs.Attached.{each_found}
use Rattle.ft_shelves.proofs.Decided.{itself, untied}
use Rattle.ft_hist.specs.Tests.{tests_taken}

-- the place of a trigger's act at an event's place
abbrev pub act_of : Pos → ℕ → At
act_of pos id = record { pos = pos; trigger = id }

-- ---- which triggers are done

-- all triggers are done, except these
abbrev pub all_but : List (ℕ × Hist) → ℕ → Bool
all_but es id = is_none (find nat_cmp id es)

-- one that is none of the attached triggers is not attached
pub not_attached : (triggers : Triggers) (id : ℕ) → all_but (map.entries triggers) id ≡ true → map.get triggers id ≡ None
not_attached triggers id out = get-entries triggers id ∙ by (find nat_cmp id (map.entries triggers)) out
  where
    by : (o : Option Hist) → is_none o ≡ true → o ≡ None
    by None none = refl
    by (Some hist) some = absurd (true≢false (sym some))

none_above : (id : ℕ) (es : List (ℕ × Hist)) → AllByRecursion (λ q. nat_cmp id q ≡ Less) (keys_of es) → find nat_cmp id es ≡ None
none_above id [] above = refl
none_above id (e ∷ es) above = ap (λ o. cond (is_eq o) (Some e.1) (find nat_cmp id es)) above.0 ∙ none_above id es above.1

-- the first of those that are left is done too
pub done_too : (e : ℕ × Hist) (es : List (ℕ × Hist)) → AllByRecursion (λ q. nat_cmp e.0 q ≡ Less) (keys_of es) → IsDoneToo e.0 (all_but (e ∷ es)) (all_but es)
done_too e es above = record {
  was = ap (λ b. is_none (cond b (Some e.1) (find nat_cmp e.0 es))) (itself nat_cmp_total e.0);
  is = ap is_none (none_above e.0 es above);
  others = λ i other. sym (ap (λ b. is_none (cond b (Some e.1) (find nat_cmp i es))) (untied nat_cmp_total exact_unsigned i e.0 other));
}

-- ---- which are left

-- some attached triggers are left, in order of id
pub record AreLeft (triggers : Triggers) (left : List (ℕ × Hist)) : Type 0 where
  pub sorted : IsStrictlySortedBy nat_cmp (keys_of left)
  pub attached : AllByRecursion (λ e. map.get triggers e.0 ≡ Some e.1) left

-- at first all of them
pub all_left : (triggers : Triggers) → AreLeft triggers (map.entries triggers)
all_left triggers = record { sorted = strictly_sorted nat_cmp (map.entries triggers) (entries_sorted triggers); attached = each_found nat_cmp nat_cmp_total triggers }

-- the first that is left is done too, and the rest are left
pub record IsFirst (triggers : Triggers) (e : ℕ × Hist) (left rest : List (ℕ × Hist)) : Type 0 where
  pub attached : map.get triggers e.0 ≡ Some e.1
  pub too : IsDoneToo e.0 (all_but left) (all_but rest)
  pub others : AreLeft triggers rest

pub first_left : {triggers : Triggers} {e : ℕ × Hist} {left rest : List (ℕ × Hist)} → left ≡ e ∷ rest → AreLeft triggers left → IsFirst triggers e left rest
first_left {triggers} {e} {left} {rest} more are = subst (λ es. IsFirst triggers e es rest) (sym more) (record {
  attached = now.attached.0;
  too = done_too e rest (sorted_head nat_cmp e.0 (keys_of rest) now.sorted);
  others = record { sorted = sorted_tail nat_cmp e.0 (keys_of rest) now.sorted; attached = now.attached.1 };
})
  where
    now : AreLeft triggers (e ∷ rest)
    now = subst (AreLeft triggers) more are

-- ---- tests

-- the triggers of these that are on an event's name
abbrev pub asked_of : Traced → List (ℕ × Hist) → ℕ
asked_of event es = length (filter (λ attached. same_name attached.1.event (name_of event.body)) es)

pub asked_more : (event : Traced) (e : ℕ × Hist) (es : List (ℕ × Hist)) → asked_of event (e ∷ es) ≡ tests_taken e.1 event + asked_of event es
asked_more event e es = by (same_name e.1.event (name_of event.body))
  where
    by : (b : Bool) → length (cond b (e ∷ filter (λ attached. same_name attached.1.event (name_of event.body)) es) (filter (λ attached. same_name attached.1.event (name_of event.body)) es))
        ≡ cond b 1 0 + asked_of event es
    by true = omega arith
    by false = omega arith
