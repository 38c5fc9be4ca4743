-- The last of some places before another, the first after it, and what they are among operations.
use Rattle.std.proofs.Common.{◌≡◌, ℕ, zero, suc, ◌<◌, Bool, true, false, cond, List, [], ◌∷◌, length, get_or, refl, sym, ap, subst, ◌∙◌, arith, Some, None, Option, unwrap_or, inl, inr}
use Rattle.std.specs.Prelude.{is_some, if◌then◌else◌}
use Rattle.std.specs.declared.cmp.Ordering.{Ordering}
use Rattle.std.specs.declared.cmp.Ordering.TheVariants.{Less, Equal, Greater}
use Rattle.std.specs.Ordering.{eq_by_cmp, is_lt, ordering_reverse}
use Rattle.std.specs.Cmp.{eq_by_cmp_equiv}
use Rattle.std.specs.Map.{keys_of}
use Rattle.std.specs.FinMap as map
use Rattle.std.specs.FinMap.{find}
use Rattle.std.proofs.lemmas.Bool.{true≢false}
use Rattle.std.proofs.lemmas.Option.{none-some}
use Rattle.ft_maps.specs.Entries.{same_from_tie}
use Rattle.ft_blocks.specs.Sorted.{AllAbove, Ascend, later, last_below, first_above, first_entry}
use Rattle.ft_pairs.specs.declared.at.At.{At}
use Rattle.ft_pairs.specs.declared.at.Op.TheVariants.{Save, Read}
use Rattle.ft_pairs.specs.Order.{at_cmp, at_cmp_total, at_same}
use Rattle.ft_pairs.specs.Source.{Ops, IsSource, IsLastBefore}
use Rattle.ft_pairs.specs.Next.{IsNext, IsBehind}
use Rattle.ft_pairs.specs.inner.Sides.{both, is_place, IsLast, IsLastOf, IsFirst, IsFirstOf}
use Rattle.ft_pairs.proofs.Sides.{get-both, lt_is, op_at}

less_not_more : (p q : At) → at_cmp p q ≡ Less → at_cmp q p ≡ Less → ⊥
less_not_more p q less more =
    let both_ways : Less ≡ Greater = sym less ∙ at_cmp_total.antisymm p q ∙ ap ordering_reverse more in
    cc

not_lt : (p q : At) → is_lt (at_cmp p q) ≡ false → at_cmp p q ≡ Less → ⊥
not_lt p q isnt less = true≢false (sym (ap is_lt less) ∙ isnt)

module _ {U : Type 0} where
  -- a place among some that are all after another is after it too
  in_above : (at q : At) (es : List (At × U)) → AllAbove at_cmp at es → is_place es q ≡ true → at_cmp at q ≡ Less
  in_above at q [] all is = absurd (true≢false (sym is))
  in_above at q (e ∷ es) all is = by (in_above at q es all.1) (eq_by_cmp at_cmp q e.0) refl is
    where
      by : (is_place es q ≡ true → at_cmp at q ≡ Less) → (b : Bool) → eq_by_cmp at_cmp q e.0 ≡ b → is_some (cond b (Some e.1) (find at_cmp q es)) ≡ true → at_cmp at q ≡ Less
      by rest true tie there = subst (λ p. at_cmp at p ≡ Less) (sym (same_from_tie at_same q e.0 tie)) all.0
      by rest false apart there = rest there

  -- a place that isn't after those before is among none of them
  none_here : (at q : At) (es : List (At × U)) → AllAbove at_cmp at es → at_cmp q at ≡ Less → is_place es q ≡ false
  none_here at q es all less = by (is_place es q) refl
    where
      by : (b : Bool) → is_place es q ≡ b → b ≡ false
      by true is = absurd (less_not_more at q (in_above at q es all is) less)
      by false is = refl

  not_there : (q : At) (e : At × U) (es : List (At × U)) → (q ≡ e.0 → ⊥) → is_place es q ≡ false → is_place (e ∷ es) q ≡ false
  not_there q e es apart rest = by (eq_by_cmp at_cmp q e.0) refl
    where
      by : (b : Bool) → eq_by_cmp at_cmp q e.0 ≡ b → is_some (cond b (Some e.1) (find at_cmp q es)) ≡ false
      by true tie = absurd (apart (same_from_tie at_same q e.0 tie))
      by false _ = rest

  here : (e : At × U) (es : List (At × U)) → is_place (e ∷ es) e.0 ≡ true
  here e es = ap (λ b. is_some (cond b (Some e.1) (find at_cmp e.0 es))) ((eq_by_cmp_equiv at_cmp_total).refl e.0)

  there_too : (q : At) (e : At × U) (es : List (At × U)) → is_place es q ≡ true → is_place (e ∷ es) q ≡ true
  there_too q e es is = by (eq_by_cmp at_cmp q e.0)
    where
      by : (b : Bool) → is_some (cond b (Some e.1) (find at_cmp q es)) ≡ true
      by true = refl
      by false = is

  -- ---- the last before a place

  pub last_none : (at : At) (es : List (At × U)) → last_below at_cmp at es ≡ None → IsLastOf es at None
  last_none at [] none q less = refl
  last_none at (e ∷ es) none q less = by (λ is. last_none at es is q less) (is_lt (at_cmp e.0 at)) refl none
    where
      by : (last_below at_cmp at es ≡ None → is_place es q ≡ false) → (b : Bool) → is_lt (at_cmp e.0 at) ≡ b
          → (if b then Some (later e (last_below at_cmp at es)) else last_below at_cmp at es) ≡ None → is_place (e ∷ es) q ≡ false
      by rest true _ is = absurd (none-some _ (sym is))
      by rest false isnt is = not_there q e es (λ same. not_lt e.0 at isnt (subst (λ p. at_cmp p at ≡ Less) same less)) (rest is)

  last_first : (at : At) (e : At × U) (es : List (At × U)) → at_cmp e.0 at ≡ Less → IsLastOf es at None → IsLast (e ∷ es) at e.0
  last_first at e es less none = record {
    there = here e es;
    before = less;
    none = λ q after before. not_there q e es (λ same. less_not_more e.0 q after (subst (λ p. at_cmp p e.0 ≡ Less) (sym same) (subst (λ p. at_cmp e.0 p ≡ Less) same after))) (none q before);
  }

  last_later : (at last : At) (e : At × U) (es : List (At × U)) → AllAbove at_cmp e.0 es → IsLast es at last → IsLast (e ∷ es) at last
  last_later at last e es up is = record {
    there = there_too last e es is.there;
    before = is.before;
    none = λ q after before. not_there q e es (λ same. less_not_more last e.0 (subst (λ p. at_cmp last p ≡ Less) same after) (in_above e.0 last es up is.there)) (is.none q after before);
  }

  pub last_some : (at : At) (es : List (At × U)) (last : At × U) → Ascend at_cmp es → last_below at_cmp at es ≡ Some last → IsLast es at last.0
  last_some at [] last up is = absurd (none-some _ is)
  last_some at (e ∷ es) last up is = by (λ f some. last_some at es f up.1 some) (is_lt (at_cmp e.0 at)) refl is
    where
      Rest : Type 0
      Rest = (f : At × U) → last_below at_cmp at es ≡ Some f → IsLast es at f.0

      of_rest : Rest → (o : Option (At × U)) → last_below at_cmp at es ≡ o → at_cmp e.0 at ≡ Less → Some (later e o) ≡ Some last → IsLast (e ∷ es) at last.0
      of_rest rest None none less same = subst (λ (l : At × U). IsLast (e ∷ es) at l.0) (ap (λ o. unwrap_or o e) same) (last_first at e es less (last_none at es none))
      of_rest rest (Some f) some less same = subst (λ (l : At × U). IsLast (e ∷ es) at l.0) (ap (λ o. unwrap_or o e) same) (last_later at f.0 e es up.0 (rest f some))

      by : Rest → (b : Bool) → is_lt (at_cmp e.0 at) ≡ b → (if b then Some (later e (last_below at_cmp at es)) else last_below at_cmp at es) ≡ Some last → IsLast (e ∷ es) at last.0
      by rest true less same = of_rest rest (last_below at_cmp at es) refl (lt_is _ less) same
      by rest false _ same = last_later at last.0 e es up.0 (rest last same)

  -- ---- places in order

  -- none stands before the first
  pub head_none : (e : At × U) (es : List (At × U)) → AllAbove at_cmp e.0 es → IsLastOf (e ∷ es) e.0 None
  head_none e es up q less = not_there q e es (λ same. less_not_more q e.0 less (subst (λ p. at_cmp p q ≡ Less) same (subst (λ p. at_cmp q p ≡ Less) (sym same) less))) (none_here e.0 q es up less)

  pub none_first : (es : List (At × U)) → Ascend at_cmp es → (d : At) → 0 < length (keys_of es) → IsLastOf es (get_or (keys_of es) 0 d) None
  none_first [] up d lt = absurd (omega (arith, lt))
  none_first (e ∷ es) up d lt = head_none e es up.0

  -- the last before each of the others is the one that stands before it in the list
  pub last_next : (es : List (At × U)) → Ascend at_cmp es → (i : ℕ) (d c : At) → suc i < length (keys_of es) → IsLast es (get_or (keys_of es) (suc i) d) (get_or (keys_of es) i c)
  last_next [] up i d c lt = absurd (omega (arith, lt))
  last_next (e ∷ []) up i d c lt = absurd (omega (arith, lt))
  last_next (e ∷ f ∷ es) up zero d c lt = last_first f.0 e (f ∷ es) up.0.0 (head_none f es up.1.0)
  last_next (e ∷ f ∷ es) up (suc i) d c lt = last_later _ _ e (f ∷ es) up.0 (last_next (f ∷ es) up.1 i d c (omega (arith, lt)))

  -- ---- the first after a place

  pub first_none : (at : At) (es : List (At × U)) → first_above at_cmp at es ≡ None → IsFirstOf es (Some at) None
  first_none at [] none q behind = refl
  first_none at (e ∷ es) none q behind = by (λ is. first_none at es is q behind) (is_lt (at_cmp at e.0)) refl none
    where
      by : (first_above at_cmp at es ≡ None → is_place es q ≡ false) → (b : Bool) → is_lt (at_cmp at e.0) ≡ b
          → (if b then Some e else first_above at_cmp at es) ≡ None → is_place (e ∷ es) q ≡ false
      by rest true _ is = absurd (none-some _ (sym is))
      by rest false isnt is = not_there q e es (λ same. not_lt at e.0 isnt (subst (λ p. at_cmp at p ≡ Less) same behind)) (rest is)

  first_first : (after : Option At) (e : At × U) (es : List (At × U)) → AllAbove at_cmp e.0 es → IsBehind after e.0 → IsFirst (e ∷ es) after e.0
  first_first after e es up behind = record {
    there = here e es;
    behind = behind;
    none = λ q _ before. not_there q e es (λ same. less_not_more q e.0 before (subst (λ p. at_cmp p q ≡ Less) same (subst (λ p. at_cmp q p ≡ Less) (sym same) before))) (none_here e.0 q es up before);
  }

  first_later : (at first : At) (e : At × U) (es : List (At × U)) → is_lt (at_cmp at e.0) ≡ false → IsFirst es (Some at) first → IsFirst (e ∷ es) (Some at) first
  first_later at first e es isnt is = record {
    there = there_too first e es is.there;
    behind = is.behind;
    none = λ q behind before. not_there q e es (λ same. not_lt at e.0 isnt (subst (λ p. at_cmp at p ≡ Less) same behind)) (is.none q behind before);
  }

  pub first_some : (at : At) (es : List (At × U)) (first : At × U) → Ascend at_cmp es → first_above at_cmp at es ≡ Some first → IsFirst es (Some at) first.0
  first_some at [] first up is = absurd (none-some _ is)
  first_some at (e ∷ es) first up is = by (λ same. first_some at es first up.1 same) (at_cmp at e.0) refl is
    where
      by : (first_above at_cmp at es ≡ Some first → IsFirst es (Some at) first.0) → (o : Ordering) → at_cmp at e.0 ≡ o
          → (if is_lt o then Some e else first_above at_cmp at es) ≡ Some first → IsFirst (e ∷ es) (Some at) first.0
      by rest Less less same = subst (λ (f : At × U). IsFirst (e ∷ es) (Some at) f.0) (ap (λ o. unwrap_or o e) same) (first_first (Some at) e es up.0 less)
      by rest Equal isnt same = first_later at first.0 e es (ap is_lt isnt) (rest same)
      by rest Greater isnt same = first_later at first.0 e es (ap is_lt isnt) (rest same)

  pub no_entries : (es : List (At × U)) → is_some (first_entry es) ≡ false → es ≡ []
  no_entries [] none = refl
  no_entries (e ∷ es) none = absurd (true≢false none)

  pub all_none : (es : List (At × U)) → first_entry es ≡ None → IsFirstOf es None None
  all_none [] none q behind = refl
  all_none (e ∷ es) none q behind = absurd (none-some _ (sym none))

  pub all_some : (es : List (At × U)) (first : At × U) → Ascend at_cmp es → first_entry es ≡ Some first → IsFirst es None first.0
  all_some [] first up is = absurd (none-some _ is)
  all_some (e ∷ es) first up is = subst (λ (f : At × U). IsFirst (e ∷ es) None f.0) (ap (λ o. unwrap_or o e) is) (first_first None e es up.0 tt)

  -- ---- operations

  module _ (saves reads : List (At × U)) where
    abbrev ops : Ops
    ops = map.get (both saves reads)

    pub none_at : (q : At) → is_place saves q ≡ false → is_place reads q ≡ false → ops q ≡ None
    none_at q save read = get-both saves reads q ∙ (λ i. op_at (save i) (read i))

    pub read_at : (q : At) → is_place reads q ≡ true → ops q ≡ Some Read
    read_at q read = get-both saves reads q ∙ ap (op_at (is_place saves q)) read

    pub save_at : (q : At) → is_place saves q ≡ true → is_place reads q ≡ false → ops q ≡ Some Save
    save_at q save read = get-both saves reads q ∙ (λ i. op_at (save i) (read i))

    last_read : (at read : At) → IsLast reads at read → ((q : At) → at_cmp read q ≡ Less → at_cmp q at ≡ Less → is_place saves q ≡ false) → IsLastBefore ops at read Read
    last_read at read is none = record {
      there = read_at read is.there;
      before = is.before;
      none = λ q after before. none_at q (none q after before) (is.none q after before);
    }

    -- no save stands before a place
    pub no_save : (at : At) (read : Option At) → IsLastOf saves at None → IsLastOf reads at read → IsSource ops at None
    no_save at None none is = inl (λ q before. none_at q (none q before) (is q before))
    no_save at (Some read) none is = inr (read, last_read at read is (λ q after before. none q before))

    -- a save stands before it, and no read
    pub no_read : (at save : At) → IsLast saves at save → IsLastOf reads at None → IsSource ops at (Some save)
    no_read at save is none = record {
      there = save_at save is.there (none save is.before);
      before = is.before;
      none = λ q after before. none_at q (is.none q after before) (none q before);
    }

    -- the last read stands before the last save
    pub save_later : (at save read : At) → IsLast saves at save → IsLast reads at read → at_cmp read save ≡ Less → IsSource ops at (Some save)
    save_later at save read is other less = record {
      there = save_at save is.there (other.none save less is.before);
      before = is.before;
      none = λ q after before. none_at q (is.none q after before) (other.none q (at_cmp_total.trans read save q less after) before);
    }

    -- or it doesn't
    pub read_later : (at save read : At) → IsLast saves at save → IsLast reads at read → is_lt (at_cmp read save) ≡ false → IsSource ops at None
    read_later at save read is other isnt = inr (read, last_read at read other (by (at_cmp read save) refl))
      where
        by : (o : Ordering) → at_cmp read save ≡ o → (q : At) → at_cmp read q ≡ Less → at_cmp q at ≡ Less → is_place saves q ≡ false
        by Less less q after before = absurd (not_lt read save isnt less)
        by Equal tie q after before = is.none q (subst (λ p. at_cmp p q ≡ Less) (at_same read save tie) after) before
        by Greater more q after before = is.none q (at_cmp_total.trans save read q (at_cmp_total.antisymm save read ∙ ap ordering_reverse more) after) before

    -- nothing stands after a place
    pub none_next : (after : Option At) → IsFirstOf saves after None → IsFirstOf reads after None → IsNext ops after None
    none_next after save read q behind = none_at q (save q behind) (read q behind)

    -- a read is next, if no save stands before it
    pub read_next : (after : Option At) (read : At) → IsFirst reads after read → ((q : At) → IsBehind after q → at_cmp q read ≡ Less → is_place saves q ≡ false) → IsNext ops after (Some (read, Read))
    read_next after read is none = record {
      there = read_at read is.there;
      behind = is.behind;
      none = λ q behind before. none_at q (none q behind before) (is.none q behind before);
    }

    -- a save is next, if no read stands before it or there
    pub save_next : (after : Option At) (save : At) → IsFirst saves after save → is_place reads save ≡ false
        → ((q : At) → IsBehind after q → at_cmp q save ≡ Less → is_place reads q ≡ false) → IsNext ops after (Some (save, Save))
    save_next after save is apart none = record {
      there = save_at save is.there apart;
      behind = is.behind;
      none = λ q behind before. none_at q (is.none q behind before) (none q behind before);
    }

    -- of a save and a read, the save stands first
    pub save_first : (after : Option At) (save read : At) → IsFirst saves after save → IsFirst reads after read → at_cmp save read ≡ Less → IsNext ops after (Some (save, Save))
    save_first after save read is other less = save_next after save is (other.none save is.behind less) (λ q behind before. other.none q behind (at_cmp_total.trans q save read before less))

    -- or it doesn't
    pub read_first : (after : Option At) (save read : At) → IsFirst saves after save → IsFirst reads after read → is_lt (at_cmp save read) ≡ false → IsNext ops after (Some (read, Read))
    read_first after save read is other isnt = read_next after read other (by (at_cmp save read) refl)
      where
        by : (o : Ordering) → at_cmp save read ≡ o → (q : At) → IsBehind after q → at_cmp q read ≡ Less → is_place saves q ≡ false
        by Less less q behind before = absurd (not_lt save read isnt less)
        by Equal tie q behind before = is.none q behind (subst (λ p. at_cmp q p ≡ Less) (sym (at_same save read tie)) before)
        by Greater more q behind before = is.none q behind (at_cmp_total.trans q read save before (at_cmp_total.antisymm read save ∙ ap ordering_reverse more))
