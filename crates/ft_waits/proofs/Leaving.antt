-- Counts of events that are left out.
use Rattle.std.specs.Prelude.{◌≡◌, ◌<◌, ◌+◌, ◌-◌, ◌||◌, ℕ, Bool, true, false, List, [], ◌∷◌, ◌++◌, length, map, take, drop, Any}
use Rattle.std.specs.List.{count_by, list_any}
use Rattle.std.proofs.Common.{refl, sym, ap, ◌∙◌, cond, arith, get_or, inl, inr}
use Rattle.std.proofs.lemmas.List.{get_or-map, get_or-drop, get_or-append_right, length-append, length-map, length-take, take-append-drop}
use Rattle.std.proofs.lemmas.List.Folds.{list_any_more}
use Rattle.std.proofs.lemmas.List.Sums.{sum_by-cons, count_by-le-length}
use Rattle.ft_fields.specs.Traced.{Traced}
use Rattle.ft_waits.specs.LeftOut.{has_name, leaves_out, is_left_out, left_out_of}
use Rattle.ft_waits.specs.declared.left_out.LeftOut.{LeftOut}
use Rattle.ft_waits.specs.declared.left_out.Without.{Without}
use Rattle.ft_waits.specs.inner.Known.{left_out_by, more_if, with_event, IsFull, IsNumbered}

-- one more that is counted or not
one-more : (b : Bool) (n : ℕ) → cond b 1 0 + n ≡ more_if b n
one-more true n = omega arith
one-more false n = omega arith

counted-more : (p : Traced → Bool) (e : Traced) (before : List Traced) → count_by p (e ∷ before) ≡ more_if (p e) (count_by p before)
counted-more p e before = sum_by-cons (λ (x : Traced). cond (p x) 1 0) e before ∙ one-more (p e) (count_by p before)

-- ---- one event more

-- what one of them counts
event-more : (e : Traced) (before : List Traced) (without : Without) → with_event e (left_out_of before without) ≡ left_out_of (e ∷ before) without
event-more e before without = λ i. record {
  without = without;
  events = sym (counted-more (has_name without) e before) i;
  left_out = sym (counted-more (leaves_out without) e before) i;
}

events-more : (e : Traced) (before : List Traced) (all : List Without) → map (with_event e) (map (left_out_of before) all) ≡ map (left_out_of (e ∷ before)) all
events-more e before [] = refl
events-more e before (without ∷ all) = λ i. event-more e before without i ∷ events-more e before all i

-- what is left out stays
pub still-by : (e : Traced) (counts : List LeftOut) → left_out_by (map (with_event e) counts) ≡ left_out_by counts
still-by e [] = refl
still-by e (count ∷ counts) = ap (λ (all : List Without). count.without ∷ all) (still-by e counts)

-- what all of them count
pub all-more : (e : Traced) (before : List Traced) (old new : List LeftOut) → old ≡ map (left_out_of before) (left_out_by old) → new ≡ map (with_event e) old → new ≡ map (left_out_of (e ∷ before)) (left_out_by new)
all-more e before old new counts is =
    is ∙ ap (map (with_event e)) counts ∙ events-more e before (left_out_by old)
    ∙ ap (map (left_out_of (e ∷ before))) (sym (ap left_out_by is ∙ still-by e old))

-- a count is full only after as many events
full-one : (events : List Traced) (without : Without) (count : LeftOut) → count ≡ left_out_of events without → IsFull count → IsNumbered events
full-one events without count is (inl full) =
    let same = ap (λ (c : LeftOut). c.events) is in
    let most = count_by-le-length (has_name without) events in
    omega (arith, same, most, full)
full-one events without count is (inr full) =
    let same = ap (λ (c : LeftOut). c.left_out) is in
    let most = count_by-le-length (leaves_out without) events in
    omega (arith, same, most, full)

pub full-counts : (events : List Traced) (counts : List LeftOut) → counts ≡ map (left_out_of events) (left_out_by counts) → Any IsFull counts → IsNumbered events
full-counts events counts are any =
    let k = any.0 in
    let count = any.1 in
    let within : k < length counts = any.2 in
    let size : length (left_out_by counts) ≡ length counts = length-map counts (λ (c : LeftOut). c.without) in
    let at : get_or counts k count ≡ left_out_of events (get_or (left_out_by counts) k count.without) =
    ap (λ (cs : List LeftOut). get_or cs k count) are ∙ get_or-map (left_out_of events) (left_out_by counts) k count.without count (omega (arith, within, size)) in
    full-one events (get_or (left_out_by counts) k count.without) count (sym any.3 ∙ at) any.4

-- ---- one of them more

-- those before the next one are counted, the next one is as it was
next-same : (e : Traced) (old now : List LeftOut) (n : ℕ) (d : LeftOut) → n < length old → now ≡ map (with_event e) (take n old) ++ drop n old → get_or now n d ≡ get_or old n d
next-same e old now n d within is =
    let front : length (map (with_event e) (take n old)) ≡ n = length-map (take n old) (with_event e) ∙ omega (arith, length-take n old, within) in
    let here : n - n ≡ 0 = omega arith in
    let there : n + 0 ≡ n = omega arith in
    ap (λ (cs : List LeftOut). get_or cs n d) is
    ∙ get_or-append_right (map (with_event e) (take n old)) (drop n old) n n d front (omega arith)
    ∙ get_or-drop n old (n - n) d
    ∙ ap (λ (k : ℕ). get_or old (n + k) d) here
    ∙ ap (λ (k : ℕ). get_or old k d) there

pub same-length : (e : Traced) (old now : List LeftOut) (n : ℕ) → now ≡ map (with_event e) (take n old) ++ drop n old → length now ≡ length old
same-length e old now n is =
    ap length is
    ∙ length-append (map (with_event e) (take n old)) (drop n old)
    ∙ ap (λ (k : ℕ). k + length (drop n old)) (length-map (take n old) (with_event e))
    ∙ sym (length-append (take n old) (drop n old))
    ∙ ap length (take-append-drop n old)

-- whether one of them leaves an event out, by their counts
by-counts : (e : Traced) (counts : List LeftOut) → is_left_out (left_out_by counts) e ≡ list_any (λ (c : LeftOut). leaves_out c.without e) counts
by-counts e [] = refl
by-counts e (count ∷ counts) = ap (λ (b : Bool). leaves_out count.without e || b) (by-counts e counts)

pub any-more : (e : Traced) (old now : List LeftOut) (n : ℕ) (x : LeftOut) (before is_out : Bool) → n < length old → now ≡ map (with_event e) (take n old) ++ drop n old → x ≡ get_or now n x
    → before ≡ is_left_out (left_out_by (take n old)) e → is_out ≡ leaves_out x.without e → (before || is_out) ≡ is_left_out (left_out_by (take (n + 1) old)) e
any-more e old now n x before is_out within is at was out =
    ap (λ (b : Bool). b || is_out) (was ∙ by-counts e (take n old))
    ∙ ap (λ (b : Bool). list_any (λ (c : LeftOut). leaves_out c.without e) (take n old) || b) (out ∙ ap (λ (c : LeftOut). leaves_out c.without e) (at ∙ next-same e old now n x within is))
    ∙ sym (list_any_more (λ (c : LeftOut). leaves_out c.without e) old n x within)
    ∙ sym (by-counts e (take (n + 1) old))

-- one of two, by the second
pub or-true : (before is_out now : Bool) → is_out ≡ true → now ≡ true → now ≡ (before || is_out)
or-true true is_out now hit is = is
or-true false is_out now hit is = is ∙ sym hit

pub or-false : (before is_out now : Bool) → is_out ≡ false → now ≡ before → now ≡ (before || is_out)
or-false true is_out now missed is = is
or-false false is_out now missed is = is ∙ sym missed
