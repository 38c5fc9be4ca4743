-- What notes of a part report behind the notes before it.
use Rattle.std.specs.Prelude.{◌≡◌, ◌≤◌, ◌<◌, ◌+◌, ◌==◌, ◌||◌, ℕ, zero, suc, Bool, true, false, List, [], ◌∷◌, ◌++◌, length, map as list_map, Option, Some, None, option_map}
use Rattle.std.specs.List.{AllByRecursion, list_any}
use Rattle.std.specs.Option.{option_or, is_some}
use Rattle.std.proofs.Common.{refl, sym, ap, ◌∙◌, append_assoc, arith, inl, inr, cond}
use Rattle.std.proofs.lemmas.Bool.{cases_lt, or_parts}
use Rattle.std.proofs.lemmas.List.{append-nil, length-append, map-append}
use Rattle.std.proofs.lemmas.List.Folds.{list_any-append}
use Rattle.ft_event.specs.Marks.{last_count}
use Rattle.ft_event.specs.declared.mark.Mark.TheVariants as marks
use Rattle.ft_fields.specs.Traced.{last_cpu}
use Rattle.ft_losses.specs.Holes.{cpus_below, first_stamp, last_stamp, lost_since, overwritten, ended_holes, beginning, reported, hole_of}
use Rattle.ft_losses.specs.Joining.{any_lost, number_behind, loss_behind, header_behind, hole_behind}
use Rattle.ft_losses.specs.Notes.{Note, Passed, Marked, Silent}
use Rattle.ft_losses.specs.Telling.{IsOnCpu}
use Rattle.ft_losses.specs.declared.hole.Beginning.{Beginning}
use Rattle.ft_losses.specs.declared.hole.Header.{Header}
use Rattle.ft_losses.specs.declared.hole.Hole.{Hole}
use Rattle.ft_losses.specs.declared.hole.Loss.{Loss}

-- ---- options

or-assoc : {T : Type 0} (a b c : Option T) → option_or (option_or a b) c ≡ option_or a (option_or b c)
or-assoc None b c = refl
or-assoc (Some x) b c = refl

or-none : {T : Type 0} (o : Option T) → option_or o None ≡ o
or-none None = refl
or-none (Some x) = refl

-- a choice of what is put behind
choice-or : {T : Type 0} (b : Bool) (s l : Option T) (o : Option T) → cond b (option_or s o) (option_or l o) ≡ option_or (cond b s l) o
choice-or true s l o = refl
choice-or false s l o = refl

some-or : {T : Type 0} (b : Bool) (s : T) (l o : Option T) → cond b (Some s) (option_or l o) ≡ option_or (cond b (Some s) l) o
some-or true s l o = refl
some-or false s l o = refl

or-choice : {T : Type 0} (b : Bool) (s l o : Option T) → cond b (option_or (option_or o l) s) (option_or o l) ≡ option_or o (cond b (option_or l s) l)
or-choice true s l o = or-assoc o l s
or-choice false s l o = refl

-- ---- stamps

-- the first event of a CPU
pub first-behind : (cpu : ℕ) (notes before : List Note) → first_stamp cpu (notes ++ before) ≡ option_or (first_stamp cpu before) (first_stamp cpu notes)
unfolding first_stamp
first-behind cpu [] before = sym (or-none (first_stamp cpu before))
first-behind cpu (Passed event ∷ notes) before =
    ap (λ (o : Option ℕ). cond (event.cpu == cpu) (option_or o (Some event.stamp)) o) (first-behind cpu notes before)
    ∙ or-choice (event.cpu == cpu) (Some event.stamp) (first_stamp cpu notes) (first_stamp cpu before)
first-behind cpu (Marked mark ∷ notes) before = first-behind cpu notes before
first-behind cpu (Silent ∷ notes) before = first-behind cpu notes before

-- and its last one
pub last-behind : (cpu : ℕ) (notes before : List Note) → last_stamp cpu (notes ++ before) ≡ option_or (last_stamp cpu notes) (last_stamp cpu before)
unfolding last_stamp
last-behind cpu [] before = refl
last-behind cpu (Passed event ∷ notes) before =
    ap (cond (event.cpu == cpu) (Some event.stamp)) (last-behind cpu notes before)
    ∙ some-or (event.cpu == cpu) event.stamp (last_stamp cpu notes) (last_stamp cpu before)
last-behind cpu (Marked mark ∷ notes) before = last-behind cpu notes before
last-behind cpu (Silent ∷ notes) before = last-behind cpu notes before

-- ---- counts of overwritten events

pub overwritten-behind : (cpu : ℕ) (notes before : List Note) → overwritten cpu (notes ++ before) ≡ option_or (overwritten cpu notes) (overwritten cpu before)
unfolding overwritten
overwritten-behind cpu [] before = refl
overwritten-behind cpu (Passed event ∷ notes) before = overwritten-behind cpu notes before
overwritten-behind cpu (Marked (marks.Lost of count) ∷ notes) before = overwritten-behind cpu notes before
overwritten-behind cpu (Marked (marks.Started of) ∷ notes) before = overwritten-behind cpu notes before
overwritten-behind cpu (Marked (marks.Overwritten of count) ∷ notes) before =
    ap (cond (of == cpu) (Some count)) (overwritten-behind cpu notes before)
    ∙ some-or (of == cpu) count (overwritten cpu notes) (overwritten cpu before)
overwritten-behind cpu (Marked (marks.Written held written) ∷ notes) before = overwritten-behind cpu notes before
overwritten-behind cpu (Silent ∷ notes) before = overwritten-behind cpu notes before

-- ---- lines

-- so many lines are before a part, and all have numbers
abbrev pub AreNumbered : List Note → List Note → Type 0
AreNumbered notes before = length notes + length before ≤ last_count

fewer : (note : Note) (notes before : List Note) → AreNumbered (note ∷ notes) before → AreNumbered notes before
fewer note notes before fits = omega (arith, fits)

-- the number of a part's line
number-is : (note : Note) (notes before : List Note) → AreNumbered (note ∷ notes) before → suc (length (notes ++ before)) ≡ number_behind (length before) (suc (length notes))
number-is note notes before fits =
    let sum = length-append notes before in
    omega (arith, sum, fits)

-- ---- losses

lost-as : (b : Bool) (line number : ℕ) (count : Option ℕ) (own all : Option Loss) (lines : ℕ) → line ≡ number_behind lines number → all ≡ option_map (loss_behind lines) own
    → cond b (Some (reported line count all)) all ≡ option_map (loss_behind lines) (cond b (Some (reported number count own)) own)
lost-as false line number count own all lines is rest = rest
lost-as true line number count None all lines is rest =
    ap (λ (o : Option Loss). Some (reported line count o)) rest ∙ ap (λ (n : ℕ). Some (record { line = n; count = count })) is
lost-as true line number count (Some loss) all lines is rest = ap (λ (o : Option Loss). Some (reported line count o)) rest

none-or : (b : Bool) (own all : Option Loss) (lines : ℕ) → all ≡ option_map (loss_behind lines) own → cond b None all ≡ option_map (loss_behind lines) (cond b None own)
none-or true own all lines rest = refl
none-or false own all lines rest = rest

-- what a CPU lost since its last event, if it had lost nothing before the part
pub lost-behind : (cpu : ℕ) (notes before : List Note) → AreNumbered notes before → lost_since cpu before ≡ None → lost_since cpu (notes ++ before) ≡ option_map (loss_behind (length before)) (lost_since cpu notes)
unfolding lost_since
lost-behind cpu [] before fits none = none
lost-behind cpu (Passed event ∷ notes) before fits none =
    none-or (event.cpu == cpu) (lost_since cpu notes) (lost_since cpu (notes ++ before)) (length before) (lost-behind cpu notes before (fewer (Passed event) notes before fits) none)
lost-behind cpu (Marked (marks.Lost of count) ∷ notes) before fits none =
    let note = Marked (marks.Lost of count) in
    lost-as (of == cpu) (suc (length (notes ++ before))) (suc (length notes)) count (lost_since cpu notes) (lost_since cpu (notes ++ before)) (length before) (number-is note notes before fits)
    (lost-behind cpu notes before (fewer note notes before fits) none)
lost-behind cpu (Marked (marks.Started of) ∷ notes) before fits none =
    let note = Marked (marks.Started of) in
    lost-as (of == cpu) (suc (length (notes ++ before))) (suc (length notes)) None (lost_since cpu notes) (lost_since cpu (notes ++ before)) (length before) (number-is note notes before fits)
    (lost-behind cpu notes before (fewer note notes before fits) none)
lost-behind cpu (Marked (marks.Overwritten of count) ∷ notes) before fits none = lost-behind cpu notes before (fewer Silent notes before fits) none
lost-behind cpu (Marked (marks.Written held written) ∷ notes) before fits none = lost-behind cpu notes before (fewer Silent notes before fits) none
lost-behind cpu (Silent ∷ notes) before fits none = lost-behind cpu notes before (fewer Silent notes before fits) none

-- ---- holes

-- the last stamps before a part
abbrev pub lasts : List Note → ℕ → Option ℕ
lasts before cpu = last_stamp cpu before

hole-as : (cpu : ℕ) (after last own_before : Option ℕ) (own : Option Loss) (lines : ℕ) (stamps : ℕ → Option ℕ) → last ≡ stamps cpu
    → hole_of cpu (option_or after last) own_before (option_map (loss_behind lines) own) ≡ list_map (hole_behind lines stamps) (hole_of cpu after own_before own)
hole-as cpu after last own_before None lines stamps is = refl
hole-as cpu after last own_before (Some loss) lines stamps is =
    ap (λ (o : Option ℕ). record { cpu = Some cpu; line = number_behind lines loss.line; after = option_or after o; before = own_before; count = loss.count } ∷ []) is

nothing-lost : (cpu n : ℕ) (before : List Note) → cpu < n → list_any (λ c. is_some (lost_since c before)) (cpus_below n) ≡ false → lost_since cpu before ≡ None
unfolding cpus_below
nothing-lost cpu zero before low none = absurd (omega (arith, low))
nothing-lost cpu (suc n) before low none =
    let parts = or_parts (list_any (λ c. is_some (lost_since c before)) (cpus_below n)) (list_any (λ c. is_some (lost_since c before)) (n ∷ []))
    (sym (list_any-append (λ c. is_some (lost_since c before)) (cpus_below n) (n ∷ [])) ∙ none) in
    elim (cases_lt cpu n) [
      | inl less ↦ nothing-lost cpu n before less parts.0
      | inr more ↦ here (lost_since cpu before) (ap (λ (c : ℕ). is_some (lost_since c before)) (same more) ∙ (or_parts (is_some (lost_since n before)) false parts.1).0)
    ]
  where
    same : n ≤ cpu → cpu ≡ n
    same more = omega (arith, more, low)

    here : (o : Option Loss) → is_some o ≡ false → o ≡ None
    here None h = refl
    here (Some loss) h = absurd (cc)

-- no CPU has lost events since its last event
pub none-lost : (before : List Note) → any_lost before ≡ false → (cpu : ℕ) → cpu ≤ last_cpu → lost_since cpu before ≡ None
none-lost before none cpu fits = nothing-lost cpu 8192 before (omega (arith, fits)) none

-- the holes that events of a part ended
pub ended-behind : (notes before : List Note) → AreNumbered notes before → any_lost before ≡ false → AllByRecursion IsOnCpu notes
    → ended_holes (notes ++ before) ≡ ended_holes before ++ list_map (hole_behind (length before) (lasts before)) (ended_holes notes)
unfolding ended_holes
ended-behind [] before fits none cpus = sym (append-nil (ended_holes before))
ended-behind (Passed event ∷ notes) before fits none cpus =
    let cpu = event.cpu in
    let move = hole_behind (length before) (lasts before) in
    let less = fewer (Passed event) notes before fits in
    let own : List Hole = hole_of cpu (last_stamp cpu notes) (Some event.stamp) (lost_since cpu notes) in
    ap (λ (o : Option ℕ). ended_holes (notes ++ before) ++ hole_of cpu o (Some event.stamp) (lost_since cpu (notes ++ before))) (last-behind cpu notes before)
    ∙ ap (λ (o : Option Loss). ended_holes (notes ++ before) ++ hole_of cpu (option_or (last_stamp cpu notes) (last_stamp cpu before)) (Some event.stamp) o)
    (lost-behind cpu notes before less (none-lost before none cpu cpus.0))
    ∙ ap (λ (hs : List Hole). ended_holes (notes ++ before) ++ hs) (hole-as cpu (last_stamp cpu notes) (last_stamp cpu before) (Some event.stamp) (lost_since cpu notes) (length before) (lasts before) refl)
    ∙ ap (λ (hs : List Hole). hs ++ list_map move own) (ended-behind notes before less none cpus.1)
    ∙ append_assoc (ended_holes before) (list_map move (ended_holes notes)) (list_map move own)
    ∙ ap (λ (hs : List Hole). ended_holes before ++ hs) (sym (map-append move (ended_holes notes) own))
ended-behind (Marked mark ∷ notes) before fits none cpus = quiet-behind (Marked mark) notes before (ended-behind notes before (fewer (Marked mark) notes before fits) none cpus.1)
  where
    quiet-behind : (note : Note) (notes before : List Note) → ended_holes (notes ++ before) ≡ ended_holes before ++ list_map (hole_behind (length before) (lasts before)) (ended_holes notes)
        → ended_holes (notes ++ before) ++ [] ≡ ended_holes before ++ list_map (hole_behind (length before) (lasts before)) (ended_holes notes ++ [])
    quiet-behind note notes before is = append-nil (ended_holes (notes ++ before)) ∙ is ∙ ap (λ (hs : List Hole). ended_holes before ++ list_map (hole_behind (length before) (lasts before)) hs) (sym (append-nil (ended_holes notes)))
ended-behind (Silent ∷ notes) before fits none cpus =
    append-nil (ended_holes (notes ++ before)) ∙ ended-behind notes before (fewer Silent notes before fits) none cpus.1
    ∙ ap (λ (hs : List Hole). ended_holes before ++ list_map (hole_behind (length before) (lasts before)) hs) (sym (append-nil (ended_holes notes)))

-- ---- how the buffers begin

-- what a part says of it, behind what the lines before say
abbrev pub begun_behind : ℕ → Beginning → Beginning → Beginning
begun_behind lines before part = record { header = option_or before.header (option_map (header_behind lines) part.header); is_marked = before.is_marked || part.is_marked }

map-or : (lines : ℕ) (o : Option Header) (h : Header) → option_or (option_map (header_behind lines) o) (Some (header_behind lines h)) ≡ option_map (header_behind lines) (option_or o (Some h))
map-or lines None h = refl
map-or lines (Some x) h = refl

or-true : (a : Bool) → (a || true) ≡ true
or-true true = refl
or-true false = refl

or-nothing : (a : Bool) → (a || false) ≡ a
or-nothing true = refl
or-nothing false = refl

pub begun-behind : (notes before : List Note) → AreNumbered notes before → beginning (notes ++ before) ≡ begun_behind (length before) (beginning before) (beginning notes)
unfolding beginning
begun-behind [] before fits = sym (λ i. record { header = or-none (beginning before).header i; is_marked = or-nothing (beginning before).is_marked i })
begun-behind (Passed event ∷ notes) before fits = begun-behind notes before (fewer (Passed event) notes before fits)
begun-behind (Marked (marks.Lost of count) ∷ notes) before fits = begun-behind notes before (fewer Silent notes before fits)
begun-behind (Marked (marks.Started of) ∷ notes) before fits =
    ap (λ (known : Beginning). record { header = known.header; is_marked = true }) (begun-behind notes before (fewer Silent notes before fits))
    ∙ ap (λ (b : Bool). record { header = option_or (beginning before).header (option_map (header_behind (length before)) (beginning notes).header); is_marked = b }) (sym (or-true (beginning before).is_marked))
begun-behind (Marked (marks.Overwritten of count) ∷ notes) before fits = begun-behind notes before (fewer Silent notes before fits)
begun-behind (Marked (marks.Written held written) ∷ notes) before fits =
    let lines = length before in
    let b = beginning before in
    let p = beginning notes in
    let header : ℕ → Header = λ n. record { line = n; buffers = record { held = held; written = written } } in
    ap (λ (known : Beginning). record { header = option_or known.header (Some (header (suc (length (notes ++ before))))); is_marked = known.is_marked }) (begun-behind notes before (fewer Silent notes before fits))
    ∙ ap (λ (n : ℕ). record { header = option_or (option_or b.header (option_map (header_behind lines) p.header)) (Some (header n)); is_marked = b.is_marked || p.is_marked }) (number-is Silent notes before fits)
    ∙ ap (λ (o : Option Header). record { header = o; is_marked = b.is_marked || p.is_marked })
    (or-assoc b.header (option_map (header_behind lines) p.header) (Some (header_behind lines (header (suc (length notes)))))
    ∙ ap (option_or b.header) (map-or lines p.header (header (suc (length notes)))))
begun-behind (Silent ∷ notes) before fits = begun-behind notes before (fewer Silent notes before fits)

-- ---- CPUs

pub all-cpus : (notes before : List Note) → AllByRecursion IsOnCpu notes → AllByRecursion IsOnCpu before → AllByRecursion IsOnCpu (notes ++ before)
all-cpus [] before own rest = rest
all-cpus (note ∷ notes) before own rest = (own.0, all-cpus notes before own.1 rest)
