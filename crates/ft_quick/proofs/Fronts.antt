-- A line with columns of the usual form: its one answer is an event.
use Rattle.std.proofs.Common.{◌≡◌, ◌≤◌, ℕ, ◌+◌, Bool, true, false, inl, inr, List, [], ◌∷◌, ◌++◌, drop, length, get_or, refl, sym, ap, ◌∙◌, append_assoc, arith, subst, eqb, Ok, Result, pos}
use Rattle.std.proofs.lemmas.Bool.{and_from, and_parts, eq-eqb, cases_lt}
use Rattle.std.proofs.lemmas.List.{get_or_at, length-append}
use Rattle.std.proofs.lemmas.List.Folds.{list_all-append, list_any_at}
use Rattle.std.specs.List.{prefix_len, list_all, list_any}
use Rattle.std.specs.Prelude.{codes, Contains}
use Rattle.std.specs.Str.Parse.{digits_value}
use Rattle.ft_fields.specs.declared.event.Body.{Body}
use Rattle.ft_fields.specs.Traced.{last_cpu}
use Rattle.ft_event.specs.declared.fault.Line.{Line}
use Rattle.ft_event.specs.declared.fault.Line.TheVariants as lines
use Rattle.ft_event.specs.declared.fault.LineFault.{LineFault}
use Rattle.ft_event.specs.Bytes.{is_space, is_digit, is_blank}
use Rattle.ft_event.specs.LineIs.{Head, IsDigits, IsHead, IsSkipped, IsStamped, BodyIs, HeadGives, LineIs, Stops}
use Rattle.ft_event.proofs.Runs.{rest_is}
use Rattle.ft_quick.specs.inner.Columns.{ends_task, IsEventLine, IsTask, IsTail}
use Rattle.ft_quick.specs.inner.Cuts.{IsSkip}

-- ---- no other cut has a shorter TASK

-- what stands after spaces has one place
pub rest_same : (p : ℕ → Bool) (line run rest run' rest' : List ℕ) → line ≡ run ++ rest → line ≡ run' ++ rest' → list_all p run ≡ true
    → list_all p run' ≡ true → Stops p rest → Stops p rest' → rest ≡ rest'
rest_same p line run rest run' rest' cut cut' passes passes' stops stops' =
    sym (rest_is p run rest passes stops) ∙ ap (λ (l : List ℕ). drop (prefix_len p l) l) (sym cut ∙ cut') ∙ rest_is p run' rest' passes' stops'

-- TASK of a cut ends where a `-` stands that a digit follows
ends_at : (task digits rest : List ℕ) → IsDigits digits → ends_task (task ++ 45 ∷ (digits ++ rest)) (length task) ≡ true
ends_at task [] rest digits = absurd (omega arith)
ends_at task (d ∷ ds) rest digits =
    let text : List ℕ = task ++ 45 ∷ ((d ∷ ds) ++ rest) in
    let dash : get_or text (length task) 0 ≡ 45 = get_or_at task 45 ((d ∷ ds) ++ rest) 0 (length task) refl in
    let longer : (task ++ 45 ∷ []) ++ d ∷ (ds ++ rest) ≡ text = append_assoc task (45 ∷ []) (d ∷ (ds ++ rest)) in
    let len = length-append task (45 ∷ []) in
    let first : get_or text (length task + 1) 0 ≡ d = ap (λ (t : List ℕ). get_or t (length task + 1) 0) (sym longer) ∙ get_or_at (task ++ 45 ∷ []) d (ds ++ rest) 0 (length task + 1) (omega arith) in
    let is : is_digit d ≡ true = (and_parts (is_digit d) (list_all is_digit ds) digits.1).0 in
    and_from _ _ (eq-eqb _ _ dash) (ap is_digit first ∙ is)

head_joined : (blanks task pid gap column cpu rest : List ℕ)
    → blanks ++ task ++ codes "-" ++ pid ++ gap ++ column ++ codes "[" ++ cpu ++ codes "] " ++ rest ≡ blanks ++ (task ++ 45 ∷ (pid ++ (gap ++ (column ++ (91 ∷ (cpu ++ (93 ∷ 32 ∷ rest)))))))
head_joined blanks task pid gap column cpu rest = simp append_assoc

task_stops : (task rest : List ℕ) → Stops is_space task → Stops is_space (task ++ 45 ∷ rest)
task_stops [] rest stops = refl
task_stops (b ∷ task) rest stops = stops

shortest : (line text task rest : List ℕ) → IsSkip line text → IsTask text task rest → (other : Head) → IsHead line other → length task ≤ length other.task
shortest line text task rest skip cut other head =
    let more : List ℕ = head.gap ++ (head.column ++ (91 ∷ (other.tail.cpu ++ (93 ∷ 32 ∷ other.tail.rest)))) in
    let behind : List ℕ = other.task ++ 45 ∷ (other.tail.pid ++ more) in
    let joined : line ≡ head.blanks ++ behind = head.joined ∙ head_joined head.blanks other.task other.tail.pid head.gap head.column other.tail.cpu other.tail.rest in
    let same : text ≡ behind = rest_same is_space line skip.gap text head.blanks behind skip.joined joined skip.spaces head.before_task skip.stops (task_stops other.task (other.tail.pid ++ more) head.task) in
    let ends : ends_task text (length other.task) ≡ true = ap (λ (t : List ℕ). ends_task t (length other.task)) same ∙ ends_at other.task other.tail.pid more head.pid in
    elim (cases_lt (length other.task) (length task)) [
      | inl less ↦ let none : ends_task text (length other.task) ≡ false = cut.first (length other.task) less in absurd cc
      | inr long ↦ long
    ]

-- TASK begins with no space
bare_task : (text task rest : List ℕ) → text ≡ task ++ 45 ∷ rest → Stops is_space text → Stops is_space task
bare_task text [] rest cut stops = tt
bare_task text (b ∷ task) rest cut stops = subst (Stops is_space) cut stops

-- ---- the line holds an event

-- a line with a `-` is not blank
not_blank : (line front rest : List ℕ) → line ≡ front ++ 45 ∷ rest → list_all is_blank line ≡ true → ⊥
not_blank line front rest cut blank =
    let both = and_parts (list_all is_blank front) (list_all is_blank (45 ∷ rest)) (sym (list_all-append is_blank front (45 ∷ rest)) ∙ ap (list_all is_blank) (sym cut) ∙ blank) in
    let dash : false ≡ true = both.1 in
    cc

unbroken : (line : List ℕ) → list_any (λ b. eqb b 10) line ≡ false → Contains line 10 → ⊥
unbroken line none hit = let some = list_any_at (λ b. eqb b 10) line hit.0 10 hit.1 (eq-eqb _ _ hit.2) in cc

not_skipped : (line text task rest : List ℕ) → IsEventLine line → IsSkip line text → IsTask text task rest → IsSkipped line → ⊥
not_skipped line text task rest plain skip cut (inl blank) =
    not_blank line (skip.gap ++ task) rest (skip.joined ∙ ap (λ (x : List ℕ). skip.gap ++ x) cut.joined ∙ sym (append_assoc skip.gap task (45 ∷ rest))) blank
not_skipped line text task rest plain skip cut (inr (inl comment)) = plain.comment comment
not_skipped line text task rest plain skip cut (inr (inr lost)) = plain.lost lost

-- what a line with these columns gives
abbrev pub event_given : List ℕ → ℕ → ℕ → ℕ → Body → Result Line LineFault
event_given task pid cpu stamp body = Ok (lines.Event (record { task = task; pid = pos pid; cpu = cpu; stamp = stamp; body = body }))

-- the columns, and the event of the line
pub front_found : (line text task from_pid from_stamp rest : List ℕ) (pid cpu stamp : ℕ) (body : Body) → list_any (λ b. eqb b 10) line ≡ false
    → IsEventLine line → IsSkip line text → IsTask text task from_pid → length task ≤ 31
    → IsTail from_pid pid cpu from_stamp → IsStamped from_stamp stamp rest → BodyIs rest (Ok body) → LineIs line (event_given task pid cpu stamp body)
unfolding LineIs
front_found line text task from_pid from_stamp rest pid cpu stamp body none plain skip cut short tail stamped is =
    let p = tail.pid_is in
    let q = tail.cpu_is in
    let head : Head = record { task = task; tail = record { pid = p.digits; cpu = q.digits; rest = from_stamp } } in
    let behind : from_pid ≡ p.digits ++ (tail.gap ++ ([] ++ (91 ∷ (q.digits ++ (93 ∷ 32 ∷ from_stamp))))) =
    p.joined ∙ ap (λ (x : List ℕ). p.digits ++ x) (tail.gap_joined ∙ append_assoc tail.gap (codes "[") tail.from_cpu ∙ ap (λ (x : List ℕ). tail.gap ++ 91 ∷ x) (q.joined ∙ ap (λ (x : List ℕ). q.digits ++ x) tail.close)) in
    let joined : line ≡ skip.gap ++ (task ++ 45 ∷ (p.digits ++ (tail.gap ++ ([] ++ (91 ∷ (q.digits ++ (93 ∷ 32 ∷ from_stamp))))))) =
    skip.joined ∙ ap (λ (x : List ℕ). skip.gap ++ x) (cut.joined ∙ ap (λ (x : List ℕ). task ++ 45 ∷ x) behind) in
    let is_head : IsHead line head = record {
      blanks = skip.gap;
      gap = tail.gap;
      column = [];
      joined = joined ∙ sym (head_joined skip.gap task p.digits tail.gap [] q.digits from_stamp);
      before_task = skip.spaces;
      task = bare_task text task from_pid cut.joined skip.stops;
      pid = p.are;
      before_cpu = tail.gap_is;
      group = inl refl;
      cpu = q.are;
    } in
    let pid_small : digits_value 10 p.digits ≤ 2147483647 = omega (arith, p.value, p.below) in
    let cpu_small : digits_value 10 q.digits ≤ last_cpu = omega (arith, q.value, tail.within) in
    let event : event_given task pid cpu stamp body ≡ event_given task (digits_value 10 p.digits) (digits_value 10 q.digits) stamp body =
    ap (λ (n : ℕ). event_given task n cpu stamp body) p.value ∙ ap (λ (n : ℕ). event_given task (digits_value 10 p.digits) n stamp body) q.value in
    let gives : HeadGives head (event_given task pid cpu stamp body) =
    inr (λ long. omega arith, inr (λ above. omega arith, inr (λ above. omega arith, inl ((stamp, rest), stamped, (Ok body, is, event))))) in
    inr (λ long. omega (arith, plain.short), inr (unbroken line none, inr (not_skipped line text task from_pid plain skip cut, inl (head, is_head, (shortest line text task from_pid skip cut, gives)))))
