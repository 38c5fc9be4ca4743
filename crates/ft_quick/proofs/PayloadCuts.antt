-- Payloads that are cut from the left: each is of its event's form.
use Rattle.std.proofs.Common.{◌≡◌, ◌<◌, ◌≤◌, ℕ, suc, ◌+◌, ◌-◌, true, inl, inr, List, [], ◌∷◌, ◌++◌, drop, length, get_or, reverse, refl, sym, ap, ◌∙◌, append_assoc, arith, subst, ℤ, pos}
use Rattle.std.proofs.lemmas.Bool.{and_from, and_parts, cases_lt, leb-true, ne_eqb}
use Rattle.std.proofs.lemmas.Int.{ints}
use Rattle.std.proofs.lemmas.List.{append-nil, drop_all, reverse-append, length-reverse, length-append, get_or_append_left, get_or-append-add, get_or-append_right, get_or_default}
use Rattle.std.specs.Int.{w32}
use Rattle.std.specs.List.{list_all}
use Rattle.std.specs.Prelude.{codes, Contains, FitsSigned, not}
use Rattle.ft_fields.specs.declared.event.Turn.{Turn}
use Rattle.ft_fields.specs.declared.event.Wake.{Wake}
use Rattle.ft_event.specs.Bytes.{is_space, is_in_word, is_digit}
use Rattle.ft_event.specs.LineIs.{IsDigits, NumberIs, IsLastArrow, Stops}
use Rattle.ft_event.proofs.Backs.{list_all-reverse}
use Rattle.ft_quick.specs.inner.Cuts.{IsNumbered, IsSigned, IsUntil}
use Rattle.ft_quick.specs.inner.Payloads.{IsLabelledName, AreTaskParts, IsFairWake, IsFairTurn}

-- ---- the last byte

-- a digit is no space
first_digit : (xs rest : List ℕ) → 0 < length xs → list_all is_digit xs ≡ true → Stops is_space (xs ++ rest)
first_digit [] rest some digits = absurd (omega arith)
first_digit (x ∷ xs) rest some digits =
    let low : 48 ≤ x = leb-true 48 x (and_parts _ _ (and_parts (is_digit x) (list_all is_digit xs) digits).0).0 in
    ne_eqb x 32 (λ e. omega arith)

last_digit : (front digits : List ℕ) → IsDigits digits → Stops is_space (reverse (front ++ digits))
last_digit front digits is =
    let len = length-reverse digits in
    subst (Stops is_space) (sym (reverse-append front digits)) (first_digit (reverse digits) (reverse front) (omega (arith, is.0)) (list_all-reverse is_digit digits is.1))

last_number : (front number : List ℕ) (z : ℤ) → NumberIs number z → Stops is_space (reverse (front ++ number))
last_number front number z h =
    elim h.2 [
      | inl plain ↦ subst (λ (x : List ℕ). Stops is_space (reverse (front ++ x))) (sym plain.0) (last_digit front h.0 h.1)
      | inr minus ↦ subst (λ (x : List ℕ). Stops is_space (reverse x)) (append_assoc front (codes "-") h.0 ∙ ap (λ (x : List ℕ). front ++ x) (sym minus.0)) (last_digit (front ++ codes "-") h.0 h.1)
    ]

-- ---- a task's part

-- a name, and after its labels a PID and a priority
pub task_cut : (pid_label prio_label text comm from_pid from_label from_prio rest : List ℕ) (pid prio p q : ℤ) → IsLabelledName pid_label text comm from_pid
    → IsSigned from_pid pid from_label → from_label ≡ prio_label ++ from_prio → IsSigned from_prio prio rest
    → p ≡ pid → q ≡ prio → AreTaskParts pid_label prio_label text comm p q rest
task_cut pid_label prio_label text comm from_pid from_label from_prio rest pid prio p q name a label b same_pid same_prio = record {
  pid_text = a.number;
  prio_text = b.number;
  joined = name.joined ∙ ap (λ (x : List ℕ). comm ++ (pid_label ++ 61 ∷ x)) (a.joined ∙ ap (λ (x : List ℕ). a.number ++ x) (label ∙ ap (λ (x : List ℕ). prio_label ++ x) b.joined));
  short = name.short;
  bare = name.bare;
  pid_is = subst (NumberIs a.number) (sym same_pid) a.is;
  pid_fits = subst (FitsSigned w32) (sym same_pid) a.fits;
  prio_is = subst (NumberIs b.number) (sym same_prio) b.is;
  prio_fits = subst (FitsSigned w32) (sym same_prio) b.fits;
}

-- nothing stands after the line's end
pub nothing_left : (line : List ℕ) (at : ℕ) → at ≡ length line → drop at line ≡ []
nothing_left line at ends = drop_all at line (omega arith)

-- ---- wake events

wake_joined : (comm pid prio cpu : List ℕ) → codes "comm=" ++ comm ++ codes " pid=" ++ pid ++ codes " prio=" ++ prio ++ [] ++ codes " target_cpu=" ++ cpu
    ≡ codes "comm=" ++ (comm ++ (codes " pid" ++ 61 ∷ (pid ++ (codes " prio=" ++ (prio ++ (codes " target_cpu=" ++ cpu))))))
wake_joined comm pid prio cpu = simp append_assoc

wake_last : (comm pid prio cpu : List ℕ) → codes "comm=" ++ (comm ++ (codes " pid" ++ 61 ∷ (pid ++ (codes " prio=" ++ (prio ++ (codes " target_cpu=" ++ cpu))))))
    ≡ (codes "comm=" ++ (comm ++ (codes " pid" ++ 61 ∷ (pid ++ (codes " prio=" ++ (prio ++ codes " target_cpu=")))))) ++ cpu
wake_last comm pid prio cpu = sym (simp append_assoc)

same_wake : (v w : Wake) → v.comm ≡ w.comm → v.pid ≡ w.pid → v.prio ≡ w.prio → v.target_cpu ≡ w.target_cpu → v ≡ w
same_wake v w a b c d =
    ap (λ (x : List ℕ). record { comm = x; pid = v.pid; prio = v.prio; target_cpu = v.target_cpu }) a
    ∙ ap (λ (x : ℤ). record { comm = w.comm; pid = x; prio = v.prio; target_cpu = v.target_cpu }) b
    ∙ ap (λ (x : ℤ). record { comm = w.comm; pid = w.pid; prio = x; target_cpu = v.target_cpu }) c
    ∙ ap (λ (x : ℤ). record { comm = w.comm; pid = w.pid; prio = w.prio; target_cpu = x }) d

fair_wake : (text from_label from_cpu comm : List ℕ) (pid prio : ℤ) (cpu : ℕ) → AreTaskParts (codes " pid") (codes " prio=") text comm pid prio from_label
    → from_label ≡ codes " target_cpu=" ++ from_cpu
    → IsNumbered from_cpu cpu [] → IsFairWake (codes "comm=" ++ text) (record { comm = comm; pid = pid; prio = prio; target_cpu = pos cpu })
fair_wake text from_label from_cpu comm pid prio cpu task label cpu_is =
    let digits : List ℕ = cpu_is.digits in
    let cut : codes "comm=" ++ text ≡ codes "comm=" ++ (comm ++ (codes " pid" ++ 61 ∷ (task.pid_text ++ (codes " prio=" ++ (task.prio_text ++ (codes " target_cpu=" ++ digits)))))) =
    ap (λ (x : List ℕ). codes "comm=" ++ x) (task.joined ∙ ap (λ (x : List ℕ). comm ++ (codes " pid" ++ 61 ∷ (task.pid_text ++ (codes " prio=" ++ (task.prio_text ++ x))))) (label ∙ ap (λ (x : List ℕ). codes " target_cpu=" ++ x) (cpu_is.joined ∙ append-nil digits))) in
    record {
      is = record {
        pid = task.pid_text;
        prio = task.prio_text;
        column = [];
        target_cpu = digits;
        joined = cut ∙ sym (wake_joined comm task.pid_text task.prio_text digits);
        pid_is = task.pid_is;
        prio_is = task.prio_is;
        success_is = refl;
        target_cpu_digits = cpu_is.are;
        target_cpu_is = ap (λ (n : ℕ). pos n) cpu_is.value;
      };
      short = task.short;
      pid_fits = task.pid_fits;
      prio_fits = task.prio_fits;
      cpu_fits = let small = cpu_is.below in omega (arith, ints);
      first = refl;
      last = subst (λ (x : List ℕ). Stops is_space (reverse x)) (sym (cut ∙ wake_last comm task.pid_text task.prio_text digits)) (last_digit (codes "comm=" ++ (comm ++ (codes " pid" ++ 61 ∷ (task.pid_text ++ (codes " prio=" ++ (task.prio_text ++ codes " target_cpu=")))))) digits cpu_is.are);
    }

-- the payload of a wake event is found
pub wake_found : (payload text from_label from_cpu comm rest : List ℕ) (pid prio : ℤ) (cpu : ℕ) (wake : Wake)
    → payload ≡ codes "comm=" ++ text → AreTaskParts (codes " pid") (codes " prio=") text comm pid prio from_label → from_label ≡ codes " target_cpu=" ++ from_cpu
    → IsNumbered from_cpu cpu rest → rest ≡ [] → wake.comm ≡ comm → wake.pid ≡ pid → wake.prio ≡ prio → wake.target_cpu ≡ pos cpu → IsFairWake payload wake
wake_found payload text from_label from_cpu comm rest pid prio cpu wake begins task label cpu_is ends a b c d =
    let whole : IsNumbered from_cpu cpu [] = subst (IsNumbered from_cpu cpu) ends cpu_is in
    let plain : Wake = record { comm = comm; pid = pid; prio = prio; target_cpu = pos cpu } in
    let same : wake ≡ plain = same_wake wake plain a b c d in
    subst (λ (x : List ℕ). IsFairWake x wake) (sym begins) (subst (IsFairWake (codes "comm=" ++ text)) (sym same) (fair_wake text from_label from_cpu comm pid prio cpu task label whole))

-- ---- switches

-- a text without spaces is a word
no_space : (xs : List ℕ) → (Contains xs 32 → ⊥) → list_all is_in_word xs ≡ true
no_space [] bare = refl
no_space (x ∷ xs) bare =
    and_from _ _ (ap not (ne_eqb x 32 (λ e. bare (0, omega arith, e)))) (no_space xs (λ hit. bare (suc hit.0, omega (arith, hit.1), hit.2)))

-- no `=` stands at a later place
arrow_at : (before behind front back : List ℕ) → (Contains behind 61 → ⊥)
    → before ++ codes " ==> next_comm=" ++ behind ≡ front ++ codes " ==> next_comm=" ++ back → length before < length front → ⊥
arrow_at before behind front back bare cut later =
    let text : List ℕ = before ++ codes " ==> next_comm=" ++ behind in
    let at : ℕ = length front + 14 in
    let seam = length-append before (codes " ==> next_comm=") in
    let seam' = length-append front (codes " ==> next_comm=") in
    let whole = length-append (before ++ codes " ==> next_comm=") behind in
    let whole' = length-append (front ++ codes " ==> next_comm=") back in
    let same : length text ≡ length (front ++ codes " ==> next_comm=" ++ back) = ap length cut in
    let place : ℕ = at - length (before ++ codes " ==> next_comm=") in
    let within : place < length behind = omega arith in
    let there : get_or text at 0 ≡ 61 =
    ap (λ (t : List ℕ). get_or t at 0) cut ∙ get_or_append_left (front ++ codes " ==> next_comm=") back 0 at (omega arith) ∙ get_or-append-add front (codes " ==> next_comm=") 14 0 in
    let here : get_or text at 0 ≡ get_or behind place 0 = get_or-append_right (before ++ codes " ==> next_comm=") behind _ at 0 refl (omega arith) in
    bare (place, within, get_or_default behind place 61 0 within ∙ sym here ∙ there)

-- the arrow stands at its last place, if no `=` stands after it
last_arrow : (before behind : List ℕ) → (Contains behind 61 → ⊥) → IsLastArrow (before ++ codes " ==> next_comm=" ++ behind) before behind
last_arrow before behind bare = record {
  joined = refl;
  last = λ front back cut. elim (cases_lt (length before) (length front)) [
    | inl later ↦ absurd (arrow_at before behind front back bare cut later)
    | inr within ↦ within
  ];
}

turn_joined : (c1 p1 q1 state c2 p2 q2 : List ℕ)
    → codes "prev_comm=" ++ (c1 ++ (codes " prev_pid" ++ 61 ∷ (p1 ++ (codes " prev_prio=" ++ (q1 ++ (codes " prev_state=" ++ (state ++ 32 ∷ (codes "==> next_comm=" ++ (c2 ++ (codes " next_pid" ++ 61 ∷ (p2 ++ (codes " next_prio=" ++ q2))))))))))))
    ≡ (codes "prev_comm=" ++ c1 ++ codes " prev_pid=" ++ p1 ++ codes " prev_prio=" ++ q1 ++ codes " prev_state=" ++ state) ++ codes " ==> next_comm=" ++ c2 ++ codes " next_pid=" ++ p2 ++ codes " next_prio=" ++ q2
turn_joined c1 p1 q1 state c2 p2 q2 = sym (simp append_assoc)

pub same_turn : (v w : Turn) → v.prev_comm ≡ w.prev_comm → v.prev_pid ≡ w.prev_pid → v.prev_prio ≡ w.prev_prio → v.prev_state ≡ w.prev_state
    → v.next_comm ≡ w.next_comm → v.next_pid ≡ w.next_pid → v.next_prio ≡ w.next_prio → v ≡ w
same_turn v w a b c d e f g =
    ap (λ (x : List ℕ). record { prev_comm = x; prev_pid = v.prev_pid; prev_prio = v.prev_prio; prev_state = v.prev_state; next_comm = v.next_comm; next_pid = v.next_pid; next_prio = v.next_prio }) a
    ∙ ap (λ (x : ℤ). record { prev_comm = w.prev_comm; prev_pid = x; prev_prio = v.prev_prio; prev_state = v.prev_state; next_comm = v.next_comm; next_pid = v.next_pid; next_prio = v.next_prio }) b
    ∙ ap (λ (x : ℤ). record { prev_comm = w.prev_comm; prev_pid = w.prev_pid; prev_prio = x; prev_state = v.prev_state; next_comm = v.next_comm; next_pid = v.next_pid; next_prio = v.next_prio }) c
    ∙ ap (λ (x : List ℕ). record { prev_comm = w.prev_comm; prev_pid = w.prev_pid; prev_prio = w.prev_prio; prev_state = x; next_comm = v.next_comm; next_pid = v.next_pid; next_prio = v.next_prio }) d
    ∙ ap (λ (x : List ℕ). record { prev_comm = w.prev_comm; prev_pid = w.prev_pid; prev_prio = w.prev_prio; prev_state = w.prev_state; next_comm = x; next_pid = v.next_pid; next_prio = v.next_prio }) e
    ∙ ap (λ (x : ℤ). record { prev_comm = w.prev_comm; prev_pid = w.prev_pid; prev_prio = w.prev_prio; prev_state = w.prev_state; next_comm = w.next_comm; next_pid = x; next_prio = v.next_prio }) f
    ∙ ap (λ (x : ℤ). record { prev_comm = w.prev_comm; prev_pid = w.prev_pid; prev_prio = w.prev_prio; prev_state = w.prev_state; next_comm = w.next_comm; next_pid = w.next_pid; next_prio = x }) g

-- the texts of a switch's payload, as they are cut
pub record IsCutTurn (text : List ℕ) (turn : Turn) : Type 0 where
  pub from_state_label : List ℕ
  pub from_state : List ℕ
  pub from_arrow : List ℕ
  pub from_next : List ℕ
  pub prev : AreTaskParts (codes " prev_pid") (codes " prev_prio=") text turn.prev_comm turn.prev_pid turn.prev_prio from_state_label
  pub state_label : from_state_label ≡ codes " prev_state=" ++ from_state
  pub state : IsUntil 32 from_state turn.prev_state from_arrow
  pub state_some : 0 < length turn.prev_state
  pub state_short : length turn.prev_state ≤ 31
  pub arrow : from_arrow ≡ codes "==> next_comm=" ++ from_next
  pub next : AreTaskParts (codes " next_pid") (codes " next_prio=") from_next turn.next_comm turn.next_pid turn.next_prio []

fair_turn : (text : List ℕ) (turn : Turn) → IsCutTurn text turn → IsFairTurn (codes "prev_comm=" ++ text) turn
fair_turn text turn cut =
    let p = cut.prev in
    let n = cut.next in
    let before : List ℕ = codes "prev_comm=" ++ turn.prev_comm ++ codes " prev_pid=" ++ p.pid_text ++ codes " prev_prio=" ++ p.prio_text ++ codes " prev_state=" ++ turn.prev_state in
    let behind : cut.from_arrow ≡ codes "==> next_comm=" ++ (turn.next_comm ++ (codes " next_pid" ++ 61 ∷ (n.pid_text ++ (codes " next_prio=" ++ n.prio_text)))) =
    cut.arrow ∙ ap (λ (x : List ℕ). codes "==> next_comm=" ++ x) (n.joined ∙ ap (λ (x : List ℕ). turn.next_comm ++ (codes " next_pid" ++ 61 ∷ (n.pid_text ++ (codes " next_prio=" ++ x)))) (append-nil n.prio_text)) in
    let joined : codes "prev_comm=" ++ text ≡ before ++ codes " ==> next_comm=" ++ turn.next_comm ++ codes " next_pid=" ++ n.pid_text ++ codes " next_prio=" ++ n.prio_text =
    ap (λ (x : List ℕ). codes "prev_comm=" ++ x) (p.joined ∙ ap (λ (x : List ℕ). turn.prev_comm ++ (codes " prev_pid" ++ 61 ∷ (p.pid_text ++ (codes " prev_prio=" ++ (p.prio_text ++ x)))))
    (cut.state_label ∙ ap (λ (x : List ℕ). codes " prev_state=" ++ x) (cut.state.joined ∙ ap (λ (x : List ℕ). turn.prev_state ++ 32 ∷ x) behind)))
    ∙ turn_joined turn.prev_comm p.pid_text p.prio_text turn.prev_state turn.next_comm n.pid_text n.prio_text in
    record {
      is = record {
        tasks = before ++ codes " ==> next_comm=" ++ turn.next_comm;
        before = before;
        prev_pid = p.pid_text;
        prev_prio = p.prio_text;
        next_pid = n.pid_text;
        next_prio = n.prio_text;
        joined = joined;
        arrow = last_arrow before turn.next_comm n.bare;
        previous = refl;
        prev_pid_is = p.pid_is;
        prev_prio_is = p.prio_is;
        state_some = cut.state_some;
        state_word = no_space turn.prev_state cut.state.first;
        next_pid_is = n.pid_is;
        next_prio_is = n.prio_is;
      };
      prev_short = p.short;
      prev_pid_fits = p.pid_fits;
      prev_prio_fits = p.prio_fits;
      state_short = cut.state_short;
      next_short = n.short;
      next_pid_fits = n.pid_fits;
      next_prio_fits = n.prio_fits;
      first = refl;
      last = subst (λ (x : List ℕ). Stops is_space (reverse x)) (sym joined) (last_number (before ++ codes " ==> next_comm=" ++ turn.next_comm ++ codes " next_pid=" ++ n.pid_text ++ codes " next_prio=") n.prio_text turn.next_prio n.prio_is);
    }

-- the payload of a switch is found
pub turn_found : (payload text from_state_label from_state from_arrow from_next rest : List ℕ) (turn read : Turn)
    → payload ≡ codes "prev_comm=" ++ text → AreTaskParts (codes " prev_pid") (codes " prev_prio=") text read.prev_comm read.prev_pid read.prev_prio from_state_label
    → from_state_label ≡ codes " prev_state=" ++ from_state → IsUntil 32 from_state read.prev_state from_arrow → 0 < length read.prev_state → length read.prev_state ≤ 31 → from_arrow ≡ codes "==> next_comm=" ++ from_next
    → AreTaskParts (codes " next_pid") (codes " next_prio=") from_next read.next_comm read.next_pid read.next_prio rest → rest ≡ [] → turn ≡ read → IsFairTurn payload turn
turn_found payload text from_state_label from_state from_arrow from_next rest turn read begins prev label state some short arrow next ends same =
    let whole : AreTaskParts (codes " next_pid") (codes " next_prio=") from_next read.next_comm read.next_pid read.next_prio [] = subst (AreTaskParts (codes " next_pid") (codes " next_prio=") from_next read.next_comm read.next_pid read.next_prio) ends next in
    let cut : IsCutTurn text read = record { from_state_label = from_state_label; from_state = from_state; from_arrow = from_arrow; from_next = from_next; prev = prev; state_label = label; state = state; state_some = some; state_short = short; arrow = arrow; next = whole } in
    subst (λ (x : List ℕ). IsFairTurn x turn) (sym begins) (subst (IsFairTurn (codes "prev_comm=" ++ text)) (sym same) (fair_turn text read cut))
