-- A part that says what events are made of, as its words spell it, and how it is read.
use Rattle.std.proofs.Common.{◌≡◌, ℕ, Bool, true, false, List, [], ◌++◌, length, drop, Option, Some, None, option_map, refl, sym, ap, ◌∙◌, subst, codes, cond, eqb-true, ◌==◌, if◌then◌else◌, ◌↔◌}
use Rattle.std.proofs.Math.Seq.{take-append_seam, drop-append_seam}
use Rattle.std.proofs.lemmas.List.{nil_from_length}
use Rattle.std.proofs.lemmas.Option.{same_Some, cond_some, option_and_then_some}
use Rattle.std.specs.List.{starts_with}
use Rattle.std.specs.Option.{option_map_or}
use Rattle.std.specs.Str.{bytes_eq}
use Rattle.ft_fields.specs.declared.event.Name.{Name}
use Rattle.ft_fields.specs.declared.event.Name.TheVariants as names
use Rattle.ft_fields.specs.Names.{is_traced, is_called, all_names, name_called, name_text}
use Rattle.ft_text.specs.Tokens.{name_at}
use Rattle.ft_head.specs.Onmatch.{Handed, with_found, behind, name_before, traced_called, handed_with, handed_of}
use Rattle.ft_head.specs.PartSpelling.{IsHanded}
use Rattle.ft_text.proofs.Spelled.{named, name_told}
use Rattle.ft_text.proofs.Spellings.{IsName, Apart, name_parts, name_again, front_same, bytes_same, bytes_itself, find_passes}

-- ---- steps

-- what stands after a front
behind_parts : (front text rest : List ℕ) → behind front text ≡ Some rest → text ≡ front ++ rest
behind_parts front text rest e =
    let found = cond_some (starts_with ◌==◌ text front) (drop (length front) text) rest e in
    front_same text front found.0 ∙ ap (λ (t : List ℕ). front ++ t) found.1

-- a front is read
behind_again : (front rest : List ℕ) → behind front (front ++ rest) ≡ Some rest
behind_again front rest = rw (take-append_seam front rest, bytes_itself front, drop-append_seam front rest) refl

-- what stands before an end is a name
before_parts : (end text : List ℕ) (cut : List ℕ × List ℕ) → name_before end text ≡ Some cut → IsName cut.0 × (text ≡ cut.0 ++ (end ++ cut.1))
before_parts end text cut e = option_and_then_some (λ c. option_map (λ rest. (c.0, rest)) (behind end c.1)) (name_at text) cut e (λ c is step. from c is (behind end c.1) refl step)
  where
    from : (c : List ℕ × List ℕ) → name_at text ≡ Some c → (o : Option (List ℕ)) → behind end c.1 ≡ o → option_map {U = List ℕ × List ℕ} (λ rest. (c.0, rest)) o ≡ Some cut → IsName cut.0 × (text ≡ cut.0 ++ (end ++ cut.1))
    from c is None ends e = absurd cc
    from c is (Some rest) ends e =
        let parts = name_parts text c is in
        subst (λ (k : List ℕ × List ℕ). IsName k.0 × (text ≡ k.0 ++ (end ++ k.1))) (same_Some (c.0, rest) cut e)
        (parts.0, parts.1 ∙ ap (λ (t : List ℕ). c.0 ++ t) (behind_parts end c.1 rest ends))

-- a name before an end is read
before_again : (end name rest : List ℕ) → IsName name → Apart (end ++ rest) → name_before end (name ++ (end ++ rest)) ≡ Some (name, rest)
before_again end name rest h apart = rw (name_again name (end ++ rest) h apart, behind_again end rest) refl

-- ---- events

-- what is found under a text has the text as its name
called_own : (text : List ℕ) (own : Option (List ℕ)) → option_map_or (λ o. bytes_eq o text) own false ≡ true → own ≡ Some text
called_own text None e = absurd cc
called_own text (Some own) e = ap Some (bytes_same own text e)

-- the event of a text is one of the kernel's
traced_parts : (text : List ℕ) (event : Name) → traced_called text ≡ Some event → (name_text event ≡ Some text) × (is_traced event ≡ true)
traced_parts text event e = option_and_then_some (λ n. if is_traced n then Some n else None) (name_called text) event e (λ n is step.
    let found = cond_some (is_traced n) n event step in
    subst (λ (m : Name). (name_text m ≡ Some text) × (is_traced m ≡ true)) found.1
    (called_own text (name_text n) (find_passes (is_called text) all_names n is), found.0))

-- an event of the kernel is read
traced_again : (event : Name) (text : List ℕ) → name_text event ≡ Some text → is_traced event ≡ true → traced_called text ≡ Some event
traced_again names.Waking text is h = subst (λ t. traced_called t ≡ Some names.Waking) (same_Some _ _ is) refl
traced_again names.Wakeup text is h = subst (λ t. traced_called t ≡ Some names.Wakeup) (same_Some _ _ is) refl
traced_again names.WakeupNew text is h = subst (λ t. traced_called t ≡ Some names.WakeupNew) (same_Some _ _ is) refl
traced_again names.Switch text is h = subst (λ t. traced_called t ≡ Some names.Switch) (same_Some _ _ is) refl
traced_again names.WakeupLatency text is h = absurd cc
traced_again names.Other text is h = absurd cc

-- its name is one
pub event_named : (event : Name) (text : List ℕ) → name_text event ≡ Some text → IsName text
event_named names.Waking text is = subst IsName (same_Some _ _ is) (record { begins = refl; inside = refl })
event_named names.Wakeup text is = subst IsName (same_Some _ _ is) (record { begins = refl; inside = refl })
event_named names.WakeupNew text is = subst IsName (same_Some _ _ is) (record { begins = refl; inside = refl })
event_named names.Switch text is = subst IsName (same_Some _ _ is) (record { begins = refl; inside = refl })
event_named names.WakeupLatency text is = subst IsName (same_Some _ _ is) (record { begins = refl; inside = refl })
event_named names.Other text is = absurd cc

-- ---- parts

-- the text of a part
abbrev spelled : List ℕ → List ℕ → List ℕ → List ℕ → List ℕ
spelled event own pid prio = codes "onmatch(sched." ++ (event ++ (codes ").wakeup_latency($" ++ (own ++ (codes "," ++ (pid ++ (codes "," ++ (prio ++ codes ")")))))))

-- what is read last, after names before their ends
last_parts : (part : List ℕ) (event own pid prio : List ℕ × List ℕ) (words : Handed) → part ≡ codes "onmatch(sched." ++ (event.0 ++ (codes ").wakeup_latency($" ++ (own.0 ++ (codes "," ++ (pid.0 ++ (codes "," ++ (prio.0 ++ (codes ")" ++ prio.1))))))))
    → IsName own.0 → IsName pid.0 → IsName prio.0 → handed_with event.0 own.0 pid.0 prio ≡ Some words → IsHanded part words
last_parts part event own pid prio words is n m k e =
    let found = ends (length prio.1 == 0) refl e in
    from found.0 (traced_called event.0) refl found.1
  where
    ends : (b : Bool) → (length prio.1 == 0) ≡ b → cond b (option_map (λ name. record { event = name; own = own.0; pid = pid.0; prio = prio.0 }) (traced_called event.0)) None ≡ Some words
        → (prio.1 ≡ []) × (option_map (λ name. record { event = name; own = own.0; pid = pid.0; prio = prio.0 }) (traced_called event.0) ≡ Some words)
    ends true empty e = (nil_from_length prio.1 (eqb-true (length prio.1) 0 empty), e)
    ends false empty e = absurd cc

    from : prio.1 ≡ [] → (o : Option Name) → traced_called event.0 ≡ o → option_map (λ name. record { event = name; own = own.0; pid = pid.0; prio = prio.0 }) o ≡ Some words → IsHanded part words
    from empty None called e = absurd cc
    from empty (Some name) called e =
        let event_is = traced_parts event.0 name called in
        subst (IsHanded part) (same_Some _ _ e) (record {
          event = event.0;
          called = event_is.0;
          traced = event_is.1;
          own = named own.0 n;
          pid = named pid.0 m;
          prio = named prio.0 k;
          is = is ∙ ap (λ (t : List ℕ). codes "onmatch(sched." ++ (event.0 ++ (codes ").wakeup_latency($" ++ (own.0 ++ (codes "," ++ (pid.0 ++ (codes "," ++ (prio.0 ++ (codes ")" ++ t))))))))) empty;
        })

-- what is read of a part spells it
pub handed_parts : (part : List ℕ) (words : Handed) → handed_of part ≡ Some words → IsHanded part words
unfolding handed_of
handed_parts part words e =
    option_and_then_some _ _ words e (λ rest rest_is e.
    option_and_then_some _ _ words e (λ event event_is e.
    option_and_then_some _ _ words e (λ own own_is e.
    option_and_then_some _ _ words e (λ pid pid_is e.
    option_and_then_some _ _ words e (λ prio prio_is e.
    let a = behind_parts (codes "onmatch(sched.") part rest rest_is in
    let b = before_parts (codes ").wakeup_latency($") rest event event_is in
    let c = before_parts (codes ",") event.1 own own_is in
    let d = before_parts (codes ",") own.1 pid pid_is in
    let f = before_parts (codes ")") pid.1 prio prio_is in
    last_parts part event own pid prio words
    (a ∙ ap (λ (t : List ℕ). codes "onmatch(sched." ++ t) (b.1 ∙ ap (λ (t : List ℕ). event.0 ++ (codes ").wakeup_latency($" ++ t)) (c.1 ∙ ap (λ (t : List ℕ). own.0 ++ (codes "," ++ t)) (d.1 ∙ ap (λ (t : List ℕ). pid.0 ++ (codes "," ++ t)) f.1))))
    c.0 d.0 f.0 e)))))

-- a step that is known
step : {A B : Type 0} (found : Option A) (next : A → Option B) (x : A) (y : B) → found ≡ Some x → next x ≡ Some y → with_found found next ≡ Some y
step found next x y is e = rw is e

-- what is read after the name of the first field
abbrev by_pid : List ℕ → List ℕ → List ℕ × List ℕ → Option Handed
by_pid event own pid = with_found (name_before (codes ")") pid.1) (handed_with event own pid.0)

-- what is read after that of the variable
abbrev by_own : List ℕ → List ℕ × List ℕ → Option Handed
by_own event own = with_found (name_before (codes ",") own.1) (by_pid event own.0)

-- what is read after that of the event
abbrev by_event : List ℕ × List ℕ → Option Handed
by_event event = with_found (name_before (codes ",") event.1) (by_own event.0)

-- what is read after the front
abbrev by_front : List ℕ → Option Handed
by_front rest = with_found (name_before (codes ").wakeup_latency($") rest) by_event

-- the last step is known
last_again : (event : List ℕ) (words : Handed) → name_text words.event ≡ Some event → is_traced words.event ≡ true → handed_with event words.own words.pid (words.prio, []) ≡ Some words
last_again event words called traced = rw (traced_again words.event event called traced) refl

-- a text that words spell is read as them
spelled_again : (event : List ℕ) (words : Handed) → name_text words.event ≡ Some event → is_traced words.event ≡ true → IsName words.own → IsName words.pid → IsName words.prio
    → handed_of (spelled event words.own words.pid words.prio) ≡ Some words
unfolding handed_of
spelled_again event words called traced own pid prio =
    let at_prio : List ℕ = words.prio ++ codes ")" in
    let at_pid : List ℕ = words.pid ++ (codes "," ++ at_prio) in
    let at_own : List ℕ = words.own ++ (codes "," ++ at_pid) in
    let at_event : List ℕ = event ++ (codes ").wakeup_latency($" ++ at_own) in
    step (behind (codes "onmatch(sched.") (codes "onmatch(sched." ++ at_event)) by_front at_event words (behind_again (codes "onmatch(sched.") at_event)
    (step (name_before (codes ").wakeup_latency($") at_event) by_event (event, at_own) words (before_again (codes ").wakeup_latency($") event at_own (event_named words.event event called) refl)
    (step (name_before (codes ",") at_own) (by_own event) (words.own, at_pid) words (before_again (codes ",") words.own at_pid own refl)
    (step (name_before (codes ",") at_pid) (by_pid event words.own) (words.pid, at_prio) words (before_again (codes ",") words.pid at_prio pid refl)
    (step (name_before (codes ")") at_prio) (handed_with event words.own words.pid) (words.prio, []) words (before_again (codes ")") words.prio [] prio refl)
    (last_again event words called traced)))))

-- a part is read as words exactly if they spell it
pub one_action : (part : List ℕ) (words : Handed) → (handed_of part ≡ Some words) ↔ IsHanded part words
one_action part words = (handed_parts part words, λ h. subst (λ (t : List ℕ). handed_of t ≡ Some words) (sym h.is) (spelled_again h.event words h.called h.traced (name_told words.own h.own) (name_told words.pid h.pid) (name_told words.prio h.prio)))
