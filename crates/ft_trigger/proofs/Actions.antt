-- What events are made of: parts that can be read, and how their texts are read.
use Rattle.std.proofs.Common.{◌≡◌, ℕ, true, false, not, List, [], ◌∷◌, ◌++◌, Option, Some, None, Result, Ok, refl, sym, ap, ◌∙◌, subst, codes, append_assoc, find, ◌==◌}
use Rattle.std.proofs.lemmas.Bool.{and_parts, and_from}
use Rattle.std.proofs.lemmas.List.Folds.{list_all-append}
use Rattle.std.specs.Prelude.{unwrap_or}
use Rattle.std.specs.List.{list_all, starts_with}
use Rattle.std.specs.Option.{is_some}
use Rattle.std.specs.Str.{bytes_eq}
use Rattle.ft_fields.specs.declared.event.Name.{Name}
use Rattle.ft_fields.specs.declared.event.Name.TheVariants as names
use Rattle.ft_fields.specs.declared.field.Field.{Field}
use Rattle.ft_fields.specs.Fields.{is_field_named, all_fields, is_text, field_text, has_field}
use Rattle.ft_fields.specs.Names.{is_traced, name_text}
use Rattle.ft_hist.specs.declared.fault.TriggerFault.{TriggerFault}
use Rattle.ft_hist.specs.declared.fault.TriggerFault.TheVariants.{NoField, NotNumeric, Duplicate, LeftOut}
use Rattle.ft_hist.specs.Canonical.{onmatch_part}
use Rattle.ft_hist.specs.Hit.{same_name}
use Rattle.ft_hist.specs.Sound.{number_suits}
use Rattle.ft_head.specs.Draft.{Draft, ◌>>=◌, unless, given_or, number_field, action_of, with_handed, with_onmatch, with_other}
use Rattle.ft_head.specs.Onmatch.{Action, Handed, handed_of}
use Rattle.ft_head.specs.PartSpelling.{IsHanded}
use Rattle.ft_text.specs.Items.{Piece}
use Rattle.ft_trigger.proofs.Inversions.{then_parts, unless_parts, given_parts}
use Rattle.ft_head.proofs.Handing.{handed_parts, event_named}
use Rattle.ft_text.proofs.Separators.{is_inner, bare_inner, names_bare}
use Rattle.ft_text.proofs.Spelled.{name_told}
use Rattle.ft_text.proofs.Spellings.{IsName, find_passes, bytes_same}

-- the part that says what events are made of
abbrev pub action_bytes : Action → List ℕ
action_bytes action = onmatch_part action.own action.onmatch

-- what events are made of is one that can be read
pub record ActionFits (event : Name) (action : Action) : Type 0 where
  pub inner : list_all is_inner (action_bytes action) ≡ true
  pub apart_made : same_name event names.WakeupLatency ≡ false
  pub traced : is_traced action.onmatch.event ≡ true
  pub pid : number_suits event action.onmatch.pid ≡ true
  pub prio : number_suits event action.onmatch.prio ≡ true
  pub adds : (draft : Draft) (place : ℕ) → draft.onmatch ≡ None → with_other event draft (record { place = place; bytes = action_bytes action }) ≡ Ok (record draft { onmatch = Some action })

-- ---- steps

-- a field that is handed on is the event's, and holds numbers
number_parts : (event : Name) (name : List ℕ) (field : Field) → number_field event name ≡ Ok field → (name ≡ field_text field) × (number_suits event field ≡ true)
number_parts event name field e =
    let found = given_parts NoField (find (is_field_named event name) all_fields) (λ field. unless ((is_text field, NotNumeric) ∷ []) (Ok field)) field e in
    let number = unless_parts (is_text found.0) NotNumeric [] (Ok found.0) field found.2 in
    let same : found.0 ≡ field = (let done = number.1 in cc) in
    let both = and_parts (bytes_eq (field_text found.0) name) (has_field event found.0) (find_passes (is_field_named event name) all_fields found.0 found.1) in
    subst (λ (f : Field). (name ≡ field_text f) × (number_suits event f ≡ true)) same
    (sym (bytes_same (field_text found.0) name both.0), and_from (has_field event found.0) (not (is_text found.0)) both.1 (ap not number.0))

-- what events are made of, by its words
record Made (event : Name) (words : Handed) (action : Action) : Type 0 where
  own : words.own ≡ action.own
  called : words.event ≡ action.onmatch.event
  pid : words.pid ≡ field_text action.onmatch.pid
  prio : words.prio ≡ field_text action.onmatch.prio
  pid_suits : number_suits event action.onmatch.pid ≡ true
  prio_suits : number_suits event action.onmatch.prio ≡ true

action_parts : (event : Name) (words : Handed) (action : Action) → action_of event words ≡ Ok action → Made event words action
action_parts event words action e =
    let pid = then_parts (number_field event words.pid) (λ pid. number_field event words.prio >>= (λ prio. Ok (record { own = words.own; onmatch = record { event = words.event; pid = pid; prio = prio } }))) action e in
    let prio = then_parts (number_field event words.prio) (λ prio. Ok (record { own = words.own; onmatch = record { event = words.event; pid = pid.0; prio = prio } })) action pid.2 in
    let a = number_parts event words.pid pid.0 pid.1 in
    let b = number_parts event words.prio prio.0 prio.1 in
    from (record { own = words.own; onmatch = record { event = words.event; pid = pid.0; prio = prio.0 } }) prio.2
    (record { own = refl; called = refl; pid = a.0; prio = b.0; pid_suits = a.1; prio_suits = b.1 })
  where
    from : (made : Action) → ◌≡◌ {A = Result Action TriggerFault} (Ok made) (Ok action) → Made event words made → Made event words action
    from made e h = let same : made ≡ action = cc in subst (Made event words) same h

-- what such a part says
pub record ActionParts (event : Name) (draft more : Draft) (bytes : List ℕ) : Type 0 where
  pub words : Handed
  pub action : Action
  pub apart_made : same_name event names.WakeupLatency ≡ false
  pub handed : handed_of bytes ≡ Some words
  pub none : is_some draft.onmatch ≡ false
  pub made : action_of event words ≡ Ok action
  pub is : record draft { onmatch = Some action } ≡ more

-- such a part that is read says so
pub onmatch_parts : (event : Name) (draft more : Draft) (part : Piece) → with_onmatch event draft part ≡ Ok more → ActionParts event draft more part.bytes
unfolding with_onmatch
onmatch_parts event draft more part e =
    let apart = unless_parts (same_name event names.WakeupLatency) (LeftOut part.place) [] (given_or (LeftOut part.place) (handed_of part.bytes) (with_handed event draft)) more e in
    let words = given_parts (LeftOut part.place) (handed_of part.bytes) (with_handed event draft) more apart.1 in
    let none = unless_parts (is_some draft.onmatch) Duplicate [] (action_of event words.0 >>= (λ action. Ok (record draft { onmatch = Some action }))) more words.2 in
    let action = then_parts (action_of event words.0) (λ action. Ok (record draft { onmatch = Some action })) more none.1 in
    record {
      words = words.0;
      action = action.0;
      apart_made = apart.0;
      handed = words.1;
      none = none.0;
      made = action.1;
      is = (let done = action.2 in cc);
    }

-- a part whose steps are known adds what it says
pub onmatch_adds : (event : Name) (draft : Draft) (place : ℕ) (bytes : List ℕ) (words : Handed) (action : Action) → starts_with ◌==◌ bytes (codes "onmatch(") ≡ true → same_name event names.WakeupLatency ≡ false
    → handed_of bytes ≡ Some words → action_of event words ≡ Ok action → draft.onmatch ≡ None → with_other event draft (record { place = place; bytes = bytes }) ≡ Ok (record draft { onmatch = Some action })
unfolding with_onmatch
onmatch_adds event draft place bytes words action begins apart handed made none = rw (begins, apart, handed, none, made) refl

-- ---- texts

-- the text of such a part, grouped to the left
to_left : (a e b o c p q d : List ℕ) → a ++ (e ++ (b ++ (o ++ (c ++ (p ++ (c ++ (q ++ d))))))) ≡ (a ++ e) ++ ((((b ++ o) ++ (c ++ p)) ++ (c ++ q)) ++ d)
to_left a e b o c p q d = simp append_assoc

-- a part that is read is its text
action_spelled : (event : Name) (part : List ℕ) (words : Handed) (action : Action) → IsHanded part words → Made event words action → part ≡ action_bytes action
action_spelled event part words action h m =
    let called : unwrap_or (name_text action.onmatch.event) [] ≡ h.event = ap (λ (n : Name). unwrap_or (name_text n) []) (sym m.called) ∙ ap (λ (o : Option (List ℕ)). unwrap_or o []) h.called in
    h.is ∙ to_left (codes "onmatch(sched.") h.event (codes ").wakeup_latency($") words.own (codes ",") words.pid words.prio (codes ")")
    ∙ ap (λ (t : List ℕ). (codes "onmatch(sched." ++ t) ++ ((((codes ").wakeup_latency($" ++ words.own) ++ (codes "," ++ words.pid)) ++ (codes "," ++ words.prio)) ++ codes ")")) (sym called)
    ∙ ap (λ (t : List ℕ). (codes "onmatch(sched." ++ unwrap_or (name_text action.onmatch.event) []) ++ ((((codes ").wakeup_latency($" ++ t) ++ (codes "," ++ words.pid)) ++ (codes "," ++ words.prio)) ++ codes ")")) m.own
    ∙ ap (λ (t : List ℕ). (codes "onmatch(sched." ++ unwrap_or (name_text action.onmatch.event) []) ++ ((((codes ").wakeup_latency($" ++ action.own) ++ (codes "," ++ t)) ++ (codes "," ++ words.prio)) ++ codes ")")) m.pid
    ∙ ap (λ (t : List ℕ). (codes "onmatch(sched." ++ unwrap_or (name_text action.onmatch.event) []) ++ ((((codes ").wakeup_latency($" ++ action.own) ++ (codes "," ++ field_text action.onmatch.pid)) ++ (codes "," ++ t)) ++ codes ")")) m.prio

-- texts that can stand in a part, one after the other
inner_both : (a b : List ℕ) → list_all is_inner a ≡ true → list_all is_inner b ≡ true → list_all is_inner (a ++ b) ≡ true
inner_both a b h k = list_all-append is_inner a b ∙ and_from _ _ h k

-- a name can stand in a part
name_inner : (name : List ℕ) → IsName name → list_all is_inner name ≡ true
name_inner name h = bare_inner name (names_bare name h.inside)

-- so can such a part
handed_inner : (part : List ℕ) (words : Handed) → IsHanded part words → list_all is_inner part ≡ true
handed_inner part words h =
    let at_prio : List ℕ = words.prio ++ codes ")" in
    let at_pid : List ℕ = words.pid ++ (codes "," ++ at_prio) in
    let at_own : List ℕ = words.own ++ (codes "," ++ at_pid) in
    let at_event : List ℕ = h.event ++ (codes ").wakeup_latency($" ++ at_own) in
    let prio : list_all is_inner at_prio ≡ true = inner_both words.prio (codes ")") (name_inner words.prio (name_told words.prio h.prio)) refl in
    let pid : list_all is_inner at_pid ≡ true = inner_both words.pid (codes "," ++ at_prio) (name_inner words.pid (name_told words.pid h.pid)) prio in
    let own : list_all is_inner at_own ≡ true = inner_both words.own (codes "," ++ at_pid) (name_inner words.own (name_told words.own h.own)) pid in
    let event : list_all is_inner at_event ≡ true = inner_both h.event (codes ").wakeup_latency($" ++ at_own) (name_inner h.event (event_named words.event h.event h.called)) own in
    ap (list_all is_inner) h.is ∙ event

-- such a part begins so
action_begins : (action : Action) → starts_with ◌==◌ (action_bytes action) (codes "onmatch(") ≡ true
action_begins action = refl

-- what a part that is read says can be read again
pub action_fits : (event : Name) (draft more : Draft) (part : Piece) → with_onmatch event draft part ≡ Ok more → (action : Action) × (record draft { onmatch = Some action } ≡ more) × ActionFits event action
action_fits event draft more part e =
    let p = onmatch_parts event draft more part e in
    let h = handed_parts part.bytes p.words p.handed in
    let m = action_parts event p.words p.action p.made in
    let same : part.bytes ≡ action_bytes p.action = action_spelled event part.bytes p.words p.action h m in (
      p.action,
      p.is,
      record {
        inner = subst (λ (t : List ℕ). list_all is_inner t ≡ true) same (handed_inner part.bytes p.words h);
        apart_made = p.apart_made;
        traced = subst (λ (n : Name). is_traced n ≡ true) m.called h.traced;
        pid = m.pid_suits;
        prio = m.prio_suits;
        adds = λ other place none. onmatch_adds event other place (action_bytes p.action) p.words p.action (action_begins p.action) p.apart_made (subst (λ (t : List ℕ). handed_of t ≡ Some p.words) same p.handed) p.made none;
      },
    )
