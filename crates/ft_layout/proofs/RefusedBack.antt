-- A refusal is told by its numbers.
use Rattle.std.proofs.Common.{◌≡◌, Bool, true, false, ◌&&◌, cond, Option, Some, None, refl, ap, ◌∙◌}
use Rattle.std.specs.Prelude.{option_map, option_and_then}
use Rattle.std.specs.Cmp.Derive.{both_true}
use Rattle.std.proofs.lemmas.Bool.{eqb-true, eq-eqb}
use Rattle.std.proofs.lemmas.Option.{cond_some, none-some}
use Rattle.ft_event.specs.LineFault.{line_number}
use Rattle.ft_event.specs.declared.fault.LineFault.{LineFault}
use Rattle.ft_event.specs.declared.fault.LineFault.TheVariants as lines
use Rattle.ft_filter.specs.declared.fault.FilterFault.TheVariants as filters
use Rattle.ft_hist.specs.declared.fault.TriggerFault.TheVariants as triggers
use Rattle.ft_base.specs.declared.refused.Refused.{Refused}
use Rattle.ft_base.specs.declared.refused.Refused.TheVariants as refused
use Rattle.ft_layout.specs.Refusals.{refusal_layout, numbered, line_faults, likely, both, is_same, refusal_in}
use Rattle.ft_layout.specs.declared.refusals.RefusalLayout.{RefusalLayout}

-- a line's fault is told by its number
line_back : (reason : LineFault) → numbered line_faults (line_number reason) ≡ Some reason
line_back lines.NoTask = refl
line_back lines.BadCpu = refl
line_back lines.BadStamp = refl
line_back lines.BadPayload = refl
line_back lines.NumberRange = refl
line_back lines.NameLong = refl
line_back lines.LineLong = refl

-- a refusal is told by its numbers
likely_back : (why : Refused) → likely (refusal_layout (Some why)) ≡ Some why
likely_back refused.Memory = refl
likely_back refused.NoFile = refl
likely_back (refused.BadLine line reason) = ap (λ found. option_map (λ fault. refused.BadLine line fault) found) (line_back reason)
likely_back (refused.LaneHeld cpu) = refl
likely_back (refused.NoLane cpu) = refl
likely_back refused.NoEvent = refl
likely_back refused.Full = refl
likely_back (refused.BadTrigger triggers.Memory) = refl
likely_back (refused.BadTrigger (triggers.Syntax place)) = refl
likely_back (refused.BadTrigger triggers.NoField) = refl
likely_back (refused.BadTrigger triggers.NotNumeric) = refl
likely_back (refused.BadTrigger triggers.TooMany) = refl
likely_back (refused.BadTrigger triggers.Duplicate) = refl
likely_back (refused.BadTrigger triggers.BadSize) = refl
likely_back (refused.BadTrigger triggers.BadSort) = refl
likely_back (refused.BadTrigger triggers.BadModifier) = refl
likely_back (refused.BadTrigger (triggers.LeftOut place)) = refl
likely_back (refused.BadTrigger (triggers.BadFilter filters.Memory)) = refl
likely_back (refused.BadTrigger (triggers.BadFilter (filters.Syntax place))) = refl
likely_back (refused.BadTrigger (triggers.BadFilter (filters.NoField place))) = refl
likely_back (refused.BadTrigger (triggers.BadFilter (filters.WrongKind place))) = refl
likely_back (refused.BadTrigger (triggers.BadFilter (filters.BadGlob place))) = refl
likely_back (refused.BadTrigger (triggers.BadFilter (filters.NumberRange place))) = refl
likely_back (refused.BadTrigger (triggers.BadFilter filters.TooDeep)) = refl
likely_back (refused.BadFilter filters.Memory) = refl
likely_back (refused.BadFilter (filters.Syntax place)) = refl
likely_back (refused.BadFilter (filters.NoField place)) = refl
likely_back (refused.BadFilter (filters.WrongKind place)) = refl
likely_back (refused.BadFilter (filters.BadGlob place)) = refl
likely_back (refused.BadFilter (filters.NumberRange place)) = refl
likely_back (refused.BadFilter filters.TooDeep) = refl
likely_back refused.NoTrigger = refl
likely_back (refused.InUse id) = refl
likely_back (refused.NameTaken id) = refl
likely_back refused.NoVariable = refl
likely_back refused.KeyMismatch = refl
likely_back refused.TooManyTriggers = refl
likely_back refused.BadCommand = refl
likely_back refused.NotReading = refl

both_itself : (b : Bool) → both b b ≡ true
both_itself true = refl
both_itself false = refl

both_is : (a b : Bool) → both a b ≡ true → a ≡ b
both_is true true same = refl
both_is true false same = cc
both_is false true same = cc
both_is false false same = refl

each : (a b : Bool) → (a && b) ≡ true → (a ≡ true) × (b ≡ true)
each true b same = (refl, same)
each false b same = (same, cc)

-- numbers are the same as themselves
same_itself : (a : RefusalLayout) → is_same a a ≡ true
same_itself a =
    both_true (both_true (both_true (both_true (both_true (both_true (both_true
    (eq-eqb a.number a.number refl) (eq-eqb a.fault a.fault refl)) (eq-eqb a.filter_fault a.filter_fault refl)) (eq-eqb a.cpu a.cpu refl))
    (eq-eqb a.trigger a.trigger refl)) (both_itself a.has_place)) (eq-eqb a.line a.line refl)) (eq-eqb a.place a.place refl)

-- what has the same numbers is the same
same_is : (a b : RefusalLayout) → is_same a b ≡ true → a ≡ b
same_is a b same =
    let to_line = each _ _ same in
    let to_has_place = each _ _ to_line.0 in
    let to_trigger = each _ _ to_has_place.0 in
    let to_cpu = each _ _ to_trigger.0 in
    let to_filter_fault = each _ _ to_cpu.0 in
    let to_fault = each _ _ to_filter_fault.0 in
    let to_number = each _ _ to_fault.0 in
    let number : a.number ≡ b.number = eqb-true _ _ to_number.0 in
    let fault : a.fault ≡ b.fault = eqb-true _ _ to_number.1 in
    let filter_fault : a.filter_fault ≡ b.filter_fault = eqb-true _ _ to_fault.1 in
    let cpu : a.cpu ≡ b.cpu = eqb-true _ _ to_filter_fault.1 in
    let trigger : a.trigger ≡ b.trigger = eqb-true _ _ to_cpu.1 in
    let has_place : a.has_place ≡ b.has_place = both_is _ _ to_trigger.1 in
    let line : a.line ≡ b.line = eqb-true _ _ to_has_place.1 in
    let place : a.place ≡ b.place = eqb-true _ _ to_line.1 in
    λ i. record { number = number i; fault = fault i; filter_fault = filter_fault i; cpu = cpu i; trigger = trigger i; has_place = has_place i; line = line i; place = place i }

-- the numbers of a refusal are its own
pub refused_back : (layout : RefusalLayout) (why : Refused) → layout ≡ refusal_layout (Some why) → refusal_in layout ≡ Some why
refused_back layout why is =
    ap refusal_in is
    ∙ ap (λ found. option_and_then (λ w. cond (is_same (refusal_layout (Some why)) (refusal_layout (Some w))) (Some w) None) found) (likely_back why)
    ∙ ap (λ b. cond b (Some why) None) (same_itself (refusal_layout (Some why)))

checked : (layout : RefusalLayout) (found : Option Refused) (why : Refused) → option_and_then (λ w. cond (is_same layout (refusal_layout (Some w))) (Some w) None) found ≡ Some why → layout ≡ refusal_layout (Some why)
checked layout None why is = absurd (none-some why is)
checked layout (Some w) why is =
    let own = cond_some (is_same layout (refusal_layout (Some w))) w why is in
    same_is layout (refusal_layout (Some w)) own.0 ∙ ap (λ v. refusal_layout (Some v)) own.1

-- and no other numbers are
pub refused_is : (layout : RefusalLayout) (why : Refused) → refusal_in layout ≡ Some why → layout ≡ refusal_layout (Some why)
refused_is layout why is = checked layout (likely layout) why is
