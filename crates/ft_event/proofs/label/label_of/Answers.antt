use Rattle.std.proofs.Common.{sym, refl}
use Rattle.ft_event.specs.Labels.{label_of}
use Rattle.ft_event.proofs.label.label_of.Goals as goal

pub returns-in-Some-behind : goal.returns-in-Some-behind
unfolding label_of
returns-in-Some-behind c = rw (sym c.in_default.ensures, sym c.in-Some-behind.ensures) refl

pub returns-in-Some-behind-2 : goal.returns-in-Some-behind-2
unfolding label_of
returns-in-Some-behind-2 c =
    let waking = sym c.in_default.ensures in
    let wakeup = sym c.in_default-behind.ensures in
    let wakeup_new = sym c.in-Some-behind-2.ensures in
    rw (waking, wakeup, wakeup_new) refl

pub returns-in-Some-behind-3 : goal.returns-in-Some-behind-3
unfolding label_of
returns-in-Some-behind-3 c =
    let waking = sym c.in_default.ensures in
    let wakeup = sym c.in_default-behind.ensures in
    let wakeup_new = sym c.in_default-behind-2.ensures in
    let switch = sym c.in-Some-behind-3.ensures in
    rw (waking, wakeup, wakeup_new, switch) refl

pub returns : goal.returns
unfolding label_of
returns c =
    let waking = sym c.in_default.ensures in
    let wakeup = sym c.in_default-behind.ensures in
    let wakeup_new = sym c.in_default-behind-2.ensures in
    let switch = sym c.in_default-behind-3.ensures in
    rw (waking, wakeup, wakeup_new, switch) refl
