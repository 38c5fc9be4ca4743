use Rattle.std.proofs.Common.{sym, refl}
use Rattle.ft_event.specs.Wakes.{wake_text_of}
use Rattle.ft_event.proofs.wakes.wake_cut_of.Goals as goal

pub returns : goal.returns
unfolding wake_text_of
returns c =
    let one = sym c.in_ok-front.ensures in
    let front = sym c.success_of.ensures.front in
    let number = sym c.success_of.ensures.number in
    let two = sym c.in_ok-front-2.ensures in
    let three = sym c.in_ok-front-3.ensures in
    let four = sym c.in_ok-comm.ensures in
    rw (one, front, number, two, three, four) refl
