use Rattle.std.proofs.Common.{sym, refl}
use Rattle.ft_event.specs.Turns.{turn_text_of}
use Rattle.ft_event.proofs.turns.turn_cut_of.Goals as goal

pub returns : goal.returns
unfolding turn_text_of
returns c =
    let one = sym c.in_ok-front.ensures in
    let two = sym c.in_ok-front-2.ensures in
    let three = sym c.in_ok-front-3.ensures in
    let four = sym c.in_ok-front-4.ensures in
    let five = sym c.in_ok-front-5.ensures in
    let six = sym c.in_ok-front-6.ensures in
    let seven = sym c.in_ok-prev_comm.ensures in
    rw (one, two, three, four, five, six, seven) refl
