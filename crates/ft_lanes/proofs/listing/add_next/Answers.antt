-- Three labels with their values.
use Rattle.std.proofs.Common.{rules}
use Rattle.std.proofs.lemmas.Result.{on_ok_weaker}
use Rattle.ft_lanes.specs.Listing.{next_text}
use Rattle.ft_lanes.proofs.Appends.{more_signed}
use Rattle.ft_lanes.proofs.listing.add_next.Goals as goal
use mir.Val.{SFits}
use mir.Syntax.{w32}

pub returns : goal.returns
unfolding next_text
returns c =
    let turn = c.args.turn.now in
    let pid : SFits w32 turn.next_pid = search rules in
    let prio : SFits w32 turn.next_prio = search rules in
    let old = c.args.text.now.items in
    let one = c.add_comm.new.text.items in
    let two = c.add_number.new.text.items in
    let start = more_signed old one two _ _ turn.next_pid pid c.in_ok-add_comm.ensures c.in_ok-add_number.ensures in
    on_ok_weaker c.add_number-2.result (more_signed old two c.add_number-2.new.text.items _ _ turn.next_prio prio start) c.add_number-2.ensures
