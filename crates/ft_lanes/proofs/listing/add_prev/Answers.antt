-- Four labels with their values.
use Rattle.std.proofs.Common.{rules}
use Rattle.std.proofs.lemmas.Result.{on_ok_weaker}
use Rattle.ft_lanes.specs.Listing.{prev_text}
use Rattle.ft_lanes.proofs.Appends.{more_labelled, more_signed}
use Rattle.ft_lanes.proofs.listing.add_prev.Goals as goal
use mir.Val.{SFits}
use mir.Syntax.{w32}

pub returns : goal.returns
unfolding prev_text
returns c =
    let turn = c.args.turn.now in
    let pid : SFits w32 turn.prev_pid = search rules in
    let prio : SFits w32 turn.prev_prio = search rules in
    let old = c.args.text.now.items in
    let one = c.add_comm.new.text.items in
    let two = c.add_number.new.text.items in
    let three = c.add_number-2.new.text.items in
    let start = more_signed old one two _ _ turn.prev_pid pid c.in_ok-add_comm.ensures c.in_ok-add_number.ensures in
    let numbers = more_signed old two three _ _ turn.prev_prio prio start c.in_ok-add_number-2.ensures in
    on_ok_weaker c.add_comm-2.result (more_labelled old three c.add_comm-2.new.text.items _ _ _ numbers) c.add_comm-2.ensures
