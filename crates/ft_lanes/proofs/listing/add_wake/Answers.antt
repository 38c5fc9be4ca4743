-- Three labels with their values, and the CPU after a fourth.
use Rattle.std.proofs.Common.{rules}
use Rattle.std.proofs.lemmas.Int.{to_z-of_z}
use Rattle.std.proofs.lemmas.Result.{on_ok_weaker}
use Rattle.ft_lanes.specs.Listing.{wake_text}
use Rattle.ft_lanes.proofs.Appends.{more, more_signed}
use Rattle.ft_lanes.proofs.listing.add_wake.Goals as goal
use mir.Val.{SFits}
use mir.Syntax.{w32}

pub returns : goal.returns
unfolding wake_text
returns c =
    let wake = c.args.wake.now in
    let pid : SFits w32 wake.pid = search rules in
    let prio : SFits w32 wake.prio = search rules in
    let target : SFits w32 wake.target_cpu = search rules in
    let old = c.args.text.now.items in
    let one = c.add_comm.new.text.items in
    let two = c.add_number.new.text.items in
    let three = c.add_number-2.new.text.items in
    let four = c.extend_from_slice.new.self.items in
    let start = more_signed old one two _ _ wake.pid pid c.in_ok-add_comm.ensures c.in_ok-add_number.ensures in
    let numbers = more_signed old two three _ _ wake.prio prio start c.in_ok-add_number-2.ensures in
    let label = more old three four _ _ numbers c.in_ok-extend_from_slice.ensures.items in
    let last = rw (to_z-of_z w32 wake.target_cpu target) at c.add_target.ensures in
    on_ok_weaker c.add_target.result (more old four c.add_target.new.text.items _ _ label) last
