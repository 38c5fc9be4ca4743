use Rattle.std.proofs.lemmas.Option.{IfSome_then}
use Rattle.ft_repair.proofs.Outside.{joins_outside}
use Rattle.ft_board.proofs.MadeStays.{joins_await}
use Rattle.ft_base.specs.Base.{Base}
use Rattle.ft_board.specs.inner.Views.{made_in}
use Rattle.ft_board.proofs.kept.KeptBoardBoard.attach.Goals as goal

pub join-kept-requires-clause-shelves : goal.join-kept-requires-clause-shelves
join-kept-requires-clause-shelves c =
    let old : Base = c.self.inside.content in
    let new : Base = c.attach.new.self in
    IfSome_then c.self.inside.views.shelves c.self.invariant.0 (λ shelves kept. joins_outside old new c.in_ok-id.id c.args.trigger c.in_ok-id.ensures.joins shelves kept)

-- the tables of made events are those of before
pub join-kept-requires-clause-made : goal.join-kept-requires-clause-made
join-kept-requires-clause-made c =
    joins_await c.made_events_stay.ensures.events c.self.inside.content c.attach.new.self c.in_ok-id.id c.args.trigger c.in_ok-id.ensures.joins
    c.self.inside.views.shelves (made_in c.self.inside.views) c.self.invariant
