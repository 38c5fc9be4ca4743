-- The stamps of the events that are laid are events'.
use Rattle.std.proofs.Common.{◌≤◌, List, length, subst}
use Rattle.ft_fields.specs.Traced.{Traced, last_stamp}
use Rattle.ft_store.specs.Stored.{stored_at}
use Rattle.ft_store.proofs.Laid.{stamps_laid}
use Rattle.ft_store.proofs.store.Store.stamps_fit.Goals as goal

pub returns : goal.returns
returns c = λ place.
    subst (λ (events : List Traced). (stored_at events place).stamp ≤ last_stamp) c.self.view_is
    (stamps_laid c.self.inside.names.items 0 c.self.inside.events.items (length c.self.inside.names.items) place c.self.invariant)
