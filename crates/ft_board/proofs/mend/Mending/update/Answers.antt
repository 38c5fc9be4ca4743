use Rattle.std.proofs.Common.{refl, sym, subst}
use Rattle.ft_board.specs.declared.mend.Basis.{Basis}
use Rattle.ft_board.specs.inner.Mending.{UpdatesBy, events_in, triggers_in}
use Rattle.ft_base.specs.Base.{Triggers}
use Rattle.ft_board.specs.inner.Readings.{readings_on}
use Rattle.ft_lanes.specs.Held.{Lanes}
use Rattle.ft_made.specs.MadeTables.{found_in, IsMadeTable}
use Rattle.ft_replay.specs.Merged.{merged}
use Rattle.ft_board.proofs.mend.Mending.update.Goals as goal

pub made_table-requires : goal.made_table-requires
made_table-requires c id hist there = (readings_on c.in-Shelves.tables.now id, refl)

pub returns-in_ok-table-in-Shelves-clause-updated : goal.returns-in_ok-table-in-Shelves-clause-updated
returns-in_ok-table-in-Shelves-clause-updated c =
    subst (λ (basis : Basis). UpdatesBy (triggers_in c.args.self.now) (events_in c.args.self.now) basis c.args.trigger.now c.args.table.now c.in_ok-table-in-Shelves.field-0) (sym c.in-Shelves.is)
    (subst (λ (held : Triggers × Lanes). IsMadeTable held.0 (merged held.1) (found_in (readings_on c.in-Shelves.tables.now)) c.args.trigger.now c.in_ok-table-in-Shelves.field-0)
    (λ i. (c.triggers-triggers.ensures i, c.lanes-lanes.ensures.lanes i)) (c.in_ok-table-in-Shelves.ensures.table (readings_on c.in-Shelves.tables.now) (λ _ _ _. refl)))
