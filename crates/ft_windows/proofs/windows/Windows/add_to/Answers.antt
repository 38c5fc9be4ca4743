use Rattle.std.proofs.Common.{ap, ◌∙◌, ◌++◌, List}
use Rattle.std.proofs.lemmas.Result.{on_ok_weaker}
use Rattle.std.specs.FinMap as finite
use Rattle.std.specs.List.{flat_map}
use Rattle.ft_losses.specs.declared.hole.Hole.{Hole}
use Rattle.ft_maps.specs.Seen.{seen}
use Rattle.ft_windows.specs.Showings.{span_cmp}
use Rattle.ft_windows.specs.Windows.{unspanned}
use Rattle.ft_windows.proofs.Below.{all-windows, all-holes}
use Rattle.ft_windows.proofs.windows.Windows.add_to.Goals as goal

pub returns : goal.returns
returns c =
    let self = c.args.self.now in
    let old : List Hole = c.args.holes.now.items in
    let found : List Hole = c.add_all_early.new.holes.items in
    on_ok_weaker c.add_all_unspanned.result (λ added events showings is_told keeps tells.
    all-holes self events showings c.args.told.now is_told keeps tells old found c.add_all_unspanned.new.holes.items
    (all-windows self events showings c.args.told.now is_told keeps tells old c.add_all_late.new.holes.items found c.in_ok-add_all_late.ensures c.in_ok-add_all_early.ensures)
    (added ∙ ap (λ (hs : List Hole). found ++ flat_map (unspanned hs) (finite.keys (seen span_cmp self.spans))) (c.in_ok-doubts.ensures ∙ c.deref.ensures.value))) c.add_all_unspanned.ensures
