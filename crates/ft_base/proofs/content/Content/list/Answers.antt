-- Each way through is a case of `list_text` at the board's view.
use Rattle.std.proofs.Common.{refl, sym, ap, ◌∙◌, inr}
use Rattle.std.specs.Prelude.{option_map}
use Rattle.std.specs.FinMap as map
use Rattle.ft_lanes.specs.Listing.{lane_text}
use Rattle.ft_base.specs.contracts.content.Content.{the_view}
use Rattle.ft_base.specs.Answers.{list_text}
use Rattle.ft_base.proofs.HeldLanes.{list-none, list-some}
use Rattle.ft_base.proofs.content.Content.list.Goals as goal

pub returns-in_default : goal.returns-in_default
returns-in_default c = inr (ap (λ b. list_text b c.args.cpu) (sym c.self.view_is) ∙ list-none (the_view c.self.inside) c.args.cpu (c.in_default.ensures.none refl))

pub returns-in-Ok-Some : goal.returns-in-Ok-Some
returns-in-Ok-Some c =
    let base = the_view c.self.inside in
    ap (λ b. list_text b c.args.cpu) (sym c.self.view_is) ∙ list-some base c.args.cpu c.in-Ok-Some.text.items (sym (ap (option_map (λ t. t.items)) c.in-Ok-Some.field-0-is) ∙ c.in-Ok-Some.ensures ∙ ap (λ k. option_map (lane_text k) (map.get base.lanes k)) c.in-Some.ensures.same)
