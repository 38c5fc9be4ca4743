use Rattle.std.proofs.Common.{rules, tests, ◌≡◌, ℕ, sym, ◌∙◌}
use Rattle.std.specs.List.{list_any}
use Rattle.std.specs.FinMap as map
use Rattle.std.proofs.lemmas.Iterator.Consumers.{YieldsList-from_rest}
use Rattle.std.proofs.lemmas.Iterator.Search.{any_from_yields_List}
use Rattle.ft_board.specs.Makers.{makes_with}
use Rattle.ft_board.proofs.Makers.{all_but, none_attached}
use Rattle.ft_base.specs.Base.{Triggers}
use Rattle.ft_hist.specs.Hist.{Hist}
use Rattle.ft_board.proofs.making.bears_on_makers.Goals as goal

pub returns : goal.returns
returns c =
    let triggers : Triggers = c.args.triggers.now in
    let any : c.any.result ≡ list_any (λ (e : ℕ × Hist). makes_with triggers c.args.id e.1) (map.entries triggers) =
    any_from_yields_List (λ (e : ℕ × Hist). makes_with triggers c.args.id e.1) _ _ _ c.any.ensures.ran (YieldsList-from_rest (map.entries triggers) c.iter.ensures.rest) (λ x b q k. search (rules, tests)) in
    record {
      none = λ none. none_attached (makes_with triggers c.args.id) triggers (sym any ∙ none);
      some = λ leaves. any ∙ all_but (makes_with triggers c.args.id) triggers leaves;
    }
