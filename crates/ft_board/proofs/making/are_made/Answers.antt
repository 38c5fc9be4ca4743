use Rattle.std.proofs.Common.{rules, tests, ◌≡◌, ℕ, is_some, inl, inr, ⊎_elim, sym, ◌∙◌}
use Rattle.std.specs.List.{list_any}
use Rattle.std.specs.FinMap as map
use Rattle.std.proofs.lemmas.Bool.{true≢false}
use Rattle.std.proofs.lemmas.Iterator.Consumers.{YieldsList-from_rest}
use Rattle.std.proofs.lemmas.Iterator.Search.{any_from_yields_List}
use Rattle.ft_board.specs.Makers.{makes}
use Rattle.ft_board.proofs.Makers.{all_but, makes_none, none_attached, reads_and_makes_none}
use Rattle.ft_base.specs.Base.{Triggers}
use Rattle.ft_hist.specs.Hist.{Hist}
use Rattle.ft_hist.specs.Made.{counts_made}
use Rattle.ft_board.proofs.making.are_made.Goals as goal

pub returns-then-any : goal.returns-then-any
returns-then-any c =
    let triggers : Triggers = c.args.triggers.now in
    let makers : c.any.result ≡ list_any (λ (e : ℕ × Hist). makes e.1) (map.entries triggers) =
    any_from_yields_List (λ (e : ℕ × Hist). makes e.1) _ _ _ c.any.ensures.ran (YieldsList-from_rest (map.entries triggers) c.iter.ensures.rest) (λ x b q k. search (rules, tests)) in
    let counting : c.any-then-any.result ≡ list_any (λ (e : ℕ × Hist). counts_made e.1) (map.entries triggers) =
    any_from_yields_List (λ (e : ℕ × Hist). counts_made e.1) _ _ _ c.any-then-any.ensures.ran (YieldsList-from_rest (map.entries triggers) c.iter-then-any.ensures.rest) (λ x b q k. search (rules, tests)) in
    record {
      none = λ none. inr (none_attached counts_made triggers (sym counting ∙ none));
      nothing = ⊎_elim
          (λ readers. absurd (true≢false (sym c.if-any.true ∙ makers ∙ all_but makes triggers (λ id hist there. reads_and_makes_none hist.onmatch _ (readers id hist there)))))
          (λ none. counting ∙ all_but counts_made triggers none);
    }

pub returns-else-any-clause-none : goal.returns-else-any-clause-none
returns-else-any-clause-none c none =
    let triggers : Triggers = c.args.triggers.now in
    let any : c.any.result ≡ list_any (λ (e : ℕ × Hist). is_some e.1.onmatch) (map.entries triggers) =
    any_from_yields_List (λ (e : ℕ × Hist). is_some e.1.onmatch) _ _ _ c.any.ensures.ran (YieldsList-from_rest (map.entries triggers) c.iter.ensures.rest) (λ x b q k. search (rules, tests)) in
    inl (λ id hist there. makes_none hist.onmatch (none_attached (λ (h : Hist). is_some h.onmatch) triggers (sym any ∙ none) id hist there))
