-- Each way through is a case of `after_refilter` at the board's view.
use Rattle.std.proofs.Common.{◌≡◌, sym, ap, subst, ◌∙◌, inr, true, false, Ok}
use Rattle.std.specs.Prelude.{option_map}
use Rattle.std.specs.FinMap as map
use Rattle.ft_base.specs.contracts.content.Content.{the_view}
use Rattle.ft_base.specs.After.{after_refilter}
use Rattle.ft_base.specs.Base.{Base, Triggers}
use Rattle.ft_base.specs.OneTrigger.{GetsFilter}
use Rattle.ft_base.proofs.Refilters.{refilter-missing, refilter-there, refilter-filters, none_there}
use Rattle.ft_base.proofs.content.Content.refilter.Goals as goal

pub set_filter-requires : goal.set_filter-requires
set_filter-requires c = λ hist at. c.requires hist (ap (λ b. map.get b.triggers c.args.id) (sym c.self.view_is) ∙ at)

pub returns-then-not-set_filter-clause-gives : goal.returns-then-not-set_filter-clause-gives
returns-then-not-set_filter-clause-gives c =
    let base = the_view c.self.inside in
    let missing : map.contains_key base.triggers c.args.id ≡ false = sym c.set_filter.ensures.there ∙ c.if-not-set_filter.true in
    let cases = refilter-missing base c.args.id (option_map (λ f. f.tree) c.args.filter) missing in
    ((λ i. record base { triggers = (c.set_filter.ensures.rest ∙ cases.0) i }) ∙ c.self.view_is, inr (ap (λ b. after_refilter b c.args.id (option_map (λ f. f.tree) c.args.filter)) (sym c.self.view_is) ∙ cases.1))

pub invariant_of-self : goal.invariant_of-self
invariant_of-self c =
    let base = the_view c.self.inside in
    let missing : map.contains_key base.triggers c.args.id ≡ false = sym c.set_filter.ensures.there ∙ c.if-not-set_filter.true in
    rw (c.set_filter.ensures.rest, (refilter-missing base c.args.id (option_map (λ f. f.tree) c.args.filter) missing).0) c.self.invariant

pub invariant_of-self-2 : goal.invariant_of-self-2
invariant_of-self-2 c =
    let base = the_view c.self.inside in
    let there : map.contains_key base.triggers c.args.id ≡ true = sym c.set_filter.ensures.there ∙ c.if-not-set_filter.false in
    rw (c.set_filter.ensures.rest) (refilter-there base c.args.id (option_map (λ f. f.tree) c.args.filter) there c.self.invariant).1

pub returns-clause-gives : goal.returns-clause-gives
returns-clause-gives c =
    let base = the_view c.self.inside in
    let there : map.contains_key base.triggers c.args.id ≡ true = sym c.set_filter.ensures.there ∙ c.if-not-set_filter.false in
    let cases = refilter-there base c.args.id (option_map (λ f. f.tree) c.args.filter) there c.self.invariant in
    ap (λ b. after_refilter b c.args.id (option_map (λ f. f.tree) c.args.filter)) (sym c.self.view_is) ∙ cases.0 ∙ (λ i. Ok (record base { triggers = sym c.set_filter.ensures.rest i }, c.args.id))

pub returns-clause-filters : goal.returns-clause-filters
returns-clause-filters c =
    let base = the_view c.self.inside in
    let filter = option_map (λ (f : _). f.tree) c.args.filter in
    let there : map.contains_key base.triggers c.args.id ≡ true = sym c.set_filter.ensures.there ∙ c.if-not-set_filter.false in
    subst (λ (pair : Base × Triggers). GetsFilter c.args.id pair.0 (record base { triggers = pair.1 })) (λ i. (c.self.view_is i, sym c.set_filter.ensures.rest i)) (refilter-filters base c.args.id filter there c.self.invariant)

pub returns-then-not-set_filter-clause-refused : goal.returns-then-not-set_filter-clause-refused
returns-then-not-set_filter-clause-refused c =
    let base = the_view c.self.inside in
    let missing : map.contains_key base.triggers c.args.id ≡ false = sym c.set_filter.ensures.there ∙ c.if-not-set_filter.true in
    ap (λ (b : Base). map.get b.triggers c.args.id) (sym c.self.view_is) ∙ none_there base c.args.id missing
