use Rattle.std.proofs.Common.{◌∙◌}
use Rattle.std.specs.Prelude.{nat_lt, not}
use Rattle.std.specs.Ordering.{eq_by_cmp}
use Rattle.ft_dispatch.specs.declared.showing.Showing.{Showing}
use Rattle.ft_windows.specs.Showings.{span_cmp, span_of}
use Rattle.ft_windows.proofs.laws.showings_in_any_order.Goals as goal

pub returns : goal.returns
returns c = λ windows events showings others same keeps. record {
  first = keeps.first;
  last = keeps.last;
  before = keeps.before;
  after = keeps.after;
  shown = λ stamp. keeps.shown stamp ∙ same (λ (s : Showing). nat_lt s.at stamp);
  from = λ stamp. keeps.from stamp ∙ same (λ (s : Showing). not (nat_lt s.from stamp));
  all = λ span. keeps.all span ∙ same (λ (s : Showing). eq_by_cmp span_cmp span (span_of s));
}
