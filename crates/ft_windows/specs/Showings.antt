-- What showings say: a showing is a stretch of time in which a task must have run though no event says so. They may stand in any order, and more than once.
use Rattle.std.specs.Prelude.{ℕ, Bool, List, nat_lt, not, map as list_map}
use Rattle.std.specs.declared.cmp.Ordering.{Ordering}
use Rattle.std.specs.List.{list_any}
use Rattle.std.specs.Ordering.{nat_cmp, on, then_cmp, eq_by_cmp}
use Rattle.std.specs.Cmp.{IsTotalOrder, on_total, then_total, nat_cmp_total}
use Rattle.std.specs.FinMap as finite
use Rattle.std.specs.FinMap.{IsAntisymmetric}
use Rattle.std.proofs.Common.{ap}
use Rattle.std.proofs.lemmas.Map.Lookups.{exact_pairs, exact_unsigned}
use Rattle.ft_dispatch.specs.declared.showing.Showing.{Showing}
use Rattle.ft_windows.specs.declared.spans.Span.{Span}

-- whether an event at an earlier stamp shows one
abbrev pub shown_before : List Showing → ℕ → Bool
shown_before showings stamp = list_any (λ showing. nat_lt showing.at stamp) showings

-- whether one is shown that began at a stamp or later
abbrev pub shown_from : List Showing → ℕ → Bool
shown_from showings stamp = list_any (λ showing. not (nat_lt showing.from stamp)) showings

-- ---- stretches, each once

-- stretches in order: by their beginnings, then by their ends
abbrev pub span_cmp : Span → Span → Ordering
span_cmp = then_cmp (on (λ s. s.from) nat_cmp) (on (λ s. s.at) nat_cmp)

-- the order is total
pub span_cmp_total : IsTotalOrder span_cmp
span_cmp_total = then_total (on_total (λ s. s.from) nat_cmp_total) (on_total (λ s. s.at) nat_cmp_total)

-- stretches that tie are equal
pub span_same : IsAntisymmetric span_cmp
span_same a b h =
    ap (λ (p : ℕ × ℕ). record { from = p.0; at = p.1 })
    (exact_pairs nat_cmp nat_cmp exact_unsigned exact_unsigned (a.from, a.at) (b.from, b.at) h)

-- the stretch of a showing
abbrev pub span_of : Showing → Span
span_of showing = record { from = showing.from; at = showing.at }

-- whether a stretch is shown
abbrev pub is_shown : List Showing → Span → Bool
is_shown showings span = list_any (λ showing. eq_by_cmp span_cmp span (span_of showing)) showings

-- the stretch of a showing, as a key of a map
abbrev pub marked : Showing → Span × Unit {0}
marked showing = (span_of showing, tt)

-- the stretches that are shown, each once, in order
abbrev pub all_spans : List Showing → List Span
all_spans showings = finite.keys (finite.from_entries {R = span_cmp} (list_map marked showings))
