use Rattle.std.proofs.Common.{◌≡◌}
use Rattle.std.specs.Prelude.{is_some, ◌||◌}
use Rattle.std.specs.FinMap.{find}
use Rattle.ft_windows.specs.Showings.{span_cmp}
use Rattle.ft_windows.specs.Telling.{has_span}
use Rattle.ft_windows.specs.declared.spans.Span.{Span}
use Rattle.ft_windows.proofs.spans.add_spans.Given as goal

-- with the stretches that are left there are all
abbrev pub invariant-loop-span : goal.invariant-loop-span
invariant-loop-span l = (q : Span) → (has_span l.spans q || is_some (find span_cmp q l.span-iterator)) ≡ (has_span l.initial.spans q || has_span l.part q)
