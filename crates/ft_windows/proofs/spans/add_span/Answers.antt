use Rattle.std.proofs.Common.{ap, ◌∙◌}
use Rattle.std.specs.Prelude.{is_some}
use Rattle.std.specs.FinMap as finite
use Rattle.ft_maps.specs.Seen.{seen}
use Rattle.ft_windows.specs.Showings.{span_cmp, span_same, span_of}
use Rattle.ft_windows.proofs.Stretches.{Spans, has-put}
use Rattle.ft_windows.proofs.spans.add_span.Goals as goal

pub put-requires : goal.put-requires
put-requires c = span_same

pub returns : goal.returns
returns c q = ap (λ (m : Spans). is_some (finite.get m q)) c.in_ok-put.ensures.ok ∙ has-put (seen span_cmp c.args.spans.now) (span_of c.args.showing) q
