use Rattle.std.proofs.Common.{ap, ◌∙◌}
use Rattle.std.specs.FinMap as map
use Rattle.ft_pairs.specs.ByKey.{KeyOps}
use Rattle.ft_pairs.specs.Edits.{if_read}
use Rattle.ft_pairs.specs.inner.Sides.{both}
use Rattle.ft_pairs.proofs.Sides.{both-reads}
use Rattle.ft_pairs.proofs.sequence.Sequence.keep_reads.Goals as goal

pub returns : goal.returns
returns c at =
    let s = c.self.inside in
    ap (λ l. map.get (both l s.reads) at) c.new.ensures ∙ both-reads s.saves s.reads at ∙ ap (λ (ops : KeyOps). if_read (map.get ops at)) c.self.view_is
