use Rattle.std.proofs.Common.{sym, ◌∙◌, subst}
use Rattle.std.specs.List.{IsDistinct}
use Rattle.ft_fields.specs.Parts.{same_key}
use Rattle.ft_kept.proofs.Once.{each_distinct}
use Rattle.ft_kept.proofs.report.keys_with_rivals.Goals as goal

pub rivals-requires : goal.rivals-requires
rivals-requires c = subst (IsDistinct same_key) (sym (c.deref.ensures.value ∙ c.in_ok-found.ensures)) (each_distinct c.args.keys.now)
