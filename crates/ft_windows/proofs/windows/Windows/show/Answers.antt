use Rattle.std.proofs.Common.{refl}
use Rattle.ft_windows.proofs.Keeping.{shown-more}
use Rattle.ft_windows.proofs.windows.Windows.show.Goals as goal

pub returns : goal.returns
returns c = λ events showings keeps.
    shown-more c.args.self.now _ events showings c.args.showing refl refl c.in_ok-add_span.ensures c.least-self.ensures c.greatest-self.ensures keeps
