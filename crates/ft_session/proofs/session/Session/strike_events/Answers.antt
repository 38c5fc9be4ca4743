use Rattle.std.proofs.Common.{refl, sym, ap, ◌∙◌}
use Rattle.ft_session.specs.Told.{code_of}
use Rattle.ft_session.specs.inner.JointReports.{Joins}
use Rattle.ft_session.proofs.Striking.{held_none, held_some}
use Rattle.ft_session.proofs.session.Session.strike_events.Goals as goal

pub returns : goal.returns
returns c =
    let strikes = c.strike_all-strikes.result in
    let old = c.args.self.now in
    let desk = c.strike_all-strikes.new.desk in
    let joins : Joins c.args.reports old.desk desk strikes.count strikes.joint = c.strike_all-strikes.ensures.joins in
    record {
      gives = c.strike_all-strikes.ensures.gives ∙ (λ i. record { base = desk.base; count = strikes.count; refused = sym c.note.ensures.note i });
      memory = λ is. c.strike_all-strikes.ensures.memory (sym c.note.ensures.note ∙ is);
      deferred = joins.later;
      none = λ is. ((joins.none is).0, held_none c.args.reports old.desk desk strikes.count strikes.joint joins old.edited c.hold_report.new.edited c.hold_report.ensures is);
      some = λ is. held_some c.args.reports old.desk desk strikes.count strikes.joint joins old.edited c.hold_report.new.edited c.hold_report.ensures is;
      answer = c.note.ensures.code ∙ ap code_of (sym c.note.ensures.note);
      rest = refl;
    }
