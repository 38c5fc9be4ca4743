use Rattle.std.proofs.Common.{sym}
use Rattle.std.specs.Prelude.{Some, None, Ok}
use Rattle.ft_trigger.proofs.ReadAgain.{refiltered_again}
use Rattle.ft_trigger.proofs.Tails.{FilterLaws}
use Rattle.ft_trigger.proofs.laws.refiltered_reads_again.Goals as goal

pub returns : goal.returns
returns c =
    let laws : FilterLaws = record { answers = record { some = c.one_answer.ensures.some; one = c.one_answer.ensures.one }; again = c.reads_again.ensures } in
    record {
      some = λ event text other hist tree e reads. refiltered_again laws event text hist (Some tree) (record { text = other; gives = sym (laws.answers.one event other (Ok tree) reads) }) e;
      none = λ event text hist e. refiltered_again laws event text hist None tt e;
    }
