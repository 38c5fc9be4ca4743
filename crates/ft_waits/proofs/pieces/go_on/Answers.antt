use Rattle.std.proofs.Common.{ap, ◌∙◌, eqb}
use Rattle.std.specs.List.{list_any}
use Rattle.ft_waits.specs.inner.Streams.{room}
use Rattle.ft_waits.proofs.Streaming.{plain-take, kept-first}
use Rattle.ft_waits.proofs.pieces.go_on.Goals as goal

pub returns-in_err-keep-clause-unbroken : goal.returns-in_err-keep-clause-unbroken
returns-in_err-keep-clause-unbroken c = ap (list_any (λ b. eqb b 10)) (c.in_err-keep.ensures.err ∙ c.requires)

pub returns-clause-unbroken : goal.returns-clause-unbroken
returns-clause-unbroken c =
    let rest = c.in_ok-rest.rest.now in
    ap (list_any (λ b. eqb b 10)) (kept-first c.args.unended.now.items c.keep.new.unended.items rest c.requires c.in_ok-keep.ensures.ok) ∙ plain-take room rest c.in_ok-rest.ensures.unbroken

pub returns-clause-reads : goal.returns-clause-reads
returns-clause-reads c = λ text before told cuts reads.
    let rest = c.in_ok-rest.rest.now in
    let on = c.in_ok-rest.ensures.reads text before told cuts reads in
    record {
      by_choice = c.in_ok-rest.ensures.choice;
      lines = on.0;
      rest = rest;
      cuts = on.1;
      unbroken = c.in_ok-rest.ensures.unbroken;
      kept = kept-first c.args.unended.now.items c.keep.new.unended.items rest c.requires c.in_ok-keep.ensures.ok;
      reads = on.2;
    }
