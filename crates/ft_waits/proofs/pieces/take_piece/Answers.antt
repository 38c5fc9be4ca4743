use Rattle.std.proofs.Common.{◌-◌, ◌++◌, ◌∷◌, length, take, ap, subst, ◌∙◌, eqb}
use Rattle.std.specs.List.{list_any}
use Rattle.std.proofs.lemmas.Result.{err_from_is_err_and, on_ok_weaker, IfErr-weaker}
use Rattle.ft_waits.specs.Reading.{Fails}
use Rattle.ft_waits.specs.Choice.{Choice}
use Rattle.ft_waits.specs.inner.Streams.{Reads, room}
use Rattle.ft_waits.proofs.Cutting.{fails-cut}
use Rattle.ft_waits.proofs.Streaming.{still-plain, plain-take, reads-piece, ends-here, reads-alike}
use Rattle.ft_waits.proofs.pieces.take_piece.Goals as goal

pub returns-in_err-keep-in-Some-clause-unbroken : goal.returns-in_err-keep-in-Some-clause-unbroken
returns-in_err-keep-in-Some-clause-unbroken c = ap (list_any (λ b. eqb b 10)) c.in_err-keep-in-Some.ensures.err ∙ c.requires

pub take_unended-requires : goal.take_unended-requires
take_unended-requires c =
    let old = c.args.unended.now.items in
    let front = c.in-Some.front.now in
    ap (list_any (λ b. eqb b 10)) c.in_ok-keep-in-Some.ensures.ok ∙ still-plain old (take (room - length old) front) c.requires (plain-take (room - length old) front c.in-Some.ensures.line)

pub returns-in_err-take_unended-in-Some-clause-fails : goal.returns-in_err-take_unended-in-Some-clause-fails
returns-in_err-take_unended-in-Some-clause-fails c =
    let p = err_from_is_err_and c.from_residual-in_err-take_unended-in-Some.result c.from_residual-in_err-take_unended-in-Some.ensures.1 in
    let reading = c.args.reading.now in
    let old = c.args.unended.now.items in
    let front = c.in-Some.front.now in
    let behind = c.in-Some.behind.now in
    let piece = c.args.piece.now in
    let out = c.args.out.now.items in
    rw (p.1, p.2) (λ choice text told reads.
    subst (λ (by : Choice). Fails by.bad_lines (text ++ piece) c.in_err-take_unended-in-Some.field-0.0) reads.by_choice
    (fails-cut reading.bad_lines (text ++ piece) ((reads.rest ++ front) ∷ reads.lines) behind c.in_err-take_unended-in-Some.field-0.0
    (ends-here choice reading old text piece front behind (told ++ out) reads c.in-Some.ensures.cut c.in-Some.ensures.line)
    (c.in_err-take_unended-in-Some.ensures.err (reads.rest ++ front) reads.lines (told ++ out) (reads-alike choice reading old c.keep.new.unended.items text front (told ++ out) reads c.in_ok-keep-in-Some.ensures.ok).0 reads.reads)))

pub returns-in_ok-take_unended-in-Some-clause-reads : goal.returns-in_ok-take_unended-in-Some-clause-reads
returns-in_ok-take_unended-in-Some-clause-reads c =
    let reading = c.args.reading.now in
    let old = c.args.unended.now.items in
    let front = c.in-Some.front.now in
    let behind = c.in-Some.behind.now in
    let piece = c.args.piece.now in
    let out = c.args.out.now.items in
    on_ok_weaker c.go_on.result (λ goes choice text told reads.
    let alike = reads-alike choice reading old c.keep.new.unended.items text front (told ++ out) reads c.in_ok-keep-in-Some.ensures.ok in
    let read = c.in_ok-take_unended-in-Some.ensures.ok (reads.rest ++ front) reads.lines told alike reads.reads in
    subst (λ (by : Choice). Reads by c.go_on.new.reading c.go_on.new.unended.items (text ++ piece) (told ++ c.go_on.new.out.items)) (c.in_ok-take_unended-in-Some.ensures.choice ∙ reads.by_choice)
    (goes (text ++ piece) ((reads.rest ++ front) ∷ reads.lines) told (ends-here choice reading old text piece front behind (told ++ out) reads c.in-Some.ensures.cut c.in-Some.ensures.line) read)) c.go_on.ensures.reads

pub returns-in_ok-take_unended-in-Some-clause-fails : goal.returns-in_ok-take_unended-in-Some-clause-fails
returns-in_ok-take_unended-in-Some-clause-fails c =
    let reading = c.args.reading.now in
    let old = c.args.unended.now.items in
    let front = c.in-Some.front.now in
    let behind = c.in-Some.behind.now in
    let piece = c.args.piece.now in
    let out = c.args.out.now.items in
    IfErr-weaker c.go_on.result _ _ (λ fault fails choice text told reads.
    let alike = reads-alike choice reading old c.keep.new.unended.items text front (told ++ out) reads c.in_ok-keep-in-Some.ensures.ok in
    let read = c.in_ok-take_unended-in-Some.ensures.ok (reads.rest ++ front) reads.lines told alike reads.reads in
    subst (λ (by : Choice). Fails by.bad_lines (text ++ piece) fault) (c.in_ok-take_unended-in-Some.ensures.choice ∙ reads.by_choice)
    (fails (text ++ piece) ((reads.rest ++ front) ∷ reads.lines) told (ends-here choice reading old text piece front behind (told ++ out) reads c.in-Some.ensures.cut c.in-Some.ensures.line) read)) c.go_on.ensures.fails

pub returns-in_err-keep-in-None-clause-unbroken : goal.returns-in_err-keep-in-None-clause-unbroken
returns-in_err-keep-in-None-clause-unbroken c = ap (list_any (λ b. eqb b 10)) c.in_err-keep-in-None.ensures.err ∙ c.requires

pub returns-in_ok-keep-in-None-clause-unbroken : goal.returns-in_ok-keep-in-None-clause-unbroken
returns-in_ok-keep-in-None-clause-unbroken c =
    let old = c.args.unended.now.items in
    let piece = c.args.piece.now in
    ap (list_any (λ b. eqb b 10)) c.in_ok-keep-in-None.ensures.ok ∙ still-plain old (take (room - length old) piece) c.requires (plain-take (room - length old) piece c.in-None.ensures.none)

pub returns-in_ok-keep-in-None-clause-reads : goal.returns-in_ok-keep-in-None-clause-reads
returns-in_ok-keep-in-None-clause-reads c = λ choice text told reads.
    reads-piece choice c.args.reading.now c.args.unended.now.items c.keep-in-None.new.unended.items text c.args.piece.now (told ++ c.args.out.now.items) c.in-None.ensures.none c.in_ok-keep-in-None.ensures.ok reads
