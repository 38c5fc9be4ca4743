-- The first mark outside comes in, if the mark goes from the table.
use Rattle.std.proofs.Common.{◌+◌, ◌-◌, refl, sym, ap, ◌∙◌, arith}
use Rattle.ft_hits.specs.Hits.{hitcount}
use Rattle.ft_table.proofs.Splits.{resplit}
use Rattle.ft_table.proofs.Standings.{went_full, went_room, went_outside, counted_less}
use Rattle.ft_table.proofs.ranked.Ranked.count_out.Goals as goal

pub overflow_sub-self : goal.overflow_sub-self
overflow_sub-self c =
    let hits = c.args.hits.now in let m = c.args.mark in let size = c.args.self.now.order.size in
    let f = went_outside hits m size (hitcount hits) c.args.standing.inside c.requires.standing.inside c.if-not-standing.true c.requires.cut in
    let count = c.count_of-count.ensures in
    omega (arith, f.0, count)

pub returns-then-not-standing-clause-cut : goal.returns-then-not-standing-clause-cut
returns-then-not-standing-clause-cut c =
    let hits = c.args.hits.now in let m = c.args.mark in let size = c.args.self.now.order.size in
    let f = went_outside hits m size (hitcount hits) c.args.standing.inside c.requires.standing.inside c.if-not-standing.true c.requires.cut in
    resplit (hitcount hits) f.1 refl refl refl (ap (λ n. c.args.self.now.dropped - n) c.count_of-count.ensures)

pub returns-then-not-standing-clause-fewer : goal.returns-then-not-standing-clause-fewer
returns-then-not-standing-clause-fewer c =
    let hits = c.args.hits.now in let m = c.args.mark in let size = c.args.self.now.order.size in
    let f = went_outside hits m size (hitcount hits) c.args.standing.inside c.requires.standing.inside c.if-not-standing.true c.requires.cut in
    let less = counted_less hits m size (hitcount hits) c.requires.cut f.1 in
    let count = c.count_of-count.ensures in
    omega (arith, less, count)

pub overflow_sub-self-in-None : goal.overflow_sub-self-in-None
overflow_sub-self-in-None c =
    let hits = c.args.hits.now in let m = c.args.mark in let size = c.args.self.now.order.size in
    let f = went_room hits m size (hitcount hits) c.args.standing.inside c.requires.standing.inside c.if-not-standing.false (sym c.requires.standing.next ∙ c.in-None.is) c.requires.cut in
    let count = c.count_of-count.ensures in
    omega (arith, f.0, count)

pub returns-in-None-clause-cut : goal.returns-in-None-clause-cut
returns-in-None-clause-cut c =
    let hits = c.args.hits.now in let m = c.args.mark in let size = c.args.self.now.order.size in
    let f = went_room hits m size (hitcount hits) c.args.standing.inside c.requires.standing.inside c.if-not-standing.false (sym c.requires.standing.next ∙ c.in-None.is) c.requires.cut in
    resplit (hitcount hits) f.1 refl refl (ap (λ n. c.args.self.now.hits - n) c.count_of-count.ensures) refl

pub returns-in-None-clause-fewer : goal.returns-in-None-clause-fewer
returns-in-None-clause-fewer c =
    let hits = c.args.hits.now in let m = c.args.mark in let size = c.args.self.now.order.size in
    let f = went_room hits m size (hitcount hits) c.args.standing.inside c.requires.standing.inside c.if-not-standing.false (sym c.requires.standing.next ∙ c.in-None.is) c.requires.cut in
    let less = counted_less hits m size (hitcount hits) c.requires.cut f.1 in
    let count = c.count_of-count.ensures in
    omega (arith, less, count)

pub overflow_add-self : goal.overflow_add-self
overflow_add-self c =
    let hits = c.args.hits.now in let m = c.args.mark in let size = c.args.self.now.order.size in
    let f = went_full hits m size (hitcount hits) c.args.standing.inside c.in-Some.next c.requires.standing.inside c.if-not-standing.false (sym c.requires.standing.next ∙ c.in-Some.is) c.requires.cut in
    let back = c.count_of-back.ensures in let fits = c.requires.cut.fits in
    omega (arith, f.0, back, fits)

pub overflow_sub-self-in-Some : goal.overflow_sub-self-in-Some
overflow_sub-self-in-Some c =
    let hits = c.args.hits.now in let m = c.args.mark in let size = c.args.self.now.order.size in
    let f = went_full hits m size (hitcount hits) c.args.standing.inside c.in-Some.next c.requires.standing.inside c.if-not-standing.false (sym c.requires.standing.next ∙ c.in-Some.is) c.requires.cut in
    let back = c.count_of-back.ensures in let count = c.count_of-count.ensures in
    omega (arith, f.1, back, count)

pub overflow_sub-self-in-Some-2 : goal.overflow_sub-self-in-Some-2
overflow_sub-self-in-Some-2 c =
    let hits = c.args.hits.now in let m = c.args.mark in let size = c.args.self.now.order.size in
    let f = went_full hits m size (hitcount hits) c.args.standing.inside c.in-Some.next c.requires.standing.inside c.if-not-standing.false (sym c.requires.standing.next ∙ c.in-Some.is) c.requires.cut in
    let back = c.count_of-back.ensures in
    omega (arith, f.0, back)

pub returns-in-Some-clause-cut : goal.returns-in-Some-clause-cut
returns-in-Some-clause-cut c =
    let hits = c.args.hits.now in let m = c.args.mark in let size = c.args.self.now.order.size in
    let f = went_full hits m size (hitcount hits) c.args.standing.inside c.in-Some.next c.requires.standing.inside c.if-not-standing.false (sym c.requires.standing.next ∙ c.in-Some.is) c.requires.cut in
    resplit (hitcount hits) f.2 refl refl (λ i. c.args.self.now.hits + c.count_of-back.ensures i - c.count_of-count.ensures i) (ap (λ n. c.args.self.now.dropped - n) c.count_of-back.ensures)

pub returns-in-Some-clause-fewer : goal.returns-in-Some-clause-fewer
returns-in-Some-clause-fewer c =
    let hits = c.args.hits.now in let m = c.args.mark in let size = c.args.self.now.order.size in
    let f = went_full hits m size (hitcount hits) c.args.standing.inside c.in-Some.next c.requires.standing.inside c.if-not-standing.false (sym c.requires.standing.next ∙ c.in-Some.is) c.requires.cut in
    let less = counted_less hits m size (hitcount hits) c.requires.cut f.2 in
    let count = c.count_of-count.ensures in let back = c.count_of-back.ensures in
    omega (arith, less, count, back)
