use Rattle.std.proofs.Common.{◌≤◌, length, refl, arith}
use Rattle.std.proofs.lemmas.List.{take_rest}
use Rattle.ft_text.specs.Glob.{Glob}
use Rattle.ft_text.proofs.FirstMembers.{none_left}
use Rattle.ft_text.proofs.Stars.{stars_glob}
use Rattle.ft_text.proofs.Tries.{StandsBehind, at_past, at_star, at_back, at_end}
use Rattle.ft_text.proofs.globs.glob.Goals as goal

pub loop-byte-preserved-in-Star : goal.loop-byte-preserved-in-Star
loop-byte-preserved-in-Star c =
    let shorter = c.in-Star.ensures.shorter in
    let short = c.loop-byte.invariant.short in
    record {
      stands = λ whole read. at_star (Glob whole c.args.text.now) c.loop-byte.place.pattern.now c.loop-byte.place.text.now c.loop-byte.star (record { pattern = c.in-Star.rest; text = c.loop-byte.place.text }) refl c.in-Star.ensures.meaning (c.loop-byte.invariant.stands whole read);
      within = omega arith;
      short = omega arith;
      star_short = omega arith;
    }

pub loop-byte-preserved-in-Past : goal.loop-byte-preserved-in-Past
loop-byte-preserved-in-Past c =
    let shorter = c.in-Past.ensures.shorter in
    let behind = c.in-Some.ensures.cases.1 in
    record {
      stands = λ whole read. at_past (Glob whole c.args.text.now) c.loop-byte.place.pattern.now c.in-Past.rest.now c.loop-byte.place.text.now c.in-Some.behind.now c.in-Some.byte.now c.loop-byte.star c.in-Some.ensures.cases.0 c.in-Past.ensures.meaning (c.loop-byte.invariant.stands whole read);
      within = omega arith;
      short = omega arith;
      star_short = c.loop-byte.invariant.star_short;
    }

pub loop-byte-preserved : goal.loop-byte-preserved
loop-byte-preserved c =
    let short : length c.in-Some-star.last.pattern.now ≤ length c.args.pattern.now = rw c.in-Some-star.is at c.loop-byte.invariant.star_short in
    record {
      stands = λ whole read.
          let stands : StandsBehind (Glob whole c.args.text.now) c.loop-byte.place.pattern.now c.loop-byte.place.text.now c.in-Some-star.last.pattern.now c.in-Some-star.last.text.now =
          rw c.in-Some-star.is at (c.loop-byte.invariant.stands whole read) in
          at_back (Glob whole c.args.text.now) c.loop-byte.place.pattern.now c.loop-byte.place.text.now c.in-Some.behind.now c.in-Some-star.last.pattern.now c.in-Some-star.last.text.now _ c.in-Some.byte.now c.in-Some.ensures.cases.0 c.in-Miss.ensures.meaning (take_rest c.in-Some-star.last.text.now 1) stands;
      within = omega arith;
      short = short;
      star_short = short;
    }

pub returns : goal.returns
returns c = λ items glob.
    let e = none_left c.loop-byte.place.text.now c.in_default.ensures.cases in
    let ends = at_end (Glob items c.args.text.now) c.loop-byte.place.pattern.now c.loop-byte.place.text.now c.loop-byte.star e (c.loop-byte.invariant.stands items glob.read) in
    let stars = stars_glob c.loop-byte.place.pattern.now ends.0 ends.1 in
    rw c.are_stars.ensures (λ t. ends.2.1 (stars.0 t), λ g. stars.1 (ends.2.0 g))
