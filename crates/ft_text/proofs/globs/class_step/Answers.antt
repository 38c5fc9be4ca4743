use Rattle.std.proofs.Common.{refl}
use Rattle.ft_text.specs.Glob.{Item}
use Rattle.ft_text.proofs.Cuts.{class_first, class_found, class_has, class_has_not}
use Rattle.ft_text.proofs.globs.class_step.Goals as goal

pub returns-then-has-class-clause-meaning : goal.returns-then-has-class-clause-meaning
returns-then-has-class-clause-meaning c = λ items h.
    let f = class_found c.args.text.now items c.in-Some.class.negated c.in-Some.class.inside.now c.in-Some.class.rest.now c.in-Some.ensures.found h in
    (Item.Class c.in-Some.class.negated f.members, f.behind, f.first, class_has c.in-Some.class.negated c.has.result f.members c.args.byte (c.has.ensures f.members f.inside_is) c.if-has-class.true, f.read)

pub returns-else-has-class-clause-meaning : goal.returns-else-has-class-clause-meaning
returns-else-has-class-clause-meaning c = λ items h text glob.
    let f = class_found c.args.text.now items c.in-Some.class.negated c.in-Some.class.inside.now c.in-Some.class.rest.now c.in-Some.ensures.found h in
    class_has_not c.in-Some.class.negated c.has.result f.members c.args.byte (c.has.ensures f.members f.inside_is) c.if-has-class.false (rw f.first at glob).0

pub returns-in-None-clause-meaning : goal.returns-in-None-clause-meaning
returns-in-None-clause-meaning c = λ items h text glob.
    let f = class_first c.args.text.now _ items refl h in
    c.in-None.ensures.none f.negated f.class.inside f.rest f.class.cut
