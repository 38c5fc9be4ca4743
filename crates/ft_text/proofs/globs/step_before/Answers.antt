use Rattle.std.proofs.Common.{◌≡◌, ◌∷◌, ◌∙◌, ap, ℕ}
use Rattle.ft_text.proofs.FirstMembers.{star_first, takes_one, takes_byte, misses_byte, misses_end, none_left}
use Rattle.ft_text.proofs.globs.step_before.Goals as goal

pub returns-in_default-clause-meaning : goal.returns-in_default-clause-meaning
returns-in_default-clause-meaning c = λ items. misses_end c.args.byte c.args.pattern.now items (none_left c.args.pattern.now c.in_default.ensures.cases)

pub returns-then-first-eq42-clause-meaning : goal.returns-then-first-eq42-clause-meaning
returns-then-first-eq42-clause-meaning c = λ items h.
    let e : c.args.pattern.now ≡ 42 ∷ c.in-Some.rest.now = c.in-Some.ensures.cases.0 ∙ ap (λ (x : ℕ). x ∷ c.in-Some.rest.now) c.if-first-eq42.true in
    let f = star_first c.args.pattern.now c.in-Some.rest.now items e h in
    (f.behind, f.first, f.read)

pub returns-then-first-eq63-clause-meaning : goal.returns-then-first-eq63-clause-meaning
returns-then-first-eq63-clause-meaning c = λ items h.
    let f = takes_one c.in-Some.first.now c.args.byte c.args.pattern.now c.in-Some.rest.now items c.if-first-eq63.true c.in-Some.ensures.cases.0 h in
    (f.item, f.behind, f.first, f.takes, f.read)

pub returns-then-first-byte-clause-meaning : goal.returns-then-first-byte-clause-meaning
returns-then-first-byte-clause-meaning c = λ items h.
    let f = takes_byte c.in-Some.first.now c.args.byte c.args.pattern.now c.in-Some.rest.now items (c.if-first-eq42.false, c.if-first-eq63.false, c.if-first-eq91.false) c.if-first-byte.true c.in-Some.ensures.cases.0 h in
    (f.item, f.behind, f.first, f.takes, f.read)

pub returns-else-first-byte-clause-meaning : goal.returns-else-first-byte-clause-meaning
returns-else-first-byte-clause-meaning c = λ items.
    misses_byte c.in-Some.first.now c.args.byte c.args.pattern.now c.in-Some.rest.now items (c.if-first-eq42.false, c.if-first-eq63.false, c.if-first-eq91.false) c.if-first-byte.false c.in-Some.ensures.cases.0
