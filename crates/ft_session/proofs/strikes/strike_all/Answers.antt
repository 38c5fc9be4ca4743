use Rattle.std.proofs.Common.{rules, ◌≡◌, ◌-◌, ℕ, List, drop, take, length, ap, sym, subst, ◌∙◌, arith}
use Rattle.std.proofs.lemmas.List.{length-drop, take_all}
use Rattle.ft_fields.specs.declared.pos.Pos.{Pos}
use Rattle.ft_base.specs.Base.{Base}
use Rattle.ft_layout.specs.declared.places.PlaceLayout.{PlaceLayout}
use Rattle.ft_session.specs.Strikes.{after_strikes}
use Rattle.ft_session.specs.inner.Fronts.{IsWithout, after_others, has_place}
use Rattle.ft_session.specs.inner.JointReports.{Joins}
use Rattle.ft_session.proofs.Striking.{joins_none}
use Rattle.ft_session.proofs.Without.{one_base}
use Rattle.ft_session.proofs.strikes.strike_all.Goals as goal

pub returns-in-Ok-clause-gives : goal.returns-in-Ok-clause-gives
returns-in-Ok-clause-gives c =
    let front : List Pos = c.in-Ok.front.items in
    let base : Base = c.args.desk.now.base in
    let places : List PlaceLayout = c.args.places.now in
    let mid : Base = c.strike_front.new.desk.base in
    let begins = c.in-Ok.ensures.front.begins in
    let count : length front ≡ c.len.result = search rules in
    let again : c.len.result ≡ c.len-in-Ok.result = search rules in
    let without : IsWithout (has_place front) base mid = subst (λ (es : List Pos). IsWithout (has_place es) base mid) c.deref.ensures.value c.strike_front.ensures.without in
    begins.gives
    ∙ ap (λ (b : Base). after_others (length front) (after_strikes b (drop (length front) places))) (one_base (has_place front) base begins.rest mid begins.without without)
    ∙ ap (λ (n : ℕ). after_others n (after_strikes mid (drop n places))) count
    ∙ ap (λ (es : List PlaceLayout). after_others c.len.result (after_strikes mid es)) (sym (take_all (length places - c.len.result) (drop c.len.result places) (omega (arith, length-drop c.len.result places))))
    ∙ ap (λ (n : ℕ). after_others n (after_strikes mid (take (length places - c.len.result) (drop c.len.result places)))) again
    ∙ c.strike_each.ensures.gives

pub returns-in-Ok-clause-joins : goal.returns-in-Ok-clause-joins
returns-in-Ok-clause-joins c =
    c.strike_each.ensures.joins c.args.reports c.args.desk.now
    (subst (λ (n : ℕ). Joins c.args.reports c.args.desk.now c.strike_front.new.desk n c.strike_front.new.joint) (search rules)
    (c.strike_front.ensures.joins c.args.reports c.args.desk.now 0 (joins_none c.args.reports c.args.desk.now c.new-joint.result c.new-joint.ensures.rows c.new-joint.ensures.made c.new-joint.ensures.last)))

pub returns-in-Err-clause-joins : goal.returns-in-Err-clause-joins
returns-in-Err-clause-joins c =
    c.strike_each-in-Err.ensures.joins c.args.reports c.args.desk.now (joins_none c.args.reports c.args.desk.now c.new-joint.result c.new-joint.ensures.rows c.new-joint.ensures.made c.new-joint.ensures.last)
