use Rattle.std.proofs.Common.{◌≡◌, ◌+◌, ◌∷◌, ℕ, List, [], Ok, Err, drop, get_or, ap, sym, subst, ◌∙◌, arith}
use Rattle.std.proofs.lemmas.List.{drop_all, drop_more}
use Rattle.ft_answers.specs.After.{after_strike}
use Rattle.ft_fields.specs.declared.pos.Pos.{Pos}
use Rattle.ft_session.specs.inner.JointReports.{Joins}
use Rattle.ft_session.proofs.Fronts.{no_pos, striking_all, striking_none, next_of, struck_is, never_refused}
use Rattle.ft_session.proofs.Striking.{joins_more, struck_refused, struck_triggers}
use Rattle.ft_session.proofs.Without.{struck_goes}
use Rattle.ft_session.proofs.front.strike_front.Goals as goal

pub loop-pos-init : goal.loop-pos-init
loop-pos-init c = record {
  striking = striking_all c.args.desk.now.base c.args.front.now c.requires.held c.requires.apart;
  joins = λ reports first count before. subst (λ (n : ℕ). Joins reports first c.args.desk.now n c.args.joint.now) (omega arith) before;
}

pub loop-pos-preserved : goal.loop-pos-preserved
loop-pos-preserved c =
    let front : List Pos = c.args.front.now in
    let i = c.loop-pos.pos-index in
    let pos : Pos = get_or front i no_pos in
    let more : drop i front ≡ pos ∷ drop (i + 1) front = drop_more front i no_pos c.loop-pos-test.true in
    let desk = c.loop-pos.desk in
    let done = c.in-Ok.done in
    let gives : after_strike desk.base pos.cpu pos.line ≡ Ok (c.strike.new.self.base, done.value.place) =
    ap (λ (cpu : ℕ). after_strike desk.base cpu pos.line) (sym c.from.ensures) ∙ c.in-Ok.ensures.gives.0 in
    record {
      striking = struck_is (next_of more c.loop-pos.invariant.striking) gives;
      joins = λ reports first count before. subst (λ (n : ℕ). Joins reports first c.strike.new.self n c.add.new.self) (omega arith)
          (joins_more reports first desk c.strike.new.self (count + i) c.loop-pos.joint (c.loop-pos.invariant.joins reports first count before)
          (after_strike desk.base pos.cpu pos.line) done c.add.new.self
          (struck_triggers desk.base pos.cpu pos.line c.strike.new.self.base done.value.place gives)
          (struck_goes desk.base pos.cpu pos.line c.strike.new.self.base done.value.place gives)
          (gives, c.in-Ok.ensures.gives.1, c.in-Ok.ensures.gives.2) c.in-Ok.ensures.reports c.add.ensures.rows c.add.ensures.made c.add.ensures.last);
    }

pub returns-in-Err : goal.returns-in-Err
returns-in-Err c =
    let front : List Pos = c.args.front.now in
    let i = c.loop-pos.pos-index in
    let pos : Pos = get_or front i no_pos in
    let more : drop i front ≡ pos ∷ drop (i + 1) front = drop_more front i no_pos c.loop-pos-test.true in
    let desk = c.loop-pos.desk in
    let due : after_strike desk.base pos.cpu pos.line ≡ Err c.in-Err.field-0 =
    ap (λ (cpu : ℕ). after_strike desk.base cpu pos.line) (sym c.from.ensures)
    ∙ struck_refused (after_strike desk.base c.from.result pos.line) c.in-Err.field-0 c.in-Err.ensures.memory c.in-Err.ensures.gives.2 in
    absurd (never_refused (next_of more c.loop-pos.invariant.striking) c.in-Err.field-0 due)

pub returns : goal.returns
returns c =
    let none : drop c.loop-pos.pos-index c.args.front.now ≡ [] = drop_all c.loop-pos.pos-index c.args.front.now c.loop-pos-test.false in
    record {
      without = striking_none none c.loop-pos.invariant.striking;
      joins = λ reports first count before. subst (λ (n : ℕ). Joins reports first c.loop-pos.desk (count + n) c.loop-pos.joint) (omega (arith, c.loop-pos-test.false, c.loop-pos.auto.pos-index-end)) (c.loop-pos.invariant.joins reports first count before);
    }
