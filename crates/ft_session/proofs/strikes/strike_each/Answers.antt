use Rattle.std.proofs.Common.{◌≡◌, ◌+◌, ◌∷◌, List, Some, drop, get_or, sym, ◌∙◌, arith}
use Rattle.std.proofs.lemmas.List.{drop_all, drop_more}
use Rattle.ft_answers.specs.After.{after_strike}
use Rattle.ft_layout.specs.declared.places.PlaceLayout.{PlaceLayout}
use Rattle.ft_session.proofs.Striking.{no_place, joins_more, joins_same, strikes_end, strikes_more, strikes_stop, struck_refused, struck_triggers}
use Rattle.ft_session.proofs.Without.{struck_goes}
use Rattle.ft_session.proofs.strikes.strike_each.Goals as goal

pub loop-place-preserved : goal.loop-place-preserved
loop-place-preserved c =
    let places : List PlaceLayout = c.args.places.now in
    let i = c.loop-place.place-index in
    let place : PlaceLayout = get_or places i no_place in
    let more : drop i places ≡ place ∷ drop (i + 1) places = drop_more places i no_place c.loop-place-test.true in
    let desk = c.loop-place.desk in
    let done = c.in-Ok.done in
    record {
      gives = strikes_more _ c.loop-place.count desk.base place (drop (i + 1) places) (drop i places) more c.loop-place.invariant.gives c.strike.new.self.base done.value.place c.in-Ok.ensures.gives.0;
      counts = omega (arith, c.loop-place.invariant.counts);
      joins = λ reports first before. joins_more reports first desk c.strike.new.self c.loop-place.count c.loop-place.joint (c.loop-place.invariant.joins reports first before)
          (after_strike desk.base place.cpu place.line) done c.add.new.self
          (struck_triggers desk.base place.cpu place.line c.strike.new.self.base done.value.place c.in-Ok.ensures.gives.0)
          (struck_goes desk.base place.cpu place.line c.strike.new.self.base done.value.place c.in-Ok.ensures.gives.0)
          c.in-Ok.ensures.gives c.in-Ok.ensures.reports c.add.ensures.rows c.add.ensures.made c.add.ensures.last;
    }

pub returns-in-Err-clause-gives : goal.returns-in-Err-clause-gives
returns-in-Err-clause-gives c =
    let places : List PlaceLayout = c.args.places.now in
    let i = c.loop-place.place-index in
    let place : PlaceLayout = get_or places i no_place in
    let more : drop i places ≡ place ∷ drop (i + 1) places = drop_more places i no_place c.loop-place-test.true in
    let desk = c.loop-place.desk in
    strikes_stop _ c.loop-place.count desk.base place (drop (i + 1) places) (drop i places) more c.loop-place.invariant.gives c.in-Err.why
    (struck_refused (after_strike desk.base place.cpu place.line) c.in-Err.why c.in-Err.ensures.memory c.in-Err.ensures.gives.2)
    ∙ (λ i. record { base = sym c.in-Err.ensures.gives.0 i; count = c.loop-place.count; refused = Some c.in-Err.why })

pub returns-in-Err-clause-joins : goal.returns-in-Err-clause-joins
returns-in-Err-clause-joins c reports first before =
    joins_same reports first c.loop-place.desk c.strike.new.self c.loop-place.count c.loop-place.joint (c.loop-place.invariant.joins reports first before) c.in-Err.ensures.gives.0 c.in-Err.ensures.gives.1

pub returns-clause-gives : goal.returns-clause-gives
returns-clause-gives c =
    let places : List PlaceLayout = c.args.places.now in
    let i = c.loop-place.place-index in
    strikes_end _ c.loop-place.count c.loop-place.desk.base (drop i places) (drop_all i places (omega (arith, c.loop-place-test.false))) c.loop-place.invariant.gives
