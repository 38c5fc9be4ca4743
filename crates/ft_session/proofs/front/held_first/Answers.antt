use Rattle.std.proofs.Common.{◌≡◌, ◌∷◌, ◌+◌, List, drop, get_or, ap, sym, subst, ◌∙◌}
use Rattle.std.proofs.lemmas.List.{drop_more}
use Rattle.std.specs.FinMap as map
use Rattle.std.specs.FinMap.{len-empty}
use Rattle.ft_fields.specs.Places.{pos_cmp, pos_same}
use Rattle.ft_maps.specs.Seen.{seen, seen-empty}
use Rattle.ft_layout.specs.declared.places.PlaceLayout.{PlaceLayout}
use Rattle.ft_session.specs.inner.Fronts.{ComeFirst}
use Rattle.ft_session.proofs.Striking.{no_place}
use Rattle.ft_session.proofs.Fronts.{first_none, first_more, len_more}
use Rattle.ft_session.proofs.front.held_first.Goals as goal

pub put-requires : goal.put-requires
put-requires c = pos_same

pub loop-place-init : goal.loop-place-init
loop-place-init c = record {
  first = first_none c.args.desk.now.base c.args.places.now (seen pos_cmp c.new-held.result) (seen-empty pos_cmp c.new-held.result c.new-held.ensures.empty);
  count = ap map.len (seen-empty pos_cmp c.new-held.result c.new-held.ensures.empty) ∙ len-empty pos_cmp (Unit {0});
}

pub loop-place-preserved : goal.loop-place-preserved
loop-place-preserved c =
    let places : List PlaceLayout = c.args.places.now in
    let i = c.loop-place.place-index in
    let place : PlaceLayout = get_or places i no_place in
    let more : drop i places ≡ place ∷ drop (i + 1) places = drop_more places i no_place c.loop-place-test.true in
    let held = seen pos_cmp c.loop-place.held in
    let new = sym c.has.ensures ∙ c.if-has.false in
    record {
      first = subst (ComeFirst c.args.desk.now.base places) (sym c.in_default.ensures.ok)
          (first_more c.loop-place.invariant.first i c.loop-place.invariant.count c.loop-place-test.true place more c.in-Some.pos c.in-Some.ensures new);
      count = ap map.len c.in_default.ensures.ok ∙ len_more c.loop-place.invariant.first i c.loop-place.invariant.count c.loop-place-test.true place more c.in-Some.pos c.in-Some.ensures new;
    }
