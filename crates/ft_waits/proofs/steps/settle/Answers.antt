use Rattle.std.proofs.Common.{subst, List, Vec, Global, ◌++◌, ◌∙◌, ap, reverse}
use Rattle.std.proofs.lemmas.List.{append-nil}
use Rattle.ft_dispatch.specs.Showings.{showings}
use Rattle.ft_dispatch.specs.Telling.{entries_of, Shows, ShowsAll, TakesAll}
use Rattle.ft_dispatch.specs.declared.act.PlacedAct.{PlacedAct}
use Rattle.ft_dispatch.specs.declared.showing.FirstWaking.{FirstWaking}
use Rattle.ft_dispatch.specs.declared.showing.Showing.{Showing}
use Rattle.ft_windows.specs.Telling.{Keeps}
use Rattle.ft_waits.specs.inner.Known.{SumsTake}
use Rattle.ft_waits.proofs.steps.settle.Goals as goal

pub returns : goal.returns
returns c = record {
  ordered = c.sort.new.held.items;
  moved = c.sort.ensures.moved;
  sorted = c.sort.ensures.sorted;
  takes = subst (λ (held : List PlacedAct). TakesAll (entries_of held) c.args.acts.now.tasks c.args.out.now.items c.take_all.new.self c.take_all.new.out.items) c.deref.ensures.value c.in_ok-take_all.ensures.takes;
  shows = λ events before told tells shown.
      let now = reverse (entries_of c.sort.new.held.items) ++ before in
      let shows : ShowsAll (entries_of c.sort.new.held.items) c.args.acts.now.tasks c.args.out.now.items c.args.acts.now.shown c.take_all.new.shown =
      subst (λ (held : List PlacedAct). ShowsAll (entries_of held) c.args.acts.now.tasks c.args.out.now.items c.args.acts.now.shown c.take_all.new.shown) c.deref.ensures.value c.in_ok-take_all.ensures.shows in
      let given : Shows (showings before) c.take_all.new.shown now = shows before told (showings before) tells (record {
        showings = ap (λ (ss : List Showing). showings before ++ ss) shown.given ∙ append-nil (showings before);
        firsts = shown.firsts;
      }) in
      record {
        windows = subst (λ (ss : List Showing). Keeps c.give.new.windows events ss) given.showings (c.in_ok-give.ensures.windows events (showings before) shown.windows);
        given = c.in_ok-give.ensures.none;
        firsts = ap (λ (fs : Vec FirstWaking Global). fs.items) c.give.ensures.firsts ∙ given.firsts;
      };
  sums = subst (λ (held : List PlacedAct). SumsTake (entries_of held) c.args.sums.now c.sum_up.new.sums) c.deref-2.ensures.value c.in_ok-sum_up.ensures;
  none = c.clear.ensures.items;
}
