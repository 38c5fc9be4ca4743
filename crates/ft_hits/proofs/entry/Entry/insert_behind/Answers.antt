-- A hit that isn't after the first is before it.
use Rattle.std.proofs.Common.{◌≡◌, false, rules, sym, ap, ◌∙◌, Some}
use Rattle.std.specs.Ordering.{is_lt}
use Rattle.std.specs.declared.cmp.Ordering.TheVariants.{Less}
use Rattle.ft_hits.specs.declared.spot.Spot.{Spot}
use Rattle.ft_hits.specs.Spots.{spot_cmp}
use Rattle.ft_hits.proofs.Before.{before_first}
use Rattle.ft_hits.proofs.entry.Entry.insert_behind.Goals as goal

pub returns-then-lt-clause-behind : goal.returns-then-lt-clause-behind
returns-then-lt-clause-behind c = search rules

pub returns-else-lt-clause-before : goal.returns-else-lt-clause-before
returns-else-lt-clause-before c _ at is =
    let same : at ≡ c.in-Some.first = cc in
    let later : is_lt (spot_cmp c.in-Some.first c.args.spot) ≡ false = search rules in
    before_first c.args.self.now c.args.spot at c.requires is (λ less. let both : is_lt (spot_cmp c.in-Some.first c.args.spot) ≡ is_lt Less = ap (λ (s : Spot). is_lt (spot_cmp s c.args.spot)) (sym same) ∙ ap is_lt less in cc)
