-- A read hides a save at its place.
use Rattle.std.proofs.Common.{◌≡◌, sym, ap, ◌∙◌, arith}
use Rattle.std.specs.FinMap as map
use Rattle.ft_pairs.specs.ByKey.{KeyOps}
use Rattle.ft_pairs.specs.inner.Sides.{is_place}
use Rattle.ft_pairs.proofs.Beside.{none_at, read_at, save_at}
use Rattle.ft_pairs.proofs.sequence.Sequence.get.Goals as goal

pub returns-then-is_some : goal.returns-then-is_some
returns-then-is_some c =
    let s = c.self.inside in
    let read : c.is_some.result ≡ is_place s.reads c.args.at = grind (arith, c.is_some.ensures, c.get.ensures) in
    sym (read_at s.saves s.reads c.args.at (sym read ∙ c.if-is_some.true)) ∙ ap (λ (ops : KeyOps). map.get ops c.args.at) c.self.view_is

pub returns-then-is_some-2 : goal.returns-then-is_some-2
returns-then-is_some-2 c =
    let s = c.self.inside in
    let read : c.is_some.result ≡ is_place s.reads c.args.at = grind (arith, c.is_some.ensures, c.get.ensures) in
    let save : c.is_some-2.result ≡ is_place s.saves c.args.at = grind (arith, c.is_some-2.ensures, c.get-2.ensures) in
    sym (save_at s.saves s.reads c.args.at (sym save ∙ c.if-is_some-2.true) (sym read ∙ c.if-is_some.false)) ∙ ap (λ (ops : KeyOps). map.get ops c.args.at) c.self.view_is

pub returns : goal.returns
returns c =
    let s = c.self.inside in
    let read : c.is_some.result ≡ is_place s.reads c.args.at = grind (arith, c.is_some.ensures, c.get.ensures) in
    let save : c.is_some-2.result ≡ is_place s.saves c.args.at = grind (arith, c.is_some-2.ensures, c.get-2.ensures) in
    sym (none_at s.saves s.reads c.args.at (sym save ∙ c.if-is_some-2.false) (sym read ∙ c.if-is_some.false)) ∙ ap (λ (ops : KeyOps). map.get ops c.args.at) c.self.view_is
