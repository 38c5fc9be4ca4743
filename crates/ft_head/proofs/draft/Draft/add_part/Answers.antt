use Rattle.std.proofs.Common.{subst, sym, ◌∙◌}
use Rattle.std.proofs.Common.{◌≡◌, ℕ, length, None}
use Rattle.std.specs.Prelude.{option_map, ◌==◌}
use Rattle.std.specs.List.{find, starts_with}
use Rattle.ft_head.specs.declared.draft.Kind.{Kind}
use Rattle.ft_head.specs.Draft.{labels}
use Rattle.ft_head.specs.inner.Leaving.{Leaves}
use Rattle.ft_head.proofs.DraftLemmas.{part_other}
use Rattle.ft_head.proofs.draft.Draft.add_part.Goals as goal

pub returns-in-None : goal.returns-in-None
returns-in-None c =
    let none = subst (λ text. option_map {U = ℕ × Kind} (λ label. (length label.0, label.1)) (find (λ label. starts_with ◌==◌ text label.0) labels) ≡ None) (c.bytes-2.ensures ∙ sym c.bytes.ensures) (sym c.kind_of.ensures.value ∙ c.in-None.is) in
    let is = part_other c.args.event c.args.self.now c.args.part.now c.bytes.result.now c.bytes.ensures (sym c.is_part_left_out.ensures ∙ c.if-is_part_left_out.false) none in
    subst (λ answer. Leaves answer c.add_other.new.self c.add_other.result) (sym is) c.add_other.ensures
