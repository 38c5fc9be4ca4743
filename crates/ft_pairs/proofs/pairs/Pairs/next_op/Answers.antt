-- What the key's operations answer is what all answer of the key.
use Rattle.std.proofs.Common.{◌≡◌, ◌<◌, length, refl, sym, ap, subst, ◌∙◌, Some, None, Option, unwrap_or}
use Rattle.std.specs.Prelude.{IfSome}
use Rattle.std.specs.List.{filter}
use Rattle.std.specs.FinMap as map
use Rattle.ft_fields.specs.Orders.{key_cmp_total}
use Rattle.ft_maps.specs.Seen.{get-seen}
use Rattle.ft_pairs.specs.declared.at.At.{At}
use Rattle.ft_pairs.specs.declared.at.Op.{Op}
use Rattle.ft_pairs.specs.Next.{IsNext}
use Rattle.ft_pairs.specs.Source.{Ops}
use Rattle.ft_pairs.specs.ByKey.{KeyOps, OpsByKey, is_behind}
use Rattle.ft_pairs.proofs.Found.{at_key}
use Rattle.ft_pairs.proofs.Left.{fewer_left}
use Rattle.ft_pairs.proofs.pairs.Pairs.next_op.Goals as goal

less_left : (ops : KeyOps) (after : Option At) (next : Option (At × Op)) → IsNext (map.get ops) after next
    → IfSome next (λ n. length (filter (λ (e : At × Op). is_behind (Some n.0) e.0) (map.entries ops)) < length (filter (λ (e : At × Op). is_behind after e.0) (map.entries ops)))
less_left ops after None h = tt
less_left ops after (Some next) h = fewer_left ops after next.0 next.1 h.behind h.there

pub returns-in-Some-clause-next : goal.returns-in-Some-clause-next
returns-in-Some-clause-next c =
    let key = c.args.key.now in
    let at : map.get c.args.self.now key ≡ Some c.in-Some.sequence.now = ap (λ (m : OpsByKey). map.get m key) (sym c.self.view_is) ∙ get-seen key_cmp_total c.self.inside.by_key key ∙ sym c.in-Some.ensures.value in
    subst (λ (ops : Ops). IsNext ops c.args.after c.next.result) (sym (at_key c.args.self.now key (Some c.in-Some.sequence.now) at)) c.next.ensures

pub returns-in-Some-clause-fewer : goal.returns-in-Some-clause-fewer
returns-in-Some-clause-fewer c =
    let key = c.args.key.now in
    let at : map.get c.args.self.now key ≡ Some c.in-Some.sequence.now = ap (λ (m : OpsByKey). map.get m key) (sym c.self.view_is) ∙ get-seen key_cmp_total c.self.inside.by_key key ∙ sym c.in-Some.ensures.value in
    subst (λ (ops : KeyOps). IfSome c.next.result (λ n. length (filter (λ (e : At × Op). is_behind (Some n.0) e.0) (map.entries ops)) < length (filter (λ (e : At × Op). is_behind c.args.after e.0) (map.entries ops))))
    (sym (ap (λ o. unwrap_or o map.empty) at)) (less_left c.in-Some.sequence.now c.args.after c.next.result c.next.ensures)

pub returns-in-None-clause-next : goal.returns-in-None-clause-next
returns-in-None-clause-next c =
    let key = c.args.key.now in
    let at : map.get c.args.self.now key ≡ None = ap (λ (m : OpsByKey). map.get m key) (sym c.self.view_is) ∙ get-seen key_cmp_total c.self.inside.by_key key ∙ sym c.in-None.ensures.value in
    subst (λ (ops : Ops). IsNext ops c.args.after None) (sym (at_key c.args.self.now key None at)) (λ q _. refl)
