use Rattle.std.proofs.Common.{ℕ, ◌≡◌, List, sym, ap, subst, ◌∙◌}
use Rattle.ft_repair.proofs.Families.{in_family}
use Rattle.ft_repair.proofs.Putting.{AreRenewedBut, next_renewed, renewed_none, renewed_skip, renewed_more, renewed_all}
use Rattle.ft_base.specs.Base.{Triggers}
use Rattle.ft_base.specs.Roles.{role_of}
use Rattle.ft_hist.specs.Hist.{Hist}
use Rattle.ft_kept.specs.Shelves.{AddsShelf}
use Rattle.ft_pairs.specs.declared.role.Role.{Role}
use Rattle.ft_repair.specs.inner.Joining.{family_of}
use Rattle.std.proofs.lemmas.Map.Iter.{rest_all, rest_more}
use Rattle.std.specs.Map.Iter.{deref_pair}
use Rattle.ft_repair.proofs.triggers.renew_shelves.Goals as goal

pub loop-id-init : goal.loop-id-init
loop-id-init c =
    let triggers : Triggers = c.args.triggers.now in
    let family = family_of triggers c.args.head in
    subst (λ (es : List (ℕ × Hist)). AreRenewedBut triggers family c.args.tables.now es c.args.tables.now) (sym (c.into_iter-id-iterator.ensures.into_iter_gives ∙ c.iter-id-items.ensures.rest)) (renewed_none triggers family c.args.tables.now)

pub loop-id-preserved-in-Continue-1 : goal.loop-id-preserved-in-Continue-1
loop-id-preserved-in-Continue-1 c =
    let triggers : Triggers = c.args.triggers.now in
    let e : ℕ × Hist = (c.in-Some.id.now, c.in-Some.trigger.now) in
    let is = next_renewed (rest_more (deref_pair {K = ℕ} {X = Hist}) _ _ _ _ c.in-Some.is c.next.ensures.steps) c.loop-id.invariant in
    let role : c.role_of-role.result ≡ role_of triggers e.1.variable = c.role_of-role.ensures ∙ ap (role_of triggers) c.variable.ensures in
    let adds : AddsShelf e.0 (role_of triggers e.1.variable) e.1.size c.loop-id.tables c.add.new.self =
    subst (λ (n : ℕ). AddsShelf e.0 (role_of triggers e.1.variable) n c.loop-id.tables c.add.new.self) c.size.ensures.value
    (subst (λ (r : Role). AddsShelf e.0 r c.size.result c.loop-id.tables c.add.new.self) role c.in_ok-add.ensures.ok) in
    let member = in_family triggers c.args.head e is.attached.0 role c.is_kin.ensures c.if-is_kin.true in
    renewed_more is c.add.new.self adds member

pub loop-id-preserved : goal.loop-id-preserved
loop-id-preserved c =
    let triggers : Triggers = c.args.triggers.now in
    let e : ℕ × Hist = (c.in-Some.id.now, c.in-Some.trigger.now) in
    let is = next_renewed (rest_more (deref_pair {K = ℕ} {X = Hist}) _ _ _ _ c.in-Some.is c.next.ensures.steps) c.loop-id.invariant in
    let out = in_family triggers c.args.head e is.attached.0 (c.role_of-role.ensures ∙ ap (role_of triggers) c.variable.ensures) c.is_kin.ensures c.if-is_kin.false in
    renewed_skip is out

pub returns : goal.returns
returns c = renewed_all (rest_all (deref_pair {K = ℕ} {X = Hist}) _ _ _ c.in-None.is c.next.ensures.steps) c.loop-id.invariant
