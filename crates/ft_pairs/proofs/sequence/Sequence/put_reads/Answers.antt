-- If there were no reads, those that come are all.
use Rattle.std.proofs.Common.{◌≡◌, false, [], sym, ap, subst, ◌∙◌, inr}
use Rattle.std.specs.Prelude.{IfSome, is_some}
use Rattle.std.specs.FinMap as map
use Rattle.std.specs.Map.{keys_of}
use Rattle.ft_blocks.specs.Sorted.{first_entry}
use Rattle.ft_pairs.specs.ByKey.{KeyOps}
use Rattle.ft_pairs.specs.Runs.{with_reads}
use Rattle.ft_pairs.specs.inner.Sides.{both}
use Rattle.ft_pairs.proofs.Beside.{no_entries}
use Rattle.ft_pairs.proofs.Partly.{on_ok, on_err}
use Rattle.ft_pairs.proofs.Sides.{both-reads_come}
use Rattle.ft_pairs.proofs.sequence.Sequence.put_reads.Goals as goal

pub returns-in_ok-self-inside-in-Some-clause-ops : goal.returns-in_ok-self-inside-in-Some-clause-ops
returns-in_ok-self-inside-in-Some-clause-ops c =
    let s = c.self.inside in
    let reads = c.args.reads.now in
    let places = c.in-Some.places.items in
    let keys : keys_of places ≡ reads = subst (λ o. IfSome o (λ p. keys_of p.items ≡ reads)) c.in-Some.is c.in_ok-places.ensures.same in
    let none : is_some (first_entry s.reads) ≡ false = sym (c.is_some.ensures ∙ ap is_some c.first.ensures.first) ∙ c.if-is_some.false in
    let old : both s.saves [] ≡ c.args.self.now = ap (both s.saves) (sym (no_entries s.reads none)) ∙ c.self.view_is in
    on_ok c.sources_in_turn.result (λ at.
    ap (λ l. map.get (both s.saves l) at) c.in_ok-self-inside-in-Some.ensures
    ∙ both-reads_come s.saves places at
    ∙ ap (λ l. with_reads l (map.get (both s.saves [])) at) keys
    ∙ ap (λ (ops : KeyOps). with_reads reads (map.get ops) at) old)

pub returns-in_ok-self-inside-in-Some-clause-err : goal.returns-in_ok-self-inside-in-Some-clause-err
returns-in_ok-self-inside-in-Some-clause-err c =
    let s = c.self.inside in
    let reads = c.args.reads.now in
    let places = c.in-Some.places.items in
    let keys : keys_of places ≡ reads = subst (λ o. IfSome o (λ p. keys_of p.items ≡ reads)) c.in-Some.is c.in_ok-places.ensures.same in
    let none : is_some (first_entry s.reads) ≡ false = sym (c.is_some.ensures ∙ ap is_some c.first.ensures.first) ∙ c.if-is_some.false in
    let old : both s.saves [] ≡ c.args.self.now = ap (both s.saves) (sym (no_entries s.reads none)) ∙ c.self.view_is in
    on_err c.sources_in_turn.result (λ at. inr (
    ap (λ l. map.get (both s.saves l) at) c.in_ok-self-inside-in-Some.ensures
    ∙ both-reads_come s.saves places at
    ∙ ap (λ l. with_reads l (map.get (both s.saves [])) at) keys
    ∙ ap (λ (ops : KeyOps). with_reads reads (map.get ops) at) old))
