-- The table that `get_mut` finds is the one that is kept, and it is written back there.
use Rattle.std.proofs.Common.{rules, ◌≡◌, true, sym, ap, subst, ◌∙◌}
use Rattle.std.specs.Ordering.{nat_cmp}
use Rattle.std.specs.Cmp.{nat_cmp_total}
use Rattle.std.specs.FinMap as map
use Rattle.std.specs.FinMap.{nat_cmp-IsAntisymmetric}
use Rattle.std.proofs.lemmas.Bool.{true≢false}
use Rattle.std.proofs.lemmas.Result.{on_ok_weaker}
use Rattle.ft_maps.specs.Seen.{get-seen, seen-found, seen}
use Rattle.ft_board.specs.inner.Mending.{CanUpdateTo}
use Rattle.ft_board.proofs.MadeShelves.{others_put, table_by, table_put}
use Rattle.ft_board.specs.MadeShelves.{made_on, MadeTables}
use Rattle.ft_hist.specs.Hist.{Hist}
use Rattle.ft_hist.specs.Made.{counts_made}
use Rattle.ft_table.specs.Tabled.{Tabled}
use Rattle.ft_board.proofs.mend.Mending.update_counted.Goals as goal

pub update-requires : goal.update-requires
update-requires c =
    let counts : counts_made c.args.trigger.now ≡ true = search rules in
    subst (CanUpdateTo c.args.self.now c.args.trigger.now)
    (ap (table_by c.args.trigger.now) (get-seen nat_cmp_total c.args.made.now c.args.id ∙ sym c.in-Some.ensures.value)) (c.requires counts)

pub update-requires-in-None : goal.update-requires-in-None
update-requires-in-None c =
    let counts : counts_made c.args.trigger.now ≡ true = search rules in
    subst (CanUpdateTo c.args.self.now c.args.trigger.now)
    (ap (table_by c.args.trigger.now) (get-seen nat_cmp_total c.args.made.now c.args.id ∙ sym c.in-None.ensures.value) ∙ sym (c.new-table.ensures ∙ (λ i. record { hits = map.empty; size = c.size.ensures.value i }))) (c.requires counts)

pub returns-in-Some : goal.returns-in-Some
returns-in-Some c =
    let counts : counts_made c.args.trigger.now ≡ true = search rules in
    let made : MadeTables = seen nat_cmp c.args.made.now in
    let hist : Hist = c.args.trigger.now in
    let after : Tabled = c.update.new.table in
    let was : made_on made c.args.id hist ≡ c.in-Some.table.now = ap (table_by hist) (get-seen nat_cmp_total c.args.made.now c.args.id ∙ sym c.in-Some.ensures.value) in
    let put : seen nat_cmp (c.get_mut.follows.lender after) ≡ map.insert made c.args.id after =
    seen-found nat_cmp_total nat_cmp-IsAntisymmetric c.args.made.now (c.get_mut.follows.lender after) c.args.id c.in-Some.table.now after c.in-Some.ensures.value (c.get_mut.follows.holds after) in
    record {
      updated = λ _. on_ok_weaker c.update.result (λ is. rw was (rw (table_put made _ c.args.id after put hist) is)) c.update.ensures.updated;
      others = on_ok_weaker c.update.result (λ _. others_put made _ c.args.id after put) c.update.ensures.updated;
      idle = λ none. absurd (true≢false (sym counts ∙ none));
      grow = c.update.ensures.grow;
    }

pub returns-in_ok-update-in-None : goal.returns-in_ok-update-in-None
returns-in_ok-update-in-None c =
    let counts : counts_made c.args.trigger.now ≡ true = search rules in
    let made : MadeTables = seen nat_cmp c.args.made.now in
    let hist : Hist = c.args.trigger.now in
    let after : Tabled = c.update-in-None.new.table in
    let was : made_on made c.args.id hist ≡ c.new-table.result =
    ap (table_by hist) (get-seen nat_cmp_total c.args.made.now c.args.id ∙ sym c.in-None.ensures.value) ∙ sym (c.new-table.ensures ∙ (λ i. record { hits = map.empty; size = c.size.ensures.value i })) in
    let still : map.insert (seen nat_cmp c.get_mut.follows.lender-at-none) c.args.id after ≡ map.insert made c.args.id after = ap (λ m. map.insert (seen nat_cmp m) c.args.id after) c.get_mut.follows.holds-at-none in
    record {
      updated = λ _. on_ok_weaker c.put.result (λ is. rw was (rw (table_put made _ c.args.id after (is ∙ still) hist) c.in_ok-update-in-None.ensures.updated)) c.put.ensures.ok;
      others = on_ok_weaker c.put.result (λ is. others_put made _ c.args.id after (is ∙ still)) c.put.ensures.ok;
      idle = λ none. absurd (true≢false (sym counts ∙ none));
      grow = c.in_ok-update-in-None.ensures.grow;
    }
