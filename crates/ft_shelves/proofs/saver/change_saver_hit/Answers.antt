-- Each key's operations follow the table: those of the hit's own key, and those of the one at the edge.
use Rattle.std.proofs.Common.{◌≡◌, ◌+◌, ◌≤◌, ◌⊎◌, ℕ, Bool, true, false, cond, refl, sym, ap, subst, ◌∙◌, inl, inr, Some, None}
use Rattle.ft_hits.specs.declared.mark.Mark.{Mark}
use Rattle.ft_pairs.specs.ByKey.{ops_of}
use Rattle.ft_table.specs.Tabled.{is_in}
use Rattle.ft_shelves.specs.Changes.{is_insert, change_mark, on_insert, sign_of, table_with}
use Rattle.ft_shelves.specs.Following.{MovesKeys}
use Rattle.ft_shelves.specs.Switches.{HasMoved}
use Rattle.ft_shelves.specs.inner.Following.{beside, edge_for, has_moved, FollowsTable}
use Rattle.ft_shelves.proofs.Followed.{edge_moves, free_before, hit_follows, keys_moved, own_moves}
use Rattle.ft_shelves.proofs.saver.change_saver_hit.Goals as goal
use Rattle.ft_shelves.proofs.saver.change_saver_hit.Goals.{After-is_insert}

was_is : (c : goal.After-is_insert) → c.is_in-was_in.result ≡ is_in c.args.shelf.now.table (change_mark c.args.change).key
was_is c = c.is_in-was_in.ensures ∙ (λ i. is_in (c.table.ensures i) (c.mark-key.ensures i).key)

edge_is : (c : goal.After-is_insert) → c.edge_beside-edge.result ≡ beside (change_mark c.args.change).key (edge_for (sign_of c.args.change) c.args.shelf.now.table)
edge_is c = c.edge_beside-edge.ensures ∙ (λ i. beside (c.mark-key.ensures i).key (edge_for (c.sign-sign.ensures i) (c.table-2.ensures i)))

own_follows : (c : goal.After-is_insert) → FollowsTable c.args.id (Some (change_mark c.args.change).key) c.is_in-was_in.result c.change_own.new.shelf c.follow_table.new.self
own_follows c = subst (λ (m : Mark). FollowsTable c.args.id (Some m.key) c.is_in-was_in.result c.change_own.new.shelf c.follow_table.new.self) c.mark-key.ensures c.in_ok-own.ensures.ok

side_is : (c : goal.After-is_insert) → c.is_insert.result ≡ is_insert (sign_of c.args.change)
side_is c = c.is_insert.ensures ∙ ap is_insert c.sign-sign.ensures

pub follow_table-requires-2 : goal.follow_table-requires-2
follow_table-requires-2 c k at out pos =
    let d = (goal.at.follow_table-requires-2 c).After-is_insert in
    let id = c.args.id in
    let old = c.args.shelf.now in
    free_before c.one_key.ensures.comes c.one_key.ensures.goes c.first_outside.ensures id c.args.change old c.change_own.new.shelf c.follow_table.new.self c.follow_table.new.self
    c.is_in-was_in.result c.edge_beside-edge.result (was_is d) (edge_is d) c.in_ok-change_own.ensures.ok (own_follows d)
    (λ k out q own. subst (λ i. ops_of old.ops k (record { pos = q.pos; trigger = i }) ≡ None) (sym own) (c.requires.outside k out q.pos))
    k at (sym (side_is d) ∙ out) (record { pos = pos; trigger = id }) refl

pub returns-clause-follows : goal.returns-clause-follows
returns-clause-follows c =
    let d = (goal.at.returns-clause-follows c).After-is_insert in
    hit_follows c.one_key.ensures.comes c.one_key.ensures.goes c.first_outside.ensures c.args.id c.args.change c.args.shelf.now c.change_own.new.shelf c.follow_table.new.self c.follow_table-2.new.self
    c.is_in-was_in.result c.edge_beside-edge.result (was_is d) (edge_is d) c.in_ok-change_own.ensures.ok (own_follows d)
    (subst (λ side. FollowsTable c.args.id c.edge_beside-edge.result side c.follow_table.new.self c.follow_table-2.new.self) (side_is d) c.in_ok-other.ensures.ok)

pub returns-clause-moved : goal.returns-clause-moved
returns-clause-moved c =
    let d = (goal.at.returns-clause-moved c).After-is_insert in
    let old = c.args.shelf.now in
    let final = c.follow_table-2.new.self in
    let was = c.is_in-was_in.result in
    let edge = c.edge_beside-edge.result in
    let key = (change_mark c.args.change).key in
    let moved = keys_moved c.one_key.ensures.comes c.one_key.ensures.goes c.first_outside.ensures c.args.id c.args.change old c.change_own.new.shelf c.follow_table.new.self final
    was edge (was_is d) (edge_is d) c.in_ok-change_own.ensures.ok (own_follows d)
    (subst (λ side. FollowsTable c.args.id edge side c.follow_table.new.self final) (side_is d) c.in_ok-other.ensures.ok)
    c.in_ok-other.other (c.in_ok-other.ensures.moved ∙ (λ i. cond (has_moved (side_is d i) c.follow_table.new.self.table edge) edge None))
    c.in_ok-own.own (c.in_ok-own.ensures.moved ∙ (λ i. cond (has_moved was c.change_own.new.shelf.table (Some (c.mark-key.ensures i).key)) (Some (c.mark-key.ensures i).key) None)) in
    subst (λ own. MovesKeys key (record { own = own; other = c.in_ok-other.other }) (is_in old.table) (is_in final.table)) (sym c.is_some.ensures) moved

-- ---- puts

-- few things are put, or a key moved
few_puts : (own other : Bool) (most before mid after : ℕ) (P : Type 0) → before ≤ most → (own ≡ false → mid ≡ before) → (other ≡ false → after ≡ mid) → (own ≡ true → P) → (other ≡ true → P) → (after ≤ most) ⊎ P
few_puts true other most before mid after P few own_same other_same own_moved other_moved = inr (own_moved refl)
few_puts false true most before mid after P few own_same other_same own_moved other_moved = inr (other_moved refl)
few_puts false false most before mid after P few own_same other_same own_moved other_moved = inl (subst (λ n. n ≤ most) (sym (other_same refl ∙ own_same refl)) few)

puts_are : (c : goal.After-is_insert) (after : ℕ) → (has_moved c.is_insert.result c.follow_table.new.self.table c.edge_beside-edge.result ≡ false → after ≡ c.follow_table.new.work.puts)
    → (after ≤ c.args.work.now.puts + on_insert (sign_of c.args.change) 2) ⊎ HasMoved (is_in c.args.shelf.now.table) (is_in (table_with c.args.change c.args.shelf.now.table))
puts_are c after same =
    let was = c.is_in-was_in.result in
    let edge = c.edge_beside-edge.result in
    let mid = c.change_own.new.shelf in
    let own = c.follow_table.new.self in
    few_puts (has_moved was mid.table (Some c.mark-key.result.key)) (has_moved c.is_insert.result own.table edge) _ c.change_own.new.work.puts c.follow_table.new.work.puts after _
    c.change_own.ensures.work.few c.follow_table.ensures.puts same
    (λ moved. own_moves c.one_key.ensures.comes c.one_key.ensures.goes c.first_outside.ensures c.args.id c.args.change c.args.shelf.now mid own own was edge (was_is c) (edge_is c) c.in_ok-change_own.ensures.ok (own_follows c)
    (sym (λ i. has_moved was mid.table (Some (c.mark-key.ensures i).key)) ∙ moved))
    (λ moved. edge_moves c.one_key.ensures.comes c.one_key.ensures.goes c.first_outside.ensures c.args.id c.args.change c.args.shelf.now mid own own was edge (was_is c) (edge_is c) c.in_ok-change_own.ensures.ok (own_follows c)
    (sym (ap (λ side. has_moved side own.table edge) (side_is c)) ∙ moved))

pub returns-clause-puts : goal.returns-clause-puts
returns-clause-puts c = puts_are (goal.at.returns-clause-puts c).After-is_insert c.follow_table-2.new.work.puts c.follow_table-2.ensures.puts

pub returns-in_err-other-clause-puts : goal.returns-in_err-other-clause-puts
returns-in_err-other-clause-puts c = puts_are (goal.at.returns-in_err-other-clause-puts c).After-is_insert c.follow_table-2.new.work.puts c.follow_table-2.ensures.puts
