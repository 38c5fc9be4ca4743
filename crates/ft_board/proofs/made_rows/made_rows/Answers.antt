use Rattle.std.proofs.Common.{rules, ◌≡◌, ◌⊎◌, ◌++◌, ℕ, true, List, [], ◌∷◌, Option, Some, append_assoc, sym, ap, subst, ◌∙◌}
use Rattle.std.specs.FinMap as map
use Rattle.std.specs.List.{flat_map}
use Rattle.std.specs.Map.Iter.{deref_pair}
use Rattle.std.specs.Option.{IfSome}
use Rattle.std.specs.Ordering.{nat_cmp}
use Rattle.std.proofs.lemmas.Bool.{true≢false}
use Rattle.std.proofs.lemmas.List.{append-nil}
use Rattle.std.proofs.lemmas.Map.Iter.{rest_all, rest_more}
use Rattle.ft_kept.specs.Report.{rows_at}
use Rattle.ft_replay.proofs.Stepping.{grow_none, grow_more}
use Rattle.ft_board.specs.inner.MadeRows.{updated_rows, AreUpdatedRows, keys_counted}
use Rattle.ft_board.proofs.MadeRows.{made_of_any, no_rows, updated_rows_are}
use Rattle.ft_answers.specs.Counting.{CountNone, MakesNothing}
use Rattle.ft_base.specs.Base.{Base, Triggers}
use Rattle.ft_board.specs.MadeShelves.{MadeTables}
use Rattle.ft_changes.specs.Findings.{Lead}
use Rattle.ft_changes.specs.declared.changed.Changed.{Changed}
use Rattle.ft_changes.specs.declared.changed.ReadingChange.{ReadingChange}
use Rattle.ft_hist.specs.Hist.{Hist}
use Rattle.ft_made.specs.Making.{MakeNone}
use Rattle.ft_maps.specs.Seen.{seen}
use Rattle.ft_replay.specs.Merged.{merged}
use Rattle.ft_board.proofs.made_rows.made_rows.Goals as goal

pub returns-then-not-are_made-clause-rows : goal.returns-then-not-are_made-clause-rows
returns-then-not-are_made-clause-rows c now can =
    let base : Base = c.args.content.now in
    subst (AreUpdatedRows base.triggers (merged base.lanes) now (seen nat_cmp c.args.made.now)) (sym c.new-rows.ensures.items)
    (no_rows base.triggers (merged base.lanes) _ now (made_of_any _ _ _ can.found now
    (subst (λ (triggers : Triggers). MakeNone triggers ⊎ CountNone triggers) c.triggers.ensures (c.are_made.ensures.none c.if-not-are_made.true)) can.made))

pub returns-in_default-clause-nothing : goal.returns-in_default-clause-nothing
returns-in_default-clause-nothing c none =
    let some : c.are_made.result ≡ true = search rules in
    absurd (true≢false (sym some ∙ c.are_made.ensures.nothing (subst MakesNothing (sym c.triggers.ensures) none)))

-- the rows of the triggers that are left
abbrev rows_left : Base → List ReadingChange → MadeTables → List (ℕ × Hist) → List Changed
rows_left base changes made left = flat_map (λ t. rows_at t.0 (keys_counted base.triggers (merged base.lanes) changes made t)) left

pub loop-id-init : goal.loop-id-init
loop-id-init c =
    let base : Base = c.args.content.now in
    let all = c.into_iter-id-iterator.ensures.into_iter_gives ∙ c.iter-id-items.ensures.rest ∙ ap map.entries c.triggers-2.ensures in
    record {
      rows = λ i. c.new-rows.ensures.items i ++ rows_left base c.in_ok-changes.changes.now (seen nat_cmp c.args.made.now) (all i);
      grow = grow_none _;
    }

pub loop-id-preserved : goal.loop-id-preserved
loop-id-preserved c =
    let base : Base = c.args.content.now in
    let changes : List ReadingChange = c.in_ok-changes.changes.now in
    let made : MadeTables = seen nat_cmp c.args.made.now in
    let more : c.loop-id.id-iterator ≡ (c.in-Some.id.now, c.in-Some.trigger.now) ∷ c.next.new.self = rest_more (deref_pair {K = ℕ} {X = Hist}) _ _ _ _ c.in-Some.is c.next.ensures.steps in
    record {
      rows = ap (λ (rows : List Changed). rows ++ rows_left base changes made c.next.new.self) c.in-Ok.ensures.rows ∙ append_assoc c.loop-id.rows.items _ _
          ∙ ap (λ (left : List (ℕ × Hist)). c.loop-id.rows.items ++ rows_left base changes made left) (sym more) ∙ c.loop-id.invariant.rows;
      grow = grow_more _ _ _ c.loop-id.invariant.grow c.put_rows.ensures.grow;
    }

pub returns-clause-rows : goal.returns-clause-rows
unfolding updated_rows
returns-clause-rows c now can =
    let base : Base = c.args.content.now in
    let changes : List ReadingChange = c.in_ok-changes.changes.now in
    let told : c.args.changes.now.readings ≡ Some changes = search rules in
    let none : c.loop-id.id-iterator ≡ [] = rest_all (deref_pair {K = ℕ} {X = Hist}) _ _ _ c.in-None.is c.next.ensures.steps in
    let all : c.loop-id.rows.items ≡ updated_rows base.triggers (merged base.lanes) changes (seen nat_cmp c.args.made.now) =
    sym (append-nil c.loop-id.rows.items) ∙ ap (λ (es : List (ℕ × Hist)). c.loop-id.rows.items ++ rows_left base changes (seen nat_cmp c.args.made.now) es) (sym none) ∙ c.loop-id.invariant.rows in
    subst (AreUpdatedRows base.triggers (merged base.lanes) now (seen nat_cmp c.args.made.now)) (sym all)
    (updated_rows_are _ _ _ _ c.some_rivals.ensures.apart c.some_rivals.ensures.others c.some_rivals.ensures.rows c.some_rivals.ensures.among c.changed_keys.ensures.tables c.changed_keys.ensures.keys
    can.found now can.made (subst (λ (o : Option (List ReadingChange)). IfSome o (λ changes. Lead changes can.found now)) told can.lead))
