-- Each key's saves are put if the key is in the table, and no key comes twice.
use Rattle.std.proofs.Common.{◌≡◌, ◌+◌, Bool, true, false, cond, sym, ap, subst, ◌∙◌, arith, refl, Some, None, Option}
use Rattle.std.specs.Prelude.{◌&&◌, option_and_then}
use Rattle.std.specs.FinMap as map
use Rattle.std.specs.FinMap.{find}
use Rattle.std.specs.Ordering.{nat_cmp, eq_by_cmp}
use Rattle.ft_fields.specs.Places.{pos_cmp}
use Rattle.ft_fields.specs.Orders.{key_cmp_total}
use Rattle.ft_fields.specs.Ties.{key_same}
use Rattle.ft_fields.specs.Traced.{Traced}
use Rattle.ft_maps.proofs.Common.{cond_same}
use Rattle.ft_pairs.specs.ByKey.{OpsByKey, ops_of}
use Rattle.ft_pairs.specs.Order.{at_cmp}
use Rattle.ft_pairs.specs.declared.at.Op.{Op}
use Rattle.ft_pairs.specs.declared.at.Op.TheVariants.{Save}
use Rattle.ft_table.specs.Tabled.{is_in}
use Rattle.ft_shelves.specs.Joining.{event_in, save_in}
use Rattle.ft_shelves.specs.Counts.{TestsNone}
use Rattle.ft_shelves.proofs.Counted.{tests_none}
use Rattle.ft_shelves.proofs.Decided.{itself, untied}
use Rattle.ft_shelves.proofs.KeyByKey.{IsPut, no_run, put_all, put_free, put_more, put_none}
use Rattle.ft_shelves.proofs.Listed.{save_listed}
use Rattle.ft_shelves.proofs.joining.save_groups.Goals as goal
use Rattle.ft_shelves.proofs.joining.save_groups.Goals.{then-is_in+in_ok-run+in_ok-put_key, else-is_in}

pub loop-key-init : goal.loop-key-init
loop-key-init c =
    let id = c.args.joining.now.id in
    let groups = c.args.joining.now.groups.now in
    let table = c.args.table.now in
    record {
      put = λ key at. c.requires.free key at
          ∙ put_none _ groups c.requires.grouped c.keys-key-items.result.now c.keys-key-items.ensures (λ k q. None) (save_in id groups table)
          (λ k q none. sym (ap (λ run. cond (is_in table k && eq_by_cmp nat_cmp q.trigger id) (option_and_then (λ (event : Traced). Some Save) (find pos_cmp q.pos run)) None) (no_run _ groups c.requires.grouped c.keys-key-items.result.now c.keys-key-items.ensures k none)
          ∙ cond_same (is_in table k && eq_by_cmp nat_cmp q.trigger id) None)) key at;
      work = tests_none c.args.work.now;
    }

pub put_key-requires : goal.put_key-requires
put_key-requires c = put_free _ _ c.requires.grouped c.keys-key-items.result.now c.keys-key-items.ensures (λ key at. None) (save_in c.args.joining.now.id c.args.joining.now.groups.now c.args.table.now)
    c.loop-key.key-index c.key-item.result c.loop-key-test.true c.key-item.is _ c.loop-key.invariant.put

in_table : (a b : Bool) (x y : Option Op) → a ≡ true → x ≡ cond b y None → x ≡ cond (a && b) y None
in_table true b x y inside is = is
in_table false b x y inside is = absurd (cc)

pub loop-key-preserved : goal.loop-key-preserved
loop-key-preserved c =
    let id = c.args.joining.now.id in
    let hist = c.args.joining.now.trigger.now in
    let groups = c.args.joining.now.groups.now in
    let table = c.args.table.now in
    let keys = c.keys-key-items.result.now in
    let key = c.key-item.result in
    let inv = c.loop-key.invariant in
    let more = put_more hist groups c.requires.grouped keys c.keys-key-items.ensures (λ k at. None) (save_in id groups table) c.loop-key.key-index key c.loop-key-test.true c.key-item.is (ops_of c.loop-key.pairs) inv.put in
    elim c.if-is_in.branch [
      | then-is_in+in_ok-run+in_ok-put_key w ↦ record {
        put = subst (λ (pairs : OpsByKey). IsPut keys (λ k at. None) (save_in id groups table) (c.loop-key.key-index + 1) (ops_of pairs)) (sym w.pairs-is)
            (more (ops_of w.put_key.new.self)
            (λ at. in_table (is_in table key) (eq_by_cmp nat_cmp at.trigger id) _ _ (sym c.is_in.ensures ∙ w.if-is_in.true)
            (w.in_ok-put_key.ensures.ok key at
            ∙ ap (λ b. cond b (map.get (map.from_entries {R = at_cmp} w.in_ok-run.run'.items) at) (ops_of c.loop-key.pairs key at)) (itself key_cmp_total key)
            ∙ ap (λ run. map.get (map.from_entries {R = at_cmp} run) at) w.in_ok-run.ensures
            ∙ save_listed hist groups c.requires.grouped id key at))
            (λ k at apart.
            w.in_ok-put_key.ensures.ok k at
            ∙ ap (λ b. cond b (map.get (map.from_entries {R = at_cmp} w.in_ok-run.run'.items) at) (ops_of c.loop-key.pairs k at)) (untied key_cmp_total key_same k key apart)));
        work = subst (TestsNone c.args.work.now) (sym w.work-is)
            (record { evals = w.put_key.ensures.evals ∙ inv.work.evals; puts = omega (arith, inv.work.puts, w.put_key.ensures.puts) });
      }
      | else-is_in w ↦ record {
        put = subst (λ (pairs : OpsByKey). IsPut keys (λ k at. None) (save_in id groups table) (c.loop-key.key-index + 1) (ops_of pairs)) (sym w.pairs-is)
            (more (ops_of c.loop-key.pairs)
            (λ at.
            put_free hist groups c.requires.grouped keys c.keys-key-items.ensures (λ k q. None) (save_in id groups table) c.loop-key.key-index key c.loop-key-test.true c.key-item.is (ops_of c.loop-key.pairs) inv.put at
            ∙ sym (ap (λ b. cond (b && eq_by_cmp nat_cmp at.trigger id) (option_and_then (λ (event : Traced). Some Save) (event_in groups key at.pos)) None) (sym c.is_in.ensures ∙ w.if-is_in.false)))
            (λ k at apart. refl));
        work = subst (TestsNone c.args.work.now) (sym w.work-is) inv.work;
      }
    ]

pub returns-clause-ok : goal.returns-clause-ok
returns-clause-ok c = put_all _ _ c.requires.grouped c.keys-key-items.result.now c.keys-key-items.ensures (λ key at. None) (save_in c.args.joining.now.id c.args.joining.now.groups.now c.args.table.now)
    c.loop-key.key-index c.loop-key-test.false _ c.loop-key.invariant.put
