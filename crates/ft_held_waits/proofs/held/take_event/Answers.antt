use Rattle.std.proofs.Common.{◌≡◌, [], List, Option, Some, ℤ, of_z, to_z, w32, rules, sym, ap, subst, ◌∙◌}
use Rattle.std.specs.Prelude.{OnOk, option_map}
use Rattle.std.specs.List.{cons_option}
use Rattle.ft_fields.specs.Borrowed.{owned_body}
use Rattle.ft_fields.specs.Traced.{Traced}
use Rattle.ft_fields.specs.declared.pos.Pos.{Pos}
use Rattle.ft_store.specs.Stored.{held}
use Rattle.ft_dispatch.specs.Acts.{Act, act_of}
use Rattle.ft_dispatch.specs.Telling.{entry_of, TakesAll}
use Rattle.ft_held_waits.specs.Held.{placed_act}
use Rattle.ft_held_waits.proofs.held.take_event.Goals as goal

pub returns-in-Some : goal.returns-in-Some
returns-in-Some c =
    let place = c.args.event.now.0 in
    let told = c.borrowed-told.result in
    let same : to_z w32 (of_z w32 told.pid) ≡ told.pid = search rules in
    let found : placed_act (place, held c.args.event.now.1) ≡ Some (entry_of c.in-Some.act) =
    ap (λ (event : Traced). placed_act (place, event)) (sym (c.borrowed-told.ensures ∙ c.event-whole.ensures))
    ∙ ap (λ (pid : ℤ). option_map (λ act. (place, act)) (act_of pid (owned_body told.body))) (sym same) ∙ sym c.of.ensures ∙ ap (option_map entry_of) c.in-Some.is in
    subst (λ (acts : List (Pos × Act)). OnOk c.take_all.result (TakesAll acts c.args.tasks.now c.args.out.now.items c.take_all.new.self c.take_all.new.out.items))
    (sym (ap (λ (o : Option (Pos × Act)). cons_option o []) found)) c.take_all.ensures.takes
