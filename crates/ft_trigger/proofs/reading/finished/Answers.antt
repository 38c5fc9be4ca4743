use Rattle.std.proofs.lemmas.Result.{err_from_is_err_and}
use Rattle.std.specs.Prelude.{option_map}
use Rattle.std.specs.Option.{option_copied}
use Rattle.ft_head.specs.Draft.{besides_hitcount, Draft}
use Rattle.ft_trigger.proofs.Plain.{values_no_filter, sort_no_filter}
use Rattle.std.proofs.Common.{subst, Ok, ◌≡◌, rules}
use Rattle.ft_head.specs.Drafts.{draft_of}
use Rattle.ft_trigger.specs.TriggerIs.{finished}
use Rattle.ft_trigger.proofs.SoundLemmas.{finished_is, bare_sound}
use Rattle.ft_trigger.proofs.reading.finished.Goals as goal

pub of-trigger-requires-clause-sound : goal.of-trigger-requires-clause-sound
of-trigger-requires-clause-sound c = bare_sound _ (c.requires.sound _ (subst (λ (d : Draft). finished c.args.event c.args.head c.args.place c.args.tail.now d ≡ Ok (record { event = c.args.event; keys = c.in-Some.keys.items; values = c.in_ok-values-in-Some.values.items; sort = c.in_ok-sort-in-Some.sort.items; variable = c.draft.inside.variable; size = c.unwrap_or-size.result; onmatch = c.onmatch_of-onmatch.result; filter = option_map (λ f. f.tree) c.in_ok-filter-in-Some.filter })) c.draft.view_is
    (finished_is c.args.event c.args.head c.args.place c.args.tail.now (draft_of c.draft.inside) c.in-Some.keys.items c.in_ok-values-in-Some.values.items c.in_ok-sort-in-Some.sort.items c.unwrap_or-size.result c.onmatch_of-onmatch.result (option_map (λ f. f.tree) c.in_ok-filter-in-Some.filter) (search rules) (search rules) (search rules) (search rules) (search rules) (search rules) (search rules))))

pub set_onmatch-requires : goal.set_onmatch-requires
set_onmatch-requires c = rw c.of-trigger.ensures (c.requires.sound _ (subst (λ (d : Draft). finished c.args.event c.args.head c.args.place c.args.tail.now d ≡ Ok (record { event = c.args.event; keys = c.in-Some.keys.items; values = c.in_ok-values-in-Some.values.items; sort = c.in_ok-sort-in-Some.sort.items; variable = c.draft.inside.variable; size = c.unwrap_or-size.result; onmatch = c.onmatch_of-onmatch.result; filter = option_map (λ f. f.tree) c.in_ok-filter-in-Some.filter })) c.draft.view_is
    (finished_is c.args.event c.args.head c.args.place c.args.tail.now (draft_of c.draft.inside) c.in-Some.keys.items c.in_ok-values-in-Some.values.items c.in_ok-sort-in-Some.sort.items c.unwrap_or-size.result c.onmatch_of-onmatch.result (option_map (λ f. f.tree) c.in_ok-filter-in-Some.filter) (search rules) (search rules) (search rules) (search rules) (search rules) (search rules) (search rules))))

pub returns-in_err-values-in-Some-clause-memory : goal.returns-in_err-values-in-Some-clause-memory
returns-in_err-values-in-Some-clause-memory c =
    let p = err_from_is_err_and c.from_residual.result c.from_residual.ensures.1 in
    rw (p.1, p.2) (values_no_filter c.args.event (option_copied c.own_name-own.result) (besides_hitcount c.words_in.result.now) _ c.in_err-values-in-Some.ensures.gives)

pub returns-in_err-sort-in-Some-clause-memory : goal.returns-in_err-sort-in-Some-clause-memory
returns-in_err-sort-in-Some-clause-memory c =
    let p = err_from_is_err_and c.from_residual-in_err-sort-in-Some.result c.from_residual-in_err-sort-in-Some.ensures.1 in
    rw (p.1, p.2) (sort_no_filter c.deref.result.now c.deref-in-Some.result.now (option_copied c.own_name-own.result) (option_map (λ words. words.items) c.draft.inside.sort) _ c.in_err-sort-in-Some.ensures.gives)
