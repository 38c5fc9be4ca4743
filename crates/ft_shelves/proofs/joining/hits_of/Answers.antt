-- Each event of the run gives its hit, if it is one, and what its reading found, if it read.
use Rattle.std.proofs.Common.{◌≡◌, ◌<◌, ◌+◌, ◌++◌, ℕ, List, [], ◌∷◌, length, get_or, take, sym, ap, ◌∙◌, arith, append_assoc, Option}
use Rattle.std.specs.Option.{option_map}
use Rattle.std.proofs.lemmas.List.{append-nil, take_all, take_more}
use Rattle.std.proofs.lemmas.List.Elements.{filter_map-append}
use Rattle.ft_fields.specs.Traced.{Traced}
use Rattle.ft_fields.specs.declared.pos.Pos.{Pos}
use Rattle.ft_groups.specs.Grouped.{run_of}
use Rattle.ft_store.specs.Stored.{held}
use Rattle.ft_table.specs.Spots.{traced}
use Rattle.ft_table.specs.Values.{values_at}
use Rattle.ft_shelves.specs.Joining.{what_read}
use Rattle.ft_shelves.specs.inner.Joining.{chosen, hits_of_run, readings_of_run}
use Rattle.ft_shelves.proofs.Listed.{event_there, length_run, stamped_there}
use Rattle.ft_shelves.proofs.joining.hits_of.Goals as goal

-- with what one more event gives, by what it read
one_more : {L Y : Type 0} (into : Pos → L) (worth : Option (Option Pos) → Pos → Traced → Option Y) (read : Pos → Option (Option Pos)) (run : List (Pos × Traced)) (i : ℕ) (event : Pos × Traced)
    (value : Option (Option Pos)) → value ≡ read (get_or run i event).0 → get_or run i event ≡ event → i < length run
    → (base old new : List (L × Y)) → new ≡ old ++ chosen into (worth value) (event ∷ []) → old ≡ base ++ chosen into (λ pos. worth (read pos) pos) (take i run)
    → new ≡ base ++ chosen into (λ pos. worth (read pos) pos) (take (i + 1) run)
one_more into worth read run i event value is there within base old new pushed before =
    pushed
    ∙ (λ j. before j ++ chosen into (worth (is j)) (sym there j ∷ []))
    ∙ append_assoc base (chosen into (λ pos. worth (read pos) pos) (take i run)) (chosen into (λ pos. worth (read pos) pos) (get_or run i event ∷ []))
    ∙ ap (λ xs. base ++ xs) (sym (filter_map-append _ (take i run) (get_or run i event ∷ [])) ∙ ap (chosen into (λ pos. worth (read pos) pos)) (sym (take_more run i event within)))

pub loop-i-init : goal.loop-i-init
loop-i-init c = λ read are. (c.in_ok-hits.ensures.items, sym (append-nil c.args.readings.now.items))

pub add_hit-requires : goal.add_hit-requires
add_hit-requires c =
    stamped_there c.args.joining.now.trigger.now c.args.joining.now.groups.now c.requires c.args.key.now c.run-run.result.now c.run-run.ensures c.loop-i.i c.index-run-i.result c.loop-i-test.true c.index-run-i.is

pub loop-i-preserved : goal.loop-i-preserved
loop-i-preserved c = λ read are.
    let hist = c.args.joining.now.trigger.now in
    let run : List (Pos × Traced) = run_of c.args.joining.now.groups.now c.args.key.now in
    let i = c.loop-i.i in
    let e = c.index-run-i.result in
    let event : Pos × Traced = (e.now.0, held e.now.1) in
    let many = length_run c.run-run.result.now c.run-run.ensures in
    let within : i < length run = omega (arith, many, c.loop-i-test.true) in
    let there : get_or run i event ≡ event = event_there c.run-run.result.now c.run-run.ensures i e c.index-run-i.is in
    let value = c.read_at-read.ensures ∙ sym (are i event within) in
    let before = c.loop-i.invariant read are in (
      one_more traced (λ r pos event. option_map (values_at hist pos event) r) read run i event _ value there within [] c.loop-i.hits.items _ c.in_ok-add_hit.ensures.hits before.0,
      one_more (λ pos. pos) (λ r pos event. what_read r) read run i event _ value there within c.args.readings.now.items c.loop-i.readings.items _ c.in_ok-add_hit.ensures.readings before.1,
    )

pub returns-clause-hits : goal.returns-clause-hits
returns-clause-hits c = λ read are.
    let run : List (Pos × Traced) = run_of c.args.joining.now.groups.now c.args.key.now in
    (c.loop-i.invariant read are).0 ∙ ap (hits_of_run c.args.joining.now.trigger.now read) (take_all c.loop-i.i run (omega (arith, length_run c.run-run.result.now c.run-run.ensures, c.loop-i-test.false)))

pub returns-clause-readings : goal.returns-clause-readings
returns-clause-readings c = λ read are.
    let run : List (Pos × Traced) = run_of c.args.joining.now.groups.now c.args.key.now in
    (c.loop-i.invariant read are).1
    ∙ ap (λ es. c.args.readings.now.items ++ readings_of_run read es) (take_all c.loop-i.i run (omega (arith, length_run c.run-run.result.now c.run-run.ensures, c.loop-i-test.false)))
