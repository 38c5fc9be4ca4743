-- What a trigger answers, from its counter.
use Rattle.std.proofs.Common.{◌≡◌, ◌⊎◌, ⊎_elim, ℕ, Bool, true, false, inl, inr, List, refl, sym, ap, subst, ◌∙◌, Some, None, Option, Result, Ok, Err}
use Rattle.std.specs.Prelude.{◌≢◌, IsSome, option_map, unwrap_or, map as list_map, if◌then◌else◌}
use Rattle.std.specs.Option.{option_map_or}
use Rattle.std.specs.Cmp.{nat_cmp_total}
use Rattle.std.specs.FinMap as map
use Rattle.ft_hist.specs.Hist.{Hist}
use Rattle.ft_hist.specs.declared.label.Var.{Var}
use Rattle.ft_hist.specs.declared.label.Var.TheVariants as vars
use Rattle.ft_maps.specs.Mapped.{map_by, get-map_by}
use Rattle.ft_table.specs.Rows.{AllFit}
use Rattle.ft_table.specs.Tabled.{Tabled}
use Rattle.ft_base.specs.declared.refused.Refused.{Refused}
use Rattle.ft_base.specs.declared.refused.Refused.TheVariants.{Memory, NoTrigger, NotReading}
use Rattle.ft_hist.specs.Triggers.{Triggers}
use Rattle.ft_replay.specs.Merged.{Events, merged}
use Rattle.ft_made.specs.Laws.{HeldAreCounted}
use Rattle.ft_base.specs.Base.{Base}
use Rattle.ft_answers.specs.Answers.{tally_at, tally_made, tally_shown, of_attached, latencies, latency_of, latencies_as, pairs_as, pairs_shown}
use Rattle.ft_answers.specs.Edited.{AnswersFrom}
use Rattle.ft_answers.specs.Shown.{Shown}
use Rattle.ft_base.specs.declared.latency.Latency.{Latency}
use Rattle.ft_hist.specs.Made.{counts_made}
use Rattle.ft_replay.specs.Replay.{State, replay}
use Rattle.ft_replay.specs.Counters.{Counting, Counters, tally_in, HasCounter, HaveCounters}
use Rattle.ft_base.specs.Roles.{is_reader}
use Rattle.ft_replay.specs.Tally.{Tally, empty_tally, tally_of}
use Rattle.ft_replay.specs.declared.pair.Pair.{Pair}

-- ---- a trigger's counter

module _ (triggers : Triggers) (counters : Counters) (complete : HaveCounters triggers counters) (id : ℕ) where
  -- an attached trigger has a counter
  pub some_counter : IsSome (map.get triggers id) → IsSome (map.get counters id)
  some_counter attached =
      elim (map.get triggers id) as (λ o. map.get triggers id ≡ o → IsSome o → IsSome (map.get counters id)) [
        | None ↦ λ is some. let both : ◌≡◌ {A = Bool} false true = some in absurd cc
        | Some hist ↦ λ is some. let has : HasCounter triggers counters id hist = complete id hist is in subst IsSome (sym has.there) refl
      ] refl attached

  -- its keys fit the trigger
  pub counter_fits : (counter : Counting) → map.get counters id ≡ Some counter → (hist : Hist) → map.get triggers id ≡ Some hist → AllFit counter.table hist
  counter_fits counter there hist is =
      let has : HasCounter triggers counters id hist = complete id hist is in
      let same : has.counter ≡ counter = ap (λ (o : Option Counting). unwrap_or o counter) (sym has.there ∙ there) in
      subst (λ (s : Counting). AllFit s.table hist) same has.suits.fit

-- its tally is that of the replay, which counts held events as if none were made
pub counter_tally : HeldAreCounted → (triggers : Triggers) (events : Events) (counters : Counters) (id : ℕ) (counter : Counting) → map_by tally_in counters ≡ (replay triggers events).tallies → map.get counters id ≡ Some counter
    → tally_in counter ≡ tally_at triggers events id
counter_tally first triggers events counters id counter is there =
    sym (ap (λ (o : Option Tally). unwrap_or o empty_tally) (ap (λ (state : State). map.get state.tallies id) (first triggers events) ∙ ap (λ tallies. map.get tallies id) (sym is) ∙ get-map_by tally_in nat_cmp_total counters id ∙ ap (option_map tally_in) there))

-- ---- what a table shows

module _ (triggers : Triggers) (events : Events) (id : ℕ) (hist : Hist) where
  -- made events, if the trigger counts these
  pub shown-made : counts_made hist ≡ true → tally_shown triggers events id hist ≡ tally_made triggers events id
  shown-made is = ap (λ (b : Bool). if b then tally_made triggers events id else tally_at triggers events id) is

  -- held events, if it doesn't
  pub shown-held : counts_made hist ≡ false → tally_shown triggers events id hist ≡ tally_at triggers events id
  shown-held is = ap (λ (b : Bool). if b then tally_made triggers events id else tally_at triggers events id) is

-- ---- answers

module _ {T : Type 0} (triggers : Triggers) (id : ℕ) where
  -- of an attached trigger
  pub of_attached-some : (answer : Hist → Result T Refused) (hist : Hist) → map.get triggers id ≡ Some hist → of_attached triggers id answer ≡ answer hist
  of_attached-some answer hist is = ap (λ o. option_map_or answer o (Err NoTrigger)) is

-- by its table: what a table answers depends only on the tally
pub answered : {T : Type 0} (triggers : Triggers) (events : Events) (id : ℕ) (hist : Hist) → map.get triggers id ≡ Some hist
    → (counted table : Tabled) → table ≡ counted → (pairs : List Pair) × (tally_of counted pairs ≡ tally_shown triggers events id hist)
    → (view : Hist → Tally → T) (answer : T) → ((pairs : List Pair) → answer ≡ view hist (tally_of table pairs))
    → of_attached triggers id (λ h. Ok (view h (tally_shown triggers events id h))) ≡ Ok answer
answered {T} triggers events id hist there counted table same (pairs, is) view answer gives =
    of_attached-some triggers id (λ h. Ok (view h (tally_shown triggers events id h))) hist there
    ∙ ap (λ (a : T). let result : Result T Refused = Ok a in result) (ap (view hist) (sym is ∙ ap (λ (t : Tabled). tally_of t pairs) (sym same)) ∙ sym (gives pairs))

-- a reader has read, and no one else
pub pairs-reader : (variable : Option Var) (tally : Tally) → is_reader variable ≡ true → pairs_as variable tally ≡ Ok tally.pairs
pairs-reader None tally is = let both : ◌≡◌ {A = Bool} false true = is in absurd cc
pairs-reader (Some (vars.Saves label)) tally is = let both : ◌≡◌ {A = Bool} false true = is in absurd cc
pairs-reader (Some (vars.Reads own source)) tally is = refl

pub pairs-other : (variable : Option Var) (tally : Tally) → is_reader variable ≡ false → pairs_as variable tally ≡ Err NotReading
pairs-other None tally is = refl
pairs-other (Some (vars.Saves label)) tally is = refl
pairs-other (Some (vars.Reads own source)) tally is = let both : ◌≡◌ {A = Bool} true false = is in absurd cc

-- ---- latencies

-- an answer's pairs as latencies
abbrev pub measured : Result (List Pair) Refused → Result (List Latency) Refused
measured (Ok pairs) = Ok (list_map latency_of pairs)
measured (Err refused) = Err refused

-- what readings measured follows from what they found
pub latencies-measured : (base : Base) (id : ℕ) → latencies base id ≡ measured (pairs_shown base id)
unfolding latencies pairs_shown
latencies-measured base id = by (map.get base.triggers id) where
  of : (variable : Option Var) (tally : Tally) → latencies_as variable tally ≡ measured (pairs_as variable tally)
  of None tally = refl
  of (Some (vars.Saves label)) tally = refl
  of (Some (vars.Reads own source)) tally = refl

  by : (o : Option Hist) → option_map_or (λ hist. latencies_as hist.variable (tally_at base.triggers (merged base.lanes) id)) o (Err NoTrigger)
      ≡ measured (option_map_or (λ hist. pairs_as hist.variable (tally_at base.triggers (merged base.lanes) id)) o (Err NoTrigger))
  by None = refl
  by (Some hist) = of hist.variable (tally_at base.triggers (merged base.lanes) id)

-- a refusal of the pairs is one of the latencies
pub unmeasured : {S : Type 0} (view : S → List Latency) (old new : Shown) (id : ℕ) (refused : Refused) (answer : Result S Refused) → new.base ≡ old.base → (refused ≡ Memory) ⊎ (pairs_shown old.base id ≡ Err refused)
    → (new.deferred ≡ true → old.deferred ≡ true) × (refused ≢ Memory → new.deferred ≡ old.deferred) → answer ≡ Err refused → AnswersFrom view (latencies old.base id) old new answer
unmeasured view old new id refused answer same why keeps is =
    subst (AnswersFrom view (latencies old.base id) old new) (sym is) (same, ⊎_elim inl (λ none. inr (latencies-measured old.base id ∙ ap measured none)) why, keeps)
