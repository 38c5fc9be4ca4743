-- What a text's edit makes of a base, by what its text gives.
use Rattle.std.proofs.Common.{◌≡◌, ℕ, List, Option, Some, None, Result, Ok, Err, refl, ap, sym, ◌∙◌}
use Rattle.std.specs.Prelude.{option_map}
use Rattle.std.specs.Option.{option_map_or}
use Rattle.std.specs.FinMap as map
use Rattle.ft_fields.specs.Traced.{Traced}
use Rattle.ft_fields.specs.declared.event.Name.{Name}
use Rattle.ft_event.specs.Line.{line_of}
use Rattle.ft_filter.specs.Tree.{Tree}
use Rattle.ft_base.specs.declared.refused.Refused.{Refused}
use Rattle.ft_base.specs.declared.refused.Refused.TheVariants.{NoTrigger}
use Rattle.ft_trigger.specs.Hist.{Hist}
use Rattle.ft_answers.specs.Base.{Base}
use Rattle.ft_answers.specs.After.{after_load, after_insert, after_attach, after_refilter}
use Rattle.ft_desk_core.specs.Edits.{events_of, after_load_text, event_or_refused, after_insert_text, trigger_for, after_attach_text, filter_for, after_refilter_text, ◌>>=◌}

-- a text whose lines can be read is loaded as its events
pub load-events : (base : Base) (text : List ℕ) (events : List Traced) → events_of text ≡ Ok events → after_load_text base text ≡ after_load base events
unfolding after_load_text
load-events base text events e = ap (λ read. read >>= after_load base) e

-- a text with a line that cannot be read is refused
pub load-refused : (base : Base) (text : List ℕ) (refused : Refused) → events_of text ≡ Err refused → after_load_text base text ≡ Err refused
unfolding after_load_text
load-refused base text refused e = ap (λ read. read >>= after_load base) e

-- attaching a text is attaching its trigger
attach-text : (base : Base) (event : Name) (text : List ℕ) → after_attach_text base event text ≡ (trigger_for event text >>= after_attach base)
unfolding after_attach_text
attach-text base event text = refl

-- a trigger's text that can be read
pub attach-trigger : (base : Base) (event : Name) (text : List ℕ) (trigger : Hist) → trigger_for event text ≡ Ok trigger → after_attach_text base event text ≡ after_attach base trigger
attach-trigger base event text trigger e = attach-text base event text ∙ ap (λ read. read >>= after_attach base) e

-- a trigger's text that cannot be read
pub attach-refused : (base : Base) (event : Name) (text : List ℕ) (refused : Refused) → trigger_for event text ≡ Err refused → after_attach_text base event text ≡ Err refused
attach-refused base event text refused e = attach-text base event text ∙ ap (λ read. read >>= after_attach base) e

-- inserting a line is inserting its event
insert-text : (base : Base) (line : List ℕ) → after_insert_text base line ≡ (event_or_refused (line_of line) >>= after_insert base)
unfolding after_insert_text
insert-text base line = refl

-- a line that holds an event
pub insert-event : (base : Base) (line : List ℕ) (event : Traced) → Ok event ≡ event_or_refused (line_of line) → after_insert_text base line ≡ after_insert base event
insert-event base line event e = insert-text base line ∙ ap (λ read. read >>= after_insert base) (sym e)

-- a line that cannot be read or holds none
pub insert-refused : (base : Base) (line : List ℕ) (refused : Refused) → Err refused ≡ event_or_refused (line_of line) → after_insert_text base line ≡ Err refused
insert-refused base line refused e = insert-text base line ∙ ap (λ read. read >>= after_insert base) (sym e)

-- the event of the trigger with an id
abbrev pub name_at : Base → ℕ → Option Name
name_at base id = option_map (λ (hist : Hist). hist.event) (map.get base.triggers id)

module _ (base : Base) (id : ℕ) (text : Option (List ℕ)) where
  -- what a text gives a trigger on this event, if there is one
  abbrev refiltered : Option Name → Result (Base × ℕ) Refused
  refiltered named = option_map_or (λ event. filter_for event text >>= after_refilter base id) named (Err NoTrigger)

  -- the text is read on the event of the trigger
  refilter-named : after_refilter_text base id text ≡ refiltered (name_at base id)
  unfolding after_refilter_text
  refilter-named = at (map.get base.triggers id)
    where
      at : (held : Option Hist) → option_map_or (λ hist. filter_for hist.event text >>= after_refilter base id) held (Err NoTrigger) ≡ refiltered (option_map (λ (hist : Hist). hist.event) held)
      at None = refl
      at (Some hist) = refl

  -- the refusal of a look-up, as that of the edit
  abbrev told : Result Name Refused → Result (Base × ℕ) Refused
  told (Ok event) = Err NoTrigger
  told (Err refused) = Err refused

  -- no trigger has the id
  pub refilter-none : (refused : Refused) → name_at base id ≡ None → ◌≡◌ {A = Result Name Refused} (Err NoTrigger) (Err refused) → after_refilter_text base id text ≡ Err refused
  refilter-none refused none why = refilter-named ∙ ap refiltered none ∙ ap told why

  -- a filter's text that cannot be read
  pub refilter-refused : (event : Name) (refused : Refused) → name_at base id ≡ Some event → filter_for event text ≡ Err refused → after_refilter_text base id text ≡ Err refused
  refilter-refused event refused named bad = refilter-named ∙ ap refiltered named ∙ ap (λ read. read >>= after_refilter base id) bad

  -- a filter's text that can be read, or none
  pub refilter-filter : (event : Name) (filter : Option Tree) → name_at base id ≡ Some event → filter_for event text ≡ Ok filter → after_refilter_text base id text ≡ after_refilter base id filter
  refilter-filter event filter named read = refilter-named ∙ ap refiltered named ∙ ap (λ read. read >>= after_refilter base id) read
