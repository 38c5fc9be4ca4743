-- The part of a head that makes events: `onmatch(sched.EVENT).wakeup_latency($OWN,F,G)` (kernel: histogram.rst, the `onmatch` handler).
use Rattle.std.specs.Prelude.{ℕ, ◌==◌, List, length, drop, Option, Some, None, option_map, if◌then◌else◌, codes}
use Rattle.std.specs.List.{starts_with}
use Rattle.std.specs.Option.{option_and_then}
use Rattle.ft_fields.specs.declared.event.Name.{Name}
use Rattle.ft_fields.specs.Names.{is_traced, name_called}
use Rattle.ft_hist.specs.declared.onmatch.Onmatch.{Onmatch}
use Rattle.ft_text.specs.Tokens.{name_at}

-- what has been read of such a part: the name of the variable that it hands on, and what the trigger makes events of
pub record Action : Type 0 where
  pub own : List ℕ
  pub onmatch : Onmatch

-- the words of such a part: its event, and the names of the variable and of the fields that it hands on (kernel: histogram.rst, the `onmatch` handler)
pub record Handed : Type 0 where
  pub event : Name
  pub own : List ℕ
  pub pid : List ℕ
  pub prio : List ℕ

-- what follows if a thing is there
abbrev pub with_found : {A B : Type 0} → Option A → (A → Option B) → Option B
with_found found next = option_and_then next found

-- what is after a text's front, if the text begins with it
abbrev pub behind : List ℕ → List ℕ → Option (List ℕ)
behind front text = if starts_with ◌==◌ text front then Some (drop (length front) text) else None

-- a name that stands before an end, and what is after that
abbrev pub name_before : List ℕ → List ℕ → Option (List ℕ × List ℕ)
name_before end text = with_found (name_at text) (λ cut. option_map (λ rest. (cut.0, rest)) (behind end cut.1))

-- the event of the kernel that has the text as its name (kernel: events.rst, the events of `sched`)
abbrev pub traced_called : List ℕ → Option Name
traced_called text = with_found (name_called text) (λ event. if is_traced event then Some event else None)

-- the words of names, if nothing is after them and the first is an event's
abbrev pub handed_with : List ℕ → List ℕ → List ℕ → List ℕ × List ℕ → Option Handed
handed_with event own pid prio =
    if length prio.1 == 0 then option_map (λ name. record { event = name; own = own; pid = pid; prio = prio.0 }) (traced_called event) else None

-- the words of a part, if it is of the form (kernel: histogram.rst, the `onmatch` handler)
unfoldable pub handed_of : List ℕ → Option Handed
handed_of part =
    with_found (behind (codes "onmatch(sched.") part) (λ rest.
    with_found (name_before (codes ").wakeup_latency($") rest) (λ event.
    with_found (name_before (codes ",") event.1) (λ own.
    with_found (name_before (codes ",") own.1) (λ pid.
    with_found (name_before (codes ")") pid.1) (λ prio.
    handed_with event.0 own.0 pid.0 prio)))))
