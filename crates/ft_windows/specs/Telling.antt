-- What is kept of events and showings: the answers to questions about them, which don't depend on the order of showings.
use Rattle.std.specs.Prelude.{◌≡◌, ◌≤◌, ℕ, ℤ, Bool, false, not, is_some, List, Option, Some, None, option_map, nat_lt, slice_index_or}
use Rattle.std.specs.BTreeMap.{BTreeMap}
use Rattle.std.specs.FinMap as finite
use Rattle.std.specs.List.{list_any}
use Rattle.ft_dispatch.specs.declared.showing.Showing.{Showing}
use Rattle.ft_fields.specs.Traced.{Traced, last_cpu}
use Rattle.ft_maps.specs.Seen.{seen}
use Rattle.ft_pids.specs.Entries.{entry_in}
use Rattle.ft_pids.specs.Numbers.{number_of}
use Rattle.ft_windows.specs.Naming.{named_before, named_after, first_edge, last_edge}
use Rattle.ft_windows.specs.Showings.{shown_before, shown_from, is_shown, span_cmp}
use Rattle.ft_windows.specs.declared.lanes.Lane.{Lane}
use Rattle.ft_windows.specs.declared.naming.Named.{Named}
use Rattle.ft_windows.specs.declared.naming.Entry.{Entry}
use Rattle.ft_windows.specs.declared.naming.Names.{Names}
use Rattle.ft_windows.specs.declared.spans.Span.{Span}
use Rattle.ft_windows.specs.declared.windows.Windows.{Windows}

-- ---- what is kept

-- nothing is known of a CPU
abbrev pub no_lane : Lane
no_lane = record { first = None; last = None }

-- what is kept of a CPU
abbrev pub lane_in : List Lane → ℕ → Lane
lane_in lanes cpu = slice_index_or lanes cpu no_lane

-- the task of an entry
abbrev pub task_of : Entry → ℤ
task_of entry = entry.pid

-- what is kept of a task
abbrev pub named_in : Names → ℤ → Option Named
named_in tasks pid = option_map (λ entry. entry.named) (entry_in task_of (number_of tasks.numbers) tasks.entries.items pid)

-- whether a task was named first before a stamp, and last after it
abbrev pub begins_before : Option Named → ℕ → Bool
begins_before None stamp = false
begins_before (Some named) stamp = nat_lt named.first stamp

abbrev pub ends_after : Option Named → ℕ → Bool
ends_after None stamp = false
ends_after (Some named) stamp = nat_lt stamp named.last

-- whether a least stamp is before another, and whether a greatest one is no earlier
abbrev pub is_before : Option ℕ → ℕ → Bool
is_before None stamp = false
is_before (Some least) stamp = nat_lt least stamp

abbrev pub is_from : Option ℕ → ℕ → Bool
is_from None stamp = false
is_from (Some greatest) stamp = not (nat_lt greatest stamp)

-- whether a stretch is among those that are kept
abbrev pub has_span : BTreeMap Span (Unit {0}) → Span → Bool
has_span spans span = is_some (finite.get (seen span_cmp spans) span)

-- ---- what it tells

-- what is kept answers as events and showings do
pub record Keeps (windows : Windows) (events : List Traced) (showings : List Showing) : Type 0 where
  pub first : (cpu : ℕ) → cpu ≤ last_cpu → (lane_in windows.lanes.items cpu).first ≡ first_edge cpu events
  pub last : (cpu : ℕ) → cpu ≤ last_cpu → (lane_in windows.lanes.items cpu).last ≡ last_edge cpu events
  pub before : (pid : ℤ) (stamp : ℕ) → begins_before (named_in windows.tasks pid) stamp ≡ named_before events pid stamp
  pub after : (pid : ℤ) (stamp : ℕ) → ends_after (named_in windows.tasks pid) stamp ≡ named_after events pid stamp
  pub shown : (stamp : ℕ) → is_before windows.least_at stamp ≡ shown_before showings stamp
  pub from : (stamp : ℕ) → is_from windows.greatest_from stamp ≡ shown_from showings stamp
  pub all : (span : Span) → has_span windows.spans span ≡ is_shown showings span

-- lists of showings answer alike, whatever is asked of each showing
abbrev pub SayTheSame : List Showing → List Showing → Type 0
SayTheSame showings others = (p : Showing → Bool) → list_any p showings ≡ list_any p others
