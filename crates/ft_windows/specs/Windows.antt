-- Holes that no line reports. A window is the time before a CPU's first event or after its last one, if something shows that events of the CPU are missing there. A CPU is told, if the recorder told how many of its events were overwritten before its first one: the time before that is no window. A showing that no other hole spans is a hole on a CPU that isn't known. Events stand newest first.
use Rattle.std.specs.Prelude.{ℕ, ℤ, ◌||◌, ◌&&◌, Bool, not, List, [], ◌∷◌, ◌++◌, Option, Some, None, if◌then◌else◌}
use Rattle.std.specs.List.{flat_map}
use Rattle.ft_dispatch.specs.declared.showing.Showing.{Showing}
use Rattle.ft_fields.specs.Traced.{Traced}
use Rattle.ft_losses.specs.Doubt.{any_spans}
use Rattle.ft_losses.specs.Holes.{cpus_below}
use Rattle.ft_losses.specs.declared.hole.Hole.{Hole}
use Rattle.ft_windows.specs.Naming.{named_before, named_after, is_task, first_edge, last_edge}
use Rattle.ft_windows.specs.Showings.{shown_before, shown_from, all_spans}
use Rattle.ft_windows.specs.declared.lanes.Edge.{Edge}
use Rattle.ft_windows.specs.declared.spans.Span.{Span}

-- a hole that no line reports, and of which no count is known
abbrev pub unreported : Option ℕ → Option ℕ → Option ℕ → Hole
unreported cpu after before = record { cpu = cpu; line = 0; after = after; before = before; count = None }

-- ---- windows

-- the window before a CPU's first event, if the CPU isn't told, and the task that ran until then was named before, or a task was shown before to have run unseen
abbrev pub late_window : (ℕ → Bool) → (ℤ → ℕ → Bool) → (ℕ → Bool) → ℕ → Option Edge → List Hole
late_window told named shown cpu None = []
late_window told named shown cpu (Some first) = if not (told cpu) && ((is_task first.pid && named first.pid first.stamp) || shown first.stamp) then unreported (Some cpu) None (Some first.stamp) ∷ [] else []

-- the window after a CPU's last event, if the task that runs from then on is named later, or a task is shown to have run unseen from then on or from later on
abbrev pub early_window : (ℤ → ℕ → Bool) → (ℕ → Bool) → ℕ → Option Edge → List Hole
early_window named shown cpu None = []
early_window named shown cpu (Some last) = if (is_task last.pid && named last.pid last.stamp) || shown last.stamp then unreported (Some cpu) (Some last.stamp) None ∷ [] else []

-- all windows, if these CPUs are told: those before first events, by CPU, and those after last ones, by CPU
abbrev pub windows : (ℕ → Bool) → List Traced → List Showing → List Hole
windows told events showings =
    flat_map (λ cpu. late_window told (named_before events) (shown_before showings) cpu (first_edge cpu events)) (cpus_below 8192)
    ++ flat_map (λ cpu. early_window (named_after events) (shown_from showings) cpu (last_edge cpu events)) (cpus_below 8192)

-- ---- showings that no hole spans

-- a stretch that is shown, as a hole, if none of these holes spans it
abbrev pub unspanned : List Hole → Span → List Hole
unspanned holes span = if any_spans holes span.from span.at then [] else unreported None (Some span.from) (Some span.at) ∷ []

-- holes, and those of the stretches that none of them spans
abbrev pub with_showings : List Hole → List Showing → List Hole
with_showings holes showings = holes ++ flat_map (unspanned holes) (all_spans showings)

-- holes, the windows, if these CPUs are told, and the stretches that none of these spans
abbrev pub with_windows : (ℕ → Bool) → List Hole → List Traced → List Showing → List Hole
with_windows told holes events showings = with_showings (holes ++ windows told events showings) showings
