-- What a change of this sign makes of events, of acts and of operations.
use Rattle.std.specs.Prelude.{◌≡◌, ℕ, List, Option, Some, None}
use Rattle.ft_fields.specs.Traced.{Traced}
use Rattle.ft_fields.specs.declared.pos.Pos.{Pos}
use Rattle.ft_hist.specs.Hist.{Hist}
use Rattle.ft_hist.specs.Triggers.{Triggers}
use Rattle.ft_hist.specs.Hit.{hit, IsNoHit}
use Rattle.ft_fields.specs.declared.key.Part.{Part}
use Rattle.ft_pairs.specs.Source.{Ops}
use Rattle.ft_pairs.specs.declared.at.At.{At}
use Rattle.ft_shelves.specs.Shelves.{Shelves}
use Rattle.ft_kept.specs.Entries.{Finds}
use Rattle.ft_kept.specs.Bounds.{TableEdit, with_hit_of, without_hit_of}
use Rattle.ft_kept.specs.Memory.{ActsPlainly, AllActPlainly}
use Rattle.ft_shelves.specs.declared.sign.Sign.{Sign}
use Rattle.ft_shelves.specs.declared.sign.Sign.TheVariants.{Insert, Retract}

-- what is at the event's place before
abbrev pub event_before : Sign → Traced → Option Traced
event_before Insert event = None
event_before Retract event = Some event

-- and afterwards
abbrev pub event_after : Sign → Traced → Option Traced
event_after Insert event = Some event
event_after Retract event = None

-- what becomes of a saver's table (kernel: histogram.rst, hist triggers)
abbrev pub table_edit : Sign → Pos → Traced → TableEdit
table_edit Insert pos event = with_hit_of pos event
table_edit Retract pos event = without_hit_of pos event

-- it takes no memory at one trigger: what comes is no hit, or what goes, if it is a hit, is one of a trigger without a variable
abbrev pub NeedsNoMemoryAt : Sign → Shelves → ℕ → Hist → Traced → Type 0
NeedsNoMemoryAt Insert shelves id hist event = hit hist event ≡ None
NeedsNoMemoryAt Retract shelves id hist event = ActsPlainly shelves id hist event

-- it takes memory at no trigger
abbrev pub NeedsNoMemory : Sign → Triggers → Shelves → Traced → Type 0
NeedsNoMemory Insert triggers shelves event = IsNoHit triggers event
NeedsNoMemory Retract triggers shelves event = AllActPlainly triggers shelves event

-- ---- one act

-- what is at its place before
abbrev pub act_before : Sign → List Part × Traced → Option (List Part × Traced)
act_before Insert act = None
act_before Retract act = Some act

-- and afterwards
abbrev pub act_after : Sign → List Part × Traced → Option (List Part × Traced)
act_after Insert act = Some act
act_after Retract act = None

-- a reading that comes finds its source, one that goes nothing
abbrev pub FindsBy : Sign → Ops → At → Option Pos → Type 0
FindsBy Insert ops at found = Finds ops at found
FindsBy Retract ops at found = found ≡ None
