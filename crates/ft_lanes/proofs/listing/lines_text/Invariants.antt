use Rattle.std.proofs.Common.{◌≡◌, ◌++◌}
use Rattle.std.specs.List.{flat_map}
use Rattle.ft_lanes.specs.Listing.{event_line}
use Rattle.ft_lanes.proofs.listing.lines_text.Given as goal

-- with the lines to come the text is that of all lines
abbrev pub invariant-loop-line : goal.invariant-loop-line
invariant-loop-line l = l.text.items ++ flat_map (λ e. event_line l.cpu e.0 e.1) l.line-iterator ≡ flat_map (λ e. event_line l.cpu e.0 e.1) l.fn.lines
