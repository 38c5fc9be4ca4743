use Rattle.std.proofs.Common.{◌≡◌, length}
use Rattle.ft_head.specs.Draft.{empty_draft, parts_from}
use Rattle.ft_text.specs.Items.{pieces}
use Rattle.ft_head.proofs.draft.parts_of.Given as goal

-- the parts that are left make of the draft so far what all parts make of none
abbrev pub invariant-loop-part : goal.invariant-loop-part
invariant-loop-part l = parts_from l.event l.draft l.parts ≡ parts_from l.event empty_draft (pieces 58 l.place l.text)

abbrev pub decreases-loop-part : goal.decreases-loop-part
decreases-loop-part l = length l.parts
