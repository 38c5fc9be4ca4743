-- The value of a variable's part, as contracts see it.
use Rattle.ft_head.specs.declared.draft.Stamp.{Stamp as Given}
use Rattle.ft_head.specs.declared.draft.Stamp.TheVariants as given
use Rattle.ft_head.specs.Draft.{Stamp, Saved, Since}

-- the value of a variable's part, with the name as a list of bytes
abbrev pub stamp_seen : Given → Stamp
stamp_seen given.Saved = Saved
stamp_seen (given.Since source) = Since source.now
