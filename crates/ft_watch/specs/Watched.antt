-- What commands mean to a watch. All of it is our own choice.
use Rattle.std.specs.Prelude.{ℕ, List, ◌++◌, if◌then◌else◌}
use Rattle.ft_answers.specs.Base.{Base}
use Rattle.ft_script.specs.Script.{Asked}
use Rattle.ft_desk.specs.Output.{Outcome, Meaning, outcome}
use Rattle.ft_watch.specs.ChangedRows.{changes_text}

-- an edit that was accepted prints also which rows it changed
abbrev pub told : Base → Outcome → Outcome
told base done = if done.refused then done else record done { text = done.text ++ changes_text base done.base }

-- a command does what it does to a desk; an accepted insert or strike prints also which rows it changed
abbrev pub watched : List (List ℕ) → Meaning
watched files base (Asked.Insert line) = told base (outcome files base (Asked.Insert line))
watched files base (Asked.Strike cpu line) = told base (outcome files base (Asked.Strike cpu line))
watched files base asked = outcome files base asked
