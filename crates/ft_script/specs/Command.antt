-- What a command that was read asks for. All of it is our own choice.
use Rattle.std.specs.Prelude.{option_map}
use Rattle.ft_script.specs.declared.script.Command.{Command}
use Rattle.ft_script.specs.declared.script.Command.TheVariants as commands
use Rattle.ft_script.specs.Script.{Asked, Nothing, Load, Insert, Strike, Attach, Refilter, About, NoForm}

-- a command as what it asks for, a text by its bytes
abbrev pub asked : Command → Asked
asked commands.Nothing = Nothing
asked (commands.Load number) = Load number
asked (commands.Insert text) = Insert text.now
asked (commands.Strike cpu line) = Strike cpu line
asked (commands.Attach event text) = Attach event text.now
asked (commands.Refilter id text) = Refilter id (option_map (λ t. t.now) text)
asked (commands.About what number) = About what number
asked commands.NoForm = NoForm
