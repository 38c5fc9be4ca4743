-- What the steps of reading give: an answer, or out of memory.
use Rattle.std.specs.Prelude.{◌≡◌, ◌⊎◌, List, ℕ, Result, Ok, Err}
use Rattle.ft_fields.specs.declared.event.Name.{Name}
use Rattle.ft_filter.specs.declared.fault.FilterFault.{FilterFault}
use Rattle.ft_filter.specs.declared.fault.FilterFault.TheVariants.{Memory}
use Rattle.ft_filter.specs.declared.tree.Pred.{Pred}
use Rattle.ft_filter.specs.declared.tree.Literal.{Literal}
use Rattle.ft_filter.specs.declared.tree.Joint.{Joint}
use Rattle.ft_filter.specs.declared.predicate.Compared.{Compared}
use Rattle.ft_filter.specs.declared.predicate.Valued.{Valued}
use Rattle.ft_filter.specs.declared.reading.Parsed.{Parsed}
use Rattle.ft_filter.specs.Predicate.{Read, Found, Stop}
use Rattle.ft_filter.specs.FilterIs.{Goes, made, joined}
use Rattle.ft_filter.specs.Tree.{Tree, Trees, tree_of}

-- a predicate is read so, or memory ran out
abbrev pub GivesPred : Read Pred → Result Compared FilterFault → Type 0
GivesPred read (Ok compared) = read ≡ Found compared.pred compared.rest.now
GivesPred read (Err fault) = (fault ≡ Memory) ⊎ (read ≡ Stop fault)

-- a value is read so, or memory ran out
abbrev pub GivesValue : Read Literal → Result Valued FilterFault → Type 0
GivesValue read (Ok valued) = read ≡ Found valued.value valued.rest.now
GivesValue read (Err fault) = (fault ≡ Memory) ⊎ (read ≡ Stop fault)

-- R holds for what is read, or memory ran out
abbrev pub GivesTree : (Read Tree → Type 0) → Result Parsed FilterFault → Type 0
GivesTree R (Ok parsed) = R (Found (tree_of parsed.expr) parsed.rest.now)
GivesTree R (Err fault) = (fault ≡ Memory) ⊎ R (Stop fault)

-- a first operand with those after it
abbrev pub OperandsFollow : Name → ℕ → Joint → ℕ → Tree → List ℕ → Read Tree → Type 0
OperandsFollow event whole joint room tree rest read = (more : Read Trees) × Goes event whole joint room rest more × (read ≡ made (joined joint tree) more)
