-- The operators of a filter's text (kernel: events.rst, event filtering).
use Rattle.std.specs.Prelude.{ℕ, Bool, ◌==◌, List, [], ◌∷◌, length, drop, Option, None, option_map, if◌then◌else◌, codes}
use Rattle.std.specs.List.{starts_with, find}
use Rattle.ft_filter.specs.declared.tree.Op.{Op}
use Rattle.ft_filter.specs.declared.tree.Op.TheVariants as ops

-- how a filter writes the operator (kernel: events.rst, event filtering)
abbrev pub op_text : Op → List ℕ
op_text ops.Eq = codes "=="
op_text ops.Ne = codes "!="
op_text ops.Le = codes "<="
op_text ops.Ge = codes ">="
op_text ops.Lt = codes "<"
op_text ops.Gt = codes ">"
op_text ops.Bits = codes "&"
op_text ops.Glob = codes "~"

-- the operators, the longer ones first
abbrev pub all_ops : List Op
all_ops = ops.Eq ∷ ops.Ne ∷ ops.Le ∷ ops.Ge ∷ ops.Lt ∷ ops.Gt ∷ ops.Bits ∷ ops.Glob ∷ []

-- the text begins with the operator
abbrev pub begins : List ℕ → Op → Bool
begins text op = starts_with ◌==◌ text (op_text op)

-- the longest operator that the text begins with, and what is after it; a `&` before another `&` is no operator (kernel: events.rst, event filtering; the `&` is our own choice)
unfoldable pub op_at : List ℕ → Option (Op × List ℕ)
op_at text =
    if starts_with ◌==◌ text (codes "&&") then None
    else option_map (λ op. (op, drop (length (op_text op)) text)) (find (begins text) all_ops)
