-- Parts of a head, defined by the texts that they make (kernel: histogram.rst, hist triggers).
use Rattle.std.specs.Prelude.{◌≡◌, ◌==◌, ◌&&◌, ℕ, Bool, not, true, List, [], ◌∷◌, ◌++◌, Some, codes}
use Rattle.std.specs.List.{list_all}
use Rattle.ft_fields.specs.Names.{is_traced, name_text}
use Rattle.ft_text.specs.Tokens.{is_gap}
use Rattle.ft_head.specs.Onmatch.{Handed}
use Rattle.ft_text.specs.Spelling.{IsNamed}

-- ---- parts that say what events are made of

-- the part is of this form, without spaces: the event is one of the kernel's, and what is handed on is spelled like fields (kernel: histogram.rst, the `onmatch` handler)
pub record IsHanded (part : List ℕ) (words : Handed) : Type 0 where
  pub event : List ℕ
  pub called : name_text words.event ≡ Some event
  pub traced : is_traced words.event ≡ true
  pub own : IsNamed words.own
  pub pid : IsNamed words.pid
  pub prio : IsNamed words.prio
  pub is : part ≡ codes "onmatch(sched." ++ (event ++ (codes ").wakeup_latency($" ++ (words.own ++ (codes "," ++ (words.pid ++ (codes "," ++ (words.prio ++ codes ")")))))))

-- ---- parts

-- a text that a part may be: no space, no tab and no `:` is in it (kernel: histogram.rst, hist triggers)
abbrev pub is_part : List ℕ → Bool
is_part text = list_all (λ byte. not (is_gap byte) && not (byte == 58)) text

-- parts after others, each after a `:` (kernel: histogram.rst, hist triggers)
abbrev pub later_parts : List (List ℕ) → List ℕ
later_parts [] = []
later_parts (part ∷ parts) = 58 ∷ (part ++ later_parts parts)

-- parts joined by `:` (kernel: histogram.rst, hist triggers)
abbrev pub joined_parts : List (List ℕ) → List ℕ
joined_parts [] = []
joined_parts (part ∷ parts) = part ++ later_parts parts
