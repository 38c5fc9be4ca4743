-- What holds of tables that a repair left.
use Rattle.std.proofs.Common.{◌≡◌, Bool, true, false, refl, sym, ap, ◌∙◌, Option, Some, None, Ok, Err, Result, subst}
use Rattle.std.specs.declared.alloc.AllocError.{AllocError}
use Rattle.std.specs.Option.{IfSome, is_none}
use Rattle.ft_kept.specs.Shelves.{Shelves}

-- if there are no tables only if there were none before, there are some if there were some
pub still_there : (old new : Option Shelves) → (new ≡ None → old ≡ None) → is_none old ≡ false → is_none new ≡ false
still_there old None back there = ap is_none (sym (back refl)) ∙ there
still_there old (Some tables) back there = refl

-- what holds of the tables that there were holds if there were some, and the other way round
pub if_there : (P : Shelves → Type 0) (tables : Shelves) (old : Option Shelves) → Some tables ≡ old → P tables → IfSome old P
if_there P tables old was = subst (λ (o : Option Shelves). IfSome o P) was

pub there_if : (P : Shelves → Type 0) (tables : Shelves) (old : Option Shelves) → Some tables ≡ old → IfSome old P → P tables
there_if P tables old was = subst (λ (o : Option Shelves). IfSome o P) (sym was)

-- whether a call went through
abbrev pub went : Result (Unit {0}) AllocError → Bool
went (Ok done) = true
went (Err fault) = false
