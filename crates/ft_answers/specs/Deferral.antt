-- When an edit puts nothing off.
use Rattle.std.specs.Prelude.{◌≡◌, true, false, Result, Err}
pub use Rattle.ft_hist.specs.Hit.{IsNoHit}
use Rattle.ft_base.specs.declared.refused.Refused.{Refused}
use Rattle.ft_base.specs.declared.refused.Refused.TheVariants.{Memory}
pub use Rattle.ft_base.specs.OneTrigger.{ReadsNothing}
pub use Rattle.ft_base.specs.PlainHits.{IsPlainHit, IsPlainLane}
use Rattle.ft_answers.specs.Shown.{Shown}

-- if a board's tables lack no edit before, they lack none afterwards
abbrev pub PutsNothingOff : Shown → Shown → Type 0
PutsNothingOff old new = old.deferred ≡ false → new.deferred ≡ false

-- an answer that needs no memory of its own: on a board that keeps tables, it runs out of memory only if these lack an edit, and then they still lack one
abbrev pub WantsForTables : {S : Type 0} → Shown → Shown → Result S Refused → Type 0
WantsForTables old new answer = old.keeps ≡ true → answer ≡ Err Memory → (old.deferred ≡ true) × (new.deferred ≡ true)
