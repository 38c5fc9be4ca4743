use Rattle.std.proofs.Common.{ap, subst, sym, ◌∙◌, ℕ, Bool, List}
use Rattle.ft_losses.specs.Holes.{is_told}
use Rattle.ft_losses.specs.Telling.{Tells}
use Rattle.ft_losses.specs.declared.hole.Hole.{Hole}
use Rattle.ft_windows.specs.Windows.{with_windows}
use Rattle.ft_waits.proofs.pieces.all_losses.Goals as goal

pub returns : goal.returns
returns c = λ notes events shown keeps windows.
    let losses = c.in_ok-read.ensures notes keeps in
    let told : ℕ → Bool = λ cpu. is_told cpu notes in
    record {
      holes = c.in_ok-add_to.ensures events shown told windows (subst (λ (ts : List Bool). Tells ts told) (sym c.deref.ensures.value) (c.in_ok-told.ensures.each notes keeps))
          ∙ ap (λ (holes : List Hole). with_windows told holes events shown) losses.holes;
      buffers = losses.buffers;
    }
