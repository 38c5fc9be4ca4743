use Rattle.std.proofs.Common.{rules, ◌∙◌, ap, sym, Some, inl, inr}
use Rattle.clap.specs.Words.{is_simple}
use Rattle.clap.specs.Simple.{app_of_fields}
use Rattle.clap.specs.Faults.{is_simple_and_free}
use Rattle.ft_script.proofs.WordWalk.{app_from, err_gives, read_by, refused_by}
use Rattle.ft_script.proofs.words.read_words.Goals as goal

pub returns-in_ok-named_by-in-Ok : goal.returns-in_ok-named_by-in-Ok
returns-in_ok-named_by-in-Ok g c =
    let is_ours = app_from _ _ _ _ _ _ (c.in_ok-command.ensures.shape (search rules)) (c.in_ok-arg.ensures.shape (search rules))
    (ap app_of_fields c.disable_help_flag.ensures) c.new-3.ensures.app (search rules) (search rules) in
    read_by _ _ c.in-Ok.matches is_ours (c.in-Ok.ensures.kinds (ap is_simple_and_free is_ours)) (c.in-Ok.ensures.matches (ap is_simple is_ours)).0
    ∙ ap Some (sym c.in_ok-named_by-in-Ok.ensures)

pub returns-in-Err : goal.returns-in-Err
returns-in-Err g c =
    let is_ours = app_from _ _ _ _ _ _ (c.in_ok-command.ensures.shape (search rules)) (c.in_ok-arg.ensures.shape (search rules))
    (ap app_of_fields c.disable_help_flag.ensures) c.new-3.ensures.app (search rules) (search rules) in
    err_gives _ _ (λ refused. elim (c.in-Err.ensures.kinds (ap is_simple_and_free is_ours)) [
      | inl memory ↦ let not_refused = c.refusal.ensures.memory memory in cc
      | inr among ↦ refused_by _ _ _ is_ours among
    ])
