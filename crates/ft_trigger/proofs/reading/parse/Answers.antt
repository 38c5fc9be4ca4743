use Rattle.std.proofs.lemmas.Result.{err_from_is_err_and}
use Rattle.ft_head.specs.Draft.{empty_draft}
use Rattle.ft_trigger.proofs.Plain.{parts_no_filter}
use Rattle.std.proofs.Common.{rules, length, ◌-◌, ap, ◌∙◌, take, ℕ}
use Rattle.ft_trigger.proofs.SoundLemmas.{finished_sound}
use Rattle.ft_trigger.proofs.reading.parse.Goals as goal

pub returns-in_err-draft-in-Some-clause-memory : goal.returns-in_err-draft-in-Some-clause-memory
returns-in_err-draft-in-Some-clause-memory c =
    let p = err_from_is_err_and c.from_residual.result c.from_residual.ensures.1 in
    rw (p.1, p.2) (parts_no_filter c.args.event empty_draft _ _ c.in_err-draft-in-Some.ensures)

pub finished-requires : goal.finished-requires
finished-requires c = record {
  sound = λ hist e. finished_sound c.args.event c.args.text.now c.split_at.result.0.now c.in-Some.parts.now c.without_end.result.now (length c.args.text.now - length c.skip-tail.result.now) c.in_ok-draft-in-Some.draft hist
      (c.split_at.ensures.front ∙ ap (λ (n : ℕ). take n c.args.text.now) c.head_len.ensures.value) c.in-Some.ensures.cases.0 c.in-Some.ensures.cases.1 (search rules) (search rules) (search rules) (search rules) e;
}
