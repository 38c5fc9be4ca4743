-- What a refused body left after the task's name stands after the old bytes too.
use Rattle.std.proofs.Common.{◌≡◌, List, ℕ, length, take, subst}
use Rattle.std.proofs.lemmas.Result.{on_err_weaker}
use Rattle.ft_fields.specs.Borrowed.{name_bytes}
use Rattle.ft_store.proofs.Names.{begins_with_less}
use Rattle.ft_store.proofs.packed.push_names.Goals as goal

pub returns-clause-err : goal.returns-clause-err
returns-clause-err c =
    let all : List ℕ = c.push_body.new.text.items in
    on_err_weaker c.push_body.result (λ begins. begins_with_less c.args.text.now.items (name_bytes c.args.event.now.task) all
    (subst (λ (bytes : List ℕ). take (length bytes) all ≡ bytes) c.in_ok-push_name.ensures.ok begins)) c.push_body.ensures.err
