use Rattle.std.proofs.Common.{sym, ap, ◌∙◌, ◌≡◌, List, ℕ, Option, Vec, Global}
use Rattle.std.specs.Prelude.{option_map}
use Rattle.std.proofs.lemmas.Result.{on_ok_weaker}
use Rattle.std.specs.FinMap as finite
use Rattle.ft_fields.specs.Parts.{key_cmp}
use Rattle.ft_fields.specs.Ties.{key_same}
use Rattle.ft_maps.specs.Seen.{seen}
use Rattle.ft_watch.specs.ChangedRows.{Texts}
use Rattle.ft_watch.specs.inner.Told.{with_text}
use Rattle.ft_watch.proofs.Views.{bytes_in, bytes_by, bytes_by-insert, bytes_by-remove}
use Rattle.ft_watch.proofs.known_rows.KnownRows.set.Goals as goal

pub put-requires : goal.put-requires
put-requires c = key_same

pub take-requires : goal.take-requires
take-requires c = key_same

pub returns-in-Some : goal.returns-in-Some
returns-in-Some c =
    on_ok_weaker c.put.result (λ e.
    ap bytes_by e ∙ bytes_by-insert (seen key_cmp c.self.inside.texts) c.args.key c.in-Some.text
    ∙ ap (λ (t : Texts). finite.insert t c.args.key c.in-Some.text.items) c.self.view_is
    ∙ sym (ap (λ (o : Option (Vec ℕ Global)). with_text c.args.key (option_map bytes_in o) c.args.self.now) c.in-Some.is)) c.put.ensures.ok

pub returns-in-None : goal.returns-in-None
returns-in-None c =
    ap bytes_by c.take.ensures ∙ bytes_by-remove (seen key_cmp c.self.inside.texts) c.args.key
    ∙ ap (λ (t : Texts). finite.remove t c.args.key) c.self.view_is
    ∙ sym (ap (λ (o : Option (Vec ℕ Global)). with_text c.args.key (option_map bytes_in o) c.args.self.now) c.in-None.is)
