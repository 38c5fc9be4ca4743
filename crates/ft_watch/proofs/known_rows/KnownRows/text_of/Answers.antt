use Rattle.std.proofs.Common.{◌≡◌, sym, ap, ◌∙◌, Some}
use Rattle.std.specs.Prelude.{option_map}
use Rattle.std.specs.FinMap as finite
use Rattle.ft_fields.specs.Parts.{key_cmp}
use Rattle.ft_fields.specs.Orders.{key_cmp_total}
use Rattle.ft_maps.specs.Mapped.{get-map_by}
use Rattle.ft_maps.specs.Seen.{seen, get-seen}
use Rattle.ft_watch.specs.ChangedRows.{Texts}
use Rattle.ft_watch.proofs.Views.{bytes_in}
use Rattle.ft_watch.proofs.known_rows.KnownRows.text_of.Goals as goal

pub returns-in-Some : goal.returns-in-Some
returns-in-Some c =
    let texts = c.self.inside.texts in
    let key = c.args.key.now in
    ap Some c.as_slice.ensures.value
    ∙ ap (option_map bytes_in) (c.in-Some.ensures.value ∙ sym (get-seen key_cmp_total texts key))
    ∙ sym (get-map_by bytes_in key_cmp_total (seen key_cmp texts) key)
    ∙ ap (λ (t : Texts). finite.get t key) c.self.view_is

pub returns-in-None : goal.returns-in-None
returns-in-None c =
    let texts = c.self.inside.texts in
    let key = c.args.key.now in
    ap (option_map bytes_in) (c.in-None.ensures.value ∙ sym (get-seen key_cmp_total texts key))
    ∙ sym (get-map_by bytes_in key_cmp_total (seen key_cmp texts) key)
    ∙ ap (λ (t : Texts). finite.get t key) c.self.view_is
