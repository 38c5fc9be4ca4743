use Rattle.std.proofs.Common.{sym, ap, ◌∙◌, []}
use Rattle.std.specs.Option.{option_map_or}
use Rattle.ft_text.specs.Items.{pieces}
use Rattle.ft_text.proofs.PieceLemmas.{pieces_cut, pieces_whole}
use Rattle.ft_text.proofs.pieces.Pieces.next_piece.Goals as goal

pub returns-in-Some : goal.returns-in-Some
returns-in-Some c =
    let found = pieces_cut c.self.inside.separator c.self.inside.place c.in_ok-bytes.bytes.now c.in-Some.at (sym c.first.ensures ∙ c.in-Some.is) in
    sym c.self.view_is ∙ ap (λ rest. option_map_or (λ bytes. pieces c.self.inside.separator c.self.inside.place bytes.now) rest []) c.in_ok-bytes.was ∙ found

pub returns-in-None : goal.returns-in-None
returns-in-None c =
    let found = pieces_whole c.self.inside.separator c.self.inside.place c.in_ok-bytes.bytes.now (sym c.first.ensures ∙ c.in-None.is) in
    sym c.self.view_is ∙ ap (λ rest. option_map_or (λ bytes. pieces c.self.inside.separator c.self.inside.place bytes.now) rest []) c.in_ok-bytes.was ∙ found
