use Rattle.std.proofs.Common.{refl}
use Rattle.std.specs.Prelude.{codes}
use Rattle.std.proofs.lemmas.Result.{on_ok_weaker}
use Rattle.ft_table.specs.Text.{heading}
use Rattle.ft_text.proofs.Appends.{added_once, added_three}
use Rattle.ft_table.proofs.text.write_heading.Goals as goal

pub returns : goal.returns
unfolding heading
returns c =
    let old = c.args.text.now.items in
    on_ok_weaker c.extend_from_slice-2.result (added_three old c.extend_from_slice.new.self.items c.write.new.text.items c.extend_from_slice-2.new.self.items _ _ (codes " [active]\n#\n\n") c.in_ok-extend_from_slice.ensures.items c.in_ok-write.ensures.ok)
    (added_once c.extend_from_slice-2.result c.write.new.text.items c.extend_from_slice-2.new.self.items _ _ refl c.extend_from_slice-2.ensures.items)
