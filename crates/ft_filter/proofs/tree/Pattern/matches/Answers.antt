use Rattle.std.proofs.Common.{◌∙◌, ap}
use Rattle.ft_text.specs.Matching.{matches}
use Rattle.ft_text.proofs.Deciding.{same_glob, matches_read}
use Rattle.ft_filter.proofs.tree.Pattern.matches.Goals as goal

pub glob-requires : goal.glob-requires
glob-requires c = same_glob c.args.self.now c.bytes.result.now c.bytes.ensures.value c.bytes.ensures.glob

pub returns : goal.returns
returns c =
    let is_glob = same_glob c.args.self.now c.bytes.result.now c.bytes.ensures.value c.bytes.ensures.glob in
    matches_read c.bytes.result.now c.args.text.now c.glob.result is_glob c.glob.ensures ∙ ap (λ pattern. matches pattern c.args.text.now) c.bytes.ensures.value
