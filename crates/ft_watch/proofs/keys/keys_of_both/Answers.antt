use Rattle.std.proofs.Common.{◌≡◌, ap, ◌∙◌}
use Rattle.std.specs.Prelude.{is_some, ◌||◌}
use Rattle.std.specs.FinMap as map
use Rattle.std.specs.FinMap.{get-empty}
use Rattle.ft_fields.specs.Parts.{key_cmp}
use Rattle.ft_maps.specs.Seen.{seen, seen-empty}
use Rattle.ft_watch.proofs.Rows.{Keys}
use Rattle.ft_watch.proofs.keys.keys_of_both.Goals as goal

pub returns : goal.returns
returns g c q =
    c.in_ok-add_keys-2.ensures q
    ∙ ap (λ b. b || is_some (map.get (seen key_cmp c.args.now.now) q))
    (c.in_ok-add_keys.ensures q
    ∙ ap (λ (m : Keys). is_some (map.get m q) || is_some (map.get (seen key_cmp c.args.before.now) q)) (seen-empty key_cmp c.new-keys.result c.new-keys.ensures.empty)
    ∙ ap (λ o. is_some o || is_some (map.get (seen key_cmp c.args.before.now) q)) (get-empty key_cmp q))
