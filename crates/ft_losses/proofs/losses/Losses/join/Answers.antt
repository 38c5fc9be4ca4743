use Rattle.std.specs.Prelude.{◌≡◌, ◌≤◌, ◌+◌, ℕ, List, ◌++◌, length, map as list_map, option_map}
use Rattle.std.specs.Option.{option_or}
use Rattle.std.proofs.Common.{sym, ap, ◌∙◌, arith}
use Rattle.ft_event.specs.Marks.{last_count}
use Rattle.ft_fields.specs.Traced.{last_cpu}
use Rattle.ft_losses.specs.Joining.{header_behind, hole_behind}
use Rattle.ft_losses.specs.declared.hole.Beginning.{Beginning}
use Rattle.ft_losses.specs.declared.hole.Hole.{Hole}
use Rattle.ft_losses.specs.declared.lanes.Lane.{Lane}
use Rattle.ft_losses.specs.inner.Joined.{lane_behind}
use Rattle.ft_losses.specs.inner.Lanes.{lane_in}
use Rattle.ft_losses.proofs.Behind.{begun_behind}
use Rattle.ft_losses.proofs.Together.{kept-together}
use Rattle.ft_losses.proofs.losses.Losses.join.Goals as goal

pub returns : goal.returns
returns c = λ before notes keeps own lines within none.
    let old = c.args.self.now in
    let part = c.args.part in
    let lanes : List Lane = old.lanes.items in
    let begins : Beginning = record { header = c.or.result; is_marked = c.either.result } in
    let fits : length notes + length before ≤ last_count = omega (arith, lines, within) in
    let at : (cpu : ℕ) → cpu ≤ last_cpu → lane_in c.join_lanes.new.lanes.items cpu ≡ lane_behind (length before) (lane_in lanes cpu) (lane_in part.lanes.items cpu) = λ cpu low.
    c.join_lanes.ensures.at cpu low
    ∙ ap (λ (ls : List Lane). lane_behind c.args.lines (lane_in lanes cpu) (lane_in ls cpu)) c.deref-3.ensures.value
    ∙ ap (λ (n : ℕ). lane_behind n (lane_in lanes cpu) (lane_in part.lanes.items cpu)) (sym lines) in
    let is : c.add_behind.new.ended.items ≡ old.ended.items ++ list_map (hole_behind (length before) (λ cpu. (lane_in lanes cpu).last)) part.ended.items =
    c.in_ok-add_behind.ensures
    ∙ ap (λ (ls : List Lane). old.ended.items ++ list_map (hole_behind c.args.lines (λ cpu. (lane_in ls cpu).last)) c.deref-2.result.now) c.deref.ensures.value
    ∙ ap (λ (hs : List Hole). old.ended.items ++ list_map (hole_behind c.args.lines (λ cpu. (lane_in lanes cpu).last)) hs) c.deref-2.ensures.value
    ∙ ap (λ (n : ℕ). old.ended.items ++ list_map (hole_behind n (λ cpu. (lane_in lanes cpu).last)) part.ended.items) (sym lines) in
    let header : c.or.result ≡ option_or old.begins.header (option_map (header_behind (length before)) part.begins.header) =
    c.or.ensures ∙ ap (option_or old.begins.header) (c.header_behind-header.ensures ∙ ap (λ (n : ℕ). option_map (header_behind n) part.begins.header) (sym lines)) in
    let begun : begins ≡ begun_behind (length before) old.begins part.begins =
    (λ i. record { header = header i; is_marked = c.either.ensures i }) in
    kept-together lanes part.lanes.items c.join_lanes.new.lanes.items old.ended.items part.ended.items old.begins part.begins begins before notes keeps own fits none
    c.add_behind.new.ended.items at is begun
