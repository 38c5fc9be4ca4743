-- What is not after the size is before it.
use Rattle.std.proofs.Common.{◌≡◌, ℕ, ◌+◌, List, length, take, drop, map as list_map, sym, ap, ◌∙◌, arith}
use Rattle.std.specs.List.{sum_by}
use Rattle.std.proofs.lemmas.List.{length-map, length-take}
use Rattle.std.proofs.lemmas.List.Sums.{sum_by-take-drop}
use Rattle.ft_fields.specs.declared.key.Part.{Part}
use Rattle.ft_hits.specs.declared.mark.Mark.{Mark}
use Rattle.ft_hits.specs.Hits.{hitcount}
use Rattle.ft_table.specs.Rows.{totals_of}
use Rattle.ft_table.specs.declared.row.Totals.{Totals}
use Rattle.ft_table.proofs.Tallies.{sum-map}
use Rattle.ft_table.proofs.table.Table.totals.Goals as goal

abbrev key_of : Mark → List Part
key_of m = m.key

-- the totals of an order
abbrev shown : (List Part → ℕ) → ℕ → List Mark → Totals
shown count size ms = record { hits = sum_by count (list_map key_of (take size ms)); entries = length (list_map key_of (take size ms)); dropped = sum_by count (list_map key_of (drop size ms)) }

totals_is : {h e d x y z : ℕ} → h ≡ x → e ≡ y → d ≡ z → (let t : Totals = record { hits = h; entries = e; dropped = d } in t) ≡ record { hits = x; entries = y; dropped = z }
totals_is hits entries dropped = λ i. record { hits = hits i; entries = entries i; dropped = dropped i }

pub returns : goal.returns
returns c =
    let count : List Part → ℕ = hitcount c.self.inside.hits in
    let weight : Mark → ℕ = λ m. count m.key in
    let size : ℕ = c.self.inside.ranked.order.size in
    let order : List Mark = c.self.inside.ranked.order.marks in
    let is = c.self.invariant.cut in
    let both : sum_by weight (take size order) + sum_by weight (drop size order) ≡ sum_by weight order = sum_by-take-drop weight order size in
    let hits : c.self.inside.ranked.hits ≡ sum_by count (list_map key_of (take size order)) =
    (let before : c.self.inside.ranked.hits ≡ sum_by weight (take size order) = omega (arith, is.behind, is.whole) in before) ∙ sym (sum-map count key_of (take size order)) in
    let inside = c.inside.ensures in
    let entries : c.inside.result ≡ length (list_map key_of (take size order)) = omega (arith, inside, length-take size order, length-map (take size order) key_of) in
    let dropped : c.self.inside.ranked.dropped ≡ sum_by count (list_map key_of (drop size order)) = is.behind ∙ sym (sum-map count key_of (drop size order)) in
    totals_is hits entries dropped
    ∙ ap (λ (ms : List Mark). shown count size ms) c.self.invariant.order
    ∙ ap totals_of c.self.view_is
