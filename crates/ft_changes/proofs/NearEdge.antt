-- Rivals are found near the table's edge.
use Rattle.std.proofs.Common.{◌≡◌, ℕ, ◌-◌, Bool, true, false, List, length, min, take, drop, map as list_map, refl, sym, ap, ◌∙◌, arith}
use Rattle.std.specs.Prelude.{◌&&◌}
use Rattle.std.specs.List.{filter, IsDistinct}
use Rattle.std.specs.Cmp.{eq_by_cmp_equiv}
use Rattle.std.proofs.lemmas.List.{length-drop, length-map, take_all, take-map, drop-map}
use Rattle.std.proofs.lemmas.Map.Made.{length-from_same_keys, is_member-filter}
use Rattle.ft_fields.specs.declared.key.Part.{Part}
use Rattle.ft_fields.specs.Orders.{key_cmp_total}
use Rattle.ft_fields.specs.Parts.{same_key}
use Rattle.ft_hits.specs.declared.mark.Mark.{Mark}
use Rattle.ft_table.specs.Tabled.{Tabled, order_of}
use Rattle.ft_table.proofs.Distinct.{key_of, keys_distinct}
use Rattle.ft_hits.proofs.Flat.{same_is}
use Rattle.ft_changes.specs.Rivals.{is_of, rivals}
use Rattle.ft_changes.specs.inner.Edge.{inside, others_of}
use Rattle.ft_changes.proofs.Fronts.{left, distinct-filter, last_of_left}
use Rattle.ft_changes.proofs.Others.{keys_of, left-keys, rivals-left}

-- as many of some keys are among others as of these among those
shared : (xs ys : List (List Part)) → IsDistinct same_key xs → IsDistinct same_key ys → length (filter (is_of ys) xs) ≡ length (filter (is_of xs) ys)
shared xs ys apart_xs apart_ys =
    length-from_same_keys (eq_by_cmp_equiv key_cmp_total) (filter (is_of ys) xs) (filter (is_of xs) ys) (distinct-filter same_key (is_of ys) xs apart_xs) (distinct-filter same_key (is_of xs) ys apart_ys)
    (λ q. in_both xs ys q ∙ turned (is_of xs q) (is_of ys q) ∙ sym (in_both ys xs q)) where
      in_both : (ks others : List (List Part)) (q : List Part) → is_of (filter (is_of others) ks) q ≡ (is_of ks q && is_of others q)
      in_both ks others q = is_member-filter (eq_by_cmp_equiv key_cmp_total) (is_of others) q (λ x tie. ap (is_of others) (same_is q x tie)) ks

      turned : (a b : Bool) → (a && b) ≡ (b && a)
      turned true true = refl
      turned true false = refl
      turned false true = refl
      turned false false = refl

-- the marks from a place on give the rivals, if the keys that stand before it are counted
pub near_edge : (table : Tabled) (keys : List (List Part)) → IsDistinct same_key keys → (marks : List Mark) → marks ≡ order_of table.hits
    → (few start passed : ℕ) → few ≡ min (length keys) table.size → start ≡ min (table.size - few) (length marks) → passed ≡ length (filter (is_of (inside (order_of table.hits) start)) keys)
    → list_map key_of (take few (drop passed (others_of keys (take (length marks - start) (drop start marks))))) ≡ rivals table keys
near_edge table keys distinct marks same few start passed least from count =
    let order : List Mark = order_of table.hits in
    let front : List (List Part) = inside order start in
    let all : list_map key_of (others_of keys (take (length marks - start) (drop start marks))) ≡ left (is_of keys) (drop start (keys_of table.hits)) =
    ap (λ ms. list_map key_of (others_of keys ms)) (take_all (length marks - start) (drop start marks) (omega (arith, length-drop start marks)) ∙ ap (drop start) same)
    ∙ left-keys keys (drop start order) ∙ ap (left (is_of keys)) (sym (drop-map key_of start order)) in
    let len = length-map order key_of in
    let among = ap length same in
    sym (take-map key_of few (drop passed (others_of keys (take (length marks - start) (drop start marks)))))
    ∙ ap (take few) (sym (drop-map key_of passed (others_of keys (take (length marks - start) (drop start marks)))) ∙ ap (drop passed) all)
    ∙ last_of_left (is_of keys) (keys_of table.hits) (length keys) table.size few start passed least (omega (arith, from, len, among))
    (count ∙ shared keys front distinct (keys_distinct (record table { size = start })) ∙ ap (λ ks. length (filter (is_of keys) ks)) (sym (take-map key_of start order)))
    ∙ sym (rivals-left table keys)
