-- The laws of rivals.
use Rattle.std.proofs.Common.{◌≡◌, ◌-◌, ◌≤◌, Bool, true, false, cond, List, length, take, drop, map as list_map, refl, sym, ap, subst, ◌∙◌, arith, Some, None}
use Rattle.std.specs.Prelude.{not}
use Rattle.std.specs.List.{filter, list_any, IsDistinct}
use Rattle.std.specs.Cmp.{eq_by_cmp_equiv}
use Rattle.std.specs.FinMap as map
use Rattle.std.proofs.lemmas.Bool.{or_parts, and_parts, false_from_ne_true, not-true}
use Rattle.std.proofs.lemmas.List.{length-take, length-drop, take-map}
use Rattle.std.proofs.lemmas.List.Folds.{list_any-append}
use Rattle.std.proofs.lemmas.Map.Made.{length-le_from_is_member, is_member-filter}
use Rattle.std.proofs.Math.Bool.{or-false}
use Rattle.ft_fields.specs.declared.key.Part.{Part}
use Rattle.ft_fields.specs.Orders.{key_cmp_total}
use Rattle.ft_fields.specs.Parts.{same_key}
use Rattle.ft_table.specs.Hits.{EntryHits, sums_of}
use Rattle.ft_table.specs.Rows.{counted_row}
use Rattle.ft_table.specs.Tabled.{Tabled, keys_in, order_of, is_in}
use Rattle.ft_table.proofs.Changes.{insert-beside, remove-beside}
use Rattle.ft_table.proofs.Distinct.{key_of, keys_distinct}
use Rattle.ft_hits.proofs.Flat.{same_is}
use Rattle.ft_changes.specs.Rivals.{is_of, hits_but, rivals, RivalsStay, FewRivals, RivalsAreOthers, RivalsDiffer, RivalsAlone, RowsStayBut, ButForOneHit, ButForBack, ButForMore, ButForAmong}
use Rattle.ft_changes.proofs.Fronts.{left, distinct-filter, distinct-drop, in_end, in_front, first_of_left}
use Rattle.ft_changes.proofs.Others.{keys_of, rivals-left, same-but, same-left, hits_of-same}

-- a test of keys tells no two alike keys apart
pub of_filter : (test : List Part → Bool) (ks : List (List Part)) (q : List Part) → is_of (filter test ks) q ≡ true → (is_of ks q ≡ true) × (test q ≡ true)
of_filter test ks q is = and_parts (is_of ks q) (test q) (sym (is_member-filter (eq_by_cmp_equiv key_cmp_total) test q (λ x tie. ap test (same_is q x tie)) ks) ∙ is)

-- few of distinct keys are among some
pub few_of : (keys ks : List (List Part)) → IsDistinct same_key ks → length (filter (is_of keys) ks) ≤ length keys
few_of keys ks apart =
    length-le_from_is_member (eq_by_cmp_equiv key_cmp_total) (filter (is_of keys) ks) keys (distinct-filter same_key (is_of keys) ks apart)
    (λ q is. let both = of_filter (is_of keys) ks q is in both.1)

-- ---- what rivals are

pub rivals_stay : RivalsStay
unfolding rivals
rivals_stay a b keys same = λ i. drop (same.size i - length keys) (list_map key_of (take (same.size i) (order_of (same-but a b keys same i))))

pub few_rivals : FewRivals
few_rivals table keys =
    let others : List (List Part) = left (is_of keys) (keys_of table.hits) in
    let taken = length-take table.size others in
    let dropped = length-drop (table.size - length keys) (take table.size others) in
    let same = ap length (rivals-left table keys) in
    omega (arith, taken, dropped, same)

pub rivals_are_others : RivalsAreOthers
rivals_are_others table keys q is =
    let others : List (List Part) = left (is_of keys) (keys_of table.hits) in
    let listed : is_of others q ≡ true =
    in_front (same_key q) table.size others (in_end (same_key q) (table.size - length keys) (take table.size others) (ap (λ ks. is_of ks q) (sym (rivals-left table keys)) ∙ is)) in
    let both = of_filter (λ k. not (is_of keys k)) (keys_of table.hits) q listed in
    not-true (is_of keys q) both.1

pub rivals_differ : RivalsDiffer
unfolding rivals
rivals_differ table keys =
    let without : Tabled = record table { hits = hits_but table.hits keys } in
    distinct-drop same_key (table.size - length keys) (keys_in without) (keys_distinct without)

-- ---- what they leave alone

-- a key that is none of some keys and none of their rivals is in the table if and only if it is among the first of the others
in_others : (table : Tabled) (keys : List (List Part)) (q : List Part) → is_of keys q ≡ false → is_of (rivals table keys) q ≡ false → is_in table q ≡ is_of (take table.size (left (is_of keys) (keys_of table.hits))) q
in_others table keys q apart none =
    ap (list_any (same_key q)) (sym (take-map key_of table.size (order_of table.hits)))
    ∙ first_of_left (is_of keys) (same_key q) (λ k tie. ap (is_of keys) (sym (same_is q k tie)) ∙ apart) (keys_of table.hits) table.size (length keys)
    (few_of keys (take table.size (keys_of table.hits)) (subst (IsDistinct same_key) (sym (take-map key_of table.size (order_of table.hits))) (keys_distinct table)))
    (ap (list_any (same_key q)) (sym (rivals-left table keys)) ∙ none)

pub rivals_alone : RivalsAlone
rivals_alone a b keys q same apart none =
    in_others b keys q apart (ap (λ ks. is_of ks q) (rivals_stay a b keys same) ∙ none)
    ∙ (λ i. is_of (take (same.size i) (same-left a b keys same i)) q)
    ∙ sym (in_others a keys q apart none)

pub rows_stay_but : RowsStayBut
rows_stay_but a b keys q same apart none =
    let row : counted_row b.hits q ≡ counted_row a.hits q = ap (λ (entry : EntryHits). record { key = q; hitcount = map.len entry; sums = sums_of entry }) (hits_of-same a b keys q same apart) in
    λ i. cond (rivals_alone a b keys q same apart none i) (Some (row i)) None

-- ---- changes at some keys

pub but_for_one_hit : ButForOneHit
but_for_one_hit table m v = (
  record { size = refl; hits = λ q apart. insert-beside table.hits m v q (sym (or-false _) ∙ apart) },
  record { size = refl; hits = λ q apart. remove-beside table.hits m q (sym (or-false _) ∙ apart) },
)

pub but_for_back : ButForBack
but_for_back a b keys same = record { size = sym same.size; hits = λ m apart. sym (same.hits m apart) }

pub but_for_more : ButForMore
but_for_more a b c some others first then = record {
  size = then.size ∙ first.size;
  hits = λ m apart.
      let both = or_parts (is_of some m.key) (is_of others m.key) (sym (list_any-append (same_key m.key) some others) ∙ apart) in
      then.hits m both.1 ∙ first.hits m both.0;
}

pub but_for_among : ButForAmong
but_for_among a b some keys among same = record {
  size = same.size;
  hits = λ m apart. same.hits m (false_from_ne_true (is_of some m.key) (λ is. let no : true ≡ false = sym (among m.key is) ∙ apart in cc));
}
