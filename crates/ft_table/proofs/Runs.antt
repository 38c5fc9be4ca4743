-- All hits of a key at once, among those of all keys.
use Rattle.std.proofs.Common.{◌≡◌, ℕ, true, false, List, refl, sym, ap, ◌∙◌, None}
use Rattle.std.specs.FinMap as map
use Rattle.std.specs.FinMap.{get-empty, get-entries, same_map}
use Rattle.ft_fields.specs.declared.key.Part.{Part}
use Rattle.ft_fields.specs.Parts.{same_key}
use Rattle.ft_hits.specs.declared.mark.Mark.{Mark}
use Rattle.ft_hits.specs.Spots.{spot_cmp, spot_cmp_total, spot_same}
use Rattle.ft_hits.specs.Hits.{Hits, EntryHits, TakesHits, hits_of, hitcount, least_key, first_place}
use Rattle.ft_table.specs.Tabled.{order_of}
use Rattle.ft_table.specs.Runs.{HasNone}
use Rattle.ft_table.specs.inner.Moves.{order_without}
use Rattle.ft_table.specs.inner.Cut.{IsSplit}
use Rattle.ft_hits.proofs.Flat.{same_itself, get-hits_of}
use Rattle.ft_table.proofs.Firsts.{SameBeside, no_entries, hits_of-beside, others-beside, order-none}
use Rattle.ft_table.proofs.Counts.{split-without}
use Rattle.ft_hits.proofs.Only.{first-empty}

pub takes-none : (key : List Part) (entry : EntryHits) (hits : Hits) → HasNone key hits → least_key (map.entries entry) ≡ None → TakesHits key entry hits hits
takes-none key entry hits none is = record {
  here = λ spot. none spot ∙ sym (get-entries entry spot ∙ no_entries spot (map.entries entry) is);
  others = λ m ne. refl;
}

no_hits : (hits : Hits) (key : List Part) → HasNone key hits → first_place hits key ≡ None
no_hits hits key none =
    let empty : hits_of hits key ≡ map.empty = same_map spot_cmp_total spot_same _ _ (λ spot. get-hits_of hits spot key ∙ none spot ∙ sym (get-empty spot_cmp spot)) in
    ap (λ (h : EntryHits). least_key (map.entries h)) empty ∙ first-empty

unlike : (key q : List Part) → same_key q key ≡ false → q ≡ key → ⊥
unlike key q differ is = let same : same_key q key ≡ true = ap (λ k. same_key k key) is ∙ same_itself key in cc

module _ (key : List Part) (entry : EntryHits) (hits after : Hits) (takes : TakesHits key entry hits after) where
  here : hits_of after key ≡ entry
  here = same_map spot_cmp_total spot_same _ _ (λ spot. get-hits_of after spot key ∙ takes.here spot)

  beside : SameBeside hits after key
  beside q differ = takes.others q (unlike key q.key differ)

  pub count-key : hitcount after key ≡ map.len entry
  count-key = ap map.len here

  pub first-key : first_place after key ≡ least_key (map.entries entry)
  first-key = ap (λ (h : EntryHits). least_key (map.entries h)) here

  still : order_without hits key ≡ order_without after key
  still = sym (ap map.keys (others-beside hits after key beside))

  -- the order of a key without hits is that of the others
  pub order-key : HasNone key hits → order_of hits ≡ order_without after key
  order-key none = order-none hits key (no_hits hits key none) ∙ still

  -- and so are the counts
  pub split-key : {order : List Mark} {size h d : ℕ} → order ≡ order_of hits → HasNone key hits → IsSplit (hitcount hits) size order h d → IsSplit (hitcount after) size order h d
  split-key is none =
      split-without hits (hitcount hits) (hitcount after) key (is ∙ order-none hits key (no_hits hits key none)) (λ q differ. ap map.len (hits_of-beside hits after key q beside differ))
