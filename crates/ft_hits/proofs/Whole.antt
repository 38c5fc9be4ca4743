-- All hits of one key in an index, and an index without hits.
use Rattle.std.proofs.Common.{◌≡◌, Bool, true, false, cond, List, refl, ap, ◌∙◌}
use Rattle.std.specs.List.{flat_map}
use Rattle.std.specs.FinMap as map
use Rattle.ft_fields.specs.declared.key.Part.{Part}
use Rattle.ft_fields.specs.Parts.{key_cmp, same_key}
use Rattle.ft_maps.specs.Entries.{entries-empty}
use Rattle.ft_hits.specs.ByKey.{HitsByKey, flat}
use Rattle.ft_hits.specs.Hits.{EntryHits, TakesHits}
use Rattle.ft_hits.proofs.Flat.{mark, same_itself, same_is, at_key}

apart : (k q : List Part) → (k ≡ q → ⊥) → (b : Bool) → same_key k q ≡ b → b ≡ false
apart k q ne true same = absurd (ne (same_is k q same))
apart k q ne false same = refl

pub flat-put : (by_key : HitsByKey) (key : List Part) (entry : EntryHits) → TakesHits key entry (flat by_key) (flat (map.insert by_key key entry))
flat-put by_key key entry = record {
  here = λ spot. at_key by_key (mark spot key) (mark spot key) entry ∙ ap (λ b. cond b (map.get entry spot) (map.get (flat by_key) (mark spot key))) (same_itself key);
  others = λ m ne. at_key by_key (mark m.spot key) m entry ∙ ap (λ b. cond b (map.get entry m.spot) (map.get (flat by_key) m)) (apart m.key key ne (same_key m.key key) refl);
}

pub flat-empty : flat map.empty ≡ map.empty
unfolding flat
flat-empty = ap (λ (es : List (List Part × EntryHits)). map.from_entries (flat_map (λ entry. Rattle.std.proofs.Common.map (λ e. (mark e.0 entry.0, e.1)) (map.entries entry.1)) es)) (entries-empty {X = EntryHits} key_cmp)
