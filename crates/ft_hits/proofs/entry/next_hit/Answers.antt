-- What the tree answers at a key is what the finite map has there.
use Rattle.std.proofs.Common.{◌≡◌, List, sym, ap, ◌∙◌, Some, None, Option, unwrap_or, rules}
use Rattle.std.specs.Option.{option_copied}
use Rattle.std.specs.Prelude.{ℤ, option_map}
use Rattle.std.specs.FinMap as map
use Rattle.ft_hits.specs.declared.spot.Spot.{Spot}
use Rattle.ft_fields.specs.declared.key.Part.{Part}
use Rattle.ft_fields.specs.Parts.{key_cmp}
use Rattle.ft_hits.specs.declared.hit.Hit.{Hit}
use Rattle.ft_hits.specs.Spots.{spot_cmp}
use Rattle.ft_hits.specs.Hits.{EntryHits, first_entry, hits_after, is_after}
use Rattle.ft_maps.specs.Seen.{seen, get-seen}
use Rattle.std.specs.List.{filter}
use Rattle.ft_fields.specs.Orders.{key_cmp_total}
use Rattle.ft_maps.specs.Entries.{entries-empty}
use Rattle.ft_hits.proofs.Flat.{hits_of-flat}
use Rattle.ft_hits.proofs.entry.next_hit.Goals as goal

abbrev hit_at : List Part → Option (Spot × List ℤ) → Option Hit
hit_at key o = option_map (λ e. record { spot = e.0; key = key; values = e.1 }) o

pub returns-in_err-entry : goal.returns-in_err-entry
returns-in_err-entry c =
    let key = c.args.key.now in
    let at : map.get (seen key_cmp c.args.by_key.now) key ≡ None = get-seen key_cmp_total c.args.by_key.now key ∙ sym c.get.ensures.value ∙ ap option_copied c.in_err-entry.was in
    let none : c.from_residual.result ≡ None = search rules in
    none ∙ sym (ap (λ (l : EntryHits). hit_at key (first_entry (hits_after c.args.after l))) (hits_of-flat (seen key_cmp c.args.by_key.now) key ∙ ap (λ o. unwrap_or o map.empty) at)
    ∙ ap (λ (es : List (Spot × List ℤ)). hit_at key (first_entry (filter (λ e. is_after c.args.after e.0) es))) (entries-empty {X = List ℤ} spot_cmp))

pub returns-in_err-spot : goal.returns-in_err-spot
returns-in_err-spot c =
    let key = c.args.key.now in
    let at : map.get (seen key_cmp c.args.by_key.now) key ≡ Some c.in_ok-entry.entry.now = get-seen key_cmp_total c.args.by_key.now key ∙ sym c.in_ok-entry.ensures.value in
    let none : c.from_residual-in_err-spot.result ≡ None = search rules in
    none ∙ sym (ap (λ (l : EntryHits). hit_at key (first_entry (hits_after c.args.after l))) (hits_of-flat (seen key_cmp c.args.by_key.now) key ∙ ap (λ o. unwrap_or o map.empty) at)
    ∙ ap (hit_at key) (sym c.after.ensures ∙ c.in_err-spot.was))

pub returns : goal.returns
returns c =
    let key = c.args.key.now in
    let at : map.get (seen key_cmp c.args.by_key.now) key ≡ Some c.in_ok-entry.entry.now = get-seen key_cmp_total c.args.by_key.now key ∙ sym c.in_ok-entry.ensures.value in
    sym (ap (λ (l : EntryHits). hit_at key (first_entry (hits_after c.args.after l))) (hits_of-flat (seen key_cmp c.args.by_key.now) key ∙ ap (λ o. unwrap_or o map.empty) at)
    ∙ ap (hit_at key) (sym c.after.ensures ∙ c.in_ok-spot.was))
