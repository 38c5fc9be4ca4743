-- What a part adds to a draft.
use Rattle.std.proofs.Common.{◌≡◌, ℕ, true, false, List, length, Option, Some, None, refl, sym, subst}
use Rattle.std.proofs.lemmas.Option.{none-some}
use Rattle.std.specs.Prelude.{if◌then◌else◌, drop, codes, option_map, ◌==◌}
use Rattle.std.specs.List.{find, starts_with}
use Rattle.std.specs.Str.{bytes_eq}
use Rattle.ft_fields.specs.declared.event.Name.{Name}
use Rattle.ft_head.specs.declared.draft.Kind.{Kind}
use Rattle.ft_text.specs.Items.{Piece, is_name}
use Rattle.ft_head.specs.Draft.{Draft, variable_stamp, Since, with_part, with_other, is_part_left_out, labels}

-- what a map makes of nothing is nothing, and of nothing else
none_of_map : {A B : Type 0} (f : A → B) (o : Option A) → option_map f o ≡ None → o ≡ None
none_of_map f None none = refl
none_of_map f (Some x) none = absurd (none-some (f x) (sym none))

-- a part of no kind says what events are made of, is a variable's, or is no part that there is
pub part_other : (event : Name) (draft : Draft) (part : Piece) (bytes : List ℕ) → bytes ≡ part.bytes → is_part_left_out bytes ≡ false → option_map {U = ℕ × Kind} (λ label. (length label.0, label.1)) (find (λ label. starts_with ◌==◌ bytes label.0) labels) ≡ None → with_part event draft part ≡ with_other event draft part
unfolding with_part
part_other event draft part bytes is kept none =
    let none_here : find (λ label. starts_with ◌==◌ part.bytes label.0) labels ≡ None = subst (λ text. find (λ label. starts_with ◌==◌ text label.0) labels ≡ None) is (none_of_map _ _ none) in
    let kept_here : is_part_left_out part.bytes ≡ false = subst (λ text. is_part_left_out text ≡ false) is kept in
    rw kept_here (rw none_here refl)

-- a value that begins as one that reads does is one if a name stands after that
pub stamp_since : (value rest : List ℕ) → rest ≡ drop 24 value → bytes_eq value (codes "common_timestamp.usecs") ≡ false → starts_with ◌==◌ value (codes "common_timestamp.usecs-$") ≡ true → variable_stamp value ≡ (if is_name rest then Some (Since rest) else None)
unfolding variable_stamp
stamp_since value rest is saved since =
    (let back = sym is in rw saved (rw since (rw back refl)))
