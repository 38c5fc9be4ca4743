-- Small laws of truth values, options and lists, which the standard library doesn't have.
use Rattle.std.proofs.Common.{◌≡◌, Bool, true, false, cond, List, [], ◌∷◌, Option, Some, None, refl}
use Rattle.std.specs.Prelude.{◌&&◌, is_some, option_and_then}
use Rattle.std.specs.List.{filter, AllByRecursion}
use Rattle.std.specs.Ordering.{is_eq, is_lt}
use Rattle.std.specs.declared.cmp.Ordering.{Ordering}
use Rattle.std.specs.declared.cmp.Ordering.TheVariants.{Less, Equal, Greater}
use Rattle.std.proofs.lemmas.Bool.{false≢true}

-- ---- truth values

pub and_true : (b : Bool) → (b && true) ≡ b
and_true true = refl
and_true false = refl

pub and_false : (b : Bool) → (b && false) ≡ false
and_false true = refl
and_false false = refl

-- either way it is the same
pub cond_same : {X : Type 0} (b : Bool) (x : X) → cond b x x ≡ x
cond_same true x = refl
cond_same false x = refl

-- ---- orders

pub is_less : (o : Ordering) → is_lt o ≡ true → o ≡ Less
is_less Less h = refl
is_less Equal h = absurd (false≢true h)
is_less Greater h = absurd (false≢true h)

-- what ties isn't below
pub not_below : (o : Ordering) → is_eq o ≡ true → is_lt o ≡ false
not_below Less h = absurd (false≢true h)
not_below Equal h = refl
not_below Greater h = absurd (false≢true h)

-- ---- options

-- nothing comes of nothing
pub none_then : {X Y : Type 0} (f : X → Option Y) (o : Option X) → is_some o ≡ false → option_and_then f o ≡ None
none_then f None none = refl
none_then f (Some x) none = absurd cc

-- ---- lists

-- if all have a property, all have what follows from it
pub all_map : {X : Type 0} (P Q : X → Type 0) → ((x : X) → P x → Q x) → (xs : List X) → AllByRecursion P xs → AllByRecursion Q xs
all_map P Q f [] p = tt
all_map P Q f (x ∷ xs) p = (f x p.0, all_map P Q f xs p.1)

-- those that pass a test have what all have
pub all_filter : {X : Type 0} (P : X → Type 0) (test : X → Bool) (xs : List X) → AllByRecursion P xs → AllByRecursion P (filter test xs)
all_filter P test [] all = tt
all_filter P test (x ∷ xs) all = elim (test x) as (λ b. AllByRecursion P (cond b (x ∷ filter test xs) (filter test xs))) [
  | true ↦ (all.0, all_filter P test xs all.1)
  | false ↦ all_filter P test xs all.1
]
