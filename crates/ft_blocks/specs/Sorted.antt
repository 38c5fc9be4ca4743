-- Entries in the order of their keys: which a key has, which stand beside it, and where it stands.
use Rattle.std.specs.Prelude.{◌≡◌, ◌≢◌, ℕ, ◌≤◌, List, [], ◌∷◌, length, take, drop, Option, Some, None}
use Rattle.std.specs.Prelude.{Bool, false, not, if◌then◌else◌}
use Rattle.std.specs.List.{filter}
use Rattle.std.specs.Ordering.{eq_by_cmp, is_lt}
use Rattle.std.specs.declared.cmp.Ordering.{Ordering}
use Rattle.std.specs.declared.cmp.Ordering.TheVariants.{Less}

-- the later one of two, if there are two
abbrev pub later : {A : Type 0} → A → Option A → A
later e None = e
later e (Some f) = f

-- the last of a list
abbrev pub last_entry : {A : Type 0} → List A → Option A
last_entry [] = None
last_entry (x ∷ xs) = Some (later x (last_entry xs))

-- the first of two, if it is there, else the second
abbrev pub later_of : {A : Type 0} → Option A → Option A → Option A
later_of (Some f) o = Some f
later_of None o = o

-- the first of a list
abbrev pub first_entry : {A : Type 0} → List A → Option A
first_entry [] = None
first_entry (x ∷ xs) = Some x

module _ {K X : Type 0} (R : K → K → Ordering) where
  -- the keys of all are above a key
  abbrev pub AllAbove : K → List (K × X) → Type 0
  AllAbove k [] = Unit {0}
  AllAbove k (e ∷ es) = (R k e.0 ≡ Less) × AllAbove k es

  -- the keys of all are below a key
  abbrev pub AllBelow : K → List (K × X) → Type 0
  AllBelow k [] = Unit {0}
  AllBelow k (e ∷ es) = (R e.0 k ≡ Less) × AllBelow k es

  -- the keys strictly rise
  abbrev pub Ascend : List (K × X) → Type 0
  Ascend [] = Unit {0}
  Ascend (e ∷ es) = AllAbove e.0 es × Ascend es

  -- the first, if there is one, isn't below a key
  abbrev pub StartsAt : K → List (K × X) → Type 0
  StartsAt k [] = Unit {0}
  StartsAt k (e ∷ es) = R e.0 k ≢ Less

  -- there is one that isn't below a key
  abbrev pub Reaches : K → List (K × X) → Type 0
  Reaches k [] = ⊥
  Reaches k (e ∷ es) = R e.0 k ≡ Less → Reaches k es

  -- whether the first has a key
  abbrev pub ties_first : K → List (K × X) → Bool
  ties_first k [] = false
  ties_first k (e ∷ es) = eq_by_cmp R k e.0

  -- before a place all are below a key, and the one that stands there isn't
  pub record IsCut (es : List (K × X)) (k : K) (i : ℕ) : Type 0 where
    pub within : i ≤ length es
    pub below : AllBelow k (take i es)
    pub others : StartsAt k (drop i es)

  -- all but what a key has
  abbrev pub without : K → List (K × X) → List (K × X)
  without k = filter (λ e. not (eq_by_cmp R k e.0))

  -- the last entry below a key
  abbrev pub last_below : K → List (K × X) → Option (K × X)
  last_below k [] = None
  last_below k (e ∷ es) = if is_lt (R e.0 k) then Some (later e (last_below k es)) else last_below k es

  -- the first entry above a key
  abbrev pub first_above : K → List (K × X) → Option (K × X)
  first_above k [] = None
  first_above k (e ∷ es) = if is_lt (R k e.0) then Some e else first_above k es

  -- the entries whose keys aren't below a key
  abbrev pub from_key : K → List (K × X) → List (K × X)
  from_key k = filter (λ e. not (is_lt (R e.0 k)))
