-- A class has one cut.
use Rattle.std.proofs.Common.{◌≡◌, ◌≢◌, ◌<◌, ◌↔◌, ℕ, Bool, true, false, subst, List, [], ◌∷◌, ◌++◌, length, get_or, refl, sym, ap, ◌∙◌, arith, eqb, take, drop, ◌-◌, IsTrue}
use Rattle.std.specs.List.{Contains, starts_with}
use Rattle.std.proofs.Math.Bool.{not, beq}
use Rattle.std.proofs.lemmas.List.{take_rest}
use Rattle.std.proofs.lemmas.Bool.{eqb-true, and_parts}
use Rattle.std.proofs.lemmas.List.Elements.{Contains-append_right}
use Rattle.ft_text.specs.Glob.{Member, MembersAre, SomeHas, IsBracketed, ClassIs, ClassHas, Item, ItemsAre}

-- two texts before their first `]`
pub same_close : (inside rest inside' rest' : List ℕ) → inside ++ 93 ∷ rest ≡ inside' ++ 93 ∷ rest' → (Contains inside 93 → ⊥) → (Contains inside' 93 → ⊥) → (inside ≡ inside') × (rest ≡ rest')
same_close [] rest [] rest' e free free' = (refl, cc)
same_close [] rest (b ∷ inside') rest' e free free' =
    let here : b ≡ 93 = cc in absurd (free' (0, omega arith, here))
same_close (b ∷ inside) rest [] rest' e free free' =
    let here : b ≡ 93 = cc in absurd (free (0, omega arith, here))
same_close (b ∷ inside) rest (b' ∷ inside') rest' e free free' =
    let both = same_close inside rest inside' rest' (cc) (λ h. free (Contains-append_right (b ∷ []) inside 93 h)) (λ h. free' (Contains-append_right (b' ∷ []) inside' 93 h)) in
    let heads : b ≡ b' = cc in
    (ap (λ (x : ℕ). x ∷ inside) heads ∙ ap (λ (t : List ℕ). b' ∷ t) both.0, both.1)

-- a class that is not negated does not begin with `!`
unmarked_first : (inside rest behind : List ℕ) → (get_or inside 0 0 ≢ 33) → inside ++ 93 ∷ rest ≡ 33 ∷ behind → ⊥
unmarked_first [] rest behind none e = let l = ap (λ (t : List ℕ). get_or t 0 0) e in omega arith
unmarked_first (b ∷ inside) rest behind none e = none cc

pub record SameCut (negated negated' : Bool) (inside inside' rest rest' : List ℕ) : Type 0 where
  pub negated_is : negated ≡ negated'
  pub inside_is : inside ≡ inside'
  pub rest_is : rest ≡ rest'

pub same_cut : (text : List ℕ) (negated negated' : Bool) (inside inside' rest rest' : List ℕ) → IsBracketed text negated inside rest → IsBracketed text negated' inside' rest' → SameCut negated negated' inside inside' rest rest'
same_cut text true true inside inside' rest rest' g h =
    let e : 33 ∷ (inside ++ 93 ∷ rest) ≡ 33 ∷ (inside' ++ 93 ∷ rest') = sym g.joined ∙ h.joined in
    let both = same_close inside rest inside' rest' (cc) g.closed h.closed in
    record { negated_is = refl; inside_is = both.0; rest_is = both.1 }
same_cut text false false inside inside' rest rest' g h =
    let both = same_close inside rest inside' rest' (sym g.joined ∙ h.joined) g.closed h.closed in
    record { negated_is = refl; inside_is = both.0; rest_is = both.1 }
same_cut text true false inside inside' rest rest' g h = absurd (unmarked_first inside' rest' _ (h.unmarked refl) (sym h.joined ∙ g.joined))
same_cut text false true inside inside' rest rest' g h = absurd (unmarked_first inside rest _ (g.unmarked refl) (sym g.joined ∙ h.joined))

-- what a class says of a byte, by what its members say
pub class_has : (negated has : Bool) (members : List Member) (byte : ℕ) → (IsTrue has ↔ SomeHas members byte) → not (beq has negated) ≡ true → ClassHas negated members byte
class_has false true members byte h ne = h.0 refl
class_has false false members byte h ne = absurd cc
class_has true true members byte h ne = absurd cc
class_has true false members byte h ne = λ some. let f : false ≡ true = h.1 some in absurd cc

pub class_has_not : (negated has : Bool) (members : List Member) (byte : ℕ) → (IsTrue has ↔ SomeHas members byte) → not (beq has negated) ≡ false → ClassHas negated members byte → ⊥
class_has_not false true members byte h e = absurd cc
class_has_not false false members byte h e = λ some. let f : false ≡ true = h.1 some in absurd cc
class_has_not true true members byte h e = λ none. none (h.0 refl)
class_has_not true false members byte h e = absurd cc

-- after a `[` a class stands first
pub record ClassFirst (text : List ℕ) (items : List Item) : Type 0 where
  pub negated : Bool
  pub members : List Member
  pub rest : List ℕ
  pub behind : List Item
  pub first : items ≡ Item.Class negated members ∷ behind
  pub class : ClassIs text negated members rest
  pub read : ItemsAre rest behind

pub class_first : (text whole : List ℕ) (items : List Item) → whole ≡ 91 ∷ text → ItemsAre whole items → ClassFirst text items
class_first text whole [] w h = absurd cc
class_first text whole (Item.Any ∷ items) w h = let l = ap (λ (t : List ℕ). get_or t 0 0) (sym w ∙ h.1) in absurd (omega arith)
class_first text whole (Item.One ∷ items) w h = let l = ap (λ (t : List ℕ). get_or t 0 0) (sym w ∙ h.1) in absurd (omega arith)
class_first text whole (Item.Byte own ∷ items) w h = let l : 91 ≡ own = ap (λ (t : List ℕ). get_or t 0 0) (sym w ∙ h.1.0) in absurd (h.1.1.2 (sym l))
class_first text whole (Item.Class negated members ∷ items) w h =
    let l : 91 ∷ text ≡ 91 ∷ h.1.0 = sym w ∙ h.1.1 in
    let behind : h.1.0 ≡ text = cc in
    record {
      negated = negated;
      members = members;
      rest = h.0;
      behind = items;
      first = refl;
      class = subst (λ (t : List ℕ). ClassIs t negated members h.0) behind h.1.2;
      read = h.2;
    }

-- ---- as the code finds them

has_close : (inside rest : List ℕ) → Contains (inside ++ 93 ∷ rest) 93
has_close inside rest = Contains-append_right inside (93 ∷ rest) 93 (0, omega arith, refl)

-- a class is closed
pub none_closed : (text inside rest : List ℕ) (negated : Bool) → (Contains text 93 → ⊥) → IsBracketed text negated inside rest → ⊥
none_closed text inside rest true none cut = none (subst (λ (t : List ℕ). Contains t 93) (sym cut.joined) (has_close (33 ∷ inside) rest))
none_closed text inside rest false none cut = none (subst (λ (t : List ℕ). Contains t 93) (sym cut.joined) (has_close inside rest))

-- so it is after a `!`
pub none_closed_marked : (text inside rest : List ℕ) (negated : Bool) → starts_with eqb text (33 ∷ []) ≡ true → (Contains (take (length text - 1) (drop 1 text)) 93 → ⊥) → IsBracketed text negated inside rest → ⊥
none_closed_marked [] inside rest negated marked none cut = absurd cc
none_closed_marked (b ∷ text) inside rest true marked none cut =
    let joined : text ≡ inside ++ 93 ∷ rest = cc cut.joined in
    none (rw (take_rest (b ∷ text) 1) (subst (λ (t : List ℕ). Contains t 93) (sym joined) (has_close inside rest)))
none_closed_marked (b ∷ text) inside rest false marked none cut =
    let bang : 33 ≡ b = eqb-true 33 b (and_parts (eqb 33 b) true marked).0 in
    unmarked_first inside rest text (cut.unmarked refl) (sym cut.joined ∙ ap (λ (x : ℕ). x ∷ text) (sym bang))

-- the class that stands first, at the cut that was found
pub record ClassFound (items : List Item) (negated : Bool) (inside rest : List ℕ) : Type 0 where
  pub members : List Member
  pub behind : List Item
  pub first : items ≡ Item.Class negated members ∷ behind
  pub some : 0 < length inside
  pub inside_is : MembersAre inside members
  pub read : ItemsAre rest behind

pub class_found : (text : List ℕ) (items : List Item) (negated : Bool) (inside rest : List ℕ) → IsBracketed text negated inside rest → ItemsAre (91 ∷ text) items → ClassFound items negated inside rest
class_found text items negated inside rest cut h =
    let f = class_first text (91 ∷ text) items refl h in
    let same = same_cut text f.negated negated f.class.inside inside f.rest rest f.class.cut cut in
    record {
      members = f.members;
      behind = f.behind;
      first = f.first ∙ ap (λ (n : Bool). Item.Class n f.members ∷ f.behind) same.negated_is;
      some = subst (λ (t : List ℕ). 0 < length t) same.inside_is f.class.some;
      inside_is = subst (λ (t : List ℕ). MembersAre t f.members) same.inside_is f.class.read;
      read = subst (λ (t : List ℕ). ItemsAre t f.behind) same.rest_is f.read;
    }
