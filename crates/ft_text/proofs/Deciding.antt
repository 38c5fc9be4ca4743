-- What `is_glob` and `matches` work out is what `IsGlob` and `Matches` say.
use Rattle.std.proofs.Common.{◌≡◌, ◌≢◌, ◌<◌, ◌≤◌, ◌↔◌, ◌⊎◌, ℕ, zero, suc, inl, inr, subst, Bool, true, false, cond, List, [], ◌∷◌, ◌++◌, length, get_or, refl, sym, ap, ◌∙◌, arith, eqb, leb, Option, Some, None, length-append}
use Rattle.std.specs.Prelude.{Contains, option_map}
use Rattle.std.specs.Bool.{Decides, IsTrue}
use Rattle.std.specs.Option.{option_and_then, is_some, option_map_or}
use Rattle.std.specs.List.{list_any}
use Rattle.std.proofs.lemmas.Option.{option_and_then_some, same_Some, cond_some, none-some}
use Rattle.std.proofs.lemmas.Bool.{cases_eq, cases_Bool, eqb-true, ne_eqb, eq-eqb, leb-true, le-leb, cond-true, cond-false, false_from_ne_true, or_cases, or_left, or_right}
use Rattle.std.proofs.lemmas.Bool.Decides.{Decides-eqb, Decides-like, Decides-and, Decides-or, Decides-not, same_from_decides}
use Rattle.std.proofs.lemmas.List.Elements.{Contains-append_right}
use Rattle.ft_text.specs.Glob.{Member, MemberIs, MembersAre, DashFollows, Item, ItemIs, ItemsAre, IsBracketed, ClassIs, Has, SomeHas, ClassHas, OneThen, SomeEnd, Glob, GlobIs, IsGlob}
use Rattle.ft_text.specs.inner.Walk.{ReadsAsItems}
use Rattle.ft_text.proofs.SameReading.{same_items}
use Rattle.ft_text.proofs.Stars.{end_cases, end_here, end_later, end_of_none}
use Rattle.ft_text.specs.Matching.{all_at, goes_on, range_at, member_at, members_of, close_at, class_with, closed_at, class_at, item_at, glob_items, is_glob, has, class_has, one_then, some_end, fits, matches, Matches}

-- ---- reading

option_map_some : {A B P : Type 0} (f : A → B) (o : Option A) (y : B) → option_map f o ≡ Some y → ((x : A) → o ≡ Some x → f x ≡ y → P) → P
option_map_some f None y e k = absurd cc
option_map_some f (Some x) y e k = k x refl cc

-- a reader of one thing, and what it reads
record IsReader {A : Type 0} (one : List ℕ → Option (A × List ℕ)) (Is : List ℕ → A → List ℕ → Type 0) (Are : List ℕ → List A → Type 0) : Type 0 where
  is : (text : List ℕ) (thing : A) (rest : List ℕ) → Is text thing rest ↔ (one text ≡ Some (thing, rest))
  shorter : (text : List ℕ) (thing : A) (rest : List ℕ) → Is text thing rest → length rest < length text
  none : (text : List ℕ) → Are text [] ↔ (text ≡ [])
  more : (text : List ℕ) (thing : A) (things : List A) → Are text (thing ∷ things) ↔ ((rest : List ℕ) × Is text thing rest × Are rest things)

some_more : {A : Type 0} (one : List ℕ → Option (A × List ℕ)) (n byte : ℕ) (text : List ℕ) → all_at one (suc n) (byte ∷ text) ≡ Some [] → ⊥
some_more one n byte text e =
    option_and_then_some _ (one (byte ∷ text)) _ e (λ found is then. option_map_some _ (all_at one n found.1) _ then (λ others are same. absurd cc))

all_at-are : {A : Type 0} (one : List ℕ → Option (A × List ℕ)) (Is : List ℕ → A → List ℕ → Type 0) (Are : List ℕ → List A → Type 0) → IsReader one Is Are → (n : ℕ) (text : List ℕ) (things : List A) → length text ≤ n → Are text things ↔ (all_at one n text ≡ Some things)
all_at-are one Is Are reader zero [] [] le = (λ h. refl, λ e. (reader.none []).1 refl)
all_at-are one Is Are reader (suc n) [] [] le = (λ h. refl, λ e. (reader.none []).1 refl)
all_at-are one Is Are reader zero [] (thing ∷ things) le =
    (λ h. let m = (reader.more [] thing things).0 h in let lt = reader.shorter [] thing m.0 m.1 in absurd (omega arith), λ e. absurd cc)
all_at-are one Is Are reader (suc n) [] (thing ∷ things) le =
    (λ h. let m = (reader.more [] thing things).0 h in let lt = reader.shorter [] thing m.0 m.1 in absurd (omega arith), λ e. absurd cc)
all_at-are one Is Are reader zero (byte ∷ text) things le = absurd (omega arith)
all_at-are one Is Are reader (suc n) (byte ∷ text) [] le =
    (λ h. let e = (reader.none (byte ∷ text)).0 h in absurd cc, λ e. absurd (some_more one n byte text e))
all_at-are one Is Are reader (suc n) (byte ∷ text) (thing ∷ things) le = (
  λ h.
      let m = (reader.more (byte ∷ text) thing things).0 h in
      let lt = reader.shorter (byte ∷ text) thing m.0 m.1 in
      let here = (reader.is (byte ∷ text) thing m.0).0 m.1 in
      let there = (all_at-are one Is Are reader n m.0 things (omega arith)).0 m.2 in
      ap (λ o. option_and_then (λ found. option_map (λ others. found.0 ∷ others) (all_at one n found.1)) o) here ∙ ap (λ o. option_map (λ others. thing ∷ others) o) there,
  λ e. option_and_then_some _ (one (byte ∷ text)) _ e (λ found is then. option_map_some _ (all_at one n found.1) _ then (λ others are same.
      let head : found.0 ≡ thing = cc in
      let tail : others ≡ things = cc in
      let here = (reader.is (byte ∷ text) thing found.1).1 (is ∙ ap (λ a. Some (a, found.1)) head) in
      let lt = reader.shorter (byte ∷ text) thing found.1 here in
      let there = (all_at-are one Is Are reader n found.1 things (omega arith)).1 (are ∙ ap (λ t. Some t) tail) in
      (reader.more (byte ∷ text) thing things).1 (found.1, here, there))),
)

-- ---- members

Decides-leb : (a b : ℕ) → Decides (leb a b) (a ≤ b)
Decides-leb a b = (leb-true a b, le-leb a b)

goes_on-Decides : (rest : List ℕ) → Decides (goes_on rest) (DashFollows rest)
goes_on-Decides [] = (λ e. absurd cc, λ h. absurd h)
goes_on-Decides (dash ∷ []) = (λ e. absurd cc, λ h. absurd h)
goes_on-Decides (dash ∷ high ∷ rest) = Decides-eqb dash 45

member_to : (text : List ℕ) (member : Member) (rest : List ℕ) → MemberIs text member rest → member_at text ≡ Some (member, rest)
member_to text (Member.Range low high) rest h = ap member_at h.0 ∙ cond-true (leb low high) _ _ (le-leb low high h.1)
member_to text (Member.Single byte) rest h = ap member_at h.0 ∙ cond-false (goes_on rest) _ _ (false_from_ne_true (goes_on rest) (λ e. h.1 ((goes_on-Decides rest).0 e)))

range_from : (text : List ℕ) (low high : ℕ) (rest : List ℕ) → text ≡ low ∷ 45 ∷ high ∷ rest → (found : Member × List ℕ) → range_at low (45 ∷ high ∷ rest) ≡ Some found → MemberIs text found.0 found.1
range_from text low high rest e found is =
    let p = cond_some (leb low high) (Member.Range low high, rest) found is in
    subst (λ (f : Member × List ℕ). MemberIs text f.0 f.1) p.1 (e, leb-true low high p.0)

member_from : (text : List ℕ) (member : Member) (rest : List ℕ) → member_at text ≡ Some (member, rest) → MemberIs text member rest
member_from [] member rest e = absurd cc
member_from (low ∷ []) member rest e = subst (λ (f : Member × List ℕ). MemberIs (low ∷ []) f.0 f.1) (same_Some _ _ e) (refl, λ h. h)
member_from (low ∷ dash ∷ []) member rest e = subst (λ (f : Member × List ℕ). MemberIs (low ∷ dash ∷ []) f.0 f.1) (same_Some _ _ e) (refl, λ h. h)
member_from (low ∷ dash ∷ high ∷ behind) member rest e = elim (cases_eq dash 45) [
  | inl same ↦ range_from (low ∷ dash ∷ high ∷ behind) low high behind (ap (λ (x : ℕ). low ∷ x ∷ high ∷ behind) same) (member, rest) (sym (cond-true (eqb dash 45) _ _ (eq-eqb dash 45 same)) ∙ e)
  | inr other ↦ subst (λ (f : Member × List ℕ). MemberIs (low ∷ dash ∷ high ∷ behind) f.0 f.1) (same_Some _ _ (sym (cond-false (eqb dash 45) _ _ (ne_eqb dash 45 other)) ∙ e)) (refl, other)
]

member_shorter : (text : List ℕ) (member : Member) (rest : List ℕ) → MemberIs text member rest → length rest < length text
member_shorter text (Member.Range low high) rest h = let l = ap length h.0 in omega arith
member_shorter text (Member.Single byte) rest h = let l = ap length h.0 in omega arith

members_reader : IsReader member_at MemberIs MembersAre
members_reader = record {
  is = λ text member rest. (member_to text member rest, member_from text member rest);
  shorter = member_shorter;
  none = λ text. (λ h. h, λ h. h);
  more = λ text member members. (λ h. h, λ h. h);
}

members_of-are : (inside : List ℕ) (members : List Member) → MembersAre inside members ↔ (members_of inside ≡ Some members)
members_of-are inside members = all_at-are member_at MemberIs MembersAre members_reader (length inside) inside members (omega arith)

-- ---- classes

contains_more : (byte own : ℕ) (text : List ℕ) → Contains (byte ∷ text) own → (byte ≡ own) ⊎ Contains text own
contains_more byte own text h = go h.0 h.1 h.2
  where
    go : (k : ℕ) → k < length (byte ∷ text) → get_or (byte ∷ text) k own ≡ own → (byte ≡ own) ⊎ Contains text own
    go zero lt e = inl e
    go (suc k) lt e = inr (k, omega arith, e)

close_to : (inside rest : List ℕ) → (Contains inside 93 → ⊥) → close_at (inside ++ 93 ∷ rest) ≡ Some (inside, rest)
close_to [] rest free = refl
close_to (byte ∷ inside) rest free =
    let other : byte ≢ 93 = λ e. free (0, omega arith, e) in
    let there = close_to inside rest (λ h. free (Contains-append_right (byte ∷ []) inside 93 h)) in
    cond-false (eqb byte 93) _ _ (ne_eqb byte 93 other) ∙ ap (λ o. option_map (λ cut. (byte ∷ cut.0, cut.1)) o) there

-- a text that is cut before its first `]`
abbrev Cut : List ℕ → List ℕ × List ℕ → Type 0
Cut text cut = (text ≡ cut.0 ++ 93 ∷ cut.1) × (Contains cut.0 93 → ⊥)

close_from : (text : List ℕ) (cut : List ℕ × List ℕ) → close_at text ≡ Some cut → Cut text cut
close_from [] cut e = absurd cc
close_from (byte ∷ text) cut e = elim (cases_eq byte 93) [
  | inl same ↦
      let here : Cut (byte ∷ text) ([], text) = (ap (λ (x : ℕ). x ∷ text) same, λ h. absurd (omega (arith, h.1))) in
      subst (λ (c : List ℕ × List ℕ). Cut (byte ∷ text) c) (same_Some _ _ (sym (cond-true (eqb byte 93) _ _ (eq-eqb byte 93 same)) ∙ e)) here
  | inr other ↦ option_map_some _ (close_at text) cut (sym (cond-false (eqb byte 93) _ _ (ne_eqb byte 93 other)) ∙ e) (λ behind is same.
      let there = close_from text behind is in
      let here : Cut (byte ∷ text) (byte ∷ behind.0, behind.1) = (ap (λ (t : List ℕ). byte ∷ t) there.0, λ h. elim (contains_more byte 93 behind.0 h) [ inl first ↦ other first | inr later ↦ there.1 later ]) in
      subst (λ (c : List ℕ × List ℕ). Cut (byte ∷ text) c) same here)
]

-- after the mark, a class with these members
record ClosedIs (text : List ℕ) (members : List Member) (rest : List ℕ) : Type 0 where
  inside : List ℕ
  cut : Cut text (inside, rest)
  some : 0 < length inside
  read : MembersAre inside members

closed_to : (negated : Bool) (text : List ℕ) (members : List Member) (rest : List ℕ) → ClosedIs text members rest → closed_at negated text ≡ Some (Item.Class negated members, rest)
closed_to negated text members rest h =
    ap (closed_at negated) h.cut.0
    ∙ ap (λ o. option_and_then (class_with negated) o) (close_to h.inside rest h.cut.1)
    ∙ cond-true (leb 1 (length h.inside)) _ _ (le-leb 1 (length h.inside) (let s = h.some in omega arith))
    ∙ ap (λ o. option_map (λ members. (Item.Class negated members, rest)) o) ((members_of-are h.inside members).0 h.read)

-- the item is such a class
abbrev ClosedFound : Bool → List ℕ → Item × List ℕ → Type 0
ClosedFound negated text found = (members : List Member) × (found.0 ≡ Item.Class negated members) × ClosedIs text members found.1

class_from_cut : (negated : Bool) (text : List ℕ) (cut : List ℕ × List ℕ) (found : Item × List ℕ) → Cut text cut → class_with negated cut ≡ Some found → ClosedFound negated text found
class_from_cut negated text cut found h e = elim (cases_Bool (leb 1 (length cut.0))) [
  | inl some ↦ option_map_some _ (members_of cut.0) found (sym (cond-true (leb 1 (length cut.0)) _ _ some) ∙ e) (λ members read same.
      let lt = leb-true 1 (length cut.0) some in
      let here : ClosedFound negated text (Item.Class negated members, cut.1) = (members, refl, record { inside = cut.0; cut = h; some = omega arith; read = (members_of-are cut.0 members).1 read }) in
      subst (λ (f : Item × List ℕ). ClosedFound negated text f) same here)
  | inr none ↦ absurd (none-some found (sym (cond-false (leb 1 (length cut.0)) _ _ none) ∙ e))
]

closed_from : (negated : Bool) (text : List ℕ) (found : Item × List ℕ) → closed_at negated text ≡ Some found → ClosedFound negated text found
closed_from negated text found e = option_and_then_some (class_with negated) (close_at text) found e (λ cut is then. class_from_cut negated text cut found (close_from text cut is) then)

first_unmarked : (inside rest : List ℕ) → 0 < length inside → (get_or inside 0 0 ≢ 33) → get_or (inside ++ 93 ∷ rest) 0 0 ≢ 33
first_unmarked [] rest some other = absurd (omega arith)
first_unmarked (byte ∷ inside) rest some other = other

class_to : (text : List ℕ) (negated : Bool) (members : List Member) (rest : List ℕ) → ClassIs text negated members rest → class_at text ≡ Some (Item.Class negated members, rest)
class_to text true members rest h =
    ap class_at h.cut.joined ∙ closed_to true (h.inside ++ 93 ∷ rest) members rest (record { inside = h.inside; cut = (refl, h.cut.closed); some = h.some; read = h.read })
class_to text false members rest h =
    let other : get_or text 0 0 ≢ 33 = subst (λ (t : List ℕ). get_or t 0 0 ≢ 33) (sym h.cut.joined) (first_unmarked h.inside rest h.some (h.cut.unmarked refl)) in
    cond-false (eqb (get_or text 0 0) 33) _ _ (ne_eqb (get_or text 0 0) 33 other)
    ∙ closed_to false text members rest (record { inside = h.inside; cut = (h.cut.joined, h.cut.closed); some = h.some; read = h.read })

-- a class stands after the `[`
abbrev ClassFound : List ℕ → Item × List ℕ → Type 0
ClassFound text found = (negated : Bool) × (members : List Member) × (found.0 ≡ Item.Class negated members) × ClassIs text negated members found.1

first_of_inside : (inside rest text : List ℕ) → 0 < length inside → text ≡ inside ++ 93 ∷ rest → (get_or text 0 0 ≢ 33) → get_or inside 0 0 ≢ 33
first_of_inside [] rest text some e other = absurd (omega arith)
first_of_inside (byte ∷ inside) rest text some e other = subst (λ (t : List ℕ). get_or t 0 0 ≢ 33) e other

class_from : (text : List ℕ) (found : Item × List ℕ) → class_at text ≡ Some found → ClassFound text found
class_from [] found e =
    let f = closed_from false [] found e in
    let l = ap length f.2.cut.0 in
    absurd (omega (arith, length-append f.2.inside (93 ∷ found.1)))
class_from (byte ∷ text) found e = elim (cases_eq byte 33) [
  | inl same ↦
      let f = closed_from true text found (sym (cond-true (eqb byte 33) _ _ (eq-eqb byte 33 same)) ∙ e) in (
        true,
        f.0,
        f.1,
        record {
          inside = f.2.inside;
          cut = record { joined = ap (λ (x : ℕ). x ∷ text) same ∙ ap (λ (t : List ℕ). 33 ∷ t) f.2.cut.0; closed = f.2.cut.1; unmarked = λ none. absurd cc };
          some = f.2.some;
          read = f.2.read;
        },
      )
  | inr other ↦
      let f = closed_from false (byte ∷ text) found (sym (cond-false (eqb byte 33) _ _ (ne_eqb byte 33 other)) ∙ e) in (
        false,
        f.0,
        f.1,
        record {
          inside = f.2.inside;
          cut = record { joined = f.2.cut.0; closed = f.2.cut.1; unmarked = λ _. first_of_inside f.2.inside found.1 (byte ∷ text) f.2.some f.2.cut.0 other };
          some = f.2.some;
          read = f.2.read;
        },
      )
]

-- ---- items

-- a byte that is no star and no `?`
other_item : (first : ℕ) (text : List ℕ) → first ≢ 42 → first ≢ 63 → item_at (first ∷ text) ≡ cond (eqb first 91) (class_at text) (Some (Item.Byte first, text))
other_item first text no_star no_mark = cond-false (eqb first 42) _ _ (ne_eqb first 42 no_star) ∙ cond-false (eqb first 63) _ _ (ne_eqb first 63 no_mark)

item_to : (text : List ℕ) (item : Item) (rest : List ℕ) → ItemIs text item rest → item_at text ≡ Some (item, rest)
item_to text Item.Any rest h = ap item_at h
item_to text Item.One rest h = ap item_at h
item_to text (Item.Class negated members) rest h = ap item_at h.1 ∙ class_to h.0 negated members rest h.2
item_to text (Item.Byte byte) rest h = ap item_at h.0 ∙ other_item byte rest h.1.0 h.1.1 ∙ cond-false (eqb byte 91) _ _ (ne_eqb byte 91 h.1.2)

abbrev ItemFound : List ℕ → Item × List ℕ → Type 0
ItemFound text found = ItemIs text found.0 found.1

class_item : (first : ℕ) (text : List ℕ) (found : Item × List ℕ) → first ≡ 91 → ClassFound text found → ItemFound (first ∷ text) found
class_item first text found e h =
    subst (λ (item : Item). ItemIs (first ∷ text) item found.1) (sym h.2) (text, ap (λ (x : ℕ). x ∷ text) e, h.3)

item_from : (text : List ℕ) (found : Item × List ℕ) → item_at text ≡ Some found → ItemFound text found
item_from [] found e = absurd cc
item_from (first ∷ text) found e = elim (cases_eq first 42) [
  | inl star ↦ subst (ItemFound (first ∷ text)) (same_Some _ found (sym (cond-true (eqb first 42) _ _ (eq-eqb first 42 star)) ∙ e)) (ap (λ (x : ℕ). x ∷ text) star)
  | inr no_star ↦ elim (cases_eq first 63) [
    | inl mark ↦ subst (ItemFound (first ∷ text)) (same_Some _ found (sym (cond-false (eqb first 42) _ _ (ne_eqb first 42 no_star) ∙ cond-true (eqb first 63) _ _ (eq-eqb first 63 mark)) ∙ e)) (ap (λ (x : ℕ). x ∷ text) mark)
    | inr no_mark ↦ elim (cases_eq first 91) [
      | inl bracket ↦ class_item first text found bracket (class_from text found (sym (other_item first text no_star no_mark ∙ cond-true (eqb first 91) _ _ (eq-eqb first 91 bracket)) ∙ e))
      | inr no_bracket ↦ subst (ItemFound (first ∷ text)) (same_Some _ found (sym (other_item first text no_star no_mark ∙ cond-false (eqb first 91) _ _ (ne_eqb first 91 no_bracket)) ∙ e)) (refl, (no_star, no_mark, no_bracket))
    ]
  ]
]

cut_shorter : (text : List ℕ) (negated : Bool) (inside rest : List ℕ) → IsBracketed text negated inside rest → length rest < length text
cut_shorter text true inside rest cut = let l = ap length cut.joined in omega (arith, length-append inside (93 ∷ rest))
cut_shorter text false inside rest cut = let l = ap length cut.joined in omega (arith, length-append inside (93 ∷ rest))

item_shorter : (text : List ℕ) (item : Item) (rest : List ℕ) → ItemIs text item rest → length rest < length text
item_shorter text Item.Any rest h = let l = ap length h in omega arith
item_shorter text Item.One rest h = let l = ap length h in omega arith
item_shorter text (Item.Class negated members) rest h =
    let l = ap length h.1 in
    let lt = cut_shorter h.0 negated h.2.inside rest h.2.cut in
    omega arith
item_shorter text (Item.Byte byte) rest h = let l = ap length h.0 in omega arith

items_reader : IsReader item_at ItemIs ItemsAre
items_reader = record {
  is = λ text item rest. (item_to text item rest, item_from text (item, rest));
  shorter = item_shorter;
  none = λ text. (λ h. h, λ h. h);
  more = λ text item items. (λ h. h, λ h. h);
}

pub glob_items-are : (pattern : List ℕ) (items : List Item) → ItemsAre pattern items ↔ (glob_items pattern ≡ Some items)
unfolding glob_items
glob_items-are pattern items = all_at-are item_at ItemIs ItemsAre items_reader (length pattern) pattern items (omega arith)

-- ---- globs

escapes-Decides : (pattern : List ℕ) → Decides (list_any (eqb 92) pattern) (Contains pattern 92)
escapes-Decides [] = (λ e. absurd cc, λ h. let lt = h.1 in absurd (omega arith))
escapes-Decides (byte ∷ pattern) =
    let there = escapes-Decides pattern in (
      λ e. elim (or_cases (eqb 92 byte) (list_any (eqb 92) pattern) e) [
        | inl first ↦ (0, omega arith, sym (eqb-true 92 byte first))
        | inr later ↦ Contains-append_right (byte ∷ []) pattern 92 (there.0 later)
      ],
      λ h. elim (contains_more byte 92 pattern h) [
        | inl first ↦ or_left (eqb 92 byte) (list_any (eqb 92) pattern) (eq-eqb 92 byte (sym first))
        | inr later ↦ or_right (eqb 92 byte) (list_any (eqb 92) pattern) (there.1 later)
      ],
    )

reads-Decides : (pattern : List ℕ) → Decides (is_some (glob_items pattern)) (ReadsAsItems pattern)
reads-Decides pattern = go (glob_items pattern) refl
  where
    go : (found : Option (List Item)) → glob_items pattern ≡ found → Decides (is_some found) (ReadsAsItems pattern)
    go None e = (λ none. absurd cc, λ h. absurd (none-some h.0 (sym e ∙ (glob_items-are pattern h.0).0 h.1)))
    go (Some items) e = (λ some. (items, (glob_items-are pattern items).1 e), λ h. refl)

pub is_glob-Decides : (pattern : List ℕ) → Decides (is_glob pattern) (IsGlob pattern)
unfolding is_glob
is_glob-Decides pattern =
    let marked = Decides-not _ (Decides-eqb (get_or pattern 0 0) 33) in
    let escaped = Decides-not _ (escapes-Decides pattern) in
    let all = Decides-and _ _ marked (Decides-and _ _ escaped (reads-Decides pattern)) in
    Decides-like (is_glob pattern)
    (λ h. (h.1.1.0, record { unmarked = h.0; unescaped = h.1.0; read = h.1.1.1 }))
    (λ h. (h.1.unmarked, (h.1.unescaped, (h.0, h.1.read))))
    all

-- ---- matching

has-Decides : (byte : ℕ) (member : Member) → Decides (has byte member) (Has member byte)
has-Decides byte (Member.Range low high) = Decides-and _ _ (Decides-leb low byte) (Decides-leb byte high)
has-Decides byte (Member.Single own) = Decides-eqb byte own

some_has-Decides : (byte : ℕ) (members : List Member) → Decides (list_any (has byte) members) (SomeHas members byte)
some_has-Decides byte [] = (λ e. absurd cc, λ h. absurd h)
some_has-Decides byte (member ∷ members) = Decides-or _ _ (has-Decides byte member) (some_has-Decides byte members)

class_has-Decides : (negated : Bool) (members : List Member) (byte : ℕ) → Decides (class_has negated members byte) (ClassHas negated members byte)
class_has-Decides false members byte = some_has-Decides byte members
class_has-Decides true members byte = Decides-not _ (some_has-Decides byte members)

one_then-Decides : (p : ℕ → Bool) (q : List ℕ → Bool) (P : ℕ → Type 0) (Q : List ℕ → Type 0) → ((byte : ℕ) → Decides (p byte) (P byte)) → ((text : List ℕ) → Decides (q text) (Q text)) → (text : List ℕ) → Decides (one_then p q text) (OneThen P Q text)
one_then-Decides p q P Q here there [] = (λ e. absurd cc, λ h. absurd h)
one_then-Decides p q P Q here there (byte ∷ text) = Decides-and _ _ (here byte) (there text)

some_end-Decides : (q : List ℕ → Bool) (Q : List ℕ → Type 0) → ((text : List ℕ) → Decides (q text) (Q text)) → (text : List ℕ) → Decides (some_end q text) (SomeEnd Q text)
some_end-Decides q Q each [] = (λ e. end_here Q [] ((each []).0 e), λ h. (each []).1 (end_of_none Q h))
some_end-Decides q Q each (byte ∷ text) =
    Decides-like _
    (λ h. elim h [ inl here ↦ end_here Q (byte ∷ text) here | inr later ↦ end_later Q (byte ∷ text) later ])
    (end_cases Q (byte ∷ text))
    (Decides-or _ _ (each (byte ∷ text)) (some_end-Decides q Q each text))

nothing-Decides : (text : List ℕ) → Decides (eqb (length text) 0) (text ≡ [])
nothing-Decides [] = (λ e. refl, λ h. refl)
nothing-Decides (byte ∷ text) = (λ e. let l = eqb-true (length (byte ∷ text)) 0 e in absurd (omega arith), λ h. absurd cc)

pub fits-Decides : (items : List Item) (text : List ℕ) → Decides (fits items text) (Glob items text)
unfolding fits
fits-Decides [] text = nothing-Decides text
fits-Decides (Item.Any ∷ items) text = some_end-Decides (fits items) (Glob items) (fits-Decides items) text
fits-Decides (Item.One ∷ items) text = one_then-Decides (λ byte. true) (fits items) (λ byte. Unit {0}) (Glob items) (λ byte. (λ e. tt, λ h. refl)) (fits-Decides items) text
fits-Decides (Item.Class negated members ∷ items) text = one_then-Decides (class_has negated members) (fits items) (ClassHas negated members) (Glob items) (class_has-Decides negated members) (fits-Decides items) text
fits-Decides (Item.Byte own ∷ items) text = one_then-Decides (λ byte. eqb byte own) (fits items) (λ byte. byte ≡ own) (Glob items) (λ byte. Decides-eqb byte own) (fits-Decides items) text

-- the items that the pattern reads as match the text
found-Decides : (pattern text : List ℕ) → Decides (option_map_or (λ items. fits items text) (glob_items pattern) false) ((items : List Item) × ItemsAre pattern items × Glob items text)
found-Decides pattern text = go (glob_items pattern) refl
  where
    go : (found : Option (List Item)) → glob_items pattern ≡ found → Decides (option_map_or (λ items. fits items text) found false) ((items : List Item) × ItemsAre pattern items × Glob items text)
    go None e = (λ none. absurd cc, λ h. absurd (none-some h.0 (sym e ∙ (glob_items-are pattern h.0).0 h.1)))
    go (Some items) e = (
      λ match. (items, (glob_items-are pattern items).1 e, (fits-Decides items text).0 match),
      λ h. (fits-Decides items text).1 (subst (λ (list : List Item). Glob list text) (same_items h.0 items pattern h.1 ((glob_items-are pattern items).1 e)) h.2),
    )

pub matches-Decides : (pattern text : List ℕ) → Decides (matches pattern text) (Matches pattern text)
unfolding matches
matches-Decides pattern text =
    Decides-like (matches pattern text)
    (λ h. (h.1.0, record { unmarked = h.0.1.unmarked; unescaped = h.0.1.unescaped; read = h.1.1 }, h.1.2))
    (λ h. ((h.0, h.1), (h.0, h.1.read, h.2)))
    (Decides-and _ _ (is_glob-Decides pattern) (found-Decides pattern text))

-- ---- as the code finds them

-- an answer that says whether the pattern is a glob
pub is_glob_exact : (pattern : List ℕ) (result : Bool) → (IsTrue result ↔ IsGlob pattern) → result ≡ is_glob pattern
is_glob_exact pattern result meaning = same_from_decides result (is_glob pattern) meaning (is_glob-Decides pattern)

-- bytes that are a glob's are one
pub same_glob : (pattern bytes : List ℕ) → bytes ≡ pattern → IsTrue (is_glob pattern) → IsGlob bytes
same_glob pattern bytes same is = subst IsGlob (sym same) ((is_glob-Decides pattern).0 is)

-- a glob matches the texts that its items match
pub matches_read : (pattern text : List ℕ) (result : Bool) → IsGlob pattern → ((items : List Item) → GlobIs pattern items → (IsTrue result ↔ Glob items text)) → result ≡ matches pattern text
matches_read pattern text result glob meaning = same_from_decides result (matches pattern text) here (matches-Decides pattern text)
  where
    here : Decides result (Matches pattern text)
    here = (
      λ e. (glob.0, glob.1, (meaning glob.0 glob.1).0 e),
      λ h. (meaning h.0 h.1).1 h.2,
    )
