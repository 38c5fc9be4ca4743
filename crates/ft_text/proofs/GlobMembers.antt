-- The first member of a class.
use Rattle.std.proofs.Common.{◌≡◌, ◌≢◌, ◌<◌, ◌≤◌, ◌-◌, ◌↔◌, ◌⊎◌, ℕ, inl, inr, subst, List, [], ◌∷◌, take, drop, length, get_or, refl, sym, ap, ◌∙◌, arith}
use Rattle.std.proofs.lemmas.List.{take_rest}
use Rattle.ft_text.specs.Glob.{Member, DashFollows, MembersAre, SomeHas}
use Rattle.ft_text.specs.inner.Walk.{Bounds}

-- if `-` and a byte follow, a range stands first
pub record RangeFirst (low high : ℕ) (rest : List ℕ) (members : List Member) : Type 0 where
  pub behind : List Member
  pub first : members ≡ Member.Range low high ∷ behind
  pub order : low ≤ high
  pub read : MembersAre rest behind

pub range_first : (low high : ℕ) (rest text : List ℕ) (members : List Member) → text ≡ low ∷ 45 ∷ high ∷ rest → MembersAre text members → RangeFirst low high rest members
range_first low high rest text [] e h = absurd cc
range_first low high rest text (Member.Range from to ∷ members) e h =
    let whole : from ∷ 45 ∷ to ∷ h.0 ≡ low ∷ 45 ∷ high ∷ rest = sym h.1.0 ∙ e in
    let low_is : from ≡ low = cc in
    let high_is : to ≡ high = cc in
    let rest_is : h.0 ≡ rest = cc in
    record {
      behind = members;
      first = cc;
      order = let le = h.1.1 in omega arith;
      read = subst (λ (t : List ℕ). MembersAre t members) rest_is h.2;
    }
range_first low high rest text (Member.Single byte ∷ members) e h =
    let behind : h.0 ≡ 45 ∷ high ∷ rest = cc in
    absurd (h.1.1 (subst (λ (t : List ℕ). DashFollows t) (sym behind) refl))

pub bounds_range : (low high : ℕ) (rest : List ℕ) → Bounds (low ∷ 45 ∷ high ∷ rest) low high rest
bounds_range low high rest = record {
  reads = (
    λ h. let f = range_first low high rest _ h.0 refl h.1 in (f.order, (f.behind, f.read)),
    λ h. (Member.Range low high ∷ h.1.0, (rest, (refl, h.0), h.1.1)),
  );
  has = λ members h.
      let f = range_first low high rest _ members refl h in
      (f.behind, f.read, λ byte. subst (λ (ms : List Member). SomeHas ms byte ↔ (((low ≤ byte) × (byte ≤ high)) ⊎ SomeHas f.behind byte)) (sym f.first) (λ x. x, λ x. x));
}

-- else a single byte stands first
pub record SingleFirst (byte : ℕ) (rest : List ℕ) (members : List Member) : Type 0 where
  pub behind : List Member
  pub first : members ≡ Member.Single byte ∷ behind
  pub read : MembersAre rest behind

pub single_first : (byte : ℕ) (rest text : List ℕ) (members : List Member) → text ≡ byte ∷ rest → (DashFollows rest → ⊥) → MembersAre text members → SingleFirst byte rest members
single_first byte rest text [] e alone h = absurd cc
single_first byte rest text (Member.Range from to ∷ members) e alone h =
    let behind : rest ≡ 45 ∷ to ∷ h.0 = cc in
    absurd (alone (subst (λ (t : List ℕ). DashFollows t) (sym behind) refl))
single_first byte rest text (Member.Single own ∷ members) e alone h =
    let rest_is : h.0 ≡ rest = cc in
    record { behind = members; first = cc; read = subst (λ (t : List ℕ). MembersAre t members) rest_is h.2 }

alone_has : (own byte : ℕ) (P : Type 0) → ((byte ≡ own) ⊎ P) ↔ (((own ≤ byte) × (byte ≤ own)) ⊎ P)
alone_has own byte P = (
  λ h. elim h [ inl e ↦ inl (omega arith, omega arith) | inr p ↦ inr p ],
  λ h. elim h [ inl b ↦ inl (omega arith) | inr p ↦ inr p ],
)

pub bounds_single : (byte : ℕ) (rest : List ℕ) → (DashFollows rest → ⊥) → Bounds (byte ∷ rest) byte byte rest
bounds_single own rest alone = record {
  reads = (
    λ h. let f = single_first own rest _ h.0 refl alone h.1 in (omega arith, (f.behind, f.read)),
    λ h. (Member.Single own ∷ h.1.0, (rest, (refl, alone), h.1.1)),
  );
  has = λ members h.
      let f = single_first own rest _ members refl alone h in
      (f.behind, f.read, λ byte. subst (λ (ms : List Member). SomeHas ms byte ↔ (((own ≤ byte) × (byte ≤ own)) ⊎ SomeHas f.behind byte)) (sym f.first) (alone_has own byte (SomeHas f.behind byte)));
}

-- ---- as the code finds them

pub bounds_of_range : (inside rest : List ℕ) (low : ℕ) → inside ≡ low ∷ rest → 1 < length rest → get_or rest 0 0 ≡ 45 → Bounds inside low (get_or rest 1 0) (take (length rest - 2) (drop 2 rest))
bounds_of_range inside [] low e long dash = absurd (omega arith)
bounds_of_range inside (a ∷ []) low e long dash = absurd (omega arith)
bounds_of_range inside (a ∷ b ∷ rest) low e long dash =
    let whole : inside ≡ low ∷ 45 ∷ b ∷ rest = e ∙ ap (λ (x : ℕ). low ∷ x ∷ b ∷ rest) dash in
    rw (take_rest (a ∷ b ∷ rest) 2) (subst (λ (t : List ℕ). Bounds t low b rest) (sym whole) (bounds_range low b rest))

no_dash : (rest : List ℕ) → (1 < length rest → get_or rest 0 0 ≢ 45) → DashFollows rest → ⊥
no_dash [] none h = h
no_dash (a ∷ []) none h = h
no_dash (a ∷ b ∷ rest) none h = none (omega arith) h

pub bounds_of_single : (inside rest : List ℕ) (low : ℕ) → inside ≡ low ∷ rest → (1 < length rest → get_or rest 0 0 ≢ 45) → Bounds inside low low rest
bounds_of_single inside rest low e none = subst (λ (t : List ℕ). Bounds t low low rest) (sym e) (bounds_single low rest (no_dash rest none))

-- a text of no bytes has no members
pub none_has : (text : List ℕ) (members : List Member) (byte : ℕ) → text ≡ [] → MembersAre text members → SomeHas members byte → ⊥
none_has text [] byte e h has = has
none_has text (Member.Range low high ∷ members) byte e h has = absurd cc
none_has text (Member.Single own ∷ members) byte e h has = absurd cc
