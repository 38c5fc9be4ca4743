-- A pattern reads as items in one way.
use Rattle.std.proofs.Common.{◌≡◌, ℕ, List, [], ◌∷◌, refl, sym, ap, subst, ◌∙◌}
use Rattle.ft_text.specs.Glob.{Member, MembersAre, Item, ItemsAre}
use Rattle.ft_text.proofs.GlobMembers.{range_first, single_first}
use Rattle.ft_text.proofs.Cuts.{class_found}
use Rattle.ft_text.proofs.FirstMembers.{star_first, one_first, byte_first}

no_members : (text : List ℕ) (other : List Member) → text ≡ [] → MembersAre text other → [] ≡ other
no_members text [] e h = refl
no_members text (Member.Range low high ∷ other) e h = let f = sym e ∙ h.1.0 in absurd cc
no_members text (Member.Single byte ∷ other) e h = let f = sym e ∙ h.1.0 in absurd cc

same_members : (members other : List Member) (text : List ℕ) → MembersAre text members → MembersAre text other → members ≡ other
same_members [] other text g h = no_members text other g h
same_members (Member.Range low high ∷ members) other text g h =
    let f = range_first low high g.0 text other g.1.0 h in
    let rest = same_members members f.behind g.0 g.2 f.read in
    ap (λ (ms : List Member). Member.Range low high ∷ ms) rest ∙ sym f.first
same_members (Member.Single byte ∷ members) other text g h =
    let f = single_first byte g.0 text other g.1.0 g.1.1 h in
    let rest = same_members members f.behind g.0 g.2 f.read in
    ap (λ (ms : List Member). Member.Single byte ∷ ms) rest ∙ sym f.first

no_items : (text : List ℕ) (other : List Item) → text ≡ [] → ItemsAre text other → [] ≡ other
no_items text [] e h = refl
no_items text (Item.Any ∷ other) e h = let f = sym e ∙ h.1 in absurd cc
no_items text (Item.One ∷ other) e h = let f = sym e ∙ h.1 in absurd cc
no_items text (Item.Class negated members ∷ other) e h = let f = sym e ∙ h.1.1 in absurd cc
no_items text (Item.Byte own ∷ other) e h = let f = sym e ∙ h.1.0 in absurd cc

pub same_items : (items other : List Item) (text : List ℕ) → ItemsAre text items → ItemsAre text other → items ≡ other
same_items [] other text g h = no_items text other g h
same_items (Item.Any ∷ items) other text g h =
    let f = star_first text g.0 other g.1 h in
    let rest = same_items items f.behind g.0 g.2 f.read in
    ap (λ (is : List Item). Item.Any ∷ is) rest ∙ sym f.first
same_items (Item.One ∷ items) other text g h =
    let f = one_first text g.0 other g.1 h in
    let rest = same_items items f.behind g.0 g.2 f.read in
    ap (λ (is : List Item). Item.One ∷ is) rest ∙ sym f.first
same_items (Item.Byte own ∷ items) other text g h =
    let f = byte_first own text g.0 other g.1.1 g.1.0 h in
    let rest = same_items items f.behind g.0 g.2 f.read in
    ap (λ (is : List Item). Item.Byte own ∷ is) rest ∙ sym f.first
same_items (Item.Class negated members ∷ items) other text g h =
    let class = g.1.2 in
    let whole : ItemsAre (91 ∷ g.1.0) other = subst (λ (t : List ℕ). ItemsAre t other) g.1.1 h in
    let f = class_found g.1.0 other negated class.inside g.0 class.cut whole in
    let same = same_members members f.members class.inside class.read f.inside_is in
    let rest = same_items items f.behind g.0 g.2 f.read in
    ap (λ (is : List Item). Item.Class negated members ∷ is) rest ∙ ap (λ (ms : List Member). Item.Class negated ms ∷ f.behind) same ∙ sym f.first
