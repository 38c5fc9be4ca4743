-- A saver's shelf as a hit of it comes or goes: its own operation, those of its key, and those of the key at the table's edge.
use Rattle.std.proofs.Common.{◌≡◌, ℕ, Bool, true, false, cond, List, refl, sym, ap, subst, ◌∙◌, Some, None, Option}
use Rattle.std.specs.Prelude.{◌&&◌, is_some, not, if◌then◌else◌}
use Rattle.std.specs.Option.{option_map_or}
use Rattle.std.proofs.lemmas.Option.{same_Some}
use Rattle.ft_hits.proofs.Flat.{same_is, same_itself}
use Rattle.ft_fields.specs.declared.key.Part.{Part}
use Rattle.ft_fields.specs.Orders.{key_cmp_total}
use Rattle.ft_fields.specs.Ties.{key_same}
use Rattle.ft_fields.specs.Parts.{same_key}
use Rattle.ft_maps.proofs.Common.{cond_same}
use Rattle.ft_pairs.specs.ByKey.{ops_of}
use Rattle.ft_pairs.specs.Source.{Ops}
use Rattle.ft_pairs.specs.declared.at.At.{At}
use Rattle.ft_pairs.specs.declared.at.Op.TheVariants.{Save}
use Rattle.ft_table.specs.Hits.{Hits}
use Rattle.ft_table.specs.OneKey.{FirstComesIn, FirstIsOut, LastGoesOut}
use Rattle.ft_table.specs.Tabled.{Tabled, is_in}
use Rattle.ft_shelves.specs.Changes.{is_insert, change_mark, op_after, set_op, sign_of, table_with}
use Rattle.ft_shelves.specs.Edits.{OpsChange}
use Rattle.ft_shelves.specs.Following.{HitFollows, MovesKeys, followed, switched, with_own}
use Rattle.ft_shelves.specs.Shelves.{Shelved}
use Rattle.ft_shelves.specs.Switches.{HasMoved, differ}
use Rattle.ft_shelves.specs.inner.Following.{beside, edge_for, has_moved, OwnChanges, FollowsTable}
use Rattle.ft_shelves.specs.declared.sign.HitChange.{HitChange}
use Rattle.ft_shelves.proofs.Decided.{untied}
use Rattle.ft_shelves.proofs.Edge.{edge_there, others_stay, undiffering}

-- a switch that isn't one
no_switch : (b : Bool) (hits : Hits) (id : ℕ) (k : List Part) (ops : Ops) (q : At) → switched b b hits id k ops q ≡ ops q
no_switch true hits id k ops q = refl
no_switch false hits id k ops q = refl

-- a key switches if it is at the edge, else it stays
edge_switch : (hits : Hits) (id : ℕ) (k : List Part) (ops : Ops) (q : At) (edge side was now : Bool) → (edge ≡ true → was ≡ side) → (edge ≡ false → now ≡ was)
    → cond edge (switched side now hits id k ops q) (ops q) ≡ switched was now hits id k ops q
edge_switch hits id k ops q true side was now at stays = ap (λ b. switched b now hits id k ops q) (sym (at refl))
edge_switch hits id k ops q false side was now at stays = sym (ap (λ b. switched was b hits id k ops q) (stays refl) ∙ no_switch was hits id k ops q)

-- the operations of a key that switches follow the table
pub key_follows : (id : ℕ) (o : Option (List Part)) (key : List Part) (was before now : Bool) (old new : Shelved) → o ≡ Some key → was ≡ before → is_in old.table key ≡ now
    → OpsChange key (switched before now old.table.hits id key) old new → FollowsTable id o was old new
key_follows id o key was before now old new is was_is now_is h = subst (λ o. FollowsTable id o was old new) (sym is) (record {
  shelf = λ i. record { role = h.role i; table = h.table i; ops = new.ops; readings = h.readings i };
  ops = λ k q. h.ops k q ∙ by k q (same_key k key) refl;
})
  where
    by : (k : List Part) (q : At) (b : Bool) → same_key k key ≡ b
        → cond b (switched before now old.table.hits id key (ops_of old.ops k) q) (ops_of old.ops k q) ≡ cond b (switched was (is_in old.table k) old.table.hits id k (ops_of old.ops k) q) (ops_of old.ops k q)
    by k q true tie =
        (λ i. switched (sym was_is i) (sym now_is i) old.table.hits id key (ops_of old.ops k) q)
        ∙ ap (λ x. switched was (is_in old.table x) old.table.hits id x (ops_of old.ops k) q) (sym (same_is k key tie))
    by k q false apart = refl

-- and those of a key that stays
pub key_stays : (id : ℕ) (o : Option (List Part)) (key : List Part) (was : Bool) (old : Shelved) → o ≡ Some key → is_in old.table key ≡ was → FollowsTable id o was old old
key_stays id o key was old is still = key_follows id o key was was was old old is refl still (record {
  role = refl;
  table = refl;
  readings = refl;
  ops = λ k q. sym (ap (λ op. cond (same_key k key) op (ops_of old.ops k q)) (no_switch was old.table.hits id key (ops_of old.ops k) q) ∙ cond_same (same_key k key) _);
})

named : (k : List Part) (o : Option (List Part)) → option_map_or (same_key k) o false ≡ true → o ≡ Some k
named k None h = absurd (cc h)
named k (Some other) h = ap (λ x. Some x) (sym (same_is k other h))

unlike : (k q : List Part) → (k ≡ q → ⊥) → same_key k q ≡ false
unlike k q apart = untied key_cmp_total key_same k q apart

if_moved : (b : Bool) (k : List Part) → is_some (cond b (Some k) None) ≡ b
if_moved true k = refl
if_moved false k = refl

module _ (comes : LastGoesOut) (goes : FirstComesIn) (outside : FirstIsOut) (id : ℕ) (change : HitChange) (old mid own final : Shelved) (was : Bool) (edge : Option (List Part))
    (known : was ≡ is_in old.table (change_mark change).key) (edge_is : edge ≡ beside (change_mark change).key (edge_for (sign_of change) old.table)) (owns : OwnChanges id change was old mid) where
  abbrev key : List Part
  key = (change_mark change).key

  abbrev side : Bool
  side = is_insert (sign_of change)

  abbrev after : Tabled
  after = table_with change old.table

  -- the key at the edge was on this side, and is another
  at_edge : (k : List Part) → edge ≡ Some k → (is_in old.table k ≡ side) × (same_key k key ≡ false)
  at_edge k is = by (edge_for (sign_of change) old.table) refl (sym edge_is ∙ is)
    where
      other : (b : Bool) (x : List Part) → same_key x key ≡ b → cond (not b) (Some x) None ≡ Some k → (x ≡ k) × (b ≡ false)
      other true x tie is = absurd (cc is)
      other false x tie is = (same_Some x k is, refl)

      by : (o : Option (List Part)) → edge_for (sign_of change) old.table ≡ o → beside key o ≡ Some k → (is_in old.table k ≡ side) × (same_key k key ≡ false)
      by None at is = absurd (cc is)
      by (Some x) at is =
          let o = other (same_key x key) x refl is in
          (edge_there outside (sign_of change) old.table k (at ∙ ap (λ y. Some y) o.0), ap (λ y. same_key y key) (sym o.0) ∙ o.1)

  -- every other key stays
  stays : (k : List Part) → same_key k key ≡ false → (edge ≡ Some k → ⊥) → is_in after k ≡ is_in old.table k
  stays k apart kept = others_stay comes goes change old.table k
      (λ e. absurd (cc (sym (same_itself k) ∙ ap (same_key k) e ∙ apart)))
      (λ at. kept (edge_is ∙ ap (beside key) at ∙ ap (λ b. cond (not b) (Some k) None) apart))

  mid_table : mid.table ≡ after
  mid_table = ap (λ (s : Shelved). s.table) owns.shelf

  module _ (own_follows : FollowsTable id (Some key) was mid own) where
    own_table : own.table ≡ after
    own_table = ap (λ (s : Shelved). s.table) own_follows.shelf ∙ mid_table

    rest : (k : List Part) → same_key k key ≡ false → (q : At) → ops_of own.ops k q ≡ ops_of old.ops k q
    rest k apart q =
        own_follows.ops k q
        ∙ ap (λ b. cond b (switched was (is_in mid.table k) mid.table.hits id k (ops_of mid.ops k) q) (ops_of mid.ops k q)) apart
        ∙ owns.ops k q
        ∙ ap (λ b. cond (b && was) (set_op (record { pos = (change_mark change).spot.pos; trigger = id }) (op_after (sign_of change) Save) (ops_of old.ops k)) (ops_of old.ops k) q) apart

    own_key : (q : At) → ops_of own.ops key q ≡ followed old.table after id change key (ops_of old.ops key) q
    own_key q =
        own_follows.ops key q
        ∙ ap (λ b. cond b (switched was (is_in mid.table key) mid.table.hits id key (ops_of mid.ops key) q) (ops_of mid.ops key q)) (same_itself key)
        ∙ (λ i. switched was (is_in (mid_table i) key) (mid_table i).hits id key (λ x. owns.ops key x i) q)
        ∙ ap (λ b. switched b (is_in after key) after.hits id key (with_own id change b key (ops_of old.ops key)) q) known

    -- if it comes in, it had no save of this saver
    pub free_before : ((k : List Part) → is_in old.table k ≡ false → (q : At) → q.trigger ≡ id → ops_of old.ops k q ≡ None)
        → (k : List Part) → edge ≡ Some k → side ≡ false → (q : At) → q.trigger ≡ id → ops_of own.ops k q ≡ None
    free_before unsaved k is out q by_id = let at = at_edge k is in rest k at.1 q ∙ unsaved k (at.0 ∙ out) q by_id

    -- a key that moved, moved in the table
    pub own_moves : has_moved was mid.table (Some key) ≡ true → HasMoved (is_in old.table) (is_in after)
    own_moves moved = (key, sym (λ i. differ (known i) (is_in (mid_table i) key)) ∙ moved)

    moved_edge : (k : List Part) → edge ≡ Some k → has_moved side own.table edge ≡ true → differ (is_in old.table k) (is_in after k) ≡ true
    moved_edge k is moved = (λ i. differ ((at_edge k is).0 i) (is_in (sym own_table i) k)) ∙ sym (ap (has_moved side own.table) is) ∙ moved

    pub edge_moves : has_moved side own.table edge ≡ true → HasMoved (is_in old.table) (is_in after)
    edge_moves moved = by edge refl
      where
        by : (o : Option (List Part)) → edge ≡ o → HasMoved (is_in old.table) (is_in after)
        by None is = absurd (cc (sym moved ∙ ap (has_moved side own.table) is))
        by (Some k) is = (k, moved_edge k is moved)

    module _ (edge_follows : FollowsTable id edge side own final) where
      final_table : final.table ≡ after
      final_table = ap (λ (s : Shelved). s.table) edge_follows.shelf ∙ own_table

      ops_follow : (k : List Part) (q : At) → ops_of final.ops k q ≡ followed old.table after id change k (ops_of old.ops k) q
      ops_follow k q = by (same_key k key) refl
        where
          at_key : (b : Bool) → option_map_or (same_key key) edge false ≡ b → b ≡ false
          at_key true is = absurd (cc (sym (same_itself key) ∙ (at_edge key (named key edge is)).1))
          at_key false is = refl

          by : (b : Bool) → same_key k key ≡ b → ops_of final.ops k q ≡ followed old.table after id change k (ops_of old.ops k) q
          by true tie = subst (λ x. ops_of final.ops x q ≡ followed old.table after id change x (ops_of old.ops x) q) (sym (same_is k key tie)) (
              edge_follows.ops key q
              ∙ ap (λ b. cond b (switched side (is_in own.table key) own.table.hits id key (ops_of own.ops key) q) (ops_of own.ops key q)) (at_key (option_map_or (same_key key) edge false) refl)
              ∙ own_key q)
          by false apart =
              edge_follows.ops k q
              ∙ (λ i. cond (option_map_or (same_key k) edge false) (switched side (is_in (own_table i) k) (own_table i).hits id k (λ x. rest k apart x i) q) (rest k apart q i))
              ∙ edge_switch after.hits id k (ops_of old.ops k) q (option_map_or (same_key k) edge false) side (is_in old.table k) (is_in after k) (λ is. (at_edge k (named k edge is)).0)
              (λ none. stays k apart (λ is. cc (sym (same_itself k) ∙ sym (ap (λ o. option_map_or (same_key k) o false) is) ∙ none)))
              ∙ sym (ap (λ b. switched (is_in old.table k) (is_in after k) after.hits id k
              (cond (b && is_in old.table key) (set_op (record { pos = (change_mark change).spot.pos; trigger = id }) (op_after (sign_of change) Save) (ops_of old.ops k)) (ops_of old.ops k)) q) apart)

      -- each key's operations follow the table
      pub hit_follows : HitFollows id change old final
      hit_follows = record {
        shelf = edge_follows.shelf ∙ ap (λ (s : Shelved). record s { ops = final.ops }) (own_follows.shelf ∙ ap (λ (s : Shelved). record s { ops = own.ops }) owns.shelf);
        ops = λ k q. ops_follow k q ∙ ap (λ (t : Tabled). followed old.table t id change k (ops_of old.ops k) q) (sym final_table);
      }

      module _ (other : Option (List Part)) (other_is : other ≡ (if has_moved side own.table edge then edge else None)) where
        either : (b : Bool) → has_moved side own.table edge ≡ b → other ≡ cond b edge None
        either b is = other_is ∙ ap (λ m. cond m edge None) is

        other_moved : (k : List Part) → other ≡ Some k → differ (is_in old.table k) (is_in after k) ≡ true
        other_moved k one = by (has_moved side own.table edge) refl
          where
            by : (b : Bool) → has_moved side own.table edge ≡ b → differ (is_in old.table k) (is_in after k) ≡ true
            by true moved = moved_edge k (sym (either true moved) ∙ one) moved
            by false still = absurd (cc (sym one ∙ either false still))

        other_stayed : (k : List Part) → (k ≡ key → ⊥) → (other ≡ Some k → ⊥) → is_in after k ≡ is_in old.table k
        other_stayed k apart kept = by (option_map_or (same_key k) edge false) refl (has_moved side own.table edge) refl
          where
            by : (b : Bool) → option_map_or (same_key k) edge false ≡ b → (m : Bool) → has_moved side own.table edge ≡ m → is_in after k ≡ is_in old.table k
            by true is true moved = absurd (kept (either true moved ∙ named k edge is))
            by true is false still =
                let at = named k edge is in
                ap (λ (t : Tabled). is_in t k) (sym own_table) ∙ undiffering side (is_in own.table k) (sym (ap (has_moved side own.table) at) ∙ still) ∙ sym (at_edge k at).0
            by false none m moved = stays k (unlike k key apart) (λ is. cc (sym (same_itself k) ∙ sym (ap (λ o. option_map_or (same_key k) o false) is) ∙ none))

        -- and these keys moved
        pub keys_moved : (own_moved : Option (List Part)) → own_moved ≡ (if has_moved was mid.table (Some key) then Some key else None)
            → MovesKeys key (record { own = is_some own_moved; other = other }) (is_in old.table) (is_in final.table)
        keys_moved own_moved own_is = subst (λ (t : Tabled). MovesKeys key (record { own = is_some own_moved; other = other }) (is_in old.table) (is_in t)) (sym final_table) (record {
          itself = ap is_some own_is ∙ if_moved (has_moved was mid.table (Some key)) key ∙ (λ i. differ (known i) (is_in (mid_table i) key));
          moved = other_moved;
          stayed = other_stayed;
        })
