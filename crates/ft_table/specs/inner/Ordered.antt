-- The keys of a table in the order of their first hits, and the edge between those in the table and those outside.
use Rattle.std.specs.Prelude.{◌≡◌, ℕ, ◌-◌, ◌<◌, min, nat_lt, if◌then◌else◌, List, length, slice_get, Option, Some, None, zero, suc, refl}
use Rattle.std.specs.Ordering.{is_lt}
use Rattle.std.specs.declared.cmp.Ordering.TheVariants.{Less}
use Rattle.std.specs.Coded.{Coded, code_by, coded×, coded_list, coded_ℕ}
use Rattle.std.specs.List.{Contains, insert, remove}
use Rattle.std.specs.Map.{keys_of}
use Rattle.ft_blocks.specs.Sorted.{Ascend}
use Rattle.ft_hits.specs.contracts.mark.Mark as mark
use Rattle.ft_hits.specs.declared.mark.Mark.{Mark}
use Rattle.ft_hits.specs.Marks.{mark_cmp}
use Rattle.ft_table.specs.declared.order.Order.TheInside.{Inside}
use Rattle.ft_table.specs.declared.order.Front.{Front}
use Rattle.ft_table.specs.declared.order.Standing.{Standing}
use Rattle.ft_table.specs.inner.Ascending.{Rises, IsRank}

-- marks in order, and for how many there is room in the table
pub record Ordered : Type 0 where
  pub marks : List Mark
  pub size : ℕ

-- how the logic stores them
abbrev pub ordered_code : Coded Ordered
ordered_code = code_by (List Mark × ℕ) (coded× (coded_list mark.the_row.coded) coded_ℕ) (λ o. (o.marks, o.size)) (λ p. record { marks = p.0; size = p.1 }) (λ _. refl)

-- what contracts see of the fields
abbrev pub ordered_of : Inside → Ordered
ordered_of o = record { marks = keys_of o.marks; size = o.size }

-- so many marks are in the table, and the edge is the last of them
pub record IsEdged (size : ℕ) (marks : List Mark) (inside : ℕ) (edge : Option Mark) : Type 0 where
  pub some : 0 < size
  pub count : inside ≡ min (length marks) size
  pub last : edge ≡ slice_get marks (inside - 1)

-- the front of some marks
abbrev pub IsFront : ℕ → List Mark → Front → Type 0
IsFront size marks front = IsEdged size marks front.count front.last

-- the blocks are in order, and the front is that of their marks
pub record IsOrderly (o : Inside) : Type 0 where
  pub ascend : Ascend mark_cmp o.marks
  pub front : IsFront o.size (keys_of o.marks) o.front

-- a mark is none of some
abbrev pub Lacks : List Mark → Mark → Type 0
Lacks marks mark = Contains marks mark → ⊥

-- the same marks with one more, at its rank
pub record IsWith (mark : Mark) (old new : Ordered) : Type 0 where
  pub size : new.size ≡ old.size
  pub marks : (i : ℕ) → IsRank mark_cmp old.marks mark i → new.marks ≡ insert old.marks i mark

-- the same marks without the one at a mark's rank
pub record IsWithout (mark : Mark) (old new : Ordered) : Type 0 where
  pub size : new.size ≡ old.size
  pub marks : (i : ℕ) → IsRank mark_cmp old.marks mark i → new.marks ≡ remove old.marks i

-- the same marks, except that one of them has moved to another
pub record IsMoved (from to : Mark) (old new : Ordered) : Type 0 where
  pub size : new.size ≡ old.size
  pub marks : (i j : ℕ) → IsRank mark_cmp old.marks from i → IsRank mark_cmp (remove old.marks i) to j → new.marks ≡ insert (remove old.marks i) j to

-- what stands before a rank
abbrev pub place_before : List Mark → ℕ → Option Mark
place_before marks zero = None
place_before marks (suc i) = slice_get marks i

-- whether a mark is in the table, and the first mark outside
pub record Stands (order : Ordered) (mark : Mark) (standing : Standing) : Type 0 where
  pub inside : (i : ℕ) → IsRank mark_cmp order.marks mark i → standing.inside ≡ nat_lt i order.size
  pub next : standing.next ≡ slice_get order.marks order.size

-- the later of two marks, if there are two
abbrev pub later_mark : Option Mark → Mark → Mark
later_mark None m = m
later_mark (Some o) m = if is_lt (mark_cmp m o) then o else m

-- a mark came to some marks, at its rank
pub record HasCome (m : Mark) (old : List Mark) (i : ℕ) (new : List Mark) : Type 0 where
  pub rises : Rises mark_cmp old
  pub rise : Rises mark_cmp new
  pub rank : IsRank mark_cmp old m i
  pub lacks : Lacks old m
  pub is : new ≡ insert old i m

-- one of some marks went from its rank
pub record HasGone (m : Mark) (old : List Mark) (i : ℕ) (new : List Mark) : Type 0 where
  pub rises : Rises mark_cmp old
  pub rise : Rises mark_cmp new
  pub rank : IsRank mark_cmp old m i
  pub has : Contains old m
  pub is : new ≡ remove old i

-- one of some marks moved to a later place
pub record HasMoved (from to : Mark) (old : List Mark) (i j : ℕ) (new : List Mark) : Type 0 where
  pub rises : Rises mark_cmp old
  pub rise : Rises mark_cmp new
  pub rank : IsRank mark_cmp old from i
  pub there : IsRank mark_cmp (remove old i) to j
  pub has : Contains old from
  pub lacks : Lacks old to
  pub later : mark_cmp from to ≡ Less
  pub is : new ≡ insert (remove old i) j to
