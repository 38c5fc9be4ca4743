-- A key that came in saves at each hit, one that went out at none, and one that stayed as it did.
use Rattle.std.proofs.Common.{◌≡◌, Bool, true, false, List, refl, sym, ap, ◌∙◌, arith}
use mathlib.Core.Bool.{beq}
use Rattle.ft_fields.specs.Places.{pos_cmp}
use Rattle.ft_fields.specs.declared.key.Part.{Part}
use Rattle.ft_maps.specs.Seen.{seen}
use Rattle.ft_pairs.specs.Edits.{reads_alone}
use Rattle.ft_table.specs.Tabled.{is_in}
use Rattle.ft_shelves.specs.Edits.{OpsChange}
use Rattle.ft_shelves.specs.Following.{with_saves}
use Rattle.ft_shelves.specs.Shelves.{Shelved}
use Rattle.ft_shelves.proofs.Followed.{key_follows, key_stays}
use Rattle.ft_shelves.proofs.OneKey.{ops_change}
use Rattle.ft_shelves.proofs.shelf.Shelf.follow_table.Goals as goal

-- whether a key is in the table that is kept
in_table : (shelf old : Shelved) (key : List Part) (b : Bool) → shelf ≡ old → b ≡ is_in shelf.table key → is_in old.table key ≡ b
in_table shelf old key b is now = ap (λ (s : Shelved). is_in s.table key) (sym is) ∙ sym now

same : (now was : Bool) → beq now was ≡ true → now ≡ was
same now was e = grind arith

other : (now was b c : Bool) → beq now was ≡ false → now ≡ b → beq b c ≡ false → was ≡ c
other now was b c e is apart = grind arith

pub returns-then-is_in-was_in-clause-ok : goal.returns-then-is_in-was_in-clause-ok
returns-then-is_in-was_in-clause-ok c =
    key_stays c.args.id c.args.key c.in-Some.moved c.args.was_in c.args.self.now c.in-Some.is (in_table _ c.args.self.now c.in-Some.moved c.args.was_in c.self.view_is (sym (same _ _ c.if-is_in-was_in.true) ∙ c.is_in-is_in.ensures))

pub returns-then-is_in-clause-ok : goal.returns-then-is_in-clause-ok
returns-then-is_in-clause-ok c =
    let old = c.args.self.now in
    let key = c.in-Some.moved in
    let put : OpsChange key (with_saves old.table.hits c.args.id key) old c.put_saves.new.self = c.in_ok-put_saves.ensures.ok in
    key_follows c.args.id c.args.key key c.args.was_in false true old c.put_saves.new.self c.in-Some.is (other _ _ true false c.if-is_in-was_in.false c.if-is_in.true refl)
    (in_table _ old key true c.self.view_is (sym c.if-is_in.true ∙ c.is_in-is_in.ensures)) put

pub returns-clause-ok : goal.returns-clause-ok
returns-clause-ok c =
    let inside = c.self.inside in
    let old = c.args.self.now in
    let key = c.in-Some.moved in
    key_follows c.args.id c.args.key key c.args.was_in true false old _ c.in-Some.is (other _ _ false true c.if-is_in-was_in.false c.if-is_in.false refl)
    (in_table _ old key false c.self.view_is (sym c.if-is_in.false ∙ c.is_in-is_in.ensures))
    (ops_change key reads_alone inside.role inside.table (seen pos_cmp inside.readings) inside.pairs c.remove_key.new.self old c.self.view_is c.remove_key.ensures)
