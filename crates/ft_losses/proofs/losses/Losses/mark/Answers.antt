use Rattle.std.specs.Prelude.{Option, true}
use Rattle.std.specs.Option.{option_or}
use Rattle.std.proofs.Common.{◌≡◌, refl, subst, sym, ap, ◌∷◌, ◌∙◌, Some}
use Rattle.ft_event.specs.declared.mark.Mark.{Mark}
use Rattle.ft_losses.specs.Notes.{Marked}
use Rattle.ft_losses.specs.Telling.{IsKept}
use Rattle.ft_losses.specs.declared.hole.Beginning.{Beginning}
use Rattle.ft_losses.specs.declared.hole.Header.{Header}
use Rattle.ft_losses.proofs.Noting.{lost-more, started-more, overwritten-more, written-more, or-some}
use Rattle.ft_losses.proofs.losses.Losses.mark.Goals as goal

pub returns-in-Lost : goal.returns-in-Lost
returns-in-Lost c = λ notes keeps number.
    let old = c.args.self.now in
    subst (λ (m : Mark). IsKept c.report.new.lanes.items old.ended.items old.begins (Marked m ∷ notes)) (sym c.in-Lost.is)
    (lost-more old.lanes.items c.report.new.lanes.items old.ended.items old.ended.items old.begins old.begins c.args.line c.in-Lost.cpu notes refl number keeps c.in-Lost.count refl c.report.ensures.at)

pub returns-in-Started : goal.returns-in-Started
returns-in-Started c = λ notes keeps number.
    let old = c.args.self.now in
    let new = c.report-in-Started.new.lanes.items in
    let begins : Beginning = record { header = old.begins.header; is_marked = true } in
    subst (λ (m : Mark). IsKept new old.ended.items begins (Marked m ∷ notes)) (sym c.in-Started.is)
    (started-more old.lanes.items new old.ended.items old.ended.items old.begins begins c.args.line c.in-Started.cpu notes refl number keeps refl c.report-in-Started.ensures.at)

pub returns-in-Overwritten : goal.returns-in-Overwritten
returns-in-Overwritten c = λ notes keeps number.
    let old = c.args.self.now in
    let new = c.overwrite.new.lanes.items in
    subst (λ (m : Mark). IsKept new old.ended.items old.begins (Marked m ∷ notes)) (sym c.in-Overwritten.is)
    (overwritten-more old.lanes.items new old.ended.items old.ended.items old.begins old.begins c.in-Overwritten.cpu c.in-Overwritten.count notes refl refl c.overwrite.ensures.at keeps)

pub returns-in-Written : goal.returns-in-Written
returns-in-Written c = λ notes keeps number.
    let old = c.args.self.now in
    let header : Header = record { line = c.args.line; buffers = record { held = c.in-Written.held; written = c.in-Written.written } } in
    let begins : Beginning = record { header = Some c.unwrap_or.result; is_marked = old.begins.is_marked } in
    let is : Some c.unwrap_or.result ≡ option_or old.begins.header (Some header) = ap (λ h. Some h) c.unwrap_or.ensures ∙ or-some old.begins.header header in
    subst (λ (m : Mark). IsKept old.lanes.items old.ended.items begins (Marked m ∷ notes)) (sym c.in-Written.is)
    (written-more old.lanes.items old.lanes.items old.ended.items old.ended.items old.begins begins c.args.line c.in-Written.held c.in-Written.written notes number refl refl (ap (λ (h : Option Header). record { header = h; is_marked = old.begins.is_marked }) is) keeps)
