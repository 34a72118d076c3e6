-- `free_one` meets its contract. Assumes nothing.
use mathlib.Core.Path.{◌∙◌, sym}
use Rattle.edit_entry.proofs.Clears.{stands-asked, one_held, one_freed}
use Rattle.edit_entry.proofs.removing.free_one.Goals as goal

pub returns-then-is_held : goal.returns-then-is_held
returns-then-is_held c =
    let g = c.args in
    one_held g.words.now g.s g.heads.now g.bytes.now (stands-asked g.words.now g.s _ (sym c.if-is_held.true ∙ c.is_held.ensures))

pub returns : goal.returns
returns c =
    let g = c.args in
    one_freed g.words.now g.s g.heads.now g.bytes.now _ _ c.requires.1 (stands-asked g.words.now g.s _ (sym c.if-is_held.false ∙ c.is_held.ensures)) c.clear.ensures
