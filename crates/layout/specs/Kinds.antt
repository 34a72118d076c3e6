-- The kind of an entry: its number in the word of a slot, and the model's.
-- Assumes nothing.
use Rattle.std.specs.Prelude.{ℕ, Option, Some, None, cond, eqb}
use Rattle.model.specs.Prog as model
use Rattle.layout.specs.Fields.{kind_of}
use Rattle.layout.specs.declared.kind.Kind.{Kind}
use Rattle.layout.specs.declared.kind.Kind.TheVariants.{Directory, File, Link}

-- the number in the word of a slot
abbrev pub code_of : Kind → ℕ
code_of Directory = 1
code_of File = 2
code_of Link = 3

-- the kind of a number, if it is one's
abbrev pub kind_numbered : ℕ → Option Kind
kind_numbered n = cond (eqb n 1) (Some Directory) (cond (eqb n 2) (Some File) (cond (eqb n 3) (Some Link) None))

-- the kind in the word of a slot
abbrev pub kind_held : ℕ → Option Kind
kind_held h = kind_numbered (kind_of h)

-- the model's
abbrev pub kind_from : Kind → model.Kind
kind_from Directory = model.a_dir
kind_from File = model.aFile
kind_from Link = model.a_link
