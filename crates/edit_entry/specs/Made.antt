-- What a new entry is, in the model's words.
-- Assumes nothing.
use Rattle.std.specs.Prelude.{[], T}
use Rattle.text.specs.Utf8.{Bytes}
use Rattle.model.specs.Tree.{Path, Meta}
use Rattle.model.specs.Prog.{Edit, make, create, symlink}
use Rattle.model.specs.Rules.{target_ok}
use Rattle.layout.specs.declared.kind.Kind.{Kind}
use Rattle.layout.specs.declared.kind.Kind.TheVariants as kind
use Rattle.edit_entry.specs.declared.made.Fresh.{Fresh}
use Rattle.edit_entry.specs.declared.made.Made.{Made}
use Rattle.edit_entry.specs.declared.made.Made.TheVariants.{Directory, File, Link}
use Rattle.edit_entry.specs.Growth.{new_meta}

-- its kind
abbrev pub kind_made : Made → Kind
kind_made Directory = kind.Directory
kind_made (File c) = kind.File
kind_made (Link c) = kind.Link

-- the bytes of its slot
abbrev pub bytes_made : Made → Bytes
bytes_made Directory = []
bytes_made (File c) = c.now
bytes_made (Link c) = c.now

-- a link holds a target
abbrev pub Holds : Made → Type 0
Holds Directory = Unit {0}
Holds (File c) = Unit {0}
Holds (Link c) = T (target_ok c.now)

-- its metadata
abbrev pub fresh_meta : Fresh → Meta
fresh_meta f = new_meta f.mode f.time

-- the edit of the model
abbrev pub insertion : Made → Fresh → Path → Edit
insertion Directory f p = make p (fresh_meta f)
insertion (File c) f p = create p (record { meta = fresh_meta f; bytes = c.now })
insertion (Link c) f p = symlink p (fresh_meta f) c.now
