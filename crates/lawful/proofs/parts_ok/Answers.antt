-- `parts_ok` meets its contract, part by part.
-- Assumes nothing.
use mathlib.Core.Path.{subst}
use native.Mathlib.Omega.{arith}
use lib.Dec.{T}
use lib.ListN.{length}
use Rattle.lawful_entries.specs.Fits.{kind_in}
use Rattle.lawful.proofs.Slotting.{rows_within, kept-stand}
use Rattle.lawful.proofs.parts_ok.Goals as goal

pub slots_held-requires : goal.slots_held-requires
slots_held-requires c =
    let a = c.args.cut in
    (c.requires.0, c.requires.2, rows_within (kind_in a.heads.now) (length a.heads.now) a.records.now a.bytes.now (subst T c.if-not-entries_ok.ensures tt), kept-stand a.words.now a.paths.now (length a.heads.now) c.requires.2 c.if-not-kept_ok.ensures, omega arith, omega arith)
