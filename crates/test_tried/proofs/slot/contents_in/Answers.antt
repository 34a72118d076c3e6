-- `contents_in` asks what the edit asks, and what is left is a store.
-- Assumes nothing.
use mathlib.Core.Path.{refl, sym, subst}
use Rattle.layout.specs.Alike.{HasSlot}
use Rattle.ask_find.specs.Paths.{path_at}
use Rattle.ask_find.proofs.Records.{path-slot}
use Rattle.edit_room.specs.Extents.{trim}
use Rattle.test_tried.proofs.Asking.{stored, roomy-again}
use Rattle.test_tried.proofs.slot.contents_in.Goals as goal

pub set_contents-requires : goal.set_contents-requires
set_contents-requires c = (trim (stored c.requires), c.requires.lawful, c.in-Some.ensures.2)

pub returns : goal.returns
returns c =
    let st = trim (stored c.requires) in
    let l = c.requires.lawful in
    let s = c.in-Some.ensures in
    let x = c.set_contents in
    let z = (x.ensures st l s.2).by_name (path_at st c.args.i) (subst (HasSlot st (path_at st c.args.i)) (sym s.1) (path-slot st l c.args.i s.0)) in
    roomy-again c.requires x.auto.heads refl z.lawful
