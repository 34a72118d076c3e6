-- Each path, each file and each number stands once, whatever is edited.
-- Assumes nothing.
use mathlib.Core.Option.{Option, none, some}
use Rattle.model.specs.Tree.{Node, dir, file, link, Open, look, open_of, new_id}
use Rattle.model.specs.Prog.{World, Edit, make, create, symlink, change, remove, take, give, opens, close, seek, change_held, go, umask, apply, change_at, opened_at, change_by}
use Rattle.model.specs.Rules.{Once, new_file, new_number}
use Rattle.model.proofs.Entries.{Apart, apart-put, apart-cut, apart_under, apart-give}
use Rattle.model.proofs.Demand.OverEdits.{close-here}
use Rattle.model.proofs.Sound.Files.{set-once, new-free, close-once, seek-once}

pub record Tidy (w : World) : Type 0 where
  pub tree : Apart w.at
  pub hand : Apart w.hand
  pub files : Once new_file w.files
  pub numbers : Once new_number w.opens

pub tidy-edit : (e : Edit) (w : World) → Tidy w → Tidy (apply e w)
unfolding apply
tidy-edit (make p m) w t = record { tree = apart-put p (dir m) w.at t.tree; hand = t.hand; files = t.files; numbers = t.numbers }
tidy-edit (create p f) w t =
    record { tree = apart-put p (file (new_id w.files)) w.at t.tree; hand = t.hand; files = (new-free w.files, t.files); numbers = t.numbers }
tidy-edit (symlink p m s) w t = record { tree = apart-put p (link m s) w.at t.tree; hand = t.hand; files = t.files; numbers = t.numbers }
tidy-edit (change p c) w t = at (look w.at p)
  where
    at : (o : Option Node) → Tidy (change_at w p c o)
    at none = t
    at (some (dir m)) = record { tree = apart-put p (dir _) w.at t.tree; hand = t.hand; files = t.files; numbers = t.numbers }
    at (some (file i)) = record { tree = t.tree; hand = t.hand; files = set-once i c w.files t.files; numbers = t.numbers }
    at (some (link m s)) = record { tree = apart-put p (link _ s) w.at t.tree; hand = t.hand; files = t.files; numbers = t.numbers }
tidy-edit (remove p) w t = record { tree = apart-cut p w.at t.tree; hand = t.hand; files = t.files; numbers = t.numbers }
tidy-edit (take p) w t = record { tree = apart-cut p w.at t.tree; hand = apart_under p w.at t.tree; files = t.files; numbers = t.numbers }
tidy-edit (give p) w t = record { tree = apart-give p w.hand w.at t.hand t.tree; hand = tt; files = t.files; numbers = t.numbers }
tidy-edit (opens n p k) w t = at (look w.at p)
  where
    at : (o : Option Node) → Tidy (opened_at w n p k o)
    at none = t
    at (some (dir m)) = t
    at (some (file i)) = record { tree = t.tree; hand = t.hand; files = t.files; numbers = (close-here n w.opens, close-once n w.opens t.numbers) }
    at (some (link m s)) = t
tidy-edit (close n) w t = record { tree = t.tree; hand = t.hand; files = t.files; numbers = close-once n w.opens t.numbers }
tidy-edit (seek n k) w t = record { tree = t.tree; hand = t.hand; files = t.files; numbers = seek-once n k w.opens t.numbers }
tidy-edit (change_held n c) w t = at (open_of w.opens n)
  where
    at : (o : Option Open) → Tidy (change_by w c o)
    at none = t
    at (some o) = record { tree = t.tree; hand = t.hand; files = set-once o.id c w.files t.files; numbers = t.numbers }
tidy-edit (go p) w t = record { tree = t.tree; hand = t.hand; files = t.files; numbers = t.numbers }
tidy-edit (umask m) w t = record { tree = t.tree; hand = t.hand; files = t.files; numbers = t.numbers }
