-- `sifting::drop_names` meets its contract. The loop's invariant: path[..h] is the text of some names, and what is asked is these
-- without as many of their last as there are turns left.
use mathlib.Core.List.{List}
use mathlib.Core.Path.{◌≡◌}
use Prim.Native.Nat.{◌-◌, ◌≤◌}
use lib.ListN.{length, take}
use Rattle.path.specs.Path.{Name, names, body}
use Rattle.path.specs.Backward.{drop_n}
use Rattle.path.proofs.Cutting.{NoSlash}
use Rattle.path.proofs.Every.{Every}
use Rattle.path_scan.proofs.sifting.drop_names.Given as goal

abbrev pub invariant-loop : goal.invariant-loop
invariant-loop l =
    (cur : List Name) × Every NoSlash cur × (l.h ≤ length l.path) × (take l.h l.path ≡ body cur)
    × (drop_n l.k (names l.path) ≡ drop_n (l.k - l.counter) cur)
