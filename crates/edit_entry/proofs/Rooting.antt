-- The root of an empty tree, by the same steps as any other entry.
-- Assumes nothing.
use mathlib.Core.List.{List, []}
use mathlib.Core.Option.{none}
use mathlib.Core.Path.{◌≡◌, ap, ◌∙◌, subst}
use Prim.Native.Nat.{ℕ}
use native.Mathlib.Omega.{arith}
use lib.ListN.{length, take, drop}
use Rattle.model.specs.Tree.{look}
use Rattle.model.proofs.Entries.{look_none}
use Rattle.layout.specs.Fields.{kind_of}
use Rattle.layout.specs.Rows.{Row, rows, name_total, tree_from}
use Rattle.layout.specs.Store.{Store, count, rows_of, kind_at, node_at, state}
use Rattle.layout.specs.Lawful.{Lawful}
use Rattle.edit_entry.specs.Filling.{head_made}
use Rattle.edit_entry.specs.Growth.{root_row, new_meta, Grown}
use Rattle.edit_entry.specs.Insertion.{Insertable, MayRoot, Placed, MayPut, PutAt, Rooted}
use Rattle.edit_entry.proofs.Growing.{new-head}
use Rattle.edit_entry.proofs.Grows.{grown-dir}
use Rattle.edit_entry.proofs.Inserts.{kind-made, mode-made, slot_ok_lem}
use Rattle.edit_entry.specs.declared.made.Fresh.{Fresh}
use Rattle.edit_entry.specs.declared.made.Made.TheVariants.{Directory}
use Rattle.model.specs.Prog.{make}
use Rattle.model.specs.Calls.States.{edited}
use Rattle.layout.specs.Alike.{Spells}
use Rattle.edit_entry.proofs.Places.{root-tree, root-rows}

module _ {st : Store} (l : Lawful st) (e : count st ≡ 0) where
  no_rows : rows_of st ≡ []
  unfolding rows
  no_rows = ap (λ (n : ℕ). rows (take n st.records) st.bytes) e

  no_names : name_total (take (count st) st.records) ≡ 0
  unfolding name_total
  no_names = ap (λ (n : ℕ). name_total (take n st.records)) e

  fits : Insertable st [] Directory
  fits =
      record {
        more = omega (arith, e, l.entry_limit.0);
        fits = omega (arith, no_names, l.space);
        holds = tt;
      }

  placed : Placed st 0 0 []
  placed = record { last = omega arith; small = omega arith; short = omega arith }

  module _ {st' : Store} {new : Fresh} (u : PutAt st st' 0 0 [] Directory new) where
    abbrev h : ℕ
    h = head_made Directory new

    made : Grown st st' [] [] (root_row u.slot) h [] new.time
    made = subst (λ (r : List Row). Grown st st' (take 0 r) (drop 0 r) (root_row u.slot) h [] new.time) no_rows u.grown

    root-kind : kind_of h ≡ 1
    root-kind = kind-made Directory new (omega arith)

    no-entry : look (state st).tree [] ≡ none
    unfolding tree_from
    no-entry = ap (λ (r : List Row). look (tree_from (node_at st) [] r) []) no_rows ∙ look_none []

    pub rooted : Rooted st st' new
    unfolding tree_from
    rooted =
        subst (λ (n : ℕ). Spells st' (edited (make [] (new_meta n new.time)) (state st))) (mode-made Directory new (omega arith))
        (grown-dir l made [] (λ f. root-tree f u.slot) (root-rows (kind_at st') (length st.heads) u.slot made.low (ap kind_of (new-head l made) ∙ root-kind))
        (slot_ok_lem l fits u) no-entry root-kind)

pub may-put-root : {st : Store} → Lawful st → MayRoot st → MayPut st 0 0 [] Directory
may-put-root l m = record { place = placed l m.empty; allowed = fits l m.empty; free = m.free }
