-- A lawful store spells a state in which each path, file and number stands once, a name and a number lead to a file, and each file
-- has one of them.
-- Assumes nothing.
use mathlib.Core.Option.{some}
use mathlib.Core.Path.{◌≡◌, sym, ◌∙◌, subst}
use Prim.Native.Nat.{ℕ, ◌-◌, ◌≤◌}
use native.Mathlib.Omega.{arith}
use lib.ListN.{length}
use Rattle.model.specs.Tree.{Path, file, Open, look, open_of}
use Rattle.model.proofs.Demand.OverEdits.{dir_no_file, link_no_file}
use Rattle.model.specs.Shaped.{HasFile, Shaped}
use Rattle.layout.specs.Store.{Store, holder, rows_of, meta_at, bytes_at, kind_at, node_at, state}
use Rattle.layout.specs.Lawful.{uses, Lawful}
use Rattle.layout.proofs.Entered.{slot, has_file, entry, one_name_lem, file-slot, file-used, stood}
use Rattle.layout.proofs.Roots.{all_once}
use Rattle.layout.proofs.Slotted.{SlotOf, free, directory, named, removed, target, dir_at, link_at}
use Rattle.layout.proofs.Tables.{file_at, file-found, files-once, open-found, opens-once}

module _ (st : Store) (l : Lawful st) where
  -- the slot of an entry that is a file is of that kind
  kind-file : (k i : ℕ) → 1 ≤ uses k (rows_of st) → SlotOf st k → node_at st k ≡ file i → kind_at st k ≡ 2
  kind-file k i u (free e x y w) d = absurd (omega arith)
  kind-file k i u (directory e x y w) d = absurd (dir_no_file (meta_at st k) i (sym (dir_at st k e) ∙ d))
  kind-file k i u (named e y) d = e
  kind-file k i u (removed e y w) d = e
  kind-file k i u (target e t y w) d = absurd (link_no_file (meta_at st k) (bytes_at st k) i (sym (link_at st k e) ∙ d))

  name-file : (p : Path) (i : ℕ) → look (state st).tree p ≡ some (file i) → HasFile (state st).files i
  name-file p i e =
      let a = entry st l p (file i) e in
      let k = a.row.slot in
      let s = slot st l k a.low in
      let c = file-slot st l k i a.used s a.node in
      subst (HasFile (state st).files) c.0 (file_at st k, has_file st l k a.low (kind-file k i a.used s a.node))

  number-file : (n : ℕ) (o : Open) → open_of (state st).opens n ≡ some o → HasFile (state st).files o.id
  number-file n o e =
      let h = open-found st 32 0 n o e in
      let a = stood st l n (omega arith) h.holds in
      let k = holder st n - 1 in
      subst (λ (b : Open). HasFile (state st).files b.id) (sym h.number) (file_at st k, has_file st l k (omega (arith, a.one, a.low)) a.kind)

  pub lawful-shape : Shaped (state st)
  lawful-shape =
      record {
        paths = all_once (kind_at st) (length st.heads) (node_at st) (rows_of st) l.entries;
        files = files-once st (length st.heads) 0;
        numbers = opens-once st 32 0;
        nodes = name-file;
        one_name = one_name_lem st l;
        stands = number-file;
        used = λ i f e. let h = file-found st (length st.heads) 0 i f e in file-used st l i h.kind (slot st l i (omega arith));
      }
