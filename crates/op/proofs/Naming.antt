-- The path of an entry can be kept: each of its names is one that an entry can have, and a path in a working buffer is not too long.
-- Assumes nothing.
use mathlib.Core.Option.{Option, none, some}
use mathlib.Core.Path.{◌≡◌, refl, ap, ◌∙◌, subst}
use Prim.Native.Nat.{ℕ, ◌≤◌}
use native.Mathlib.Omega.{arith}
use lib.Dec.{T, leb, le→leb}
use lib.ListN.{length, take, length-take}
use Rattle.text.specs.Utf8.{Bytes}
use Rattle.path.specs.Path.{names, body, path_fits, same}
use Rattle.path.proofs.Laws.{and_both, same_refl}
use Rattle.model.specs.Tree.{Path, Node, look}
use Rattle.model.specs.Prog.{Kind, kind?, answer, on_some, node_kind}
use Rattle.model.specs.Rules.{names_ok, path_ok}
use Rattle.model.specs.Calls.States.{State}
use Rattle.model.proofs.Entries.{clash}
use Rattle.layout.specs.Store.{Store, rows_of, kind_at, state}
use Rattle.layout.specs.Lawful.{Lawful, cell_ok}
use Rattle.layout.proofs.Entered.{entry}
use Rattle.layout.proofs.Roots.{all_named}
use Rattle.ask_entry.specs.Reads.{PathIs}
use Rattle.edit_room.specs.Extents.{trim}
use Rattle.store.specs.Shows.{Shows, says}
use Rattle.store.proofs.Asked.{told}
use Rattle.walk.specs.Meets.{Plain}

-- an entry's names, in a store that obeys the rules
tree-named : (st : Store) → Lawful st → (p : Path) (k : Kind) → says (kind? p) (state st) ≡ some k → T (names_ok p)
unfolding answer
tree-named st l p k e = go (look (state st).tree p) refl e
  where
    go : (o : Option Node) → look (state st).tree p ≡ o → on_some {B = Kind} o (λ n. some (node_kind n)) ≡ some k → T (names_ok p)
    go none x y = clash none k refl y
    go (some m) x y = let a = entry st l p m x in all_named (kind_at st) (length st.heads) (rows_of st) l.entries p a.row a.at

-- and in a state that is shown
pub shown-named : (st : Store) (s : State) → Shows st s → (p : Path) (k : Kind) → says (kind? p) s ≡ some k → T (names_ok p)
shown-named st s h p k e = tree-named (trim st) h.roomy.lawful p k (told st s h (kind? p) ∙ e)

-- a text of such names in front of a buffer, as it is kept
pub cell_of : (s : Bytes) → Plain s → length s ≤ 1024 → T (names_ok (names s)) → T (cell_ok s)
unfolding cell_ok path_ok path_fits
cell_of s b n h =
    and_both (path_ok (names s)) (same (body (names s)) s)
    (and_both (names_ok (names s)) (leb (length (body (names s))) 1024) h (le→leb (length (body (names s))) 1024 (omega (arith, n, ap length b))))
    (subst (λ (t : Bytes). T (same (body (names s)) t)) b (same_refl (body (names s))))

-- the front of a buffer is no longer than it is cut
pub short-front : (n : ℕ) (out : Bytes) → n ≤ 1024 → length (take n out) ≤ 1024
short-front n out h = omega (arith, length-take n out, h)

-- a path as it is kept stands in a buffer as it is
pub path-plain : (p : Path) (r : Bytes) → PathIs p r → Plain r
path-plain p r h = ap body h.names ∙ h.body
