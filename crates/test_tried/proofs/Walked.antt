-- A path walked from the root, name by name: the names that were passed are those of the record's path. So a record that a whole kept
-- path leads to is the entry at the path.
-- Assumes nothing.
use mathlib.Core.Bool.{Bool, true, false}
use mathlib.Core.List.{List, [], ◌∷◌, ◌++◌}
use mathlib.Core.Option.{some}
use mathlib.Core.Path.{◌≡◌, refl, sym, ap, ◌∙◌}
use Prim.Native.Nat.{ℕ, ◌+◌, ◌<◌}
use native.Mathlib.Omega.{arith}
use lib.Dec.{T}
use lib.ListN.{length, take, get_or}
use lib.Seq.{take_all}
use Rattle.std.proofs.lemmas.List.{take_more, nil_from_length}
use Rattle.std.specs.Prelude.{IfSome}
use Rattle.std.specs.Bool.{then_some}
use Rattle.text.specs.Utf8.{Bytes}
use Rattle.path.specs.Path.{Name, pieces, names}
use Rattle.model.specs.Tree.{Path, file, look}
use Rattle.layout.specs.Store.{Store, count, meta_at, bytes_at, kind_at, node_by, state}
use Rattle.layout.specs.Lawful.{Lawful, cell_ok}
use Rattle.lawful.proofs.KeptPaths.{cell-pieces}
use Rattle.layout.specs.Parts.{path_after}
use Rattle.ask_find.specs.Paths.{slot_at, path_at}
use Rattle.ask_find.proofs.Records.{path_next, root-path, path-look}
use Rattle.test_tried.specs.Tried.{ChildOf, LedTo}

-- the first n names lead to record i
pub record Walked (st : Store) (ns : List Name) (n i : ℕ) : Type 0 where
  pub within : i < count st
  pub path : path_at st i ≡ take n ns

pub walked_none : (st : Store) → Lawful st → (ns : List Name) → 0 < count st → Walked st ns 0 0
unfolding path_after
walked_none st l ns h = record { within = h; path = path_next st l 0 h ∙ root-path st l h }

pub walked_more : {st : Store} {ns : List Name} {n m i j : ℕ} {x : Name} → Walked st ns n i → m ≡ n + 1 → (n < length ns) × (x ≡ get_or ns n x) → ChildOf st i x j → Walked st ns m j
walked_more {st} {ns} {n} {m} {x = x} w z t c =
    let y : path_at st _ ++ (x ∷ []) ≡ take n ns ++ (get_or ns n x ∷ []) = λ k. w.path k ++ (t.1 k ∷ []) in
    record { within = c.within; path = c.path ∙ y ∙ sym (take_more ns n x t.0) ∙ ap (λ k. take k ns) (sym z) }

-- an empty path leads to the root
pub led_none : (st : Store) → Lawful st → (s : Bytes) → length s ≡ 0 → 0 < count st → LedTo st s 0
unfolding pieces
led_none st l s z h =
    let w = walked_none st l [] h in
    record { within = h; path = ap pieces (nil_from_length s z) ∙ ap (λ (p : Path). [] ∷ p) (sym w.path) }

-- a slash and all the names lead to the record
pub led_all : {st : Store} {s t : Bytes} {n i : ℕ} → s ≡ 47 ∷ t → Walked st (pieces t) n i → n ≡ length (pieces t) → LedTo st s i
unfolding pieces
led_all {s = s} {t} {n} e w z = record { within = w.within; path = ap pieces e ∙ ap (λ (p : Path). [] ∷ p) (sym (w.path ∙ take_all n (pieces t) (omega (arith, z)))) }

-- a slot that is given where a test is passed, of the file at the path
pub if-file : (st : Store) (s : Bytes) (b : Bool) (k : ℕ) → (b ≡ true → (k < length st.heads) × (look (state st).tree (names s) ≡ some (file k)))
    → IfSome (then_some b k) (λ j. (j < length st.heads) × (look (state st).tree (names s) ≡ some (file j)))
if-file st s true k f = f refl
if-file st s false k f = tt

pub file_at_lem : (st : Store) → Lawful st → (s : Bytes) (i k : ℕ) → T (cell_ok s) → LedTo st s i → k ≡ slot_at st i → kind_at st k ≡ 2
    → look (state st).tree (names s) ≡ some (file k)
file_at_lem st l s i k t w z d =
    let y : [] ∷ names s ≡ [] ∷ path_at st i = sym (cell-pieces s t).0 ∙ w.path in
    let n : names s ≡ path_at st i = cc in
    ap (look (state st).tree) n ∙ path-look st l i w.within ∙ ap (λ (j : ℕ). some (node_by (kind_at st j) j (meta_at st j) (bytes_at st j))) (sym z) ∙ ap (λ (b : ℕ). some (node_by b k (meta_at st k) (bytes_at st k))) d
