-- The rows of entries in order, one slot after the other: they are a walk, the walk gives the paths back, and depth and name fit
-- their fields, since each entry is at most one deeper than the one before it.
-- Assumes nothing.
use mathlib.Core.Bool.{Bool, true, ◌&&◌}
use mathlib.Core.List.{List, [], ◌∷◌}
use mathlib.Core.Logic.{◌⊎◌, inl, inr}
use mathlib.Core.Option.{none, some}
use mathlib.Core.Path.{◌≡◌, refl, sym, ap, ◌∙◌, subst}
use Prim.Native.Nat.{ℕ, suc, ◌+◌, ◌≤◌, ◌<◌}
use native.Mathlib.Omega.{arith}
use lib.Dec.{T, eqb, ltb, lt→ltb}
use lib.ListN.{length}
use borrow.Author.Tests.{eq-eqb}
use Rattle.path.specs.Path.{last_name}
use Rattle.path.proofs.Laws.{and_left, and_both}
use Rattle.model.specs.Tree.{Path, Node, dir, file, link, Entries, look}
use Rattle.model.specs.Prog.{is_nil}
use Rattle.model.specs.Calls.States.{State}
use Rattle.model.specs.Rules.{name_ok, names_ok, Obeys}
use Rattle.model.proofs.Entries.{clash, some_inj, path-dec, look-here, look_past}
use Rattle.model.proofs.Sound.Worlds.{IsDir}
use Rattle.model.proofs.Sound.Entries.{names_right}
use Rattle.model.proofs.Sound.Paths.{name-parts}
use Rattle.layout.specs.Rows.{Row, path_by, path_of, tree_from}
use Rattle.layout.specs.Lawful.{follows, entry_ok, walk_ok, root_ok, rows_ok}
use Rattle.layout.proofs.Rising.{Rises, rise-apart, rise_both, rise_under}
use Rattle.layout.proofs.Homes.{Within}
use Rattle.layout.proofs.Climbing.{Climbs, Ascends, none_below}
use Rattle.layout.proofs.Spelled.Spelling.{Parts, parts, Step, step, no_rise}

-- the rows of entries, from slot k on
unfoldable pub rows_from : ℕ → Entries → List Row
rows_from k [] = []
rows_from k (e ∷ t) = record { depth = length e.0; name = last_name e.0; slot = k } ∷ rows_from (suc k) t

-- entries with other nodes
unfoldable pub renamed : (Node → Node) → Entries → Entries
renamed g [] = []
renamed g (e ∷ t) = (e.0, g e.1) ∷ renamed g t

-- the kind of a node in a slot's word
abbrev pub kind_num : Node → ℕ
kind_num (dir m) = 1
kind_num (file i) = 2
kind_num (link m s) = 3

-- what the slots hold, from slot k on
abbrev pub Holds : (ℕ → ℕ) → (ℕ → Node) → (Node → Node) → ℕ → Entries → Type 0
Holds kind f g k [] = Unit {0}
Holds kind f g k (e ∷ t) = (kind k ≡ kind_num e.1) × (f k ≡ g e.1) × Holds kind f g (suc k) t

-- each row fits its word
abbrev pub Fit : List Row → Type 0
Fit [] = Unit {0}
Fit (r ∷ rs) = (r.depth < 65536) × (length r.name < 256) × (r.slot < 65536) × Fit rs

module _ (s : State) (o : Obeys s) (kind : ℕ → ℕ) (n : ℕ) (few : n ≤ 65536) (f : ℕ → Node) (g : Node → Node) where
  -- entries behind the path Q, all that stand in the tree behind it
  record Going (Q : Path) (d : Bool) (es : Entries) : Type 0 where
    within : Within es s.tree
    rest : (q : Path) (m : Node) → look s.tree q ≡ some m → (q ≡ Q) ⊎ (Rises q Q ⊎ (look es q ≡ some m))
    known : IsDir s.tree Q → d ≡ true
    climbs : Climbs Q es

  -- what the rows of entries are
  record Walk (k : ℕ) (Q : Path) (d : Bool) (es : Entries) : Type 0 where
    ok : T (walk_ok kind n Q d (rows_from k es))
    tree : tree_from f Q (rows_from k es) ≡ renamed g es
    fit : Fit (rows_from k es)

  -- the directory of the next entry is before it, so not behind Q
  module _ (Q : Path) (d : Bool) (e : Path × Node) (es : Entries) (h : Going Q d (e ∷ es)) where
    here : look s.tree e.0 ≡ some e.1
    here = h.within e.0 e.1 (look-here e es e.0 refl)

    apart : Parts e.0
    apart = parts e.0 (λ z. no_rise Q (subst (λ (q : Path). Rises Q q) z h.climbs.0))

    housed : IsDir s.tree apart.home
    housed = o.parents apart.home (last_name e.0) e.1 (ap (look s.tree) apart.all ∙ here)

    up : Rises apart.home e.0
    up = subst (λ (q : Path). Rises apart.home q) apart.all (rise_under apart.home (last_name e.0))

    not-later : look (e ∷ es) apart.home ≡ none
    not-later = look_past e es apart.home (λ z. rise-apart apart.home e.0 up (sym z)) ∙ none_below e.0 es h.climbs.1 apart.home (inr up)

    home-before : (apart.home ≡ Q) ⊎ Rises apart.home Q
    home-before = go (h.rest apart.home (dir housed.0) housed.1)
      where
        go : (apart.home ≡ Q) ⊎ (Rises apart.home Q ⊎ (look (e ∷ es) apart.home ≡ some (dir housed.0))) → (apart.home ≡ Q) ⊎ Rises apart.home Q
        go (inl z) = inl z
        go (inr (inl r)) = inr r
        go (inr (inr z)) = clash (look (e ∷ es) apart.home) (dir housed.0) not-later z

    stepped : Step Q d (length e.0) (last_name e.0) e.0
    stepped = step Q e.0 d apart h.climbs.0 home-before (λ z. h.known (subst (λ (q : Path). IsDir s.tree q) z housed))

    name : T (name_ok (last_name e.0))
    unfolding names_ok
    name =
        and_left (name_ok (last_name e.0)) true
        (names_right apart.home (last_name e.0 ∷ []) (subst (λ (q : Path). T (names_ok q)) (sym apart.all) (o.named e.0 e.1 here)))

    going_next : (b : Bool) → (IsDir s.tree e.0 → b ≡ true) → Going e.0 b es
    going_next b known =
        record {
          within = λ q m z. h.within q m (look_past e es q (λ y. clash (look es q) m (none_below e.0 es h.climbs.1 q (inl (sym y))) z) ∙ z);
          rest = λ q m z. behind q m (h.rest q m z);
          known = known;
          climbs = h.climbs.1;
        }
      where
        behind : (q : Path) (m : Node) → (q ≡ Q) ⊎ (Rises q Q ⊎ (look (e ∷ es) q ≡ some m)) → (q ≡ e.0) ⊎ (Rises q e.0 ⊎ (look es q ≡ some m))
        behind q m (inl z) = inr (inl (subst (λ (r : Path). Rises r e.0) (sym z) h.climbs.0))
        behind q m (inr (inl r)) = inr (inl (rise_both q Q e.0 r h.climbs.0))
        behind q m (inr (inr z)) = two (path-dec e.0 q)
          where
            two : Dec (e.0 ≡ q) → (q ≡ e.0) ⊎ (Rises q e.0 ⊎ (look es q ≡ some m))
            two (yes y) = inl (sym y)
            two (no y) = inr (inr (sym (look_past e es q y) ∙ z))

    -- its slot says whether it is a directory
    knows : (k : ℕ) → kind k ≡ kind_num e.1 → IsDir s.tree e.0 → eqb (kind k) 1 ≡ true
    knows k z m = eq-eqb (kind k) 1 (z ∙ ap kind_num (some_inj (sym here ∙ m.1)))

  walk : (k : ℕ) (Q : Path) (d : Bool) (es : Entries) → length Q < k → k + length es ≤ n → Going Q d es → Holds kind f g k es → Walk k Q d es
  unfolding rows_from renamed walk_ok tree_from
  walk k Q d [] low high h c = record { ok = tt; tree = refl; fit = tt }
  walk k Q d (e ∷ es) low high h c =
      let t = stepped Q d e es h in
      let w = walk (suc k) e.0 (eqb (kind k) 1) es (omega (arith, t.short)) (omega arith) (going_next Q d e es h (eqb (kind k) 1) (knows Q d e es h k c.0)) c.2 in
      let r : Row = record { depth = length e.0; name = last_name e.0; slot = k } in
      record {
        ok = and_both (entry_ok n Q d r) (walk_ok kind n (path_of Q r) (eqb (kind k) 1) (rows_from (suc k) es))
            (and_both (ltb k n) (name_ok (last_name e.0) && follows Q d (length e.0) (last_name e.0)) (lt→ltb k n (omega arith))
            (and_both (name_ok (last_name e.0)) (follows Q d (length e.0) (last_name e.0)) (name Q d e es h) t.stands))
            (subst (λ (p : Path). T (walk_ok kind n p (eqb (kind k) 1) (rows_from (suc k) es))) (sym t.path) w.ok);
        tree = ap (λ (p : Path). (p, f k) ∷ tree_from f p (rows_from (suc k) es)) t.path
            ∙ ap (λ (m : Node). (e.0, m) ∷ tree_from f e.0 (rows_from (suc k) es)) c.1
            ∙ ap (λ (l : Entries). (e.0, g e.1) ∷ l) w.tree;
        fit = (omega (arith, t.short), omega (arith, (name-parts (last_name e.0) (name Q d e es h)).short), omega arith, w.fit);
      }

  -- ---- all entries

  -- what the rows of the tree are
  pub record Rows (t : Entries) : Type 0 where
    pub ok : T (rows_ok kind n (rows_from 0 t))
    pub tree : tree_from f [] (rows_from 0 t) ≡ renamed g t
    pub fit : Fit (rows_from 0 t)

  -- the first entry is the root: its directory would stand before it
  first_root : (e : Path × Node) (es : Entries) → s.tree ≡ e ∷ es → Climbs e.0 es → e.0 ≡ []
  first_root e es z c = go (path-dec e.0 [])
    where
      there : look s.tree e.0 ≡ some e.1
      there = ap (λ (t : Entries). look t e.0) z ∙ look-here e es e.0 refl

      go : Dec (e.0 ≡ []) → e.0 ≡ []
      go (yes y) = y
      go (no y) =
          let a = parts e.0 y in
          let h = o.parents a.home (last_name e.0) e.1 (ap (look s.tree) a.all ∙ there) in
          let up : Rises a.home e.0 = subst (λ (q : Path). Rises a.home q) a.all (rise_under a.home (last_name e.0)) in
          clash (look s.tree a.home) (dir h.0)
          (ap (λ (t : Entries). look t a.home) z ∙ look_past e es a.home (λ x. rise-apart a.home e.0 up (sym x)) ∙ none_below e.0 es c a.home (inr up)) h.1

  rows_of : (t : Entries) → s.tree ≡ t → Ascends t → length t ≤ n → Holds kind f g 0 t → Rows t
  unfolding rows_from renamed rows_ok tree_from
  rows_of [] z a low c = record { ok = tt; tree = refl; fit = tt }
  rows_of (e ∷ es) z a low c =
      let y = first_root e es z a in
      let at : look s.tree [] ≡ some e.1 = ap (λ (t : Entries). look t []) z ∙ look-here e es [] y in
      let m = o.root e.1 at in
      let kd : kind 0 ≡ 1 = c.0 ∙ ap kind_num m.1 in
      let b = subst (λ (q : Path). Climbs q es) y a in
      let w = walk 1 [] true es (omega arith) (omega arith)
      (record {
        within = λ q k x. ap (λ (t : Entries). look t q) z ∙ look_past e es q (λ u. clash (look es q) k (none_below e.0 es a q (inl (sym u))) x) ∙ x;
        rest = λ q k x. behind q k y (ap (λ (t : Entries). look t q) (sym z) ∙ x) (path-dec e.0 q);
        known = λ _. refl;
        climbs = b;
      }) c.2 in
      let r : Row = record { depth = length e.0; name = last_name e.0; slot = 0 } in
      let p : path_of [] r ≡ [] = ap (λ (q : Path). path_by (length q) [] (last_name q)) y in
      record {
        ok = and_both (root_ok kind n r) (walk_ok kind n [] true (rows_from 1 es)) (subst (λ (q : Path). T (eqb (length q) 0 && (is_nil (last_name q) && (ltb 0 n && eqb (kind 0) 1)))) (sym y) (root kd)) w.ok;
        tree = ap (λ (q : Path). (q, f 0) ∷ tree_from f q (rows_from 1 es)) p
            ∙ ap (λ (k : Node). ([], k) ∷ tree_from f [] (rows_from 1 es)) c.1
            ∙ ap (λ (l : Entries). ([], g e.1) ∷ l) w.tree
            ∙ ap (λ (q : Path). (q, g e.1) ∷ renamed g es) (sym y);
        fit = (omega (arith, ap length y), omega (arith, lastless e.0 y), omega arith, w.fit);
      }
    where
      behind : (q : Path) (k : Node) → e.0 ≡ [] → look (e ∷ es) q ≡ some k → Dec (e.0 ≡ q) → (q ≡ []) ⊎ (Rises q [] ⊎ (look es q ≡ some k))
      behind q k y x (yes u) = inl (sym u ∙ y)
      behind q k y x (no u) = inr (inr (sym (look_past e es q u) ∙ x))

      root : kind 0 ≡ 1 → T (is_nil (last_name []) && (ltb 0 n && eqb (kind 0) 1))
      root kd = unfold last_name in and_both (ltb 0 n) (eqb (kind 0) 1) (lt→ltb 0 n (omega arith)) (subst (λ (b : Bool). T b) (sym (eq-eqb (kind 0) 1 kd)) tt)

      lastless : (q : Path) → q ≡ [] → length (last_name q) ≡ 0
      lastless q y = ap (λ (r : Path). length (last_name r)) y ∙ unfold last_name in refl

  pub tree-rows : Ascends s.tree → length s.tree ≤ n → Holds kind f g 0 s.tree → Rows s.tree
  tree-rows a low c = rows_of s.tree refl a low c
