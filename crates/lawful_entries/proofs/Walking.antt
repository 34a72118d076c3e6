-- The walk over the records: the path of an entry is what the spans of its depth say, and one step of the walk is one entry.
-- Assumes nothing.
use mathlib.Core.Bool.{Bool, true, false, ◌&&◌, cond, not}
use mathlib.Core.List.{List, [], ◌∷◌, ◌++◌}
use mathlib.Core.Path.{◌≡◌, refl, sym, ap, ◌∙◌, subst}
use Prim.Native.Nat.{ℕ, zero, suc, ◌+◌, ◌-◌, ◌*◌, ◌/◌, ◌%◌, ◌≤◌, ◌<◌}
use native.Mathlib.Numerals.{add-one}
use native.Mathlib.Omega.{arith}
use lib.Dec.{eqb, ltb}
use lib.ListN.{length, take, drop, get_or, set}
use lib.Seq.{take-take, take-suc-set, length-take-le}
use borrow.Author.Tests.{lt-ltb, le-ltb, eq-eqb, ne_eqb, ltb-true, eqb-true}
use Rattle.std.proofs.lemmas.Bool.{and_parts}
use Rattle.std.proofs.lemmas.List.{length-map, take-map, map_push}
use Rattle.std.proofs.lemmas.List.Elements.{All-nil, All-same, All-push, All-take}
use Rattle.text.specs.Utf8.{Bytes}
use Rattle.path.specs.Path.{Name, vanishes, is_up}
use Rattle.path.specs.Backward.{kind_by, kind_of}
use Rattle.path.specs.declared.pieces.Piece.TheVariants as kind
use Rattle.model.specs.Tree.{Path, precedes}
use Rattle.model.specs.Prog.{is_nil}
use Rattle.layout.specs.Fields.{depth_of, nlen_of, slot_of}
use Rattle.layout.specs.Rows.{Row, rows, name_total, path_by, path_of}
use Rattle.layout.specs.Lawful.{follows}
use Rattle.lawful_entries.specs.declared.span.Span.{Span}
use Rattle.lawful_entries.specs.Fits.{kind_in, form_ok, entry_fits, walk_fits, rows_fit, row_at, name_at, Within, spell, Spelt}
use Rattle.lawful_entries.proofs.Looking.{rows_at, rows_end, total_at}

-- ---- the path that spans say

module _ (bs : Bytes) (last : List Span) (d : ℕ) where
  pub path-length : d ≤ length last → length (spell bs (take d last)) ≡ d
  path-length l = simp length-map (length-take-le d last l)

  -- the first names of it, and one more
  front_more : (k : ℕ) (v : Span) → k ≤ d → k < length last → take (suc k) (set last k v) ≡ take k (take d last) ++ (v ∷ [])
  front_more k v a h = take-suc-set last k v h ∙ ap (λ (x : List Span). x ++ (v ∷ [])) (sym (take-take k d last a))

  -- as many names of it as the entry has directories below the root, and its own
  pub path_next : (k off n : ℕ) (v : Span) → k ≤ d → k < length last → name_at bs v ≡ take n (drop off bs)
      → take k (spell bs (take d last)) ++ (take n (drop off bs) ∷ []) ≡ spell bs (take (suc k) (set last k v))
  path_next k off n v a h e = sym (ap (spell bs) (front_more k v a h) ∙ map_push (name_at bs) (take k (take d last)) v ∙ rw (take-map (name_at bs) k (take d last), e))

  -- the spans stay within the bytes
  pub spelt_next : (m k : ℕ) (v : Span) → k ≤ d → k < length last → Within m v → Spelt m (take d last) → Spelt m (take (suc k) (set last k v))
  spelt_next m k v a h w s = All-same (Within m) _ _ (front_more k v a h) (All-push (Within m) (take k (take d last)) v (All-take (Within m) k (take d last) s) w)

-- ---- where an entry stands behind one of that path

module _ (p : Path) (dir : Bool) (x : Name) where
  pub follows-root : (dep : ℕ) → dep ≡ 0 → false ≡ follows p dir dep x
  follows-root dep e = rw e

  pub follows-beside : (dep : ℕ) → (dep ≡ 0 → ⊥) → dep - 1 < length p → precedes (get_or p (dep - 1) []) x ≡ follows p dir dep x
  follows-beside zero z h = absurd (z refl)
  follows-beside (suc k) z h =
      let y : suc k - 1 ≡ k = omega arith in
      let t : ltb k (length p) ≡ true = lt-ltb k (length p) (omega arith) in
      ap (λ (i : ℕ). precedes (get_or p i []) x) y ∙ ap (λ (b : Bool). cond b (precedes (get_or p k []) x) (eqb k (length p) && dir)) (sym t)

  deeper : (k : ℕ) → length p ≤ k → follows p dir (suc k) x ≡ eqb k (length p) && dir
  deeper k h = ap (λ (b : Bool). cond b (precedes (get_or p k []) x) (eqb k (length p) && dir)) (le-ltb k (length p) h)

  pub follows-deep : (dep : ℕ) → (dep ≡ 0 → ⊥) → length p ≤ dep - 1 → (dep - 1 ≡ length p → ⊥) → false ≡ follows p dir dep x
  follows-deep zero z h n = absurd (z refl)
  follows-deep (suc k) z h n =
      let y : suc k - 1 ≡ k = omega arith in
      sym (deeper k (omega arith) ∙ ap (λ (b : Bool). b && dir) (ne_eqb k (length p) (λ e. n (y ∙ e))))

  pub follows-first : (dep : ℕ) → (dep ≡ 0 → ⊥) → dep - 1 ≡ length p → dir ≡ follows p dir dep x
  follows-first zero z n = absurd (z refl)
  follows-first (suc k) z n =
      let y : suc k - 1 ≡ k = omega arith in
      sym (deeper k (omega arith) ∙ ap (λ (b : Bool). b && dir) (eq-eqb k (length p) (sym y ∙ n)))

-- ---- one entry

pub form-ok : (n : Name) → kind_of true n ≡ kind.Name → form_ok n ≡ true
unfolding kind_of
form-ok n e = go (vanishes n) (is_up n) e
  where
    go : (v u : Bool) → kind_by true v u ≡ kind.Name → not v && not u ≡ true
    go true u e = absurd cc
    go false true e = absurd cc
    go false false e = refl

pub form-bad : (n : Name) → (kind_of true n ≡ kind.Name → ⊥) → form_ok n ≡ false
unfolding kind_of
form-bad n e = go (vanishes n) (is_up n) e
  where
    go : (v u : Bool) → (kind_by true v u ≡ kind.Name → ⊥) → not v && not u ≡ false
    go true u e = refl
    go false true e = refl
    go false false e = absurd (e refl)

module _ (n : ℕ) (p : Path) (d : Bool) (r : Row) where
  pub fits-slot : n ≤ r.slot → false ≡ entry_fits n p d r
  fits-slot h = rw (le-ltb r.slot n h)

  pub fits-form : r.slot < n → (kind_of true r.name ≡ kind.Name → ⊥) → false ≡ entry_fits n p d r
  fits-form h e = rw (lt-ltb r.slot n h, form-bad r.name e)

  pub fits-rest : r.slot < n → kind_of true r.name ≡ kind.Name → follows p d r.depth r.name ≡ entry_fits n p d r
  fits-rest h e = rw (lt-ltb r.slot n h, form-ok r.name e)

  -- what an entry that fits has
  module _ (e : entry_fits n p d r ≡ true) where
    pub fits-within : r.slot < n
    fits-within = ltb-true r.slot n (and_parts (ltb r.slot n) (form_ok r.name && follows p d r.depth r.name) e).0

    pub fits-depth : (1 ≤ r.depth) × (r.depth ≤ length p + 1)
    fits-depth = go r.depth (and_parts (form_ok r.name) (follows p d r.depth r.name) (and_parts (ltb r.slot n) (form_ok r.name && follows p d r.depth r.name) e).1).1
      where
        deep : (k : ℕ) (t : Bool) → ltb k (length p) ≡ t → cond t (precedes (get_or p k []) r.name) (eqb k (length p) && d) ≡ true → k ≤ length p
        deep k true q f = omega (arith, ltb-true k (length p) q)
        deep k false q f = omega (arith, eqb-true k (length p) (and_parts (eqb k (length p)) d f).0)

        go : (k : ℕ) → follows p d k r.name ≡ true → (1 ≤ k) × (k ≤ length p + 1)
        go zero f = absurd (let z : ◌≡◌ {A = ℕ} 0 1 = cc in omega arith)
        go (suc k) f = let l = deep k (ltb k (length p)) refl f in (omega arith, omega arith)

-- ---- one step

module _ (kind : ℕ → ℕ) (n : ℕ) (p : Path) (d : Bool) (ws : List ℕ) (bs : Bytes) (i off : ℕ) (h : i < length ws) where
  walk_at : walk_fits kind n p d (rows (drop i ws) (drop off bs)) ≡ entry_fits n p d (row_at bs (get_or ws i 0) off)
      && walk_fits kind n (path_of p (row_at bs (get_or ws i 0) off)) (eqb (kind (slot_of (get_or ws i 0))) 1) (rows (drop (suc i) ws) (drop (off + nlen_of (get_or ws i 0)) bs))
  unfolding walk_fits
  walk_at = ap (walk_fits kind n p d) (rows_at ws i h bs off)

  pub walk-bad : entry_fits n p d (row_at bs (get_or ws i 0) off) ≡ false → walk_fits kind n p d (rows (drop i ws) (drop off bs)) ≡ false
  walk-bad e = walk_at ∙ ap (λ (t : Bool). t && walk_fits kind n (path_of p (row_at bs (get_or ws i 0) off)) (eqb (kind (slot_of (get_or ws i 0))) 1) (rows (drop (suc i) ws) (drop (off + nlen_of (get_or ws i 0)) bs))) e

  pub walk_on : (q : Path) → entry_fits n p d (row_at bs (get_or ws i 0) off) ≡ true → path_of p (row_at bs (get_or ws i 0) off) ≡ q
      → walk_fits kind n p d (rows (drop i ws) (drop off bs)) ≡ walk_fits kind n q (eqb (kind (slot_of (get_or ws i 0))) 1) (rows (drop (i + 1) ws) (drop (off + nlen_of (get_or ws i 0)) bs))
  walk_on q e f =
      rw add-one (walk_at ∙ ap (λ (t : Bool). t && walk_fits kind n (path_of p (row_at bs (get_or ws i 0) off)) (eqb (kind (slot_of (get_or ws i 0))) 1) (rows (drop (suc i) ws) (drop (off + nlen_of (get_or ws i 0)) bs))) e
      ∙ ap (λ (x : Path). walk_fits kind n x (eqb (kind (slot_of (get_or ws i 0))) 1) (rows (drop (suc i) ws) (drop (off + nlen_of (get_or ws i 0)) bs))) f)

pub walk_end : (kind : ℕ → ℕ) (n : ℕ) (p : Path) (d : Bool) (ws : List ℕ) (bs : Bytes) (i : ℕ) → length ws ≤ i → walk_fits kind n p d (rows (drop i ws) bs) ≡ true
unfolding walk_fits
walk_end kind n p d ws bs i h = ap (walk_fits kind n p d) (rows_end ws bs i h)

-- ---- the root

nil-name : (n : ℕ) (bs : Bytes) → n ≤ length bs → is_nil (take n bs) ≡ eqb n 0
nil-name zero bs h = refl
nil-name (suc n) [] h = absurd (omega arith)
nil-name (suc n) (b ∷ bs) h = sym (ne_eqb (suc n) 0 (λ e. omega arith))

-- the test of the root, on its word
abbrev pub root_fits : (ℕ → ℕ) → ℕ → ℕ → Bool
root_fits kind n w = eqb (depth_of w) 0 && (eqb (nlen_of w) 0 && (ltb (slot_of w) n && eqb (kind (slot_of w)) 1))

module _ (kind : ℕ → ℕ) (n w : ℕ) (ws : List ℕ) (bs : Bytes) (l : name_total (w ∷ ws) ≤ length bs) where
  root_at : rows_fit kind n (rows (w ∷ ws) bs) ≡ root_fits kind n w && walk_fits kind n [] true (rows ws (drop (nlen_of w) bs))
  unfolding rows_fit rows name_total
  root_at = ap (λ (t : Bool). (eqb (depth_of w) 0 && (t && (ltb (slot_of w) n && eqb (kind (slot_of w)) 1))) && walk_fits kind n [] true (rows ws (drop (nlen_of w) bs))) (nil-name (nlen_of w) bs (omega arith))

  pub root-bad : root_fits kind n w ≡ false → false ≡ rows_fit kind n (rows (w ∷ ws) bs)
  root-bad e = sym (root_at ∙ ap (λ (t : Bool). t && walk_fits kind n [] true (rows ws (drop (nlen_of w) bs))) e)

  pub root_on : root_fits kind n w ≡ true → walk_fits kind n [] true (rows ws bs) ≡ rows_fit kind n (rows (w ∷ ws) bs)
  root_on e =
      let z : nlen_of w ≡ 0 = eqb-true (nlen_of w) 0 (and_parts (eqb (nlen_of w) 0) (ltb (slot_of w) n && eqb (kind (slot_of w)) 1) (and_parts (eqb (depth_of w) 0) (eqb (nlen_of w) 0 && (ltb (slot_of w) n && eqb (kind (slot_of w)) 1)) e).1).0 in
      sym (root_at ∙ ap (λ (t : Bool). t && walk_fits kind n [] true (rows ws (drop (nlen_of w) bs))) e ∙ ap (λ (k : ℕ). walk_fits kind n [] true (rows ws (drop k bs))) z)

-- the names behind the first
pub root-total-le : (ws : List ℕ) → name_total (drop 1 ws) ≤ name_total ws
unfolding name_total
root-total-le [] = omega arith
root-total-le (w ∷ ws) = omega arith

pub root-total : (w : ℕ) (ws : List ℕ) (bs : Bytes) → name_total (w ∷ ws) ≤ length bs → name_total ws ≤ length bs
unfolding name_total
root-total w ws bs h = omega arith

pub root_none : (kind : ℕ → ℕ) (n : ℕ) (ws : List ℕ) (bs : Bytes) → length ws ≡ 0 → true ≡ rows_fit kind n (rows ws bs)
unfolding rows_fit rows
root_none kind n [] bs h = refl
root_none kind n (w ∷ ws) bs h = absurd (omega arith)

-- ---- the walk

-- the entries from record i on decide, behind the entry whose path the first d spans say
pub record Walked (ws heads : List ℕ) (bs : Bytes) (last : List Span) (i off d : ℕ) (dir : Bool) : Type 0 where
  pub room : off + name_total (drop i ws) ≤ length bs
  pub few : d ≤ i
  pub spelt : Spelt (length bs) (take d last)
  pub same : walk_fits (kind_in heads) (length heads) [] true (rows ws bs) ≡ walk_fits (kind_in heads) (length heads) (spell bs (take d last)) dir (rows (drop i ws) (drop off bs))

module _ (ws heads : List ℕ) (bs : Bytes) where
  pub walked_start : (last : List Span) → name_total ws ≤ length bs → Walked ws heads bs last 0 0 0 true
  walked_start last l = record { room = omega arith; few = omega arith; spelt = All-nil (Within (length bs)); same = refl }

  module _ (last : List Span) (i off d : ℕ) (dir : Bool) (w : Walked ws heads bs last i off d dir) where
    pub walked_end : length ws ≤ i → true ≡ walk_fits (kind_in heads) (length heads) [] true (rows ws bs)
    walked_end h = sym (w.same ∙ walk_end (kind_in heads) (length heads) (spell bs (take d last)) dir ws (drop off bs) i h)

    module _ (h : i < length ws) where
      -- the next name is within the bytes
      pub walked-name : off + nlen_of (get_or ws i 0) ≤ length bs
      walked-name = omega (arith, w.room, total_at ws i h)

      pub walked-bad : entry_fits (length heads) (spell bs (take d last)) dir (row_at bs (get_or ws i 0) off) ≡ false → false ≡ walk_fits (kind_in heads) (length heads) [] true (rows ws bs)
      walked-bad e = sym (w.same ∙ walk-bad (kind_in heads) (length heads) (spell bs (take d last)) dir ws bs i off h e)

      module _ (few : length ws < length last) (e : entry_fits (length heads) (spell bs (take d last)) dir (row_at bs (get_or ws i 0) off) ≡ true) where
        pub walked-slot : slot_of (get_or ws i 0) < length heads
        walked-slot = fits-within (length heads) (spell bs (take d last)) dir (row_at bs (get_or ws i 0) off) e

        pub walked-depth : (1 ≤ depth_of (get_or ws i 0)) × (depth_of (get_or ws i 0) ≤ d + 1)
        walked-depth =
            let f = fits-depth (length heads) (spell bs (take d last)) dir (row_at bs (get_or ws i 0) off) e in
            let l = path-length bs last d (omega (arith, w.few)) in
            (f.0, omega (arith, f.1))

        pub walked_on : (v : Span) → v.0 ≡ off * 256 + nlen_of (get_or ws i 0)
            → Walked ws heads bs (set last (depth_of (get_or ws i 0) - 1) v) (i + 1) (off + nlen_of (get_or ws i 0)) (depth_of (get_or ws i 0)) (eqb (kind_in heads (slot_of (get_or ws i 0))) 1)
        walked_on v q = subst (λ (x : ℕ). Walked ws heads bs (set last k v) (i + 1) (off + n) x (eqb (kind_in heads (slot_of (get_or ws i 0))) 1)) (sym z) (record {
          room = rw add-one (omega (arith, w.room, total_at ws i h));
          few = omega (arith, w.few, walked-depth.1);
          spelt = spelt_next bs last d (length bs) k v (omega (arith, walked-depth.1)) (omega (arith, w.few, walked-depth.1)) (omega (arith, walked-name)) w.spelt;
          same = w.same ∙ walk_on (kind_in heads) (length heads) (spell bs (take d last)) dir ws bs i off h (spell bs (take (suc k) (set last k v))) e
              (ap (λ (x : ℕ). path_by x (spell bs (take d last)) (take n (drop off bs))) z ∙ path_next bs last d k off n v (omega (arith, walked-depth.1)) (omega (arith, w.few, walked-depth.1)) at);
        })
          where
            n : ℕ
            n = nlen_of (get_or ws i 0)

            k : ℕ
            k = depth_of (get_or ws i 0) - 1

            z : depth_of (get_or ws i 0) ≡ suc k
            z = omega (arith, walked-depth.0)

            at : name_at bs v ≡ take n (drop off bs)
            at = let a : v.0 % 256 ≡ n = omega arith in let b : v.0 / 256 ≡ off = omega arith in rw (a, b)
