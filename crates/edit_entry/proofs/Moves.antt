-- The steps of a move, put together: the entry's new name, then the rotation of its records with another depth.
-- Assumes nothing.
use mathlib.Core.Bool.{Bool, true}
use mathlib.Core.List.{List, [], ◌∷◌, ◌++◌, append_assoc, map}
use mathlib.Core.Path.{◌≡◌, refl, sym, ap, ◌∙◌, subst}
use Prim.Native.Nat.{ℕ, zero, suc, ◌+◌, ◌-◌, ◌≤◌, ◌<◌}
use native.Mathlib.Numerals.{add-one}
use native.Mathlib.Decide.{ℕ_discrete}
use native.Mathlib.Omega.{arith}
use lib.Dec.{T, eqb}
use lib.ListN.{length, length-map, length-append, length-take, length-drop, take, drop, get_or}
use lib.Seq.{length-take-le, take-append_seam, drop-append_seam, drop-append-add, drop-cons, get_or-take}
use Rattle.text.specs.Utf8.{Bytes}
use Rattle.path.specs.Path.{Name}
use Rattle.model.specs.Tree.{Path}
use Rattle.layout.specs.Fields.{depth_of, nlen_of, slot_of}
use Rattle.layout.specs.Rows.{Row, rows, name_total, path_by, path_of}
use Rattle.layout.specs.Store.{Store, lent, count, live, rows_of, kind_at, state}
use Rattle.layout.specs.Lawful.{follows, walk_ok, root_ok, rows_ok, Lawful}
use Rattle.model.specs.Calls.States.{moved}
use Rattle.layout.specs.Alike.{Spells}
use Rattle.layout.proofs.Roots.{all_slots}
use Rattle.layout.proofs.Used.{live-length}
use Rattle.layout.proofs.Walks.{SlotsIn}
use Rattle.path.proofs.Laws.{and_left, and_right}
use Rattle.blocks.specs.Turn.{turned}
use Rattle.blocks.proofs.Turns.{turned-parts}
use Rattle.records.specs.Blocks.{raise, raised, move_to, Liftable, Moved}
use Rattle.layout.proofs.Named.{length-rows, rows_drop}
use Rattle.records.proofs.Entries.{contents-kept, total-step, total-take}
use Rattle.records.proofs.Fronts.{may-move_front, moved_in}
use Rattle.records.proofs.Swings.{move_down, move_up, MayMove}
use Rattle.layout.specs.Parts.{path_after, Deeper, deepen}
use Rattle.layout.proofs.Edited.Inserting.{root_is}
use Rattle.layout.proofs.Walks.{rest_ok as walk-rest}
use Rattle.layout.proofs.Edited.Removing.{follows-low, walk-follows}
use Rattle.edit_entry.specs.Carriage.{Carried}
use Rattle.edit_entry.specs.Growth.{new_row}
use Rattle.edit_entry.specs.Movement.{Beside, front, back, Movable}
use Rattle.edit_entry.specs.Renaming.{Renamed}
use Rattle.edit_entry.proofs.Carries.{carried-spells}
use Rattle.edit_entry.proofs.Inserts.{after-length, name-short}
use Rattle.edit_entry.proofs.Renames.{renamed_in}

-- the parts of the rules of a walk from the root
rest_ok : (kind : ℕ → ℕ) (n : ℕ) (r : Row) (rs : List Row) → T (rows_ok kind n (r ∷ rs)) → T (walk_ok kind n [] true rs)
unfolding rows_ok
rest_ok kind n r rs t = and_right (root_ok kind n r) _ t

pub root_ok_lem : (kind : ℕ → ℕ) (n : ℕ) (r : Row) (rs : List Row) → T (rows_ok kind n (r ∷ rs)) → T (root_ok kind n r)
unfolding rows_ok
root_ok_lem kind n r rs t = and_left (root_ok kind n r) _ t

-- ---- records by their rows

-- the word of the row behind the first ones
pub word_at : (ws bs : List ℕ) (A : List Row) (r : Row) (B : List Row) → rows ws bs ≡ A ++ (r ∷ B)
    → (depth_of (get_or ws (length A) 0) ≡ r.depth) × (slot_of (get_or ws (length A) 0) ≡ r.slot) × (take (nlen_of (get_or ws (length A) 0)) (drop (name_total (take (length A) ws)) bs) ≡ r.name)
unfolding rows
word_at ws bs A r B e =
    let i = length A in
    let h : i < length ws = omega (arith, length-rows ws bs, ap length e, length-append A (r ∷ B)) in
    let left : drop i (rows ws bs) ≡ r ∷ B = ap (drop i) e ∙ drop-append_seam A (r ∷ B) in
    let right : drop i (rows ws bs) ≡ rows (get_or ws i 0 ∷ drop (suc i) ws) (drop (name_total (take i ws)) bs) = sym (rows_drop ws bs i) ∙ ap (λ (u : List ℕ). rows u (drop (name_total (take i ws)) bs)) (drop-cons ws i 0 h) in
    let both = sym right ∙ left in
    (ap head_depth both, ap head_slot both, ap head_name both)
  where
    head_depth : List Row → ℕ
    head_depth [] = 0
    head_depth (r ∷ l) = r.depth

    head_slot : List Row → ℕ
    head_slot [] = 0
    head_slot (r ∷ l) = r.slot

    head_name : List Row → Name
    head_name [] = []
    head_name (r ∷ l) = r.name

-- ---- depths

-- no entry is deeper than there are entries
abbrev pub Low : ℕ → List Row → Type 0
Low m [] = Unit {0}
Low m (r ∷ rs) = (r.depth ≤ m) × Low m rs

pub low_more : (m n : ℕ) (rs : List Row) → m ≤ n → Low m rs → Low n rs
low_more m n [] h t = tt
low_more m n (r ∷ rs) h t = (omega (arith, t.0), low_more m n rs h t.1)

pub walk-low : (kind : ℕ → ℕ) (n : ℕ) (p : Path) (d : Bool) (rs : List Row) → T (walk_ok kind n p d rs) → Low (length p + length rs) rs
walk-low kind n p d [] t = tt
walk-low kind n p d (r ∷ rs) t = (
  first r.depth (walk-follows kind n p d r rs t),
  low_more (length (path_of p r) + length rs) (length p + suc (length rs)) rs (omega (arith, next r.depth)) (walk-low kind n (path_of p r) (eqb (kind r.slot) 1) rs (walk-rest kind n p d r rs t)),
)
  where
    first : (k : ℕ) → T (follows p d k r.name) → k ≤ length p + suc (length rs)
    first zero y = absurd y
    first (suc k) y = omega (arith, follows-low p d k r.name y)

    next : (k : ℕ) → length (path_by k p r.name) ≤ suc (length p)
    next zero = omega arith
    next (suc k) = omega (arith, length-append (take k p) (r.name ∷ []), length-take k p)

pub low_part : (m : ℕ) (a b : List Row) → Low m (a ++ b) → Low m b
low_part m [] b h = h
low_part m (r ∷ a) b h = low_part m a b h.1

pub low_first : (m : ℕ) (a b : List Row) → Low m (a ++ b) → Low m a
low_first m [] b h = tt
low_first m (r ∷ a) b h = (h.0, low_first m a b h.1)

-- rows whose depth may change by u - d
abbrev pub Lifts : ℕ → ℕ → List Row → Type 0
Lifts u d [] = Unit {0}
Lifts u d (r ∷ rs) = ((d ≤ r.depth + u) × (r.depth + u < d + 65536)) × Lifts u d rs

-- and so may that of their words
pub lift-rows : (u d : ℕ) (ws bs : List ℕ) (A X B : List Row) → rows ws bs ≡ A ++ (X ++ B) → Lifts u d X → (j : ℕ) → length A ≤ j → j < length A + length X → Liftable (get_or ws j 0) u d
lift-rows u d ws bs A [] B e h j a b = absurd (omega arith)
lift-rows u d ws bs A (r ∷ X) B e h j a b =
    go (ℕ_discrete (length A) j) (lift-rows u d ws bs (A ++ (r ∷ [])) X B (e ∙ sym (append_assoc A (r ∷ []) (X ++ B))) h.1 j)
  where
    here : Liftable (get_or ws (length A) 0) u d
    here = let w = word_at ws bs A r (X ++ B) e in record { low = omega (arith, w.0, h.0.0); high = omega (arith, w.0, h.0.1) }

    go : Dec (length A ≡ j) → (length (A ++ (r ∷ [])) ≤ j → j < length (A ++ (r ∷ [])) + length X → Liftable (get_or ws j 0) u d) → Liftable (get_or ws j 0) u d
    go (yes z) ih = subst (λ (k : ℕ). Liftable (get_or ws k 0) u d) z here
    go (no z) ih = ih (omega (arith, length-append A (r ∷ []), z)) (omega (arith, length-append A (r ∷ [])))

-- what lies below an entry may go where the entry goes
below-lifts : (u d n : ℕ) (rs : List Row) → Deeper d rs → Low n rs → n ≤ 4096 → u ≤ 4097 → Lifts u d rs
unfolding Deeper
below-lifts u d n [] h k a b = tt
below-lifts u d n (r ∷ rs) h k a b = ((omega (arith, h.0), omega (arith, k.0)), below-lifts u d n rs h.1 k.1 a b)

-- ---- what the steps ask

module _ {st : Store} {i e p depth : ℕ} {y : Name} (l : Lawful st) (m : Movable st i e p depth y) where
  abbrev n : ℕ
  n = count st

  -- the entries before the one that moves, and itself with those below it under the new name
  abbrev A : List Row
  A = m.root ∷ m.a

  abbrev row₂ : Row
  row₂ = record { depth = m.row.depth; name = y; slot = m.row.slot }

  A-long : length A ≡ i
  A-long = sym m.from

  all_rows : rows_of st ≡ A ++ (m.row ∷ (m.x ++ m.b))
  all_rows = m.rows

  many : n ≡ i + suc (length m.x + length m.b)
  many =
      sym (live-length st l)
      ∙ (sym (length-rows (live st) st.bytes) ∙ (ap length all_rows ∙ omega (arith, length-append m.a (m.row ∷ (m.x ++ m.b)), length-append m.x m.b, m.from)))

  within : e ≤ n
  within = omega (arith, many, m.to)

  pub low-index : (i < n) × (n ≤ length st.records) × (n ≤ 4096)
  low-index = (omega (arith, many), omega (arith, l.exact.records, l.counted), omega (arith, l.counted, l.entry_limit.1))

  -- the entry's word
  word_is : (depth_of (get_or st.records i 0) ≡ m.row.depth) × (slot_of (get_or st.records i 0) ≡ m.row.slot) × (nlen_of (get_or st.records i 0) ≡ length m.row.name)
  word_is =
      let k = length A in
      let w = word_at (live st) st.bytes A m.row (m.x ++ m.b) all_rows in
      let g : get_or (live st) k 0 ≡ get_or st.records i 0 = ap (λ (j : ℕ). get_or (live st) j 0) A-long ∙ get_or-take n st.records i 0 low-index.0 in
      let t = total-step (live st) 0 k (omega arith) (omega (arith, live-length st l, low-index.0, A-long)) in
      let u = total-take (live st) (suc k) in
      let r = length-drop (name_total (take k (live st))) st.bytes in (
        ap depth_of (sym g) ∙ w.0,
        ap slot_of (sym g) ∙ w.1,
        ap nlen_of (sym g) ∙ (sym (length-take-le (nlen_of (get_or (live st) k 0)) (drop (name_total (take k (live st))) st.bytes) (omega (arith, t, u, r, l.space, l.exact.bytes))) ∙ ap length w.2),
      )

  -- the word that is read, among those of the entries
  here : get_or (live st) i 0 ≡ get_or st.records i 0
  here = get_or-take n st.records i 0 low-index.0

  pub may-rename : (i < length (live st)) × (length (live st) ≤ 4096) × (length y < 256) × (slot_of (get_or (live st) i 0) < 65536)
      × (name_total (live st) ≤ length st.bytes) × (name_total (live st) + length y ≤ length st.bytes + nlen_of (get_or (live st) i 0))
  may-rename = (
    omega (arith, live-length st l, low-index.0),
    omega (arith, live-length st l, low-index.2),
    omega (arith, name-short y m.name),
    omega (arith, ap slot_of here, word_is.1, slot-low, l.exact.heads, l.slotted, l.entry_limit.1),
    omega (arith, l.space, l.exact.bytes),
    omega (arith, m.fits, l.exact.bytes, ap nlen_of here, word_is.2),
  )
    where
      slot-low : m.row.slot < length st.heads
      slot-low = go m.a (all_slots (kind_at st) (length st.heads) (m.root ∷ (m.a ++ (m.row ∷ (m.x ++ m.b)))) (subst (λ (r : List Row). T (rows_ok (kind_at st) (length st.heads) r)) m.rows l.entries)).1
        where
          go : (c : List Row) → SlotsIn (length st.heads) (c ++ (m.row ∷ (m.x ++ m.b))) → m.row.slot < length st.heads
          go [] h = h.0
          go (r ∷ c) h = go c h.1

  -- ---- after the renaming

  module _ {rs₁ : List ℕ} {bs₁ : Bytes} (o : Renamed st.records st.bytes rs₁ bs₁ n i y) where
    rows₁ : rows (take n rs₁) bs₁ ≡ A ++ ((row₂ ∷ m.x) ++ m.b)
    rows₁ =
        o.all
        ∙ (ap (λ (r : List Row). take i r ++ (record { depth = depth_of (get_or st.records i 0); name = y; slot = slot_of (get_or st.records i 0) } ∷ drop (suc i) r)) all_rows
        ∙ (rw (word_is.0, word_is.1) (ap (λ (k : ℕ). take k full ++ (row₂ ∷ drop (suc k) full)) (sym A-long) ∙ (ap (λ (r : List Row). r ++ (row₂ ∷ drop (suc (length A)) full)) (take-append_seam A (m.row ∷ (m.x ++ m.b))) ∙ ap (λ (r : List Row). A ++ (row₂ ∷ r)) behind))))
      where
        full : List Row
        full = A ++ (m.row ∷ (m.x ++ m.b))

        behind : drop (suc (length A)) full ≡ m.x ++ m.b
        behind = ap (λ (k : ℕ). drop k full) (sym (add-one (length A))) ∙ drop-append-add A (m.row ∷ (m.x ++ m.b)) 1

    -- the depths allow the move
    depths : Low n (A ++ (m.row ∷ (m.x ++ m.b)))
    depths =
        let t = subst (λ (r : List Row). T (rows_ok (kind_at st) (length st.heads) r)) m.rows l.entries in
        let w = walk-low (kind_at st) (length st.heads) [] true (m.a ++ (m.row ∷ (m.x ++ m.b))) (rows-walk t) in (
          omega (arith, (root_is (kind_at st) (length st.heads) m.root (rows-root t)).0),
          low_more (0 + length (m.a ++ (m.row ∷ (m.x ++ m.b)))) n (m.a ++ (m.row ∷ (m.x ++ m.b))) (omega (arith, length-append m.a (m.row ∷ (m.x ++ m.b)), length-append m.x m.b, many, m.from)) w,
        )
      where
        rows-walk : T (rows_ok (kind_at st) (length st.heads) (m.root ∷ (m.a ++ (m.row ∷ (m.x ++ m.b))))) → T (walk_ok (kind_at st) (length st.heads) [] true (m.a ++ (m.row ∷ (m.x ++ m.b))))
        rows-walk t = rest_ok (kind_at st) (length st.heads) m.root (m.a ++ (m.row ∷ (m.x ++ m.b))) t

        rows-root : T (rows_ok (kind_at st) (length st.heads) (m.root ∷ (m.a ++ (m.row ∷ (m.x ++ m.b))))) → T (root_ok (kind_at st) (length st.heads) m.root)
        rows-root t = root_ok_lem (kind_at st) (length st.heads) m.root (m.a ++ (m.row ∷ (m.x ++ m.b))) t

    depth_small : depth ≤ 4097
    depth_small =
        let q = sym (length-take (length m.q) (path_after [] m.a₂)) ∙ ap length m.gap.within in
        let r = after-length [] m.a₂ in
        omega (arith, q, r, m.deep, fewer m.place, many, low-index.2)
      where
        fewer : Beside m.root m.a m.b i e p m.a₂ m.b₂ → length m.a₂ ≤ n
        fewer (front c d f g h k) = omega (arith, ap length f, length-append c d, ap length h, many, m.from)
        fewer (back c d f g h k) = omega (arith, ap length f, length-append c d, ap length h, length-append (m.root ∷ m.a) c, many, m.from)

    -- the entry that moves, and each below it
    liftable : (j : ℕ) → i ≤ j → j < e → Liftable (get_or rs₁ j 0) depth m.row.depth
    liftable j a b =
        let low = low_part n A (m.row ∷ (m.x ++ m.b)) depths in
        subst (λ (w : ℕ). Liftable w depth m.row.depth) (get_or-take n rs₁ j 0 (omega (arith, within)))
        (lift-rows depth m.row.depth (take n rs₁) bs₁ A (row₂ ∷ m.x) m.b rows₁
        ((omega arith, omega (arith, depth_small)), below-lifts depth m.row.depth n m.x m.deeper (low_first n m.x m.b low.1) low-index.2 depth_small)
        j (omega (arith, A-long)) (omega (arith, A-long, m.to)))

    -- the place is outside
    outside : (p ≤ n) × (i < p → e ≤ p)
    outside = go m.place
      where
        go : Beside m.root m.a m.b i e p m.a₂ m.b₂ → (p ≤ n) × (i < p → e ≤ p)
        go (front c d f g h k) = (omega (arith, ap length f, length-append c d, many, m.from), λ z. absurd (omega (arith, z, ap length f, length-append c d, m.from)))
        go (back c d f g h k) = (omega (arith, ap length f, length-append c d, many, m.to), λ z. omega arith)

    may-move : (i ≤ e) × (e ≤ n) × (p ≤ n) × (i < p → e ≤ p) × (n ≤ length rs₁) × (n ≤ 4096) × (name_total (take n rs₁) ≤ length bs₁) × (depth ≤ 65536) × ((j : ℕ) → i ≤ j → j < e → Liftable (get_or rs₁ j 0) depth m.row.depth)
    may-move = (
      omega (arith, m.to),
      within,
      outside.0,
      outside.1,
      omega (arith, o.record_count, low-index.1),
      low-index.2,
      omega (arith, o.sum, o.byte_count, m.fits, l.exact.bytes, word_is.2),
      omega (arith, depth_small),
      liftable,
    )

    -- ---- after the move

    module _ {rs' : List ℕ} {bs' : Bytes} (v : Moved rs₁ bs₁ rs' bs' n i e p depth m.row.depth) where
      -- the entry at its new depth, with those below it
      abbrev X : List Row
      X = new_row m.q y m.row.slot ∷ deepen m.row.depth (length (m.q ++ (y ∷ []))) m.x

      raise-is : (u d : ℕ) (r : List Row) → map (raise u d) r ≡ deepen d u r
      unfolding deepen
      raise-is u d [] = refl
      raise-is u d (s ∷ r) = ap (◌∷◌ (raise u d s)) (raise-is u d r)

      new-depth : depth ≡ length (m.q ++ (y ∷ []))
      new-depth = m.deep ∙ (omega arith ∙ sym (length-append m.q (y ∷ [])))

      X-is : map (raise depth m.row.depth) (row₂ ∷ m.x) ≡ X
      X-is =
          let f : m.row.depth + depth - m.row.depth ≡ suc (length m.q) = omega (arith, m.deep) in
          ap (λ (k : ℕ). record { depth = k; name = y; slot = m.row.slot } ∷ map (raise depth m.row.depth) m.x) f
          ∙ ap (◌∷◌ (new_row m.q y m.row.slot)) (raise-is depth m.row.depth m.x ∙ ap (λ (k : ℕ). deepen m.row.depth k m.x) new-depth)

      X-long : i + length X ≡ e
      X-long = omega (arith, ap length (sym X-is), length-map (row₂ ∷ m.x) (raise depth m.row.depth), m.to)

      -- the rows before the rotation
      lifted : raised (rows (take n rs₁) bs₁) i e depth m.row.depth ≡ A ++ (X ++ m.b)
      lifted = ap (λ (r : List Row). raised r i e depth m.row.depth) rows₁ ∙ (parts_at ∙ ap (λ (r : List Row). A ++ (r ++ m.b)) X-is)
        where
          two : A ++ ((row₂ ∷ m.x) ++ m.b) ≡ (A ++ (row₂ ∷ m.x)) ++ m.b
          two = sym (append_assoc A (row₂ ∷ m.x) m.b)

          e-long : length (A ++ (row₂ ∷ m.x)) ≡ e
          e-long = omega (arith, length-append A (row₂ ∷ m.x), A-long, m.to)

          first : take i (A ++ ((row₂ ∷ m.x) ++ m.b)) ≡ A
          first = ap (λ (k : ℕ). take k (A ++ ((row₂ ∷ m.x) ++ m.b))) (sym A-long) ∙ take-append_seam A ((row₂ ∷ m.x) ++ m.b)

          upto : take e (A ++ ((row₂ ∷ m.x) ++ m.b)) ≡ A ++ (row₂ ∷ m.x)
          upto = ap (take e) two ∙ (ap (λ (k : ℕ). take k ((A ++ (row₂ ∷ m.x)) ++ m.b)) (sym e-long) ∙ take-append_seam (A ++ (row₂ ∷ m.x)) m.b)

          mid : drop i (take e (A ++ ((row₂ ∷ m.x) ++ m.b))) ≡ row₂ ∷ m.x
          mid = ap (drop i) upto ∙ (ap (λ (k : ℕ). drop k (A ++ (row₂ ∷ m.x))) (sym A-long) ∙ drop-append_seam A (row₂ ∷ m.x))

          last : drop e (A ++ ((row₂ ∷ m.x) ++ m.b)) ≡ m.b
          last = ap (drop e) two ∙ (ap (λ (k : ℕ). drop k ((A ++ (row₂ ∷ m.x)) ++ m.b)) (sym e-long) ∙ drop-append_seam (A ++ (row₂ ∷ m.x)) m.b)

          parts_at : raised (A ++ ((row₂ ∷ m.x) ++ m.b)) i e depth m.row.depth ≡ A ++ (map (raise depth m.row.depth) (row₂ ∷ m.x) ++ m.b)
          parts_at = rw (first, mid, last) refl

      -- the rows after it
      turned_rows : rows (take n rs') bs' ≡ m.a₂ ++ (X ++ m.b₂)
      turned_rows = v.all ∙ (ap (λ (r : List Row). move_to r i e p) lifted ∙ go m.place)
        where
          go : Beside m.root m.a m.b i e p m.a₂ m.b₂ → move_to (A ++ (X ++ m.b)) i e p ≡ m.a₂ ++ (X ++ m.b₂)
          go (front c d f g h k) =
              let low : p ≤ i = omega (arith, ap length f, length-append c d, m.from) in
              move_down (A ++ (X ++ m.b)) i e p low
              ∙ (ap (λ (r : List Row). turned r p i e) (ap (λ (r : List Row). r ++ (X ++ m.b)) f ∙ append_assoc c d (X ++ m.b))
              ∙ (turned-parts c d X m.b p i e (sym g) (omega (arith, ap length f, length-append c d, m.from)) X-long ∙ rw (h, k) refl))
          go (back c d f g h k) =
              move_up (A ++ (X ++ m.b)) i e p (omega (arith, m.to))
              ∙ (ap (λ (r : List Row). turned (A ++ (X ++ r)) i e p) f
              ∙ (turned-parts A X c d i e p A-long X-long (sym g) ∙ (sym (append_assoc A c (X ++ d)) ∙ rw (h, k) refl)))

      split : m.root ∷ (m.a ++ m.b) ≡ m.a₂ ++ m.b₂
      split = go m.place
        where
          go : Beside m.root m.a m.b i e p m.a₂ m.b₂ → m.root ∷ (m.a ++ m.b) ≡ m.a₂ ++ m.b₂
          go (front c d f g h k) = ap (λ (r : List Row). r ++ m.b) f ∙ (append_assoc c d m.b ∙ rw (h, k) refl)
          go (back c d f g h k) = ap (λ (r : List Row). A ++ r) f ∙ (sym (append_assoc A c d) ∙ rw (h, k) refl)

      abbrev st' : Store
      st' = lent st.words rs' st.heads st.times st.paths bs'

      carried : Carried st st' m.root m.a m.row m.x m.b m.a₂ m.b₂ m.q y
      carried =
          record {
            words = refl;
            heads = refl;
            times = refl;
            paths = refl;
            texts =
                contents-kept st.heads bs₁ bs' (name_total (take n rs₁)) (omega (arith, o.sum, o.byte_count, m.fits, l.exact.bytes, word_is.2)) v.byte_count v.rest
                ∙ o.texts st.heads (omega (arith, l.space, l.exact.bytes)) (omega (arith, m.fits, l.exact.bytes, word_is.2));
            records = v.record_count ∙ o.record_count;
            bytes = v.byte_count ∙ o.byte_count;
            old = m.rows;
            parts = split;
            new = turned_rows;
            fits = omega (arith, v.sum, o.sum, m.fits, word_is.2);
          }

      moves : Spells st' (moved (path_of (path_after [] m.a) m.row) (m.q ++ (y ∷ [])) (state st))
      moves =
          carried-spells st st' m.root m.a m.row m.x m.b m.a₂ m.b₂ m.q y l carried m.deeper m.behind_it m.gap m.name m.not_first m.clear

    -- the depth as the code reads it
    pub may-move-by : {d : ℕ} → d ≡ depth_of (get_or st.records i 0)
        → (i ≤ e) × (e ≤ n) × (p ≤ n) × (i < p → e ≤ p) × (n ≤ length rs₁) × (n ≤ 4096) × (name_total (take n rs₁) ≤ length bs₁) × (depth ≤ 65536) × ((j : ℕ) → i ≤ j → j < e → Liftable (get_or rs₁ j 0) depth d)
    may-move-by f = rw (f ∙ word_is.0) may-move

    pub moves-by : {d : ℕ} → d ≡ depth_of (get_or st.records i 0) → {rs' : List ℕ} {bs' : Bytes} → Moved rs₁ bs₁ rs' bs' n i e p depth d
        → Spells (lent st.words rs' st.heads st.times st.paths bs') (moved (path_of (path_after [] m.a) m.row) (m.q ++ (y ∷ [])) (state st))
    moves-by f {rs'} {bs'} v = moves (subst (λ (k : ℕ). Moved rs₁ bs₁ rs' bs' n i e p depth k) (f ∙ word_is.0) v)

  -- ---- the entries alone

  module _ {f : List ℕ} {bs₁ : Bytes} (o : Renamed (live st) st.bytes f bs₁ (length (live st)) i y) where
    whole : Renamed st.records st.bytes (f ++ drop n st.records) bs₁ n i y
    whole = renamed_in st.records n low-index.1 low-index.0 o

    long : length f ≡ n
    long = o.record_count ∙ live-length st l

    pub may-move-front : {d : ℕ} → d ≡ depth_of (get_or (live st) i 0) → MayMove f bs₁ i e p depth d
    may-move-front {d} h = may-move_front f (drop n st.records) long bs₁ i e p depth d (may-move-by whole (h ∙ ap depth_of here))

    pub moves-front : {d : ℕ} → d ≡ depth_of (get_or (live st) i 0) → {f' : List ℕ} {bs' : Bytes} → Moved f bs₁ f' bs' (length f) i e p depth d
        → Spells (lent st.words (f' ++ drop n st.records) st.heads st.times st.paths bs') (moved (path_of (path_after [] m.a) m.row) (m.q ++ (y ∷ [])) (state st))
    moves-front h v = moves-by whole (h ∙ ap depth_of here) (moved_in f (drop n st.records) long v)
