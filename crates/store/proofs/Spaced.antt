-- A store that shows a state uses what the state uses. Alike states have the same at each path, so as many links, entries and bytes.
-- A file of the one and the file at that path of the other have the same contents and the same numbers open on them, so the same bytes
-- go with them. A store keeps within its limits, so a sum with what is used is compared with a limit by what is left of the limit.
-- Assumes nothing.
use mathlib.Core.Bool.{Bool, true, false, cond}
use mathlib.Core.Option.{Option, none, some}
use mathlib.Core.Path.{◌≡◌, refl, sym, ap, ◌∙◌, subst}
use Prim.Native.Nat.{ℕ, ◌+◌, ◌-◌, ◌≤◌, ◌<◌}
use native.Mathlib.Omega.{arith}
use lib.Dec.{T}
use borrow.Author.Tests.{le-leb, lt-leb}
use Rattle.model.specs.Tree.{Path, Node, file, look, links_in}
use Rattle.model.specs.Prog.{World}
use Rattle.model.specs.Calls.States.{State, entries_used, bytes_used, is_held, world_of}
use Rattle.model.specs.Space.{size_of, freed_by, room_for}
use Rattle.model.proofs.Entries.{some_inj}
use Rattle.model.proofs.Lookups.LinkCount.{links_of, links_within}
use Rattle.model.proofs.Demand.Contents.{held_by, by_held}
use Rattle.model.proofs.Demand.Over.{erase, Paired, at_place, Over, pair-number}
use Rattle.model.proofs.Demand.OverEdits.{Likes, dirs, files, both_links, likes}
use Rattle.model.proofs.Demand.Places.{in_tree}
use Rattle.model.proofs.Demand.Tidy.{Tidy}
use Rattle.model.proofs.Alike.States.{alike-used}
use Rattle.model.proofs.Alike.Runs.{Even, even-start}
use Rattle.layout.specs.Store.{Store, most, room, count, state}
use Rattle.layout.proofs.Used.{entries-used, bytes-used}
use Rattle.layout.proofs.Edited.Shapes.{lawful-shape}
use Rattle.edit_room.specs.Extents.{trim}
use Rattle.ask_used.specs.declared.Weight.{Weight}
use Rattle.ask_used.specs.Answers as answers
use Rattle.store.specs.Shows.{Shows}
use Rattle.store.specs.Space.{WeightIs}

-- ---- two worlds, each with what the other has

-- a link of the one is a link of the other
links-le : (w v : World) → Over w v → Tidy w → links_in w.at ≤ links_in v.at
links-le w v r t = links_within w.at v.at t.tree (λ p. at p (look w.at p) refl)
  where
    on : {n m : Node} → Likes n m → links_of (some n) ≤ links_of (some m)
    on (dirs a) = omega arith
    on (files i j) = omega arith
    on (both_links a s) = omega arith

    at : (p : Path) (o : Option Node) → look w.at p ≡ o → links_of (look w.at p) ≤ links_of (look v.at p)
    at p none e = rw e (omega arith)
    at p (some n) e = let h = r.has (in_tree p) n e in rw (e, h.1) (on (likes n h.0 h.2))

-- a number that is open on the file at a path of the one is open on the file there of the other
held-le : (w v : World) → Over w v → Tidy w → (p : Path) (i j : ℕ) → look w.at p ≡ some (file i) → look v.at p ≡ some (file j) → T (is_held w.opens i) → T (is_held v.opens j)
held-le w v r t p i j x y h =
    let n = held_by w.opens t.numbers i h in
    let b = pair-number w v r n.0 n.1 n.2 in
    let k : j ≡ b.0.id = r.second i j b.0.id (at_place (in_tree p) x y) (subst (λ (z : ℕ). Paired w v z b.0.id) n.3 b.3) in
    subst (λ (z : ℕ). T (is_held v.opens z)) (sym k) (by_held v.opens n.0 b.0 b.1)

same_test : (a b : Bool) → (T a → T b) → (T b → T a) → a ≡ b
same_test true true f g = refl
same_test true false f g = absurd (f tt)
same_test false true f g = absurd (g tt)
same_test false false f g = refl

-- as much goes with the nodes at a path
freed-even : (w v : World) → Even w v → (p : Path) (n m : Node) → look w.at p ≡ some n → look v.at p ≡ some m → freed_by w.files w.opens n ≡ freed_by v.files v.opens m
unfolding freed_by
freed-even w v e p n m x y = let h = e.over.has (in_tree p) n x in on (likes n m (h.2 ∙ ap erase (some_inj (sym h.1 ∙ y)))) x y
  where
    on : {a b : Node} → Likes a b → look w.at p ≡ some a → look v.at p ≡ some b → freed_by w.files w.opens a ≡ freed_by v.files v.opens b
    on (dirs a) k l = refl
    on (both_links a s) k l = refl
    on (files i j) k l =
        let f = e.over.alike i j (at_place (in_tree p) k l) in
        let b = same_test (is_held w.opens i) (is_held v.opens j) (held-le w v e.over e.tidy p i j k l) (held-le v w e.back e.tidy_too p j i l k) in
        λ z. cond (b z) 0 (size_of ((f.1 ∙ sym f.2) z))

-- ---- a store and a state that it shows

module _ {u : Store} {s : State} (h : Shows u s) where
  even : Even (world_of (state (trim u))) (world_of s)
  even = even-start (state (trim u)) s (lawful-shape (trim u) h.roomy.lawful) h.shaped h.alike

  same_use : (entries_used (state (trim u)) ≡ entries_used s) × (bytes_used (state (trim u)) ≡ bytes_used s)
  same_use = alike-used (state (trim u)) s (lawful-shape (trim u) h.roomy.lawful) h.shaped h.alike

  pub links-told : links_in (state (trim u)).tree ≡ links_in s.tree
  links-told =
      omega (
        arith,
        links-le (world_of (state (trim u))) (world_of s) even.over even.tidy,
        links-le (world_of s) (world_of (state (trim u))) even.back even.tidy_too,
      )

  pub entries-told : count u ≡ entries_used s
  entries-told = sym (entries-used (trim u) h.roomy.lawful) ∙ same_use.0

  pub used-told : bytes_used (state (trim u)) ≡ bytes_used s
  used-told = same_use.1

  -- by what the store tells of it: z bytes go with its node
  pub weight-told : (p : Path) (r : Weight) (z : ℕ) → answers.WeightIs (trim u) p r → cond r.held 0 r.size ≡ z → WeightIs s p (record { name = r.name; freed = z })
  weight-told p r z w e = record {
    name = w.name;
    freed = λ m x.
        let k = even.back.has (in_tree p) m x in
        sym e ∙ w.freed k.0 k.1 ∙ freed-even (world_of (state (trim u))) (world_of s) even p k.0 m k.1 x;
  }

  -- ---- room

  -- what is used is within the limits
  pub entries_fit_lem : count u ≤ most u
  entries_fit_lem = h.roomy.lawful.counted

  pub bytes_fit_lem : bytes_used s ≤ room u
  bytes_fit_lem = omega (arith, used-told, bytes-used (trim u) h.roomy.lawful, h.roomy.lawful.space)

  module _ (more grown freed : ℕ) where
    pub no-entries : most u - count u < more → 15 ≡ room_for s more grown freed
    unfolding room_for
    no-entries x = rw (lt-leb (entries_used s + more) s.most (omega (arith, entries-told, h.alike.entry_limit)))

    -- there are entries enough
    enough : more ≤ most u - count u → entries_used s + more ≤ s.most
    enough x = omega (arith, entries-told, entries_fit_lem, h.alike.entry_limit)

    pub no_bytes_lem : more ≤ most u - count u → freed < grown → room u - bytes_used s < grown - freed → 16 ≡ room_for s more grown freed
    unfolding room_for
    no_bytes_lem x y z =
        rw (
          le-leb (entries_used s + more) s.most (enough x),
          lt-leb (bytes_used s + grown) (s.room + freed) (omega (arith, h.alike.byte_limit)),
        )

    pub has_room_lem : more ≤ most u - count u → grown ≤ room u - bytes_used s + freed → 0 ≡ room_for s more grown freed
    unfolding room_for
    has_room_lem x y =
        rw (
          le-leb (entries_used s + more) s.most (enough x),
          le-leb (bytes_used s + grown) (s.room + freed) (omega (arith, bytes_fit_lem, h.alike.byte_limit)),
        )
