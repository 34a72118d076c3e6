-- Two worlds as the two runs keep them are two states as demand 3 has them, and the second's contents are the first's and those of
-- the files that only the second has.
-- Assumes nothing.
use mathlib.Core.Bool.{Bool, true, false, ◌&&◌, ◌||◌, not, false≢true}
use mathlib.Core.List.{[], ◌∷◌}
use mathlib.Core.Logic.{◌⊎◌, inl, inr}
use mathlib.Core.Option.{Option, none, some}
use mathlib.Core.Path.{◌≡◌, refl, sym, ap, ◌∙◌, subst}
use Prim.Native.Nat.{ℕ, ◌+◌, ◌≤◌}
use native.Mathlib.Omega.{arith}
use lib.Dec.{T, eqb, T_not, not_T}
use borrow.Author.Tests.{eq-eqb, ne_eqb, eqb-true}
use Rattle.path.proofs.Laws.{and_left, and_right, and_both}
use Rattle.model.specs.Tree.{Path, File, Node, file, Files, Open, look, open_of}
use Rattle.model.specs.Prog.{World, on_some}
use Rattle.model.specs.Calls.{State, is_named, is_held, world_of}
use Rattle.model.specs.Fuller.{shown_file, shown_node, shown, HasEverything, position_of, StandsAt, StandsRemoved, same_id, share, SameOpen}
use Rattle.model.proofs.Demand.Asking.{number-asked}
use Rattle.model.proofs.Demand.Contents.{weigh, weigh-le, weigh-split, or_elim, or_left, or_right, named_at, at_named, held_by, by_held, only_second, only_at_lem, at_only}
use Rattle.model.proofs.Entries.{clash, some_inj, is_true, is_false, of_true}
use Rattle.model.proofs.Demand.Over.{erase, like-file, Paired, at_place, by_number, Over, pair_at, pair-number, lone-number}
use Rattle.model.proofs.Demand.OverEdits.{Likes, dirs, files, both_links, likes}
use Rattle.model.proofs.Demand.Places.{in_tree}
use Rattle.model.proofs.Demand.Tidy.{Tidy}

-- a file that has a name or a number
abbrev pub live : World → ℕ → Bool
live w i = is_named w.at i || is_held w.opens i

module _ (w v : World) (r : Over w v) (tw : Tidy w) (tv : Tidy v) where
  -- a live file of the first has its pair
  mate : (i : ℕ) → T (live w i) → (j : ℕ) × Paired w v i j × T (live v j)
  mate i t = go (or_elim (is_named w.at i) (is_held w.opens i) t)
    where
      go : T (is_named w.at i) ⊎ T (is_held w.opens i) → (j : ℕ) × Paired w v i j × T (live v j)
      go (inl x) =
          let p = named_at w.at tw.tree i x in
          let h = pair_at w v r (in_tree p.0) i p.1 in
          (h.0, h.2, or_left (is_named v.at h.0) (is_held v.opens h.0) (at_named v.at p.0 h.0 h.1))
      go (inr x) =
          let n = held_by w.opens tw.numbers i x in
          let h = pair-number w v r n.0 n.1 n.2 in
          (h.0.id, subst (λ (k : ℕ). Paired w v k h.0.id) n.3 h.3, or_right (is_named v.at h.0.id) (is_held v.opens h.0.id) (by_held v.opens n.0 h.0 h.1))

  -- the file of a pair is not only the second's
  not_only : (i j : ℕ) → Paired w v i j → T (only_second w.at v.at j) → ⊥
  not_only i j p t =
      let q = only_at_lem w.at v.at tv.tree j t in
      clash (look w.at q.0) (file i) q.2 (r.covers i j p (in_tree q.0) q.1)

  -- a live file of the second is only the second's, or has its pair
  mate-back : (j : ℕ) → T (live v j) → T (not (only_second w.at v.at j)) → (i : ℕ) × Paired w v i j × T (live w i)
  mate-back j t n = go (or_elim (is_named v.at j) (is_held v.opens j) t)
    where
      go : T (is_named v.at j) ⊎ T (is_held v.opens j) → (i : ℕ) × Paired w v i j × T (live w i)
      go (inl x) = two (look w.at p.0) refl
        where
          p : (q : Path) × (look v.at q ≡ some (file j))
          p = named_at v.at tv.tree j x

          two : (o : Option Node) → look w.at p.0 ≡ o → (i : ℕ) × Paired w v i j × T (live w i)
          two none k = absurd (T_not (only_second w.at v.at j) n (at_only w.at v.at p.0 j p.1 k))
          two (some m) k =
              let h = r.has (in_tree p.0) m k in
              let e : h.0 ≡ file j = some_inj (sym h.1 ∙ p.1) in
              let l = like-file j m (sym (h.2 ∙ ap erase e)) in
              let z : look w.at p.0 ≡ some (file l.0) = k ∙ ap some l.1 in
              (l.0, at_place (in_tree p.0) z p.1, or_left (is_named w.at l.0) (is_held w.opens l.0) (at_named w.at p.0 l.0 z))
      go (inr x) = two (open_of w.opens n'.0) refl
        where
          n' : (k : ℕ) × (o : Open) × (open_of v.opens k ≡ some o) × (o.id ≡ j)
          n' = held_by v.opens tv.numbers j x

          two : (o : Option Open) → open_of w.opens n'.0 ≡ o → (i : ℕ) × Paired w v i j × T (live w i)
          two none k = clash (open_of v.opens n'.0) n'.1 (lone-number w v r n'.0 k) n'.2
          two (some a) k =
              (a.id, by_number n'.0 a n'.1 k n'.2 refl n'.3, or_right (is_named w.at a.id) (is_held w.opens a.id) (by_held w.opens n'.0 a k))

  common : ℕ → Bool
  common j = live v j && not (only_second w.at v.at j)

  first_le : weigh (live w) w.files ≤ weigh common v.files
  unfolding common
  first_le = weigh-le (live w) common (Paired w v) (λ i k j p q. r.first i k j p q) w.files v.files tw.files tv.files
      (λ i f e t.
      let m = mate i t in
      let a = r.alike i m.0 m.1 in (
        m.0,
        m.1,
        and_both (live v m.0) (not (only_second w.at v.at m.0)) m.2 (not_T (only_second w.at v.at m.0) (not_only i m.0 m.1)),
        a.2 ∙ ap some (some_inj (sym a.1 ∙ e)),
      ))

  second-le : weigh common v.files ≤ weigh (live w) w.files
  unfolding common
  second-le = weigh-le common (live w) (λ j i. Paired w v i j) (λ j k i p q. r.second i j k p q) v.files w.files tv.files tw.files
      (λ j f e t.
      let m = mate-back j (and_left (live v j) (not (only_second w.at v.at j)) t) (and_right (live v j) (not (only_second w.at v.at j)) t) in
      let a = r.alike m.0 j m.1 in
      (m.0, m.1, m.2, a.1 ∙ ap some (some_inj (sym a.2 ∙ e))))

  only_live : (j : ℕ) → live v j && only_second w.at v.at j ≡ only_second w.at v.at j
  only_live j = go (live v j) (only_second w.at v.at j) is
    where
      is : T (only_second w.at v.at j) → T (live v j)
      is t = let q = only_at_lem w.at v.at tv.tree j t in or_left (is_named v.at j) (is_held v.opens j) (at_named v.at q.0 j q.1)

      go : (a b : Bool) → (T b → T a) → a && b ≡ b
      go true b h = refl
      go false true h = absurd (h tt)
      go false false h = refl

  same_weigh : (g h : ℕ → Bool) (fs : Files) → ((i : ℕ) → g i ≡ h i) → weigh g fs ≡ weigh h fs
  unfolding weigh
  same_weigh g h [] e = refl
  same_weigh g h (f ∷ fs) e = rw (e f.0, same_weigh g h fs e)

  -- the second's contents are the first's and those that only the second has
  pub contents-apart : weigh (live v) v.files ≡ weigh (live w) w.files + weigh (only_second w.at v.at) v.files
  unfolding common
  contents-apart =
      omega (
        arith,
        weigh-split (live v) (only_second w.at v.at) v.files,
        first_le,
        second-le,
        same_weigh (λ j. live v j && only_second w.at v.at j) (only_second w.at v.at) v.files only_live,
      )

-- ---- two states

module _ (s u : State) (r : Over (world_of s) (world_of u)) (ts : Tidy (world_of s)) (tu : Tidy (world_of u)) where
  pub everything : HasEverything s u
  unfolding shown shown_node
  everything p e x = go (look s.tree p) refl x
    where
      on : {n m : Node} → Likes n m → look s.tree p ≡ some n → look u.tree p ≡ some m → shown_node s n ≡ some e → shown_node u m ≡ some e
      on (dirs m) y z k = k
      on (both_links m t) y z k = k
      on (files i j) y z k =
          let a = r.alike i j (at_place (in_tree p) y z) in
          ap (λ (o : Option File). on_some o (λ f. some (shown_file f.meta f.bytes))) (a.2 ∙ sym a.1) ∙ k

      go : (o : Option Node) → look s.tree p ≡ o → on_some o (shown_node s) ≡ some e → on_some (look u.tree p) (shown_node u) ≡ some e
      go none y k = clash none e refl k
      go (some n) y k =
          let h = r.has (in_tree p) n y in
          ap (λ (o : Option Node). on_some o (shown_node u)) h.1 ∙ on (likes n h.0 h.2) y h.1 k

  on-file : (n : ℕ) (o : Open) → open_of s.opens n ≡ some o → ((p : Path) × StandsAt s n p × StandsAt u n p) ⊎ ((f : File) × StandsRemoved s n f × StandsRemoved u n f)
  on-file n o x = go (is_named s.tree o.id) refl
    where
      b : (b : Open) × (open_of u.opens n ≡ some b) × ((o.pos ≡ b.pos) × (o.kept ≡ b.kept)) × Paired (world_of s) (world_of u) o.id b.id
      b = pair-number (world_of s) (world_of u) r n o x

      go : (z : Bool) → is_named s.tree o.id ≡ z → ((p : Path) × StandsAt s n p × StandsAt u n p) ⊎ ((f : File) × StandsRemoved s n f × StandsRemoved u n f)
      go true e =
          let p = named_at s.tree ts.tree o.id (of_true e) in
          let h = pair_at (world_of s) (world_of u) r (in_tree p.0) o.id p.1 in
          let d : h.0 ≡ b.0.id = r.second o.id h.0 b.0.id h.2 b.3 in
          inl (p.0, record { held = o; is_open = x; is_there = p.1 }, record { held = b.0; is_open = b.1; is_there = h.1 ∙ ap (λ (k : ℕ). some (file k)) d })
      go false e =
          let a = r.alike o.id b.0.id b.3 in
          let nameless : is_named u.tree b.0.id ≡ false =
          is_false (is_named u.tree b.0.id)
          (λ t. let q = named_at u.tree tu.tree b.0.id t in
          false≢true (sym e ∙ is_true (is_named s.tree o.id) (at_named s.tree q.0 o.id (r.covers o.id b.0.id b.3 (in_tree q.0) q.1))))
          in
          inr (a.0, record { held = o; is_open = x; no_name = e; is_file = a.1 }, record { held = b.0; is_open = b.1; no_name = nameless; is_file = a.2 })

  sharing : (n m : ℕ) → share s n m ≡ share u n m
  unfolding share
  sharing n m = go (open_of s.opens n) refl (open_of s.opens m) refl
    where
      go : (a : Option Open) → open_of s.opens n ≡ a → (b : Option Open) → open_of s.opens m ≡ b → same_id a b ≡ same_id (open_of u.opens n) (open_of u.opens m)
      go none x b y = ap (λ (o : Option Open). same_id o (open_of u.opens m)) (sym (lone-number (world_of s) (world_of u) r n x))
      go (some a) x none y =
          let c = pair-number (world_of s) (world_of u) r n a x in
          sym (ap (λ (o : Option Open). same_id o (open_of u.opens m)) c.1 ∙ ap (λ (o : Option Open). same_id (some c.0) o) (lone-number (world_of s) (world_of u) r m y))
      go (some a) x (some b) y =
          let c = pair-number (world_of s) (world_of u) r n a x in
          let d = pair-number (world_of s) (world_of u) r m b y in
          two a b c.0 d.0 c.3 d.3
          ∙ sym (ap (λ (o : Option Open). same_id o (open_of u.opens m)) c.1 ∙ ap (λ (o : Option Open). same_id (some c.0) o) d.1)
        where
          two : (a b c d : Open) → Paired (world_of s) (world_of u) a.id c.id → Paired (world_of s) (world_of u) b.id d.id → eqb a.id b.id ≡ eqb c.id d.id
          two a b c d p q = three (eqb a.id b.id) refl
            where
              three : (z : Bool) → eqb a.id b.id ≡ z → z ≡ eqb c.id d.id
              three true e =
                  sym (eq-eqb c.id d.id (r.second b.id c.id d.id (subst (λ (k : ℕ). Paired (world_of s) (world_of u) k c.id) (eqb-true a.id b.id e) p) q))
              three false e =
                  sym (ne_eqb c.id d.id (λ k. false≢true (sym e ∙ eq-eqb a.id b.id (r.first a.id b.id d.id (subst (λ (l : ℕ). Paired (world_of s) (world_of u) a.id l) k p) q))))

  pub same_open : SameOpen s u
  unfolding position_of
  same_open =
      record {
        position = λ n. number-asked (world_of s) (world_of u) r n;
        on_file = on-file;
        sharing = sharing;
      }
