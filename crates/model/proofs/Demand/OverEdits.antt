-- Every edit keeps two worlds as they are to one another.
-- Assumes nothing.
use mathlib.Core.Bool.{Bool, true, false, cond, not, false≢true}
use mathlib.Core.List.{List, [], ◌∷◌}
use mathlib.Core.Logic.{◌⊎◌, inl, inr, ⊎_elim}
use mathlib.Core.Option.{Option, none, some}
use mathlib.Core.Path.{◌≡◌, refl, sym, ap, ◌∙◌, subst}
use Prim.Native.Nat.{ℕ, suc, ◌<◌, max}
use native.Mathlib.Decide.{ℕ_discrete}
use native.Mathlib.Omega.{arith}
use lib.Dec.{eqb}
use borrow.Author.Tests.{eqb-true, eq-eqb, ne_eqb}
use Rattle.text.specs.Utf8.{Bytes}
use Rattle.model.specs.Tree.{Path, Meta, File, Node, dir, file, link, Files, Open, or_else, keep_if, same_path, look, behind, file_of, open_of, put, cut, Change, change_meta, change_file, set_file, new_id}
use Rattle.model.specs.Prog.{World, Edit, make, create, symlink, change, remove, take, give, opens, close, seek, change_held, go, umask, apply, with_tree, with_files, with_opens, change_at, opened_at, close_num, move_by, seek_num, change_by}
use Rattle.model.specs.Fuller.{misses}
use Rattle.model.specs.Shaped.{HasFile}
use Rattle.model.proofs.Entries.{clash, some_inj, path-dec, put-here, put_past}
use Rattle.model.proofs.Demand.Places.{Place, in_tree, in_hand, seen, old, new, gone, pick_origin, by_behind, put_origin, put-moved, cut_origin, cut_moved, take_origin, take-moved, give_origin, give-moved, stay_origin, stay-moved}
use Rattle.model.proofs.Demand.Over.{erase, file-inj, Paired, at_place, by_number, SameNumber, Over, pair-number, lone-number, NoNewFile, over_moved, excepts_edit}

-- ---- the table of files

pub set_here : (i : ℕ) (c : Change) (fs : Files) (f : File) → file_of fs i ≡ some f → file_of (set_file i c fs) i ≡ some (change_file c f)
unfolding file_of set_file
set_here i c [] f e = clash none f refl e
set_here i c (g ∷ fs) f e = go (eqb g.0 i) (set_here i c fs f) e
  where
    go : (b : Bool) → (file_of fs i ≡ some f → file_of (set_file i c fs) i ≡ some (change_file c f)) → or_else b g.1 (file_of fs i) ≡ some f
        → or_else b (cond b (change_file c g.1) g.1) (file_of (set_file i c fs) i) ≡ some (change_file c f)
    go true ih k = ap (λ (x : File). some (change_file c x)) (some_inj k)
    go false ih k = ih k

pub set_past : (i k : ℕ) (c : Change) (fs : Files) → (i ≡ k → ⊥) → file_of (set_file i c fs) k ≡ file_of fs k
unfolding file_of set_file
set_past i k c [] n = refl
set_past i k c (g ∷ fs) n = go (ℕ_discrete g.0 i) (set_past i k c fs n)
  where
    go : Dec (g.0 ≡ i) → file_of (set_file i c fs) k ≡ file_of fs k
        → or_else (eqb g.0 k) (cond (eqb g.0 i) (change_file c g.1) g.1) (file_of (set_file i c fs) k) ≡ or_else (eqb g.0 k) g.1 (file_of fs k)
    go (yes e) ih = rw (ne_eqb g.0 k (λ z. n (sym e ∙ z))) ih
    go (no e) ih = rw (ne_eqb g.0 i e, ih)

pub set_has : (i k : ℕ) (c : Change) (fs : Files) → HasFile fs k → HasFile (set_file i c fs) k
set_has i k c fs h = go (ℕ_discrete i k)
  where
    go : Dec (i ≡ k) → HasFile (set_file i c fs) k
    go (yes e) = (change_file c h.0, ap (file_of (set_file i c fs)) (sym e) ∙ set_here i c fs h.0 (ap (file_of fs) e ∙ h.1))
    go (no e) = (h.0, set_past i k c fs e ∙ h.1)

file-below : (fs : Files) (i : ℕ) (f : File) → file_of fs i ≡ some f → i < new_id fs
unfolding file_of new_id
file-below [] i f e = clash none f refl e
file-below (g ∷ fs) i f e = go (ℕ_discrete g.0 i) (file-below fs i f)
  where
    go : Dec (g.0 ≡ i) → (file_of fs i ≡ some f → i < new_id fs) → i < max (suc g.0) (new_id fs)
    go (yes k) ih = omega arith
    go (no k) ih = omega (arith, ih (sym (ap (λ (b : Bool). or_else b g.1 (file_of fs i)) (ne_eqb g.0 i k)) ∙ e))

-- a number that no file has
pub not_new : (fs : Files) (i : ℕ) → HasFile fs i → new_id fs ≡ i → ⊥
not_new fs i h e = omega (arith, file-below fs i h.0 h.1)

pub cons_past : (i k : ℕ) (f : File) (fs : Files) → (i ≡ k → ⊥) → file_of ((i, f) ∷ fs) k ≡ file_of fs k
unfolding file_of
cons_past i k f fs n = rw (ne_eqb i k n)

pub cons-here : (i : ℕ) (f : File) (fs : Files) → file_of ((i, f) ∷ fs) i ≡ some f
unfolding file_of
cons-here i f fs = rw (eq-eqb i i refl)

-- ---- files of a pair changed alike

pair-files : (w v : World) (fs gs : Files) (i j : ℕ) → Paired (with_files w fs) (with_files v gs) i j → Paired w v i j
pair-files w v fs gs i j (at_place pl a b) = at_place pl a b
pair-files w v fs gs i j (by_number n a b x y p q) = by_number n a b x y p q

pub over_files : (w v : World) (i j : ℕ) (c : Change) → Over w v → Paired w v i j → Over (with_files w (set_file i c w.files)) (with_files v (set_file j c v.files))
over_files w v i j c r p =
    record {
      has = r.has;
      numbers = r.numbers;
      alike = λ k l q. go k l (pair-files w v _ _ k l q) (ℕ_discrete i k);
      first = λ k l m q s. r.first k l m (pair-files w v _ _ k m q) (pair-files w v _ _ l m s);
      second = λ k l m q s. r.second k l m (pair-files w v _ _ k l q) (pair-files w v _ _ k m s);
      covers = λ k l q pl e. r.covers k l (pair-files w v _ _ k l q) pl e;
      grounded = λ pl l e. set_has j l c v.files (r.grounded pl l e);
    }
  where
    go : (k l : ℕ) → Paired w v k l → Dec (i ≡ k) → (f : File) × (file_of (set_file i c w.files) k ≡ some f) × (file_of (set_file j c v.files) l ≡ some f)
    go k l q (yes e) =
        let h = r.alike i j p in
        let d : j ≡ l = r.second i j l p (subst (λ (x : ℕ). Paired w v x l) (sym e) q) in (
          change_file c h.0,
          ap (file_of (set_file i c w.files)) (sym e) ∙ set_here i c w.files h.0 h.1,
          ap (file_of (set_file j c v.files)) (sym d) ∙ set_here j c v.files h.0 h.2,
        )
    go k l q (no e) =
        let h = r.alike k l q in (
          h.0,
          set_past i k c w.files e ∙ h.1,
          set_past j l c v.files (λ d. e (r.first i k l (subst (λ (x : ℕ). Paired w v i x) d p) q)) ∙ h.2,
        )

-- ---- open numbers changed alike

module _ (w v : World) (os us : List Open) (r : Over w v) (same : (n : ℕ) → SameNumber (open_of os n) (open_of us n))
    (back : (n : ℕ) (a b : Open) → open_of os n ≡ some a → open_of us n ≡ some b → Paired w v a.id b.id) where
  pair-opens : (i j : ℕ) → Paired (with_opens w os) (with_opens v us) i j → Paired w v i j
  pair-opens i j (at_place pl a b) = at_place pl a b
  pair-opens i j (by_number n a b x y p q) = subst (λ (k : ℕ). Paired w v i k) q (subst (λ (k : ℕ). Paired w v k b.id) p (back n a b x y))

  pub over_opens : Over (with_opens w os) (with_opens v us)
  over_opens =
      record {
        has = r.has;
        numbers = same;
        alike = λ i j p. r.alike i j (pair-opens i j p);
        first = λ i k j p q. r.first i k j (pair-opens i j p) (pair-opens k j q);
        second = λ i j k p q. r.second i j k (pair-opens i j p) (pair-opens i k q);
        covers = λ i j p pl e. r.covers i j (pair-opens i j p) pl e;
        grounded = r.grounded;
      }

open-here : (o : Open) (os : List Open) (n : ℕ) → o.num ≡ n → open_of (o ∷ os) n ≡ some o
unfolding open_of
open-here o os n e = rw (eq-eqb o.num n e)

open_past : (o : Open) (os : List Open) (n : ℕ) → (o.num ≡ n → ⊥) → open_of (o ∷ os) n ≡ open_of os n
unfolding open_of
open_past o os n e = rw (ne_eqb o.num n e)

pub close-here : (n : ℕ) (os : List Open) → open_of (close_num n os) n ≡ none
unfolding open_of close_num
close-here n [] = refl
close-here n (o ∷ os) = go (eqb o.num n) refl (close-here n os)
  where
    go : (b : Bool) → eqb o.num n ≡ b → open_of (close_num n os) n ≡ none → open_of (keep_if (not b) o (close_num n os)) n ≡ none
    go true e ih = ih
    go false e ih = rw e ih

pub close_past : (n m : ℕ) (os : List Open) → (n ≡ m → ⊥) → open_of (close_num n os) m ≡ open_of os m
unfolding open_of close_num
close_past n m [] h = refl
close_past n m (o ∷ os) h = go (eqb o.num n) refl (close_past n m os h)
  where
    go : (b : Bool) → eqb o.num n ≡ b → open_of (close_num n os) m ≡ open_of os m → open_of (keep_if (not b) o (close_num n os)) m ≡ open_of (o ∷ os) m
    go true e ih = ih ∙ sym (open_past o os m (λ k. h (sym (eqb-true o.num n e) ∙ k)))
    go false e ih = ap (λ (x : Option Open). or_else (eqb o.num m) o x) ih

abbrev pub moved : ℕ → ℕ → Option Open → Option Open
moved n k none = none
moved n k (some o) = some (move_by (eqb o.num n) k o)

pub seek_is : (n k m : ℕ) (os : List Open) → open_of (seek_num n k os) m ≡ moved n k (open_of os m)
unfolding open_of seek_num
seek_is n k m [] = refl
seek_is n k m (o ∷ os) = go (eqb o.num n) refl (eqb o.num m) (seek_is n k m os)
  where
    go : (b : Bool) → eqb o.num n ≡ b → (d : Bool) → open_of (seek_num n k os) m ≡ moved n k (open_of os m)
        → or_else (eqb (move_by b k o).num m) (move_by b k o) (open_of (seek_num n k os) m) ≡ moved n k (or_else (eqb o.num m) o (open_of os m))
    go b e d ih = ap (λ (x : Bool). or_else x (move_by b k o) (open_of (seek_num n k os) m)) (ap (λ (x : ℕ). eqb x m) (num b)) ∙ two (eqb o.num m)
      where
        num : (b : Bool) → (move_by b k o).num ≡ o.num
        num true = refl
        num false = refl

        two : (d : Bool) → or_else d (move_by b k o) (open_of (seek_num n k os) m) ≡ moved n k (or_else d o (open_of os m))
        two true = ap (λ (x : Bool). some (move_by x k o)) (sym e)
        two false = ih

pub open-num : (os : List Open) (n : ℕ) (o : Open) → open_of os n ≡ some o → o.num ≡ n
unfolding open_of
open-num [] n o e = clash none o refl e
open-num (a ∷ os) n o e = go (eqb a.num n) refl e (open-num os n o)
  where
    go : (b : Bool) → eqb a.num n ≡ b → or_else b a (open_of os n) ≡ some o → (open_of os n ≡ some o → o.num ≡ n) → o.num ≡ n
    go true k e ih = ap (λ (x : Open). x.num) (sym (some_inj e)) ∙ eqb-true a.num n k
    go false k e ih = ih e

-- ---- each edit

pub put_no_new : (p : Path) (n : Node) → ((i : ℕ) → n ≡ file i → ⊥) → NoNewFile (put_origin p n)
put_no_new p n h (in_tree q) i = λ e. go (same_path p q) e
  where
    go : (b : Bool) → pick_origin b (new n) (old (in_tree q)) ≡ new (file i) → ⊥
    go true e = h i (let z : n ≡ file i = cc in z)
    go false e = let z : ◌≡◌ {A = ℕ} 0 1 = cc in omega arith
put_no_new p n h (in_hand q) i = λ e. let z : ◌≡◌ {A = ℕ} 0 1 = cc in omega arith

pub cut_no_new : (p : Path) → NoNewFile (cut_origin p)
cut_no_new p (in_tree q) i = λ e. go (behind p q) e
  where
    go : (o : Option Path) → by_behind o (λ r. gone) (old (in_tree q)) ≡ new (file i) → ⊥
    go none e = let z : ◌≡◌ {A = ℕ} 0 1 = cc in omega arith
    go (some r) e = let z : ◌≡◌ {A = ℕ} 0 1 = cc in omega arith
cut_no_new p (in_hand q) i = λ e. let z : ◌≡◌ {A = ℕ} 0 1 = cc in omega arith

pub take_no_new : (p : Path) → NoNewFile (take_origin p)
take_no_new p (in_tree q) i = cut_no_new p (in_tree q) i
take_no_new p (in_hand q) i = λ e. let z : ◌≡◌ {A = ℕ} 0 1 = cc in omega arith

pub give_no_new : (p : Path) → NoNewFile (give_origin p)
give_no_new p (in_tree q) i = λ e. go (behind p q) e
  where
    go : (o : Option Path) → by_behind o (λ r. old (in_hand r)) (old (in_tree q)) ≡ new (file i) → ⊥
    go none e = let z : ◌≡◌ {A = ℕ} 0 1 = cc in omega arith
    go (some r) e = let z : ◌≡◌ {A = ℕ} 0 1 = cc in omega arith
give_no_new p (in_hand q) i = λ e. let z : ◌≡◌ {A = ℕ} 0 1 = cc in omega arith

pub stay_no_new : NoNewFile stay_origin
stay_no_new pl i e = let z : ◌≡◌ {A = ℕ} 0 1 = cc in omega arith

pub dir_no_file : (m : Meta) (i : ℕ) → dir m ≡ file i → ⊥
dir_no_file m i e = let z : ◌≡◌ {A = ℕ} 0 1 = cc in omega arith

pub link_no_file : (m : Meta) (s : Bytes) (i : ℕ) → link m s ≡ file i → ⊥
link_no_file m s i e = let z : ◌≡◌ {A = ℕ} 0 1 = cc in omega arith

-- a node that is no file put in both
over_put : (w v : World) (p : Path) (n : Node) → ((i : ℕ) → n ≡ file i → ⊥) → Over w v → Over (with_tree w (put p n w.at)) (with_tree v (put p n v.at))
over_put w v p n h r =
    over_moved w v (with_tree w (put p n w.at)) (with_tree v (put p n v.at)) (put_origin p n) (put-moved p n w.at w.hand) (put-moved p n v.at v.hand)
    (put_no_new p n h) refl refl refl refl r

-- nothing but the current directory or the umask is changed
over_stay : (w v : World) (h k : Path) (a b : ℕ) → Over w v
    → Over (record { at = w.at; hand = w.hand; files = w.files; opens = w.opens; here = h; mask = a })
    (record { at = v.at; hand = v.hand; files = v.files; opens = v.opens; here = k; mask = b })
over_stay w v h k a b r =
    over_moved w v (record { at = w.at; hand = w.hand; files = w.files; opens = w.opens; here = h; mask = a })
    (record { at = v.at; hand = v.hand; files = v.files; opens = v.opens; here = k; mask = b })
    stay_origin (stay-moved w.at w.hand) (stay-moved v.at v.hand) stay_no_new refl refl refl refl r

-- what is looked for and not missed: neither has it, or both
pub not_missed : (w v : World) (p : Path) → misses w v p ≡ false → look w.at p ≡ none → look v.at p ≡ none
unfolding misses
not_missed w v p e n = go (look v.at p) refl
  where
    go : (o : Option Node) → look v.at p ≡ o → look v.at p ≡ none
    go none k = k
    go (some m) k = absurd (false≢true (sym e ∙ rw (n, k)))

-- nodes alike but for the number of a file
pub data Likes : Node → Node → Type 0 where
  dirs : (m : Meta) → Likes (dir m) (dir m)
  files : (i j : ℕ) → Likes (file i) (file j)
  both_links : (m : Meta) (s : Bytes) → Likes (link m s) (link m s)

pub likes : (n m : Node) → erase n ≡ erase m → Likes n m
unfolding erase
likes (dir a) (dir b) e = subst (λ (q : Meta). Likes (dir a) (dir q)) (let z : a ≡ b = cc in z) (dirs a)
likes (dir a) (file j) e = absurd (let z : ◌≡◌ {A = ℕ} 0 1 = cc in omega arith)
likes (dir a) (link b t) e = absurd (let z : ◌≡◌ {A = ℕ} 0 1 = cc in omega arith)
likes (file i) (dir b) e = absurd (let z : ◌≡◌ {A = ℕ} 0 1 = cc in omega arith)
likes (file i) (file j) e = files i j
likes (file i) (link b t) e = absurd (let z : ◌≡◌ {A = ℕ} 0 1 = cc in omega arith)
likes (link a s) (dir b) e = absurd (let z : ◌≡◌ {A = ℕ} 0 1 = cc in omega arith)
likes (link a s) (file j) e = absurd (let z : ◌≡◌ {A = ℕ} 0 1 = cc in omega arith)
likes (link a s) (link b t) e =
    let z : a ≡ b = cc in let q : s ≡ t = cc in
    subst (λ (d : Meta). Likes (link a s) (link d t)) z (subst (λ (d : Bytes). Likes (link a s) (link a d)) q (both_links a s))

module _ (w v : World) (r : Over w v) where
  over_change : (p : Path) (c : Change) → misses w v p ≡ false → Over (change_at w p c (look w.at p)) (change_at v p c (look v.at p))
  over_change p c e = go (look w.at p) refl
    where
      at : {n m : Node} → Likes n m → look w.at p ≡ some n → look v.at p ≡ some m → Over (change_at w p c (some n)) (change_at v p c (some m))
      at (dirs a) x y = over_put w v p (dir (change_meta c a)) (dir_no_file _) r
      at (files i j) x y = over_files w v i j c r (at_place (in_tree p) x y)
      at (both_links a s) x y = over_put w v p (link (change_meta c a) s) (link_no_file _ _) r

      go : (o : Option Node) → look w.at p ≡ o → Over (change_at w p c o) (change_at v p c (look v.at p))
      go none k = rw (not_missed w v p e k) r
      go (some n) k = let h = r.has (in_tree p) n k in rw h.1 (at (likes n h.0 h.2) k h.1)

  -- a number opened on the file at a path
  over_open : (n : ℕ) (p : Path) (k : ℕ) → misses w v p ≡ false → Over (opened_at w n p k (look w.at p)) (opened_at v n p k (look v.at p))
  over_open n p k e = go (look w.at p) refl
    where
      on : (i j : ℕ) → look w.at p ≡ some (file i) → look v.at p ≡ some (file j) → Over (opened_at w n p k (some (file i))) (opened_at v n p k (some (file j)))
      on i j x y = over_opens w v _ _ r same back
        where
          a : Open
          a = record { num = n; id = i; pos = k; kept = p }

          b : Open
          b = record { num = n; id = j; pos = k; kept = p }

          past : (o : Open) (os : List Open) → o.num ≡ n → (m : ℕ) → (n ≡ m → ⊥) → open_of (o ∷ close_num n os) m ≡ open_of os m
          past o os e m q = open_past o (close_num n os) m (λ z. q (sym e ∙ z)) ∙ close_past n m os q

          same : (m : ℕ) → SameNumber (open_of (a ∷ close_num n w.opens) m) (open_of (b ∷ close_num n v.opens) m)
          same m = two (ℕ_discrete n m)
            where
              two : Dec (n ≡ m) → SameNumber (open_of (a ∷ close_num n w.opens) m) (open_of (b ∷ close_num n v.opens) m)
              two (yes q) = rw (open-here a (close_num n w.opens) m q, open-here b (close_num n v.opens) m q) (refl, refl)
              two (no q) = rw (past a w.opens refl m q, past b v.opens refl m q) (r.numbers m)

          back : (m : ℕ) (c d : Open) → open_of (a ∷ close_num n w.opens) m ≡ some c → open_of (b ∷ close_num n v.opens) m ≡ some d → Paired w v c.id d.id
          back m c d s t = two (ℕ_discrete n m)
            where
              two : Dec (n ≡ m) → Paired w v c.id d.id
              two (yes q) =
                  let ec : a ≡ c = some_inj (sym (open-here a (close_num n w.opens) m q) ∙ s) in
                  let ed : b ≡ d = some_inj (sym (open-here b (close_num n v.opens) m q) ∙ t) in
                  subst (λ (z : Open). Paired w v c.id z.id) ed (subst (λ (z : Open). Paired w v z.id j) ec (at_place (in_tree p) x y))
              two (no q) = by_number m c d (sym (past a w.opens refl m q) ∙ s) (sym (past b v.opens refl m q) ∙ t) refl refl

      at : {n₀ m₀ : Node} → Likes n₀ m₀ → look w.at p ≡ some n₀ → look v.at p ≡ some m₀ → Over (opened_at w n p k (some n₀)) (opened_at v n p k (some m₀))
      at (dirs a) x y = r
      at (files i j) x y = on i j x y
      at (both_links a s) x y = r

      go : (o : Option Node) → look w.at p ≡ o → Over (opened_at w n p k o) (opened_at v n p k (look v.at p))
      go none q = rw (not_missed w v p e q) r
      go (some m) q = let h = r.has (in_tree p) m q in rw h.1 (at (likes m h.0 h.2) q h.1)

  over_close : (n : ℕ) → Over (with_opens w (close_num n w.opens)) (with_opens v (close_num n v.opens))
  over_close n = over_opens w v _ _ r same back
    where
      same : (m : ℕ) → SameNumber (open_of (close_num n w.opens) m) (open_of (close_num n v.opens) m)
      same m = two (ℕ_discrete n m)
        where
          two : Dec (n ≡ m) → SameNumber (open_of (close_num n w.opens) m) (open_of (close_num n v.opens) m)
          two (yes q) = subst (λ (k : ℕ). SameNumber (open_of (close_num n w.opens) k) (open_of (close_num n v.opens) k)) q (rw (close-here n w.opens, close-here n v.opens) tt)
          two (no q) = rw (close_past n m w.opens q, close_past n m v.opens q) (r.numbers m)

      back : (m : ℕ) (c d : Open) → open_of (close_num n w.opens) m ≡ some c → open_of (close_num n v.opens) m ≡ some d → Paired w v c.id d.id
      back m c d s t = two (ℕ_discrete n m)
        where
          two : Dec (n ≡ m) → Paired w v c.id d.id
          two (yes q) = clash (open_of (close_num n w.opens) m) c (ap (open_of (close_num n w.opens)) (sym q) ∙ close-here n w.opens) s
          two (no q) = by_number m c d (sym (close_past n m w.opens q) ∙ s) (sym (close_past n m v.opens q) ∙ t) refl refl

  over_seek : (n k : ℕ) → Over (with_opens w (seek_num n k w.opens)) (with_opens v (seek_num n k v.opens))
  over_seek n k = over_opens w v _ _ r same back
    where
      kept-id : (b : Bool) (o : Open) → (move_by b k o).id ≡ o.id
      kept-id true o = refl
      kept-id false o = refl

      both : (x y : Bool) (a b : Open) → x ≡ y → (a.pos ≡ b.pos) × (a.kept ≡ b.kept) → SameNumber (some (move_by x k a)) (some (move_by y k b))
      both true true a b e h = (refl, h.1)
      both true false a b e h = absurd (false≢true (sym e))
      both false true a b e h = absurd (false≢true e)
      both false false a b e h = h

      same : (m : ℕ) → SameNumber (open_of (seek_num n k w.opens) m) (open_of (seek_num n k v.opens) m)
      same m = rw (seek_is n k m w.opens, seek_is n k m v.opens) (two (open_of w.opens m) refl)
        where
          two : (o : Option Open) → open_of w.opens m ≡ o → SameNumber (moved n k o) (moved n k (open_of v.opens m))
          two none e = rw (lone-number w v r m e) tt
          two (some a) e =
              let h = pair-number w v r m a e in
              rw h.1 (both (eqb a.num n) (eqb h.0.num n) a h.0
              (ap (λ (x : ℕ). eqb x n) (open-num w.opens m a e ∙ sym (open-num v.opens m h.0 h.1))) h.2)

      back : (m : ℕ) (c d : Open) → open_of (seek_num n k w.opens) m ≡ some c → open_of (seek_num n k v.opens) m ≡ some d → Paired w v c.id d.id
      back m c d s t = two (open_of w.opens m) refl
        where
          two : (o : Option Open) → open_of w.opens m ≡ o → Paired w v c.id d.id
          two none e = clash (open_of (seek_num n k w.opens) m) c (seek_is n k m w.opens ∙ ap (moved n k) e) s
          two (some a) e =
              let h = pair-number w v r m a e in
              let x : move_by (eqb a.num n) k a ≡ c = some_inj (sym (seek_is n k m w.opens ∙ ap (moved n k) e) ∙ s) in
              let y : move_by (eqb h.0.num n) k h.0 ≡ d = some_inj (sym (seek_is n k m v.opens ∙ ap (moved n k) h.1) ∙ t) in
              by_number m a h.0 e h.1 (sym (kept-id (eqb a.num n) a) ∙ ap (λ (o : Open). o.id) x) (sym (kept-id (eqb h.0.num n) h.0) ∙ ap (λ (o : Open). o.id) y)

  over_held : (n : ℕ) (c : Change) → Over (change_by w c (open_of w.opens n)) (change_by v c (open_of v.opens n))
  over_held n c = go (open_of w.opens n) refl
    where
      go : (o : Option Open) → open_of w.opens n ≡ o → Over (change_by w c o) (change_by v c (open_of v.opens n))
      go none e = rw (lone-number w v r n e) r
      go (some a) e = let h = pair-number w v r n a e in rw h.1 (over_files w v a.id h.0.id c r h.3)

-- ---- a file created in both

module _ (w v : World) (p : Path) (f : File) (r : Over w v) where
  unfoldable pub made : World → World
  made x = with_files (with_tree x (put p (file (new_id x.files)) x.at)) ((new_id x.files, f) ∷ x.files)

  -- what stands at a place afterwards: the new file, or what stood there
  pub made-seen : (x : World) (pl : Place) → ((pl ≡ in_tree p) × (seen (made x) pl ≡ some (file (new_id x.files)))) ⊎ (seen (made x) pl ≡ seen x pl)
  unfolding made
  made-seen x (in_tree q) = go (path-dec p q)
    where
      go : Dec (p ≡ q) → ((in_tree q ≡ in_tree p) × (look (put p (file (new_id x.files)) x.at) q ≡ some (file (new_id x.files)))) ⊎ (look (put p (file (new_id x.files)) x.at) q ≡ look x.at q)
      go (yes e) = inl (ap in_tree (sym e), ap (look (put p (file (new_id x.files)) x.at)) (sym e) ∙ put-here p (file (new_id x.files)) x.at)
      go (no e) = inr (put_past p q (file (new_id x.files)) x.at e)
  made-seen x (in_hand q) = inr refl

  here-seen : (x : World) → seen (made x) (in_tree p) ≡ some (file (new_id x.files))
  unfolding made
  here-seen x = put-here p (file (new_id x.files)) x.at

  -- the file of the place is the new one
  new-here : (x : World) (pl : Place) (i : ℕ) → pl ≡ in_tree p → seen (made x) pl ≡ some (file i) → new_id x.files ≡ i
  new-here x pl i e k = file-inj (some_inj (sym (here-seen x) ∙ ap (seen (made x)) (sym e) ∙ k))

  -- a pair is the new one or was one before
  pair_made : (i j : ℕ) → Paired (made w) (made v) i j → ((new_id w.files ≡ i) × (new_id v.files ≡ j)) ⊎ Paired w v i j
  unfolding made
  pair_made i j (at_place pl a b) = go (made-seen w pl) (made-seen v pl)
    where
      go : ((pl ≡ in_tree p) × (seen (made w) pl ≡ some (file (new_id w.files)))) ⊎ (seen (made w) pl ≡ seen w pl)
          → ((pl ≡ in_tree p) × (seen (made v) pl ≡ some (file (new_id v.files)))) ⊎ (seen (made v) pl ≡ seen v pl)
          → ((new_id w.files ≡ i) × (new_id v.files ≡ j)) ⊎ Paired w v i j
      go (inl x) y = inl (new-here w pl i x.0 a, new-here v pl j x.0 b)
      go (inr x) (inl y) = inl (new-here w pl i y.0 a, new-here v pl j y.0 b)
      go (inr x) (inr y) = inr (at_place pl (sym x ∙ a) (sym y ∙ b))
  pair_made i j (by_number n a b x y s t) = inr (by_number n a b x y s t)

  old_first : (i j : ℕ) → Paired w v i j → new_id w.files ≡ i → ⊥
  old_first i j q e = let h = r.alike i j q in not_new w.files i (h.0, h.1) e

  old-second : (i j : ℕ) → Paired w v i j → new_id v.files ≡ j → ⊥
  old-second i j q e = let h = r.alike i j q in not_new v.files j (h.0, h.2) e

  has_made : (pl : Place) (n : Node) → seen (made w) pl ≡ some n → (m : Node) × (seen (made v) pl ≡ some m) × (erase n ≡ erase m)
  unfolding erase
  has_made pl n e = go (made-seen w pl) (made-seen v pl)
    where
      go : ((pl ≡ in_tree p) × (seen (made w) pl ≡ some (file (new_id w.files)))) ⊎ (seen (made w) pl ≡ seen w pl)
          → ((pl ≡ in_tree p) × (seen (made v) pl ≡ some (file (new_id v.files)))) ⊎ (seen (made v) pl ≡ seen v pl)
          → (m : Node) × (seen (made v) pl ≡ some m) × (erase n ≡ erase m)
      go (inl x) y =
          (file (new_id v.files), ap (seen (made v)) x.0 ∙ here-seen v, ap erase (some_inj (sym e ∙ x.1)))
      go (inr x) (inl y) =
          (file (new_id v.files), y.1, ap erase (some_inj (sym e ∙ ap (seen (made w)) y.0 ∙ here-seen w)))
      go (inr x) (inr y) = let h = r.has pl n (sym x ∙ e) in (h.0, y ∙ h.1, h.2)

  covers-made : (i j : ℕ) → Paired (made w) (made v) i j → (pl : Place) → seen (made v) pl ≡ some (file j) → seen (made w) pl ≡ some (file i)
  covers-made i j q pl e = go (pair_made i j q) (made-seen v pl) (made-seen w pl)
    where
      go : ((new_id w.files ≡ i) × (new_id v.files ≡ j)) ⊎ Paired w v i j
          → ((pl ≡ in_tree p) × (seen (made v) pl ≡ some (file (new_id v.files)))) ⊎ (seen (made v) pl ≡ seen v pl)
          → ((pl ≡ in_tree p) × (seen (made w) pl ≡ some (file (new_id w.files)))) ⊎ (seen (made w) pl ≡ seen w pl)
          → seen (made w) pl ≡ some (file i)
      go (inl x) (inl y) z = ap (seen (made w)) y.0 ∙ here-seen w ∙ ap (λ (k : ℕ). some (file k)) x.0
      go (inl x) (inr y) z = absurd (not_new v.files j (r.grounded pl j (sym y ∙ e)) x.1)
      go (inr x) (inl y) z = absurd (old-second i j x (new-here v pl j y.0 e))
      go (inr x) (inr y) (inl z) = absurd (old-second i j x (new-here v pl j z.0 e))
      go (inr x) (inr y) (inr z) = z ∙ r.covers i j x pl (sym y ∙ e)

  -- the table still has what it had
  made_has : (x : World) (i : ℕ) → HasFile x.files i → HasFile ((new_id x.files, f) ∷ x.files) i
  made_has x i h = (h.0, cons_past (new_id x.files) i f x.files (not_new x.files i h) ∙ h.1)

  pub over_made : Over (made w) (made v)
  unfolding made
  over_made =
      record {
        has = has_made;
        numbers = r.numbers;
        alike = λ i j q. ⊎_elim (λ x. (f, ap (file_of ((new_id w.files, f) ∷ w.files)) (sym x.0) ∙ cons-here (new_id w.files) f w.files, ap (file_of ((new_id v.files, f) ∷ v.files)) (sym x.1) ∙ cons-here (new_id v.files) f v.files))
            (λ x. let h = r.alike i j x in (h.0, cons_past (new_id w.files) i f w.files (old_first i j x) ∙ h.1, cons_past (new_id v.files) j f v.files (old-second i j x) ∙ h.2))
            (pair_made i j q);
        first = λ i k j q s. first' i k j (pair_made i j q) (pair_made k j s);
        second = λ i j k q s. second' i j k (pair_made i j q) (pair_made i k s);
        covers = covers-made;
        grounded = λ pl j e. ⊎_elim (λ x. (f, ap (file_of ((new_id v.files, f) ∷ v.files)) (sym (new-here v pl j x.0 e)) ∙ cons-here (new_id v.files) f v.files))
            (λ x. made_has v j (r.grounded pl j (sym x ∙ e))) (made-seen v pl);
      }
    where
      first' : (i k j : ℕ) → ((new_id w.files ≡ i) × (new_id v.files ≡ j)) ⊎ Paired w v i j → ((new_id w.files ≡ k) × (new_id v.files ≡ j)) ⊎ Paired w v k j → i ≡ k
      first' i k j (inl x) (inl y) = sym x.0 ∙ y.0
      first' i k j (inl x) (inr y) = absurd (old-second k j y x.1)
      first' i k j (inr x) (inl y) = absurd (old-second i j x y.1)
      first' i k j (inr x) (inr y) = r.first i k j x y

      second' : (i j k : ℕ) → ((new_id w.files ≡ i) × (new_id v.files ≡ j)) ⊎ Paired w v i j → ((new_id w.files ≡ i) × (new_id v.files ≡ k)) ⊎ Paired w v i k → j ≡ k
      second' i j k (inl x) (inl y) = sym x.1 ∙ y.1
      second' i j k (inl x) (inr y) = absurd (old_first i k y x.0)
      second' i j k (inr x) (inl y) = absurd (old_first i j x y.0)
      second' i j k (inr x) (inr y) = r.second i j k x y

-- ---- all edits

pub over_edit : (e : Edit) (w v : World) → Over w v → excepts_edit e w v ≡ false → Over (apply e w) (apply e v)
unfolding apply excepts_edit made
over_edit (make p m) w v r x = over_put w v p (dir m) (dir_no_file m) r
over_edit (create p f) w v r x = over_made w v p f r
over_edit (symlink p m s) w v r x = over_put w v p (link m s) (link_no_file m s) r
over_edit (change p c) w v r x = over_change w v r p c x
over_edit (remove p) w v r x =
    over_moved w v (with_tree w (cut p w.at)) (with_tree v (cut p v.at)) (cut_origin p) (cut_moved p w.at w.hand) (cut_moved p v.at v.hand)
    (cut_no_new p) refl refl refl refl r
over_edit (take p) w v r x =
    over_moved w v (apply (take p) w) (apply (take p) v) (take_origin p) (take-moved p w.at w.hand) (take-moved p v.at v.hand) (take_no_new p) refl refl
    refl refl r
over_edit (give p) w v r x =
    over_moved w v (apply (give p) w) (apply (give p) v) (give_origin p) (give-moved p w.at w.hand) (give-moved p v.at v.hand) (give_no_new p) refl refl
    refl refl r
over_edit (opens n p k) w v r x = over_open w v r n p k x
over_edit (close n) w v r x = over_close w v r n
over_edit (seek n k) w v r x = over_seek w v r n k
over_edit (change_held n c) w v r x = over_held w v r n c
over_edit (go p) w v r x = over_stay w v p p w.mask v.mask r
over_edit (umask m) w v r x = over_stay w v w.here v.here m m r
