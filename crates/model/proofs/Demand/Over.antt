-- What two worlds are to one another while a call runs on both: the second has what the first has, place by place; a file of the
-- one and a file of the other are a pair where they stand at one place or under one number, and pairs are one to one, alike, and
-- named by the first wherever they are by the second. No number of a file is ever compared with another world's.
-- Assumes nothing.
use mathlib.Core.Bool.{Bool, false}
use mathlib.Core.List.{List}
use mathlib.Core.Option.{Option, none, some}
use mathlib.Core.Path.{◌≡◌, refl, sym, ap, ◌∙◌, subst}
use Prim.Native.Nat.{ℕ}
use native.Mathlib.Omega.{arith}
use Rattle.model.specs.Tree.{File, Node, dir, file, link, Files, Open, file_of, open_of}
use Rattle.model.specs.Prog.{World, Edit, make, create, symlink, change, remove, take, give, opens, close, seek, change_held, go, umask}
use Rattle.model.specs.Fuller.{misses}
use Rattle.model.specs.Shaped.{HasFile}
use Rattle.model.proofs.Entries.{clash, some_inj}
use Rattle.model.proofs.Demand.Places.{Place, seen, Origin, old, new, gone, comes, Moved}

-- a node without the number of its file
unfoldable pub erase : Node → Node
erase (dir m) = dir m
erase (file i) = file 0
erase (link m s) = link m s

pub file-inj : {i j : ℕ} → file i ≡ file j → i ≡ j
file-inj e = cc

-- what is like a file is a file
pub like-file : (i : ℕ) (m : Node) → erase (file i) ≡ erase m → (j : ℕ) × (m ≡ file j)
unfolding erase
like-file i (dir a) e = absurd (let z : ◌≡◌ {A = ℕ} 0 1 = cc in omega arith)
like-file i (file j) e = (j, refl)
like-file i (link a s) e = absurd (let z : ◌≡◌ {A = ℕ} 0 1 = cc in omega arith)

-- a file of the first world and one of the second, at one place or under one number
pub data Paired (w v : World) (i j : ℕ) : Type 0 where
  at_place : (pl : Place) → seen w pl ≡ some (file i) → seen v pl ≡ some (file j) → Paired w v i j
  by_number : (n : ℕ) (a b : Open) → open_of w.opens n ≡ some a → open_of v.opens n ≡ some b → a.id ≡ i → b.id ≡ j → Paired w v i j

-- open in both, at the same position with the same path kept, or in neither
abbrev pub SameNumber : Option Open → Option Open → Type 0
SameNumber none none = Unit {0}
SameNumber none (some b) = ⊥
SameNumber (some a) none = ⊥
SameNumber (some a) (some b) = (a.pos ≡ b.pos) × (a.kept ≡ b.kept)

pub record Over (w v : World) : Type 0 where
  pub has : (pl : Place) (n : Node) → seen w pl ≡ some n → (m : Node) × (seen v pl ≡ some m) × (erase n ≡ erase m)
  pub numbers : (n : ℕ) → SameNumber (open_of w.opens n) (open_of v.opens n)
  pub alike : (i j : ℕ) → Paired w v i j → (f : File) × (file_of w.files i ≡ some f) × (file_of v.files j ≡ some f)
  pub first : (i k j : ℕ) → Paired w v i j → Paired w v k j → i ≡ k
  pub second : (i j k : ℕ) → Paired w v i j → Paired w v i k → j ≡ k
  pub covers : (i j : ℕ) → Paired w v i j → (pl : Place) → seen v pl ≡ some (file j) → seen w pl ≡ some (file i)
  pub grounded : (pl : Place) (j : ℕ) → seen v pl ≡ some (file j) → HasFile v.files j

-- a file of the first world at a place has its pair there
pub pair_at : (w v : World) → Over w v → (pl : Place) (i : ℕ) → seen w pl ≡ some (file i) → (j : ℕ) × (seen v pl ≡ some (file j)) × Paired w v i j
pair_at w v r pl i e =
    let h = r.has pl (file i) e in
    let l = like-file i h.0 h.2 in
    let k : seen v pl ≡ some (file l.0) = h.1 ∙ ap some l.1 in
    (l.0, k, at_place pl e k)

-- the same of numbers
pub pair-number : (w v : World) → Over w v → (n : ℕ) (a : Open) → open_of w.opens n ≡ some a
    → (b : Open) × (open_of v.opens n ≡ some b) × ((a.pos ≡ b.pos) × (a.kept ≡ b.kept)) × Paired w v a.id b.id
pair-number w v r n a e = go (open_of v.opens n) refl
  where
    go : (o : Option Open) → open_of v.opens n ≡ o
        → (b : Open) × (open_of v.opens n ≡ some b) × ((a.pos ≡ b.pos) × (a.kept ≡ b.kept)) × Paired w v a.id b.id
    go none k = absurd (subst (λ (o : Option Open). SameNumber (some a) o) k (subst (λ (o : Option Open). SameNumber o (open_of v.opens n)) e (r.numbers n)))
    go (some b) k = (
      b,
      k,
      subst (λ (o : Option Open). SameNumber (some a) o) k (subst (λ (o : Option Open). SameNumber o (open_of v.opens n)) e (r.numbers n)),
      by_number n a b e k refl refl,
    )

pub lone-number : (w v : World) → Over w v → (n : ℕ) → open_of w.opens n ≡ none → open_of v.opens n ≡ none
lone-number w v r n e = go (open_of v.opens n) refl
  where
    go : (o : Option Open) → open_of v.opens n ≡ o → open_of v.opens n ≡ none
    go none k = k
    go (some b) k = absurd (subst (λ (o : Option Open). SameNumber none o) k (subst (λ (o : Option Open). SameNumber o (open_of v.opens n)) e (r.numbers n)))

-- ---- an edit that only moves entries about

-- no file is new
abbrev pub NoNewFile : (Place → Origin) → Type 0
NoNewFile o = (pl : Place) (i : ℕ) → o pl ≡ new (file i) → ⊥

-- what stands at a place came from an old one
pub traced : (w w' : World) (o : Place → Origin) → Moved o w.at w.hand w'.at w'.hand → NoNewFile o → (pl : Place) (i : ℕ)
    → seen w' pl ≡ some (file i) → (from : Place) × (o pl ≡ old from) × (seen w from ≡ some (file i))
traced w w' o m f pl i e = go (o pl) refl
  where
    go : (x : Origin) → o pl ≡ x → (from : Place) × (o pl ≡ old from) × (seen w from ≡ some (file i))
    go (old q) k = (q, k, sym (m pl ∙ ap (λ (y : Origin). comes y (seen w)) k) ∙ e)
    go (new n) k =
        absurd (f pl i (k ∙ ap new (some_inj (sym (m pl ∙ ap (λ (y : Origin). comes y (seen w)) k) ∙ e))))
    go gone k = clash (seen w' pl) (file i) (m pl ∙ ap (λ (y : Origin). comes y (seen w)) k) e

module _ (w v w' v' : World) (o : Place → Origin) (mw : Moved o w.at w.hand w'.at w'.hand)
    (mv : Moved o v.at v.hand v'.at v'.hand) (no-new : NoNewFile o) (fw : w'.files ≡ w.files) (fv : v'.files ≡ v.files)
    (ow : w'.opens ≡ w.opens) (ov : v'.opens ≡ v.opens) (r : Over w v) where
  -- a pair was one before
  pub pair-back : (i j : ℕ) → Paired w' v' i j → Paired w v i j
  pair-back i j (at_place pl a b) =
      let t = traced w w' o mw no-new pl i a in
      at_place t.0 t.2 (sym (mv pl ∙ ap (λ (y : Origin). comes y (seen v)) t.1) ∙ b)
  pair-back i j (by_number n a b x y p q) =
      by_number n a b (ap (λ (l : List Open). open_of l n) (sym ow) ∙ x) (ap (λ (l : List Open). open_of l n) (sym ov) ∙ y) p q

  has_moved : (pl : Place) (n : Node) → seen w' pl ≡ some n → (m : Node) × (seen v' pl ≡ some m) × (erase n ≡ erase m)
  has_moved pl n e = go (o pl) refl
    where
      go : (x : Origin) → o pl ≡ x → (m : Node) × (seen v' pl ≡ some m) × (erase n ≡ erase m)
      go (old q) k =
          let h = r.has q n (sym (mw pl ∙ ap (λ (y : Origin). comes y (seen w)) k) ∙ e) in
          (h.0, mv pl ∙ ap (λ (y : Origin). comes y (seen v)) k ∙ h.1, h.2)
      go (new m) k =
          (m, mv pl ∙ ap (λ (y : Origin). comes y (seen v)) k, ap erase (some_inj (sym e ∙ (mw pl ∙ ap (λ (y : Origin). comes y (seen w)) k))))
      go gone k = clash (seen w' pl) n (mw pl ∙ ap (λ (y : Origin). comes y (seen w)) k) e

  -- where the second has the file of an old pair, the first has
  pub covers-moved : (i j : ℕ) → Paired w v i j → (pl : Place) → seen v' pl ≡ some (file j) → seen w' pl ≡ some (file i)
  covers-moved i j p pl e =
      let t = traced v v' o mv no-new pl j e in
      mw pl ∙ ap (λ (y : Origin). comes y (seen w)) t.1 ∙ r.covers i j p t.0 t.2

  pub over_moved : Over w' v'
  over_moved =
      record {
        has = has_moved;
        numbers = λ n. subst (λ (l : List Open). SameNumber (open_of w'.opens n) (open_of l n)) (sym ov) (subst (λ (l : List Open). SameNumber (open_of l n) (open_of v.opens n)) (sym ow) (r.numbers n));
        alike = λ i j p.
            let h = r.alike i j (pair-back i j p) in
            (h.0, ap (λ (fs : Files). file_of fs i) fw ∙ h.1, ap (λ (fs : Files). file_of fs j) fv ∙ h.2);
        first = λ i k j p q. r.first i k j (pair-back i j p) (pair-back k j q);
        second = λ i j k p q. r.second i j k (pair-back i j p) (pair-back i k q);
        covers = λ i j p pl e. covers-moved i j (pair-back i j p) pl e;
        grounded = λ pl j e.
            let t = traced v v' o mv no-new pl j e in
            let g = r.grounded t.0 j t.2 in
            (g.0, ap (λ (fs : Files). file_of fs j) fv ∙ g.1);
      }

-- ---- edits

-- an edit of an entry that is there looks for its name
unfoldable pub excepts_edit : Edit → World → World → Bool
excepts_edit (make p m) w v = false
excepts_edit (create p f) w v = false
excepts_edit (symlink p m s) w v = false
excepts_edit (change p c) w v = misses w v p
excepts_edit (remove p) w v = false
excepts_edit (take p) w v = misses w v p
excepts_edit (give p) w v = false
excepts_edit (opens n p k) w v = misses w v p
excepts_edit (close n) w v = false
excepts_edit (seek n k) w v = false
excepts_edit (change_held n c) w v = false
excepts_edit (go p) w v = false
excepts_edit (umask m) w v = false
