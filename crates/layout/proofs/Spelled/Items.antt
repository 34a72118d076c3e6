-- What stands in each slot of the store that a state is written to: an entry's own slot is the number of its place, the slots
-- behind are free, and a file without a name has one of the last 32, that of the first number open on it.
-- Assumes nothing.
use mathlib.Core.Bool.{Bool, true, false, ◌&&◌, cond, not, false≢true}
use mathlib.Core.List.{List, [], ◌∷◌}
use mathlib.Core.Option.{Option, none, some}
use mathlib.Core.Path.{◌≡◌, refl, sym, ap, ◌∙◌}
use Prim.Native.Nat.{ℕ, zero, suc, ◌+◌, ◌-◌, ◌≤◌, ◌<◌}
use native.Mathlib.Decide.{ℕ_discrete}
use native.Mathlib.Omega.{arith}
use lib.Dec.{T, eqb, ltb}
use lib.IntN.{pos}
use lib.ListN.{length, get_or}
use borrow.Author.Tests.{lt-ltb, le-ltb, eq-eqb, ne_eqb}
use Rattle.text.specs.Utf8.{Bytes}
use Rattle.model.specs.Tree.{Path, Meta, File, Node, dir, file, link, Entries, Files, Open, look, file_of, open_of}
use Rattle.model.specs.Calls.States.{State, is_named}
use Rattle.model.proofs.Entries.{clash, look-here, look_past, Apart}

-- kind, whose file it is, metadata and bytes
pub record Item : Type 0 where
  pub kind : ℕ
  pub id : Option ℕ
  pub meta : Meta
  pub bytes : Bytes

abbrev pub no_meta : Meta
no_meta = record { mode = 0; accessed = pos 0; changed = pos 0; created = pos 0; modified = pos 0 }

abbrev pub free_item : Item
free_item = record { kind = 0; id = none; meta = no_meta; bytes = [] }

abbrev pub file_item : ℕ → File → Item
file_item j f = record { kind = 2; id = some j; meta = f.meta; bytes = f.bytes }

abbrev pub file_or : ℕ → Option File → Item
file_or j none = free_item
file_or j (some f) = file_item j f

-- an entry's
abbrev pub item_of : Files → Node → Item
item_of fs (dir m) = record { kind = 1; id = none; meta = m; bytes = [] }
item_of fs (file j) = file_or j (file_of fs j)
item_of fs (link m s) = record { kind = 3; id = none; meta = m; bytes = s }

-- ---- the first number on a file

abbrev pub on_by : Option Open → ℕ → Bool
on_by none j = false
on_by (some o) j = eqb o.id j

unfoldable pub first_on : List Open → ℕ → ℕ → ℕ → ℕ
first_on os j zero k = k
first_on os j (suc n) k = cond (on_by (open_of os k) j) k (first_on os j n (suc k))

pub first_on_lem : (os : List Open) (j n k i : ℕ) → k ≤ i → i < k + n → on_by (open_of os i) j ≡ true
    → (on_by (open_of os (first_on os j n k)) j ≡ true) × (first_on os j n k ≤ i)
unfolding first_on
first_on_lem os j zero k i a b t = absurd (omega arith)
first_on_lem os j (suc n) k i a b t = go (on_by (open_of os k) j) refl (first_on_lem os j n (suc k) i)
  where
    go : (c : Bool) → on_by (open_of os k) j ≡ c
        → (suc k ≤ i → i < suc k + n → on_by (open_of os i) j ≡ true → (on_by (open_of os (first_on os j n (suc k))) j ≡ true) × (first_on os j n (suc k) ≤ i))
        → (on_by (open_of os (cond c k (first_on os j n (suc k)))) j ≡ true) × (cond c k (first_on os j n (suc k)) ≤ i)
    go true e ih = (e, a)
    go false e ih =
        let n : k ≡ i → ⊥ = λ z. false≢true (sym e ∙ ap (λ (m : ℕ). on_by (open_of os m) j) z ∙ t) in
        ih (other k i a n) (omega arith) t
      where
        other : (k i : ℕ) → k ≤ i → (k ≡ i → ⊥) → suc k ≤ i
        other k i a n = two (ℕ_discrete k i)
          where
            two : Dec (k ≡ i) → suc k ≤ i
            two (yes z) = absurd (n z)
            two (no z) = omega arith

-- ---- places of entries

abbrev pub node_in : Entries → ℕ → Node
node_in t k = (get_or t k ([], dir no_meta)).1

abbrev pub path_in : Entries → ℕ → Path
path_in t k = (get_or t k ([], dir no_meta)).0

abbrev names : Node → ℕ → Bool
names (dir m) j = false
names (file i) j = eqb i j
names (link m s) j = false

-- the place of the entry that names a file
unfoldable pub index_of : Entries → ℕ → ℕ
index_of [] j = 0
index_of (e ∷ t) j = cond (names e.1 j) 0 (suc (index_of t j))

pub index-named : (t : Entries) (j : ℕ) → T (is_named t j) → (index_of t j < length t) × (node_in t (index_of t j) ≡ file j)
unfolding index_of is_named
index-named [] j h = absurd h
index-named ((p, dir m) ∷ t) j h = let g = index-named t j h in (omega (arith, g.0), g.1)
index-named ((p, link m s) ∷ t) j h = let g = index-named t j h in (omega (arith, g.0), g.1)
index-named ((p, file i) ∷ t) j h = go (ℕ_discrete i j) (index-named t j)
  where
    go : Dec (i ≡ j) → (T (is_named t j) → (index_of t j < length t) × (node_in t (index_of t j) ≡ file j))
        → (cond (eqb i j) 0 (suc (index_of t j)) < suc (length t)) × (node_in ((p, file i) ∷ t) (cond (eqb i j) 0 (suc (index_of t j))) ≡ file j)
    go (yes z) ih = rw (eq-eqb i j z) (omega arith, ap file z)
    go (no z) ih = rw (ne_eqb i j z) (let g = ih (rw (ne_eqb i j z) at h) in (omega (arith, g.0), g.1))

-- a look finds each place
pub look_in : (t : Entries) → Apart t → (k : ℕ) → k < length t → look t (path_in t k) ≡ some (node_in t k)
look_in [] a k h = absurd (omega arith)
look_in (e ∷ t) a zero h = look-here e t e.0 refl
look_in (e ∷ t) a (suc k) h =
    let g = look_in t a.1 k (omega arith) in
    look_past e t (path_in t k) (λ z. clash (look t (path_in t k)) (node_in t k) (ap (look t) (sym z) ∙ a.0) g) ∙ g

-- the file has one name
abbrev OneName : Entries → ℕ → Type 0
OneName t j = (p q : Path) → look t p ≡ some (file j) → look t q ≡ some (file j) → p ≡ q

one_tail : (e : Path × Node) (t : Entries) (j : ℕ) → look t e.0 ≡ none → OneName (e ∷ t) j → OneName t j
one_tail e t j a o p q x y = o p q (on p x) (on q y)
  where
    on : (r : Path) → look t r ≡ some (file j) → look (e ∷ t) r ≡ some (file j)
    on r x = look_past e t r (λ z. clash (look t r) (file j) (ap (look t) (sym z) ∙ a) x) ∙ x

pub index_is : (t : Entries) → Apart t → (j : ℕ) → OneName t j → (k : ℕ) → k < length t → node_in t k ≡ file j → index_of t j ≡ k
unfolding index_of
index_is [] a j o k h e = absurd (omega arith)
index_is (f ∷ t) a j o zero h e = ap (λ (n : Node). cond (names n j) 0 (suc (index_of t j))) e ∙ ap (λ (b : Bool). cond b 0 (suc (index_of t j))) (eq-eqb j j refl)
index_is (f ∷ t) a j o (suc k) h e = go f.1 refl (index_is t a.1 j (one_tail f t j a.0 o) k (omega arith) e)
  where
    there : look t (path_in t k) ≡ some (file j)
    there = look_in t a.1 k (omega arith) ∙ ap some e

    past : f.0 ≡ path_in t k → ⊥
    past z = clash (look t (path_in t k)) (file j) (ap (look t) (sym z) ∙ a.0) there

    go : (n : Node) → f.1 ≡ n → index_of t j ≡ k → cond (names n j) 0 (suc (index_of t j)) ≡ suc k
    go (dir m) z ih = ap suc ih
    go (link m s) z ih = ap suc ih
    go (file i) z ih = two (ℕ_discrete i j)
      where
        two : Dec (i ≡ j) → cond (eqb i j) 0 (suc (index_of t j)) ≡ suc k
        two (yes y) = absurd (past (o f.0 (path_in t k) (look-here f t f.0 refl ∙ ap some (z ∙ ap file y)) (look_past f t (path_in t k) past ∙ there)))
        two (no y) = rw (ne_eqb i j y) (ap suc ih)

-- ---- all slots

module _ (s : State) where
  abbrev pub item_if : Bool → Item → Item
  item_if true i = i
  item_if false i = free_item

  -- a number's: the file that it stands on, if that has no name and no earlier number stands on it
  abbrev pub number_by : ℕ → Option Open → Item
  number_by n none = free_item
  number_by n (some o) = item_if (not (is_named s.tree o.id) && eqb (first_on s.opens o.id 32 0) n) (file_or o.id (file_of s.files o.id))

  unfoldable pub item : ℕ → Item
  item k =
      cond (ltb k (length s.tree)) (item_of s.files (node_in s.tree k))
      (cond (ltb k s.most) free_item (number_by (k - s.most) (open_of s.opens (k - s.most))))

  -- the slot of a file
  unfoldable pub home : ℕ → ℕ
  home j = cond (is_named s.tree j) (index_of s.tree j) (s.most + first_on s.opens j 32 0)

  pub item-entry : (k : ℕ) → k < length s.tree → item k ≡ item_of s.files (node_in s.tree k)
  unfolding item
  item-entry k h = rw (lt-ltb k (length s.tree) h)

  pub item-gap : (k : ℕ) → length s.tree ≤ k → k < s.most → item k ≡ free_item
  unfolding item
  item-gap k h g = rw (le-ltb k (length s.tree) h, lt-ltb k s.most g)

  pub item-number : (n : ℕ) → length s.tree ≤ s.most → item (s.most + n) ≡ number_by n (open_of s.opens n)
  unfolding item
  item-number n h =
      let e : s.most + n - s.most ≡ n = omega arith in
      rw (le-ltb (s.most + n) (length s.tree) (omega arith), le-ltb (s.most + n) s.most (omega arith), e)
