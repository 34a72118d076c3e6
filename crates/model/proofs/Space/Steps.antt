-- Edits one after another: what the sums over entries need of a world is kept by every edit, so that rename's steps can be added up.
-- No edit names a file twice: what is put down was taken out, and a new file has a number that no file had.
-- Assumes nothing.
use mathlib.Core.Bool.{Bool, true, false, cond, false≢true}
use mathlib.Core.List.{List, [], ◌∷◌, ◌++◌, append-nil, append_assoc}
use mathlib.Core.Option.{Option, none, some}
use mathlib.Core.Path.{◌≡◌, refl, sym, ap, ◌∙◌, subst}
use Prim.Native.Nat.{ℕ, ◌+◌, ◌≤◌}
use native.Mathlib.Omega.{arith}
use lib.Dec.{T, eqb}
use lib.ListN.{length, length-append}
use borrow.Author.Tests.{eqb-true}
use Rattle.path.specs.Path.{Name, body}
use Rattle.model.specs.Tree.{Path, Meta, File, Node, dir, file, link, Entries, Files, Open, or_else, look, file_of, open_of, behind, put, cut, under, graft, Change, change_meta, set_file, new_id, name_length}
use Rattle.model.specs.Prog.{World, a_dir, aFile, a_link, Stat, bare?, answer, on_some, stat_of, is_nil, listing, Edit, make, create, symlink, change, remove, take, give, opens, close, seek, change_held, go, umask, apply, with_tree, with_files, change_at, opened_at, change_by}
use Rattle.model.specs.Calls.{State, is_named, world_of}
use Rattle.model.specs.Rules.{Once, new_file, new_number}
use Rattle.model.specs.Space.{freed_by, freed_in}
use Rattle.model.proofs.Demand.Contents.{later, named_at}
use Rattle.model.proofs.Entries.{clash, some_inj, is_true, is_false, of_true, behind-self, look-here, cut_in, cut_out, under_look, put_past, Apart, apart_under}
use Rattle.model.proofs.Demand.Asking.{listing-named}
use Rattle.model.proofs.Ordering.{named}
use Rattle.model.specs.Shaped.{HasFile}
use Rattle.model.proofs.Sound.Worlds.{IsDir, Sound}
use Rattle.model.proofs.Sound.Entries.{behind-snoc, cut_some}
use Rattle.model.proofs.Sound.Files.{set-covers, new-free}
use Rattle.model.proofs.Space.Sums.{names, count, named_none, none_counted, OneName}
use Rattle.model.proofs.Space.Edits.{Bare, Leaf, named-tree, whole, Shift, shift_then, shift_as, Single, make-new, take-hand, give-new, give_over, give-leaf}
use Rattle.model.proofs.Demand.Spacing.{last_name_lem}
use Rattle.model.proofs.Demand.Tidy.{Tidy, tidy-edit}
use Rattle.model.proofs.Demand.Totals.{total, total_both, total-cut, less-le}

-- ---- names counted after an edit

count-graft : (i : ℕ) (p : Path) (h : Entries) → count i (graft p h) ≡ count i h
unfolding total graft
count-graft i p [] = refl
count-graft i p (e ∷ h) = omega (arith, count-graft i p h)

count-put : (i : ℕ) (h t : Entries) (p : Path) (n : Node) → count i (h ++ put p n t) ≤ count i (h ++ t) + names i n
unfolding put total
count-put i h t p n = omega (arith, total_both (λ p. 0) (names i) h (put p n t), total_both (λ p. 0) (names i) h t, less-le (λ p. 0) (names i) p t)

count_cut : (i : ℕ) (h t : Entries) (p : Path) → count i (h ++ cut p t) ≤ count i (h ++ t)
count_cut i h t p = omega (arith, total_both (λ p. 0) (names i) h (cut p t), total_both (λ p. 0) (names i) h t, total-cut (λ p. 0) (names i) p t)

count-take : (i : ℕ) (h t : Entries) (p : Path) → count i (under p t ++ cut p t) ≤ count i (h ++ t)
count-take i h t p =
    omega (
      arith,
      total_both (λ p. 0) (names i) (under p t) (cut p t),
      total_both (λ p. 0) (names i) h t,
      total-cut (λ p. 0) (names i) p t,
      count-graft i p (under p t),
    )

count-give : (i : ℕ) (h t : Entries) (p : Path) → count i (graft p h ++ cut p t) ≤ count i (h ++ t)
count-give i h t p =
    omega (
      arith,
      total_both (λ p. 0) (names i) (graft p h) (cut p t),
      total_both (λ p. 0) (names i) h t,
      total-cut (λ p. 0) (names i) p t,
      count-graft i p h,
    )

-- ---- every edit keeps it

-- no file is named more often, and none is lost
single-less : {w v : World} → Single w → Tidy v → ((i : ℕ) → count i (whole v) ≤ count i (whole w)) → ((i : ℕ) → file_of v.files i ≡ none → file_of w.files i ≡ none) → Single v
single-less s t h f = record {
  tidy = t;
  one_name = λ i. omega (arith, s.one_name i, h i);
  present = λ i e. omega (arith, h i, s.present i (f i e));
}

set-missing : (i : ℕ) (c : Change) (fs : Files) (j : ℕ) → file_of (set_file i c fs) j ≡ none → file_of fs j ≡ none
set-missing i c fs j e = go (file_of fs j) refl
  where
    go : (o : Option File) → file_of fs j ≡ o → o ≡ none
    go none k = refl
    go (some f) k = let h = set-covers i c fs j (f, k) in clash (file_of (set_file i c fs) j) h.0 e h.1

module _ (w : World) (s : Single w) where
  -- a directory or a link put at a path
  put-single : (p : Path) (n : Node) → ((i : ℕ) → names i n ≡ 0) → Tidy (with_tree w (put p n w.at)) → Single (with_tree w (put p n w.at))
  put-single p n z t = single-less s t (λ i. omega (arith, count-put i w.hand w.at p n, z i)) (λ i e. e)

  -- other contents, modes and times of a file
  set_single : (i : ℕ) (c : Change) → Tidy (with_files w (set_file i c w.files)) → Single (with_files w (set_file i c w.files))
  set_single i c t = single-less s t (λ j. omega arith) (λ j e. set-missing i c w.files j e)

  -- a new file
  create-single : (p : Path) (f : File) → Single (apply (create p f) w)
  unfolding apply names file_of
  create-single p f = record { tidy = tidy-edit (create p f) w s.tidy; one_name = λ i. one i (eqb k i) refl; present = λ i e. gone i (eqb k i) refl e }
    where
      k : ℕ
      k = new_id w.files

      one : (i : ℕ) (b : Bool) → eqb k i ≡ b → count i (w.hand ++ put p (file k) w.at) ≤ 1
      one i true d =
          let z : count i (whole w) ≡ 0 = s.present i (ap (file_of w.files) (sym (eqb-true k i d)) ∙ new-free w.files) in
          omega (arith, count-put i w.hand w.at p (file k), ap (λ (b : Bool). cond {A = ℕ} b 1 0) d)
      one i false d = omega (arith, count-put i w.hand w.at p (file k), ap (λ (b : Bool). cond {A = ℕ} b 1 0) d, s.one_name i)

      gone : (i : ℕ) (b : Bool) → eqb k i ≡ b → or_else b f (file_of w.files i) ≡ none → count i (w.hand ++ put p (file k) w.at) ≡ 0
      gone i true d e = clash none f refl (sym e)
      gone i false d e = omega (arith, count-put i w.hand w.at p (file k), ap (λ (b : Bool). cond {A = ℕ} b 1 0) d, s.present i e)

  -- every edit
  pub single-edit : (e : Edit) → Single (apply e w)
  unfolding apply names
  single-edit (make p m) = put-single p (dir m) (λ i. refl) (tidy-edit (make p m) w s.tidy)
  single-edit (create p f) = create-single p f
  single-edit (symlink p m g) = put-single p (link m g) (λ i. refl) (tidy-edit (symlink p m g) w s.tidy)
  single-edit (change p c) = at (look w.at p) (tidy-edit (change p c) w s.tidy)
    where
      at : (o : Option Node) → Tidy (change_at w p c o) → Single (change_at w p c o)
      at none t = s
      at (some (dir m)) t = put-single p (dir (change_meta c m)) (λ i. refl) t
      at (some (file i)) t = set_single i c t
      at (some (link m g)) t = put-single p (link (change_meta c m) g) (λ i. refl) t
  single-edit (remove p) = single-less s (tidy-edit (remove p) w s.tidy) (λ i. count_cut i w.hand w.at p) (λ i e. e)
  single-edit (take p) = single-less s (tidy-edit (take p) w s.tidy) (λ i. count-take i w.hand w.at p) (λ i e. e)
  single-edit (give p) = single-less s (tidy-edit (give p) w s.tidy) (λ i. count-give i w.hand w.at p) (λ i e. e)
  single-edit (opens n p k) = at (look w.at p) (tidy-edit (opens n p k) w s.tidy)
    where
      at : (o : Option Node) → Tidy (opened_at w n p k o) → Single (opened_at w n p k o)
      at none t = s
      at (some (dir m)) t = s
      at (some (file i)) t = single-less s t (λ j. omega arith) (λ j e. e)
      at (some (link m g)) t = s
  single-edit (close n) = single-less s (tidy-edit (close n) w s.tidy) (λ i. omega arith) (λ i e. e)
  single-edit (seek n k) = single-less s (tidy-edit (seek n k) w s.tidy) (λ i. omega arith) (λ i e. e)
  single-edit (change_held n c) = at (open_of w.opens n) (tidy-edit (change_held n c) w s.tidy)
    where
      at : (o : Option Open) → Tidy (change_by w c o) → Single (change_by w c o)
      at none t = s
      at (some a) t = set_single a.id c t
  single-edit (go p) = single-less s (tidy-edit (go p) w s.tidy) (λ i. omega arith) (λ i e. e)
  single-edit (umask m) = single-less s (tidy-edit (umask m) w s.tidy) (λ i. omega arith) (λ i e. e)

-- ---- where it comes from

-- one path to a file is one name counted
pub named-once : (t : Entries) → Apart t → ((p q : Path) (i : ℕ) → look t p ≡ some (file i) → look t q ≡ some (file i) → p ≡ q) → OneName t
unfolding total names
named-once [] a h i = omega arith
named-once ((p, dir m) ∷ t) a h i =
    omega (arith, named-once t a.1 (λ q r j x y. h q r j (later (p, dir m) t a q (file j) x) (later (p, dir m) t a r (file j) y)) i)
named-once ((p, link m s) ∷ t) a h i =
    omega (arith, named-once t a.1 (λ q r j x y. h q r j (later (p, link m s) t a q (file j) x) (later (p, link m s) t a r (file j) y)) i)
named-once ((p, file k) ∷ t) a h i =
    at (eqb k i) refl (named-once t a.1 (λ q r j x y. h q r j (later (p, file k) t a q (file j) x) (later (p, file k) t a r (file j) y)) i)
  where
    other : eqb k i ≡ true → T (is_named t i) → ⊥
    other d x =
        let r = named_at t a.1 i x in
        let e = h p r.0 i (look-here (p, file k) t p refl ∙ ap (λ (z : ℕ). some (file z)) (eqb-true k i d)) (later (p, file k) t a r.0 (file i) r.1) in
        clash (look t r.0) (file i) (ap (look t) (sym e) ∙ a.0) r.1

    at : (b : Bool) → eqb k i ≡ b → count i t ≤ 1 → 0 + cond b 1 0 + count i t ≤ 1
    at true d ih = omega (arith, none_counted i t (is_false (is_named t i) (other d)))
    at false d ih = omega arith

-- a file that is named is there
files-present : (t : Entries) (fs : Files) → Apart t → ((p : Path) (i : ℕ) → look t p ≡ some (file i) → HasFile fs i) → (i : ℕ) → file_of fs i ≡ none → count i t ≡ 0
files-present t fs a h i e =
    none_counted i t (is_false (is_named t i) (λ x. let r = named_at t a i x in let f = h r.0 i r.1 in clash (file_of fs i) f.0 e f.1))

-- the world of a state, by five of its rules
pub state-single : (s : State) → Apart s.tree → ((p : Path) (i : ℕ) → look s.tree p ≡ some (file i) → HasFile s.files i)
    → ((p q : Path) (i : ℕ) → look s.tree p ≡ some (file i) → look s.tree q ≡ some (file i) → p ≡ q)
    → Once new_file s.files → Once new_number s.opens → Single (world_of s)
state-single s a n h o u = record {
  tidy = record { tree = a; hand = tt; files = o; numbers = u };
  one_name = named-once s.tree a h;
  present = files-present s.tree s.files a n;
}

-- a world in the middle of a program
pub sound-single : (w : World) → Sound w → Single w
sound-single w u = record {
  tidy = record { tree = u.tree.paths; hand = u.in_hand.paths; files = u.table.once; numbers = u.numbers.once };
  one_name = λ i. both i (is_named w.hand i) refl;
  present = λ i e. omega (
    arith,
    total_both (λ p. 0) (names i) w.hand w.at,
    files-present w.at w.files u.tree.paths (λ p j x. u.tree.nodes p (file j) x) i e,
    files-present w.hand w.files u.in_hand.paths (λ p j x. u.in_hand.nodes p (file j) x) i e,
  );
}
  where
    both : (i : ℕ) (b : Bool) → is_named w.hand i ≡ b → count i (whole w) ≤ 1
    both i false e =
        omega (arith, total_both (λ p. 0) (names i) w.hand w.at, none_counted i w.hand e, named-once w.at u.tree.paths u.tree.one_name i)
    both i true e =
        let r = named_at w.hand u.in_hand.paths i (of_true e) in
        let z : is_named w.at i ≡ false = is_false (is_named w.at i) (λ x. let q = named_at w.at u.tree.paths i x in u.apart q.0 r.0 i q.1 r.1) in
        omega (arith, total_both (λ p. 0) (names i) w.hand w.at, none_counted i w.at z, named-once w.hand u.in_hand.paths u.in_hand.one_name i)

-- ---- paths with nothing below them

-- only directories have entries
abbrev pub Parents : Entries → Type 0
Parents t = (p : Path) (x : Name) (n : Node) → look t (p ++ (x ∷ [])) ≡ some n → IsDir t p

module _ (t : Entries) (h : Parents t) where
  -- below what is not there is nothing
  pub bare-missing : (q : Path) → look t q ≡ none → Bare q t
  bare-missing q e [] = ap (look t) (append-nil q) ∙ e
  bare-missing q e (x ∷ r) = ap (look t) (sym (append_assoc q (x ∷ []) r)) ∙ bare-missing (q ++ (x ∷ [])) (at (look t (q ++ (x ∷ []))) refl) r
    where
      at : (o : Option Node) → look t (q ++ (x ∷ [])) ≡ o → o ≡ none
      at none k = refl
      at (some n) k = let d = h q x n k in clash (look t q) (dir d.0) e d.1

  -- nor where no name stands right below
  leaf-names : (q : Path) → ((x : Name) → look t (q ++ (x ∷ [])) ≡ none) → Leaf q t
  leaf-names q e x r = ap (look t) (sym (append_assoc q (x ∷ []) r)) ∙ bare-missing (q ++ (x ∷ [])) (e x) r

  -- below a file or a link is nothing
  pub leaf_other : (q : Path) (n : Node) → look t q ≡ some n → ((m : Meta) → n ≡ dir m → ⊥) → Leaf q t
  leaf_other q n e z = leaf-names q (λ x. at x (look t (q ++ (x ∷ []))) refl)
    where
      at : (x : Name) (o : Option Node) → look t (q ++ (x ∷ [])) ≡ o → o ≡ none
      at x none k = refl
      at x (some a) k = let d = h q x a k in absurd (z d.0 (some_inj (sym e ∙ d.1)))

-- a tree with a block cut out is again one in which only directories have entries
pub parents-cut : (p : Path) (t : Entries) → Parents t → Parents (cut p t)
parents-cut p t h q x n e = at (behind p q) refl
  where
    at : (o : Option Path) → behind p q ≡ o → IsDir (cut p t) q
    at none k = let d = h q x n (cut_some p t (q ++ (x ∷ [])) n e).1 in (d.0, cut_out p q t k ∙ d.1)
    at (some r) k = clash (behind p (q ++ (x ∷ []))) (r ++ (x ∷ [])) (cut_some p t (q ++ (x ∷ [])) n e).0 (behind-snoc p q r x k)

-- nor below a directory that shows nothing
pub leaf-bare : (w : World) → Single w → Parents w.at → (q : Path) → answer (bare? q) w ≡ true → Leaf q w.at
unfolding answer stat_of
leaf-bare w s h q e = leaf-names w.at h q (λ x. at x (look w.at (q ++ (x ∷ []))) refl (shown (listing w q) e x (listing-named w q x s.tidy.tree)))
  where
    shown : (l : List (Name × Stat)) → is_nil l ≡ true → (x : Name) {o : Option Stat} → named l x ≡ o → o ≡ none
    shown [] k x z = sym z ∙ unfold named in refl
    shown (f ∷ l) k x z = absurd (false≢true k)

    lost : (x : Name) (i : ℕ) → look w.at (q ++ (x ∷ [])) ≡ some (file i) → file_of w.files i ≡ none → ⊥
    lost x i k z =
        T_false (named_none i (whole w) (s.present i z)) (named-tree w.hand w.at (q ++ (x ∷ [])) i k)
      where
        T_false : {b : Bool} → b ≡ false → T b → ⊥
        T_false y t = false≢true (sym y ∙ is_true _ t)

    at : (x : Name) (o : Option Node) → look w.at (q ++ (x ∷ [])) ≡ o → on_some o (stat_of w) ≡ none → o ≡ none
    at x none k z = refl
    at x (some (dir m)) k z = clash none (record { kind = a_dir; size = 0; meta = m }) refl (sym z)
    at x (some (link m g)) k z = clash none (record { kind = a_link; size = 0; meta = m }) refl (sym z)
    at x (some (file i)) k z = absurd (lost x i k (none_of (file_of w.files i) z))
      where
        none_of : (o : Option File) → on_some {B = Stat} o (λ f. some (record { kind = aFile; size = length f.bytes; meta = f.meta })) ≡ none → o ≡ none
        none_of none y = refl
        none_of (some f) y = clash none (record { kind = aFile; size = length f.bytes; meta = f.meta }) refl (sym y)

-- ---- a move

-- the block of a path, in hand
in-hand : (p : Path) (t : Entries) (a : Node) → look t p ≡ some a → look (under p t) [] ≡ some a
in-hand p t a e = under_look p [] t ∙ ap (look t) (append-nil p) ∙ e

module _ (w : World) (p q : Path) (a : Node) (z : w.hand ≡ []) (e : look w.at p ≡ some a) where
  -- to where nothing stands once the entry is out: the new name for the old
  pub move_new : Apart w.at → Bare q (cut p w.at) → Shift w (apply (give q) (apply (take p) w)) 0 0 (name_length q) (name_length p)
  unfolding apply
  move_new k b =
      shift_as (shift_then (take-hand w p a z k e) (give-new (apply (take p) w) q a (apart_under p w.at k) (in-hand p w.at a e) b)) refl (omega arith)

  -- over what stands there: the old name, the entries there, and what goes with them
  pub move_over : (n : Node) → Single w → look (cut p w.at) q ≡ some n
      → Shift w (apply (give q) (apply (take p) w)) 0 (length (under q (cut p w.at))) 0 (name_length p + freed_in w.files w.opens (under q (cut p w.at)))
  unfolding apply
  move_over n s f =
      shift_as (shift_then (take-hand w p a z s.tidy.tree e) (give_over (apply (take p) w) q a n (single-edit w s (take p)) (in-hand p w.at a e) f)) (omega arith) (omega arith)

  -- over one entry with nothing below it
  pub move-leaf : (n : Node) → Single w → look (cut p w.at) q ≡ some n → Leaf q (cut p w.at)
      → Shift w (apply (give q) (apply (take p) w)) 0 1 0 (name_length p + freed_by w.files w.opens n)
  unfolding apply
  move-leaf n s f l =
      shift_as (shift_then (take-hand w p a z s.tidy.tree e) (give-leaf (apply (take p) w) q a n (single-edit w s (take p)) (in-hand p w.at a e) f l)) (omega arith) (omega arith)

-- ---- a row of directories made, each in the one before

-- the lengths of some names
unfoldable pub names_length : List Name → ℕ
names_length [] = 0
names_length (x ∷ r) = length x + names_length r

-- as they stand in a path, a slash before each
pub body-length : (r : List Name) → length (body r) ≡ names_length r + length r
unfolding body names_length
body-length [] = refl
body-length (x ∷ r) = omega (arith, length-append x (body r), body-length r)

-- directories made at d and at each longer path to d ++ r
unfoldable pub makes : Meta → Path → List Name → World → World
makes m d [] w = apply (make d m) w
makes m d (x ∷ r) w = makes m (d ++ (x ∷ [])) r (apply (make d m) w)

longer : (p : Path) (x : Name) (r : Path) → p ≡ (p ++ (x ∷ [])) ++ r → ⊥
longer p x r d = omega (arith, ap length d, length-append (p ++ (x ∷ [])) r, length-append p (x ∷ []))

-- below what is put where nothing stood is nothing
bare-put : (p : Path) (n : Node) (t : Entries) (x : Name) → Bare p t → Bare (p ++ (x ∷ [])) (put p n t)
bare-put p n t x b r = put_past p ((p ++ (x ∷ [])) ++ r) n t (longer p x r) ∙ ap (look t) (append_assoc p (x ∷ []) r) ∙ b (x ∷ r)

-- nor at a path where nothing stands
bare-here : (p : Path) (t : Entries) → Bare p t → look t p ≡ none
bare-here p t b = ap (look t) (sym (append-nil p)) ∙ b []

-- nothing stands where an entry was taken out
pub bare_out : (p : Path) (t : Entries) → Bare p (cut p t)
bare_out p t r = cut_in p (p ++ r) r t (behind-self p r)

-- an entry and a name for each
pub make-row : (m : Meta) (d : Path) (r : List Name) (w : World) → Bare d w.at → Shift w (makes m d r w) (1 + length r) 0 (name_length d + names_length r) 0
unfolding makes names_length
make-row m d [] w b = shift_as (make-new w d m (bare-here d w.at b)) refl (omega arith)
make-row m d (x ∷ r) w b =
    shift_as (shift_then (make-new w d m (bare-here d w.at b)) (make-row m (d ++ (x ∷ [])) r (apply (make d m) w) (unfold apply in bare-put d (dir m) w.at x b)))
    (omega arith) (unfold name_length in omega (arith, last_name_lem d x []))

-- the hand stays as it is
pub row-hand : (m : Meta) (d : Path) (r : List Name) (w : World) → (makes m d r w).hand ≡ w.hand
unfolding makes apply
row-hand m d [] w = refl
row-hand m d (x ∷ r) w = row-hand m (d ++ (x ∷ [])) r (apply (make d m) w)

-- and nothing stands in the last one
row-bare : (m : Meta) (d : Path) (r : List Name) (w : World) (y : Name) → Bare d w.at → Bare ((d ++ r) ++ (y ∷ [])) (makes m d r w).at
unfolding makes apply
row-bare m d [] w y b =
    subst (λ (q : Path). Bare (q ++ (y ∷ [])) (put d (dir m) w.at)) (sym (append-nil d)) (bare-put d (dir m) w.at y b)
row-bare m d (x ∷ r) w y b =
    subst (λ (q : Path). Bare (q ++ (y ∷ [])) (makes m (d ++ (x ∷ [])) r (apply (make d m) w)).at) (append_assoc d (x ∷ []) r)
    (row-bare m (d ++ (x ∷ [])) r (apply (make d m) w) y (bare-put d (dir m) w.at x b))

-- an entry taken out, directories made, and it put down in the last: also where the first is made in its place
module _ (w : World) (p : Path) (a : Node) (z : w.hand ≡ []) (k : Apart w.at) (e : look w.at p ≡ some a) where
  pub move-made : (m : Meta) (d : Path) (r : List Name) (y : Name) → Bare d (cut p w.at)
      → Shift w (apply (give ((d ++ r) ++ (y ∷ []))) (makes m d r (apply (take p) w))) (1 + length r) 0 (name_length d + names_length r + length y) (name_length p)
  unfolding name_length
  move-made m d r y b =
      let v = apply (take p) w in
      let u = makes m d r v in
      let hand : u.hand ≡ under p w.at = row-hand m d r v ∙ unfold apply in refl in
      let c : Bare d v.at = unfold apply in b in
      shift_as
      (shift_then (shift_then (take-hand w p a z k e) (make-row m d r v c))
      (give-new u ((d ++ r) ++ (y ∷ [])) a (subst Apart (sym hand) (apart_under p w.at k)) (ap (λ (t : Entries). look t []) hand ∙ in-hand p w.at a e) (row-bare m d r v y c)))
      (omega arith) (omega (arith, last_name_lem (d ++ r) y []))

  -- an entry below a new directory in its place: an entry more, with the name that the old one has now
  pub nest : (x : Name) (m : Meta) → Shift w (apply (give (p ++ (x ∷ []))) (apply (make p m) (apply (take p) w))) 1 0 (length x) 0
  unfolding makes names_length
  nest x m =
      subst (λ (q : Path). Shift w (apply (give (q ++ (x ∷ []))) (apply (make p m) (apply (take p) w))) 1 0 (length x) 0) (append-nil p)
      (shift_as (move-made m p [] x (bare_out p w.at)) (omega arith) (omega arith))
