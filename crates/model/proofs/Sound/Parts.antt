-- The parts of operations: what each says of the tree that it asks, and that the directories which are made stand in
-- directories.
-- Assumes nothing.
use mathlib.Core.Bool.{Bool, true, false}
use mathlib.Core.List.{[], ◌∷◌, ◌++◌, append-nil, drop_last}
use mathlib.Core.Option.{Option, none, some}
use mathlib.Core.Path.{◌≡◌, refl, sym, ap, ◌∙◌, subst}
use Prim.Native.Nat.{ℕ, ◌<◌}
use native.Mathlib.Omega.{arith}
use lib.Dec.{T, lit<}
use lib.ListN.{length, length-append}
use lib.Seq.{append_snoc}
use Rattle.text.specs.Utf8.{Bytes}
use Rattle.path.specs.Path.{Name, absolute, path_fits, last_name}
use Rattle.model.specs.Tree.{Path, Time, Meta, Node, dir, Entries, put}
use Rattle.model.specs.Prog.{World, Kind, a_dir, aFile, a_link, kind?, bare?, here?, answer, make, node_kind, on_some, apply, Prog, ◌>>=◌, ◌>>◌, need}
use Rattle.model.specs.Lookup.{Where, lookup}
use Rattle.model.specs.Operations.{Reply, fresh, fresh_dir, fresh_link, to_absolute, on_path, on_paths, leads, Parted, parted, is_directory, directory, last_entry, only_file, only_dir, is_dir, make_if, make_missing, open_walk, parent_stands, new_mode, not_file, not_dir, same_sort, emptied, replaces}
use Rattle.model.specs.Rules.{names_ok, path_ok, target_ok, meta_ok}
use Rattle.model.specs.Passable.{Unsigned32, Signed64}
use Rattle.model.proofs.Entries.{clash, put-here, put_past}
use Rattle.model.proofs.Sound.Worlds.{IsDir, Sound, kind_at, Housed, Vacant}
use Rattle.model.proofs.Sound.Entries.{snoc-equal, snoc-root, names_left, names_both}
use Rattle.model.proofs.Sound.Files.{meta_whole}
use Rattle.model.proofs.Sound.Paths.{absolute-names, target-text, target-lengths, path_names, path_both, whole, path-before, name_last}
use Rattle.model.proofs.Sound.Lookups.{dir-seen, dir-shows, Clear, Stands, lookup-says}
use Rattle.model.proofs.Sound.Meets.{Meets, gives, stops, asked, edited, Says, then, weaken, asks-says, need-says, must-says}

-- a program whose edits are all allowed
abbrev pub Fine : {A : Type 0} → Prog A → World → Type 0
Fine p w = Meets (λ _ _. Unit {0}) p w

-- a program that edits nothing
abbrev pub Quiet : {A : Type 0} → Prog A → World → Type 0
Quiet p w = Says (λ _. Unit {0}) p w

-- ---- metadata of what a call makes

-- a mode and a time that fit
pub fresh_ok : (mode : ℕ) (t : Time) → Unsigned32 mode → Signed64 t → T (meta_ok (fresh mode t))
fresh_ok mode t m c = meta_whole (fresh mode t) (record { mode = m; accessed = c; changed = c; created = c; modified = c })

-- of a directory
pub dir-ok : (t : Time) → Signed64 t → T (meta_ok (fresh_dir t))
dir-ok t c = fresh_ok 0o755 t (lit< tt) c

-- of a link
pub link-ok : (t : Time) → Signed64 t → T (meta_ok (fresh_link t))
link-ok t c = fresh_ok 0o777 t (lit< tt) c

-- ---- places

-- below a directory
pub below-dir : (t : Entries) (d : Path) (x : Name) → IsDir t d → Housed (d ++ (x ∷ [])) t
below-dir t d x h q y e = subst (IsDir t) (snoc-equal d q x y e) h

root-housed : (t : Entries) → Housed [] t
root-housed t q x e = absurd (snoc-root q x (sym e))

-- the directory before a path, if it stands
clear-before : (t : Entries) (d : Path) (x : Name) (r : Path) → Clear t d (x ∷ r) → (k : Kind) → kind_at t (d ++ drop_last (x ∷ r)) ≡ some k → k ≡ a_dir
clear-before t d x [] c k e = c.0 k (subst (λ (q : Path). kind_at t q ≡ some k) (append-nil d) e)
clear-before t d x (y ∷ r) c k e =
    clear-before t (d ++ (x ∷ [])) y r c.1 k (subst (λ (q : Path). kind_at t q ≡ some k) (sym (append_snoc d x (drop_last (y ∷ r)))) e)

-- a missing name whose directory stands has a place
pub vacant : (t : Entries) (p : Path) → Stands t p none → (p ≡ [] → ⊥) → (k : Kind) → kind_at t (drop_last p) ≡ some k → Vacant p t
vacant t [] s n k e = absurd (n refl)
vacant t (x ∷ p) s n k e = record {
  named = path_names (x ∷ p) s.path;
  below = n;
  housed = subst (λ (q : Path). Housed q t) (whole x p)
      (below-dir t (drop_last (x ∷ p)) (last_name (x ∷ p)) (dir-seen t (drop_last (x ∷ p)) (e ∙ ap some (clear-before t [] x p s.clear k e))));
  no_dir = λ d. clash (kind_at t (x ∷ p)) a_dir s.kind (dir-shows t (x ∷ p) d);
}

-- ---- tests of kinds

module _ (w : World) where
  -- 9: a directory is needed
  pub is_directory-says : (k : Kind) → Says (λ _. k ≡ a_dir) (is_directory k) w
  unfolding is_directory
  is_directory-says a_dir = gives (refl, refl)
  is_directory-says aFile = stops
  is_directory-says a_link = stops

  -- 10: a file is needed
  pub only_file-quiet : (k : Kind) → Quiet (only_file k) w
  unfolding only_file
  only_file-quiet aFile = gives (refl, tt)
  only_file-quiet a_dir = stops
  only_file-quiet a_link = stops

  -- 10: a directory is needed
  pub only_dir-quiet : (k : Kind) → Quiet (only_dir k) w
  unfolding only_dir
  only_dir-quiet a_dir = gives (refl, tt)
  only_dir-quiet aFile = stops
  only_dir-quiet a_link = stops

  -- 9: no file may stand there
  pub not_file-quiet : (o : Option Kind) → Quiet (not_file o) w
  unfolding not_file
  not_file-quiet none = gives (refl, tt)
  not_file-quiet (some k) = weaken (is_directory-says k) (λ a v h. (h.0, tt))

  -- 12: no directory may stand there
  pub not_dir-says : (o : Option Kind) → Says (λ _. o ≡ some a_dir → ⊥) (not_dir o) w
  unfolding not_dir is_dir
  not_dir-says none = gives (refl, λ e. clash none a_dir refl e)
  not_dir-says (some a_dir) = weaken (need-says false 12 w) (λ a v h. absurd h.1)
  not_dir-says (some aFile) = weaken (need-says true 12 w) (λ a v h. (h.0, λ e. let z : ◌≡◌ {A = ℕ} 0 1 = cc in omega arith))
  not_dir-says (some a_link) = weaken (need-says true 12 w) (λ a v h. (h.0, λ e. let z : ◌≡◌ {A = ℕ} 0 1 = cc in omega arith))

  -- a test
  pub need-quiet : (b : Bool) (n : ℕ) → Quiet (need b n) w
  need-quiet b n = weaken (need-says b n w) (λ a v h. (h.0, tt))

  -- 12: the directory is empty
  emptied-quiet : (b : Bool) (p : Path) → Quiet (emptied b p) w
  unfolding emptied
  emptied-quiet false p = gives (refl, tt)
  emptied-quiet true p = then (asks-says (bare? p) w) λ n _. need-quiet n 12

  -- rename's tests of what it replaces
  pub replaces-quiet : (k : Kind) (p : Path) (o : Option Kind) → Quiet (replaces k p o) w
  unfolding replaces ◌>>◌
  replaces-quiet k p none = gives (refl, tt)
  replaces-quiet k p (some e) = then (need-says (same_sort (is_dir k) (is_dir e)) 10 w) λ _ _. emptied-quiet (is_dir k) p

  -- something stands where the directory must be
  pub parent_stands-says : (p : Path) → Says (λ _. (k : Kind) × (kind_at w.at (drop_last p) ≡ some k)) (parent_stands p) w
  unfolding parent_stands answer
  parent_stands-says p = then (asks-says (kind? (drop_last p)) w) λ o e. then (must-says o w) λ k h. gives (refl, (k, e ∙ h))

-- ---- paths

-- a path, its directory and its last name
pub record Parts (p : Path) (l : Parted) : Type 0 where
  pub all : l.before ++ (l.name ∷ []) ≡ p
  pub before : T (path_ok l.before)
  pub name : T (names_ok (l.name ∷ []))

module _ (w : World) where
  -- a path with a last name
  pub parted-says : (p : Path) → T (path_ok p) → Says (Parts p) (parted p) w
  unfolding parted
  parted-says [] k = stops
  parted-says (x ∷ p) k = gives (refl, parts)
    where
      parts : Parts (x ∷ p) (record { before = drop_last (x ∷ p); name = last_name (x ∷ p) })
      parts = record { all = whole x p; before = path-before (x ∷ p) k; name = name_last x p (path_names (x ∷ p) k) }

-- an entry, there or not, in a directory that is
pub record Entered (t : Entries) (a : Where) : Type 0 where
  pub named : T (names_ok a.path)
  pub below : a.path ≡ [] → ⊥
  pub housed : Housed a.path t
  pub kind : kind_at t a.path ≡ a.kind

module _ (w : World) (s : Sound w) where
  -- a given path, screened, made absolute
  pub to_absolute-says : (g : Bytes) → T (target_ok g) → Says (λ p. T (path_ok p)) (to_absolute g) w
  unfolding to_absolute answer ◌>>◌
  to_absolute-says g t =
      then (asks-says here? w) λ h e.
      then (need-says (path_fits (absolute h g)) 6 w) λ _ f.
      gives (refl, path_both (absolute h g) (absolute-names h g (path_names h (subst (λ (q : Path). T (path_ok q)) e s.current)) (target-text g t) (target-lengths g t)) f)

  -- then the operation at that path
  pub on_path-fine : (g : Bytes) (f : Path → Prog Reply) → T (target_ok g) → ((p : Path) → T (path_ok p) → Fine (f p) w) → Fine (on_path g f) w
  unfolding on_path
  on_path-fine g f t k = then (to_absolute-says g t) λ p ok. k p ok

  -- or at two
  pub on_paths-fine : (g d : Bytes) (f : Path → Path → Prog Reply) → T (target_ok g) → T (target_ok d)
      → ((p q : Path) → T (path_ok p) → T (path_ok q) → Fine (f p q) w) → Fine (on_paths g d f) w
  unfolding on_paths
  on_paths-fine g d f t u k = then (to_absolute-says g t) λ p pk. then (to_absolute-says d u) λ q qk. k p q pk qk

  -- what a lookup from a path that a state may keep says
  pub found-says : (b : ℕ) (p : Path) → T (path_ok p) → Says (λ a. Stands w.at a.path a.kind) (lookup b p) w
  found-says b p k = weaken (lookup-says w s b p) (λ a v h. (h.0, h.1 k))

  -- an entry that is there
  pub leads-says : (b : ℕ) (p : Path) → Says (λ e. T (path_ok p) → Stands w.at e.path (some e.kind)) (leads b p) w
  unfolding leads
  leads-says b p =
      then (lookup-says w s b p) λ a h.
      then (must-says a.kind w) λ k e.
      gives (refl, λ ok. subst (Stands w.at a.path) e (h ok))

  -- a directory
  pub directory-says : (b : ℕ) (p : Path) → T (path_ok p) → Says (λ d. IsDir w.at d.path × T (path_ok d.path)) (directory b p) w
  unfolding directory ◌>>◌
  directory-says b p ok =
      then (leads-says b p) λ e h.
      then (is_directory-says w e.kind) λ _ z.
      gives (refl, (dir-seen w.at e.path ((h ok).kind ∙ ap some z), (h ok).path))

  -- the entry of a last name
  pub last_entry-says : (b : ℕ) (p : Path) → T (path_ok p) → Says (Entered w.at) (last_entry b p) w
  unfolding last_entry answer
  last_entry-says b p ok =
      then (parted-says w p ok) λ l e.
      then (directory-says b l.before e.before) λ d h.
      then (asks-says (kind? (d.path ++ (l.name ∷ []))) w) λ k z.
      let u : Entered w.at (record { path = d.path ++ (l.name ∷ []); kind = k; links = d.links }) = record {
        named = names_both d.path (l.name ∷ []) (path_names d.path h.1) e.name;
        below = snoc-root d.path l.name;
        housed = below-dir w.at d.path l.name h.0;
        kind = z;
      } in
      gives (refl, u)

  -- the mode of a new file fits
  pub new_mode-says : (o : Option ℕ) → ((m : ℕ) → o ≡ some m → Unsigned32 m) → Says Unsigned32 (new_mode o) w
  unfolding new_mode answer
  new_mode-says none k = asked (gives (refl, s.umask))
  new_mode-says (some m) k = gives (refl, k m refl)

  -- open's walk ends below the root
  pub open_walk-says : (b : ℕ) (p : Path) → T (path_ok p) → Says (λ a. Stands w.at a.path a.kind × (a.path ≡ [] → ⊥)) (open_walk b p) w
  unfolding open_walk
  open_walk-says b p ok =
      then (found-says b p ok) λ a h.
      then (parted-says w a.path h.path) λ l e.
      gives (refl, (h, λ z. snoc-root l.before l.name (e.all ∙ z)))

-- ---- directories made

-- a path that is longer is another
longer : (d q : Path) → length d < length q → d ≡ q → ⊥
longer d q h e = omega (arith, ap length e)

-- what stands at longer paths does not change where a directory is made
kind_past : (d q : Path) (n : Node) (t : Entries) → length d < length q → kind_at (put d n t) q ≡ kind_at t q
kind_past d q n t h = ap (λ (o : Option Node). on_some o (λ m. some (node_kind m))) (put_past d q n t (longer d q h))

clear_past : (d : Path) (n : Node) (t : Entries) (e r : Path) → length d < length e → Clear t e r → Clear (put d n t) e r
clear_past d n t e [] h c = tt
clear_past d n t e (x ∷ r) h c = (
  λ k z. c.0 k (sym (kind_past d e n t h) ∙ z),
  clear_past d n t (e ++ (x ∷ [])) r (simp length-append (omega arith)) c.1,
)

-- from the world w on, the path has become a directory, if it was one or missing
abbrev Becomes : World → Path → Unit {0} → World → Type 0
Becomes w q _ v = ((k : Kind) → kind_at w.at q ≡ some k → k ≡ a_dir) → IsDir v.at q

-- so it does once the missing names are made
make_missing-meets : (m : Meta) (d r : Path) (w : World) → T (meta_ok m) → T (names_ok (d ++ r)) → Housed d w.at → Clear w.at d r
    → Meets (Becomes w (d ++ r)) (make_missing m d r) w
unfolding make_missing make_if answer apply ◌>>◌ ◌>>=◌
make_missing-meets m d [] w k n h c = asked (go (kind_at w.at d) refl)
  where
    go : (o : Option Kind) → kind_at w.at d ≡ o → Meets (Becomes w (d ++ [])) (make_if m d o) w
    go none e =
        let i : IsDir (put d (dir m) w.at) (d ++ []) = (m, rw (append-nil d) (put-here d (dir m) w.at)) in
        edited {e = make d m} (names_left d [] n, k, h) (gives (λ _. i))
    go (some j) e = gives (λ f. let z : kind_at w.at (d ++ []) ≡ some j = rw (append-nil d) e in dir-seen w.at (d ++ []) (z ∙ ap some (f j z)))
make_missing-meets m d (x ∷ r) w k n h c = asked (go (kind_at w.at d) refl (λ v. make_missing-meets m (d ++ (x ∷ [])) r v k (rw append_snoc n)))
  where
    on : World → Type 0
    on v = Housed (d ++ (x ∷ [])) v.at → Clear v.at (d ++ (x ∷ [])) r → Meets (Becomes v (d ++ (x ∷ []) ++ r)) (make_missing m (d ++ (x ∷ [])) r) v

    go : (o : Option Kind) → kind_at w.at d ≡ o → ((v : World) → on v) → Meets (Becomes w (d ++ (x ∷ r))) (make_if m d o >>= λ _. make_missing m (d ++ (x ∷ [])) r) w
    go none e ih =
        edited {e = make d m} (names_left d (x ∷ r) n, k, h)
        (weaken (ih (apply (make d m) w) (below-dir (put d (dir m) w.at) d x (m, put-here d (dir m) w.at))
        (clear_past d (dir m) w.at (d ++ (x ∷ [])) r (simp length-append (omega arith)) c.1))
        (λ a v i f. subst (IsDir v.at) (append_snoc d x r)
        (i (λ j z. f j (subst (λ (q : Path). kind_at w.at q ≡ some j) (append_snoc d x r)
        (sym (kind_past d (d ++ (x ∷ []) ++ r) (dir m) w.at (simp length-append (omega arith))) ∙ z))))))
    go (some j) e ih =
        subst (λ (q : Path). Meets (Becomes w q) (make_missing m (d ++ (x ∷ [])) r) w) (append_snoc d x r)
        (ih w (below-dir w.at d x (dir-seen w.at d (e ∙ ap some (c.0 j e)))) c.1)

-- from the root on
pub made : (m : Meta) (p : Path) (w : World) → T (meta_ok m) → (o : Option Kind) → Stands w.at p o
    → Meets (λ _ v. ((k : Kind) → o ≡ some k → k ≡ a_dir) → IsDir v.at p) (make_missing m [] p) w
made m p w k o s =
    weaken (make_missing-meets m [] p w k (path_names p s.path) (root-housed w.at) s.clear) (λ a v i f. i (λ j e. f j (sym s.kind ∙ e)))
