-- Each operation's edits are allowed where they are made: the lookups and tests before them say so. Rename has its own page.
-- Assumes nothing.
use mathlib.Core.Bool.{Bool, true, false, not}
use mathlib.Core.List.{List, []}
use mathlib.Core.Option.{Option, none, some}
use mathlib.Core.Path.{◌≡◌, refl, sym, ap, ◌∙◌, subst}
use Prim.Native.Nat.{ℕ, ◌≤◌}
use lib.Dec.{T, leb, lit<}
use lib.ListN.{length}
use Rattle.text.specs.Utf8.{Bytes}
use Rattle.path.specs.Path.{is_absolute, names}
use Rattle.model.specs.Tree.{Path, Time, File, Node, dir, file, link, Files, Open, look, file_of, open_of, Change, write, chmod, touch, change_bytes}
use Rattle.model.specs.Prog.{World, Kind, stat?, bytes?, target?, list?, on_some, bytes_of, answer, create, symlink, change, opens, go, change_at, apply, Prog, ◌>>=◌, ◌>>◌, is_nil}
use Rattle.model.specs.Lookup.{End, found, missing, last_link, most_links, text_or}
use Rattle.model.specs.Operations as O
use Rattle.model.specs.Operations.{Reply, fresh, fresh_dir, fresh_link, fits, Opening, names_text}
use Rattle.model.specs.Rules.{path_ok, target_ok, bytes_ok, FileOk}
use Rattle.model.specs.Passable.{Unsigned32, Unsigned64, Signed64}
use Rattle.model.proofs.Entries.{clash}
use Rattle.model.proofs.Sound.Worlds.{FilesOk, Sound, Vacant}
use Rattle.model.proofs.Sound.Lookups.{dir-shows, Stands, no_follow-says}
use Rattle.model.proofs.Sound.Files.{set_each}
use Rattle.model.proofs.Sound.Parts.{Fine, Quiet, fresh_ok, dir-ok, link-ok, vacant, only_file-quiet, only_dir-quiet, not_file-quiet, not_dir-says, need-quiet, parent_stands-says, on_path-fine, found-says, leads-says, last_entry-says, new_mode-says, open_walk-says, made}
use Rattle.model.proofs.Sound.Meets.{Meets, gives, stops, asked, edited, Says, then, bind, asks-says, must-says}

-- every file's length fits 64 bits
abbrev pub Small : Files → Type 0
Small fs = (i : ℕ) (f : File) → file_of fs i ≡ some f → Unsigned64 (length f.bytes)

-- so does the length of what is read of one, if it stands
pub bytes-long : (fs : Files) → Small fs → (i : ℕ) → Unsigned64 (length (text_or (on_some (file_of fs i) (λ f. some f.bytes))))
bytes-long fs m i = go (file_of fs i) (m i)
  where
    go : (o : Option File) → ((f : File) → o ≡ some f → Unsigned64 (length f.bytes)) → Unsigned64 (length (text_or (on_some o (λ f. some f.bytes))))
    go none k = lit< tt
    go (some f) k = k f refl

-- no bytes are bytes
no_bytes_lem : T (bytes_ok [])
unfolding bytes_ok
no_bytes_lem = tt

-- what is read of a file is bytes
pub file-bytes : (fs : Files) → FilesOk fs → (i : ℕ) → T (bytes_ok (text_or (on_some (file_of fs i) (λ f. some f.bytes))))
unfolding bytes_ok
file-bytes fs m i = go (file_of fs i) (m.each i)
  where
    go : (o : Option File) → ((f : File) → o ≡ some f → FileOk f) → T (bytes_ok (text_or (on_some o (λ f. some f.bytes))))
    go none k = tt
    go (some f) k = (k f refl).1

-- an edit of the tree or of a file leaves the open numbers
change-opens : (w : World) (p : Path) (c : Change) (o : Option Node) → (change_at w p c o).opens ≡ w.opens
change-opens w p c none = refl
change-opens w p c (some (dir m)) = refl
change-opens w p c (some (file i)) = refl
change-opens w p c (some (link m g)) = refl

-- a file that is cleared is no longer
change-small : (w : World) (p : Path) (t : Time) (o : Option Node) → Small w.files → Small (change_at w p (write [] t) o).files
unfolding change_bytes
change-small w p t none m = m
change-small w p t (some (dir d)) m = m
change-small w p t (some (file i)) m = set_each (λ f. Unsigned64 (length f.bytes)) i (write [] t) w.files (λ f h. lit< tt) m
change-small w p t (some (link d g)) m = m

-- what a path shows of a file is no longer than a file
shown-long : (w : World) → Small w.files → (o : Option Node) → Unsigned64 (length (text_or (on_some o (bytes_of w))))
unfolding bytes_of
shown-long w m none = lit< tt
shown-long w m (some (dir d)) = lit< tt
shown-long w m (some (file i)) = bytes-long w.files m i
shown-long w m (some (link d g)) = lit< tt

-- where an open file starts
start-says : (w : World) → Small w.files → (c : Bool) (p : Path) → Says Unsigned64 (O.start_at c p) w
unfolding O.start_at answer ◌>>=◌
start-says w m false p = gives (refl, lit< tt)
start-says w m true p = asked (gives (refl, shown-long w m (look w.at p)))

module _ (w : World) (s : Sound w) (b : ℕ) where
  -- ---- canonicalize, current directory

  -- "`""` is 8"
  pub on_given-fine : (g : Bytes) (f : Path → Prog Reply) → T (target_ok g) → ((p : Path) → T (path_ok p) → Fine (f p) w) → Fine (O.on_given g f) w
  unfolding O.on_given ◌>>◌
  on_given-fine g f t k = then (need-quiet w (not (is_nil g)) 8) λ _ _. on_path-fine w s g f t k

  -- canonicalize edits nothing
  pub canonicalize-fine : (lent : ℕ) (p : Path) → Fine (O.canonicalize_at b lent p) w
  unfolding O.canonicalize_at fits ◌>>◌
  canonicalize-fine lent p = then (leads-says w s b p) λ a _. then (need-quiet w _ 14) λ _ _. gives tt

  -- the current directory is a path that a state may keep
  pub set_current_dir-fine : (p : Path) → T (path_ok p) → Fine (O.set_current_dir_at b p) w
  unfolding O.set_current_dir_at ◌>>◌ ◌>>=◌
  set_current_dir-fine p ok = then (leads-says w s b p) λ a k. edited {e = go a.path} (k ok).path (gives tt)

  -- ---- create directory

  -- each directory is made below a directory
  pub create_dir-fine : (t : Time) (p : Path) → Signed64 t → T (path_ok p) → Fine (O.create_dir_at b t p) w
  unfolding O.create_dir_at ◌>>◌
  create_dir-fine t p c ok =
      then (found-says w s b p ok) λ a e.
      then (not_file-quiet w a.kind) λ _ _.
      bind (made (fresh_dir t) a.path w (dir-ok t c) a.kind e) λ _ _ _.
      gives tt

  -- ---- open

  truncated-meets : Small w.files → (c : Bool) (p : Path) (t : Time) → Signed64 t → Meets (λ _ v. (v.opens ≡ w.opens) × Small v.files) (O.truncated c p t) w
  unfolding O.truncated apply
  truncated-meets m true p t k =
      edited {e = change p (write [] t)} (no_bytes_lem, k) (gives (change-opens w p (write [] t) (look w.at p), change-small w p t (look w.at p) m))
  truncated-meets m false p t k = gives (refl, m)

  open_entry-fine : Small w.files → (o : Opening) (n : ℕ) (t : Time) (p : Path) → ((m : ℕ) → o.mode ≡ some m → Unsigned32 m) → Signed64 t → n ≤ 31
      → open_of w.opens n ≡ none → (p ≡ [] → ⊥) → (k : Option Kind) → Stands w.at p k → Fine (O.open_entry o n t p k) w
  unfolding O.open_entry apply ◌>>◌ ◌>>=◌
  open_entry-fine m o n t p k c l u r (some j) e =
      then (only_file-quiet w j) λ _ _.
      then (need-quiet w (not o.create_new) 12) λ _ _.
      bind (truncated-meets m o.truncate p t c) λ _ v y.
      then (start-says v y.1 o.append p) λ a z.
      edited {e = opens n p a} (ap (λ (os : List Open). open_of os n) y.0 ∙ u, l, z, e.path) (gives tt)
  open_entry-fine m o n t p k c l u r none e =
      then (parent_stands-says w p) λ _ j.
      then (need-quiet w o.create 8) λ _ _.
      then (new_mode-says w s o.mode k) λ d i.
      edited {e = create p (record { meta = fresh d t; bytes = [] })} (vacant w.at p e r j.0 j.1, (fresh_ok d t i c, no_bytes_lem))
      (edited {e = opens n p 0} (u, l, lit< tt, e.path) (gives tt))

  -- open makes a file only below a directory, and the number is free
  pub open-fine : Small w.files → (o : Opening) (n : ℕ) (t : Time) (p : Path) → ((m : ℕ) → o.mode ≡ some m → Unsigned32 m) → Signed64 t → n ≤ 31
      → open_of w.opens n ≡ none → T (path_ok p) → Fine (O.open_at b o n t p) w
  unfolding O.open_at ◌>>◌
  open-fine m o n t p k c l u ok =
      then (open_walk-says w s b p ok) λ a e.
      bind (open_entry-fine m o n t a.path k c l u e.1 a.kind e.0) λ _ _ _.
      gives tt

  -- ---- read, write, copy, hard link

  -- what is read is bytes
  read-bytes : (p : Path) (c : Option Bytes) → answer (bytes? p) w ≡ c → T (bytes_ok (text_or c))
  unfolding answer bytes_of bytes_ok
  read-bytes p c e = subst (λ (x : Option Bytes). T (bytes_ok (text_or x))) e (go (look w.at p))
    where
      go : (o : Option Node) → T (bytes_ok (text_or (on_some o (bytes_of w))))
      go none = tt
      go (some (dir m)) = tt
      go (some (file i)) = file-bytes w.files s.table i
      go (some (link m g)) = tt

  source-says : (p : Path) → T (path_ok p) → Says (λ c. T (bytes_ok c.bytes)) (O.source_at b p) w
  unfolding O.source_at ◌>>◌
  source-says p ok =
      then (open_walk-says w s b p ok) λ a _.
      then (must-says a.kind w) λ k _.
      then (only_file-quiet w k) λ _ _.
      then (asks-says (bytes? a.path) w) λ c e.
      gives (refl, read-bytes a.path c e)

  -- read edits nothing
  pub read-fine : (lent : ℕ) (p : Path) → T (path_ok p) → Fine (O.read_at b lent p) w
  unfolding O.read_at fits ◌>>◌
  read-fine lent p ok =
      then (source-says p ok) λ c _.
      then (need-quiet w (leb (length c.bytes) lent) 14) λ _ _.
      gives tt

  module _ (t : Time) (tk : Signed64 t) where
    write_entry-fine : (d : Bytes) → T (bytes_ok d) → (p : Path) → (p ≡ [] → ⊥) → (o : Option Kind) → Stands w.at p o → Fine (O.write_entry t d p o) w
    unfolding O.write_entry ◌>>◌
    write_entry-fine d dk p r (some j) e = then (only_file-quiet w j) λ _ _. edited {e = change p (write d t)} (dk, tk) (gives tt)
    write_entry-fine d dk p r none e =
        then (parent_stands-says w p) λ _ j.
        then (new_mode-says w s none (λ m z. clash none m refl z)) λ m i.
        edited {e = create p (record { meta = fresh m t; bytes = d })} (vacant w.at p e r j.0 j.1, (fresh_ok m t i tk, dk)) (gives tt)

    write_to-fine : (d : Bytes) → T (bytes_ok d) → (p : Path) → T (path_ok p) → Fine (O.write_to b t d p) w
    unfolding O.write_to ◌>>◌
    write_to-fine d dk p ok =
        then (open_walk-says w s b p ok) λ a e.
        bind (write_entry-fine d dk a.path e.1 a.kind e.0) λ _ _ _.
        gives tt

    -- write makes a file only below a directory
    pub write-fine : (d : Bytes) (p : Path) → T (bytes_ok d) → T (path_ok p) → Fine (O.write_at b t d p) w
    unfolding O.write_at
    write-fine d p dk ok = bind (write_to-fine d dk p ok) λ _ _ _. gives tt

    -- so does copy
    pub copy-fine : (p q : Path) → T (path_ok p) → T (path_ok q) → Fine (O.copy_at b t p q) w
    unfolding O.copy_at
    copy-fine p q pk qk =
        then (source-says p pk) λ c ck.
        bind (write_to-fine c.bytes ck q qk) λ _ _ _.
        gives tt

    -- and hard link
    pub hard_link-fine : (p q : Path) → T (path_ok q) → Fine (O.hard_link_at b t p q) w
    unfolding O.hard_link_at ◌>>◌
    hard_link-fine p q qk =
        then (leads-says w s b p) λ a _.
        then (only_file-quiet w a.kind) λ _ _.
        then (asks-says (bytes? a.path) w) λ c e.
        bind (write_to-fine (text_or c) (read-bytes a.path c e) q qk) λ _ _ _.
        gives tt

  -- ---- link, remove

  -- a link is put below a directory, over no directory
  pub link-fine : (target : Bytes) (t : Time) (p : Path) → T (target_ok target) → Signed64 t → T (path_ok p) → Fine (O.link_at b target t p) w
  unfolding O.link_at ◌>>◌ ◌>>=◌
  link-fine target t p y c ok =
      then (last_entry-says w s b p ok) λ a e.
      then (not_dir-says w a.kind) λ _ u.
      let v : Vacant a.path w.at = record {
        named = e.named;
        below = e.below;
        housed = e.housed;
        no_dir = λ j. u (sym e.kind ∙ dir-shows w.at a.path j);
      } in
      edited {e = symlink a.path (fresh_link t) target} (v, link-ok t c, y) (gives tt)

  -- a removal is allowed where what it does is
  pub remove-fine : (f : Path → Option Kind → Prog (Unit {0})) (p : Path) → T (path_ok p) → ((p : Path) (e : Option Kind) → Fine (f p e) w) → Fine (O.remove_at f b p) w
  unfolding O.remove_at ◌>>◌
  remove-fine f p ok r =
      then (last_entry-says w s b p ok) λ a _.
      bind (r a.path a.kind) λ _ _ _.
      gives tt

  -- ---- metadata, read link, permissions, times, list

  -- metadata of a path edits nothing
  pub metadata-fine : (lent : ℕ) (p : Path) → Fine (O.metadata_at b lent p) w
  unfolding O.metadata_at fits ◌>>◌
  metadata-fine lent p =
      then (leads-says w s b p) λ a _.
      then (asks-says (stat? a.path) w) λ e _.
      then (need-quiet w (leb 1 lent) 14) λ _ _.
      gives tt

  -- the mode fits
  pub set_permissions-fine : (mode : ℕ) (p : Path) → Unsigned32 mode → Fine (O.set_permissions_at b mode p) w
  unfolding O.set_permissions_at ◌>>◌ ◌>>=◌
  set_permissions-fine mode p k = then (leads-says w s b p) λ a _. edited {e = change a.path (chmod mode)} k (gives tt)

  -- "Set times takes the path raw": where it leads, if it leads anywhere, an entry stands
  pub set_times-fine : (g : Bytes) (first second : Time) → Signed64 first → Signed64 second → Fine (O.on_raw g (O.set_times_at b first second)) w
  unfolding O.on_raw O.set_times_at ◌>>◌ ◌>>=◌
  set_times-fine g first second k l =
      then (need-quiet w (is_absolute g) 8) λ _ _.
      then (leads-says w s b (names g)) λ a _.
      edited {e = change a.path (touch first second)} (k, l) (gives tt)

  -- list edits nothing
  pub list-fine : (lent rows : ℕ) (p : Path) → Fine (O.list_at b lent rows p) w
  unfolding O.list_at fits ◌>>◌
  list-fine lent rows p =
      then (leads-says w s b p) λ a _.
      then (only_dir-quiet w a.kind) λ _ _.
      then (asks-says (list? a.path) w) λ l _.
      then (need-quiet w (leb (length (names_text l)) lent) 14) λ _ _.
      then (need-quiet w (leb (length l) rows) 14) λ _ _.
      gives tt

  end_there-quiet : (m : End) → Quiet (O.end_there m) w
  unfolding O.end_there
  end_there-quiet (found d k) = gives (refl, tt)
  end_there-quiet (missing d) = stops
  end_there-quiet (last_link d) = gives (refl, tt)

  only_link-quiet : (m : End) → Quiet (O.only_link m) w
  unfolding O.only_link
  only_link-quiet (found d k) = stops
  only_link-quiet (missing d) = stops
  only_link-quiet (last_link d) = gives (refl, tt)

  -- symlink metadata edits nothing
  pub symlink_metadata-fine : (lent : ℕ) (p : Path) → Fine (O.symlink_metadata_at lent p) w
  unfolding O.symlink_metadata_at fits ◌>>◌
  symlink_metadata-fine lent p =
      then (no_follow-says w s most_links p []) λ a _.
      then (end_there-quiet a.end) λ d _.
      then (asks-says (stat? d) w) λ e _.
      then (need-quiet w (leb 1 lent) 14) λ _ _.
      gives tt

  -- nor does read link
  pub read_link-fine : (lent : ℕ) (p : Path) → Fine (O.read_link_at lent p) w
  unfolding O.read_link_at fits ◌>>◌
  read_link-fine lent p =
      then (no_follow-says w s most_links p []) λ a _.
      then (only_link-quiet a.end) λ d _.
      then (asks-says (target? d) w) λ e _.
      then (need-quiet w (leb (length (text_or e)) lent) 14) λ _ _.
      gives tt
