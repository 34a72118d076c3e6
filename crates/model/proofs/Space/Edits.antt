-- What each edit does to the entries and bytes of a world, exactly. What rename has in hand counts with the tree, since it will
-- stand in it again; so an edit adds what it puts into the tree, and takes off what it replaces or removes. Contents go with a
-- file's name only where no number is open on the file.
-- Assumes nothing.
use mathlib.Core.Bool.{Bool, true, false, ◌||◌, cond}
use mathlib.Core.List.{List, [], ◌∷◌, ◌++◌, append-nil}
use mathlib.Core.Option.{Option, none, some}
use mathlib.Core.Path.{◌≡◌, refl, sym, ap, ◌∙◌}
use Prim.Native.Nat.{ℕ, ◌+◌}
use native.Mathlib.Omega.{arith}
use lib.Dec.{T, eqb}
use lib.ListN.{length}
use borrow.Author.Tests.{ne_eqb, eqb-true}
use Rattle.text.specs.Utf8.{Bytes}
use Rattle.path.specs.Path.{Name}
use Rattle.model.specs.Tree.{Path, Time, Meta, File, Node, dir, file, link, Entries, Files, Open, look, file_of, open_of, behind, put, unless_behind, cut, under, graft, Change, write, resize, chmod, touch, touch_some, change_meta, change_bytes, set_file, new_id, name_length, target_length, names_and_targets, contents_length}
use Rattle.model.specs.Prog.{World, make, create, symlink, change, remove, take, give, opens, close, seek, change_held, go, umask, apply, with_tree, with_files, change_at, opened_at, change_by, close_num, seek_num}
use Rattle.model.specs.Calls.{is_named, is_held, kept_files}
use Rattle.model.specs.Rules.{Once, new_file, new_number}
use Rattle.model.specs.Space.{size_of, freed_by, freed_in}
use Rattle.model.proofs.Demand.Contents.{or_left, or_right, at_named, by_held}
use Rattle.model.proofs.Entries.{clash, some_inj, is_true, behind_is, look-here, look_past, look_none, less_none, under_look, path-dec, put-here, Apart, apart_under}
use Rattle.model.proofs.Sound.Files.{new-free}
use Rattle.model.proofs.Space.Sums.{names, count, some?, named_count, kept_same, kept-counts, kept-held, bytes_over, OneName, bytes-sum, total-freed, KeepsBytes, kept_set, kept-keeps, close-free, held-close, held-seek}
use Rattle.model.proofs.Demand.Spacing.{total-length, total-names, last_name_lem, root-name}
use Rattle.model.proofs.Demand.Tidy.{Tidy}
use Rattle.model.proofs.Demand.Totals.{total, total_both, total-cut, total-less, total-graft, crown}

-- ---- sums over a tree that is edited, with what is in hand

-- nothing stands at the path or below it
abbrev pub Bare : Path → Entries → Type 0
Bare p t = (r : Path) → look t (p ++ r) ≡ none

-- nothing stands below the path
abbrev pub Leaf : Path → Entries → Type 0
Leaf p t = (x : Name) (r : Path) → look t (p ++ (x ∷ r)) ≡ none

-- where nothing stands, nothing is cut
pub bare-cut : (p : Path) (t : Entries) → Bare p t → cut p t ≡ t
unfolding cut
bare-cut p [] h = refl
bare-cut p (e ∷ t) h = at (behind p e.0) refl (bare-cut p t)
  where
    rest : (r : Path) → look t (p ++ r) ≡ none
    rest r = two (path-dec e.0 (p ++ r))
      where
        two : Dec (e.0 ≡ p ++ r) → look t (p ++ r) ≡ none
        two (yes d) = clash (look (e ∷ t) (p ++ r)) e.1 (h r) (look-here e t (p ++ r) d)
        two (no d) = sym (look_past e t (p ++ r) d) ∙ h r

    at : (o : Option Path) → behind p e.0 ≡ o → (Bare p t → cut p t ≡ t) → unless_behind o e (cut p t) ≡ e ∷ t
    at none b ih = ap (◌∷◌ e) (ih rest)
    at (some r) b ih = clash (look (e ∷ t) (p ++ r)) e.1 (h r) (look-here e t (p ++ r) (behind_is p e.0 r b))

-- an entry with nothing below it is all that is under its path
pub leaf_under : (p : Path) (n : Node) (t : Entries) → Apart t → look t p ≡ some n → Leaf p t → under p t ≡ ([], n) ∷ []
leaf_under p n t a e h =
    one (under p t) (apart_under p t a) (under_look p [] t ∙ ap (look t) (append-nil p) ∙ e) (λ x r. under_look p (x ∷ r) t ∙ h x r)
  where
    one : (u : Entries) → Apart u → look u [] ≡ some n → ((x : Name) (r : Path) → look u (x ∷ r) ≡ none) → u ≡ ([], n) ∷ []
    one [] b k l = clash (look [] []) n (look_none []) k
    one (([], m) ∷ u) b k l = rest u b.0 (λ x r. sym (look_past ([], m) u (x ∷ r) (λ z. root-apart z)) ∙ l x r) (some_inj (sym (look-here ([], m) u [] refl) ∙ k))
      where
        root-apart : {x : Name} {r : Path} → ◌≡◌ {A = Path} [] (x ∷ r) → ⊥
        root-apart z = let y : ◌≡◌ {A = ℕ} 0 1 = cc in omega arith

        rest : (u : Entries) → look u [] ≡ none → ((x : Name) (r : Path) → look u (x ∷ r) ≡ none) → m ≡ n → ([], m) ∷ u ≡ ([], n) ∷ []
        rest [] z l d = ap (λ (y : Node). ([], y) ∷ []) d
        rest (([], q) ∷ u) z l d = clash (look (([], q) ∷ u) []) q z (look-here ([], q) u [] refl)
        rest ((x ∷ r, q) ∷ u) z l d = clash (look ((x ∷ r, q) ∷ u) (x ∷ r)) q (l x r) (look-here (x ∷ r, q) u (x ∷ r) refl)
    one ((x ∷ r, m) ∷ u) b k l = clash (look ((x ∷ r, m) ∷ u) (x ∷ r)) m (l x r) (look-here (x ∷ r, m) u (x ∷ r) refl)

module _ (d : Path → ℕ) (c : Node → ℕ) where
  -- a node put where nothing stands
  total-new : (h t : Entries) (p : Path) (n : Node) → look t p ≡ none → total d c (h ++ put p n t) ≡ total d c (h ++ t) + (d p + c n)
  unfolding put total
  total-new h t p n e = omega (arith, total_both d c h (put p n t), total_both d c h t, ap (total d c) (less_none p t e))

  -- a node put for another
  total_over : (h t : Entries) (p : Path) (n a : Node) → Apart t → look t p ≡ some a → total d c (h ++ put p n t) + c a ≡ total d c (h ++ t) + c n
  unfolding put total
  total_over h t p n a k e = omega (arith, total_both d c h (put p n t), total_both d c h t, total-less d c p a t k e)

  module _ (unnamed : d [] ≡ 0) (last : (p : Path) (x : Name) (r : Path) → d (p ++ (x ∷ r)) ≡ d (x ∷ r)) where
    -- entries put behind a path
    total-behind : (p : Path) (h : Entries) (a : Node) → Apart h → look h [] ≡ some a → total d c (graft p h) ≡ d p + total d c h
    total-behind p h a k e = total-graft d c unnamed last p h k ∙ ap (λ (o : Option Node). crown d c p o + total d c h) e

    -- the entries of a path
    total-block : (p : Path) (t : Entries) (a : Node) → Apart t → look t p ≡ some a → total d c t ≡ total d c (cut p t) + (d p + total d c (under p t))
    total-block p t a k e =
        omega (arith, total-cut d c p t, total-behind p (under p t) a (apart_under p t k) (under_look p [] t ∙ ap (look t) (append-nil p) ∙ e))

    -- an entry removed with all below it
    total-removed : (h t : Entries) (p : Path) (a : Node) → Apart t → look t p ≡ some a
        → total d c (h ++ cut p t) + (d p + total d c (under p t)) ≡ total d c (h ++ t)
    total-removed h t p a k e = omega (arith, total_both d c h (cut p t), total_both d c h t, total-block p t a k e)

    -- taken in hand
    total-taken : (t : Entries) (p : Path) (a : Node) → Apart t → look t p ≡ some a → total d c (under p t ++ cut p t) + d p ≡ total d c t
    total-taken t p a k e = omega (arith, total_both d c (under p t) (cut p t), total-block p t a k e)

    -- put down where nothing stands
    total-given : (h t : Entries) (q : Path) (a : Node) → Apart h → look h [] ≡ some a → Bare q t → total d c (graft q h ++ cut q t) ≡ total d c (h ++ t) + d q
    total-given h t q a k e b =
        omega (arith, total_both d c (graft q h) (cut q t), total_both d c h t, total-behind q h a k e, ap (total d c) (bare-cut q t b))

    -- put down for another
    total-for : (h t : Entries) (q : Path) (a n : Node) → Apart h → look h [] ≡ some a → Apart t → look t q ≡ some n
        → total d c (graft q h ++ cut q t) + total d c (under q t) ≡ total d c (h ++ t)
    total-for h t q a n k e l f =
        omega (arith, total_both d c (graft q h) (cut q t), total_both d c h t, total-behind q h a k e, total-block q t n l f)

-- a file of the tree is named, whatever is in hand
pub named-tree : (h t : Entries) (p : Path) (i : ℕ) → look t p ≡ some (file i) → T (is_named (h ++ t) i)
unfolding is_named
named-tree [] t p i e = at_named t p i e
named-tree ((q, dir m) ∷ h) t p i e = named-tree h t p i e
named-tree ((q, link m s) ∷ h) t p i e = named-tree h t p i e
named-tree ((q, file j) ∷ h) t p i e = or_right (eqb j i) (is_named (h ++ t) i) (named-tree h t p i e)

-- ---- worlds

-- the entries in hand and those of the tree
abbrev pub whole : World → Entries
whole w = w.hand ++ w.at

-- their number
abbrev pub entries_in : World → ℕ
entries_in w = length (whole w)

-- the bytes that they and open numbers use; with nothing in hand, what the state left would use
abbrev pub bytes_in : World → ℕ
bytes_in w = bytes_over (whole w) w.opens w.files

-- from one world to another: entries more and fewer, bytes more and freed
pub record Shift (w v : World) (more fewer grown freed : ℕ) : Type 0 where
  pub entries : entries_in v + fewer ≡ entries_in w + more
  pub bytes : bytes_in v + freed ≡ bytes_in w + grown

-- one edit after another
pub shift_then : {w v u : World} {a b c d e f g h : ℕ} → Shift w v a b c d → Shift v u e f g h → Shift w u (a + e) (b + f) (c + g) (d + h)
shift_then x y = record { entries = omega (arith, x.entries, y.entries); bytes = omega (arith, x.bytes, y.bytes) }

-- the same by other numbers
pub shift_as : {w v : World} {a b c d e f g h : ℕ} → Shift w v a b c d → e + b ≡ a + f → g + d ≡ c + h → Shift w v e f g h
shift_as x p q = record { entries = omega (arith, x.entries); bytes = omega (arith, x.bytes) }

-- what all this needs of a world: each path, file and number once, one name to a file, and no number of a file that is not there
pub record Single (w : World) : Type 0 where
  pub tidy : Tidy w
  pub one_name : OneName (whole w)
  pub present : (i : ℕ) → file_of w.files i ≡ none → count i (whole w) ≡ 0

-- entries, by the sum of one for each
lengths : (t u : Entries) (x y : ℕ) → total (λ p. 0) (λ n. 1) u + x ≡ total (λ p. 0) (λ n. 1) t + y → length u + x ≡ length t + y
lengths t u x y e = omega (arith, total-length t, total-length u, e)

-- bytes, where both trees name the same files
same_files : (t u : Entries) (os : List Open) (fs : Files) (x y : ℕ) → ((i : ℕ) → count i u ≡ count i t)
    → total name_length target_length u + x ≡ total name_length target_length t + y → bytes_over u os fs + x ≡ bytes_over t os fs + y
same_files t u os fs x y h e = omega (arith, total-names t, total-names u, ap contents_length (kept-counts u t os fs h), e)

-- bytes, where contents go with names
less-files : (t u : Entries) (os : List Open) (fs : Files) (x y : ℕ) → Once new_file fs → OneName t → OneName u
    → total name_length (freed_by fs os) u + x ≡ total name_length (freed_by fs os) t + y → bytes_over u os fs + x ≡ bytes_over t os fs + y
less-files t u os fs x y o h k e = omega (arith, bytes-sum t os fs o h, bytes-sum u os fs o k, total-freed fs os t, total-freed fs os u, e)

-- contents, where the tree names a new file as well
kept-created : (t u : Entries) (os : List Open) (fs : Files) (f : File) → T (is_named u (new_id fs)) → ((i : ℕ) → count i u ≡ count i t + names i (file (new_id fs)))
    → contents_length (kept_files u os ((new_id fs, f) ∷ fs)) ≡ length f.bytes + contents_length (kept_files t os fs)
unfolding kept_files contents_length names
kept-created t u os fs f h e =
    rw (is_true (is_named u (new_id fs)) h) (ap (λ (gs : Files). length f.bytes + contents_length gs) (kept_same u t os os fs (λ i n. ap (λ (b : Bool). b || is_held os i) (same i n))))
  where
    other : (i : ℕ) → (file_of fs i ≡ none → ⊥) → names i (file (new_id fs)) ≡ 0
    other i n = ap (λ (b : Bool). cond b 1 0) (ne_eqb (new_id fs) i (λ d. n (ap (file_of fs) (sym d) ∙ new-free fs)))

    even : (i : ℕ) → (file_of fs i ≡ none → ⊥) → count i u ≡ count i t
    even i n = omega (arith, e i, other i n)

    same : (i : ℕ) → (file_of fs i ≡ none → ⊥) → is_named u i ≡ is_named t i
    same i n = named_count i u ∙ ap some? (even i n) ∙ sym (named_count i t)

-- ---- a node put at a path

module _ (w : World) (p : Path) where
  -- a directory or a link, where nothing stands
  put-new : (n : Node) → ((i : ℕ) → names i n ≡ 0) → look w.at p ≡ none → Shift w (with_tree w (put p n w.at)) 1 0 (name_length p + target_length n) 0
  put-new n z e = record {
    entries = lengths (whole w) (w.hand ++ put p n w.at) 0 1 (omega (arith, total-new (λ p. 0) (λ n. 1) w.hand w.at p n e));
    bytes = same_files (whole w) (w.hand ++ put p n w.at) w.opens w.files 0 (name_length p + target_length n)
        (λ i. omega (arith, total-new (λ p. 0) (names i) w.hand w.at p n e, z i))
        (omega (arith, total-new name_length target_length w.hand w.at p n e));
  }

  -- make, where nothing stands: an entry and its name
  pub make-new : (m : Meta) → look w.at p ≡ none → Shift w (apply (make p m) w) 1 0 (name_length p) 0
  unfolding apply names target_length
  make-new m e = shift_as (put-new (dir m) (λ i. refl) e) refl (omega arith)

  -- a link, where nothing stands: an entry, its name and its target
  pub symlink-new : (m : Meta) (s : Bytes) → look w.at p ≡ none → Shift w (apply (symlink p m s) w) 1 0 (name_length p + length s) 0
  unfolding apply names target_length
  symlink-new m s e = put-new (link m s) (λ i. refl) e

  -- a file, where nothing stands: an entry, its name and its contents
  pub create-new : (f : File) → look w.at p ≡ none → Shift w (apply (create p f) w) 1 0 (name_length p + length f.bytes) 0
  unfolding apply target_length
  create-new f e =
      let n = file (new_id w.files) in
      let u = w.hand ++ put p n w.at in
      record {
        entries = lengths (whole w) u 0 1 (omega (arith, total-new (λ p. 0) (λ n. 1) w.hand w.at p n e));
        bytes = omega (
          arith,
          total-names u,
          total-names (whole w),
          total-new name_length target_length w.hand w.at p n e,
          kept-created (whole w) u w.opens w.files f (named-tree w.hand (put p n w.at) p (new_id w.files) (put-here p n w.at))
              (λ i. omega (arith, total-new (λ p. 0) (names i) w.hand w.at p n e)),
        );
      }

  -- a directory or a link, for another of the same kind or of any that is no file
  put_same : (n a : Node) → ((i : ℕ) → names i n ≡ 0) → ((i : ℕ) → names i a ≡ 0) → Apart w.at → look w.at p ≡ some a
      → Shift w (with_tree w (put p n w.at)) 0 0 (target_length n) (target_length a)
  put_same n a z y k e = record {
    entries = lengths (whole w) (w.hand ++ put p n w.at) 0 0 (omega (arith, total_over (λ p. 0) (λ n. 1) w.hand w.at p n a k e));
    bytes = same_files (whole w) (w.hand ++ put p n w.at) w.opens w.files (target_length a) (target_length n)
        (λ i. omega (arith, total_over (λ p. 0) (names i) w.hand w.at p n a k e, z i, y i))
        (total_over name_length target_length w.hand w.at p n a k e);
  }

  -- a link for a link: the target for the target
  pub symlink-link : (m o : Meta) (s u : Bytes) → Apart w.at → look w.at p ≡ some (link o u) → Shift w (apply (symlink p m s) w) 0 0 (length s) (length u)
  unfolding apply names target_length
  symlink-link m o s u k e = put_same (link m s) (link o u) (λ i. refl) (λ i. refl) k e

  -- a link for a file: the target, and the contents go unless a number is open on the file
  pub symlink-file : (m : Meta) (s : Bytes) (i : ℕ) → Single w → look w.at p ≡ some (file i)
      → Shift w (apply (symlink p m s) w) 0 0 (length s) (freed_by w.files w.opens (file i))
  unfolding apply names freed_by
  symlink-file m s i h e = record {
    entries = lengths (whole w) (w.hand ++ put p (link m s) w.at) 0 0 (omega (arith, total_over (λ p. 0) (λ n. 1) w.hand w.at p (link m s) (file i) h.tidy.tree e));
    bytes = less-files (whole w) (w.hand ++ put p (link m s) w.at) w.opens w.files (freed_by w.files w.opens (file i)) (length s)
        h.tidy.files h.one_name
        (λ j. omega (arith, h.one_name j, total_over (λ p. 0) (names j) w.hand w.at p (link m s) (file i) h.tidy.tree e))
        (total_over name_length (freed_by w.files w.opens) w.hand w.at p (link m s) (file i) h.tidy.tree e);
  }

-- ---- changes

-- nothing is gained or lost
stays : {w : World} → Shift w w 0 0 0 0
stays = record { entries = refl; bytes = refl }

module _ (w : World) where
  -- the file changed, of which a name or a number is there: the new contents for the old
  file-set : (i : ℕ) (c : Change) (f : File) → Once new_file w.files → file_of w.files i ≡ some f → T (is_named (whole w) i || is_held w.opens i)
      → Shift w (with_files w (set_file i c w.files)) 0 0 (length (change_bytes c f.bytes)) (length f.bytes)
  file-set i c f o e h = record { entries = refl; bytes = omega (arith, kept_set i c f (whole w) w.opens w.files o e h) }

  -- any change of a file by its path
  pub change-file : (p : Path) (c : Change) (i : ℕ) (f : File) → Once new_file w.files → look w.at p ≡ some (file i) → file_of w.files i ≡ some f
      → Shift w (apply (change p c) w) 0 0 (length (change_bytes c f.bytes)) (length f.bytes)
  unfolding apply
  change-file p c i f o e k =
      rw e (file-set i c f o k (or_left (is_named (whole w) i) (is_held w.opens i) (named-tree w.hand w.at p i e)))

  -- any change of a file by a number
  pub change-held : (n : ℕ) (c : Change) (a : Open) (f : File) → Once new_file w.files → open_of w.opens n ≡ some a → file_of w.files a.id ≡ some f
      → Shift w (apply (change_held n c) w) 0 0 (length (change_bytes c f.bytes)) (length f.bytes)
  unfolding apply
  change-held n c a f o e k =
      rw e (file-set a.id c f o k (or_right (is_named (whole w) a.id) (is_held w.opens a.id) (by_held w.opens n a e)))

  -- a write by a path
  pub write-file : (p : Path) (b : Bytes) (t : Time) (i : ℕ) (f : File) → Once new_file w.files → look w.at p ≡ some (file i) → file_of w.files i ≡ some f
      → Shift w (apply (change p (write b t)) w) 0 0 (length b) (length f.bytes)
  unfolding change_bytes
  write-file p b t i f o e k = change-file p (write b t) i f o e k

  -- a new length by a path
  pub resize-file : (p : Path) (b : Bytes) (i : ℕ) (f : File) → Once new_file w.files → look w.at p ≡ some (file i) → file_of w.files i ≡ some f
      → Shift w (apply (change p (resize b)) w) 0 0 (length b) (length f.bytes)
  unfolding change_bytes
  resize-file p b i f o e k = change-file p (resize b) i f o e k

  -- a write by a number
  pub write-held : (n : ℕ) (b : Bytes) (t : Time) (a : Open) (f : File) → Once new_file w.files → open_of w.opens n ≡ some a → file_of w.files a.id ≡ some f
      → Shift w (apply (change_held n (write b t)) w) 0 0 (length b) (length f.bytes)
  unfolding change_bytes
  write-held n b t a f o e k = change-held n (write b t) a f o e k

  -- a new length by a number
  pub resize-held : (n : ℕ) (b : Bytes) (a : Open) (f : File) → Once new_file w.files → open_of w.opens n ≡ some a → file_of w.files a.id ≡ some f
      → Shift w (apply (change_held n (resize b)) w) 0 0 (length b) (length f.bytes)
  unfolding change_bytes
  resize-held n b a f o e k = change-held n (resize b) a f o e k

  -- mode and times of whatever stands at a path
  pub change-keeps : (p : Path) (c : Change) → KeepsBytes c → Apart w.at → Shift w (apply (change p c) w) 0 0 0 0
  unfolding apply names target_length
  change-keeps p c h k = at (look w.at p) refl
    where
      at : (o : Option Node) → look w.at p ≡ o → Shift w (change_at w p c o) 0 0 0 0
      at none e = stays
      at (some (dir m)) e = put_same w p (dir (change_meta c m)) (dir m) (λ i. refl) (λ i. refl) k e
      at (some (file i)) e = record { entries = refl; bytes = omega (arith, kept-keeps i c h (whole w) w.opens w.files) }
      at (some (link m s)) e = shift_as (put_same w p (link (change_meta c m) s) (link m s) (λ i. refl) (λ i. refl) k e) refl (omega arith)

  -- mode and times by a number
  pub held_keeps : (n : ℕ) (c : Change) → KeepsBytes c → Shift w (apply (change_held n c) w) 0 0 0 0
  unfolding apply
  held_keeps n c h = at (open_of w.opens n)
    where
      at : (o : Option Open) → Shift w (change_by w c o) 0 0 0 0
      at none = stays
      at (some a) = record { entries = refl; bytes = omega (arith, kept-keeps a.id c h (whole w) w.opens w.files) }

-- the changes that leave contents as they are
pub chmod-keeps : (k : ℕ) → KeepsBytes (chmod k)
unfolding change_bytes
chmod-keeps k b = refl

pub touch-keeps : (a t : Time) → KeepsBytes (touch a t)
unfolding change_bytes
touch-keeps a t b = refl

pub some_keeps : (a t : Option Time) → KeepsBytes (touch_some a t)
unfolding change_bytes
some_keeps a t b = refl

-- ---- an entry removed with all below it

module _ (w : World) (p : Path) (a : Node) (s : Single w) (e : look w.at p ≡ some a) where
  -- the entries of the block, its names and targets, and the contents of its files that no number holds
  pub remove-block : Shift w (apply (remove p) w) 0 (length (under p w.at)) 0 (name_length p + freed_in w.files w.opens (under p w.at))
  unfolding apply
  remove-block = record {
    entries = omega (
      arith,
      total-length (w.hand ++ cut p w.at),
      total-length (whole w),
      total-length (under p w.at),
      total-removed (λ p. 0) (λ n. 1) refl (λ p x r. refl) w.hand w.at p a s.tidy.tree e,
    );
    bytes = less-files (whole w) (w.hand ++ cut p w.at) w.opens w.files (name_length p + freed_in w.files w.opens (under p w.at)) 0
        s.tidy.files s.one_name
        (λ i. omega (arith, s.one_name i, total-removed (λ p. 0) (names i) refl (λ p x r. refl) w.hand w.at p a s.tidy.tree e))
        (omega (
          arith,
          total-freed w.files w.opens (under p w.at),
          total-removed name_length (freed_by w.files w.opens) root-name last_name_lem w.hand w.at p a s.tidy.tree e,
        ));
  }

  -- one entry with nothing below it
  pub remove-leaf : Leaf p w.at → Shift w (apply (remove p) w) 0 1 0 (name_length p + freed_by w.files w.opens a)
  unfolding freed_in
  remove-leaf l =
      let z : under p w.at ≡ ([], a) ∷ [] = leaf_under p a w.at s.tidy.tree e l in
      shift_as remove-block (omega (arith, ap length z)) (omega (arith, root-name, ap (freed_in w.files w.opens) z))

-- an empty directory: its name
pub remove-dir : (w : World) (p : Path) (m : Meta) → Single w → look w.at p ≡ some (dir m) → Leaf p w.at → Shift w (apply (remove p) w) 0 1 0 (name_length p)
unfolding freed_by
remove-dir w p m s e l = shift_as (remove-leaf w p (dir m) s e l) refl (omega arith)

-- ---- an entry taken in hand, and put down

module _ (w : World) where
  -- taken: all but its name stays counted
  pub take-hand : (p : Path) (a : Node) → w.hand ≡ [] → Apart w.at → look w.at p ≡ some a → Shift w (apply (take p) w) 0 0 0 (name_length p)
  unfolding apply
  take-hand p a z k e = rw z record {
    entries = omega (
      arith,
      total-length (under p w.at ++ cut p w.at),
      total-length w.at,
      total-taken (λ p. 0) (λ n. 1) refl (λ p x r. refl) w.at p a k e,
    );
    bytes = same_files w.at (under p w.at ++ cut p w.at) w.opens w.files (name_length p) 0
        (λ i. omega (arith, total-taken (λ p. 0) (names i) refl (λ p x r. refl) w.at p a k e))
        (omega (arith, total-taken name_length target_length root-name last_name_lem w.at p a k e));
  }

  -- put down where nothing stands: its new name
  pub give-new : (q : Path) (a : Node) → Apart w.hand → look w.hand [] ≡ some a → Bare q w.at → Shift w (apply (give q) w) 0 0 (name_length q) 0
  unfolding apply
  give-new q a k e b = record {
    entries = omega (
      arith,
      total-length (graft q w.hand ++ cut q w.at),
      total-length (whole w),
      total-given (λ p. 0) (λ n. 1) refl (λ p x r. refl) w.hand w.at q a k e b,
    );
    bytes = same_files (whole w) (graft q w.hand ++ cut q w.at) w.opens w.files 0 (name_length q)
        (λ i. omega (arith, total-given (λ p. 0) (names i) refl (λ p x r. refl) w.hand w.at q a k e b))
        (omega (arith, total-given name_length target_length root-name last_name_lem w.hand w.at q a k e b));
  }

  -- put down for what stands there: its name is the name of what goes
  pub give_over : (q : Path) (a n : Node) → Single w → look w.hand [] ≡ some a → look w.at q ≡ some n
      → Shift w (apply (give q) w) 0 (length (under q w.at)) 0 (freed_in w.files w.opens (under q w.at))
  unfolding apply
  give_over q a n s e f = record {
    entries = omega (
      arith,
      total-length (graft q w.hand ++ cut q w.at),
      total-length (whole w),
      total-length (under q w.at),
      total-for (λ p. 0) (λ n. 1) refl (λ p x r. refl) w.hand w.at q a n s.tidy.hand e s.tidy.tree f,
    );
    bytes = less-files (whole w) (graft q w.hand ++ cut q w.at) w.opens w.files (freed_in w.files w.opens (under q w.at)) 0
        s.tidy.files s.one_name
        (λ i. omega (arith, s.one_name i, total-for (λ p. 0) (names i) refl (λ p x r. refl) w.hand w.at q a n s.tidy.hand e s.tidy.tree f))
        (omega (
          arith,
          total-freed w.files w.opens (under q w.at),
          total-for name_length (freed_by w.files w.opens) root-name last_name_lem w.hand w.at q a n s.tidy.hand e s.tidy.tree f,
        ));
  }

  -- put down for one entry with nothing below it
  pub give-leaf : (q : Path) (a n : Node) → Single w → look w.hand [] ≡ some a → look w.at q ≡ some n → Leaf q w.at
      → Shift w (apply (give q) w) 0 1 0 (freed_by w.files w.opens n)
  unfolding freed_in
  give-leaf q a n s e f l =
      let z : under q w.at ≡ ([], n) ∷ [] = leaf_under q n w.at s.tidy.tree f l in
      shift_as (give_over q a n s e f) (omega (arith, ap length z)) (omega (arith, root-name, ap (freed_in w.files w.opens) z))

-- ---- numbers, the current directory, the umask

module _ (w : World) where
  -- a number that was closed is opened
  pub opens_same : (n : ℕ) (p : Path) (k : ℕ) → open_of w.opens n ≡ none → Shift w (apply (opens n p k) w) 0 0 0 0
  unfolding apply is_held
  opens_same n p k z = at (look w.at p) refl
    where
      open-file : (i : ℕ) → look w.at p ≡ some (file i) → (j : ℕ) → is_named (whole w) j || (eqb i j || is_held (close_num n w.opens) j) ≡ is_named (whole w) j || is_held w.opens j
      open-file i e j = rw (close-free n w.opens z) (go (eqb i j) refl)
        where
          go : (b : Bool) → eqb i j ≡ b → is_named (whole w) j || (b || is_held w.opens j) ≡ is_named (whole w) j || is_held w.opens j
          go true d =
              rw (is_true (is_named (whole w) j) (named-tree w.hand w.at p j (e ∙ ap (λ (x : ℕ). some (file x)) (eqb-true i j d))))
          go false d = refl

      at : (o : Option Node) → look w.at p ≡ o → Shift w (opened_at w n p k o) 0 0 0 0
      at none e = stays
      at (some (dir m)) e = stays
      at (some (link m s)) e = stays
      at (some (file i)) e = record {
        entries = refl;
        bytes = ap (λ (fs : Files). (names_and_targets (whole w) + contents_length fs) + 0)
            (kept_same (whole w) (whole w) ((record { num = n; id = i; pos = k; kept = p }) ∷ close_num n w.opens) w.opens w.files (λ j _. open-file i e j));
      }

  -- an open number is closed: the contents go where the file has no name and no other number
  pub close-frees : (n : ℕ) (a : Open) → Once new_file w.files → Once new_number w.opens → open_of w.opens n ≡ some a
      → Shift w (apply (close n) w) 0 0 0 (cond (is_named (whole w) a.id || is_held (close_num n w.opens) a.id) 0 (size_of (file_of w.files a.id)))
  unfolding apply
  close-frees n a o u e = record {
    entries = refl;
    bytes = omega (arith, kept-held a.id (whole w) (close_num n w.opens) w.opens w.files o (held-close n a w.opens u e));
  }

  -- a number at another position
  pub seek_same : (n k : ℕ) → Shift w (apply (seek n k) w) 0 0 0 0
  unfolding apply
  seek_same n k = record {
    entries = refl;
    bytes = ap (λ (fs : Files). (names_and_targets (whole w) + contents_length fs) + 0)
        (kept_same (whole w) (whole w) (seek_num n k w.opens) w.opens w.files (λ j _. ap (λ (b : Bool). is_named (whole w) j || b) (held-seek n k w.opens j)));
  }

  -- another current directory
  pub go_same : (p : Path) → Shift w (apply (go p) w) 0 0 0 0
  unfolding apply
  go_same p = record { entries = refl; bytes = refl }

  -- another umask
  pub umask_same : (m : ℕ) → Shift w (apply (umask m) w) 0 0 0 0
  unfolding apply
  umask_same m = record { entries = refl; bytes = refl }
