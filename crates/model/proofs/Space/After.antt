-- The table: what each edit adds to the entries and bytes that a state uses, and what it takes off. `Uses s u a b c d`: u uses a
-- entries more than s and b fewer, c bytes more and d fewer. Each line is the law of the same edit on the state's world.
-- Assumes nothing.
use mathlib.Core.Bool.{◌||◌, cond}
use mathlib.Core.List.{List, [], ◌∷◌, ◌++◌}
use mathlib.Core.Option.{none, some}
use mathlib.Core.Path.{◌≡◌, refl}
use Prim.Native.Nat.{ℕ, ◌+◌}
use native.Mathlib.Omega.{arith}
use lib.ListN.{length}
use Rattle.text.specs.Utf8.{Bytes}
use Rattle.path.specs.Path.{Name}
use Rattle.model.specs.Tree.{Path, Time, Meta, File, Node, file, link, Open, look, file_of, open_of, cut, under, Change, write, resize, name_length}
use Rattle.model.specs.Prog.{make, create, symlink, change, remove, take, give, opens, close, seek, change_held, go, umask, apply, close_num}
use Rattle.model.specs.Calls.{edited, State, is_named, is_held, world_of, state_of}
use Rattle.model.specs.Space.{size_of, freed_by, freed_in}
use Rattle.model.proofs.Space.Sums.{KeepsBytes}
use Rattle.model.proofs.Space.Edits.{Bare, Leaf, make-new, create-new, symlink-new, symlink-link, symlink-file, write-file, resize-file, write-held, resize-held, change-keeps, held_keeps, remove-block, remove-leaf, opens_same, close-frees, seek_same, go_same, umask_same}
use Rattle.model.proofs.Space.Steps.{move_new, move_over, move-leaf, names_length, makes, make-row, row-hand, move-made, nest}
use Rattle.model.proofs.Space.States.{Spaced, Uses, shift-uses, after-uses, both_uses, uses_as}

module _ (s : State) (h : Spaced s) where
  -- a directory where nothing stands
  pub after-make : (p : Path) (m : Meta) → look s.tree p ≡ none → Uses s (edited (make p m) s) 1 0 (name_length p) 0
  after-make p m e = after-uses (make p m) s h tt (make-new (world_of s) p m e)

  -- a file where nothing stands
  pub after-create : (p : Path) (f : File) → look s.tree p ≡ none → Uses s (edited (create p f) s) 1 0 (name_length p + length f.bytes) 0
  after-create p f e = after-uses (create p f) s h tt (create-new (world_of s) p f e)

  -- a link where nothing stands
  pub after-symlink : (p : Path) (m : Meta) (t : Bytes) → look s.tree p ≡ none → Uses s (edited (symlink p m t) s) 1 0 (name_length p + length t) 0
  after-symlink p m t e = after-uses (symlink p m t) s h tt (symlink-new (world_of s) p m t e)

  -- a link for a link
  pub after-relink : (p : Path) (m o : Meta) (t u : Bytes) → look s.tree p ≡ some (link o u) → Uses s (edited (symlink p m t) s) 0 0 (length t) (length u)
  after-relink p m o t u e = after-uses (symlink p m t) s h tt (symlink-link (world_of s) p m o t u h.single.tidy.tree e)

  -- a link for a file
  pub after-unfile : (p : Path) (m : Meta) (t : Bytes) (i : ℕ) → look s.tree p ≡ some (file i)
      → Uses s (edited (symlink p m t) s) 0 0 (length t) (freed_by s.files s.opens (file i))
  after-unfile p m t i e = after-uses (symlink p m t) s h tt (symlink-file (world_of s) p m t i h.single e)

  -- contents by a path, with a time
  pub after_write : (p : Path) (b : Bytes) (t : Time) (i : ℕ) (f : File) → look s.tree p ≡ some (file i) → file_of s.files i ≡ some f
      → Uses s (edited (change p (write b t)) s) 0 0 (length b) (length f.bytes)
  after_write p b t i f e k = after-uses (change p (write b t)) s h tt (write-file (world_of s) p b t i f h.single.tidy.files e k)

  -- contents by a path
  pub after-resize : (p : Path) (b : Bytes) (i : ℕ) (f : File) → look s.tree p ≡ some (file i) → file_of s.files i ≡ some f
      → Uses s (edited (change p (resize b)) s) 0 0 (length b) (length f.bytes)
  after-resize p b i f e k = after-uses (change p (resize b)) s h tt (resize-file (world_of s) p b i f h.single.tidy.files e k)

  -- contents by a number, with a time
  pub after-write-held : (n : ℕ) (b : Bytes) (t : Time) (a : Open) (f : File) → open_of s.opens n ≡ some a → file_of s.files a.id ≡ some f
      → Uses s (edited (change_held n (write b t)) s) 0 0 (length b) (length f.bytes)
  after-write-held n b t a f e k = after-uses (change_held n (write b t)) s h tt (write-held (world_of s) n b t a f h.single.tidy.files e k)

  -- contents by a number
  pub after-resize-held : (n : ℕ) (b : Bytes) (a : Open) (f : File) → open_of s.opens n ≡ some a → file_of s.files a.id ≡ some f
      → Uses s (edited (change_held n (resize b)) s) 0 0 (length b) (length f.bytes)
  after-resize-held n b a f e k = after-uses (change_held n (resize b)) s h tt (resize-held (world_of s) n b a f h.single.tidy.files e k)

  -- mode or times by a path, whatever stands there
  pub after-keeps : (p : Path) (c : Change) → KeepsBytes c → Uses s (edited (change p c) s) 0 0 0 0
  after-keeps p c k = after-uses (change p c) s h tt (change-keeps (world_of s) p c k h.single.tidy.tree)

  -- mode or times by a number
  pub after-held-keeps : (n : ℕ) (c : Change) → KeepsBytes c → Uses s (edited (change_held n c) s) 0 0 0 0
  after-held-keeps n c k = after-uses (change_held n c) s h tt (held_keeps (world_of s) n c k)

  -- an entry removed with all below it
  pub after-remove : (p : Path) (a : Node) → look s.tree p ≡ some a
      → Uses s (edited (remove p) s) 0 (length (under p s.tree)) 0 (name_length p + freed_in s.files s.opens (under p s.tree))
  after-remove p a e = after-uses (remove p) s h tt (remove-block (world_of s) p a h.single e)

  -- an entry removed with nothing below it: of a directory its name, of a file its contents too unless a number is open on it
  pub after-remove-leaf : (p : Path) (a : Node) → look s.tree p ≡ some a → Leaf p s.tree
      → Uses s (edited (remove p) s) 0 1 0 (name_length p + freed_by s.files s.opens a)
  after-remove-leaf p a e l = after-uses (remove p) s h tt (remove-leaf (world_of s) p a h.single e l)

  -- an entry moved to where nothing stands once it is out
  pub after-move : (p q : Path) (a : Node) → look s.tree p ≡ some a → Bare q (cut p s.tree)
      → Uses s (state_of s (apply (give q) (apply (take p) (world_of s)))) 0 0 (name_length q) (name_length p)
  unfolding apply
  after-move p q a e b = shift-uses s (apply (give q) (apply (take p) (world_of s))) h refl (move_new (world_of s) p q a refl e h.single.tidy.tree b)

  -- an entry moved over another with all below that
  pub after-move_over : (p q : Path) (a n : Node) → look s.tree p ≡ some a → look (cut p s.tree) q ≡ some n
      → Uses s (state_of s (apply (give q) (apply (take p) (world_of s)))) 0 (length (under q (cut p s.tree))) 0 (name_length p + freed_in s.files s.opens (under q (cut p s.tree)))
  unfolding apply
  after-move_over p q a n e f = shift-uses s (apply (give q) (apply (take p) (world_of s))) h refl (move_over (world_of s) p q a refl e n h.single f)

  -- an entry moved over one with nothing below it: a file, a link, an empty directory
  pub after-move-leaf : (p q : Path) (a n : Node) → look s.tree p ≡ some a → look (cut p s.tree) q ≡ some n → Leaf q (cut p s.tree)
      → Uses s (state_of s (apply (give q) (apply (take p) (world_of s)))) 0 1 0 (name_length p + freed_by s.files s.opens n)
  unfolding apply
  after-move-leaf p q a n e f l = shift-uses s (apply (give q) (apply (take p) (world_of s))) h refl (move-leaf (world_of s) p q a refl e n h.single f l)

  -- an entry put below a new directory in its place
  pub after-nest : (p : Path) (x : Name) (m : Meta) (a : Node) → look s.tree p ≡ some a
      → Uses s (state_of s (apply (give (p ++ (x ∷ []))) (apply (make p m) (apply (take p) (world_of s))))) 1 0 (length x) 0
  unfolding apply
  after-nest p x m a e =
      shift-uses s (apply (give (p ++ (x ∷ []))) (apply (make p m) (apply (take p) (world_of s)))) h refl (nest (world_of s) p a refl h.single.tidy.tree e x m)

  -- a row of directories, each in the one before, where nothing stands
  pub after-makes : (m : Meta) (d : Path) (r : List Name) → Bare d s.tree → Uses s (state_of s (makes m d r (world_of s))) (1 + length r) 0 (name_length d + names_length r) 0
  after-makes m d r b = shift-uses s (makes m d r (world_of s)) h (row-hand m d r (world_of s)) (make-row m d r (world_of s) b)

  -- an entry moved below a row of new directories; the first may be made in its place
  pub after-move-made : (p : Path) (a : Node) (m : Meta) (d : Path) (r : List Name) (y : Name) → look s.tree p ≡ some a → Bare d (cut p s.tree)
      → Uses s (state_of s (apply (give ((d ++ r) ++ (y ∷ []))) (makes m d r (apply (take p) (world_of s))))) (1 + length r) 0 (name_length d + names_length r + length y) (name_length p)
  unfolding apply
  after-move-made p a m d r y e b =
      shift-uses s (apply (give ((d ++ r) ++ (y ∷ []))) (makes m d r (apply (take p) (world_of s)))) h refl (move-made (world_of s) p a refl h.single.tidy.tree e m d r y b)

  -- a number that was closed is opened
  pub after-opens : (n : ℕ) (p : Path) (k : ℕ) → open_of s.opens n ≡ none → Uses s (edited (opens n p k) s) 0 0 0 0
  after-opens n p k e = after-uses (opens n p k) s h tt (opens_same (world_of s) n p k e)

  -- a number opened on a new file
  pub after-open-new : (p : Path) (f : File) (n k : ℕ) → look s.tree p ≡ none → open_of s.opens n ≡ none
      → Uses s (state_of s (apply (opens n p k) (apply (create p f) (world_of s)))) 1 0 (name_length p + length f.bytes) 0
  after-open-new p f n k e z =
      uses_as
      (both_uses (create p f) (opens n p k) s h tt tt (create-new (world_of s) p f e) (opens_same (apply (create p f) (world_of s)) n p k (unfold apply in z)))
      (omega arith) (omega arith)

  -- a number opened on a file with other contents
  pub after-open-write : (p : Path) (b : Bytes) (t : Time) (i : ℕ) (f : File) (n k : ℕ) → look s.tree p ≡ some (file i) → file_of s.files i ≡ some f
      → open_of s.opens n ≡ none → Uses s (state_of s (apply (opens n p k) (apply (change p (write b t)) (world_of s)))) 0 0 (length b) (length f.bytes)
  after-open-write p b t i f n k e g z =
      uses_as
      (both_uses (change p (write b t)) (opens n p k) s h tt tt (write-file (world_of s) p b t i f h.single.tidy.files e g)
      (opens_same (apply (change p (write b t)) (world_of s)) n p k (unfold apply in rw e z)))
      (omega arith) (omega arith)

  -- an open number is closed: contents go where the file has no name and no other number
  pub after-close : (n : ℕ) (a : Open) → open_of s.opens n ≡ some a
      → Uses s (edited (close n) s) 0 0 0 (cond (is_named s.tree a.id || is_held (close_num n s.opens) a.id) 0 (size_of (file_of s.files a.id)))
  after-close n a e = after-uses (close n) s h tt (close-frees (world_of s) n a h.single.tidy.files h.single.tidy.numbers e)

  -- a position
  pub after-seek : (n k : ℕ) → Uses s (edited (seek n k) s) 0 0 0 0
  after-seek n k = after-uses (seek n k) s h tt (seek_same (world_of s) n k)

  -- the current directory
  pub after-go : (p : Path) → Uses s (edited (go p) s) 0 0 0 0
  after-go p = after-uses (go p) s h tt (go_same (world_of s) p)

  -- the umask
  pub after-umask : (m : ℕ) → Uses s (edited (umask m) s) 0 0 0 0
  after-umask m = after-uses (umask m) s h tt (umask_same (world_of s) m)
