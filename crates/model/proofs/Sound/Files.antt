-- The table of files and the open numbers keep their rules after an edit: a change of one keeps the others, and its own numbers
-- fit; a new file gets a number that none has.
-- Assumes nothing.
use mathlib.Core.Bool.{Bool, true, false, ◌&&◌, cond, not}
use mathlib.Core.List.{List, [], ◌∷◌}
use mathlib.Core.Option.{Option, none, some}
use mathlib.Core.Path.{◌≡◌, refl, sym, ap, ◌∙◌, subst}
use Prim.Native.Nat.{ℕ, suc, ◌≤◌, ◌^◌}
use native.Mathlib.Nat.{le-max_left, le-max_right}
use native.Mathlib.Omega.{arith}
use lib.Dec.{T, eqb, ltb, eqb→eq, eqb_refl, ltb→lt, lt→ltb}
use borrow.Author.Tests.{ne_eqb}
use Rattle.text.specs.Utf8.{Bytes}
use Rattle.model.specs.Tree.{Time, Meta, File, Node, dir, file, link, Entries, Files, Open, or_else, keep_if, file_of, open_of, Change, write, resize, chmod, touch, touch_some, given, change_meta, change_bytes, change_file, set_file, new_id}
use Rattle.model.specs.Prog.{on_some, close_num, move_by, seek_num}
use Rattle.model.specs.Rules.{time_ok, meta_ok, bytes_ok, FileOk, NodeOk, Once, new_file, new_number}
use Rattle.model.specs.Passable.{Unsigned32, Unsigned64, Signed64}
use Rattle.model.proofs.Entries.{is_true, of_true, clash, some_inj}
use Rattle.model.specs.Shaped.{HasFile}
use Rattle.model.proofs.Sound.Worlds.{Tidy, OpenOk, FilesOk, OpensOk, GivenOk, ChangeOk}

-- ---- metadata

-- the numbers of metadata fit
pub record MetaFits (m : Meta) : Type 0 where
  pub mode : Unsigned32 m.mode
  pub accessed : Signed64 m.accessed
  pub changed : Signed64 m.changed
  pub created : Signed64 m.created
  pub modified : Signed64 m.modified

-- five tests in one
five-parts : (a b c d e : Bool) → T (a && (b && (c && (d && e)))) → T a × T b × T c × T d × T e
five-parts true true true true true h = (tt, tt, tt, tt, tt)
five-parts false b c d e h = absurd h
five-parts true false c d e h = absurd h
five-parts true true false d e h = absurd h
five-parts true true true false e h = absurd h
five-parts true true true true false h = absurd h

five_whole : (a b c d e : Bool) → T a → T b → T c → T d → T e → T (a && (b && (c && (d && e))))
five_whole true true true true e v w x y z = z
five_whole false b c d e v w x y z = absurd v
five_whole true false c d e v w x y z = absurd w
five_whole true true false d e v w x y z = absurd x
five_whole true true true false e v w x y z = absurd y

pub meta-parts : (m : Meta) → T (meta_ok m) → MetaFits m
unfolding meta_ok
meta-parts m h =
    let k = five-parts (ltb m.mode (2 ^ 32)) (time_ok m.accessed) (time_ok m.changed) (time_ok m.created) (time_ok m.modified) h in
    record { mode = ltb→lt m.mode (2 ^ 32) k.0; accessed = k.1; changed = k.2; created = k.3; modified = k.4 }

-- and then the metadata is as a rule of the tree says
pub meta_whole : (m : Meta) → MetaFits m → T (meta_ok m)
unfolding meta_ok
meta_whole m h =
    five_whole (ltb m.mode (2 ^ 32)) (time_ok m.accessed) (time_ok m.changed) (time_ok m.created) (time_ok m.modified)
    (lt→ltb m.mode (2 ^ 32) h.mode) h.accessed h.changed h.created h.modified

-- the metadata after a change whose numbers fit
pub meta-changed : (c : Change) (m : Meta) → ChangeOk c → T (meta_ok m) → T (meta_ok (change_meta c m))
unfolding change_meta
meta-changed c m k h = meta_whole (change_meta c m) (go c k)
  where
    f : MetaFits m
    f = meta-parts m h

    or : (o : Option Time) (t : Time) → GivenOk o → Signed64 t → Signed64 (given o t)
    or none t a b = b
    or (some u) t a b = a

    go : (c : Change) → ChangeOk c → MetaFits (change_meta c m)
    go (write b t) k = record { mode = f.mode; accessed = f.accessed; changed = f.changed; created = f.created; modified = k.1 }
    go (resize b) k = f
    go (chmod n) k = record { mode = k; accessed = f.accessed; changed = f.changed; created = f.created; modified = f.modified }
    go (touch a t) k = record { mode = f.mode; accessed = k.0; changed = k.0; created = k.0; modified = k.1 }
    go (touch_some a t) k =
        record { mode = f.mode; accessed = or a m.accessed k.0 f.accessed; changed = f.changed; created = f.created; modified = or t m.modified k.1 f.modified }

-- the bytes after such a change
bytes-changed : (c : Change) (d : Bytes) → ChangeOk c → T (bytes_ok d) → T (bytes_ok (change_bytes c d))
unfolding change_bytes
bytes-changed (write b t) d k h = k.0
bytes-changed (resize b) d k h = k
bytes-changed (chmod n) d k h = h
bytes-changed (touch a t) d k h = h
bytes-changed (touch_some a t) d k h = h

-- ---- the table of files

-- every file of the one table has a file in the other
abbrev pub Covers : Files → Files → Type 0
Covers fs gs = (i : ℕ) → HasFile fs i → HasFile gs i

node-covered : (fs gs : Files) (n : Node) → Covers fs gs → NodeOk fs n → NodeOk gs n
node-covered fs gs (dir m) c k = k
node-covered fs gs (file i) c k = c i k
node-covered fs gs (link m s) c k = k

-- the rules of entries ask no more of the table
pub tidy-covered : (fs gs : Files) (t : Entries) → Covers fs gs → Tidy fs t → Tidy gs t
tidy-covered fs gs t c s =
    record { paths = s.paths; parents = s.parents; named = s.named; nodes = λ p n h. node-covered fs gs n c (s.nodes p n h); one_name = s.one_name }

-- nor do those of open numbers
pub opens-covered : (fs gs : Files) (os : List Open) → Covers fs gs → OpensOk fs os → OpensOk gs os
opens-covered fs gs os c s = record { once = s.once; each = λ n o h. on o (s.each n o h) }
  where
    on : {n : ℕ} (o : Open) → OpenOk fs n o → OpenOk gs n o
    on o k = record { small = k.small; place = k.place; path = k.path; stands = c o.id k.stands }

-- an element of a list after a change
abbrev altered : {A : Type 0} → (A → A) → Option A → Option A
altered g o = on_some o (λ a. some (g a))

altered_each : {A : Type 0} (P : A → Type 0) (g : A → A) (o u : Option A) → u ≡ altered g o → ((a : A) → o ≡ some a → P (g a)) → (a : A) → u ≡ some a → P a
altered_each P g none u e k a h = clash u a e h
altered_each P g (some b) u e k a h = subst P (some_inj (sym e ∙ h)) (k b refl)

-- a file that is changed, or not
abbrev change_if : Change → Bool → File → File
change_if c b f = cond b (change_file c f) f

-- a file of a table with one changed
set-file : (i : ℕ) (c : Change) (fs : Files) (j : ℕ) → (b : Bool) × (file_of (set_file i c fs) j ≡ altered (change_if c b) (file_of fs j))
unfolding file_of set_file
set-file i c [] j = (true, refl)
set-file i c (f ∷ fs) j = go (eqb f.0 j) (set-file i c fs j)
  where
    go : (t : Bool) → (b : Bool) × (file_of (set_file i c fs) j ≡ altered (change_if c b) (file_of fs j))
        → (b : Bool) × (or_else t (change_if c (eqb f.0 i) f.1) (file_of (set_file i c fs) j) ≡ altered (change_if c b) (or_else t f.1 (file_of fs j)))
    go true r = (eqb f.0 i, refl)
    go false r = r

-- the table with one file changed has the same numbers
pub set-covers : (i : ℕ) (c : Change) (fs : Files) → Covers fs (set_file i c fs)
set-covers i c fs j (f, e) = let s = set-file i c fs j in (change_if c s.0 f, s.1 ∙ ap (altered (change_if c s.0)) e)

pub set-once : (i : ℕ) (c : Change) (fs : Files) → Once new_file fs → Once new_file (set_file i c fs)
unfolding set_file
set-once i c [] h = tt
set-once i c (f ∷ fs) h = let s = set-file i c fs f.0 in (s.1 ∙ ap (altered (change_if c s.0)) h.0, set-once i c fs h.1)

-- and keeps its rules
pub set-ok : (i : ℕ) (c : Change) (fs : Files) → ChangeOk c → FilesOk fs → FilesOk (set_file i c fs)
set-ok i c fs k s = record { once = set-once i c fs s.once; each = λ j. go j (set-file i c fs j) }
  where
    pick : (b : Bool) (f : File) → FileOk f → FileOk (change_if c b f)
    pick true f h = (meta-changed c f.meta k h.0, bytes-changed c f.bytes k h.1)
    pick false f h = h

    go : (j : ℕ) → (b : Bool) × (file_of (set_file i c fs) j ≡ altered (change_if c b) (file_of fs j)) → (f : File) → file_of (set_file i c fs) j ≡ some f → FileOk f
    go j r = altered_each FileOk (change_if c r.0) (file_of fs j) (file_of (set_file i c fs) j) r.1 (λ f e. pick r.0 f (s.each j f e))

-- what holds of every file holds still where one is changed, if the change keeps it
pub set_each : (P : File → Type 0) (i : ℕ) (c : Change) (fs : Files) → ((f : File) → P f → P (change_file c f))
    → ((j : ℕ) (f : File) → file_of fs j ≡ some f → P f) → (j : ℕ) (f : File) → file_of (set_file i c fs) j ≡ some f → P f
set_each P i c fs k h j = go (set-file i c fs j)
  where
    pick : (b : Bool) (f : File) → P f → P (change_if c b f)
    pick true f p = k f p
    pick false f p = p

    go : (b : Bool) × (file_of (set_file i c fs) j ≡ altered (change_if c b) (file_of fs j)) → (f : File) → file_of (set_file i c fs) j ≡ some f → P f
    go r = altered_each P (change_if c r.0) (file_of fs j) (file_of (set_file i c fs) j) r.1 (λ f e. pick r.0 f (h j f e))

-- no file has a number from the new one on
new_none : (fs : Files) (n : ℕ) → new_id fs ≤ n → file_of fs n ≡ none
unfolding new_id file_of
new_none [] n h = refl
new_none (f ∷ fs) n h =
    rw (ne_eqb f.0 n (λ e. omega (arith, le-max_left (suc f.0) (new_id fs))))
    (new_none fs n (omega (arith, le-max_right (suc f.0) (new_id fs))))

-- nor the new one
pub new-free : (fs : Files) → file_of fs (new_id fs) ≡ none
new-free fs = new_none fs (new_id fs) (omega arith)

module _ (i : ℕ) (f : File) (fs : Files) (n : file_of fs i ≡ none) where
  -- a table with a file more
  pub more_covers : Covers fs ((i, f) ∷ fs)
  unfolding file_of
  more_covers j (g, e) = (g, rw (ne_eqb i j (λ k. clash (file_of fs j) g (subst (λ (x : ℕ). file_of fs x ≡ none) k n) e)) e)

  -- its rules
  pub more_ok : FileOk f → FilesOk fs → FilesOk ((i, f) ∷ fs)
  unfolding file_of
  more_ok m s = record { once = (n, s.once); each = λ j g. go j g (eqb i j) }
    where
      go : (j : ℕ) (g : File) (b : Bool) → or_else b f (file_of fs j) ≡ some g → FileOk g
      go j g true e = subst FileOk (some_inj e) m
      go j g false e = s.each j g e

  -- where the new number has its file
  pub more_has : HasFile ((i, f) ∷ fs) i
  unfolding file_of
  more_has = (f, rw (is_true (eqb i i) (eqb_refl i)))

-- ---- the open numbers

-- a seek leaves the number
seek-num : (b : Bool) (k : ℕ) (o : Open) → (move_by b k o).num ≡ o.num
seek-num true k o = refl
seek-num false k o = refl

-- what is not open stays so
pub close_none : (n : ℕ) (os : List Open) (m : ℕ) → open_of os m ≡ none → open_of (close_num n os) m ≡ none
unfolding close_num open_of
close_none n [] m h = refl
close_none n (o ∷ os) m h = go (eqb o.num n) (eqb o.num m) refl h (close_none n os m)
  where
    go : (a b : Bool) → eqb o.num m ≡ b → or_else b o (open_of os m) ≡ none → (open_of os m ≡ none → open_of (close_num n os) m ≡ none)
        → open_of (keep_if (not a) o (close_num n os)) m ≡ none
    go a true y e ih = clash (some o) o e refl
    go true false y e ih = ih e
    go false false y e ih = rw y (ih e)

close_some : (n : ℕ) (os : List Open) (m : ℕ) (u : Open) → Once new_number os → open_of (close_num n os) m ≡ some u → open_of os m ≡ some u
unfolding close_num open_of
close_some n [] m u a h = h
close_some n (o ∷ os) m u a h = go (eqb o.num n) (eqb o.num m) refl h (close_some n os m u a.1)
  where
    go : (x b : Bool) → eqb o.num m ≡ b → open_of (keep_if (not x) o (close_num n os)) m ≡ some u → (open_of (close_num n os) m ≡ some u → open_of os m ≡ some u)
        → or_else b o (open_of os m) ≡ some u
    go true true y e ih = clash (open_of os m) u (subst (λ (k : ℕ). open_of os k ≡ none) (eqb→eq o.num m (of_true y)) a.0) (ih e)
    go false true y e ih = rw y at e
    go true false y e ih = ih e
    go false false y e ih = ih (rw y at e)

pub close-once : (n : ℕ) (os : List Open) → Once new_number os → Once new_number (close_num n os)
unfolding close_num
close-once n [] h = tt
close-once n (o ∷ os) h = go (eqb o.num n) (close-once n os h.1)
  where
    go : (a : Bool) → Once new_number (close_num n os) → Once new_number (keep_if (not a) o (close_num n os))
    go true ih = ih
    go false ih = (close_none n os o.num h.0, ih)

-- an open number of a list with one moved
seek-open : (n k : ℕ) (os : List Open) (m : ℕ) → (b : Bool) × (open_of (seek_num n k os) m ≡ altered (move_by b k) (open_of os m))
unfolding seek_num open_of
seek-open n k [] m = (true, refl)
seek-open n k (o ∷ os) m =
    let g = go (eqb o.num m) (seek-open n k os m) in
    (g.0, ap (λ (x : ℕ). or_else (eqb x m) (move_by (eqb o.num n) k o) (open_of (seek_num n k os) m)) (seek-num (eqb o.num n) k o) ∙ g.1)
  where
    go : (t : Bool) → (b : Bool) × (open_of (seek_num n k os) m ≡ altered (move_by b k) (open_of os m))
        → (b : Bool) × (or_else t (move_by (eqb o.num n) k o) (open_of (seek_num n k os) m) ≡ altered (move_by b k) (or_else t o (open_of os m)))
    go true r = (eqb o.num n, refl)
    go false r = r

pub seek-once : (n k : ℕ) (os : List Open) → Once new_number os → Once new_number (seek_num n k os)
unfolding seek_num
seek-once n k [] h = tt
seek-once n k (o ∷ os) h =
    let s = seek-open n k os o.num in
    (rw (seek-num (eqb o.num n) k o) (s.1 ∙ ap (altered (move_by s.0 k)) h.0), seek-once n k os h.1)

module _ (fs : Files) where
  -- a number more
  pub opens_more : (os : List Open) (o : Open) → open_of os o.num ≡ none → OpenOk fs o.num o → OpensOk fs os → OpensOk fs (o ∷ os)
  unfolding open_of
  opens_more os o n k s = record { once = (n, s.once); each = λ m u. go m u (eqb o.num m) refl }
    where
      go : (m : ℕ) (u : Open) (b : Bool) → eqb o.num m ≡ b → or_else b o (open_of os m) ≡ some u → OpenOk fs m u
      go m u true y e = subst (λ (x : ℕ). OpenOk fs x u) (eqb→eq o.num m (of_true y)) (subst (OpenOk fs o.num) (some_inj e) k)
      go m u false y e = s.each m u e

  -- a number less
  pub opens-less : (n : ℕ) (os : List Open) → OpensOk fs os → OpensOk fs (close_num n os)
  opens-less n os s = record { once = close-once n os s.once; each = λ m u h. s.each m u (close_some n os m u s.once h) }

  -- a number at another position
  pub opens-moved : (n k : ℕ) (os : List Open) → Unsigned64 k → OpensOk fs os → OpensOk fs (seek_num n k os)
  opens-moved n k os l s = record { once = seek-once n k os s.once; each = λ m. go m (seek-open n k os m) }
    where
      pick : (b : Bool) (m : ℕ) (o : Open) → OpenOk fs m o → OpenOk fs m (move_by b k o)
      pick true m o h = record { small = h.small; place = l; path = h.path; stands = h.stands }
      pick false m o h = h

      go : (m : ℕ) → (b : Bool) × (open_of (seek_num n k os) m ≡ altered (move_by b k) (open_of os m)) → (o : Open) → open_of (seek_num n k os) m ≡ some o → OpenOk fs m o
      go m r = altered_each (OpenOk fs m) (move_by r.0 k) (open_of os m) (open_of (seek_num n k os) m) r.1 (λ o e. pick r.0 m o (s.each m o e))
