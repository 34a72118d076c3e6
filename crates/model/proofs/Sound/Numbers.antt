-- The operations by file number, set umask, and what a removal does: their edits are allowed, since the numbers given fit and
-- the positions stay within 64 bits.
-- Assumes nothing.
use mathlib.Core.Bool.{◌&&◌}
use mathlib.Core.List.{[], ◌∷◌, ◌++◌}
use mathlib.Core.Option.{Option, none, some}
use mathlib.Core.Path.{◌≡◌, refl, subst}
use Prim.Native.Nat.{ℕ, zero, suc, ◌+◌, ◌-◌, ◌≤◌, ◌<◌, ◌^◌}
use native.Mathlib.Nat.{mod-lt, min-le_right, lt_of_le_of_lt, sub-le}
use native.Mathlib.Omega.{arith}
use lib.Dec.{T, leb, ltb, lit<, ltb→lt}
use lib.ListN.{length, take, replicate, length-take, length-drop}
use Rattle.text.specs.Utf8.{Bytes}
use Rattle.path.proofs.Laws.{and_left, and_right, and_both}
use Rattle.model.specs.Tree.{Path, Time, Open, file_of, open_of, resize, chmod, touch_some}
use Rattle.model.specs.Prog.{World, Kind, Position, bare?, open?, held?, on_some, answer, remove, close, seek, change_held, umask, ◌>>=◌, ◌>>◌}
use Rattle.model.specs.Lookup.{text_or}
use Rattle.model.specs.Operations.{umask_to, a_file_out, a_dir_out, a_tree_out, position_or, close_on, read_part, read_on, sum_above, from_end, seek_from, seek_on, resized, set_length_on, set_mode_on, set_times_on, metadata_on}
use Rattle.model.specs.Rules.{bytes_ok}
use Rattle.model.specs.Passable.{Unsigned32, Unsigned64}
use Rattle.model.proofs.Entries.{clash, some_inj}
use Rattle.model.proofs.Sound.Worlds.{Sound, GivenOk}
use Rattle.model.proofs.Sound.Parts.{Fine, only_file-quiet, only_dir-quiet, need-quiet}
use Rattle.model.proofs.Sound.Operations.{Small, bytes-long, file-bytes, metadata-fine}
use Rattle.model.proofs.Sound.Meets.{gives, asked, edited, Says, then, asks-says, need-says, must-says}

-- ---- umask, removals

-- the new umask fits
pub set_umask-fine : (w : World) (new : ℕ) → Unsigned32 new → Fine (umask_to new) w
unfolding umask_to ◌>>◌ ◌>>=◌
set_umask-fine w new k = asked (edited {e = umask new} k (gives tt))

module _ (w : World) (p : Path) where
  -- a removal asks nothing of the tree
  pub a_file_out-fine : (o : Option Kind) → Fine (a_file_out p o) w
  unfolding a_file_out ◌>>◌
  a_file_out-fine o = then (must-says o w) λ k _. then (only_file-quiet w k) λ _ _. edited {e = remove p} tt (gives tt)

  -- nor does one of a directory
  pub a_dir_out-fine : (o : Option Kind) → Fine (a_dir_out p o) w
  unfolding a_dir_out ◌>>◌
  a_dir_out-fine o =
      then (must-says o w) λ k _.
      then (only_dir-quiet w k) λ _ _.
      then (asks-says (bare? p) w) λ n _.
      then (need-quiet w n 12) λ _ _.
      edited {e = remove p} tt (gives tt)

  -- nor one of a tree
  pub a_tree_out-fine : (o : Option Kind) → Fine (a_tree_out p o) w
  unfolding a_tree_out ◌>>◌
  a_tree_out-fine none = gives tt
  a_tree_out-fine (some k) = then (only_dir-quiet w k) λ _ _. edited {e = remove p} tt (gives tt)

-- ---- bytes cut or filled up with zeros

pub prefix-bytes : (k : ℕ) (d : Bytes) → T (bytes_ok d) → T (bytes_ok (take k d))
unfolding bytes_ok
prefix-bytes zero d h = tt
prefix-bytes (suc k) [] h = tt
prefix-bytes (suc k) (b ∷ d) h = and_both (ltb b 256) (bytes_ok (take k d)) (and_left (ltb b 256) (bytes_ok d) h) (prefix-bytes k d (and_right (ltb b 256) (bytes_ok d) h))

pub joined_bytes : (d e : Bytes) → T (bytes_ok d) → T (bytes_ok e) → T (bytes_ok (d ++ e))
unfolding bytes_ok
joined_bytes [] e h k = k
joined_bytes (b ∷ d) e h k = and_both (ltb b 256) (bytes_ok (d ++ e)) (and_left (ltb b 256) (bytes_ok d) h) (joined_bytes d e (and_right (ltb b 256) (bytes_ok d) h) k)

pub zero-bytes : (k : ℕ) → T (bytes_ok (replicate k 0))
unfolding bytes_ok
zero-bytes zero = tt
zero-bytes (suc k) = zero-bytes k

resized-bytes : (k : ℕ) (d : Bytes) → T (bytes_ok d) → T (bytes_ok (resized k d))
unfolding resized
resized-bytes k d h = joined_bytes (take k d) (replicate (k - length d) 0) (prefix-bytes k d h) (zero-bytes (k - length d))

-- ---- by file number

-- what is read from a position ends within the file, or where it began
read_to : (at size read most : ℕ) → at < most → size < most → read ≤ size - at → at + read < most
read_to at size read most a b c = omega arith

-- a seek from the end stays within 63 bits
from_end-says : (w : World) (size offset : ℕ) → Says Unsigned64 (from_end size offset) w
unfolding from_end ◌>>◌
from_end-says w size offset =
    then (need-says (leb (2 ^ 63) (sum_above size offset) && ltb (sum_above size offset) (2 ^ 64)) 13 w) λ _ k.
    gives (refl, lt_of_le_of_lt (sub-le (sum_above size offset) (2 ^ 63)) (ltb→lt (sum_above size offset) (2 ^ 64) (and_right (leb (2 ^ 63) (sum_above size offset)) (ltb (sum_above size offset) (2 ^ 64)) k)))

seek_from-says : (w : World) (origin offset at size : ℕ) → Unsigned64 offset → Says Unsigned64 (seek_from origin offset at size) w
unfolding seek_from
seek_from-says w zero offset at size k = gives (refl, k)
seek_from-says w (suc zero) offset at size k = gives (refl, mod-lt (at + offset) {m = 2 ^ 64} (lit< tt))
seek_from-says w (suc (suc n)) offset at size k = from_end-says w size offset

module _ (w : World) (n : ℕ) where
  -- a close asks nothing
  pub close_number-fine : Fine (close_on n) w
  unfolding close_on ◌>>◌ ◌>>=◌
  close_number-fine = edited {e = close n} tt (gives tt)

  -- a seek ends within 64 bits
  pub seek_number-fine : (origin offset : ℕ) → Unsigned64 offset → Fine (seek_on n origin offset) w
  unfolding seek_on ◌>>◌ ◌>>=◌
  seek_number-fine origin offset k =
      then (asks-says (open? n) w) λ o _.
      then (asks-says (held? n) w) λ d _.
      then (seek_from-says w origin offset (position_or o).pos (length (text_or d)) k) λ a l.
      edited {e = seek n a} l (gives tt)

  -- the mode fits
  pub set_mode-fine : (mode : ℕ) → Unsigned32 mode → Fine (set_mode_on n mode) w
  unfolding set_mode_on ◌>>◌ ◌>>=◌
  set_mode-fine mode k = edited {e = change_held n (chmod mode)} k (gives tt)

  -- each time that is given fits
  pub set_times_number-fine : (a m : Option Time) → GivenOk a → GivenOk m → Fine (set_times_on n a m) w
  unfolding set_times_on ◌>>◌ ◌>>=◌
  set_times_number-fine a m k l = edited {e = change_held n (touch_some a m)} (k, l) (gives tt)

  module _ (s : Sound w) where
    -- the position of an open number fits 64 bits
    open-long : (o : Position) → answer (open? n) w ≡ some o → Unsigned64 o.pos
    unfolding answer
    open-long o e = go (open_of w.opens n) refl e
      where
        go : (q : Option Open) → open_of w.opens n ≡ q → on_some q (λ o. some (record { pos = o.pos; kept = o.kept })) ≡ some o → Unsigned64 o.pos
        go none y e = clash none o refl e
        go (some u) y e = subst (λ (x : Position). Unsigned64 x.pos) (some_inj e) (s.numbers.each n u y).place

    -- its file's bytes are bytes
    held_bytes : (d : Option Bytes) → answer (held? n) w ≡ d → T (bytes_ok (text_or d))
    unfolding answer bytes_ok
    held_bytes d e = subst (λ (x : Option Bytes). T (bytes_ok (text_or x))) e (go (open_of w.opens n))
      where
        go : (q : Option Open) → T (bytes_ok (text_or (on_some q (λ o. on_some (file_of w.files o.id) (λ f. some f.bytes)))))
        go none = tt
        go (some u) = file-bytes w.files s.table u.id

    -- and so does the length of its file
    held-long : Small w.files → Unsigned64 (length (text_or (answer (held? n) w)))
    unfolding answer
    held-long m = go (open_of w.opens n)
      where
        go : (q : Option Open) → Unsigned64 (length (text_or (on_some q (λ o. on_some (file_of w.files o.id) (λ f. some f.bytes)))))
        go none = lit< tt
        go (some u) = bytes-long w.files m u.id

    -- a new length leaves bytes
    pub set_length-fine : (k : ℕ) → Fine (set_length_on n k) w
    unfolding set_length_on ◌>>◌ ◌>>=◌
    set_length-fine k = then (asks-says (held? n) w) λ d e. edited {e = change_held n (resize (resized k (text_or d)))} (resized-bytes k (text_or d) (held_bytes d e)) (gives tt)

    -- a read ends within 64 bits
    pub read_number-fine : Small w.files → (lent : ℕ) → Fine (read_on n lent) w
    unfolding read_on read_part ◌>>◌ ◌>>=◌
    read_number-fine m lent =
        then (asks-says (open? n) w) λ q e.
        then (asks-says (held? n) w) λ d y.
        edited {e = seek n ((position_or q).pos + length (read_part (position_or q) (text_or d) lent))}
        (read_to (position_or q).pos (length (text_or d)) (length (read_part (position_or q) (text_or d) lent)) (2 ^ 64) (at q e)
        (subst (λ (x : Option Bytes). Unsigned64 (length (text_or x))) y (held-long m))
        (simp (length-take, length-drop) (min-le_right lent (length (text_or d) - (position_or q).pos))))
        (gives tt)
      where
        at : (q : Option Position) → answer (open? n) w ≡ q → Unsigned64 (position_or q).pos
        at none e = lit< tt
        at (some o) e = open-long o e

    -- metadata by number edits nothing
    pub metadata_number-fine : (b lent : ℕ) → Fine (metadata_on b n lent) w
    unfolding metadata_on
    metadata_number-fine b lent = then (asks-says (open? n) w) λ o _. metadata-fine w s b lent (position_or o).kept
