-- A path read from its end, as the code reads it, so that a `..` is met before the name that it drops. Contracts of inner
-- functions cite this page; `norm-sifted` and `raw-sifted` of proofs/Reading.antt show what it has to do with Path.antt.
-- Assumes nothing.
use Rattle.std.specs.Prelude.{Bool, true, false, ℕ, zero, suc, ◌-◌, take, drop}
use mathlib.Core.List.{List, [], ◌∷◌, drop_last}
use Rattle.text.specs.Utf8.{Bytes}
use Rattle.path.specs.Path.{Name, pieces, vanishes, is_up}
use Rattle.path.specs.declared.pieces.Piece.{Piece}
use Rattle.path.specs.declared.pieces.Piece.TheVariants as kind

-- the kind of a piece, by what the tests below say of it
abbrev pub kind_by : Bool → Bool → Bool → Piece
kind_by strike true up = kind.Vanishes
kind_by true false true = kind.Drops
kind_by false false true = kind.Name
kind_by strike false false = kind.Name

-- it vanishes, or it is a `..` that drops a name, or a name. `strike`: whether `..` drops a name or is one
unfoldable pub kind_of : Bool → Name → Piece
kind_of strike n = kind_by strike (vanishes n) (is_up n)

-- the names that stay, and how many names before them are dropped
pub record Sifted : Type 0 where
  pub skip : ℕ
  pub kept : List Name

-- how many are struck, and what is kept
abbrev pub mk : ℕ → List Name → Sifted
mk k ns = record { skip = k; kept = ns }

-- a name is struck while one is to be struck, else kept
abbrev pub keep_one : ℕ → Name → List Name → Sifted
keep_one zero n ns = mk 0 (n ∷ ns)
keep_one (suc k) n ns = mk k ns

-- a piece of the kind in front of what was read
abbrev pub sift_one : Piece → Name → Sifted → Sifted
sift_one kind.Vanishes n z = z
sift_one kind.Drops n z = mk (suc z.skip) z.kept
sift_one kind.Name n z = keep_one z.skip n z.kept

-- a path read from its end, piece by piece
unfoldable pub sift : Bool → List Name → Sifted → Sifted
sift strike [] z = z
sift strike (n ∷ ns) z = sift_one (kind_of strike n) n (sift strike ns z)

-- what is left of a text, where what stands behind it drops k names
unfoldable pub sifted : Bool → ℕ → Bytes → Sifted
sifted strike k s = sift strike (pieces s) (mk k [])

-- the pieces of the first e bytes, at suc e; none at 0
unfoldable pub front : ℕ → Bytes → List Name
front zero s = []
front (suc e) s = pieces (take e s)

-- the bytes from index a up to, not including, index e
abbrev pub part : ℕ → ℕ → Bytes → Bytes
part a e s = take (e - a) (drop a s)

-- the last k names dropped
unfoldable pub drop_n : ℕ → List Name → List Name
drop_n zero ns = ns
drop_n (suc k) ns = drop_n k (drop_last ns)
