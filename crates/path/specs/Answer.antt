-- What the functions that form a path answer, and what they leave in the lent buffer.
-- Assumes nothing.
use Rattle.std.specs.Prelude.{Bool, true, false, cond, List, [], ◌∷◌, ◌++◌, ◌≡◌, ℕ, ◌+◌, ◌-◌, ◌≤◌, ◌<◌, leb, length, take, drop, get_or, IfSome, Option, Some, None, Result, Ok, Err}
use Rattle.text.specs.Utf8.{Bytes}
use Rattle.path.specs.Path.{Name, pieces, normal, absolute, last_name}
use Rattle.path.specs.Backward.{sift, sifted, mk, front, part}
use Rattle.path.specs.declared.answer.TooLong.{TooLong}
use Rattle.path.specs.declared.answer.Place.{Place}
use Rattle.path.specs.declared.answer.Place.TheVariants.{InPath, InCwd}

-- the length of a formed text, or refusal 6
abbrev pub Formed : Type 0
Formed = Result ℕ TooLong

-- refusal 6
abbrev pub too_long : Formed
too_long = Err (record {})

-- the first, or the second
abbrev pub pick : Bool → Formed → Formed → Formed
pick true a b = a
pick false a b = b

-- the length of the text t, or refusal 6
unfoldable pub formed : Bytes → Formed
formed t = pick (leb (length t) 1024) (Ok (length t)) too_long

-- the text t stands in front and nothing else is changed; a refusal changes nothing
unfoldable pub written : Bytes → Bytes → Bytes
written t before = cond (leb (length t) 1024) (t ++ drop (length t) before) before

-- the buffer with the text t in front of the index `end`
abbrev pub ends_at : ℕ → Bytes → Bytes → Bytes
ends_at end t before = take (end - length t) before ++ (t ++ drop end before)

-- the answer and the buffer, before and after, of a function that forms the text t
pub record Forms (t before after : Bytes) (r : Formed) : Type 0 where
  pub answer : r ≡ formed t
  pub buffer : after ≡ written t before

-- 01's number for each answer: 0, accepted, or 6
abbrev pub refusal_of : Formed → ℕ
refusal_of (Ok n) = 0
refusal_of (Err e) = 6

-- the last name of the path once absolute is that part of the path or of the current directory; None: it is the root
abbrev pub PlaceIs : Option Place → Bytes → Bytes → Type 0
PlaceIs (Some (InPath a e)) path cwd = (a ≤ e) × (e ≤ length path) × (last_name (absolute (normal cwd) path) ≡ part a e path)
PlaceIs (Some (InCwd a e)) path cwd = (a ≤ e) × (e ≤ length cwd) × (last_name (absolute (normal cwd) path) ≡ part a e cwd)
PlaceIs None path cwd = absolute (normal cwd) path ≡ []

-- the pieces are all kept, whether `..` is a name or drops one
abbrev pub AllNames : Bytes → Type 0
AllNames s = (strike : Bool) → sift strike (pieces s) (mk 0 []) ≡ mk 0 (pieces s)

-- the text is read like its first e bytes
abbrev pub EndIs : Bytes → ℕ → Type 0
EndIs s e = (e ≤ length s) × ((strike : Bool) → sifted strike 0 s ≡ sift strike (front (e + 1) s) (mk 0 []))

-- the pieces from the first place to the second are all kept, and nothing else is, where what stands behind the text drops k names
abbrev pub PlainIs : Option (ℕ × ℕ) → Bool → ℕ → Bytes → Type 0
PlainIs r strike k s = IfSome r (λ p. (p.0 ≤ p.1) × (p.1 ≤ length s) × (sifted strike k s ≡ mk 0 (pieces (part p.0 p.1 s))))

-- Ok: the last name kept stands between these two places. Err: none is kept, and j names in front of the text are dropped
abbrev pub LastIs : Result (ℕ × ℕ) ℕ → Bytes → ℕ → Type 0
LastIs (Ok p) s k = (p.0 ≤ p.1) × (p.1 ≤ length s) × (init : List Name) × ((sifted true k s).kept ≡ init ++ (part p.0 p.1 s ∷ []))
LastIs (Err j) s k = (sifted true k s ≡ mk j []) × (j ≤ k + length s + 1)

-- the piece that ends at e begins at a
pub record PieceIs (s : Bytes) (a e : ℕ) : Type 0 where
  pub fits : a ≤ e
  pub last : front (e + 1) s ≡ front a s ++ (part a e s ∷ [])
  pub one : pieces (part a e s) ≡ part a e s ∷ []
  pub slash : 0 < a → get_or s (a - 1) 0 ≡ 47

-- the piece that begins at a ends at e
pub record WholeIs (s : Bytes) (a e : ℕ) : Type 0 where
  pub piece : PieceIs s a e
  pub fits : e ≤ length s
  pub stop : e < length s → get_or s e 0 ≡ 47

-- no slash has a slash or a dot behind it
abbrev pub Clean : Bytes → Type 0
Clean s = (k : ℕ) → k + 1 < length s → get_or s k 0 ≡ 47 → (get_or s (k + 1) 0 ≡ 47 → ⊥) × (get_or s (k + 1) 0 ≡ 46 → ⊥)

-- a text that is read from its end: the pieces of its first rest - 1 bytes are left, and skip names are to drop. Some: the next name
-- that is kept stands between these two places, and then so much is left. None: no name is kept
abbrev pub NextIs : (strike : Bool) (s : Bytes) (rest skip : ℕ) → Option (ℕ × ℕ) → (rest' skip' : ℕ) → Type 0
NextIs strike s rest skip (Some p) rest' skip' =
    (p.0 ≡ rest') × (p.0 ≤ p.1) × (p.1 < rest) × (skip' + rest' ≤ skip + rest)
    × ((ns : List Name) → sift strike (front rest s) (mk skip ns) ≡ sift strike (front rest' s) (mk skip' (part p.0 p.1 s ∷ ns)))
NextIs strike s rest skip None rest' skip' =
    (rest' ≡ 0) × (skip' ≤ skip + rest) × ((ns : List Name) → sift strike (front rest s) (mk skip ns) ≡ mk skip' ns)
