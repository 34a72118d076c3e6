-- Paths (01, "normalize_path and to_absolute_path", and the parts of "Limits" and "Lookups" that speak of a path's text).
-- Assumes nothing.
use Rattle.std.specs.Prelude.{Bool, true, false, ◌&&◌, ◌||◌, cond, not, ℕ, eqb, leb, length}
use mathlib.Core.List.{List, [], ◌∷◌, ◌++◌, drop_last}
use Rattle.text.specs.Utf8.{Bytes}

-- a name is its bytes
abbrev pub Name : Type 0
Name = Bytes

-- two byte strings are equal
unfoldable pub same : Bytes → Bytes → Bool
same [] [] = true
same [] (b ∷ t) = false
same (a ∷ s) [] = false
same (a ∷ s) (b ∷ t) = eqb a b && same s t

-- a byte in front of the first piece, or a slash that ends it
abbrev pub cut : Bool → ℕ → List Name → List Name
cut true b ps = [] ∷ ps
cut false b [] = (b ∷ []) ∷ []
cut false b (p ∷ ps) = (b ∷ p) ∷ ps

-- what stands between the slashes of a text
unfoldable pub pieces : Bytes → List Name
pieces [] = [] ∷ []
pieces (b ∷ s) = cut (eqb b 47) b (pieces s)

-- `.`
abbrev pub dot : Name
dot = 46 ∷ []

-- `..`
abbrev pub dotdot : Name
dotdot = 46 ∷ 46 ∷ []

-- "Empty names and `.` vanish"
unfoldable pub vanishes : Name → Bool
vanishes n = same n [] || same n dot

-- `..`
unfoldable pub is_up : Name → Bool
is_up n = same n dotdot

-- the pieces that do not vanish
unfoldable pub keep : List Name → List Name
keep [] = []
keep (n ∷ ns) = cond (vanishes n) [] (n ∷ []) ++ keep ns

-- the names of a text, `..` among them
unfoldable pub names : Bytes → List Name
names s = keep (pieces s)

-- "`..` drops the name before it, at `/` it does nothing"
abbrev pub step : List Name → Name → List Name
step base n = cond (is_up n) (drop_last base) (base ++ (n ∷ []))

-- the names `ns` behind the directory `base`
unfoldable pub norm : List Name → List Name → List Name
norm base [] = base
norm base (n ∷ ns) = norm (step base n) ns

-- normalize_path
unfoldable pub normal : Bytes → List Name
normal s = norm [] (names s)

-- the text begins with `/`
unfoldable pub is_absolute : Bytes → Bool
is_absolute [] = false
is_absolute (b ∷ s) = eqb b 47

-- "A relative path is put after the current directory first", an absolute one after the root
unfoldable pub from : List Name → Bytes → List Name
from dir s = cond (is_absolute s) [] dir

-- to_absolute_path; also a link's target, "A relative target starts at the link's own directory"
unfoldable pub absolute : List Name → Bytes → List Name
absolute dir s = norm (from dir s) (names s)

-- "A link met before the last name gives its normalised target with the rest of the path behind it"; a last link has no rest
unfoldable pub followed : List Name → Bytes → List Name → List Name
followed dir target rest = absolute dir target ++ rest

-- the text of a path in the working buffers: a slash before each name, nothing for the root
unfoldable pub body : List Name → Bytes
body [] = []
body (n ∷ ns) = 47 ∷ (n ++ body ns)

-- the text of a path as it is answered: the root is `/`
unfoldable pub render : List Name → Bytes
render [] = 47 ∷ []
render (n ∷ ns) = body (n ∷ ns)

-- "The last name of the result"; "`/` has none"
unfoldable pub last_name : List Name → Name
last_name [] = []
last_name (n ∷ []) = n
last_name (n ∷ m ∷ ns) = last_name (m ∷ ns)

-- each name at most 255 bytes
unfoldable pub all_short : List Name → Bool
all_short [] = true
all_short (n ∷ ns) = leb (length n) 255 && all_short ns

-- refusal 3: "Path and target 0 to 1,024 bytes, name at most 255", also a name that `..` drops
unfoldable pub lengths_ok : Bytes → Bool
lengths_ok s = leb (length s) 1024 && all_short (pieces s)

-- refusal 6: a path of at most 1,024 bytes after normalising
unfoldable pub path_fits : List Name → Bool
path_fits ns = leb (length (body ns)) 1024

-- no byte is a slash
unfoldable pub no_slash : Name → Bool
no_slash [] = true
no_slash (b ∷ n) = not (eqb b 47) && no_slash n

-- a name that can stand in a directory: "none is empty, `.`, `..` or holds `/`"
unfoldable pub proper : Name → Bool
proper n = not (vanishes n) && (not (is_up n) && no_slash n)

-- each name of a path
unfoldable pub all_proper : List Name → Bool
all_proper [] = true
all_proper (n ∷ ns) = proper n && all_proper ns
