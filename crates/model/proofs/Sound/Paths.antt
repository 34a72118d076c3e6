-- The paths that a program forms are as a state keeps them: their names are parts of valid texts cut at slashes, or names of a
-- path that was so before, and refusal 6 has measured them.
-- Assumes nothing.
use mathlib.Core.Bool.{◌&&◌}
use mathlib.Core.List.{[], ◌∷◌, ◌++◌, drop_last, append_assoc}
use mathlib.Core.Path.{◌≡◌, refl, ap, sym, ◌∙◌, subst}
use native.Mathlib.Omega.{arith}
use lib.Dec.{T, leb, leb→le, le→leb}
use lib.ListN.{length, length-append}
use Rattle.text.specs.Utf8.{Bytes, text}
use Rattle.text.proofs.Laws.{text_none}
use Rattle.path.specs.Path.{Name, proper, pieces, absolute, followed, body, path_fits, lengths_ok, all_short, last_name}
use Rattle.path.proofs.Every.{Every}
use Rattle.path.proofs.Laws.{and_left, and_right, and_both, all_every, every_all, every_map, absolute-proper, absolute-every, Short, lengths_short, pieces-text}
use Rattle.model.specs.Tree.{Path}
use Rattle.model.specs.Rules.{name_ok, names_ok, path_ok, target_ok}
use Rattle.model.proofs.Sound.Entries.{names_left, names_right, names_both}

-- ---- names

-- the parts of a name's rule
pub record NameFits (n : Name) : Type 0 where
  pub proper : T (proper n)
  pub short : Short n
  pub text : T (text n)

pub name-parts : (n : Name) → T (name_ok n) → NameFits n
unfolding name_ok
name-parts n h =
    let r = and_right (proper n) (leb (length n) 255 && text n) h in
    record {
      proper = and_left (proper n) (leb (length n) 255 && text n) h;
      short = leb→le (length n) 255 (and_left (leb (length n) 255) (text n) r);
      text = and_right (leb (length n) 255) (text n) r;
    }

name_whole : (n : Name) → T (proper n) → Short n → T (text n) → T (name_ok n)
unfolding name_ok
name_whole n p s t = and_both (proper n) (leb (length n) 255 && text n) p (and_both (leb (length n) 255) (text n) (le→leb (length n) 255 s) t)

pub names-parts : (p : Path) → T (names_ok p) → Every NameFits p
unfolding names_ok
names-parts [] h = tt
names-parts (n ∷ p) h = (name-parts n (and_left (name_ok n) (names_ok p) h), names-parts p (and_right (name_ok n) (names_ok p) h))

names_whole : (p : Path) → Every (λ n. T (proper n)) p → Every Short p → Every (λ n. T (text n)) p → T (names_ok p)
unfolding names_ok
names_whole [] a b c = tt
names_whole (n ∷ p) a b c = and_both (name_ok n) (names_ok p) (name_whole n a.0 b.0 c.0) (names_whole p a.1 b.1 c.1)

-- a screened text behind a directory of good names
pub absolute-names : (dir : Path) (s : Bytes) → T (names_ok dir) → T (text s) → T (lengths_ok s) → T (names_ok (absolute dir s))
absolute-names dir s d t l =
    let e = names-parts dir d in
    names_whole (absolute dir s)
    (all_every (absolute dir s) (absolute-proper dir s (every_all dir (every_map (λ n k. k.proper) dir e))))
    (absolute-every Short dir s (every_map (λ n k. k.short) dir e) (lengths_short s l))
    (absolute-every (λ n. T (text n)) dir s (every_map (λ n k. k.text) dir e) (pieces-text s t))

-- a target is valid text
pub target-text : (s : Bytes) → T (target_ok s) → T (text s)
unfolding target_ok
target-text s h = and_left (text s) (lengths_ok s) h

-- its lengths
pub target-lengths : (s : Bytes) → T (target_ok s) → T (lengths_ok s)
unfolding target_ok
target-lengths s h = and_right (text s) (lengths_ok s) h

-- and both
pub target_both : (s : Bytes) → T (text s) → T (lengths_ok s) → T (target_ok s)
unfolding target_ok
target_both s t l = and_both (text s) (lengths_ok s) t l

-- no text is one
pub target_none : T (target_ok [])
unfolding lengths_ok all_short pieces
target_none = target_both [] text_none tt

-- ---- whole paths

-- the names of a path that a state may keep
pub path_names : (p : Path) → T (path_ok p) → T (names_ok p)
unfolding path_ok
path_names p h = and_left (names_ok p) (path_fits p) h

pub path-fits : (p : Path) → T (path_ok p) → T (path_fits p)
unfolding path_ok
path-fits p h = and_right (names_ok p) (path_fits p) h

-- both give the whole
pub path_both : (p : Path) → T (names_ok p) → T (path_fits p) → T (path_ok p)
unfolding path_ok
path_both p n f = and_both (names_ok p) (path_fits p) n f

-- a path without its last name, and that name
pub whole : (x : Name) (p : Path) → drop_last (x ∷ p) ++ (last_name (x ∷ p) ∷ []) ≡ x ∷ p
unfolding last_name
whole x [] = refl
whole x (y ∷ p) = ap (◌∷◌ x) (whole y p)

-- the text of a path in parts
body-append : (p q : Path) → body (p ++ q) ≡ body p ++ body q
unfolding body
body-append [] q = refl
body-append (n ∷ p) q = ap (◌∷◌ 47) (ap (◌++◌ n) (body-append p q) ∙ sym (append_assoc n (body p) (body q)))

-- a path that begins one that fits fits
pub fits_left : (p q : Path) → T (path_fits (p ++ q)) → T (path_fits p)
unfolding path_fits
fits_left p q h =
    le→leb (length (body p)) 1024 (omega (arith, leb→le (length (body (p ++ q))) 1024 h, ap length (body-append p q), length-append (body p) (body q)))

-- the names of a path without its last name
names-before : (p : Path) → T (names_ok p) → T (names_ok (drop_last p))
names-before [] h = h
names-before (x ∷ p) h = names_left (drop_last (x ∷ p)) (last_name (x ∷ p) ∷ []) (subst (λ (q : Path). T (names_ok q)) (sym (whole x p)) h)

-- such a path without its last name
pub path-before : (p : Path) → T (path_ok p) → T (path_ok (drop_last p))
path-before [] h = h
path-before (x ∷ p) h =
    path_both (drop_last (x ∷ p)) (names-before (x ∷ p) (path_names (x ∷ p) h))
    (fits_left (drop_last (x ∷ p)) (last_name (x ∷ p) ∷ []) (subst (λ (q : Path). T (path_fits q)) (sym (whole x p)) (path-fits (x ∷ p) h)))

-- the last name by itself
pub name_last : (x : Name) (p : Path) → T (names_ok (x ∷ p)) → T (names_ok (last_name (x ∷ p) ∷ []))
name_last x p h = names_right (drop_last (x ∷ p)) (last_name (x ∷ p) ∷ []) (subst (λ (q : Path). T (names_ok q)) (sym (whole x p)) h)

-- the path behind a link
pub followed-names : (d : Path) (s : Bytes) (r : Path) → T (names_ok d) → T (target_ok s) → T (names_ok r) → T (names_ok (followed (drop_last d) s r))
unfolding followed
followed-names d s r n t k =
    names_both (absolute (drop_last d) s) r (absolute-names (drop_last d) s (names-before d n) (target-text s t) (target-lengths s t)) k
