-- Which paths are allowed, in parts: names that can stand in a directory, of at most 255 bytes of valid text, in a text of at most
-- 1,024. What a screened text gives is allowed, and what is formed in a buffer is where it fits, and else refused.
-- Assumes nothing.
use mathlib.Core.Bool.{Bool, true, false, cond, not}
use mathlib.Core.List.{List, [], ◌∷◌, ◌++◌}
use mathlib.Core.Path.{◌≡◌, refl, sym, ap, ◌∙◌, subst}
use Prim.Native.Nat.{ℕ, ◌≤◌}
use lib.Dec.{T, leb}
use lib.ListN.{length, take, drop}
use lib.Seq.{take-append_seam, drop-append_seam}
use borrow.Author.Tests.{leb-true}
use Rattle.text.specs.Utf8.{Bytes, text}
use Rattle.path.specs.Path.{Name, is_up, is_absolute, pieces, names, norm, normal, from, absolute, followed, body, lengths_ok, path_fits, proper}
use Rattle.path.specs.Answer.{Formed, too_long, pick, formed, written, Forms}
use Rattle.std.specs.Prelude.{Ok, Err}
use Rattle.path.proofs.Every.{Every, every_append, every-keep, every-norm}
use Rattle.path.proofs.Laws.{Shown, Short, every_map, every_all, settled, proper-shown, shown-proper, names-shown, names-body, norm-proper, lengths_short, pieces-text}

-- ---- names

-- a name of a path that is kept
pub record Allowed (n : Name) : Type 0 where
  pub proper : T (proper n)
  pub short : Short n
  pub text : T (text n)

-- a name of a text as it is given: it may be `..`
pub record Given (n : Name) : Type 0 where
  pub shown : Shown n
  pub short : Short n
  pub text : T (text n)

pub allowed-given : (n : Name) → Allowed n → Given n
allowed-given n h = record { shown = proper-shown n h.proper; short = h.short; text = h.text }

pub given-allowed : (n : Name) → Given n → T (not (is_up n)) → Allowed n
given-allowed n h u = record { proper = shown-proper n h.shown u; short = h.short; text = h.text }

-- the three parts of every name, from all and back
pub allowed_whole : (ns : List Name) → Every (λ n. T (proper n)) ns → Every Short ns → Every (λ n. T (text n)) ns → Every Allowed ns
allowed_whole [] a b c = tt
allowed_whole (n ∷ ns) a b c = (record { proper = a.0; short = b.0; text = c.0 }, allowed_whole ns a.1 b.1 c.1)

given_whole : (ns : List Name) → Every Shown ns → Every Short ns → Every (λ n. T (text n)) ns → Every Given ns
given_whole [] a b c = tt
given_whole (n ∷ ns) a b c = (record { shown = a.0; short = b.0; text = c.0 }, given_whole ns a.1 b.1 c.1)

-- ---- paths

-- what holds of the names of a text and of a directory's names holds of the path
pub absolute_each : (P : Name → Type 0) (dir : List Name) (s : Bytes) → Every P dir → Every P (names s) → Every P (absolute dir s)
unfolding absolute from
absolute_each P dir s d h = every-norm P (cond (is_absolute s) [] dir) (names s) (go (is_absolute s)) h
  where
    go : (t : Bool) → Every P (cond t [] dir)
    go true = tt
    go false = d

pub absolute-shown : (dir : List Name) (s : Bytes) → Every Shown dir → Every Shown (absolute dir s)
absolute-shown dir s d = absolute_each Shown dir s d (names-shown s)

-- the names of a screened text, `..` among them
pub names-given : (s : Bytes) → T (text s) → T (lengths_ok s) → Every Given (names s)
unfolding names
names-given s t l = given_whole (names s) (names-shown s) (every-keep Short (pieces s) (lengths_short s l)) (every-keep (λ n. T (text n)) (pieces s) (pieces-text s t))

-- a screened text behind a directory whose names are as given
pub absolute-given : (dir : List Name) (s : Bytes) → Every Given dir → T (text s) → T (lengths_ok s) → Every Given (absolute dir s)
absolute-given dir s d t l = absolute_each Given dir s d (names-given s t l)

-- names as given behind allowed ones: `..` drops a name and none is left
pub norm-allowed : (base ns : List Name) → Every Allowed base → Every Given ns → Every Allowed (norm base ns)
norm-allowed base ns b h =
    allowed_whole (norm base ns)
    (norm-proper base ns (every_map (λ n w. w.proper) base b) (every_map (λ n w. w.shown) ns h))
    (every-norm Short base ns (every_map (λ n w. w.short) base b) (every_map (λ n w. w.short) ns h))
    (every-norm (λ n. T (text n)) base ns (every_map (λ n w. w.text) base b) (every_map (λ n w. w.text) ns h))

-- a screened text behind a directory of allowed names
pub absolute-allowed : (dir : List Name) (s : Bytes) → Every Allowed dir → T (text s) → T (lengths_ok s) → Every Allowed (absolute dir s)
unfolding absolute from
absolute-allowed dir s d t l = norm-allowed (cond (is_absolute s) [] dir) (names s) (go (is_absolute s)) (names-given s t l)
  where
    go : (t : Bool) → Every Allowed (cond t [] dir)
    go true = tt
    go false = d

-- the path behind a link
pub followed-allowed : (dir : List Name) (target : Bytes) (rest : List Name) → Every Allowed dir → T (text target) → T (lengths_ok target) → Every Allowed rest
    → Every Allowed (followed dir target rest)
unfolding followed
followed-allowed dir target rest d t l r = every_append Allowed (absolute dir target) rest (absolute-allowed dir target d t l) r

-- a path that is kept is normalised
pub kept-normal : (s : Bytes) → body (names s) ≡ s → Every Allowed (names s) → normal s ≡ names s
kept-normal s b h = ap normal (sym b) ∙ settled (names s) (every_all (names s) (every_map (λ n w. w.proper) (names s) h))

-- ---- what is formed

-- the path q stands in front in the buffer, n bytes of it, and fits
pub record Stands (q : List Name) (before after : Bytes) (n : ℕ) : Type 0 where
  pub fits : T (path_fits q)
  pub size : n ≡ length (body q)
  pub few : n ≤ 1024
  pub text : take n after ≡ body q
  pub path : names (take n after) ≡ q
  pub behind : drop n after ≡ drop n before

-- which it does, or it does not fit and nothing is changed
abbrev pub FormedIs : List Name → Bytes → Bytes → Formed → Type 0
FormedIs q before after (Ok n) = Stands q before after n
FormedIs q before after (Err e) = (path_fits q ≡ false) × (after ≡ before)

pub formed_is : (q : List Name) (before after : Bytes) (r : Formed) → Every Shown q → Forms (body q) before after r → FormedIs q before after r
unfolding path_fits formed written
formed_is q before after r all f = go (leb (length (body q)) 1024) refl f.answer f.buffer
  where
    go : (b : Bool) → leb (length (body q)) 1024 ≡ b → r ≡ pick (leb (length (body q)) 1024) (Ok (length (body q))) too_long
        → after ≡ cond (leb (length (body q)) 1024) (body q ++ drop (length (body q)) before) before → FormedIs q before after r
    go true z x y =
        let x2 : r ≡ Ok (length (body q)) = x ∙ ap (λ (b : Bool). pick b (Ok (length (body q))) too_long) z in
        let y2 : after ≡ body q ++ drop (length (body q)) before = y ∙ ap (λ (b : Bool). cond b (body q ++ drop (length (body q)) before) before) z in
        let k : take (length (body q)) after ≡ body q = ap (take (length (body q))) y2 ∙ take-append_seam (body q) (drop (length (body q)) before) in
        subst (FormedIs q before after) (sym x2)
        (record {
          fits = subst T (sym z) tt;
          size = refl;
          few = leb-true (length (body q)) 1024 z;
          text = k;
          path = ap names k ∙ names-body q all;
          behind = ap (drop (length (body q))) y2 ∙ drop-append_seam (body q) (drop (length (body q)) before);
        })
    go false z x y =
        subst (FormedIs q before after) (sym (x ∙ ap (λ (b : Bool). pick b (Ok (length (body q))) too_long) z))
        (z, y ∙ ap (λ (b : Bool). cond b (body q ++ drop (length (body q)) before) before) z)

-- what stands there is allowed where the path's names are
pub stands-allowed : (q : List Name) (before after : Bytes) (n : ℕ) → Every Allowed q → Stands q before after n
    → Every Allowed (names (take n after)) × T (path_fits (names (take n after)))
stands-allowed q before after n a s = (subst (Every Allowed) (sym s.path) a, subst (λ (p : List Name). T (path_fits p)) (sym s.path) s.fits)
