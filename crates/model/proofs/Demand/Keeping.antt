-- What a call leaves of two worlds: the hand dropped, and the files kept that have a name or a number.
-- Assumes nothing.
use mathlib.Core.Bool.{Bool, true, false, ◌||◌, false≢true}
use mathlib.Core.List.{List, [], ◌∷◌}
use mathlib.Core.Option.{Option, none, some}
use mathlib.Core.Path.{◌≡◌, refl, sym, ap, ◌∙◌, subst}
use Prim.Native.Nat.{ℕ}
use native.Mathlib.Decide.{ℕ_discrete}
use lib.Dec.{T, eqb}
use borrow.Author.Tests.{eq-eqb, ne_eqb}
use Rattle.model.specs.Tree.{Path, File, file, Entries, Files, Open, or_else, keep_if, look, file_of}
use Rattle.model.specs.Prog.{World}
use Rattle.model.specs.Calls.{is_named, is_held, kept_files}
use Rattle.model.specs.Rules.{Once, new_file}
use Rattle.model.proofs.Demand.Contents.{or_left, or_right, at_named, by_held}
use Rattle.model.proofs.Entries.{clash, is_true}
use Rattle.model.proofs.Demand.Over.{Paired, at_place, by_number, Over, NoNewFile, over_moved}
use Rattle.model.proofs.Demand.Places.{Place, in_tree, in_hand, seen, drop_origin, drop-moved}
use Rattle.model.proofs.Demand.Tidy.{Tidy}
use native.Mathlib.Omega.{arith}

abbrev live_in : Entries → List Open → ℕ → Bool
live_in t os i = is_named t i || is_held os i

-- a file that lives is kept
pub kept-file : (t : Entries) (os : List Open) (fs : Files) (i : ℕ) → T (live_in t os i) → file_of (kept_files t os fs) i ≡ file_of fs i
unfolding kept_files file_of
kept-file t os [] i h = refl
kept-file t os (f ∷ fs) i h = go (ℕ_discrete f.0 i) (live_in t os f.0) refl (kept-file t os fs i h)
  where
    go : Dec (f.0 ≡ i) → (b : Bool) → live_in t os f.0 ≡ b → file_of (kept_files t os fs) i ≡ file_of fs i
        → file_of (keep_if b f (kept_files t os fs)) i ≡ or_else (eqb f.0 i) f.1 (file_of fs i)
    go d true e ih = ap (λ (o : Option File). or_else (eqb f.0 i) f.1 o) ih
    go (yes d) false e ih = absurd (false≢true (sym (sym (ap (live_in t os) d) ∙ e) ∙ is_true (live_in t os i) h))
    go (no d) false e ih = ih ∙ sym (ap (λ (b : Bool). or_else b f.1 (file_of fs i)) (ne_eqb f.0 i d))

kept_none : (t : Entries) (os : List Open) (fs : Files) (i : ℕ) → file_of fs i ≡ none → file_of (kept_files t os fs) i ≡ none
unfolding kept_files file_of
kept_none t os [] i e = refl
kept_none t os (f ∷ fs) i e = go (eqb f.0 i) refl (live_in t os f.0) (kept_none t os fs i) e
  where
    go : (b : Bool) → eqb f.0 i ≡ b → (l : Bool) → (file_of fs i ≡ none → file_of (kept_files t os fs) i ≡ none) → or_else b f.1 (file_of fs i) ≡ none
        → file_of (keep_if l f (kept_files t os fs)) i ≡ none
    go true k l ih z = clash (some f.1) f.1 z refl
    go false k true ih z = ap (λ (b : Bool). or_else b f.1 (file_of (kept_files t os fs) i)) k ∙ ih z
    go false k false ih z = ih z

pub kept-once : (t : Entries) (os : List Open) (fs : Files) → Once new_file fs → Once new_file (kept_files t os fs)
unfolding kept_files
kept-once t os [] h = tt
kept-once t os (f ∷ fs) h = go (live_in t os f.0) (kept-once t os fs h.1)
  where
    go : (b : Bool) → Once new_file (kept_files t os fs) → Once new_file (keep_if b f (kept_files t os fs))
    go true ih = (kept_none t os fs f.0 h.0, ih)
    go false ih = ih

-- keeping again keeps all
pub kept-kept : (t : Entries) (os : List Open) (fs : Files) → kept_files t os (kept_files t os fs) ≡ kept_files t os fs
unfolding kept_files
kept-kept t os [] = refl
kept-kept t os (f ∷ fs) = go (live_in t os f.0) refl (kept-kept t os fs)
  where
    go : (b : Bool) → live_in t os f.0 ≡ b → kept_files t os (kept_files t os fs) ≡ kept_files t os fs → kept_files t os (keep_if b f (kept_files t os fs)) ≡ keep_if b f (kept_files t os fs)
    go true e ih = ap (λ (b : Bool). keep_if b f (kept_files t os (kept_files t os fs))) e ∙ ap (◌∷◌ f) ih
    go false e ih = ih

-- a table in which every file lives is kept whole
pub kept_all : (t : Entries) (os : List Open) (fs : Files) → Once new_file fs → ((i : ℕ) (f : File) → file_of fs i ≡ some f → T (live_in t os i)) → kept_files t os fs ≡ fs
unfolding kept_files file_of
kept_all t os [] h l = refl
kept_all t os (f ∷ fs) h l =
    ap (λ (b : Bool). keep_if b f (kept_files t os fs)) (is_true (live_in t os f.0) (l f.0 f.1 (ap (λ (b : Bool). or_else b f.1 (file_of fs f.0)) (eq-eqb f.0 f.0 refl))))
    ∙ ap (◌∷◌ f) (kept_all t os fs h.1 (λ i x e. l i x (ap (λ (b : Bool). or_else b f.1 (file_of fs i)) (ne_eqb f.0 i (λ d. clash (file_of fs i) x (ap (file_of fs) (sym d) ∙ h.0) e)) ∙ e)))

-- ---- two worlds at a call's end

drop_no_new : NoNewFile drop_origin
drop_no_new (in_tree q) i = λ e. let z : ◌≡◌ {A = ℕ} 0 1 = cc in omega arith
drop_no_new (in_hand q) i = λ e. let z : ◌≡◌ {A = ℕ} 0 1 = cc in omega arith

abbrev pub dropped : World → World
dropped w = record { at = w.at; hand = []; files = w.files; opens = w.opens; here = w.here; mask = w.mask }

pub over_dropped : (w v : World) → Over w v → Over (dropped w) (dropped v)
over_dropped w v r =
    over_moved w v (dropped w) (dropped v) drop_origin (drop-moved w.at w.hand) (drop-moved v.at v.hand) drop_no_new refl refl refl refl r

pub tidy-dropped : (w : World) → Tidy w → Tidy (dropped w)
tidy-dropped w t = record { tree = t.tree; hand = tt; files = t.files; numbers = t.numbers }

abbrev pub swept : World → World
swept w = record { at = w.at; hand = w.hand; files = kept_files w.at w.opens w.files; opens = w.opens; here = w.here; mask = w.mask }

pair-swept : (w v : World) (i j : ℕ) → Paired (swept w) (swept v) i j → Paired w v i j
pair-swept w v i j (at_place pl x y) = at_place pl x y
pair-swept w v i j (by_number n a b x y p q) = by_number n a b x y p q

-- nothing in hand
abbrev pub Empty : World → Type 0
Empty w = (q : Path) → look w.hand q ≡ none

live_at : (w : World) → Empty w → (pl : Place) (i : ℕ) → seen w pl ≡ some (file i) → T (live_in w.at w.opens i)
live_at w h (in_tree p) i x = or_left (is_named w.at i) (is_held w.opens i) (at_named w.at p i x)
live_at w h (in_hand p) i x = clash (look w.hand p) (file i) (h p) x

pub over_swept : (w v : World) → Empty w → Empty v → Over w v → Over (swept w) (swept v)
over_swept w v ew ev r =
    record {
      has = r.has;
      numbers = r.numbers;
      alike = λ i j p. alike i j (pair-swept w v i j p);
      first = λ i k j p q. r.first i k j (pair-swept w v i j p) (pair-swept w v k j q);
      second = λ i j k p q. r.second i j k (pair-swept w v i j p) (pair-swept w v i k q);
      covers = λ i j p pl e. r.covers i j (pair-swept w v i j p) pl e;
      grounded = λ pl j e. let g = r.grounded pl j e in (g.0, kept-file v.at v.opens v.files j (live_at v ev pl j e) ∙ g.1);
    }
  where
    lives : (i j : ℕ) → Paired w v i j → T (live_in w.at w.opens i) × T (live_in v.at v.opens j)
    lives i j (at_place pl x y) = (live_at w ew pl i x, live_at v ev pl j y)
    lives i j (by_number n a b x y p q) = (
      or_right (is_named w.at i) (is_held w.opens i) (subst (λ (k : ℕ). T (is_held w.opens k)) p (by_held w.opens n a x)),
      or_right (is_named v.at j) (is_held v.opens j) (subst (λ (k : ℕ). T (is_held v.opens k)) q (by_held v.opens n b y)),
    )

    alike : (i j : ℕ) → Paired w v i j → (f : File) × (file_of (kept_files w.at w.opens w.files) i ≡ some f) × (file_of (kept_files v.at v.opens v.files) j ≡ some f)
    alike i j p =
        let a = r.alike i j p in
        let l = lives i j p in
        (a.0, kept-file w.at w.opens w.files i l.0 ∙ a.1, kept-file v.at v.opens v.files j l.1 ∙ a.2)

pub tidy-swept : (w : World) → Tidy w → Tidy (swept w)
tidy-swept w t = record { tree = t.tree; hand = t.hand; files = kept-once w.at w.opens w.files t.files; numbers = t.numbers }
