-- Bytes used are a sum over the entries, each with its name and what goes with its node, and the contents of the files that
-- numbers hold. A file has one name, so its contents are counted once; so what is put into the tree or taken out of it is what
-- the sum gains or loses.
-- Assumes nothing.
use mathlib.Core.Bool.{Bool, true, false, ◌||◌, not, cond, false≢true}
use mathlib.Core.List.{List, [], ◌∷◌}
use mathlib.Core.Option.{Option, none, some}
use mathlib.Core.Path.{◌≡◌, refl, sym, ap, ◌∙◌}
use Prim.Native.Nat.{ℕ, ◌+◌, ◌≤◌}
use native.Mathlib.Decide.{ℕ_discrete}
use native.Mathlib.Omega.{arith}
use lib.Dec.{T, eqb}
use lib.ListN.{length}
use borrow.Author.Tests.{eq-eqb, ne_eqb, eqb-true}
use Rattle.text.specs.Utf8.{Bytes}
use Rattle.model.specs.Tree.{Path, File, Node, dir, file, link, Entries, Files, Open, or_else, keep_if, file_of, open_of, name_length, target_length, names_and_targets, contents_length, Change, change_file, change_bytes, set_file}
use Rattle.model.specs.Prog.{close_num, move_by, seek_num}
use Rattle.model.specs.Calls.{is_named, is_held, kept_files}
use Rattle.model.specs.Rules.{Once, new_file, new_number}
use Rattle.model.specs.Space.{size_of, freed_by, freed_in}
use Rattle.model.proofs.Demand.Contents.{weigh, kept-weigh}
use Rattle.model.proofs.Entries.{clash, some_inj, is_true}
use Rattle.model.proofs.Demand.Totals.{total}

-- ---- how many entries name a file

-- 1 where the node is the file
unfoldable pub names : ℕ → Node → ℕ
names i (dir m) = 0
names i (file j) = cond (eqb j i) 1 0
names i (link m s) = 0

-- the entries that are the file
abbrev pub count : ℕ → Entries → ℕ
count i t = total (λ p. 0) (names i) t

-- a name, or none, by a number of them
unfoldable pub some? : ℕ → Bool
some? n = not (eqb n 0)

no_more : (n : ℕ) → n ≡ 0 + 0 + n
no_more n = omega arith

-- an entry names the file exactly where one is counted
pub named_count : (i : ℕ) (t : Entries) → is_named t i ≡ some? (count i t)
unfolding is_named total names some?
named_count i [] = refl
named_count i ((p, dir m) ∷ t) = named_count i t ∙ ap some? (no_more (count i t))
named_count i ((p, link m s) ∷ t) = named_count i t ∙ ap some? (no_more (count i t))
named_count i ((p, file j) ∷ t) = go (eqb j i) (named_count i t)
  where
    go : (b : Bool) → is_named t i ≡ some? (count i t) → b || is_named t i ≡ some? (0 + cond b 1 0 + count i t)
    go true ih = sym (ap not (ne_eqb (0 + 1 + count i t) 0 (λ e. omega arith)))
    go false ih = ih ∙ ap some? (no_more (count i t))

-- a file of which no name is counted has none
pub named_none : (i : ℕ) (t : Entries) → count i t ≡ 0 → is_named t i ≡ false
unfolding some?
named_none i t e = named_count i t ∙ ap some? e

-- and the other way round
pub none_counted : (i : ℕ) (t : Entries) → is_named t i ≡ false → count i t ≡ 0
unfolding is_named total names
none_counted i [] e = refl
none_counted i ((p, dir m) ∷ t) e = omega (arith, none_counted i t e)
none_counted i ((p, link m s) ∷ t) e = omega (arith, none_counted i t e)
none_counted i ((p, file j) ∷ t) e = go (eqb j i) (none_counted i t) e
  where
    go : (b : Bool) → (is_named t i ≡ false → count i t ≡ 0) → b || is_named t i ≡ false → 0 + cond b 1 0 + count i t ≡ 0
    go true ih k = absurd (false≢true (sym k))
    go false ih k = omega (arith, ih k)

-- ---- the files that are kept

or_assoc : (a b c : Bool) → (a || b) || c ≡ a || (b || c)
or_assoc true b c = refl
or_assoc false b c = refl

or_swap : (a b c : Bool) → a || (b || c) ≡ b || (a || c)
or_swap true true c = refl
or_swap true false c = refl
or_swap false b c = refl

-- two tables of names and numbers that agree on every file there is keep the same
pub kept_same : (t u : Entries) (os ps : List Open) (fs : Files)
    → ((i : ℕ) → (file_of fs i ≡ none → ⊥) → is_named t i || is_held os i ≡ is_named u i || is_held ps i) → kept_files t os fs ≡ kept_files u ps fs
unfolding kept_files file_of
kept_same t u os ps [] h = refl
kept_same t u os ps (f ∷ fs) h =
    ap (λ (b : Bool). keep_if b f (kept_files t os fs)) (h f.0 (λ e. none-else (file_of fs f.0) (eqb f.0 f.0) (eq-eqb f.0 f.0 refl) e))
    ∙ ap (keep_if (is_named u f.0 || is_held ps f.0) f) (kept_same t u os ps fs (λ i n. h i (λ e. n (else-none (file_of fs i) (eqb f.0 i) e))))
  where
    none-else : (o : Option File) (b : Bool) → b ≡ true → or_else b f.1 o ≡ none → ⊥
    none-else o true k e = clash none f.1 refl (sym e)
    none-else o false k e = false≢true k

    else-none : (o : Option File) (b : Bool) → or_else b f.1 o ≡ none → o ≡ none
    else-none o true e = clash none f.1 refl (sym e)
    else-none o false e = e

-- two trees that name each file as often
pub kept-counts : (t u : Entries) (os : List Open) (fs : Files) → ((i : ℕ) → count i t ≡ count i u) → kept_files t os fs ≡ kept_files u os fs
kept-counts t u os fs h =
    kept_same t u os os fs (λ i _. ap (λ (b : Bool). b || is_held os i) (named_count i t ∙ ap some? (h i) ∙ sym (named_count i u)))

-- one file more that is kept adds its contents, unless it was kept already
weigh_more : (g h : ℕ → Bool) (i : ℕ) → ((j : ℕ) → h j ≡ eqb i j || g j) → (fs : Files) → Once new_file fs
    → weigh h fs ≡ weigh g fs + cond (g i) 0 (size_of (file_of fs i))
unfolding weigh file_of size_of
weigh_more g h i e [] o = go (g i)
  where
    go : (b : Bool) → 0 ≡ 0 + cond b 0 0
    go true = refl
    go false = refl
weigh_more g h i e (f ∷ fs) o = go (ℕ_discrete f.0 i) (weigh_more g h i e fs o.1)
  where
    go : Dec (f.0 ≡ i) → weigh h fs ≡ weigh g fs + cond (g i) 0 (size_of (file_of fs i))
        → cond (h f.0) (length f.1.bytes) 0 + weigh h fs
        ≡ (cond (g f.0) (length f.1.bytes) 0 + weigh g fs) + cond (g i) 0 (size_of (or_else (eqb f.0 i) f.1 (file_of fs i)))
    go (yes d) ih =
        let y : h f.0 ≡ true = e f.0 ∙ ap (λ (b : Bool). b || g f.0) (eq-eqb i f.0 (sym d)) in
        rw (y, ap g d, eq-eqb f.0 i d) (two (g i) (ih ∙ ap (λ (x : Option File). weigh g fs + cond (g i) 0 (size_of x)) (ap (file_of fs) (sym d) ∙ o.0)))
      where
        two : (b : Bool) → weigh h fs ≡ weigh g fs + cond b 0 0
            → length f.1.bytes + weigh h fs ≡ (cond b (length f.1.bytes) 0 + weigh g fs) + cond b 0 (length f.1.bytes)
        two true k = omega (arith, k)
        two false k = omega (arith, k)
    go (no d) ih =
        let y : h f.0 ≡ g f.0 = e f.0 ∙ ap (λ (b : Bool). b || g f.0) (ne_eqb i f.0 (λ k. d (sym k))) in
        rw (y, ne_eqb f.0 i d) (omega (arith, ih))

-- a name more
pub kept-named : (p : Path) (i : ℕ) (t : Entries) (os : List Open) (fs : Files) → Once new_file fs
    → contents_length (kept_files ((p, file i) ∷ t) os fs) ≡ contents_length (kept_files t os fs) + cond (is_named t i || is_held os i) 0 (size_of (file_of fs i))
unfolding is_named
kept-named p i t os fs o =
    kept-weigh ((p, file i) ∷ t) os fs
    ∙ weigh_more (λ j. is_named t j || is_held os j) (λ j. (eqb i j || is_named t j) || is_held os j) i (λ j. or_assoc (eqb i j) (is_named t j) (is_held os j)) fs o
    ∙ ap (λ (k : ℕ). k + cond (is_named t i || is_held os i) 0 (size_of (file_of fs i))) (sym (kept-weigh t os fs))

-- a number more, or another row of numbers with one file more
pub kept-held : (i : ℕ) (t : Entries) (os ps : List Open) (fs : Files) → Once new_file fs → ((j : ℕ) → is_held ps j ≡ eqb i j || is_held os j)
    → contents_length (kept_files t ps fs) ≡ contents_length (kept_files t os fs) + cond (is_named t i || is_held os i) 0 (size_of (file_of fs i))
kept-held i t os ps fs o h =
    kept-weigh t ps fs
    ∙ weigh_more (λ j. is_named t j || is_held os j) (λ j. is_named t j || is_held ps j) i
    (λ j. ap (λ (b : Bool). is_named t j || b) (h j) ∙ or_swap (is_named t j) (eqb i j) (is_held os j)) fs o
    ∙ ap (λ (k : ℕ). k + cond (is_named t i || is_held os i) 0 (size_of (file_of fs i))) (sym (kept-weigh t os fs))

-- ---- bytes used, as a sum

-- of some entries: names, targets, and the contents of the files that they name or numbers hold
abbrev pub bytes_over : Entries → List Open → Files → ℕ
bytes_over t os fs = names_and_targets t + contents_length (kept_files t os fs)

-- each file is named at most once
abbrev pub OneName : Entries → Type 0
OneName t = (i : ℕ) → count i t ≤ 1

one_tail : (e : Path × Node) (t : Entries) → OneName (e ∷ t) → OneName t
unfolding total
one_tail e t h i = omega (arith, h i)

one_head : (p : Path) (j : ℕ) (t : Entries) → OneName ((p, file j) ∷ t) → is_named t j ≡ false
unfolding total names
one_head p j t h = named_none j t (go (eqb j j) (eq-eqb j j refl) (h j))
  where
    go : (b : Bool) → b ≡ true → 0 + cond b 1 0 + count j t ≤ 1 → count j t ≡ 0
    go true e k = omega arith
    go false e k = absurd (false≢true e)

-- the sum of what goes with each entry, and what numbers hold
pub bytes-sum : (t : Entries) (os : List Open) (fs : Files) → Once new_file fs → OneName t → bytes_over t os fs ≡ freed_in fs os t + contents_length (kept_files [] os fs)
unfolding names_and_targets freed_in freed_by target_length is_named
bytes-sum [] os fs o h = refl
bytes-sum ((p, dir m) ∷ t) os fs o h =
    omega (arith, bytes-sum t os fs o (one_tail (p, dir m) t h), ap contents_length (kept_same ((p, dir m) ∷ t) t os os fs (λ i _. refl)))
bytes-sum ((p, link m s) ∷ t) os fs o h =
    omega (arith, bytes-sum t os fs o (one_tail (p, link m s) t h), ap contents_length (kept_same ((p, link m s) ∷ t) t os os fs (λ i _. refl)))
bytes-sum ((p, file j) ∷ t) os fs o h =
    omega (
      arith,
      bytes-sum t os fs o (one_tail (p, file j) t h),
      kept-named p j t os fs o ∙ ap (λ (b : Bool). contents_length (kept_files t os fs) + cond (b || is_held os j) 0 (size_of (file_of fs j))) (one_head p j t h),
    )

-- the same sum, as the others are
pub total-freed : (fs : Files) (os : List Open) (t : Entries) → total name_length (freed_by fs os) t ≡ freed_in fs os t
unfolding total freed_in
total-freed fs os [] = refl
total-freed fs os (e ∷ t) = omega (arith, total-freed fs os t)

-- ---- a file that is changed

-- a change that leaves all contents as they are
abbrev pub KeepsBytes : Change → Type 0
KeepsBytes c = (b : Bytes) → change_bytes c b ≡ b

set_none : (i : ℕ) (c : Change) (fs : Files) → file_of fs i ≡ none → set_file i c fs ≡ fs
unfolding set_file file_of
set_none i c [] e = refl
set_none i c (f ∷ fs) e = go (eqb f.0 i) (set_none i c fs) e
  where
    go : (b : Bool) → (file_of fs i ≡ none → set_file i c fs ≡ fs) → or_else b f.1 (file_of fs i) ≡ none
        → (f.0, cond b (change_file c f.1) f.1) ∷ set_file i c fs ≡ f ∷ fs
    go true ih k = clash none f.1 refl (sym k)
    go false ih k = ap (◌∷◌ f) (ih k)

weigh-set : (g : ℕ → Bool) (i : ℕ) (c : Change) (f : File) (fs : Files) → Once new_file fs → file_of fs i ≡ some f → T (g i)
    → weigh g (set_file i c fs) + length f.bytes ≡ weigh g fs + length (change_bytes c f.bytes)
unfolding weigh set_file file_of
weigh-set g i c f [] o e t = clash none f refl e
weigh-set g i c f (k ∷ fs) o e t = go (ℕ_discrete k.0 i) (weigh-set g i c f fs o.1)
  where
    go : Dec (k.0 ≡ i) → (file_of fs i ≡ some f → T (g i) → weigh g (set_file i c fs) + length f.bytes ≡ weigh g fs + length (change_bytes c f.bytes))
        → (cond (g k.0) (length (cond (eqb k.0 i) (change_file c k.1) k.1).bytes) 0 + weigh g (set_file i c fs)) + length f.bytes
        ≡ (cond (g k.0) (length k.1.bytes) 0 + weigh g fs) + length (change_bytes c f.bytes)
    go (yes d) ih =
        let b : eqb k.0 i ≡ true = eq-eqb k.0 i d in
        let z : k.1 ≡ f = some_inj (sym (ap (λ (x : Bool). or_else x k.1 (file_of fs i)) b) ∙ e) in
        let y : g k.0 ≡ true = ap g d ∙ is_true (g i) t in
        rw (b, y, set_none i c fs (ap (file_of fs) (sym d) ∙ o.0), z) (omega arith)
    go (no d) ih =
        let b : eqb k.0 i ≡ false = ne_eqb k.0 i d in
        rw b (omega (arith, ih (sym (ap (λ (x : Bool). or_else x k.1 (file_of fs i)) b) ∙ e) t))

weigh-keeps : (g : ℕ → Bool) (i : ℕ) (c : Change) → KeepsBytes c → (fs : Files) → weigh g (set_file i c fs) ≡ weigh g fs
unfolding weigh set_file
weigh-keeps g i c h [] = refl
weigh-keeps g i c h (f ∷ fs) = go (eqb f.0 i) (weigh-keeps g i c h fs)
  where
    go : (b : Bool) → weigh g (set_file i c fs) ≡ weigh g fs
        → cond (g f.0) (length (cond b (change_file c f.1) f.1).bytes) 0 + weigh g (set_file i c fs) ≡ cond (g f.0) (length f.1.bytes) 0 + weigh g fs
    go true ih = rw (h f.1.bytes, ih)
    go false ih = rw ih

-- the contents of a file that is kept, the old for the new
pub kept_set : (i : ℕ) (c : Change) (f : File) (t : Entries) (os : List Open) (fs : Files) → Once new_file fs → file_of fs i ≡ some f
    → T (is_named t i || is_held os i) → contents_length (kept_files t os (set_file i c fs)) + length f.bytes ≡ contents_length (kept_files t os fs) + length (change_bytes c f.bytes)
kept_set i c f t os fs o e h =
    omega (arith, kept-weigh t os (set_file i c fs), kept-weigh t os fs, weigh-set (λ j. is_named t j || is_held os j) i c f fs o e h)

-- a change of mode or times
pub kept-keeps : (i : ℕ) (c : Change) → KeepsBytes c → (t : Entries) (os : List Open) (fs : Files) → contents_length (kept_files t os (set_file i c fs)) ≡ contents_length (kept_files t os fs)
kept-keeps i c h t os fs = kept-weigh t os (set_file i c fs) ∙ weigh-keeps (λ j. is_named t j || is_held os j) i c h fs ∙ sym (kept-weigh t os fs)

-- ---- the files that numbers hold

-- a number that is not open is not closed
pub close-free : (n : ℕ) (os : List Open) → open_of os n ≡ none → close_num n os ≡ os
unfolding open_of close_num
close-free n [] e = refl
close-free n (a ∷ os) e = go (eqb a.num n) (close-free n os) e
  where
    go : (b : Bool) → (open_of os n ≡ none → close_num n os ≡ os) → or_else b a (open_of os n) ≡ none → keep_if (not b) a (close_num n os) ≡ a ∷ os
    go true ih k = clash none a refl (sym k)
    go false ih k = ap (◌∷◌ a) (ih k)

-- before a number is closed, its file is held as well
pub held-close : (n : ℕ) (o : Open) (os : List Open) → Once new_number os → open_of os n ≡ some o → (j : ℕ) → is_held os j ≡ eqb o.id j || is_held (close_num n os) j
unfolding open_of close_num is_held
held-close n o [] h e j = clash none o refl e
held-close n o (a ∷ os) h e j = go (eqb a.num n) refl (λ k. held-close n o os h.1 k j) e
  where
    go : (b : Bool) → eqb a.num n ≡ b → (open_of os n ≡ some o → is_held os j ≡ eqb o.id j || is_held (close_num n os) j)
        → or_else b a (open_of os n) ≡ some o → eqb a.id j || is_held os j ≡ eqb o.id j || is_held (keep_if (not b) a (close_num n os)) j
    go true y ih k =
        let z : open_of os n ≡ none = ap (open_of os) (sym (eqb-true a.num n y)) ∙ h.0 in
        rw (close-free n os z) (ap (λ (x : Open). eqb x.id j || is_held os j) (some_inj k))
    go false y ih k = ap (λ (b : Bool). eqb a.id j || b) (ih k) ∙ or_swap (eqb a.id j) (eqb o.id j) (is_held (close_num n os) j)

-- a number at another position holds what it held
pub held-seek : (n k : ℕ) (os : List Open) (j : ℕ) → is_held (seek_num n k os) j ≡ is_held os j
unfolding seek_num is_held
held-seek n k [] j = refl
held-seek n k (a ∷ os) j = go (eqb a.num n) (held-seek n k os j)
  where
    go : (b : Bool) → is_held (seek_num n k os) j ≡ is_held os j → eqb (move_by b k a).id j || is_held (seek_num n k os) j ≡ eqb a.id j || is_held os j
    go true ih = rw ih
    go false ih = rw ih
