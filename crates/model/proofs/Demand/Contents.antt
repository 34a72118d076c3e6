-- The bytes of files in two worlds: the second's are the first's and those of files that only the second has.
-- Assumes nothing.
use mathlib.Core.Bool.{Bool, true, false, ◌&&◌, ◌||◌, not, cond, false≢true}
use mathlib.Core.List.{List, [], ◌∷◌}
use mathlib.Core.Logic.{◌⊎◌, inl, inr}
use mathlib.Core.Option.{Option, none, some}
use mathlib.Core.Path.{◌≡◌, refl, sym, ap, ◌∙◌, subst}
use Prim.Native.Nat.{ℕ, ◌+◌, ◌≤◌}
use native.Mathlib.Decide.{ℕ_discrete}
use native.Mathlib.Omega.{arith}
use lib.Dec.{T, eqb, eqb→eq, eqb_refl}
use lib.ListN.{length}
use borrow.Author.Tests.{eq-eqb, ne_eqb, eqb-true}
use Rattle.path.proofs.Laws.{and_left, and_right, and_both}
use Rattle.model.specs.Tree.{Path, File, Node, dir, file, link, Entries, Files, Open, or_else, keep_if, same_path, look, file_of, open_of, contents_length}
use Rattle.model.specs.Calls.{is_named, is_held, kept_files}
use Rattle.model.specs.Operations.{is_some}
use Rattle.model.specs.Rules.{Once, new_file, new_number}
use Rattle.model.proofs.Entries.{clash, some_inj, is_true, of_true, look-here, look_past, path-equal, Apart}

-- ---- a sum over some files

unfoldable pub weigh : (ℕ → Bool) → Files → ℕ
weigh g [] = 0
weigh g (f ∷ fs) = cond (g f.0) (length f.1.bytes) 0 + weigh g fs

-- what a call leaves of the table
pub kept-weigh : (t : Entries) (os : List Open) (fs : Files) → contents_length (kept_files t os fs) ≡ weigh (λ i. is_named t i || is_held os i) fs
unfolding contents_length kept_files weigh
kept-weigh t os [] = refl
kept-weigh t os (f ∷ fs) = go (is_named t f.0 || is_held os f.0) (kept-weigh t os fs)
  where
    go : (b : Bool) → contents_length (kept_files t os fs) ≡ weigh (λ i. is_named t i || is_held os i) fs
        → contents_length (keep_if b f (kept_files t os fs)) ≡ cond b (length f.1.bytes) 0 + weigh (λ i. is_named t i || is_held os i) fs
    go true ih = ap (λ (k : ℕ). length f.1.bytes + k) ih
    go false ih = omega (arith, ih)

abbrev drop_file : Bool → ℕ × File → Files → Files
drop_file true f fs = fs
drop_file false f fs = f ∷ fs

without : ℕ → Files → Files
without i [] = []
without i (f ∷ fs) = drop_file (eqb f.0 i) f (without i fs)

without_past : (i k : ℕ) (fs : Files) → (i ≡ k → ⊥) → file_of (without i fs) k ≡ file_of fs k
unfolding file_of without
without_past i k [] n = refl
without_past i k (f ∷ fs) n = go (eqb f.0 i) refl (without_past i k fs n)
  where
    go : (b : Bool) → eqb f.0 i ≡ b → file_of (without i fs) k ≡ file_of fs k → file_of (drop_file b f (without i fs)) k ≡ or_else (eqb f.0 k) f.1 (file_of fs k)
    go true e ih = ih ∙ sym (ap (λ (b : Bool). or_else b f.1 (file_of fs k)) (ne_eqb f.0 k (λ z. n (sym (eqb-true f.0 i e) ∙ z))))
    go false e ih = ap (λ (o : Option File). or_else (eqb f.0 k) f.1 o) ih

without_none : (i : ℕ) (fs : Files) → file_of fs i ≡ none → without i fs ≡ fs
unfolding file_of without
without_none i [] e = refl
without_none i (f ∷ fs) e = go (eqb f.0 i) (without_none i fs) e
  where
    go : (b : Bool) → (file_of fs i ≡ none → without i fs ≡ fs) → or_else b f.1 (file_of fs i) ≡ none → drop_file b f (without i fs) ≡ f ∷ fs
    go true ih z = clash (some f.1) f.1 z refl
    go false ih z = ap (◌∷◌ f) (ih z)

without_once : (i : ℕ) (fs : Files) → Once new_file fs → Once new_file (without i fs)
unfolding without
without_once i [] h = tt
without_once i (f ∷ fs) h = go (eqb f.0 i) refl (without_once i fs h.1)
  where
    go : (b : Bool) → eqb f.0 i ≡ b → Once new_file (without i fs) → Once new_file (drop_file b f (without i fs))
    go true e ih = ih
    go false e ih = (without_past i f.0 fs (λ z. false≢true (sym e ∙ eq-eqb f.0 i (sym z))) ∙ h.0, ih)

-- a file that counts may be taken first
weigh_first : (g : ℕ → Bool) (i : ℕ) (f : File) (fs : Files) → Once new_file fs → file_of fs i ≡ some f → T (g i)
    → weigh g fs ≡ length f.bytes + weigh g (without i fs)
unfolding file_of weigh without
weigh_first g i f [] h e t = clash none f refl e
weigh_first g i f (k ∷ fs) h e t = go (ℕ_discrete k.0 i) (weigh_first g i f fs h.1)
  where
    go : Dec (k.0 ≡ i) → (file_of fs i ≡ some f → T (g i) → weigh g fs ≡ length f.bytes + weigh g (without i fs))
        → cond (g k.0) (length k.1.bytes) 0 + weigh g fs ≡ length f.bytes + weigh g (drop_file (eqb k.0 i) k (without i fs))
    go (yes d) ih =
        let b : eqb k.0 i ≡ true = eq-eqb k.0 i d in
        let z : k.1 ≡ f = some_inj (sym (ap (λ (x : Bool). or_else x k.1 (file_of fs i)) b) ∙ e) in
        let y : g k.0 ≡ true = ap g d ∙ is_true (g i) t in
        rw (b, y, without_none i fs (ap (file_of fs) (sym d) ∙ h.0)) (ap (λ (x : File). length x.bytes + weigh g fs) z)
    go (no d) ih =
        let b : eqb k.0 i ≡ false = ne_eqb k.0 i d in
        rw b (omega (arith, ih (sym (ap (λ (x : Bool). or_else x k.1 (file_of fs i)) b) ∙ e) t))

-- where each file that counts in the first table has one of its own that counts in the second, alike, the sum is no more
module _ (g h : ℕ → Bool) (M : ℕ → ℕ → Type 0) (one : (i k j : ℕ) → M i j → M k j → i ≡ k) where
  abbrev pub Matched : Files → Files → Type 0
  Matched a b = (i : ℕ) (f : File) → file_of a i ≡ some f → T (g i) → (j : ℕ) × M i j × T (h j) × (file_of b j ≡ some f)

  pub weigh-le : (a b : Files) → Once new_file a → Once new_file b → Matched a b → weigh g a ≤ weigh h b
  unfolding weigh file_of
  weigh-le [] b oa ob m = omega arith
  weigh-le (f ∷ a) b oa ob m = go (g f.0) refl (weigh-le a)
    where
      here : file_of (f ∷ a) f.0 ≡ some f.1
      here = ap (λ (x : Bool). or_else x f.1 (file_of a f.0)) (eq-eqb f.0 f.0 refl) ∙ refl

      tail : (i : ℕ) (x : File) → file_of a i ≡ some x → f.0 ≡ i → ⊥
      tail i x e d = clash (file_of a i) x (ap (file_of a) (sym d) ∙ oa.0) e

      past : (i : ℕ) (x : File) → file_of a i ≡ some x → file_of (f ∷ a) i ≡ some x
      past i x e = ap (λ (y : Bool). or_else y f.1 (file_of a i)) (ne_eqb f.0 i (tail i x e)) ∙ e

      go : (b' : Bool) → g f.0 ≡ b' → ((c : Files) → Once new_file a → Once new_file c → Matched a c → weigh g a ≤ weigh h c)
          → cond b' (length f.1.bytes) 0 + weigh g a ≤ weigh h b
      go false e ih = omega (arith, ih b oa.1 ob (λ i x k t. m i x (past i x k) t))
      go true e ih =
          let z = m f.0 f.1 here (of_true e) in
          let rest : weigh g a ≤ weigh h (without z.0 b) =
          ih (without z.0 b) oa.1 (without_once z.0 b ob)
          (λ i x k t. let y = m i x (past i x k) t in
          (y.0, y.1, y.2, without_past z.0 y.0 b (λ q. tail i x k (one f.0 i y.0 (subst (M f.0) q z.1) y.1)) ∙ y.3))
          in
          omega (arith, weigh_first h z.0 f.1 b ob z.3 z.2)

-- a sum in two parts
pub weigh-split : (g e : ℕ → Bool) (fs : Files) → weigh g fs ≡ weigh (λ i. g i && not (e i)) fs + weigh (λ i. g i && e i) fs
unfolding weigh
weigh-split g e [] = refl
weigh-split g e (f ∷ fs) = go (g f.0) (e f.0) (weigh-split g e fs)
  where
    go : (x y : Bool) → weigh g fs ≡ weigh (λ i. g i && not (e i)) fs + weigh (λ i. g i && e i) fs
        → cond x (length f.1.bytes) 0 + weigh g fs
        ≡ (cond (x && not y) (length f.1.bytes) 0 + weigh (λ i. g i && not (e i)) fs) + (cond (x && y) (length f.1.bytes) 0 + weigh (λ i. g i && e i) fs)
    go true true ih = omega (arith, ih)
    go true false ih = omega (arith, ih)
    go false y ih = omega (arith, ih)

-- ---- named, held, only in the second

pub or_elim : (a b : Bool) → T (a || b) → T a ⊎ T b
or_elim true b t = inl tt
or_elim false b t = inr t

pub or_left : (a b : Bool) → T a → T (a || b)
or_left true b t = tt
or_left false b t = absurd t

pub or_right : (a b : Bool) → T b → T (a || b)
or_right true b t = tt
or_right false b t = t

-- what stands behind an entry is found behind it
pub later : (e : Path × Node) (t : Entries) → Apart (e ∷ t) → (q : Path) (n : Node) → look t q ≡ some n → look (e ∷ t) q ≡ some n
later e t a q n k = look_past e t q (λ d. clash (look t q) n (ap (look t) (sym d) ∙ a.0) k) ∙ k

pub named_at : (t : Entries) → Apart t → (i : ℕ) → T (is_named t i) → (p : Path) × (look t p ≡ some (file i))
unfolding is_named
named_at [] a i h = absurd h
named_at ((p, dir m) ∷ t) a i h = let r = named_at t a.1 i h in (r.0, later (p, dir m) t a r.0 (file i) r.1)
named_at ((p, link m s) ∷ t) a i h = let r = named_at t a.1 i h in (r.0, later (p, link m s) t a r.0 (file i) r.1)
named_at ((p, file j) ∷ t) a i h = go (or_elim (eqb j i) (is_named t i) h) (named_at t a.1 i)
  where
    go : T (eqb j i) ⊎ T (is_named t i) → (T (is_named t i) → (q : Path) × (look t q ≡ some (file i))) → (q : Path) × (look ((p, file j) ∷ t) q ≡ some (file i))
    go (inl x) ih = (p, look-here (p, file j) t p refl ∙ ap (λ (k : ℕ). some (file k)) (eqb→eq j i x))
    go (inr x) ih = let r = ih x in (r.0, later (p, file j) t a r.0 (file i) r.1)

pub at_named : (t : Entries) (p : Path) (i : ℕ) → look t p ≡ some (file i) → T (is_named t i)
unfolding is_named look
at_named [] p i e = clash none (file i) refl e
at_named ((q, dir m) ∷ t) p i e = go (same_path q p) (at_named t p i) e
  where
    go : (b : Bool) → (look t p ≡ some (file i) → T (is_named t i)) → or_else b (dir m) (look t p) ≡ some (file i) → T (is_named t i)
    go true ih z = absurd (let y : dir m ≡ file i = some_inj z in let x : ◌≡◌ {A = ℕ} 0 1 = cc in omega arith)
    go false ih z = ih z
at_named ((q, link m s) ∷ t) p i e = go (same_path q p) (at_named t p i) e
  where
    go : (b : Bool) → (look t p ≡ some (file i) → T (is_named t i)) → or_else b (link m s) (look t p) ≡ some (file i) → T (is_named t i)
    go true ih z = absurd (let y : link m s ≡ file i = some_inj z in let x : ◌≡◌ {A = ℕ} 0 1 = cc in omega arith)
    go false ih z = ih z
at_named ((q, file j) ∷ t) p i e = go (same_path q p) (at_named t p i) e
  where
    go : (b : Bool) → (look t p ≡ some (file i) → T (is_named t i)) → or_else b (file j) (look t p) ≡ some (file i) → T (eqb j i || is_named t i)
    go true ih z = or_left (eqb j i) (is_named t i) (let y : j ≡ i = (let x : file j ≡ file i = some_inj z in cc) in subst (λ (k : ℕ). T (eqb j k)) y (eqb_refl j))
    go false ih z = or_right (eqb j i) (is_named t i) (ih z)

pub held_by : (os : List Open) → Once new_number os → (i : ℕ) → T (is_held os i) → (n : ℕ) × (o : Open) × (open_of os n ≡ some o) × (o.id ≡ i)
unfolding is_held open_of
held_by [] h i t = absurd t
held_by (o ∷ os) h i t = go (or_elim (eqb o.id i) (is_held os i) t) (held_by os h.1 i)
  where
    go : T (eqb o.id i) ⊎ T (is_held os i) → (T (is_held os i) → (n : ℕ) × (a : Open) × (open_of os n ≡ some a) × (a.id ≡ i))
        → (n : ℕ) × (a : Open) × (or_else (eqb o.num n) o (open_of os n) ≡ some a) × (a.id ≡ i)
    go (inl x) ih = (o.num, o, ap (λ (b : Bool). or_else b o (open_of os o.num)) (eq-eqb o.num o.num refl), eqb→eq o.id i x)
    go (inr x) ih =
        let r = ih x in
        (r.0, r.1, ap (λ (b : Bool). or_else b o (open_of os r.0)) (ne_eqb o.num r.0 (λ d. clash (open_of os r.0) r.1 (ap (open_of os) (sym d) ∙ h.0) r.2)) ∙ r.2, r.3)

pub by_held : (os : List Open) (n : ℕ) (o : Open) → open_of os n ≡ some o → T (is_held os o.id)
unfolding is_held open_of
by_held [] n o e = clash none o refl e
by_held (a ∷ os) n o e = go (eqb a.num n) (by_held os n o) e
  where
    go : (b : Bool) → (open_of os n ≡ some o → T (is_held os o.id)) → or_else b a (open_of os n) ≡ some o → T (eqb a.id o.id || is_held os o.id)
    go true ih z = or_left (eqb a.id o.id) (is_held os o.id) (subst (λ (x : Open). T (eqb a.id x.id)) (some_inj z) (eqb_refl a.id))
    go false ih z = or_right (eqb a.id o.id) (is_held os o.id) (ih z)

-- the file has a name in the second tree where the first has nothing
abbrev only_at : Entries → Path → Node → ℕ → Bool → Bool
only_at t p (dir m) j b = b
only_at t p (link m s) j b = b
only_at t p (file k) j b = (eqb k j && not (is_some (look t p))) || b

unfoldable pub only_second : Entries → Entries → ℕ → Bool
only_second t [] j = false
only_second t (e ∷ u) j = only_at t e.0 e.1 j (only_second t u j)

not_some : (o : Option Node) → T (not (is_some o)) → o ≡ none
not_some none t = refl
not_some (some n) t = absurd t

pub only_at_lem : (t u : Entries) → Apart u → (j : ℕ) → T (only_second t u j) → (p : Path) × (look u p ≡ some (file j)) × (look t p ≡ none)
unfolding only_second
only_at_lem t [] a j h = absurd h
only_at_lem t ((p, dir m) ∷ u) a j h = let r = only_at_lem t u a.1 j h in (r.0, later (p, dir m) u a r.0 (file j) r.1, r.2)
only_at_lem t ((p, link m s) ∷ u) a j h = let r = only_at_lem t u a.1 j h in (r.0, later (p, link m s) u a r.0 (file j) r.1, r.2)
only_at_lem t ((p, file k) ∷ u) a j h = go (or_elim (eqb k j && not (is_some (look t p))) (only_second t u j) h) (only_at_lem t u a.1 j)
  where
    go : T (eqb k j && not (is_some (look t p))) ⊎ T (only_second t u j) → (T (only_second t u j) → (q : Path) × (look u q ≡ some (file j)) × (look t q ≡ none))
        → (q : Path) × (look ((p, file k) ∷ u) q ≡ some (file j)) × (look t q ≡ none)
    go (inl x) ih = (
      p,
      look-here (p, file k) u p refl ∙ ap (λ (z : ℕ). some (file z)) (eqb→eq k j (and_left (eqb k j) (not (is_some (look t p))) x)),
      not_some (look t p) (and_right (eqb k j) (not (is_some (look t p))) x),
    )
    go (inr x) ih = let r = ih x in (r.0, later (p, file k) u a r.0 (file j) r.1, r.2)

pub at_only : (t u : Entries) (p : Path) (j : ℕ) → look u p ≡ some (file j) → look t p ≡ none → T (only_second t u j)
unfolding only_second look
at_only t [] p j e n = clash none (file j) refl e
at_only t ((q, dir m) ∷ u) p j e n = go (same_path q p) (λ z. at_only t u p j z n) e
  where
    go : (b : Bool) → (look u p ≡ some (file j) → T (only_second t u j)) → or_else b (dir m) (look u p) ≡ some (file j) → T (only_second t u j)
    go true ih z = absurd (let y : dir m ≡ file j = some_inj z in let x : ◌≡◌ {A = ℕ} 0 1 = cc in omega arith)
    go false ih z = ih z
at_only t ((q, link m s) ∷ u) p j e n = go (same_path q p) (λ z. at_only t u p j z n) e
  where
    go : (b : Bool) → (look u p ≡ some (file j) → T (only_second t u j)) → or_else b (link m s) (look u p) ≡ some (file j) → T (only_second t u j)
    go true ih z = absurd (let y : link m s ≡ file j = some_inj z in let x : ◌≡◌ {A = ℕ} 0 1 = cc in omega arith)
    go false ih z = ih z
at_only t ((q, file k) ∷ u) p j e n = go (same_path q p) refl (λ z. at_only t u p j z n) e
  where
    go : (b : Bool) → same_path q p ≡ b → (look u p ≡ some (file j) → T (only_second t u j)) → or_else b (file k) (look u p) ≡ some (file j)
        → T ((eqb k j && not (is_some (look t q))) || only_second t u j)
    go true d ih z =
        let y : k ≡ j = (let x : file k ≡ file j = some_inj z in cc) in
        or_left (eqb k j && not (is_some (look t q))) (only_second t u j)
        (and_both (eqb k j) (not (is_some (look t q))) (subst (λ (x : ℕ). T (eqb k x)) y (eqb_refl k))
        (subst (λ (o : Option Node). T (not (is_some o))) (sym (ap (look t) (path-equal q p (of_true d)) ∙ n)) tt))
    go false d ih z = or_right (eqb k j && not (is_some (look t q))) (only_second t u j) (ih z)
