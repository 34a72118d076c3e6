-- A listing is settled by what stands in the directory: names in byte order have one place each, so the order in which the
-- entries are met does not matter.
-- Assumes nothing.
use mathlib.Core.Bool.{Bool, true, false, not, false≢true}
use mathlib.Core.List.{List, [], ◌∷◌}
use mathlib.Core.Option.{Option, none, some}
use mathlib.Core.Path.{◌≡◌, refl, sym, ap, ◌∙◌}
use Prim.Native.Nat.{ℕ, ◌<◌}
use native.Mathlib.Omega.{arith}
use lib.Dec.{ltb}
use borrow.Author.Tests.{lt-ltb, le-ltb, eq-eqb, ne_eqb, ltb-true, ltb-false}
use Rattle.text.specs.Utf8.{Bytes}
use Rattle.path.specs.Path.{Name}
use Rattle.model.specs.Tree.{precedes, insert_by, insert, in_order}
use Rattle.model.proofs.Entries.{clash, some_inj, name-dec}

-- ---- the order of names

pub data Sides (a b : ℕ) : Type 0 where
  less : a < b → Sides a b
  equal : a ≡ b → Sides a b
  more : b < a → Sides a b

pub sides : (a b : ℕ) → Sides a b
sides a b = go (ltb a b) refl (ltb b a) refl
  where
    go : (x : Bool) → ltb a b ≡ x → (y : Bool) → ltb b a ≡ y → Sides a b
    go true e y k = less (ltb-true a b e)
    go false e true k = more (ltb-true b a k)
    go false e false k = equal (omega (arith, ltb-false a b e, ltb-false b a k))

pub cons-less : (a b : ℕ) (s t : Bytes) → a < b → precedes (a ∷ s) (b ∷ t) ≡ true
unfolding precedes
cons-less a b s t h = rw (lt-ltb a b h)

pub cons_more : (a b : ℕ) (s t : Bytes) → b < a → precedes (a ∷ s) (b ∷ t) ≡ false
unfolding precedes
cons_more a b s t h = rw (le-ltb a b (omega arith), ne_eqb a b (λ e. omega arith))

pub cons-equal : (a b : ℕ) (s t : Bytes) → a ≡ b → precedes (a ∷ s) (b ∷ t) ≡ precedes s t
unfolding precedes
cons-equal a b s t h = rw (le-ltb a b (omega arith), eq-eqb a b h)

-- of two different names one is before the other
pub one_way : (x y : Bytes) → (x ≡ y → ⊥) → precedes x y ≡ not (precedes y x)
unfolding precedes
one_way [] [] n = absurd (n refl)
one_way [] (b ∷ t) n = refl
one_way (a ∷ s) [] n = refl
one_way (a ∷ s) (b ∷ t) n = go (sides a b) (one_way s t)
  where
    go : Sides a b → ((s ≡ t → ⊥) → precedes s t ≡ not (precedes t s)) → precedes (a ∷ s) (b ∷ t) ≡ not (precedes (b ∷ t) (a ∷ s))
    go (less h) ih = cons-less a b s t h ∙ ap not (sym (cons_more b a t s h))
    go (equal h) ih = cons-equal a b s t h ∙ ih (λ e. n (let z : a ∷ s ≡ b ∷ t = cc in z)) ∙ ap not (sym (cons-equal b a t s (sym h)))
    go (more h) ih = cons_more a b s t h ∙ ap not (sym (cons-less b a t s h))

-- no name is before itself
pub not_itself : (x : Bytes) → precedes x x ≡ false
unfolding precedes
not_itself [] = refl
not_itself (a ∷ x) = cons-equal a a x x refl ∙ not_itself x

pub joins : (x y z : Bytes) → precedes x y ≡ true → precedes y z ≡ true → precedes x z ≡ true
unfolding precedes
joins [] [] z h k = absurd (false≢true h)
joins [] (b ∷ t) [] h k = absurd (false≢true k)
joins [] (b ∷ t) (c ∷ u) h k = refl
joins (a ∷ s) [] z h k = absurd (false≢true h)
joins (a ∷ s) (b ∷ t) [] h k = absurd (false≢true k)
joins (a ∷ s) (b ∷ t) (c ∷ u) h k = go (sides a b) (sides b c) (joins s t u)
  where
    go : Sides a b → Sides b c → (precedes s t ≡ true → precedes t u ≡ true → precedes s u ≡ true) → precedes (a ∷ s) (c ∷ u) ≡ true
    go (more x) y ih = absurd (false≢true (sym (cons_more a b s t x) ∙ h))
    go (less x) (less y) ih = cons-less a c s u (omega arith)
    go (less x) (equal y) ih = cons-less a c s u (omega arith)
    go (less x) (more y) ih = absurd (false≢true (sym (cons_more b c t u y) ∙ k))
    go (equal x) (less y) ih = cons-less a c s u (omega arith)
    go (equal x) (more y) ih = absurd (false≢true (sym (cons_more b c t u y) ∙ k))
    go (equal x) (equal y) ih = cons-equal a c s u (x ∙ y) ∙ ih (sym (cons-equal a b s t x) ∙ h) (sym (cons-equal b c t u y) ∙ k)

later : (p q r : Bytes) → precedes p r ≡ true → precedes q r ≡ false → precedes q p ≡ false
later p q r h k = go (precedes q p) refl
  where
    go : (x : Bool) → precedes q p ≡ x → precedes q p ≡ false
    go true y = absurd (false≢true (sym k ∙ joins q p r y h))
    go false y = y

-- ---- one order of a list

module _ {A : Type 0} where
  flip : (x y : Bool) (a b : Name × A) (l : List (Name × A)) → x ≡ not y → insert_by x a b l (a ∷ l) ≡ insert_by y b a l (b ∷ l)
  flip x true a b l h = rw h
  flip x false a b l h = rw h

  -- the place of two does not depend on which comes first
  swap : (a b : Name × A) (l : List (Name × A)) → (a.0 ≡ b.0 → ⊥) → insert a (insert b l) ≡ insert b (insert a l)
  unfolding insert
  swap a b [] n = flip (precedes a.0 b.0) (precedes b.0 a.0) a b [] (one_way a.0 b.0 n)
  swap a b (f ∷ l) n = go (precedes a.0 f.0) (precedes b.0 f.0) refl refl (swap a b l n)
    where
      go : (x y : Bool) → precedes a.0 f.0 ≡ x → precedes b.0 f.0 ≡ y → insert a (insert b l) ≡ insert b (insert a l)
          → insert a (insert b (f ∷ l)) ≡ insert b (insert a (f ∷ l))
      go true true h k ih = simp (h, k) (flip (precedes a.0 b.0) (precedes b.0 a.0) a b (f ∷ l) (one_way a.0 b.0 n))
      go true false h k ih = simp (h, k, later a.0 b.0 f.0 h k)
      go false true h k ih = simp (h, k, later b.0 a.0 f.0 k h)
      go false false h k ih = simp (h, k) (ap (◌∷◌ f) ih)

  abbrev by_name : {B : Type 0} → Dec B → A → Option A → Option A
  by_name (yes e) a o = some a
  by_name (no e) a o = o

  -- what stands under a name
  unfoldable pub named : List (Name × A) → Name → Option A
  named [] x = none
  named (e ∷ l) x = by_name (name-dec e.0 x) e.1 (named l x)

  pub named_here : (e : Name × A) (l : List (Name × A)) (x : Name) → e.0 ≡ x → named (e ∷ l) x ≡ some e.1
  unfolding named
  named_here e l x h = go (name-dec e.0 x)
    where
      go : (d : Dec (e.0 ≡ x)) → by_name d e.1 (named l x) ≡ some e.1
      go (yes k) = refl
      go (no k) = absurd (k h)

  pub named_past : (e : Name × A) (l : List (Name × A)) (x : Name) → (e.0 ≡ x → ⊥) → named (e ∷ l) x ≡ named l x
  unfolding named
  named_past e l x h = go (name-dec e.0 x)
    where
      go : (d : Dec (e.0 ≡ x)) → by_name d e.1 (named l x) ≡ named l x
      go (yes k) = absurd (h k)
      go (no k) = refl

  -- each name once
  abbrev pub Names : List (Name × A) → Type 0
  Names [] = Unit {0}
  Names (e ∷ l) = (named l e.0 ≡ none) × Names l

  abbrev drop_by : {B : Type 0} → Dec B → Name × A → List (Name × A) → List (Name × A)
  drop_by (yes k) e l = l
  drop_by (no k) e l = e ∷ l

  without : Name → List (Name × A) → List (Name × A)
  without x [] = []
  without x (e ∷ l) = drop_by (name-dec e.0 x) e (without x l)

  without_here : (x : Name) (l : List (Name × A)) → named (without x l) x ≡ none
  unfolding named without
  without_here x [] = refl
  without_here x (e ∷ l) = go (name-dec e.0 x) (without_here x l)
    where
      go : (d : Dec (e.0 ≡ x)) → named (without x l) x ≡ none → named (drop_by d e (without x l)) x ≡ none
      go (yes k) ih = ih
      go (no k) ih = named_past e (without x l) x k ∙ ih

  without_past : (x y : Name) (l : List (Name × A)) → (x ≡ y → ⊥) → named (without x l) y ≡ named l y
  unfolding without
  without_past x y [] n = refl
  without_past x y (e ∷ l) n = go (name-dec e.0 x) (without_past x y l n)
    where
      go : (d : Dec (e.0 ≡ x)) → named (without x l) y ≡ named l y → named (drop_by d e (without x l)) y ≡ named (e ∷ l) y
      go (yes k) ih = ih ∙ sym (named_past e l y (λ z. n (sym k ∙ z)))
      go (no k) ih = two (name-dec e.0 y)
        where
          two : Dec (e.0 ≡ y) → named (e ∷ without x l) y ≡ named (e ∷ l) y
          two (yes z) = named_here e (without x l) y z ∙ sym (named_here e l y z)
          two (no z) = named_past e (without x l) y z ∙ ih ∙ sym (named_past e l y z)

  without_names : (x : Name) (l : List (Name × A)) → Names l → Names (without x l)
  unfolding without
  without_names x [] h = tt
  without_names x (e ∷ l) h = go (name-dec e.0 x) (without_names x l h.1)
    where
      go : (d : Dec (e.0 ≡ x)) → Names (without x l) → Names (drop_by d e (without x l))
      go (yes k) ih = ih
      go (no k) ih = (without_past x e.0 l (λ z. k (sym z)) ∙ h.0, ih)

  without_none : (x : Name) (l : List (Name × A)) → named l x ≡ none → without x l ≡ l
  unfolding without named
  without_none x [] h = refl
  without_none x (e ∷ l) h = go (name-dec e.0 x) (without_none x l) h
    where
      go : (d : Dec (e.0 ≡ x)) → (named l x ≡ none → without x l ≡ l) → by_name d e.1 (named l x) ≡ none → drop_by d e (without x l) ≡ e ∷ l
      go (yes k) ih z = clash (some e.1) e.1 z refl
      go (no k) ih z = ap (◌∷◌ e) (ih z)

  -- one may be taken first
  first : (x : Name) (a : A) (l : List (Name × A)) → Names l → named l x ≡ some a → in_order l ≡ insert (x, a) (in_order (without x l))
  unfolding in_order without named
  first x a [] h e = clash none a refl e
  first x a (f ∷ l) h e = go (name-dec f.0 x) (first x a l h.1) e
    where
      go : (d : Dec (f.0 ≡ x)) → (named l x ≡ some a → in_order l ≡ insert (x, a) (in_order (without x l))) → by_name d f.1 (named l x) ≡ some a
          → insert f (in_order l) ≡ insert (x, a) (in_order (drop_by d f (without x l)))
      go (yes k) ih z = rw (without_none x l (ap (named l) (sym k) ∙ h.0)) (ap (λ (y : Name × A). insert y (in_order l)) (λ i. (k i, some_inj z i)))
      go (no k) ih z = rw (ih z) (swap f (x, a) (in_order (without x l)) k)

  -- lists that have the same under each name have one order
  pub one_order : (l m : List (Name × A)) → Names l → Names m → ((x : Name) → named l x ≡ named m x) → in_order l ≡ in_order m
  unfolding in_order named
  one_order [] [] a b h = refl
  one_order [] (e ∷ m) a b h = clash (named (e ∷ m) e.0) e.1 (sym (h e.0)) (named_here e m e.0 refl)
  one_order (e ∷ l) m a b h =
      ap (insert e) (one_order l (without e.0 m) a.1 (without_names e.0 m b) rest)
      ∙ sym (first e.0 e.1 m b (sym (h e.0) ∙ named_here e l e.0 refl))
    where
      rest : (x : Name) → named l x ≡ named (without e.0 m) x
      rest x = go (name-dec e.0 x)
        where
          go : Dec (e.0 ≡ x) → named l x ≡ named (without e.0 m) x
          go (yes k) = ap (named l) (sym k) ∙ a.0 ∙ sym (without_here e.0 m) ∙ ap (named (without e.0 m)) k
          go (no k) = sym (named_past e l x k) ∙ h x ∙ sym (without_past e.0 x m k)
