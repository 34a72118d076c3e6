-- What a look finds after an edit of the entries: at the edited path the new, elsewhere the old.
-- Assumes nothing.
use mathlib.Core.Bool.{Bool, true, false, not}
use mathlib.Core.List.{[], ◌∷◌, ◌++◌}
use mathlib.Core.Option.{Option, none, some}
use mathlib.Core.Path.{◌≡◌, refl, sym, ap, ◌∙◌, subst}
use Prim.Native.Nat.{ℕ}
use native.Mathlib.Omega.{arith}
use lib.Dec.{T}
use Rattle.path.specs.Path.{Name, same}
use Rattle.path.proofs.Laws.{same_equal, same_refl, and_left, and_right, and_both}
use Rattle.model.specs.Tree.{Path, Node, Entries, same_path, or_else, look, behind_by, behind, keep_if, less, put, unless_behind, cut, if_behind, under, graft}
use Rattle.model.specs.Rules.{Once, new_path}

-- ---- deciding

pub is_true : (b : Bool) → T b → b ≡ true
is_true true t = refl
is_true false t = absurd t

pub is_false : (b : Bool) → (T b → ⊥) → b ≡ false
is_false true f = absurd (f tt)
is_false false f = refl

pub of_true : {b : Bool} → b ≡ true → T b
of_true e = subst T (sym e) tt

-- an entry and no entry are not the same
pub clash : {A B : Type 0} (o : Option B) (n : B) → o ≡ none → o ≡ some n → A
clash o n h k = absurd (let z : ◌≡◌ {A = ℕ} 0 1 = cc in omega arith)

pub some_inj : {A : Type 0} {a b : A} → some a ≡ some b → a ≡ b
some_inj e = cc

pub name-dec : (x y : Name) → Dec (x ≡ y)
name-dec x y = go (same x y) refl
  where
    go : (b : Bool) → same x y ≡ b → Dec (x ≡ y)
    go true e = yes (same_equal x y (of_true e))
    go false e = no (λ k. let z : same x y ≡ true = is_true (same x y) (subst (λ (n : Name). T (same x n)) k (same_refl x)) in absurd (let q : ◌≡◌ {A = Bool} true false = sym z ∙ e in let r : ◌≡◌ {A = ℕ} 0 1 = cc in omega arith))

pub path-equal : (p q : Path) → T (same_path p q) → p ≡ q
unfolding same_path
path-equal [] [] t = refl
path-equal [] (y ∷ q) t = absurd t
path-equal (x ∷ p) [] t = absurd t
path-equal (x ∷ p) (y ∷ q) t =
    let a : x ≡ y = same_equal x y (and_left (same x y) (same_path p q) t) in
    let b : p ≡ q = path-equal p q (and_right (same x y) (same_path p q) t) in
    cc

pub path-refl : (p : Path) → T (same_path p p)
unfolding same_path
path-refl [] = tt
path-refl (x ∷ p) = and_both (same x x) (same_path p p) (same_refl x) (path-refl p)

pub path-yes : (p q : Path) → p ≡ q → same_path p q ≡ true
path-yes p q e = is_true (same_path p q) (subst (λ (r : Path). T (same_path p r)) e (path-refl p))

pub path_no : (p q : Path) → (p ≡ q → ⊥) → same_path p q ≡ false
path_no p q n = is_false (same_path p q) (λ t. n (path-equal p q t))

pub path-dec : (p q : Path) → Dec (p ≡ q)
path-dec p q = go (same_path p q) refl
  where
    go : (b : Bool) → same_path p q ≡ b → Dec (p ≡ q)
    go true e = yes (path-equal p q (of_true e))
    go false e = no (λ k. let z : ◌≡◌ {A = Bool} true false = sym (path-yes p q k) ∙ e in absurd (let r : ◌≡◌ {A = ℕ} 0 1 = cc in omega arith))

-- ---- behind

pub behind-self : (p r : Path) → behind p (p ++ r) ≡ some r
unfolding behind
behind-self [] r = refl
behind-self (x ∷ p) r = rw (is_true (same x x) (same_refl x)) (behind-self p r)

pub behind_is : (p q r : Path) → behind p q ≡ some r → q ≡ p ++ r
unfolding behind
behind_is [] q r h = cc
behind_is (x ∷ p) [] r h = clash (behind (x ∷ p) []) r refl h
behind_is (x ∷ p) (y ∷ q) r h = go (same x y) refl (behind_is p q r) h
  where
    go : (b : Bool) → same x y ≡ b → (behind p q ≡ some r → q ≡ p ++ r) → behind_by b (behind p q) ≡ some r → y ∷ q ≡ x ∷ (p ++ r)
    go true e ih k = let a : x ≡ y = same_equal x y (of_true e) in let c : q ≡ p ++ r = ih k in cc
    go false e ih k = clash (behind_by false (behind p q)) r refl k

-- ---- look

pub look-here : (e : Path × Node) (t : Entries) (q : Path) → e.0 ≡ q → look (e ∷ t) q ≡ some e.1
unfolding look
look-here e t q h = rw (path-yes e.0 q h)

pub look_past : (e : Path × Node) (t : Entries) (q : Path) → (e.0 ≡ q → ⊥) → look (e ∷ t) q ≡ look t q
unfolding look
look_past e t q h = rw (path_no e.0 q h)

pub look-cons : (e : Path × Node) (t s : Entries) (q : Path) → look t q ≡ look s q → look (e ∷ t) q ≡ look (e ∷ s) q
unfolding look
look-cons e t s q h = ap (λ (o : Option Node). or_else (same_path e.0 q) e.1 o) h

pub look_none : (q : Path) → look [] q ≡ none
unfolding look
look_none q = refl

-- ---- less and put

pub less-here : (p : Path) (t : Entries) → look (less p t) p ≡ none
unfolding less look
less-here p [] = refl
less-here p (e ∷ t) = go (same_path e.0 p) refl (less-here p t)
  where
    go : (b : Bool) → same_path e.0 p ≡ b → look (less p t) p ≡ none → look (keep_if (not b) e (less p t)) p ≡ none
    go true h ih = ih
    go false h ih = rw h ih

pub less_past : (p q : Path) (t : Entries) → (p ≡ q → ⊥) → look (less p t) q ≡ look t q
unfolding less look
less_past p q [] n = refl
less_past p q (e ∷ t) n = go (same_path e.0 p) refl (less_past p q t n)
  where
    go : (b : Bool) → same_path e.0 p ≡ b → look (less p t) q ≡ look t q → look (keep_if (not b) e (less p t)) q ≡ look (e ∷ t) q
    go true h ih = ih ∙ sym (look_past e t q (λ k. n (sym (path-equal e.0 p (of_true h)) ∙ k)))
    go false h ih = look-cons e (less p t) t q ih

pub put-here : (p : Path) (n : Node) (t : Entries) → look (put p n t) p ≡ some n
unfolding put
put-here p n t = look-here (p, n) (less p t) p refl

pub put_past : (p q : Path) (n : Node) (t : Entries) → (p ≡ q → ⊥) → look (put p n t) q ≡ look t q
unfolding put
put_past p q n t h = look_past (p, n) (less p t) q h ∙ less_past p q t h

-- ---- a subtree cut, by itself, put behind a path

pub cut_in : (p q r : Path) (t : Entries) → behind p q ≡ some r → look (cut p t) q ≡ none
unfolding cut look
cut_in p q r [] b = refl
cut_in p q r (e ∷ t) b = go (behind p e.0) refl (cut_in p q r t b)
  where
    go : (o : Option Path) → behind p e.0 ≡ o → look (cut p t) q ≡ none → look (unless_behind o e (cut p t)) q ≡ none
    go none h ih = look_past e (cut p t) q (λ k. clash (behind p e.0) r h (ap (behind p) k ∙ b)) ∙ ih
    go (some s) h ih = ih

pub cut_out : (p q : Path) (t : Entries) → behind p q ≡ none → look (cut p t) q ≡ look t q
unfolding cut look
cut_out p q [] b = refl
cut_out p q (e ∷ t) b = go (behind p e.0) refl (cut_out p q t b)
  where
    go : (o : Option Path) → behind p e.0 ≡ o → look (cut p t) q ≡ look t q → look (unless_behind o e (cut p t)) q ≡ look (e ∷ t) q
    go none h ih = look-cons e (cut p t) t q ih
    go (some s) h ih = ih ∙ sym (look_past e t q (λ k. clash (behind p q) s b (ap (behind p) (sym k) ∙ h)))

pub under_look : (p r : Path) (t : Entries) → look (under p t) r ≡ look t (p ++ r)
unfolding under look
under_look p r [] = refl
under_look p r (e ∷ t) = go (behind p e.0) refl (under_look p r t)
  where
    go : (o : Option Path) → behind p e.0 ≡ o → look (under p t) r ≡ look t (p ++ r) → look (if_behind o e.1 (under p t)) r ≡ look (e ∷ t) (p ++ r)
    go none h ih = ih ∙ sym (look_past e t (p ++ r) (λ k. clash (behind p e.0) r h (ap (behind p) k ∙ behind-self p r)))
    go (some s) h ih = two (path-dec s r)
      where
        two : Dec (s ≡ r) → look ((s, e.1) ∷ under p t) r ≡ look (e ∷ t) (p ++ r)
        two (yes k) = look-here (s, e.1) (under p t) r k ∙ sym (look-here e t (p ++ r) (behind_is p e.0 s h ∙ ap (◌++◌ p) k))
        two (no k) =
            look_past (s, e.1) (under p t) r k ∙ ih
            ∙ sym (look_past e t (p ++ r) (λ m. k (some_inj (sym h ∙ ap (behind p) m ∙ behind-self p r))))

pub graft_in : (p q r : Path) (t : Entries) → behind p q ≡ some r → look (graft p t) q ≡ look t r
unfolding graft look
graft_in p q r [] b = refl
graft_in p q r (e ∷ t) b = go (path-dec e.0 r) (graft_in p q r t b)
  where
    go : Dec (e.0 ≡ r) → look (graft p t) q ≡ look t r → look ((p ++ e.0, e.1) ∷ graft p t) q ≡ look (e ∷ t) r
    go (yes k) ih = look-here (p ++ e.0, e.1) (graft p t) q (ap (◌++◌ p) k ∙ sym (behind_is p q r b)) ∙ sym (look-here e t r k)
    go (no k) ih =
        look_past (p ++ e.0, e.1) (graft p t) q (λ m. k (some_inj (sym (behind-self p e.0) ∙ ap (behind p) m ∙ b)))
        ∙ ih ∙ sym (look_past e t r k)

pub graft_out : (p q : Path) (t : Entries) → behind p q ≡ none → look (graft p t) q ≡ none
unfolding graft look
graft_out p q [] b = refl
graft_out p q (e ∷ t) b =
    look_past (p ++ e.0, e.1) (graft p t) q (λ m. clash (behind p q) e.0 b (ap (behind p) (sym m) ∙ behind-self p e.0))
    ∙ graft_out p q t b

abbrev pub or : Option Node → Option Node → Option Node
or none b = b
or (some n) b = some n

pub both_look : (s t : Entries) (q : Path) → look (s ++ t) q ≡ or (look s q) (look t q)
unfolding look
both_look [] t q = refl
both_look (e ∷ s) t q = go (same_path e.0 q) (both_look s t q)
  where
    go : (b : Bool) → look (s ++ t) q ≡ or (look s q) (look t q) → or_else b e.1 (look (s ++ t) q) ≡ or (or_else b e.1 (look s q)) (look t q)
    go true ih = refl
    go false ih = ih

pub give_in : (p q r : Path) (h t : Entries) → behind p q ≡ some r → look (graft p h ++ cut p t) q ≡ look h r
give_in p q r h t b = both_look (graft p h) (cut p t) q ∙ rw (graft_in p q r h b, cut_in p q r t b) (go (look h r))
  where
    go : (o : Option Node) → or o none ≡ o
    go none = refl
    go (some n) = refl

pub give_out : (p q : Path) (h t : Entries) → behind p q ≡ none → look (graft p h ++ cut p t) q ≡ look t q
give_out p q h t b = both_look (graft p h) (cut p t) q ∙ rw (graft_out p q h b) (cut_out p q t b)

-- ---- each path once

abbrev pub Apart : Entries → Type 0
Apart t = Once new_path t

pub apart-less : (p : Path) (t : Entries) → Apart t → Apart (less p t)
unfolding less
apart-less p [] a = tt
apart-less p (e ∷ t) a = go (same_path e.0 p) refl (apart-less p t a.1)
  where
    go : (b : Bool) → same_path e.0 p ≡ b → Apart (less p t) → Apart (keep_if (not b) e (less p t))
    go true h ih = ih
    go false h ih =
        (less_past p e.0 t (λ z. let k : ◌≡◌ {A = Bool} true false = sym (path-yes e.0 p (sym z)) ∙ h in absurd (let r : ◌≡◌ {A = ℕ} 0 1 = cc in omega arith)) ∙ a.0, ih)

pub apart-put : (p : Path) (n : Node) (t : Entries) → Apart t → Apart (put p n t)
unfolding put
apart-put p n t a = (less-here p t, apart-less p t a)

pub apart-cut : (p : Path) (t : Entries) → Apart t → Apart (cut p t)
unfolding cut
apart-cut p [] a = tt
apart-cut p (e ∷ t) a = go (behind p e.0) refl (apart-cut p t a.1)
  where
    go : (o : Option Path) → behind p e.0 ≡ o → Apart (cut p t) → Apart (unless_behind o e (cut p t))
    go none b ih = (cut_out p e.0 t b ∙ a.0, ih)
    go (some r) b ih = ih

pub apart_under : (p : Path) (t : Entries) → Apart t → Apart (under p t)
unfolding under
apart_under p [] a = tt
apart_under p (e ∷ t) a = go (behind p e.0) refl (apart_under p t a.1)
  where
    go : (o : Option Path) → behind p e.0 ≡ o → Apart (under p t) → Apart (if_behind o e.1 (under p t))
    go none b ih = ih
    go (some r) b ih = (under_look p r t ∙ ap (look t) (sym (behind_is p e.0 r b)) ∙ a.0, ih)

pub apart-give : (p : Path) (h t : Entries) → Apart h → Apart t → Apart (graft p h ++ cut p t)
unfolding graft
apart-give p [] t a b = apart-cut p t b
apart-give p (e ∷ h) t a b = (give_in p (p ++ e.0) e.0 h t (behind-self p e.0) ∙ a.0, apart-give p h t a.1 b)

pub less_none : (p : Path) (t : Entries) → look t p ≡ none → less p t ≡ t
unfolding less look
less_none p [] h = refl
less_none p (e ∷ t) h = go (same_path e.0 p) (less_none p t) h
  where
    go : (b : Bool) → (look t p ≡ none → less p t ≡ t) → or_else b e.1 (look t p) ≡ none → keep_if (not b) e (less p t) ≡ e ∷ t
    go true ih h = clash (some e.1) e.1 h refl
    go false ih h = ap (◌∷◌ e) (ih h)
