-- Entries that keep the rules among themselves keep them after an edit: what a look finds then was put there, or stood in the
-- tree or in hand before.
-- Assumes nothing.
use mathlib.Core.Bool.{Bool}
use mathlib.Core.List.{[], ◌∷◌, ◌++◌, append_assoc, append_cancel_left}
use mathlib.Core.Logic.{◌⊎◌, inl, inr}
use mathlib.Core.Option.{Option, none, some}
use mathlib.Core.Path.{◌≡◌, refl, sym, ap, ◌∙◌, subst}
use Prim.Native.Nat.{ℕ}
use native.Mathlib.Omega.{arith}
use lib.Dec.{T}
use lib.ListN.{length, length-append}
use Rattle.path.specs.Path.{Name, same}
use Rattle.path.proofs.Laws.{and_left, and_right, and_both, same_refl}
use Rattle.model.specs.Tree.{Path, Meta, Node, dir, file, Entries, Files, look, behind_by, behind, put, cut, under, graft}
use Rattle.model.specs.Rules.{name_ok, names_ok, NodeOk}
use Rattle.model.proofs.Entries.{is_true, clash, some_inj, path-dec, behind-self, behind_is, look_none, put-here, put_past, cut_in, cut_out, under_look, give_in, give_out, apart-put, apart-cut, apart_under, apart-give}
use Rattle.model.proofs.Sound.Worlds.{IsDir, Tidy, Housed}

-- ---- paths

-- two paths that end alike begin alike
pub snoc-equal : (p q : Path) (x y : Name) → p ++ (x ∷ []) ≡ q ++ (y ∷ []) → p ≡ q
snoc-equal [] [] x y h = refl
snoc-equal [] (b ∷ []) x y h = absurd (let z : ◌≡◌ {A = ℕ} 0 1 = cc in omega arith)
snoc-equal [] (b ∷ (c ∷ q)) x y h = absurd (let z : ◌≡◌ {A = ℕ} 0 1 = cc in omega arith)
snoc-equal (a ∷ []) [] x y h = absurd (let z : ◌≡◌ {A = ℕ} 0 1 = cc in omega arith)
snoc-equal (a ∷ (c ∷ p)) [] x y h = absurd (let z : ◌≡◌ {A = ℕ} 0 1 = cc in omega arith)
snoc-equal (a ∷ p) (b ∷ q) x y h = cc (snoc-equal p q x y (cc))

-- a path with a name more is another
grows : (q : Path) (x : Name) → q ≡ q ++ (x ∷ []) → ⊥
grows q x h = omega (arith, ap length h, length-append q (x ∷ []))

-- and not the root
pub snoc-root : (q : Path) (x : Name) → q ++ (x ∷ []) ≡ [] → ⊥
snoc-root q x h = omega (arith, ap length h, length-append q (x ∷ []))

-- what lies behind a path, one name on
pub behind-snoc : (p q r : Path) (x : Name) → behind p q ≡ some r → behind p (q ++ (x ∷ [])) ≡ some (r ++ (x ∷ []))
behind-snoc p q r x h = rw (behind_is p q r h, append_assoc) (behind-self p (r ++ (x ∷ [])))

-- a path that is not behind p, and is with a name more, is p without its last name
last_name_lem : (p q r : Path) (x : Name) → behind p q ≡ none → p ++ r ≡ q ++ (x ∷ []) → p ≡ q ++ (x ∷ [])
unfolding behind
last_name_lem [] q r x h e = clash (some q) q h refl
last_name_lem (a ∷ []) [] r x h e = cc
last_name_lem (a ∷ (b ∷ p)) [] r x h e = absurd (let z : ◌≡◌ {A = ℕ} 0 1 = cc in omega arith)
last_name_lem (a ∷ p) (b ∷ q) r x h e =
    let k : a ≡ b = cc in
    cc (last_name_lem p q r x (subst (λ (c : Bool). behind_by c (behind p q) ≡ none) (is_true (same a b) (subst (λ (c : Name). T (same a c)) k (same_refl a))) h) (cc))

-- the names of a path, those before
pub names_left : (p q : Path) → T (names_ok (p ++ q)) → T (names_ok p)
unfolding names_ok
names_left [] q h = tt
names_left (n ∷ p) q h =
    and_both (name_ok n) (names_ok p) (and_left (name_ok n) (names_ok (p ++ q)) h) (names_left p q (and_right (name_ok n) (names_ok (p ++ q)) h))

-- the names behind
pub names_right : (p q : Path) → T (names_ok (p ++ q)) → T (names_ok q)
unfolding names_ok
names_right [] q h = h
names_right (n ∷ p) q h = names_right p q (and_right (name_ok n) (names_ok (p ++ q)) h)

-- and joined
pub names_both : (p q : Path) → T (names_ok p) → T (names_ok q) → T (names_ok (p ++ q))
unfolding names_ok
names_both [] q h k = k
names_both (n ∷ p) q h k =
    and_both (name_ok n) (names_ok (p ++ q)) (and_left (name_ok n) (names_ok p) h) (names_both p q (and_right (name_ok n) (names_ok p) h) k)

-- ---- what stands in edited entries

-- after a put: the node put there, or what stood there
pub put_some : (p : Path) (n : Node) (t : Entries) (q : Path) (m : Node) → look (put p n t) q ≡ some m
    → ((p ≡ q) × (n ≡ m)) ⊎ ((p ≡ q → ⊥) × (look t q ≡ some m))
put_some p n t q m h = go (path-dec p q)
  where
    go : Dec (p ≡ q) → ((p ≡ q) × (n ≡ m)) ⊎ ((p ≡ q → ⊥) × (look t q ≡ some m))
    go (yes e) = inl (e, some_inj (sym (put-here p n t) ∙ ap (look (put p n t)) e ∙ h))
    go (no e) = inr (e, sym (put_past p q n t e) ∙ h)

-- after a cut: what stood there, outside what is cut
pub cut_some : (p : Path) (t : Entries) (q : Path) (m : Node) → look (cut p t) q ≡ some m → (behind p q ≡ none) × (look t q ≡ some m)
cut_some p t q m h = go (behind p q) refl
  where
    go : (o : Option Path) → behind p q ≡ o → (behind p q ≡ none) × (look t q ≡ some m)
    go none e = (e, sym (cut_out p q t e) ∙ h)
    go (some r) e = clash (look (cut p t) q) m (cut_in p q r t e) h

-- after a give: what was in hand, or what stood there outside
pub give_some : (p : Path) (g t : Entries) (q : Path) (m : Node) → look (graft p g ++ cut p t) q ≡ some m
    → ((r : Path) × (behind p q ≡ some r) × (look g r ≡ some m)) ⊎ ((behind p q ≡ none) × (look t q ≡ some m))
give_some p g t q m h = go (behind p q) refl
  where
    go : (o : Option Path) → behind p q ≡ o → ((r : Path) × (behind p q ≡ some r) × (look g r ≡ some m)) ⊎ ((behind p q ≡ none) × (look t q ≡ some m))
    go none e = inr (e, sym (give_out p q g t e) ∙ h)
    go (some r) e = inl (r, e, sym (give_in p q r g t e) ∙ h)

-- ---- the edits

-- what stands below the path, if anything does, has the node for a directory
abbrev pub Fit : Path → Node → Entries → Type 0
Fit p n t = (x : Name) (k : Node) → look t (p ++ (x ∷ [])) ≡ some k → (m : Meta) × (n ≡ dir m)

-- no other entry is the same file
abbrev Alone : Path → Node → Entries → Type 0
Alone p n t = (q : Path) (i : ℕ) → n ≡ file i → look t q ≡ some (file i) → p ≡ q

module _ (fs : Files) (t : Entries) (s : Tidy fs t) (p : Path) where
  -- a node put at a path
  pub tidy-put : (n : Node) → T (names_ok p) → NodeOk fs n → Housed p t → Fit p n t → Alone p n t → Tidy fs (put p n t)
  tidy-put n ok k u f a = record {
    paths = apart-put p n t s.paths;
    parents = λ q x m h. two q x m (path-dec p q) (put_some p n t (q ++ (x ∷ [])) m h);
    named = λ q m h. elim (put_some p n t q m h) [ inl e ↦ subst (λ (r : Path). T (names_ok r)) e.0 ok | inr e ↦ s.named q m e.1 ];
    nodes = λ q m h. elim (put_some p n t q m h) [ inl e ↦ subst (NodeOk fs) e.1 k | inr e ↦ s.nodes q m e.1 ];
    one_name = λ q r i h j. once q r i (put_some p n t q (file i) h) (put_some p n t r (file i) j);
  }
    where
      two : (q : Path) (x : Name) (m : Node) → Dec (p ≡ q)
          → ((p ≡ q ++ (x ∷ [])) × (n ≡ m)) ⊎ ((p ≡ q ++ (x ∷ []) → ⊥) × (look t (q ++ (x ∷ [])) ≡ some m)) → IsDir (put p n t) q
      two q x m (yes y) (inl z) = absurd (grows q x (sym y ∙ z.0))
      two q x m (yes y) (inr z) =
          let d = f x m (ap (λ (r : Path). look t (r ++ (x ∷ []))) y ∙ z.1) in
          (d.0, ap (look (put p n t)) (sym y) ∙ put-here p n t ∙ ap some d.1)
      two q x m (no y) (inl z) = let d = u q x z.0 in (d.0, put_past p q n t y ∙ d.1)
      two q x m (no y) (inr z) = let d = s.parents q x m z.1 in (d.0, put_past p q n t y ∙ d.1)

      once : (q r : Path) (i : ℕ) → ((p ≡ q) × (n ≡ file i)) ⊎ ((p ≡ q → ⊥) × (look t q ≡ some (file i)))
          → ((p ≡ r) × (n ≡ file i)) ⊎ ((p ≡ r → ⊥) × (look t r ≡ some (file i))) → q ≡ r
      once q r i (inl y) (inl z) = sym y.0 ∙ z.0
      once q r i (inl y) (inr z) = sym y.0 ∙ a r i y.1 z.1
      once q r i (inr y) (inl z) = sym (a q i z.1 y.1) ∙ z.0
      once q r i (inr y) (inr z) = s.one_name q r i y.1 z.1

  -- a subtree cut out
  pub tidy-cut : Tidy fs (cut p t)
  tidy-cut = record {
    paths = apart-cut p t s.paths;
    parents = λ q x m h. let c = cut_some p t (q ++ (x ∷ [])) m h in let d = s.parents q x m c.1 in (d.0, cut_out p q t (before q x c.0) ∙ d.1);
    named = λ q m h. s.named q m (cut_some p t q m h).1;
    nodes = λ q m h. s.nodes q m (cut_some p t q m h).1;
    one_name = λ q r i h j. s.one_name q r i (cut_some p t q (file i) h).1 (cut_some p t r (file i) j).1;
  }
    where
      before : (q : Path) (x : Name) → behind p (q ++ (x ∷ [])) ≡ none → behind p q ≡ none
      before q x h = go (behind p q) refl
        where
          go : (o : Option Path) → behind p q ≡ o → behind p q ≡ none
          go none e = e
          go (some r) e = clash (behind p (q ++ (x ∷ []))) (r ++ (x ∷ [])) h (behind-snoc p q r x e)

  -- a subtree by itself
  pub tidy_under : Tidy fs (under p t)
  tidy_under = record {
    paths = apart_under p t s.paths;
    parents = λ q x m h. let d = s.parents (p ++ q) x m (rw append_assoc (sym (under_look p (q ++ (x ∷ [])) t) ∙ h)) in (d.0, under_look p q t ∙ d.1);
    named = λ q m h. names_right p q (s.named (p ++ q) m (sym (under_look p q t) ∙ h));
    nodes = λ q m h. s.nodes (p ++ q) m (sym (under_look p q t) ∙ h);
    one_name = λ q r i h j. append_cancel_left p q r (s.one_name (p ++ q) (p ++ r) i (sym (under_look p q t) ∙ h) (sym (under_look p r t) ∙ j));
  }

  -- a subtree put behind a path
  pub tidy-give : (g : Entries) → Tidy fs g → T (names_ok p) → Housed p t
      → ((q r : Path) (i : ℕ) → look t q ≡ some (file i) → look g r ≡ some (file i) → ⊥) → Tidy fs (graft p g ++ cut p t)
  tidy-give g v ok u a = record {
    paths = apart-give p g t v.paths s.paths;
    parents = λ q x m h. two q x m (behind p q) refl (give_some p g t (q ++ (x ∷ [])) m h);
    named = λ q m h. elim (give_some p g t q m h) [ inl e ↦ subst (λ (k : Path). T (names_ok k)) (sym (behind_is p q e.0 e.1)) (names_both p e.0 ok (v.named e.0 m e.2)) | inr e ↦ s.named q m e.1 ];
    nodes = λ q m h. elim (give_some p g t q m h) [ inl e ↦ v.nodes e.0 m e.2 | inr e ↦ s.nodes q m e.1 ];
    one_name = λ q r i h j. once q r i (give_some p g t q (file i) h) (give_some p g t r (file i) j);
  }
    where
      two : (q : Path) (x : Name) (m : Node) (o : Option Path) → behind p q ≡ o
          → ((r : Path) × (behind p (q ++ (x ∷ [])) ≡ some r) × (look g r ≡ some m)) ⊎ ((behind p (q ++ (x ∷ [])) ≡ none) × (look t (q ++ (x ∷ [])) ≡ some m))
          → IsDir (graft p g ++ cut p t) q
      two q x m (some r) y (inl z) =
          let d = v.parents r x m (subst (λ (k : Path). look g k ≡ some m) (some_inj (sym z.1 ∙ behind-snoc p q r x y)) z.2) in
          (d.0, give_in p q r g t y ∙ d.1)
      two q x m (some r) y (inr z) = clash (behind p (q ++ (x ∷ []))) (r ++ (x ∷ [])) z.0 (behind-snoc p q r x y)
      two q x m none y (inl z) = let d = u q x (last_name_lem p q z.0 x y (sym (behind_is p (q ++ (x ∷ [])) z.0 z.1))) in (d.0, give_out p q g t y ∙ d.1)
      two q x m none y (inr z) = let d = s.parents q x m z.1 in (d.0, give_out p q g t y ∙ d.1)

      once : (q r : Path) (i : ℕ) → ((k : Path) × (behind p q ≡ some k) × (look g k ≡ some (file i))) ⊎ ((behind p q ≡ none) × (look t q ≡ some (file i)))
          → ((k : Path) × (behind p r ≡ some k) × (look g k ≡ some (file i))) ⊎ ((behind p r ≡ none) × (look t r ≡ some (file i))) → q ≡ r
      once q r i (inl y) (inl z) =
          behind_is p q y.0 y.1 ∙ ap (◌++◌ p) (v.one_name y.0 z.0 i y.2 z.2) ∙ sym (behind_is p r z.0 z.1)
      once q r i (inl y) (inr z) = absurd (a r y.0 i z.1 y.2)
      once q r i (inr y) (inl z) = absurd (a q z.0 i y.1 z.2)
      once q r i (inr y) (inr z) = s.one_name q r i y.1 z.1

-- no entries at all
pub tidy_none : (fs : Files) → Tidy fs []
tidy_none fs = record {
  paths = tt;
  parents = λ p x n h. clash (look [] (p ++ (x ∷ []))) n (look_none (p ++ (x ∷ []))) h;
  named = λ p n h. clash (look [] p) n (look_none p) h;
  nodes = λ p n h. clash (look [] p) n (look_none p) h;
  one_name = λ p q i h k. clash (look [] p) (file i) (look_none p) h;
}
