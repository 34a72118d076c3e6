-- While a call runs on two worlds, the second's entries and names grow by no more than the first's.
-- Assumes nothing.
use mathlib.Core.Bool.{false}
use mathlib.Core.List.{[], ◌∷◌, ◌++◌, append-nil}
use mathlib.Core.Option.{Option, none, some}
use mathlib.Core.Path.{◌≡◌, refl, sym, ap, ◌∙◌}
use Prim.Native.Nat.{ℕ, ◌+◌, ◌≤◌}
use native.Mathlib.Omega.{arith}
use lib.ListN.{length}
use Rattle.path.specs.Path.{Name}
use Rattle.model.specs.Tree.{Path, Node, dir, file, link, Entries, Open, look, open_of, put, new_id, change_meta, name_length, target_length, names_and_targets}
use Rattle.model.specs.Prog.{World, Edit, make, create, symlink, change, remove, take, give, opens, close, seek, change_held, go, umask, apply, change_at, opened_at, change_by}
use Rattle.model.proofs.Entries.{look_none, under_look}
use Rattle.model.proofs.Demand.Over.{Over, excepts_edit}
use Rattle.model.proofs.Demand.OverEdits.{Likes, dirs, files, both_links, likes, not_missed}
use Rattle.model.proofs.Demand.Places.{in_tree, in_hand}
use Rattle.model.proofs.Demand.Tidy.{Tidy}
use Rattle.model.proofs.Demand.Totals.{total, Has, put-used, cut-used, take-used, give-used}

-- where the first has nothing in hand, the second has not
abbrev pub Top : World → World → Type 0
Top w v = look w.hand [] ≡ none → look v.hand [] ≡ none

module _ (d : Path → ℕ) (c : Node → ℕ) (unnamed : d [] ≡ 0) (last : (p : Path) (x : Name) (r : Path) → d (p ++ (x ∷ r)) ≡ d (x ∷ r))
    (like : (n m : Node) → Likes n m → c n ≡ c m) where
  -- of the tree and the hand
  abbrev pub weight : World → ℕ
  weight w = total d c w.at + total d c w.hand

  pub tree_has : (w v : World) → Over w v → Has d c w.at v.at
  tree_has w v r q n k = let h = r.has (in_tree q) n k in (h.0, h.1, like n h.0 (likes n h.0 h.2))

  pub hand_has : (w v : World) → Over w v → Has d c w.hand v.hand
  hand_has w v r q n k = let h = r.has (in_hand q) n k in (h.0, h.1, like n h.0 (likes n h.0 h.2))

  module _ (w v : World) (r : Over w v) (tw : Tidy w) (tv : Tidy v) (top : Top w v) where
    same : weight v + weight w ≤ weight w + weight v
    same = omega arith

    puts : (p : Path) (n m : Node) → c n ≡ c m
        → (total d c (put p m v.at) + total d c v.hand) + weight w ≤ (total d c (put p n w.at) + total d c w.hand) + weight v
    puts p n m e = put-used d c unnamed last w.at w.hand v.at v.hand tw.tree tw.hand tv.tree tv.hand (tree_has w v r) (hand_has w v r) p n m e

    pub weight-edit : (e : Edit) → excepts_edit e w v ≡ false → weight (apply e v) + weight w ≤ weight (apply e w) + weight v
    unfolding apply excepts_edit
    weight-edit (make p m) x = puts p (dir m) (dir m) refl
    weight-edit (create p f) x = puts p (file (new_id w.files)) (file (new_id v.files)) (like _ _ (files (new_id w.files) (new_id v.files)))
    weight-edit (symlink p m s) x = puts p (link m s) (link m s) refl
    weight-edit (change p k) x = at (look w.at p) refl
      where
        on : {n m : Node} → Likes n m → weight (change_at v p k (some m)) + weight w ≤ weight (change_at w p k (some n)) + weight v
        on (dirs a) = puts p (dir (change_meta k a)) (dir (change_meta k a)) refl
        on (files i j) = same
        on (both_links a s) = puts p (link (change_meta k a) s) (link (change_meta k a) s) refl

        at : (o : Option Node) → look w.at p ≡ o → weight (change_at v p k (look v.at p)) + weight w ≤ weight (change_at w p k o) + weight v
        at none q = rw (not_missed w v p x q) same
        at (some n) q = let h = r.has (in_tree p) n q in rw h.1 (on (likes n h.0 h.2))
    weight-edit (remove p) x =
        cut-used d c unnamed last w.at w.hand v.at v.hand tw.tree tw.hand tv.tree tv.hand (tree_has w v r) (hand_has w v r) p
    weight-edit (take p) x =
        take-used d c unnamed last w.at w.hand v.at v.hand tw.tree tw.hand tv.tree tv.hand (tree_has w v r) (hand_has w v r) p
    weight-edit (give p) x =
        give-used d c unnamed last w.at w.hand v.at v.hand tw.tree tw.hand tv.tree tv.hand (tree_has w v r) (hand_has w v r) p top
    weight-edit (opens n p k) x = at (look w.at p) refl
      where
        on : {a b : Node} → Likes a b → weight (opened_at v n p k (some b)) + weight w ≤ weight (opened_at w n p k (some a)) + weight v
        on (dirs a) = same
        on (files i j) = same
        on (both_links a s) = same

        at : (o : Option Node) → look w.at p ≡ o → weight (opened_at v n p k (look v.at p)) + weight w ≤ weight (opened_at w n p k o) + weight v
        at none q = rw (not_missed w v p x q) same
        at (some a) q = let h = r.has (in_tree p) a q in rw h.1 (on (likes a h.0 h.2))
    weight-edit (close n) x = same
    weight-edit (seek n k) x = same
    weight-edit (change_held n k) x = at (open_of w.opens n) (open_of v.opens n)
      where
        at : (a b : Option Open) → weight (change_by v k b) + weight w ≤ weight (change_by w k a) + weight v
        at none none = same
        at none (some b) = same
        at (some a) none = same
        at (some a) (some b) = same
    weight-edit (go p) x = same
    weight-edit (umask m) x = same

-- ---- what is in hand

pub top-edit : (e : Edit) (w v : World) → Over w v → Top w v → excepts_edit e w v ≡ false → Top (apply e w) (apply e v)
unfolding apply excepts_edit
top-edit (make p m) w v r t x = t
top-edit (create p f) w v r t x = t
top-edit (symlink p m s) w v r t x = t
top-edit (change p c) w v r t x = at (look w.at p) (look v.at p)
  where
    hand : (u : World) (o : Option Node) → (change_at u p c o).hand ≡ u.hand
    hand u none = refl
    hand u (some (dir m)) = refl
    hand u (some (file i)) = refl
    hand u (some (link m s)) = refl

    at : (a b : Option Node) → Top (change_at w p c a) (change_at v p c b)
    at a b k = ap (λ (h : Entries). look h []) (hand v b) ∙ t (sym (ap (λ (h : Entries). look h []) (hand w a)) ∙ k)
top-edit (remove p) w v r t x = t
top-edit (take p) w v r t x =
    λ k. under_look p [] v.at ∙ ap (look v.at) (append-nil p)
    ∙ not_missed w v p x (sym (under_look p [] w.at ∙ ap (look w.at) (append-nil p)) ∙ k)
top-edit (give p) w v r t x = λ k. look_none []
top-edit (opens n p k) w v r t x = at (look w.at p) (look v.at p)
  where
    hand : (u : World) (o : Option Node) → (opened_at u n p k o).hand ≡ u.hand
    hand u none = refl
    hand u (some (dir m)) = refl
    hand u (some (file i)) = refl
    hand u (some (link m s)) = refl

    at : (a b : Option Node) → Top (opened_at w n p k a) (opened_at v n p k b)
    at a b q = ap (λ (h : Entries). look h []) (hand v b) ∙ t (sym (ap (λ (h : Entries). look h []) (hand w a)) ∙ q)
top-edit (close n) w v r t x = t
top-edit (seek n k) w v r t x = t
top-edit (change_held n c) w v r t x = at (open_of w.opens n) (open_of v.opens n)
  where
    hand : (u : World) (o : Option Open) → (change_by u c o).hand ≡ u.hand
    hand u none = refl
    hand u (some o) = refl

    at : (a b : Option Open) → Top (change_by w c a) (change_by v c b)
    at a b q = ap (λ (h : Entries). look h []) (hand v b) ∙ t (sym (ap (λ (h : Entries). look h []) (hand w a)) ∙ q)
top-edit (go p) w v r t x = t
top-edit (umask m) w v r t x = t

-- ---- the two sums of 01

pub total-length : (t : Entries) → total (λ p. 0) (λ n. 1) t ≡ length t
unfolding total
total-length [] = refl
total-length (e ∷ t) = omega (arith, total-length t)

pub total-names : (t : Entries) → total name_length target_length t ≡ names_and_targets t
unfolding total names_and_targets
total-names [] = refl
total-names (e ∷ t) = omega (arith, total-names t)

pub last_name_lem : (p : Path) (x : Name) (r : Path) → name_length (p ++ (x ∷ r)) ≡ name_length (x ∷ r)
unfolding name_length
last_name_lem [] x r = refl
last_name_lem (y ∷ []) x r = refl
last_name_lem (y ∷ z ∷ p) x r = last_name_lem (z ∷ p) x r

pub root-name : name_length [] ≡ 0
unfolding name_length
root-name = refl

pub like-target : (n m : Node) → Likes n m → target_length n ≡ target_length m
like-target n m l = go l
  where
    go : {a b : Node} → Likes a b → target_length a ≡ target_length b
    go (dirs a) = refl
    go (files i j) = unfold target_length in refl
    go (both_links a s) = refl
