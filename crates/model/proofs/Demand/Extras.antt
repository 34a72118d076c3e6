-- The files that only the second world names: an edit of both makes none, and changes none.
-- Assumes nothing.
use mathlib.Core.Bool.{false}
use mathlib.Core.Logic.{◌⊎◌, inl, inr}
use mathlib.Core.Option.{Option, none, some}
use mathlib.Core.Path.{◌≡◌, refl, sym, ap, ◌∙◌}
use Prim.Native.Nat.{ℕ}
use Rattle.model.specs.Tree.{Path, File, Node, dir, file, link, Files, Open, look, file_of, open_of, put, cut, Change, change_meta, set_file, new_id}
use Rattle.model.specs.Prog.{World, Edit, make, create, symlink, change, remove, take, give, opens, close, seek, change_held, go, umask, apply, with_tree, with_files, change_at, opened_at, change_by}
use Rattle.model.proofs.Entries.{clash}
use Rattle.model.proofs.Demand.Places.{Place, in_tree, seen, Origin, comes, Moved, put_origin, put-moved, cut_origin, cut_moved, take_origin, take-moved, give_origin, give-moved}
use Rattle.model.proofs.Demand.Over.{Paired, at_place, Over, pair-number, lone-number, NoNewFile, traced, excepts_edit}
use Rattle.model.proofs.Demand.OverEdits.{Likes, dirs, files, both_links, likes, not_missed, set_past, cons_past, not_new, put_no_new, cut_no_new, take_no_new, give_no_new, dir_no_file, link_no_file, made, made-seen}

-- a file that the second world names where the first has nothing
abbrev pub Extra : World → World → ℕ → Type 0
Extra w v j = (pl : Place) × (seen v pl ≡ some (file j)) × (seen w pl ≡ none)

-- such a file was one before, with the same bytes
abbrev pub Shrinks : World → World → World → World → Type 0
Shrinks w v w' v' = (j : ℕ) (f : File) → Extra w' v' j → file_of v'.files j ≡ some f → Extra w v j × (file_of v.files j ≡ some f)

pub shrink-moved : (w v w' v' : World) (o : Place → Origin) → Moved o w.at w.hand w'.at w'.hand → Moved o v.at v.hand v'.at v'.hand
    → NoNewFile o → v'.files ≡ v.files → Shrinks w v w' v'
shrink-moved w v w' v' o mw mv nn fv j f x e =
    let t = traced v v' o mv nn x.0 j x.1 in
    ((t.0, t.2, sym (mw x.0 ∙ ap (λ (y : Origin). comes y (seen w)) t.1) ∙ x.2), ap (λ (fs : Files). file_of fs j) (sym fv) ∙ e)

shrink-files : (w v : World) (i j : ℕ) (c : Change) → Over w v → Paired w v i j
    → Shrinks w v (with_files w (set_file i c w.files)) (with_files v (set_file j c v.files))
shrink-files w v i j c r p k f x e = ((x.0, x.1, x.2), sym (set_past j k c v.files other) ∙ e)
  where
    other : j ≡ k → ⊥
    other d = clash (seen w x.0) (file i) x.2 (r.covers i j p x.0 (x.1 ∙ ap (λ (z : ℕ). some (file z)) (sym d)))

shrink-put : (w v : World) (p : Path) (n : Node) → ((i : ℕ) → n ≡ file i → ⊥) → Shrinks w v (with_tree w (put p n w.at)) (with_tree v (put p n v.at))
shrink-put w v p n h =
    shrink-moved w v (with_tree w (put p n w.at)) (with_tree v (put p n v.at)) (put_origin p n) (put-moved p n w.at w.hand) (put-moved p n v.at v.hand)
    (put_no_new p n h) refl

shrink-made : (w v : World) (p : Path) (f : File) (r : Over w v) → Shrinks w v (made w v p f r w) (made w v p f r v)
unfolding made
shrink-made w v p f r j g x e = go (made-seen w v p f r v x.0) (made-seen w v p f r w x.0)
  where
    go : ((x.0 ≡ in_tree p) × (seen (made w v p f r v) x.0 ≡ some (file (new_id v.files)))) ⊎ (seen (made w v p f r v) x.0 ≡ seen v x.0)
        → ((x.0 ≡ in_tree p) × (seen (made w v p f r w) x.0 ≡ some (file (new_id w.files)))) ⊎ (seen (made w v p f r w) x.0 ≡ seen w x.0)
        → Extra w v j × (file_of v.files j ≡ some g)
    go y (inl z) = clash (seen (made w v p f r w) x.0) (file (new_id w.files)) x.2 z.1
    go (inl y) (inr z) = two (made-seen w v p f r w (in_tree p))
      where
        two : ((in_tree p ≡ in_tree p) × (seen (made w v p f r w) (in_tree p) ≡ some (file (new_id w.files)))) ⊎ (seen (made w v p f r w) (in_tree p) ≡ seen w (in_tree p))
            → Extra w v j × (file_of v.files j ≡ some g)
        two (inl q) = clash (seen (made w v p f r w) x.0) (file (new_id w.files)) x.2 (ap (seen (made w v p f r w)) y.0 ∙ q.1)
        two (inr q) =
            clash (seen (made w v p f r w) (in_tree p)) (file (new_id w.files)) (ap (seen (made w v p f r w)) (sym y.0) ∙ x.2)
            (Rattle.model.proofs.Entries.put-here p (file (new_id w.files)) w.at)
    go (inr y) (inr z) =
        let k : seen v x.0 ≡ some (file j) = sym y ∙ x.1 in
        ((x.0, k, sym z ∙ x.2), sym (cons_past (new_id v.files) j f v.files (not_new v.files j (r.grounded x.0 j k))) ∙ e)

pub shrink-edit : (e : Edit) (w v : World) → Over w v → excepts_edit e w v ≡ false → Shrinks w v (apply e w) (apply e v)
unfolding apply excepts_edit made
shrink-edit (make p m) w v r x = shrink-put w v p (dir m) (dir_no_file m)
shrink-edit (create p f) w v r x = shrink-made w v p f r
shrink-edit (symlink p m s) w v r x = shrink-put w v p (link m s) (link_no_file m s)
shrink-edit (change p c) w v r x = at (look w.at p) refl
  where
    on : {n m : Node} → Likes n m → look w.at p ≡ some n → look v.at p ≡ some m → Shrinks w v (change_at w p c (some n)) (change_at v p c (some m))
    on (dirs a) y z = shrink-put w v p (dir (change_meta c a)) (dir_no_file _)
    on (files i j) y z = shrink-files w v i j c r (at_place (in_tree p) y z)
    on (both_links a s) y z = shrink-put w v p (link (change_meta c a) s) (link_no_file _ _)

    at : (o : Option Node) → look w.at p ≡ o → Shrinks w v (change_at w p c o) (change_at v p c (look v.at p))
    at none k = rw (not_missed w v p x k) (λ j f y e. (y, e))
    at (some n) k = let h = r.has (in_tree p) n k in rw h.1 (on (likes n h.0 h.2) k h.1)
shrink-edit (remove p) w v r x =
    shrink-moved w v (with_tree w (cut p w.at)) (with_tree v (cut p v.at)) (cut_origin p) (cut_moved p w.at w.hand) (cut_moved p v.at v.hand)
    (cut_no_new p) refl
shrink-edit (take p) w v r x =
    shrink-moved w v (apply (take p) w) (apply (take p) v) (take_origin p) (take-moved p w.at w.hand) (take-moved p v.at v.hand) (take_no_new p) refl
shrink-edit (give p) w v r x =
    shrink-moved w v (apply (give p) w) (apply (give p) v) (give_origin p) (give-moved p w.at w.hand) (give-moved p v.at v.hand) (give_no_new p) refl
shrink-edit (opens n p k) w v r x = at (look w.at p) refl
  where
    on : {a b : Node} → Likes a b → Shrinks w v (opened_at w n p k (some a)) (opened_at v n p k (some b))
    on (dirs a) j f y e = (y, e)
    on (files i l) j f y e = (y, e)
    on (both_links a s) j f y e = (y, e)

    at : (o : Option Node) → look w.at p ≡ o → Shrinks w v (opened_at w n p k o) (opened_at v n p k (look v.at p))
    at none q = rw (not_missed w v p x q) (λ j f y e. (y, e))
    at (some a) q = let h = r.has (in_tree p) a q in rw h.1 (on (likes a h.0 h.2))
shrink-edit (close n) w v r x = λ j f y e. (y, e)
shrink-edit (seek n k) w v r x = λ j f y e. (y, e)
shrink-edit (change_held n c) w v r x = at (open_of w.opens n) refl
  where
    at : (o : Option Open) → open_of w.opens n ≡ o → Shrinks w v (change_by w c o) (change_by v c (open_of v.opens n))
    at none q = rw (lone-number w v r n q) (λ j f y e. (y, e))
    at (some a) q = let h = pair-number w v r n a q in rw h.1 (shrink-files w v a.id h.0.id c r h.3)
shrink-edit (go p) w v r x = λ j f y e. (y, e)
shrink-edit (umask m) w v r x = λ j f y e. (y, e)
