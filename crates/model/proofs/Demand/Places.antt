-- An edit moves entries about: what stands at a place afterwards stood at another before, is new, or is gone, and which of these
-- does not depend on the tree. So a law about two trees is shown once for all edits.
-- Assumes nothing.
use mathlib.Core.Bool.{Bool, true, false}
use mathlib.Core.List.{[], ◌++◌}
use mathlib.Core.Option.{Option, none, some}
use mathlib.Core.Path.{◌≡◌, refl, sym, ap, ◌∙◌}
use Rattle.model.specs.Tree.{Path, Node, Entries, same_path, look, behind, put, cut, under, graft}
use Rattle.model.specs.Prog.{World}
use Rattle.model.proofs.Entries.{path-yes, path-equal, of_true, look_none, put-here, put_past, cut_in, cut_out, under_look, give_in, give_out}

pub data Place : Type 0 where
  in_tree : Path → Place
  in_hand : Path → Place

-- what stands at a place
abbrev pub seen_in : Entries → Entries → Place → Option Node
seen_in t h (in_tree p) = look t p
seen_in t h (in_hand p) = look h p

abbrev pub seen : World → Place → Option Node
seen w pl = seen_in w.at w.hand pl

-- where what stands at a place comes from
pub data Origin : Type 0 where
  old : Place → Origin
  new : Node → Origin
  gone : Origin

abbrev pub comes : Origin → (Place → Option Node) → Option Node
comes (old pl) f = f pl
comes (new n) f = some n
comes gone f = none

-- a tree and hand that an edit makes of another: by their origins
abbrev pub Moved : (Place → Origin) → Entries → Entries → Entries → Entries → Type 0
Moved o t h t' h' = (pl : Place) → seen_in t' h' pl ≡ comes (o pl) (seen_in t h)

-- ---- a node put at a path

abbrev pub pick_origin : Bool → Origin → Origin → Origin
pick_origin true a b = a
pick_origin false a b = b

abbrev pub put_origin : Path → Node → Place → Origin
put_origin p n (in_tree q) = pick_origin (same_path p q) (new n) (old (in_tree q))
put_origin p n (in_hand q) = old (in_hand q)

pub put-moved : (p : Path) (n : Node) (t h : Entries) → Moved (put_origin p n) t h (put p n t) h
put-moved p n t h (in_tree q) = go (same_path p q) refl
  where
    go : (b : Bool) → same_path p q ≡ b → look (put p n t) q ≡ comes (pick_origin b (new n) (old (in_tree q))) (seen_in t h)
    go true e = ap (look (put p n t)) (sym (path-equal p q (of_true e))) ∙ put-here p n t
    go false e = put_past p q n t (λ k. let z : true ≡ false = sym (path-yes p q k) ∙ e in mathlib.Core.Bool.false≢true (sym z))
put-moved p n t h (in_hand q) = refl

-- ---- a subtree cut, taken, given

abbrev pub by_behind : Option Path → (Path → Origin) → Origin → Origin
by_behind none f o = o
by_behind (some r) f o = f r

abbrev pub cut_origin : Path → Place → Origin
cut_origin p (in_tree q) = by_behind (behind p q) (λ r. gone) (old (in_tree q))
cut_origin p (in_hand q) = old (in_hand q)

pub cut_moved : (p : Path) (t h : Entries) → Moved (cut_origin p) t h (cut p t) h
cut_moved p t h (in_tree q) = go (behind p q) refl
  where
    go : (o : Option Path) → behind p q ≡ o → look (cut p t) q ≡ comes (by_behind o (λ r. gone) (old (in_tree q))) (seen_in t h)
    go none e = cut_out p q t e
    go (some r) e = cut_in p q r t e
cut_moved p t h (in_hand q) = refl

abbrev pub take_origin : Path → Place → Origin
take_origin p (in_tree q) = by_behind (behind p q) (λ r. gone) (old (in_tree q))
take_origin p (in_hand q) = old (in_tree (p ++ q))

pub take-moved : (p : Path) (t h : Entries) → Moved (take_origin p) t h (cut p t) (under p t)
take-moved p t h (in_tree q) = cut_moved p t h (in_tree q)
take-moved p t h (in_hand q) = under_look p q t

abbrev pub give_origin : Path → Place → Origin
give_origin p (in_tree q) = by_behind (behind p q) (λ r. old (in_hand r)) (old (in_tree q))
give_origin p (in_hand q) = gone

pub give-moved : (p : Path) (t h : Entries) → Moved (give_origin p) t h (graft p h ++ cut p t) []
give-moved p t h (in_tree q) = go (behind p q) refl
  where
    go : (o : Option Path) → behind p q ≡ o → look (graft p h ++ cut p t) q ≡ comes (by_behind o (λ r. old (in_hand r)) (old (in_tree q))) (seen_in t h)
    go none e = give_out p q h t e
    go (some r) e = give_in p q r h t e
give-moved p t h (in_hand q) = look_none q

-- ---- the hand dropped

abbrev pub drop_origin : Place → Origin
drop_origin (in_tree q) = old (in_tree q)
drop_origin (in_hand q) = gone

pub drop-moved : (t h : Entries) → Moved drop_origin t h t []
drop-moved t h (in_tree q) = refl
drop-moved t h (in_hand q) = look_none q

-- nothing moved
abbrev pub stay_origin : Place → Origin
stay_origin pl = old pl

pub stay-moved : (t h : Entries) → Moved stay_origin t h t h
stay-moved t h (in_tree q) = refl
stay-moved t h (in_hand q) = refl
