-- Where a path's walk was not refused, the lookup of the path without its last name is not refused in a tree with fewer entries.
-- Its last links and its links before the last name are all links before the last name of the whole path's one no-follow lookup:
-- so they are at most 40, its paths are shorter, and it meets none of them twice.
-- Assumes nothing.
use mathlib.Core.List.{List, [], ◌∷◌, ◌++◌}
use mathlib.Core.Logic.{◌⊎◌, inl, inr}
use mathlib.Core.Option.{none, some}
use mathlib.Core.Path.{◌≡◌, refl, sym, ap, ◌∙◌, subst}
use Prim.Native.Nat.{ℕ, zero, suc, ◌≤◌}
use native.Mathlib.Omega.{arith}
use lib.Dec.{T}
use Rattle.text.specs.Utf8.{Bytes}
use Rattle.path.specs.Path.{Name, path_fits}
use Rattle.model.specs.Tree.{Path, Meta, link, look, links_in}
use Rattle.model.specs.Prog.{World, a_dir, Prog, ◌>>=◌, Out, done, run}
use Rattle.model.specs.Lookup.{End, found, missing, last_link, Met, ends, mid_link, until_symlink, behind_link, ended, no_follow, most_links, Where, reached, following, lookup}
use Rattle.model.proofs.Running.{then, run_bind}
use Rattle.model.proofs.Entries.{clash}
use Rattle.model.proofs.Lookups.Pure.{bind-run, next, along, no_follow_is, reach, look_from, following_is}
use Rattle.model.proofs.Lookups.Beside.{Within, Beside, gone, stands, last, mid, follows}
use Rattle.model.proofs.Lookups.Counting.{Goes, stops, leads, behind-run}
use Rattle.model.proofs.Sound.Paths.{fits_left}
use Rattle.model.proofs.Lookups.Linked.{next_same, next_snoc, Room, room_first, room-along, room-spent}

-- ---- lookups, step by step

-- programs that run alike go on alike
bind_same : {A B : Type 0} (p q : Prog A) (f : A → Prog B) (w : World) → run p w ≡ run q w → run (p >>= f) w ≡ run (q >>= f) w
bind_same p q f w e = run_bind p f w ∙ ap (λ (o : Out _). then o (λ a u. run (f a) u)) e ∙ sym (run_bind q f w)

module _ (w : World) (k : ℕ) (p : Path) (ls : List Path) where
  -- a no-follow lookup behind its first walk
  first_walk : (m : Met) → run (until_symlink [] p) w ≡ done m w → run (no_follow k p ls) w ≡ run (ended ls m (along k ls)) w
  first_walk m e = rw no_follow_is (bind-run (until_symlink [] p) (λ m. ended ls m (along k ls)) w w e)

  no_follow-ends : (m : End) → run (until_symlink [] p) w ≡ done (ends m) w → run (no_follow k p ls) w ≡ done (record { end = m; links = ls }) w
  unfolding ended run
  no_follow-ends m e = first_walk (ends m) e

no_follow-leads : (w : World) (k : ℕ) (p : Path) (ls : List Path) (d : Path) (g : List Name)
    → run (until_symlink [] p) w ≡ done (mid_link d g) w
    → T (path_fits (next w d g)) → run (no_follow (suc k) p ls) w ≡ run (no_follow k (next w d g) (ls ++ (d ∷ []))) w
unfolding ended
no_follow-leads w k p ls d g e h =
    first_walk w (suc k) p ls (mid_link d g) e ∙ bind-run (behind_link d g) (λ q. no_follow k q (ls ++ (d ∷ []))) w w (behind-run w d g h)

-- ---- the lookup of the shorter path

-- the program answers on the world, and P holds of the answer
pub record Lands (v : World) (P : Where → Type 0) (p : Prog Where) : Type 0 where
  pub found : Where
  pub runs : run p v ≡ done found v
  pub holds : P found

-- m is where the whole path's walk ends; P is known from the step at which the shorter walk ends, at no link
module _ (w v : World) (m : End) (x : Name) (within : Within v.at w.at) (P : Where → Type 0)
    (is-gone : (r z : Path) (n : ℕ) (ls : List Path) → Goes w m (r ++ (x ∷ [])) n
    → run (until_symlink [] r) v ≡ done (ends (missing z)) v → P (record { path = z; kind = none; links = ls }))
    (is-there : (r d : Path) (n : ℕ) (ls : List Path) → Goes w m (r ++ (x ∷ [])) n
    → run (until_symlink [] r) v ≡ done (ends (found d a_dir)) v → P (record { path = d; kind = some a_dir; links = ls })) where
  module _ (r : Path) (n : ℕ) (goes : Goes w m (r ++ (x ∷ [])) n) (k b : ℕ) (ls : List Path) where
    -- the shorter walk ends
    on-end : (o : End) → run (until_symlink [] r) v ≡ done (ends o) v → run (look_from k b r ls) v ≡ run (reach b (record { end = o; links = ls })) v
    on-end o e = bind-run (no_follow k r ls) (reach b) v v (no_follow-ends v k r ls o e)

    lands-gone : (z : Path) → run (until_symlink [] r) v ≡ done (ends (missing z)) v → Lands v P (look_from k b r ls)
    unfolding reached run
    lands-gone z e = record { found = _; runs = on-end (missing z) e; holds = is-gone r z n ls goes e }

    lands-there : (d : Path) → run (until_symlink [] r) v ≡ done (ends (found d a_dir)) v → Lands v P (look_from k b r ls)
    unfolding reached run
    lands-there d e = record { found = _; runs = on-end (found d a_dir) e; holds = is-there r d n ls goes e }

    -- the whole walk ends: the shorter one too
    lands-ends : (o : Met) → run (until_symlink [] r) v ≡ done o v → Beside v.at x (ends m) o → Lands v P (look_from k b r ls)
    lands-ends o e (gone z i) = lands-gone z (cc)
    lands-ends o e (stands d i) = lands-there d (cc)
    lands-ends o e (last d a s l i j) = absurd (let y : ◌≡◌ {A = ℕ} 0 1 = cc in omega arith)
    lands-ends o e (mid d g a s l i j) = absurd (let y : ◌≡◌ {A = ℕ} 0 1 = cc in omega arith)

  -- a link of the smaller tree leads the same way
  same_way : (c d : Path) (f g : List Name) {a : Meta} {s : Bytes} → look v.at d ≡ some (link a s)
      → mid_link c f ≡ mid_link d (g ++ (x ∷ [])) → next w c f ≡ next v d g ++ (x ∷ [])
  same_way c d f g {a} {s} l e =
      let i : next w c f ≡ next w d (g ++ (x ∷ [])) = cc in
      i ∙ next_snoc w d g x ∙ ap (λ (p : Path). p ++ (x ∷ [])) (sym (next_same w v d g (go (within d))))
    where
      go : (look v.at d ≡ none) ⊎ (look v.at d ≡ look w.at d) → look v.at d ≡ look w.at d
      go (inl e) = clash (look v.at d) (link a s) e l
      go (inr e) = e

  -- where the whole walk has n links to go from q, the shorter one lands
  abbrev Landing : Path → ℕ → Type 0
  Landing q n = (r : Path) (k b : ℕ) (ls : List Path) → q ≡ r ++ (x ∷ []) → n ≤ k → Room w v m x n b → Lands v P (look_from k b r ls)

  module _ (n : ℕ) (q : Path) (fits : T (path_fits q)) (on : Landing q n)
      (r : Path) (k b : ℕ) (ls : List Path) (d : Path) (room : Room w v m x n b) where
    -- a program that runs as one that lands
    lands_as : (p o : Prog Where) → run p v ≡ run o v → Lands v P o → Lands v P p
    lands_as p o e l = record { found = l.found; runs = e ∙ l.runs; holds = l.holds }

    -- behind a last link the count starts again
    lands_last : n ≤ most_links → q ≡ next v d [] ++ (x ∷ []) → run (until_symlink [] r) v ≡ done (ends (last_link d)) v
        → Lands v P (look_from k (suc b) r ls)
    unfolding reached
    lands_last j way e =
        let t : T (path_fits (next v d [])) = fits_left (next v d []) (x ∷ []) (rw way at fits) in
        lands_as (look_from k (suc b) r ls) (look_from most_links b (next v d []) (ls ++ (d ∷ [])))
        (bind-run (no_follow k r ls) (reach (suc b)) v v (no_follow-ends v k r ls (last_link d) e)
        ∙ bind-run (behind_link d []) (λ p. following b p (ls ++ (d ∷ []))) v v (behind-run v d [] t)
        ∙ ap (λ (p : Prog Where). run p v) (following_is b (next v d []) (ls ++ (d ∷ []))))
        (on (next v d []) most_links b (ls ++ (d ∷ [])) way j room)

    -- behind a link before the last name it goes on
    lands-mid : (g : List Name) → n ≤ k → q ≡ next v d g ++ (x ∷ []) → run (until_symlink [] r) v ≡ done (mid_link d g) v
        → Lands v P (look_from (suc k) b r ls)
    lands-mid g j way e =
        let t : T (path_fits (next v d g)) = fits_left (next v d g) (x ∷ []) (rw way at fits) in
        lands_as (look_from (suc k) b r ls) (look_from k b (next v d g) (ls ++ (d ∷ [])))
        (bind_same (no_follow (suc k) r ls) (no_follow k (next v d g) (ls ++ (d ∷ []))) (reach b) v (no_follow-leads v k r ls d g e t))
        (on (next v d g) k b (ls ++ (d ∷ [])) way j room)

  -- the whole walk goes on behind a link: the shorter one too, or it ends
  lands-leads : (n : ℕ) (c : Path) (f : List Name) → T (path_fits (next w c f)) → Goes w m (next w c f) n → Landing (next w c f) n
      → (r : Path) → Goes w m (r ++ (x ∷ [])) (suc n) → (k b : ℕ) (ls : List Path) (o : Met) → suc n ≤ k → suc n ≤ most_links
      → Room w v m x (suc n) b → run (until_symlink [] r) v ≡ done o v → Beside v.at x (mid_link c f) o → Lands v P (look_from k b r ls)
  lands-leads n c f t g on r goes k b ls o h j room e (gone z i) = lands-gone r (suc n) goes k b ls z (cc)
  lands-leads n c f t g on r goes k b ls o h j room e (stands d i) = lands-there r (suc n) goes k b ls d (cc)
  lands-leads n c f t g on r goes k b ls o h j room e (last d a s l i y) =
      let p : next w c f ≡ next w d (x ∷ []) = cc in
      let u = room-spent w v m x n b d a s l (rw p at g) room in
      subst (λ (b : ℕ). Lands v P (look_from k b r ls)) (sym u.1)
      (lands_last n (next w c f) t on r k u.0 ls d u.2 (omega arith) (same_way c d f [] l i) (cc))
  lands-leads n c f t g on r goes zero b ls o h j room e (mid d f' a s l i y) = absurd (omega arith)
  lands-leads n c f t g on r goes (suc k) b ls o h j room e (mid d f' a s l i y) =
      lands-mid n (next w c f) t on r k b ls d (room-along w v m x n b room) f' (omega arith) (same_way c d f f' l i) (cc)

  lands : {q : Path} {n : ℕ} → Goes w m q n → n ≤ most_links → Landing q n
  lands (stops e) c r k b ls i j room =
      let f = follows w v x within [] r (rw i at e) in lands-ends r 0 (rw i at (stops e)) k b ls f.met f.runs f.beside
  lands (leads {n = n} d g l t) c r k b ls i j room =
      let f = follows w v x within [] r (rw i at l).meets in
      lands-leads n d g l.fits t (lands t (omega arith)) r (rw i at (leads d g l t)) k b ls f.met j c room f.runs f.beside

  -- the lookup of the shorter path, in a tree with no more links than it may follow
  pub parent-lands : (b : ℕ) (r : Path) (n : ℕ) → Goes w m (r ++ (x ∷ [])) n → n ≤ most_links → links_in v.at ≤ b
      → Lands v P (lookup b r)
  parent-lands b r n g h few = rw following_is (lands g h r most_links b [] refl h (room_first w v m x n b few))
