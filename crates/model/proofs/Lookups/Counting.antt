-- How many links a walk follows before a last name: a walk that ends has one number of them, and the path behind a link has one
-- less than the path that met it. So a walk that ends meets no link twice.
-- Assumes nothing.
use mathlib.Core.List.{List, [], ◌∷◌, ◌++◌}
use mathlib.Core.Path.{◌≡◌, refl, sym, ap, ◌∙◌, subst}
use Prim.Native.Nat.{ℕ, zero, suc, ◌≤◌}
use native.Mathlib.Omega.{arith}
use lib.Dec.{T}
use Rattle.path.specs.Path.{Name, path_fits}
use Rattle.model.specs.Tree.{Path}
use Rattle.model.specs.Prog.{World, Prog, ret, ◌>>=◌, ◌>>◌, need, done, run}
use Rattle.model.specs.Lookup.{End, Met, ends, mid_link, until_symlink, behind_link, Walked, ended, no_follow, most_links, Where, following}
use Rattle.model.proofs.Lookups.Pure.{no_answer, same_answer, bind_done, bind-run, pure-need, need-done, need-run, next, along, no_follow_is, reach, following_is, pure-until, pure-behind, pure-no_follow}

-- ---- numbers of links

-- the walk of a path meets a link with names to come, and the path that this gives is not too long
pub record Leads (w : World) (q : Path) (d : Path) (g : List Name) : Type 0 where
  pub meets : run (until_symlink [] q) w ≡ done (mid_link d g) w
  pub fits : T (path_fits (next w d g))

-- the walk of a path follows n links before a last name and ends, not refused, with m
pub data Goes (w : World) (m : End) : Path → ℕ → Type 0 where
  stops : {q : Path} → run (until_symlink [] q) w ≡ done (ends m) w → Goes w m q zero
  leads : {q : Path} {n : ℕ} (d : Path) (g : List Name) → Leads w q d g → Goes w m (next w d g) n → Goes w m q (suc n)

not_mid : {w : World} {q d : Path} {m : End} {g : List Name} → run (until_symlink [] q) w ≡ done (ends m) w → Leads w q d g → ⊥
not_mid {w} {q} {d} {m} {g} e l = let y : ends m ≡ mid_link d g = same_answer (sym e ∙ l.meets) in let z : ◌≡◌ {A = ℕ} 0 1 = cc in omega arith

-- a walk that ends has one number of links
pub goes-once : {w : World} {m : End} {q : Path} {n k : ℕ} → Goes w m q n → Goes w m q k → n ≡ k
goes-once (stops e) (stops f) = refl
goes-once (stops e) (leads d g l r) = absurd (not_mid e l)
goes-once (leads d g l r) (stops e) = absurd (not_mid e l)
goes-once {w} {m} (leads d g l r) (leads {n = n} c f k s) =
    let e : mid_link c f ≡ mid_link d g = same_answer (sym k.meets ∙ l.meets) in
    let same : next w c f ≡ next w d g = cc in
    ap suc (goes-once r (subst (λ (p : Path). Goes w m p n) same s))

-- where its first walk ends at no link with names to come, the whole one does
pub goes-met : {w : World} {m : End} {q : Path} {n : ℕ} (o : End) → Goes w m q n → run (until_symlink [] q) w ≡ done (ends o) w → m ≡ o
goes-met {m = m} o (stops e) r = let y : ends m ≡ ends o = same_answer (sym e ∙ r) in cc
goes-met o (leads d g l t) r = absurd (not_mid r l)

-- it ends where the walk of some path does
pub goes-ends : {w : World} {m : End} {q : Path} {n : ℕ} → Goes w m q n → (p : Path) × (run (until_symlink [] p) w ≡ done (ends m) w)
goes-ends {q = q} (stops e) = (q, e)
goes-ends (leads d g l r) = goes-ends r

-- ---- a no-follow lookup that is not refused

-- a link that is followed gives its path, which is not too long
pub behind-done : (w : World) (d : Path) (r : List Name) {q : Path} {v : World}
    → run (behind_link d r) w ≡ done q v → (q ≡ next w d r) × T (path_fits (next w d r))
unfolding behind_link run ◌>>=◌ ◌>>◌
behind-done w d r h =
    let t = path_fits (next w d r) in
    let m = bind_done (need t 6) (λ _. ret (next w d r)) w (pure-need t 6) h in
    (sym (same_answer m.2), need-done t 6 w m.1)

-- and one whose path is not too long is followed
pub behind-run : (w : World) (d : Path) (r : List Name) → T (path_fits (next w d r)) → run (behind_link d r) w ≡ done (next w d r) w
unfolding behind_link run ◌>>=◌ ◌>>◌
behind-run w d r h = let t = path_fits (next w d r) in bind-run (need t 6) (λ _. ret (next w d r)) w w (need-run t 6 w h)

-- it follows at most k links
pub record Ended (w : World) (q : Path) (k : ℕ) (y : Walked) : Type 0 where
  pub count : ℕ
  pub few : count ≤ k
  pub goes : Goes w y.end q count

-- after the first walk it is over, or goes on as f says
ended_by : (w : World) (q : Path) (k : ℕ) (ls : List Path) (f : Path → List Name → Prog Walked) {y : Walked} {v : World} (m : Met)
    → run (until_symlink [] q) w ≡ done m w → run (ended ls m f) w ≡ done y v
    → ((d : Path) (r : List Name) → run (until_symlink [] q) w ≡ done (mid_link d r) w → run (f d r) w ≡ done y v → Ended w q k y)
    → Ended w q k y
unfolding ended run
ended_by w q k ls f (ends e) r h on =
    record { count = 0; few = omega arith; goes = subst (λ (u : Walked). Goes w u.end q 0) (same_answer h) (stops r) }
ended_by w q k ls f (mid_link d g) r h on = on d g r h

-- behind a link with names to come it is one more
ended-along : (w : World) (q : Path) (k : ℕ) (d : Path) (r : List Name) (p : Path) {y : Walked}
    → run (until_symlink [] q) w ≡ done (mid_link d r) w → run (behind_link d r) w ≡ done p w → Ended w p k y → Ended w q (suc k) y
ended-along w q k d r p e b g =
    let f = behind-done w d r b in
    record { count = suc g.count; few = omega arith; goes = leads d r (record { meets = e; fits = f.1 }) (rw f.0 at g).goes }

-- every no-follow lookup that is not refused ends so
pub no_follow-ended : (w : World) (k : ℕ) (q : Path) (ls : List Path) {y : Walked} {v : World}
    → run (no_follow k q ls) w ≡ done y v → Ended w q k y
unfolding run
no_follow-ended w zero q ls h =
    let m = bind_done (until_symlink [] q) (λ m. ended ls m (along 0 ls)) w (pure-until [] q) (rw (no_follow_is 0 q ls) at h) in
    ended_by w q 0 ls (along 0 ls) m.0 m.1 m.2 λ d r e s. no_answer s
no_follow-ended w (suc k) q ls h =
    let m = bind_done (until_symlink [] q) (λ m. ended ls m (along (suc k) ls)) w (pure-until [] q) (rw (no_follow_is (suc k) q ls) at h) in
    ended_by w q (suc k) ls (along (suc k) ls) m.0 m.1 m.2 λ d r e s.
    let c = bind_done (behind_link d r) (λ p. no_follow k p (ls ++ (d ∷ []))) w (pure-behind d r) s in
    ended-along w q k d r c.0 e c.1 (no_follow-ended w k c.0 (ls ++ (d ∷ [])) c.2)

-- a following lookup that is not refused, by its first no-follow lookup
pub following_first : (w : World) (b : ℕ) (q : Path) (ls : List Path) {y : Where} {v : World}
    → run (following b q ls) w ≡ done y v → (u : Walked) × Ended w q most_links u × (run (reach b u) w ≡ done y v)
following_first w b q ls h =
    let a = bind_done (no_follow most_links q ls) (reach b) w (pure-no_follow most_links q ls) (rw (following_is b q ls) at h) in
    (a.0, no_follow-ended w most_links q ls a.1, a.2)
