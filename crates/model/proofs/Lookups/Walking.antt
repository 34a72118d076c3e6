-- What a lookup tells. A walk to the first link or the end changes nothing of its path, so from there it goes the same way again,
-- through no link; a link is listed where one was met, at most 40 to a walk and one between two walks.
-- Assumes nothing.
use mathlib.Core.Bool.{Bool, true, false}
use mathlib.Core.List.Memᴰ
use mathlib.Core.List.{List, [], ◌∷◌, ◌++◌, drop_last, append-nil, append_assoc, Memᴰ}
use mathlib.Core.Logic.{◌⊎◌, inl, inr}
use mathlib.Core.Option.{Option, none, some}
use mathlib.Core.Path.{◌≡◌, refl, sym, ap, subst, ◌∙◌}
use Prim.Native.Nat.{ℕ, zero, suc, ◌+◌, ◌*◌, ◌≤◌}
use native.Mathlib.Omega.{arith}
use lib.ListN.{length, length-append}
use Rattle.text.specs.Utf8.{Bytes}
use Rattle.path.specs.Path.{Name, followed, path_fits}
use Rattle.model.specs.Tree.{Path, Meta, Node, dir, file, link, look}
use Rattle.model.specs.Prog.{World, Kind, a_dir, aFile, a_link, kind?, target?, node_kind, on_some, answer, Prog, ret, stop, ◌>>=◌, ◌>>◌, need, done, run}
use Rattle.model.specs.Lookup.{End, found, missing, last_link, Met, ends, mid_link, arrived, onward, until_symlink, text_or, behind_link, Walked, ended, no_follow, most_links, Where, reached, following}
use Rattle.model.proofs.Running.{allowed, Tells, tells-bind, tells-done, tells_itself, tells_then, onto}

-- the path at an end
abbrev pub path_of : End → Path
path_of (found d k) = d
path_of (missing d) = d
path_of (last_link d) = d

-- the whole path of a walk, by where it stands
abbrev pub whole : Met → Path
whole (ends e) = path_of e
whole (mid_link d r) = d ++ r

-- where a lookup ends that found an entry of the kind, or none
abbrev pub at_end : Path → Option Kind → End
at_end d none = missing d
at_end d (some k) = found d k

-- a link stands there
pub record Link (w : World) (d : Path) : Type 0 where
  pub meta : Meta
  pub target : Bytes
  pub stands : look w.at d ≡ some (link meta target)

-- each path of the list is one of the old list, or a link stands there
abbrev pub Links : World → List Path → List Path → Type 0
Links w o ls = (d : Path) → Memᴰ d ls → Memᴰ d o ⊎ Link w d

links-snoc : (w : World) (o ls : List Path) (d : Path) → Links w o ls → Link w d → Links w o (ls ++ (d ∷ []))
links-snoc w o ls d h k e i = elim (Memᴰ.append_cases ls i) [ inl j ↦ h e j | inr j ↦ inr (subst (Link w) (sym (Memᴰ.eq_of_singleton j)) k) ]

-- the question for a kind tells it
link-asked : (w : World) (d : Path) → answer (kind? d) w ≡ some a_link → Link w d
unfolding answer node_kind
link-asked w d h = go (look w.at d) refl h
  where
    go : (o : Option Node) → look w.at d ≡ o → on_some o (λ n. some (node_kind n)) ≡ some a_link → Link w d
    go none y e = absurd (let z : ◌≡◌ {A = ℕ} 0 1 = cc in omega arith)
    go (some (dir m)) y e = absurd (let z : ◌≡◌ {A = ℕ} 0 1 = cc in omega arith)
    go (some (file i)) y e = absurd (let z : ◌≡◌ {A = ℕ} 0 1 = cc in omega arith)
    go (some (link m s)) y e = record { meta = m; target = s; stands = y }

-- what stands where the walk does; a lookup finds no link
abbrev pub StandsEnd : World → End → Type 0
StandsEnd w (found d k) = (answer (kind? d) w ≡ some k) × ¬ (k ≡ a_link)
StandsEnd w (missing d) = Unit {0}
StandsEnd w (last_link d) = Link w d

-- and at a link before the last name
abbrev pub Stands : World → Met → Type 0
Stands w (ends e) = StandsEnd w e
Stands w (mid_link d r) = Link w d

module _ (w : World) where
  -- a walk to the first link or the end
  pub until-tells : (d : Path) (r : List Name) → Tells (until_symlink d r) w (λ m. (whole m ≡ d ++ r) × Stands w m)
  unfolding until_symlink arrived onward ◌>>=◌
  until-tells d [] = go (answer (kind? d) w) refl
    where
      go : (k : Option Kind) → answer (kind? d) w ≡ k → (path_of (arrived d k) ≡ d ++ []) × StandsEnd w (arrived d k)
      go none y = (sym (append-nil d), tt)
      go (some a_dir) y = (sym (append-nil d), (y, λ e. let z : ◌≡◌ {A = ℕ} 0 1 = cc in omega arith))
      go (some aFile) y = (sym (append-nil d), (y, λ e. let z : ◌≡◌ {A = ℕ} 0 1 = cc in omega arith))
      go (some a_link) y = (sym (append-nil d), link-asked w d y)
  until-tells d (x ∷ r) = go (answer (kind? d) w) refl (until-tells (d ++ (x ∷ [])) r)
    where
      go : (k : Option Kind) → answer (kind? d) w ≡ k → Tells (until_symlink (d ++ (x ∷ [])) r) w (λ m. (whole m ≡ (d ++ (x ∷ [])) ++ r) × Stands w m) →
          Tells (onward d (x ∷ r) k) w (λ m. (whole m ≡ d ++ (x ∷ r)) × Stands w m)
      go none y ih = (refl, tt)
      go (some a_dir) y ih = simp append_assoc at ih
      go (some aFile) y ih = tt
      go (some a_link) y ih = (refl, link-asked w d y)

  -- the path that a link gives
  abbrev pub goes : Path → List Name → Path
  goes d r = followed (drop_last d) (text_or (answer (target? d) w)) r

  -- it is walked, or too long
  pub behind-run : {A : Type 0} (d : Path) (r : List Name) (f : Path → Prog A) → run (behind_link d r >>= f) w ≡ allowed (path_fits (goes d r)) 6 (run (f (goes d r)) w)
  unfolding behind_link need ◌>>=◌ ◌>>◌ run
  behind-run d r f = go (path_fits (goes d r))
    where
      go : (b : Bool) → run ((need b 6 >>= λ _. ret (goes d r)) >>= f) w ≡ allowed b 6 (run (f (goes d r)) w)
      go true = refl
      go false = refl

  behind-tells : (d : Path) (r : List Name) → Tells (behind_link d r) w (λ q. Unit {0})
  unfolding behind_link need ◌>>=◌ ◌>>◌
  behind-tells d r = go (path_fits (goes d r))
    where
      go : (b : Bool) → Tells (need b 6 >>= λ _. ret (goes d r)) w (λ q. Unit {0})
      go true = tt
      go false = tt

  -- ---- lookup_entry_detail_no_follow

  -- it is at an end, from which it would go the same way again, and of at most n links followed each is one
  pub record Walks (o : List Path) (n : ℕ) (a : Walked) : Type 0 where
    pub again : run (until_symlink [] (path_of a.end)) w ≡ done (ends a.end) w
    pub short : length a.links ≤ n
    pub listed : Links w o a.links

  ended-tells : (o : List Path) (n : ℕ) (p : Path) (ls : List Path) (f : Path → List Name → Prog Walked) → length ls ≤ n → Links w o ls →
      ((d : Path) (r : List Name) → Link w d → Tells (f d r) w (Walks o n)) → Tells (until_symlink [] p >>= λ m. ended ls m f) w (Walks o n)
  unfolding ended
  ended-tells o n p ls f h l k = tells-bind (until_symlink [] p) _ w _ _ (tells_itself (until_symlink [] p) w _ (until-tells [] p))
      (λ m e. go m (ap (λ (q : Path). run (until_symlink [] q) w) e.1.0 ∙ e.0) e.1.1)
    where
      go : (m : Met) → run (until_symlink [] (whole m)) w ≡ done m w → Stands w m → Tells (ended ls m f) w (Walks o n)
      go (ends x) e j = record { again = e; short = h; listed = l }
      go (mid_link d r) e j = k d r j

  -- it only asks, and follows at most k links more
  pub no_follow-tells : (k : ℕ) (p : Path) (o ls : List Path) (n : ℕ) → k + length ls ≤ n → Links w o ls → Tells (no_follow k p ls) w (Walks o n)
  unfolding no_follow
  no_follow-tells zero p o ls n h l = ended-tells o n p ls _ (omega arith) l (λ d r j. tt)
  no_follow-tells (suc k) p o ls n h l = ended-tells o n p ls _ (omega arith) l
      (λ d r j. tells-bind (behind_link d r) _ w _ _ (behind-tells d r)
      (λ q _. no_follow-tells k q o (ls ++ (d ∷ [])) n (simp length-append (omega arith)) (links-snoc w o ls d l j)))

  -- what follows it is on the same world
  pub no_follow_then : {A : Type 0} (p : Path) (ls : List Path) (f : Walked → Prog A) → run (no_follow most_links p ls >>= f) w ≡ onto (run (no_follow most_links p ls) w) (λ a. run (f a) w)
  no_follow_then p ls f = tells_then (no_follow most_links p ls) f w _ (no_follow-tells most_links p ls ls (40 + length ls) (omega arith) (λ d i. inl i))

  -- ---- lookup_entry_detail

  -- what was found or is missing is so by its own path, and of at most n links followed each is one
  pub record Tracks (o : List Path) (n : ℕ) (v : Where) : Type 0 where
    pub again : run (until_symlink [] v.path) w ≡ done (ends (at_end v.path v.kind)) w
    pub short : length v.links ≤ n
    pub listed : Links w o v.links

  -- where a walk stands, by its run
  pub walk-stands : (d : Path) (m : Met) → run (until_symlink [] d) w ≡ done m w → Stands w m
  walk-stands d m h = (tells-done (until_symlink [] d) w _ (until-tells [] d) m w h).1.1

  reached-tells : (o : List Path) (n : ℕ) (p : Path) (ls : List Path) (f : List Path → Path → Prog Where) → 40 + length ls ≤ n → Links w o ls →
      ((ms : List Path) (d : Path) → length ms ≤ 40 + length ls → Links w o ms → Link w d → Tells (f ms d) w (Tracks o n)) →
      Tells (no_follow most_links p ls >>= λ a. reached a.end a.links (f a.links)) w (Tracks o n)
  unfolding reached
  reached-tells o n p ls f h l k = tells-bind (no_follow most_links p ls) _ w _ _ (no_follow-tells 40 p o ls _ (omega arith) l) (λ a e. go a.end a.links e.again e.short e.listed)
    where
      go : (m : End) (ms : List Path) → run (until_symlink [] (path_of m)) w ≡ done (ends m) w → length ms ≤ 40 + length ls → Links w o ms → Tells (reached m ms (f ms)) w (Tracks o n)
      go (found d c) ms e s i = record { again = e; short = omega arith; listed = i }
      go (missing d) ms e s i = record { again = e; short = omega arith; listed = i }
      go (last_link d) ms e s i = k ms d s i (walk-stands d (ends (last_link d)) e)

  -- it only asks, and follows at most b last links, with 40 more before each and behind the last one
  pub following-tells : (b : ℕ) (p : Path) (o ls : List Path) (n : ℕ) → 40 * (b + 1) + b + length ls ≤ n → Links w o ls → Tells (following b p ls) w (Tracks o n)
  unfolding following
  following-tells zero p o ls n h l = reached-tells o n p ls (λ ms d. stop 7) (omega arith) l (λ ms d s i j. tt)
  following-tells (suc b) p o ls n h l = reached-tells o n p ls (λ ms d. behind_link d [] >>= λ q. following b q (ms ++ (d ∷ []))) (omega arith) l
      (λ ms d s i j. tells-bind (behind_link d []) _ w _ _ (behind-tells d [])
      (λ q _. following-tells b q o (ms ++ (d ∷ [])) n (simp length-append (omega arith)) (links-snoc w o ms d i j)))
