-- The chain of last links. Each path that was seen leads to a link whose target was seen too, or to the lookup under way; each link
-- has its target seen, or is left. If a target is seen again, nothing leads out of the set, so every bound refuses (7). If it is new,
-- its link was left, and is not any more. So as many lookups as there are links, and one, tell all.
-- Assumes nothing.
use mathlib.Core.Bool.{Bool, true, false, ◌||◌, not}
use mathlib.Core.List.Memᴰ
use mathlib.Core.List.{List, [], ◌∷◌, ◌++◌, Memᴰ}
use mathlib.Core.Logic.{◌⊎◌, inl, inr}
use mathlib.Core.Path.{◌≡◌, refl, sym, ap, ◌∙◌}
use Prim.Native.Nat.{ℕ, zero, suc, ◌+◌, ◌*◌, ◌≤◌, ◌<◌}
use native.Mathlib.Omega.{arith}
use lib.ListN.{length}
use Rattle.path.specs.Path.{Name, path_fits}
use Rattle.model.specs.Tree.{Path, Entries, same_path, look, less, links_in}
use Rattle.model.specs.Prog.{World, Prog, stop, ◌>>=◌, ◌>>◌, need, Out, done, refused, run}
use Rattle.model.specs.Lookup.{End, found, missing, last_link, Met, ends, mid_link, until_symlink, behind_link, Walked, ended, no_follow, most_links, Where, reached, following, lookup}
use Rattle.model.specs.Seen.{is_in, begun, hunting}
use Rattle.model.proofs.Entries.{path-dec, less_past}
use Rattle.model.proofs.Lookups.LinkCount.{Told, told, links_of, links-less}
use Rattle.model.proofs.Running.{allowed, need-run, tells-done, tells_then, onto}
use Rattle.model.proofs.Lookups.Walking.{Link, until-tells, goes, behind-run, Walks, no_follow-tells, no_follow_then, walk-stands}
use Rattle.model.proofs.Lookups.Rewalk.{no_follow-straight, tracks}

-- ---- the set

-- its test
pub in_told : (q : Path) (l : List Path) → Told (is_in q l) (Memᴰ q l)
unfolding is_in
in_told q [] = Memᴰ.not-nil
in_told q (x ∷ l) = go (same_path x q) (is_in q l) (told x q) (in_told q l)
  where
    go : (a b : Bool) → Told a (x ≡ q) → Told b (Memᴰ q l) → Told (a || b) (Memᴰ q (x ∷ l))
    go true b h k = Memᴰ.head (sym h)
    go false true h k = Memᴰ.tail k
    go false false h k = λ i. elim (Memᴰ.cases_cons i) [ inl e ↦ h (sym e) | inr j ↦ k j ]

in_begun : (l : List Path) (d x : Path) → Memᴰ x l → Memᴰ x (begun l d)
in_begun [] d x i = absurd (Memᴰ.not-nil i)
in_begun (y ∷ l) d x i = i

begun_in : (l : List Path) (d x : Path) → Memᴰ x (begun l d) → (x ≡ d) ⊎ Memᴰ x l
begun_in [] d x i = inl (Memᴰ.eq_of_singleton i)
begun_in (y ∷ l) d x i = inr i

-- ---- from link to link

-- a no-follow lookup, and what is done at a last link with the links followed so far
abbrev look_then : Path → List Path → (List Path → Path → Prog Where) → Prog Where
look_then p ls f = no_follow most_links p ls >>= λ a. reached a.end a.links (f a.links)

abbrev by_bound : ℕ → List Path → Path → Prog Where
by_bound b ms d = behind_link d [] >>= λ q. following b q (ms ++ (d ∷ []))

abbrev by_set : ℕ → List Path → List Path → Path → Prog Where
by_set f seen ms d = behind_link d [] >>= λ q. need (not (is_in q (begun seen d))) 7 >> hunting f q (q ∷ begun seen d) (ms ++ (d ∷ []))

-- where a lookup stands, without the links that it followed
abbrev landed : Out Walked → Out End
landed (done a u) = done a.end u
landed (refused n) = refused n

module _ (w : World) where
  ended-alike : (p : Path) (ls ms : List Path) (f g : Path → List Name → Prog Walked) → ((d : Path) (r : List Name) → landed (run (f d r) w) ≡ landed (run (g d r) w)) →
      landed (run (until_symlink [] p >>= λ m. ended ls m f) w) ≡ landed (run (until_symlink [] p >>= λ m. ended ms m g) w)
  unfolding ended run
  ended-alike p ls ms f g h = ap landed (tells_then (until_symlink [] p) _ w _ (until-tells w [] p)) ∙ go (run (until_symlink [] p) w) ∙ sym (ap landed (tells_then (until_symlink [] p) _ w _ (until-tells w [] p)))
    where
      go : (o : Out Met) → landed (onto o (λ m. run (ended ls m f) w)) ≡ landed (onto o (λ m. run (ended ms m g) w))
      go (refused n) = refl
      go (done (ends e) u) = refl
      go (done (mid_link d r) u) = h d r

  -- the links followed before do not matter
  no_follow-alike : (k : ℕ) (p : Path) (ls ms : List Path) → landed (run (no_follow k p ls) w) ≡ landed (run (no_follow k p ms) w)
  unfolding no_follow
  no_follow-alike zero p ls ms = ended-alike p ls ms _ _ (λ d r. refl)
  no_follow-alike (suc k) p ls ms = ended-alike p ls ms _ _ (λ d r.
      ap landed (behind-run w d r _) ∙ go (path_fits (goes w d r)) _ _ (no_follow-alike k (goes w d r) _ _) ∙ sym (ap landed (behind-run w d r _)))
    where
      go : (b : Bool) (o q : Out Walked) → landed o ≡ landed q → landed (allowed b 6 o) ≡ landed (allowed b 6 q)
      go true o q h = h
      go false o q h = refl

  -- a lookup of the path stands at the last link y
  abbrev Lands : Path → Path → Type 0
  Lands p y = (ls : List Path) → landed (run (no_follow most_links p ls) w) ≡ done (last_link y) w

  -- and goes on from there
  lands_then : (p y : Path) → Lands p y → (ls : List Path) (f : List Path → Path → Prog Where) → (ms : List Path) × (run (look_then p ls f) w ≡ run (f ms y) w)
  unfolding reached
  lands_then p y h ls f = go (run (no_follow most_links p ls) w) (h ls) (no_follow_then w p ls _)
    where
      go : (o : Out Walked) → landed o ≡ done (last_link y) w → run (look_then p ls f) w ≡ onto o (λ a. run (reached a.end a.links (f a.links)) w) →
          (ms : List Path) × (run (look_then p ls f) w ≡ run (f ms y) w)
      go (refused n) e k = absurd (let z : ◌≡◌ {A = ℕ} 0 1 = cc in omega arith)
      go (done a u) e k = let z : a.end ≡ last_link y = cc in (a.links, k ∙ ap (λ (m : End). run (reached m a.links (f a.links)) w) z)

  -- two ways on are alike if they are so at each link where a lookup of the path can stand; so then does one of the link's own path
  two_ways : (p : Path) (ls : List Path) (f g : List Path → Path → Prog Where) →
      ((ms : List Path) (d : Path) → Link w d → Lands p d → Lands d d → run (f ms d) w ≡ run (g ms d) w) → run (look_then p ls f) w ≡ run (look_then p ls g) w
  unfolding reached
  two_ways p ls f g h = no_follow_then w p ls _ ∙ go (run (no_follow most_links p ls) w) refl ∙ sym (no_follow_then w p ls _)
    where
      met : (m : End) (ms : List Path) (u : World) → run (no_follow most_links p ls) w ≡ done (record { end = m; links = ms }) u → run (reached m ms (f ms)) w ≡ run (reached m ms (g ms)) w
      met (found d k) ms u y = refl
      met (missing d) ms u y = refl
      met (last_link d) ms u y =
          let t : (u ≡ w) × Walks w ls (40 + length ls) (record { end = last_link d; links = ms }) = tells-done (no_follow most_links p ls) w _ (no_follow-tells w most_links p ls ls _ (omega arith) (λ d i. inl i)) _ u y in
          h ms d (walk-stands w d (ends (last_link d)) t.1.again)
          (λ ks. no_follow-alike most_links p ks ls ∙ ap landed y ∙ ap (done (last_link d)) t.0)
          (λ ks. ap landed (no_follow-straight w most_links d (last_link d) ks t.1.again))

      go : (o : Out Walked) → run (no_follow most_links p ls) w ≡ o →
          onto o (λ a. run (reached a.end a.links (f a.links)) w) ≡ onto o (λ a. run (reached a.end a.links (g a.links)) w)
      go (refused n) y = refl
      go (done a u) y = met a.end a.links u y

  -- ---- the paths seen

  -- the link's target is in the set, and no longer than a path may be
  abbrev Known : List Path → Path → Type 0
  Known seen d = Memᴰ (goes w d []) seen × (path_fits (goes w d []) ≡ true)

  -- the path leads to a link whose target is in the set
  abbrev Leads : List Path → Path → Type 0
  Leads seen p = (y : Path) × Lands p y × Known seen y

  -- where nothing leads out of the set, every bound is passed
  loop : (seen : List Path) → ((p : Path) → Memᴰ p seen → Leads seen p) → (b : ℕ) (p : Path) (ls : List Path) → Memᴰ p seen → run (following b p ls) w ≡ refused 7
  unfolding following run
  loop seen c zero p ls i = (lands_then p (c p i).0 (c p i).1 ls (λ ms d. stop 7)).1
  loop seen c (suc b) p ls i = (lands_then p (c p i).0 (c p i).1 ls (by_bound b)).1 ∙ behind-run w (c p i).0 [] _ ∙ rw (c p i).2.1 (loop seen c b _ _ (c p i).2.0)

  -- of the paths seen, each leads on, or is the one looked up now
  abbrev Trail : List Path → Path → Type 0
  Trail seen p = (s : Path) → Memᴰ s seen → (s ≡ p) ⊎ Leads seen s

  -- each link is known, or left
  abbrev Cover : List Path → Entries → Type 0
  Cover seen t = (d : Path) → Link w d → Known seen d ⊎ (links_of (look t d) ≡ 1)

  -- the set, with f lookups, and the bound b agree, if of the tree no more is left
  abbrev Agree : ℕ → ℕ → Type 0
  Agree f b = (t : Entries) (seen ls : List Path) (p : Path) → links_in t < f → links_in t ≤ b → Trail seen p → Cover seen t → run (hunting f p seen ls) w ≡ run (following b p ls) w

  -- a lookup of p stands at the link d, which leads to q
  module _ (t : Entries) (seen : List Path) (p : Path) (trail : Trail seen p) (cover : Cover seen t) (d : Path) (stands : Link w d) (there : Lands p d) (own : Lands d d) where
    abbrev now : List Path
    now = begun seen d

    abbrev q : Path
    q = goes w d []

    -- with q in a greater set, all paths seen lead on
    lead-on : (more : List Path) → ((x : Path) → Memᴰ x now → Memᴰ x more) → Known more d → (s : Path) → Memᴰ s now → Leads more s
    lead-on more sub k s i = elim (begun_in seen d s i) [ inl e ↦ (d, λ ls. rw e (own ls), k) | inr j ↦ go (trail s j) ]
      where
        go : (s ≡ p) ⊎ Leads seen s → Leads more s
        go (inl e) = (d, λ ls. rw e (there ls), k)
        go (inr h) = (h.0, h.1, (sub _ (in_begun seen d _ h.2.0), h.2.1))

    -- if q is new, d was left
    left : ¬ Memᴰ q now → links_in (less d t) < links_in t
    left n = elim (cover d stands) [ inl k ↦ absurd (n (in_begun seen d _ k.0)) | inr e ↦ omega (arith, links-less d t) ]

    -- and is not any more
    cover_on : path_fits q ≡ true → Cover (q ∷ now) (less d t)
    cover_on y e l = go (path-dec d e) (cover e l)
      where
        go : Dec (d ≡ e) → Known seen e ⊎ (links_of (look t e) ≡ 1) → Known (q ∷ now) e ⊎ (links_of (look (less d t) e) ≡ 1)
        go (yes x) c = inl (Memᴰ.head (ap (λ (z : Path). goes w z []) (sym x)), rw (← x) y)
        go (no x) (inl k) = inl (Memᴰ.tail (in_begun seen d _ k.0), k.1)
        go (no x) (inr k) = inr (rw (less_past d e t x) k)

    set-run : (f : ℕ) (ms : List Path) → run (by_set f seen ms d) w ≡ allowed (path_fits q) 6 (allowed (not (is_in q now)) 7 (run (hunting f q (q ∷ now) (ms ++ (d ∷ []))) w))
    set-run f ms = behind-run w d [] _ ∙ ap (allowed (path_fits q) 6) (need-run (not (is_in q now)) 7 _ w)

    -- one more link may be followed
    hop : (f b : ℕ) (ms : List Path) → Agree f b → links_in t < suc f → links_in t ≤ suc b → run (by_set f seen ms d) w ≡ run (by_bound b ms d) w
    hop f b ms ih h k = set-run f ms ∙ long (path_fits q) refl ∙ sym (behind-run w d [] _)
      where
        new : (c : Bool) → Told c (Memᴰ q now) → path_fits q ≡ true → allowed (not c) 7 (run (hunting f q (q ∷ now) (ms ++ (d ∷ []))) w) ≡ run (following b q (ms ++ (d ∷ []))) w
        new true i y = sym (loop now (lead-on now (λ x j. j) (i, y)) b q _ i)
        new false n y = ih (less d t) (q ∷ now) _ q (omega (arith, left n)) (omega (arith, left n))
            (λ s i. elim (Memᴰ.cases_cons i) [ inl e ↦ inl e | inr j ↦ inr (lead-on _ (λ x j. Memᴰ.tail j) (Memᴰ.head refl, y) s j) ]) (cover_on y)

        long : (c : Bool) → path_fits q ≡ c →
            allowed c 6 (allowed (not (is_in q now)) 7 (run (hunting f q (q ∷ now) (ms ++ (d ∷ []))) w)) ≡ allowed c 6 (run (following b q (ms ++ (d ∷ []))) w)
        long true y = new (is_in q now) (in_told q now) y
        long false y = refl

    -- no link is left
    stuck : (f : ℕ) (ms : List Path) → links_in t ≤ 0 → run (by_set f seen ms d) w ≡ refused 7
    stuck f ms h = elim (cover d stands) [ inl k ↦ set-run f ms ∙ rw k.1 (go (is_in q now) (in_told q now) (in_begun seen d _ k.0)) | inr e ↦ absurd (omega (arith, links-less d t)) ]
      where
        go : (c : Bool) → Told c (Memᴰ q now) → Memᴰ q now → allowed (not c) 7 (run (hunting f q (q ∷ now) (ms ++ (d ∷ []))) w) ≡ refused 7
        go true i j = refl
        go false n j = absurd (n j)

  hunts : (f b : ℕ) → Agree f b
  unfolding hunting following run
  hunts zero b t seen ls p h k trail cover = absurd (omega arith)
  hunts (suc f) zero t seen ls p h k trail cover = two_ways p ls (by_set f seen) (λ ms d. stop 7) (λ ms d j there own. stuck t seen p trail cover d j there own f ms k)
  hunts (suc f) (suc b) t seen ls p h k trail cover = two_ways p ls (by_set f seen) (by_bound b) (λ ms d j there own. hop t seen p trail cover d j there own f b ms (hunts f b) h k)

  -- ---- the laws

  -- "a chain of last links longer than the number of links in the tree is a loop. That this refuses the same paths as the set is to
  -- be shown": refusals, answers and the links listed are the same, for every bound from the number of links on, and however many
  -- lookups above it the set is let make
  pub set-bound : (f b : ℕ) (p : Path) (ls : List Path) → links_in w.at < f → links_in w.at ≤ b → run (hunting f p [] ls) w ≡ run (following b p ls) w
  set-bound f b p ls h k = hunts f b w.at [] ls p h k (λ s i. absurd (Memᴰ.not-nil i)) (λ d l. inr (ap links_of l.stands))

  -- any two bounds from the number of links on
  pub bounds : (b c : ℕ) (p : Path) (ls : List Path) → links_in w.at ≤ b → links_in w.at ≤ c → run (following b p ls) w ≡ run (following c p ls) w
  bounds b c p ls h k = sym (set-bound (suc b) b p ls (omega arith) h) ∙ set-bound (suc b) c p ls (omega arith) k

  -- "With L links in the tree a found entry costs at most 40 × (L + 1) + L", and so does a missing one
  pub costs : (b : ℕ) (p : Path) (v : Where) (u : World) → links_in w.at ≤ b → run (lookup b p) w ≡ done v u → length v.links ≤ 40 * (links_in w.at + 1) + links_in w.at
  costs b p v u h e = (tracks w (links_in w.at) p v u (bounds (links_in w.at) b p [] (omega arith) h ∙ e)).1.short
