-- Links that a walk has still to meet: each last link of the shorter walk is met once, so a tree of that many links has room for
-- the whole chain.
-- Assumes nothing.
use mathlib.Core.List.{List, [], ◌∷◌, ◌++◌, drop_last, append_assoc}
use mathlib.Core.Option.{Option, some}
use mathlib.Core.Path.{◌≡◌, refl, sym, ap, ◌∙◌, subst}
use Prim.Native.Nat.{ℕ, zero, suc, ◌≤◌, ◌<◌}
use native.Mathlib.Omega.{arith}
use Rattle.text.specs.Utf8.{Bytes}
use Rattle.path.specs.Path.{Name, absolute, followed}
use Rattle.model.specs.Tree.{Path, Meta, Node, link, Entries, look, less, links_in}
use Rattle.model.specs.Prog.{World, on_some, target?, target_of, answer}
use Rattle.model.specs.Lookup.{End, text_or}
use Rattle.model.proofs.Entries.{less_past}
use Rattle.model.proofs.Lookups.LinkCount.{links_of, links-less}
use Rattle.model.proofs.Lookups.Pure.{next}
use Rattle.model.proofs.Lookups.Counting.{Goes, goes-once}

-- ---- how many links a tree has

-- without a link there is one less
links-spent : (q : Path) (t : Entries) {a : Meta} {s : Bytes} → look t q ≡ some (link a s) → links_in (less q t) < links_in t
links-spent q t h = omega (arith, links-less q t, ap links_of h)

-- ---- where a link leads

-- a link of both trees leads the same way
pub next_same : (w v : World) (d : Path) (g : List Name) → look v.at d ≡ look w.at d → next v d g ≡ next w d g
unfolding answer
next_same w v d g e = ap (λ (o : Option Node). followed (drop_last d) (text_or (on_some o target_of)) g) e

-- a last name stays behind it
pub next_snoc : (w : World) (d : Path) (g : List Name) (x : Name) → next w d (g ++ (x ∷ [])) ≡ next w d g ++ (x ∷ [])
unfolding followed
next_snoc w d g x = sym (append_assoc (absolute (drop_last d) (text_or (answer (target? d) w))) g (x ∷ []))

-- ---- room for the last links of a walk

-- of the links of v's tree those are left, at most b, from which, with the name x behind them, a walk follows fewer than n links
pub record Room (w v : World) (m : End) (x : Name) (n b : ℕ) : Type 0 where
  pub left : Entries
  pub few : links_in left ≤ b
  pub still : (z : Path) (a : Meta) (s : Bytes) (k : ℕ) → look v.at z ≡ some (link a s)
      → Goes w m (next w z (x ∷ [])) k → k < n → look left z ≡ some (link a s)

module _ (w v : World) (m : End) (x : Name) (n b : ℕ) where
  -- at first all are left
  pub room_first : links_in v.at ≤ b → Room w v m x n b
  room_first h = record { left = v.at; few = h; still = λ z a s k l g i. l }

  -- a link before the last name spends none
  pub room-along : Room w v m x (suc n) b → Room w v m x n b
  room-along r = record { left = r.left; few = r.few; still = λ z a s k l g i. r.still z a s k l g (omega arith) }

  -- a last link spends one, and there is one to spend
  pub room-spent : (d : Path) (a : Meta) (s : Bytes) → look v.at d ≡ some (link a s) → Goes w m (next w d (x ∷ [])) n
      → Room w v m x (suc n) b → (c : ℕ) × (b ≡ suc c) × Room w v m x n c
  room-spent d a s l g r = go b r.few
    where
      one : links_in (less d r.left) < links_in r.left
      one = links-spent d r.left (r.still d a s n l g (omega arith))

      apart : (z : Path) (k : ℕ) → Goes w m (next w z (x ∷ [])) k → k < n → d ≡ z → ⊥
      apart z k h i e = omega (arith, goes-once (subst (λ (p : Path). Goes w m (next w p (x ∷ [])) n) e g) h)

      go : (b : ℕ) → links_in r.left ≤ b → (c : ℕ) × (b ≡ suc c) × Room w v m x n c
      go zero h = absurd (omega (arith, one))
      go (suc c) h = (
        c,
        refl,
        record {
          left = less d r.left;
          few = omega (arith, one);
          still = λ z e t k o i j. less_past d z r.left (apart z k i j) ∙ r.still z e t k o i (omega arith);
        },
      )
