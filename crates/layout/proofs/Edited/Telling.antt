-- Two states are alike where one has the other's entries, files and open numbers under other file numbers: no call shows a file's
-- number.
-- Assumes nothing.
use mathlib.Core.Bool.{Bool, true, false, ◌||◌, false≢true}
use mathlib.Core.Logic.{◌⊎◌, inl, inr}
use mathlib.Core.Option.{Option, none, some}
use mathlib.Core.Path.{◌≡◌, refl, sym, ap, ◌∙◌, subst}
use Prim.Native.Nat.{ℕ}
use native.Mathlib.Decide.{ℕ_discrete}
use native.Mathlib.Omega.{arith}
use lib.Dec.{T, eqb}
use borrow.Author.Tests.{eq-eqb, ne_eqb}
use Rattle.model.specs.Tree.{Path, File, Node, dir, file, link, Open, look, file_of, open_of}
use Rattle.model.specs.Prog.{World, Position, on_some, answer}
use Rattle.model.specs.Calls.States.{State, state_of, is_named, is_held}
use Rattle.model.specs.Rules.{Once, new_path}
use Rattle.model.specs.Shaped.{Shaped}
use Rattle.model.specs.Fuller.{shown_node, shown, position_of, StandsAt, StandsRemoved, same_id, share}
use Rattle.model.proofs.Demand.Contents.{or_left, or_right, named_at, at_named, by_held}
use Rattle.model.proofs.Entries.{clash, some_inj, of_true, is_true, is_false}
use Rattle.model.proofs.Demand.Keeping.{kept-file}
use Rattle.model.specs.Alike.{same_file, one_file, Alike}

-- a node with another number of its file
abbrev pub renode : (ℕ → ℕ) → Option Node → Option Node
renode ρ none = none
renode ρ (some (dir m)) = some (dir m)
renode ρ (some (file i)) = some (file (ρ i))
renode ρ (some (link m t)) = some (link m t)

-- an open number with another number of its file
abbrev pub reopen : (ℕ → ℕ) → Option Open → Option Open
reopen ρ none = none
reopen ρ (some o) = some (record { num = o.num; id = ρ o.id; pos = o.pos; kept = o.kept })

-- the file has a name or a number
abbrev pub lives : World → ℕ → Bool
lives w i = is_named w.at i || is_held w.opens i

-- a state by a world, file numbers apart
pub record Matches (ρ : ℕ → ℕ) (s : State) (w : World) : Type 0 where
  pub entries : (p : Path) → look s.tree p ≡ renode ρ (look w.at p)
  pub opens : (n : ℕ) → open_of s.opens n ≡ reopen ρ (open_of w.opens n)
  pub files : (i : ℕ) (f : File) → T (lives w i) → file_of s.files (ρ i) ≡ some f → file_of w.files i ≡ some f
  pub one : (i j : ℕ) → T (lives w i) → T (lives w j) → ρ i ≡ ρ j → i ≡ j
  pub current : s.here ≡ w.here
  pub umask : s.mask ≡ w.mask
  pub paths : Once new_path w.at

-- the file of a node in the table
is-file : {i j : ℕ} → some (file i) ≡ some (file j) → i ≡ j
is-file e = let x : file _ ≡ file _ = some_inj e in cc

module _ (ρ : ℕ → ℕ) (s u : State) (w : World) (x : Shaped s) (m : Matches ρ s w) where
  named-lives : (p : Path) (i : ℕ) → look w.at p ≡ some (file i) → T (lives w i)
  named-lives p i e = or_left (is_named w.at i) (is_held w.opens i) (at_named w.at p i e)

  held-lives : (n : ℕ) (o : Open) → open_of w.opens n ≡ some o → T (lives w o.id)
  held-lives n o e = or_right (is_named w.at o.id) (is_held w.opens o.id) (by_held w.opens n o e)

  -- the file that both have
  kept_too : (i : ℕ) (f : File) → T (lives w i) → file_of s.files (ρ i) ≡ some f → file_of (state_of u w).files i ≡ some f
  kept_too i f l e = kept-file w.at w.opens w.files i l ∙ m.files i f l e

  shown-file : (p : Path) (i : ℕ) → look w.at p ≡ some (file i)
      → on_some (some (file (ρ i))) (shown_node s) ≡ on_some (some (file i)) (shown_node (state_of u w))
  unfolding shown_node
  shown-file p i e =
      let h = x.nodes p (ρ i) (m.entries p ∙ ap (renode ρ) e) in
      rw (h.1, kept_too i h.0 (named-lives p i e) h.1) refl

  shown_by : (p : Path) (o : Option Node) → look w.at p ≡ o
      → on_some (renode ρ o) (shown_node s) ≡ on_some o (shown_node (state_of u w))
  unfolding shown_node
  shown_by p none e = refl
  shown_by p (some (dir k)) e = refl
  shown_by p (some (file i)) e = shown-file p i e
  shown_by p (some (link k t)) e = refl

  same_shown : (p : Path) → shown s p ≡ shown (state_of u w) p
  unfolding shown
  same_shown p = ap (λ (o : Option Node). on_some o (shown_node s)) (m.entries p) ∙ shown_by p (look w.at p) refl

  same_position : (n : ℕ) → position_of s n ≡ position_of (state_of u w) n
  unfolding position_of answer
  same_position n = rw (m.opens n) (go (open_of w.opens n))
    where
      go : (o : Option Open) → on_some {B = Position} (reopen ρ o) (λ o. some (record { pos = o.pos; kept = o.kept })) ≡ on_some {B = Position} o (λ o. some (record { pos = o.pos; kept = o.kept }))
      go none = refl
      go (some o) = refl

  -- a number that stands on a file with a name
  stands-named : (n : ℕ) (o : Open) → open_of w.opens n ≡ some o → T (is_named w.at o.id)
      → (p : Path) × StandsAt s n p × StandsAt (state_of u w) n p
  stands-named n o e t =
      let h = named_at w.at m.paths o.id t in
      (h.0, record { held = record { num = o.num; id = ρ o.id; pos = o.pos; kept = o.kept }; is_open = m.opens n ∙ ap (reopen ρ) e; is_there = m.entries h.0 ∙ ap (renode ρ) h.1 }, record { held = o; is_open = e; is_there = h.1 })

  -- a name in the one tree is a name in the other
  name_back : (i : ℕ) → T (lives w i) → (p : Path) (o : Option Node) → look w.at p ≡ o → renode ρ o ≡ some (file (ρ i)) → T (is_named w.at i)
  name_back i l p none e k = clash none (file (ρ i)) refl k
  name_back i l p (some (dir a)) e k = absurd (let y : dir a ≡ file (ρ i) = some_inj k in let z : ◌≡◌ {A = ℕ} 0 1 = cc in omega arith)
  name_back i l p (some (link a t)) e k = absurd (let y : link a t ≡ file (ρ i) = some_inj k in let z : ◌≡◌ {A = ℕ} 0 1 = cc in omega arith)
  name_back i l p (some (file a)) e k =
      subst (λ (b : ℕ). T (is_named w.at b)) (m.one a i (named-lives p a e) l (is-file k)) (at_named w.at p a e)

  stands-removed : (n : ℕ) (o : Open) → open_of w.opens n ≡ some o → is_named w.at o.id ≡ false
      → (f : File) × StandsRemoved s n f × StandsRemoved (state_of u w) n f
  stands-removed n o e t =
      let i = ρ o.id in
      let q = m.opens n ∙ ap (reopen ρ) e in
      let l = held-lives n o e in
      let h = x.stands n _ q in
      let gone : is_named s.tree i ≡ false = is_false (is_named s.tree i) (λ y. let a = named_at s.tree x.paths i y in false≢true (sym t ∙ is_true (is_named w.at o.id) (name_back o.id l a.0 (look w.at a.0) refl (sym (m.entries a.0) ∙ a.1)))) in
      (h.0, record { held = record { num = o.num; id = i; pos = o.pos; kept = o.kept }; is_open = q; no_name = gone; is_file = h.1 }, record { held = o; is_open = e; no_name = t; is_file = kept_too o.id h.0 l h.1 })

  abbrev Stood : ℕ → Type 0
  Stood n = ((p : Path) × StandsAt s n p × StandsAt (state_of u w) n p) ⊎ ((f : File) × StandsRemoved s n f × StandsRemoved (state_of u w) n f)

  stood : (n : ℕ) (o : Open) → open_of w.opens n ≡ some o → (b : Bool) → is_named w.at o.id ≡ b → Stood n
  stood n o e true t = inl (stands-named n o e (of_true t))
  stood n o e false t = inr (stands-removed n o e t)

  on-file : (n : ℕ) (a : Open) → open_of s.opens n ≡ some a → (o : Option Open) → open_of w.opens n ≡ o → Stood n
  on-file n a k none e = clash none a refl (sym (ap (reopen ρ) e) ∙ (sym (m.opens n) ∙ k))
  on-file n a k (some o) e = stood n o e (is_named w.at o.id) refl

  same_id_lem : (i j : ℕ) → T (lives w i) → T (lives w j) → eqb (ρ i) (ρ j) ≡ eqb i j
  same_id_lem i j a b = go (ℕ_discrete i j)
    where
      go : Dec (i ≡ j) → eqb (ρ i) (ρ j) ≡ eqb i j
      go (yes e) = eq-eqb (ρ i) (ρ j) (ap ρ e) ∙ sym (eq-eqb i j e)
      go (no k) = ne_eqb (ρ i) (ρ j) (λ e. k (m.one i j a b e)) ∙ sym (ne_eqb i j k)

  shared_by : (n k : ℕ) (o a : Option Open) → open_of w.opens n ≡ o → open_of w.opens k ≡ a → same_id (reopen ρ o) (reopen ρ a) ≡ same_id o a
  shared_by n k none a e f = refl
  shared_by n k (some o) none e f = refl
  shared_by n k (some o) (some a) e f = same_id_lem o.id a.id (held-lives n o e) (held-lives k a f)

  same_share : (n k : ℕ) → share s n k ≡ share (state_of u w) n k
  unfolding share
  same_share n k = rw (m.opens n, m.opens k) (shared_by n k (open_of w.opens n) (open_of w.opens k) refl refl)

  files_by : (p q : Path) (a b : Option Node) → look w.at p ≡ a → look w.at q ≡ b → same_file (renode ρ a) (renode ρ b) ≡ same_file a b
  files_by p q none b e f = refl
  files_by p q (some (dir d)) b e f = refl
  files_by p q (some (link d t)) b e f = refl
  files_by p q (some (file i)) none e f = refl
  files_by p q (some (file i)) (some (dir d)) e f = refl
  files_by p q (some (file i)) (some (link d t)) e f = refl
  files_by p q (some (file i)) (some (file j)) e f = same_id_lem i j (named-lives p i e) (named-lives q j f)

  same_files : (p q : Path) → one_file s p q ≡ one_file (state_of u w) p q
  unfolding one_file
  same_files p q = rw (m.entries p, m.entries q) (files_by p q (look w.at p) (look w.at q) refl refl)

  pub matches-alike : s.most ≡ u.most → s.room ≡ u.room → Alike s (state_of u w)
  matches-alike a b =
      record {
        entries = same_shown;
        names = same_files;
        opens = record { position = same_position; on_file = λ n o e. on-file n o e (open_of w.opens n) refl; sharing = same_share };
        current = m.current;
        umask = m.umask;
        entry_limit = a;
        byte_limit = b;
      }

-- ---- the same file numbers

renode_same : (o : Option Node) → renode (λ i. i) o ≡ o
renode_same none = refl
renode_same (some (dir m)) = refl
renode_same (some (file i)) = refl
renode_same (some (link m t)) = refl

reopen_same : (o : Option Open) → reopen (λ i. i) o ≡ o
reopen_same none = refl
reopen_same (some o) = refl

-- the usual case: nothing is renumbered
pub same_alike : (s u : State) (w : World) → Shaped s → ((p : Path) → look s.tree p ≡ look w.at p) → ((n : ℕ) → open_of s.opens n ≡ open_of w.opens n)
    → ((i : ℕ) (f : File) → T (lives w i) → file_of s.files i ≡ some f → file_of w.files i ≡ some f) → s.here ≡ w.here → s.mask ≡ w.mask → Once new_path w.at
    → s.most ≡ u.most → s.room ≡ u.room → Alike s (state_of u w)
same_alike s u w x l o f h k a =
    matches-alike (λ i. i) s u w x
    (record { entries = λ p. l p ∙ sym (renode_same (look w.at p)); opens = λ n. o n ∙ sym (reopen_same (open_of w.opens n)); files = f; one = λ i j _ _ e. e; current = h; umask = k; paths = a })
