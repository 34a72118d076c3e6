-- An edit that is allowed leaves a sound world sound: the tree, the table of files and the open numbers are changed one at a
-- time, and what is not changed keeps its rules.
-- Assumes nothing.
use mathlib.Core.List.{List, [], ◌∷◌, ◌++◌}
use mathlib.Core.Logic.{inl, inr}
use mathlib.Core.Option.{Option, none, some}
use mathlib.Core.Path.{◌≡◌, refl, sym, ap, ◌∙◌, subst}
use Prim.Native.Nat.{ℕ}
use native.Mathlib.Omega.{arith}
use lib.Dec.{T}
use Rattle.text.specs.Utf8.{Bytes}
use Rattle.model.specs.Tree.{Path, Meta, File, Node, dir, file, link, Entries, Files, Open, look, file_of, open_of, behind, put, cut, Change, change_meta, set_file, new_id}
use Rattle.model.specs.Prog.{World, Edit, make, create, symlink, change, remove, take, give, opens, close, seek, change_held, go, umask, with_tree, with_files, with_opens, change_at, opened_at, close_num, seek_num, change_by, apply}
use Rattle.model.specs.Rules.{names_ok, NodeOk}
use Rattle.model.proofs.Entries.{clash, some_inj, behind-self, look_none, under_look}
use Rattle.model.proofs.Sound.Worlds.{Tidy, Rooted, FilesOk, OpensOk, Sound, Housed, Vacant, ChangeOk, Allowed}
use Rattle.model.proofs.Sound.Entries.{put_some, cut_some, give_some, Fit, tidy-put, tidy-cut, tidy_under, tidy-give, tidy_none}
use Rattle.model.proofs.Sound.Files.{Covers, meta-changed, tidy-covered, opens-covered, set-covers, set-ok, new-free, more_covers, more_ok, more_has, opens_more, close_none, opens-less, opens-moved}

-- a directory and a link are no files
dir_no_file : {m : Meta} {i : ℕ} → dir m ≡ file i → ⊥
dir_no_file e = let z : ◌≡◌ {A = ℕ} 0 1 = cc in omega arith

link_no_file : {m : Meta} {g : Bytes} {i : ℕ} → link m g ≡ file i → ⊥
link_no_file e = let z : ◌≡◌ {A = ℕ} 0 1 = cc in omega arith

-- no entry is the file of that number
abbrev Absent : ℕ → Entries → Type 0
Absent i t = (q : Path) → look t q ≡ some (file i) → ⊥

-- no file has a name in both
abbrev Disjoint : Entries → Entries → Type 0
Disjoint t g = (p q : Path) (i : ℕ) → look t p ≡ some (file i) → look g q ≡ some (file i) → ⊥

module _ (w : World) (s : Sound w) where
  -- another tree
  retree : (t : Entries) → Tidy w.files t → Rooted t → Disjoint t w.hand → Sound (with_tree w t)
  retree t a r d =
      record { tree = a; in_hand = s.in_hand; root = r; apart = d; table = s.table; numbers = s.numbers; current = s.current; umask = s.umask }

  -- another table with the same numbers, and perhaps more
  refile : (fs : Files) → FilesOk fs → Covers w.files fs → Sound (with_files w fs)
  refile fs a c = record {
    tree = tidy-covered w.files fs w.at c s.tree;
    in_hand = tidy-covered w.files fs w.hand c s.in_hand;
    root = s.root;
    apart = s.apart;
    table = a;
    numbers = opens-covered w.files fs w.opens c s.numbers;
    current = s.current;
    umask = s.umask;
  }

  -- other open numbers
  reopen : (os : List Open) → OpensOk w.files os → Sound (with_opens w os)
  reopen os a =
      record { tree = s.tree; in_hand = s.in_hand; root = s.root; apart = s.apart; table = s.table; numbers = a; current = s.current; umask = s.umask }

  -- a node put at a path
  placed : (p : Path) (n : Node) → T (names_ok p) → NodeOk w.files n → Housed p w.at → Fit p n w.at → (p ≡ [] → (m : Meta) × (n ≡ dir m))
      → ((i : ℕ) → n ≡ file i → Absent i w.at × Absent i w.hand) → Sound (with_tree w (put p n w.at))
  placed p n ok k h f r a =
      retree (put p n w.at) (tidy-put w.files w.at s.tree p n ok k h f (λ q i e l. absurd ((a i e).0 q l)))
      (λ m l. elim (put_some p n w.at [] m l) [ inl e ↦ let d = r e.0 in (d.0, sym e.1 ∙ d.1) | inr e ↦ s.root m e.1 ])
      (λ q u i l v. elim (put_some p n w.at q (file i) l) [ inl e ↦ (a i e.1).1 u v | inr e ↦ s.apart q u i e.1 v ])

  -- a node in the place of another, a directory in that of a directory
  replaced : (p : Path) (o n : Node) → look w.at p ≡ some o → ((m : Meta) → o ≡ dir m → (k : Meta) × (n ≡ dir k)) → ((i : ℕ) → n ≡ file i → ⊥)
      → NodeOk w.files n → Sound (with_tree w (put p n w.at))
  replaced p o n l d a k =
      placed p n (s.tree.named p o l) k (λ q x e. s.tree.parents q x o (ap (look w.at) (sym e) ∙ l))
      (λ x c e. let v = s.tree.parents p x c e in d v.0 (some_inj (sym l ∙ v.1)))
      (λ e. let v = s.root o (ap (look w.at) (sym e) ∙ l) in d v.0 v.1)
      (λ i e. absurd (a i e))

  -- nothing stands below what is no directory
  none_below : (p : Path) (n : Node) → Vacant p w.at → Fit p n w.at
  none_below p n v x c e = absurd (v.no_dir (s.tree.parents p x c e))

  sound-change : (p : Path) (c : Change) → ChangeOk c → (o : Option Node) → look w.at p ≡ o → Sound (change_at w p c o)
  sound-change p c k none e = s
  sound-change p c k (some (dir m)) e =
      replaced p (dir m) (dir (change_meta c m)) e (λ _ _. (change_meta c m, refl)) (λ i. dir_no_file)
      (meta-changed c m k (s.tree.nodes p (dir m) e))
  sound-change p c k (some (file i)) e = refile (set_file i c w.files) (set-ok i c w.files k s.table) (set-covers i c w.files)
  sound-change p c k (some (link m g)) e =
      let h = s.tree.nodes p (link m g) e in
      replaced p (link m g) (link (change_meta c m) g) e (λ _ z. absurd (let y : ◌≡◌ {A = ℕ} 0 1 = cc in omega arith)) (λ i. link_no_file)
      (meta-changed c m k h.0, h.1)

  sound-open : (n : ℕ) (p : Path) (k : ℕ) → Allowed (opens n p k) w → (o : Option Node) → look w.at p ≡ o → Sound (opened_at w n p k o)
  sound-open n p k a none e = s
  sound-open n p k a (some (dir m)) e = s
  sound-open n p k a (some (file i)) e =
      reopen ((record { num = n; id = i; pos = k; kept = p }) ∷ close_num n w.opens)
      (opens_more w.files (close_num n w.opens) (record { num = n; id = i; pos = k; kept = p }) (close_none n w.opens n a.0)
      (record { small = a.1; place = a.2; path = a.3; stands = s.tree.nodes p (file i) e }) (opens-less w.files n w.opens s.numbers))
  sound-open n p k a (some (link m g)) e = s

  sound-held : (c : Change) → ChangeOk c → (o : Option Open) → Sound (change_by w c o)
  sound-held c k none = s
  sound-held c k (some o) = refile (set_file o.id c w.files) (set-ok o.id c w.files k s.table) (set-covers o.id c w.files)

  sound-take : (p : Path) → Sound (apply (take p) w)
  unfolding apply
  sound-take p = record {
    tree = tidy-cut w.files w.at s.tree p;
    in_hand = tidy_under w.files w.at s.tree p;
    root = λ n e. s.root n (cut_some p w.at [] n e).1;
    apart = λ q r i l v.
        let c = cut_some p w.at q (file i) l in
        clash (behind p q) r c.0 (ap (behind p) (s.tree.one_name q (p ++ r) i c.1 (sym (under_look p r w.at) ∙ v)) ∙ behind-self p r);
    table = s.table;
    numbers = s.numbers;
    current = s.current;
    umask = s.umask;
  }

  sound-give : (p : Path) → Allowed (give p) w → Sound (apply (give p) w)
  unfolding apply behind
  sound-give p a = record {
    tree = tidy-give w.files w.at s.tree p w.hand s.in_hand a.0 a.2 s.apart;
    in_hand = tidy_none w.files;
    root = λ n e. elim (give_some p w.hand w.at [] n e) [ inl z ↦ absurd (a.1 (nothing p z.0 z.1)) | inr z ↦ s.root n z.1 ];
    apart = λ q r i l v. clash (look [] r) (file i) (look_none r) v;
    table = s.table;
    numbers = s.numbers;
    current = s.current;
    umask = s.umask;
  }
    where
      nothing : (p r : Path) → behind p [] ≡ some r → p ≡ []
      nothing [] r e = refl
      nothing (x ∷ p) r e = clash (behind (x ∷ p) []) r refl e

-- a new file has a number that no entry has
sound-create : (w : World) → Sound w → (p : Path) (f : File) → Allowed (create p f) w → Sound (apply (create p f) w)
unfolding apply
sound-create w s p f a =
    placed v u p (file (new_id fs)) a.0.named (more_has (new_id fs) f fs (new-free fs)) a.0.housed (none_below v u p (file (new_id fs)) a.0)
    (λ e. absurd (a.0.below e)) (λ i e. (unused i e w.at s.tree, unused i e w.hand s.in_hand))
  where
    fs : Files
    fs = w.files

    v : World
    v = with_files w ((new_id fs, f) ∷ fs)

    u : Sound v
    u = refile w s ((new_id fs, f) ∷ fs) (more_ok (new_id fs) f fs (new-free fs) a.1 s.table) (more_covers (new_id fs) f fs (new-free fs))

    unused : (i : ℕ) → file (new_id fs) ≡ file i → (t : Entries) → Tidy fs t → Absent i t
    unused i e t h q l =
        let k = h.nodes q (file i) l in
        let z : new_id fs ≡ i = cc in
        clash (file_of fs i) k.0 (subst (λ (j : ℕ). file_of fs j ≡ none) z (new-free fs)) k.1

-- an allowed edit of a sound world leaves it sound
pub sound-edit : (e : Edit) (w : World) → Sound w → Allowed e w → Sound (apply e w)
unfolding apply
sound-edit (make p m) w s a =
    placed w s p (dir m) a.0 a.1 a.2 (λ x k e. (m, refl)) (λ e. (m, refl)) (λ i e. absurd (dir_no_file e))
sound-edit (create p f) w s a = sound-create w s p f a
sound-edit (symlink p m g) w s a =
    placed w s p (link m g) a.0.named (a.1, a.2) a.0.housed (none_below w s p (link m g) a.0) (λ e. absurd (a.0.below e))
    (λ i e. absurd (link_no_file e))
sound-edit (change p c) w s a = sound-change w s p c a (look w.at p) refl
sound-edit (remove p) w s a =
    retree w s (cut p w.at) (tidy-cut w.files w.at s.tree p) (λ n e. s.root n (cut_some p w.at [] n e).1)
    (λ q r i l v. s.apart q r i (cut_some p w.at q (file i) l).1 v)
sound-edit (take p) w s a = sound-take w s p
sound-edit (give p) w s a = sound-give w s p a
sound-edit (opens n p k) w s a = sound-open w s n p k a (look w.at p) refl
sound-edit (close n) w s a = reopen w s (close_num n w.opens) (opens-less w.files n w.opens s.numbers)
sound-edit (seek n k) w s a = reopen w s (seek_num n k w.opens) (opens-moved w.files n k w.opens a s.numbers)
sound-edit (change_held n c) w s a = sound-held w s c a (open_of w.opens n)
sound-edit (go p) w s a =
    record { tree = s.tree; in_hand = s.in_hand; root = s.root; apart = s.apart; table = s.table; numbers = s.numbers; current = a; umask = s.umask }
sound-edit (umask m) w s a =
    record { tree = s.tree; in_hand = s.in_hand; root = s.root; apart = s.apart; table = s.table; numbers = s.numbers; current = s.current; umask = a }
