-- A call changes, opens and takes out only what it found: on the world where such an edit is made, its entry stands. So the
-- questions alone tell which calls demand 3 leaves out.
-- Assumes nothing.
use mathlib.Core.Bool.{Bool, true, false, ◌&&◌, ◌||◌, not}
use mathlib.Core.List.{List, [], ◌∷◌, ◌++◌}
use mathlib.Core.Option.{Option, none, some}
use mathlib.Core.Path.{◌≡◌, refl, sym, ap, ◌∙◌, subst}
use Prim.Native.Nat.{ℕ, ◌≤◌}
use lib.ListN.{length}
use Rattle.text.specs.Utf8.{Bytes}
use Rattle.path.specs.Path.{Name, is_absolute, names}
use Rattle.model.specs.Tree.{Path, Time, Meta, File, Node, dir, file, link, look, same_path, behind, Change, write, chmod, touch, change_meta, new_id, links_in}
use Rattle.model.specs.Prog.{World, Kind, kind?, bytes?, Answer, answer, on_some, node_kind, Edit, make, create, symlink, change, remove, take, give, opens, close, seek, change_held, go, umask, apply, change_at, Prog, ret, stop, ask, edit, edits, ◌>>=◌, ◌>>◌, done, run}
use Rattle.model.specs.Lookup.{Where, lookup}
use Rattle.model.specs.Operations as O
use Rattle.model.specs.Calls as Calls
use Rattle.model.specs.Calls.{Op, program}
use Rattle.model.specs.Fuller.{misses, excepts_ask, excepts}
use Rattle.model.proofs.Entries.{clash, put-here}
use Rattle.model.proofs.Demand.Over.{excepts_edit}
use Rattle.model.proofs.Demand.TwoRuns.{excepts_by}
use Rattle.model.proofs.Lookups.Pure.{same_answer, no_answer, pure-need}
use Rattle.model.proofs.Running.{Tells, tells-bind, tells-done, Pure}
use Rattle.model.proofs.Lookups.Rewalk.{found-stands}
use Rattle.model.proofs.Lookups.Standing.{old-stands}
use Rattle.model.proofs.Refusals.Tests.{tests, pure-ask, pure-lookup, pure-absolute, pure-must, pure-parted, pure-only_file, pure-leads, pure-last_entry, pure-open_walk, pure-parent_stands, pure-new_mode, pure-source_at, pure-replaces}

-- ---- edits on what stands

-- an entry stands at the path
abbrev pub Stood : World → Path → Type 0
Stood w p = (n : Node) × (look w.at p ≡ some n)

-- the entry that an edit changes, opens or takes out stands
abbrev pub Anchored : Edit → World → Type 0
Anchored (make p m) w = Unit {0}
Anchored (create p f) w = Unit {0}
Anchored (symlink p m s) w = Unit {0}
Anchored (change p c) w = Stood w p
Anchored (remove p) w = Unit {0}
Anchored (take p) w = Stood w p
Anchored (give p) w = Unit {0}
Anchored (opens n p k) w = Stood w p
Anchored (close n) w = Unit {0}
Anchored (seek n k) w = Unit {0}
Anchored (change_held n c) w = Unit {0}
Anchored (go p) w = Unit {0}
Anchored (umask m) w = Unit {0}

-- so it is with every edit of the run on this world
unfoldable pub Steady : {A : Type 0} → Prog A → World → Type 0
Steady (ret a) w = Unit {0}
Steady (stop n) w = Unit {0}
Steady (ask q k) w = Steady (k (answer q w)) w
Steady (edit e p) w = Anchored e w × Steady p (apply e w)

-- an edit that needs no entry
abbrev Easy : Edit → Type 0
Easy e = (w : World) → Anchored e w

-- whatever is answered, no edit needs an entry
unfoldable Plain : {A : Type 0} → Prog A → Type 0
Plain (ret a) = Unit {0}
Plain (stop n) = Unit {0}
Plain (ask q k) = (a : Answer q) → Plain (k a)
Plain (edit e p) = Easy e × Plain p

-- ---- how plain programs are put together

plain-ret : {A : Type 0} (a : A) → Plain (ret a)
unfolding Plain
plain-ret a = tt

plain-pure : {A : Type 0} (p : Prog A) → Pure p → Plain p
unfolding Plain
plain-pure (ret a) h = tt
plain-pure (stop n) h = tt
plain-pure (ask q k) h = λ a. plain-pure (k a) (h a)
plain-pure (edit e p) h = absurd h

plain-bind : {A B : Type 0} (p : Prog A) (f : A → Prog B) → Plain p → ((a : A) → Plain (f a)) → Plain (p >>= f)
unfolding Plain ◌>>=◌
plain-bind (ret a) f h k = k a
plain-bind (stop n) f h k = tt
plain-bind (ask q g) f h k = λ a. plain-bind (g a) f (h a) k
plain-bind (edit e p) f h k = (h.0, plain-bind p f h.1 k)

plain-make : (p : Path) (m : Meta) → Plain (edits (make p m))
unfolding Plain
plain-make p m = (λ w. tt, tt)

plain-symlink : (p : Path) (m : Meta) (s : Bytes) → Plain (edits (symlink p m s))
unfolding Plain
plain-symlink p m s = (λ w. tt, tt)

plain-remove : (p : Path) → Plain (edits (remove p))
unfolding Plain
plain-remove p = (λ w. tt, tt)

plain-give : (p : Path) → Plain (edits (give p))
unfolding Plain
plain-give p = (λ w. tt, tt)

plain-close : (n : ℕ) → Plain (edits (close n))
unfolding Plain
plain-close n = (λ w. tt, tt)

plain-seek : (n k : ℕ) → Plain (edits (seek n k))
unfolding Plain
plain-seek n k = (λ w. tt, tt)

plain-held : (n : ℕ) (c : Change) → Plain (edits (change_held n c))
unfolding Plain
plain-held n c = (λ w. tt, tt)

plain-go : (p : Path) → Plain (edits (go p))
unfolding Plain
plain-go p = (λ w. tt, tt)

plain-umask : (m : ℕ) → Plain (edits (umask m))
unfolding Plain
plain-umask m = (λ w. tt, tt)

plain-make_if : (m : Meta) (d : Path) (o : Option Kind) → Plain (O.make_if m d o)
unfolding O.make_if
plain-make_if m d none = plain-make d m
plain-make_if m d (some k) = plain-ret tt

plain-make_missing : (m : Meta) (d : Path) (r : List Name) → Plain (O.make_missing m d r)
unfolding O.make_missing ◌>>◌
plain-make_missing m d [] = plain-bind _ _ (plain-pure _ (pure-ask (kind? d))) (λ k. plain-make_if m d k)
plain-make_missing m d (x ∷ r) =
    plain-bind _ _ (plain-pure _ (pure-ask (kind? d))) λ k.
    plain-bind _ _ (plain-make_if m d k) λ _.
    plain-make_missing m (d ++ (x ∷ [])) r

ruleset plain =
    (plain-bind, plain-ret, plain-pure, plain-make, plain-symlink, plain-remove, plain-give, plain-close, plain-seek, plain-held, plain-go, plain-umask, plain-make_missing, tests)

plain-a_file_out : (p : Path) (o : Option Kind) → Plain (O.a_file_out p o)
unfolding O.a_file_out ◌>>◌
plain-a_file_out p o = search plain depth 12

plain-a_dir_out : (p : Path) (o : Option Kind) → Plain (O.a_dir_out p o)
unfolding O.a_dir_out ◌>>◌
plain-a_dir_out p o = search plain depth 12

plain-a_tree_out : (p : Path) (o : Option Kind) → Plain (O.a_tree_out p o)
unfolding O.a_tree_out ◌>>◌
plain-a_tree_out p none = search plain depth 12
plain-a_tree_out p (some k) = search plain depth 12

-- ---- how steady programs are put together

plain-steady : {A : Type 0} (p : Prog A) (w : World) → Plain p → Steady p w
unfolding Plain Steady
plain-steady (ret a) w h = tt
plain-steady (stop n) w h = tt
plain-steady (ask q k) w h = plain-steady (k (answer q w)) w (h (answer q w))
plain-steady (edit e p) w h = (h.0 w, plain-steady p (apply e w) h.1)

-- behind what only asks, its answer on this world counts
steady_then : {A B : Type 0} (p : Prog A) (f : A → Prog B) (w : World) → Pure p → ((a : A) → run p w ≡ done a w → Steady (f a) w) → Steady (p >>= f) w
unfolding Steady run ◌>>=◌
steady_then (ret a) f w h k = k a refl
steady_then (stop n) f w h k = tt
steady_then (ask q g) f w h k = steady_then (g (answer q w)) f w (h (answer q w)) k
steady_then (edit e p) f w h k = absurd h

-- before what is plain
steady-end : {A B : Type 0} (p : Prog A) (f : A → Prog B) (w : World) → Steady p w → ((a : A) → Plain (f a)) → Steady (p >>= f) w
unfolding Steady ◌>>=◌
steady-end (ret a) f w h k = plain-steady (f a) w (k a)
steady-end (stop n) f w h k = tt
steady-end (ask q g) f w h k = steady-end (g (answer q w)) f w h k
steady-end (edit e p) f w h k = (h.0, steady-end p f (apply e w) h.1 k)

-- one edit
steady-edits : (e : Edit) (w : World) → Anchored e w → Steady (edits e) w
unfolding Steady
steady-edits e w h = (h, tt)

-- two
steady_two : (e d : Edit) (w : World) → Anchored e w → Anchored d (apply e w) → Steady (edits e >>= λ _. edits d) w
unfolding Steady ◌>>=◌
steady_two e d w h k = (h, (k, tt))

-- an edit, and then what is plain
steady-edit-end : {A : Type 0} (e : Edit) (p : Prog A) (w : World) → Anchored e w → Plain p → Steady (edits e >>= λ _. p) w
unfolding Steady ◌>>=◌
steady-edit-end e p w h k = (h, plain-steady p (apply e w) k)

-- ---- what a walk found stands

module _ (w : World) where
  -- what has a kind stands
  kind-stood : (p : Path) (k : Kind) → answer (kind? p) w ≡ some k → Stood w p
  unfolding answer
  kind-stood p k e = go (look w.at p) refl e
    where
      go : (o : Option Node) → look w.at p ≡ o → on_some o (λ n. some (node_kind n)) ≡ some k → Stood w p
      go none y e = clash none k refl e
      go (some n) y e = (n, y)

  -- what a lookup says of its answer
  abbrev Finds : Where → Type 0
  Finds a = (k : Kind) → a.kind ≡ some k → Stood w a.path

  look-finds : (b : ℕ) (p : Path) (a : Where) → run (lookup b p) w ≡ done a w → Finds a
  look-finds b p a e k z = kind-stood a.path k (found-stands w b p a w e k z).0

  pure-tells : {A : Type 0} (p : Prog A) → Pure p → Tells p w (λ a. run p w ≡ done a w)
  unfolding run
  pure-tells (ret a) h = refl
  pure-tells (stop n) h = tt
  pure-tells (ask q k) h = pure-tells (k (answer q w)) (h (answer q w))
  pure-tells (edit e p) h = absurd h

  open-finds : (b : ℕ) (p : Path) (a : Where) → run (O.open_walk b p) w ≡ done a w → Finds a
  unfolding O.open_walk
  open-finds b p a e = (tells-done (O.open_walk b p) w Finds told a w e).1
    where
      told : Tells (O.open_walk b p) w Finds
      told =
          tells-bind (lookup b p) _ w (λ v. run (lookup b p) w ≡ done v w) Finds (pure-tells (lookup b p) (pure-lookup b p)) λ v z.
          tells-bind (O.parted v.path) _ w (λ l. run (O.parted v.path) w ≡ done l w) Finds (pure-tells (O.parted v.path) (pure-parted v.path)) λ _ _.
          look-finds b p v z

  must_is : {A : Type 0} (o : Option A) (a : A) → run (O.must o) w ≡ done a w → o ≡ some a
  unfolding O.must run
  must_is none a e = no_answer e
  must_is (some c) a e = ap some (same_answer e)

  -- an entry that is there was looked up
  pub record Led (b : ℕ) (p : Path) (e : O.There) : Type 0 where
    pub at : Where
    pub looked : run (lookup b p) w ≡ done at w
    pub kind : at.kind ≡ some e.kind
    pub path : at.path ≡ e.path

  leads-led : (b : ℕ) (p : Path) (e : O.There) → run (O.leads b p) w ≡ done e w → Led b p e
  unfolding O.leads
  leads-led b p e h = (tells-done (O.leads b p) w (Led b p) told e w h).1
    where
      told : Tells (O.leads b p) w (Led b p)
      told =
          tells-bind (lookup b p) _ w (λ v. run (lookup b p) w ≡ done v w) (Led b p) (pure-tells (lookup b p) (pure-lookup b p)) λ v z.
          tells-bind (O.must v.kind) _ w (λ k. run (O.must v.kind) w ≡ done k w) (Led b p) (pure-tells (O.must v.kind) (pure-must v.kind)) λ k m.
          record { at = v; looked = z; kind = must_is v.kind k m; path = refl }

  -- and stands
  leads-finds : (b : ℕ) (p : Path) (e : O.There) → run (O.leads b p) w ≡ done e w → Stood w e.path
  leads-finds b p e h = let l = leads-led b p e h in subst (Stood w) l.path (look-finds b p l.at l.looked e.kind l.kind)

  -- an entry that is changed stands on
  change-stood : (p : Path) (c : Change) → Stood w p → Stood (apply (change p c) w) p
  unfolding apply
  change-stood p c (n, e) = subst (λ (o : Option Node). Stood (change_at w p c o) p) (sym e) (go n e)
    where
      go : (n : Node) → look w.at p ≡ some n → Stood (change_at w p c (some n)) p
      go (dir m) e = (dir (change_meta c m), put-here p (dir (change_meta c m)) w.at)
      go (file i) e = (file i, e)
      go (link m s) e = (link (change_meta c m) s, put-here p (link (change_meta c m) s) w.at)

  -- ---- open, write, copy, hard link

  -- where a file starts, and the number on it
  steady-start : (v : World) (c : Bool) (p : Path) (n : ℕ) → Stood v p → Steady (O.start_at c p >>= λ a. edits (opens n p a)) v
  unfolding O.start_at Steady ◌>>=◌
  steady-start v false p n h = (h, tt)
  steady-start v true p n h = (h, tt)

  -- cleared or not, the file is opened
  steady-cut : (c d : Bool) (p : Path) (t : Time) (n : ℕ) → Stood w p → Steady (O.truncated c p t >>= λ _. O.start_at d p >>= λ a. edits (opens n p a)) w
  unfolding O.truncated Steady ◌>>=◌
  steady-cut true d p t n h = (h, steady-start (apply (change p (write [] t)) w) d p n (change-stood p (write [] t) h))
  steady-cut false d p t n h = steady-start w d p n h

  -- a file that is made stands
  made-stood : (p : Path) (f : File) → Stood (apply (create p f) w) p
  unfolding apply
  made-stood p f = (file (new_id w.files), put-here p (file (new_id w.files)) w.at)

  steady-open_entry : (o : O.Opening) (n : ℕ) (t : Time) (p : Path) (k : Option Kind) → ((j : Kind) → k ≡ some j → Stood w p) → Steady (O.open_entry o n t p k) w
  unfolding O.open_entry ◌>>◌
  steady-open_entry o n t p (some k) h =
      steady_then _ _ w (pure-only_file k) λ _ _.
      steady_then _ _ w (pure-need (not o.create_new) 12) λ _ _.
      steady-cut o.truncate o.append p t n (h k refl)
  steady-open_entry o n t p none h =
      steady_then _ _ w (pure-parent_stands p) λ _ _.
      steady_then _ _ w (pure-need o.create 8) λ _ _.
      steady_then _ _ w (pure-new_mode o.mode) λ m _.
      steady_two (create p _) (opens n p 0) w tt (made-stood p _)

  steady-write_entry : (t : Time) (s : Bytes) (p : Path) (o : Option Kind) → ((k : Kind) → o ≡ some k → Stood w p) → Steady (O.write_entry t s p o) w
  unfolding O.write_entry ◌>>◌
  steady-write_entry t s p (some k) h = steady_then _ _ w (pure-only_file k) λ _ _. steady-edits (change p (write s t)) w (h k refl)
  steady-write_entry t s p none h =
      steady_then _ _ w (pure-parent_stands p) λ _ _. steady_then _ _ w (pure-new_mode none) λ m _. steady-edits (create p _) w tt

  steady-write_to : (b : ℕ) (t : Time) (s : Bytes) (p : Path) → Steady (O.write_to b t s p) w
  unfolding O.write_to ◌>>◌
  steady-write_to b t s p =
      steady_then _ _ w (pure-open_walk b p) λ a e.
      steady-end _ _ w (steady-write_entry t s a.path a.kind (open-finds b p a e)) λ _.
      plain-ret _

  -- ---- permissions, times

  steady-change : (b : ℕ) (p : Path) (c : Change)
      → Steady (O.leads b p >>= λ e. edits (change e.path c) >>= λ _. ret (O.plain_reply (length e.links))) w
  steady-change b p c =
      steady_then _ _ w (pure-leads b p) λ e h.
      steady-edit-end (change e.path c) _ w (leads-finds b p e h) (plain-ret _)

  -- ---- rename

  steady-take : (b : ℕ) (old : Path) (m : O.Parted) (t : Time) → Stood w old → Steady (O.take_then_make b old m t) w
  unfolding O.take_then_make ◌>>◌
  steady-take b old m t h = steady-edit-end (take old) _ w h (search plain depth 12)

  steady-apart : (b : ℕ) (t : Time) (p q : Path) → links_in w.at ≤ b → Steady (O.rename_apart b t p q) w
  unfolding O.rename_apart ◌>>◌
  steady-apart b t p q few =
      steady_then _ _ w (pure-parted p) λ l cut_at.
      steady_then _ _ w (pure-parted q) λ m _.
      steady_then _ _ w (pure-leads b p) λ v led.
      steady_then _ _ w (pure-need (not (O.is_dir v.kind && O.is_some (behind p q))) 11) λ _ _.
      steady_then _ _ w (pure-lookup b q) λ y _.
      steady_then _ _ w (pure-replaces v.kind y.path y.kind) λ _ _.
      steady_then _ _ w (pure-last_entry b p) λ o e.
      steady-end _ _ w (steady-take b o.path m t (old l v cut_at (leads-led b p v led) o e)) λ _.
      plain-ret _
    where
      old : (l : O.Parted) (v : O.There) → run (O.parted p) w ≡ done l w → Led b p v → (o : Where) → run (O.last_entry b p) w ≡ done o w → Stood w o.path
      old l v cut_at led o e =
          let h = old-stands w b few p cut_at led.looked led.kind in
          (h.1, ap (λ (z : Where). look w.at z.path) (same_answer (sym e ∙ h.2)) ∙ h.3)

  steady-rename_by : (same : Bool) (b : ℕ) (t : Time) (p q : Path) → links_in w.at ≤ b → Steady (O.rename_by same b t p q) w
  unfolding O.rename_by
  steady-rename_by true b t p q few = plain-steady _ w (plain-ret _)
  steady-rename_by false b t p q few = steady-apart b t p q few

-- ---- all calls

-- every call changes, opens and takes out only what stands
pub steady : (o : Op) (b : ℕ) (w : World) → links_in w.at ≤ b → Steady (program b o) w
unfolding program ◌>>◌ O.on_path O.on_paths O.on_given O.on_raw O.canonicalize_at O.set_current_dir_at O.umask_to O.create_dir_at O.open_at O.read_at O.write_at O.copy_at O.hard_link_at O.link_at O.remove_at O.rename_at O.metadata_at O.symlink_metadata_at O.read_link_at O.set_permissions_at O.set_times_at O.list_at O.close_on O.read_on O.seek_on O.set_length_on O.set_mode_on O.set_times_on O.metadata_on
steady (Calls.canonicalize p k) b w few = plain-steady _ _ (search plain depth 20)
steady (Calls.set_current_dir p) b w few = plain-steady _ _ (search plain depth 20)
steady (Calls.set_umask m) b w few = plain-steady _ _ (search plain depth 20)
steady (Calls.create_dir p t) b w few = plain-steady _ _ (search plain depth 20)
steady (Calls.open_file n g f m t) b w few =
    steady_then _ _ w (pure-absolute g) λ p _.
    steady_then _ _ w (pure-open_walk b p) λ a e.
    steady-end _ _ w (steady-open_entry w (Calls.opening_of f m) n t a.path a.kind (open-finds w b p a e)) λ _.
    plain-ret _
steady (Calls.read_file p k) b w few = plain-steady _ _ (search plain depth 20)
steady (Calls.write_file g d t) b w few =
    steady_then _ _ w (pure-absolute g) λ p _.
    steady-end _ _ w (steady-write_to w b t d p) λ _. plain-ret _
steady (Calls.copy_file g d t) b w few =
    steady_then _ _ w (pure-absolute g) λ p _.
    steady_then _ _ w (pure-absolute d) λ q _.
    steady_then _ _ w (pure-source_at b p) λ c _.
    steady-end _ _ w (steady-write_to w b t c.bytes q) λ _. plain-ret _
steady (Calls.hard_link g d t) b w few =
    steady_then _ _ w (pure-absolute g) λ p _.
    steady_then _ _ w (pure-absolute d) λ q _.
    steady_then _ _ w (pure-leads b p) λ v _.
    steady_then _ _ w (pure-only_file v.kind) λ _ _.
    steady_then _ _ w (pure-ask (bytes? v.path)) λ c _.
    steady-end _ _ w (steady-write_to w b t _ q) λ _. plain-ret _
steady (Calls.link_file g p t) b w few = plain-steady _ _ (search plain depth 20)
steady (Calls.remove_file p) b w few = plain-steady _ _ (search (plain, plain-a_file_out) depth 20)
steady (Calls.remove_dir p) b w few = plain-steady _ _ (search (plain, plain-a_dir_out) depth 20)
steady (Calls.remove_tree p) b w few = plain-steady _ _ (search (plain, plain-a_tree_out) depth 20)
steady (Calls.rename g d t) b w few =
    steady_then _ _ w (pure-absolute g) λ p _.
    steady_then _ _ w (pure-absolute d) λ q _.
    steady-rename_by w (same_path p q) b t p q few
steady (Calls.metadata p k) b w few = plain-steady _ _ (search plain depth 20)
steady (Calls.symlink_metadata p k) b w few = plain-steady _ _ (search plain depth 20)
steady (Calls.read_link p k) b w few = plain-steady _ _ (search plain depth 20)
steady (Calls.set_permissions g m) b w few =
    steady_then _ _ w (pure-absolute g) λ p _. steady-change w b p (chmod m)
steady (Calls.set_times g a m) b w few =
    steady_then _ _ w (pure-need (is_absolute g) 8) λ _ _. steady-change w b (names g) (touch a m)
steady (Calls.list p k r) b w few = plain-steady _ _ (search plain depth 20)
steady (Calls.close_number n) b w few = plain-steady _ _ (search plain depth 20)
steady (Calls.read_number n k) b w few = plain-steady _ _ (search plain depth 20)
steady (Calls.seek_number n o k) b w few = plain-steady _ _ (search plain depth 20)
steady (Calls.set_length n k) b w few = plain-steady _ _ (search plain depth 20)
steady (Calls.set_mode_number n m) b w few = plain-steady _ _ (search plain depth 20)
steady (Calls.set_times_number n f a m) b w few = plain-steady _ _ (search plain depth 20)
steady (Calls.metadata_number n k) b w few = plain-steady _ _ (search plain depth 20)

-- ---- which calls are left out

-- what stands in the first world is not missed
not_missed : (w v : World) (p : Path) → Stood w p → misses w v p ≡ false
unfolding misses
not_missed w v p (n, e) = rw e refl

edit-kept : (e : Edit) (w v : World) → Anchored e w → excepts_edit e w v ≡ false
unfolding excepts_edit
edit-kept (make p m) w v h = refl
edit-kept (create p f) w v h = refl
edit-kept (symlink p m s) w v h = refl
edit-kept (change p c) w v h = not_missed w v p h
edit-kept (remove p) w v h = refl
edit-kept (take p) w v h = not_missed w v p h
edit-kept (give p) w v h = refl
edit-kept (opens n p k) w v h = not_missed w v p h
edit-kept (close n) w v h = refl
edit-kept (seek n k) w v h = refl
edit-kept (change_held n c) w v h = refl
edit-kept (go p) w v h = refl
edit-kept (umask m) w v h = refl

-- where every edit is on what stands, no edit is left out
pub by_questions : {A : Type 0} (p : Prog A) (w v : World) → Steady p w → excepts_by excepts_ask excepts_edit p w v ≡ excepts p w v
unfolding Steady excepts_by excepts
by_questions (ret a) w v h = refl
by_questions (stop n) w v h = refl
by_questions (ask q k) w v h = ap (λ (b : Bool). excepts_ask q w v || b) (by_questions (k (answer q w)) w v h)
by_questions (edit e p) w v h = rw (edit-kept e w v h.0) (by_questions p (apply e w) (apply e v) h.1)
