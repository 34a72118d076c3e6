-- What the calls ask: only list asks for a listing, and only remove directory and rename ask whether a directory is empty. And
-- with which numbers they refuse.
-- Assumes nothing.
use mathlib.Core.Bool.{Bool, true, false, ◌&&◌, ◌||◌, not}
use mathlib.Core.List.{List, [], ◌∷◌, ◌++◌}
use mathlib.Core.Option.{Option, none, some}
use Prim.Native.Nat.{ℕ, zero, suc}
use native.Mathlib.Omega.{arith}
use lib.Dec.{T, leb, leb→le, le→leb}
use Rattle.text.specs.Utf8.{Bytes}
use Rattle.text.specs.Utf8.{text as isText}
use Rattle.path.specs.Path.{Name, lengths_ok}
use Rattle.path.proofs.Laws.{and_left, and_right, and_both}
use Rattle.model.specs.Tree.{Path, Time, Meta, Open, links_in}
use Rattle.model.specs.Prog.{World, Kind, a_dir, aFile, a_link, Ask, kind?, stat?, bytes?, target?, list?, bare?, open?, held?, here?, mask?, Answer, answer, Edit, apply, Prog, ret, stop, ask, edit, asks, edits, ◌>>=◌, ◌>>◌, need, Out, done, refused, run}
use Rattle.model.specs.Lookup.{End, found, missing, last_link, Met, ends, mid_link, onward, until_symlink, behind_link, Walked, ended, no_follow, most_links, Where, reached, following}
use Rattle.model.specs.Operations as O
use Rattle.model.specs.Operations.{Reply}
use Rattle.model.specs.Calls as Calls
use Rattle.model.specs.Calls.{State, entries_used, bytes_used, Op, Work, Call, Given, given_to, all, work_fits, number_fits, first_of, screen, program, world_of, state_of, Result, accepted, refusal, Outcome, settle_by, settle, decide_by, perform_with, perform}

-- ---- what may be asked

-- a listing is asked for
unfoldable pub is_list : Ask → Bool
is_list (kind? p) = false
is_list (stat? p) = false
is_list (bytes? p) = false
is_list (target? p) = false
is_list (list? p) = true
is_list (bare? p) = false
is_list (open? n) = false
is_list (held? n) = false
is_list here? = false
is_list mask? = false

-- it is asked whether a directory is empty
unfoldable pub is_bare : Ask → Bool
is_bare (kind? p) = false
is_bare (stat? p) = false
is_bare (bytes? p) = false
is_bare (target? p) = false
is_bare (list? p) = false
is_bare (bare? p) = true
is_bare (open? n) = false
is_bare (held? n) = false
is_bare here? = false
is_bare mask? = false

-- all but a listing and whether a directory is empty
unfoldable pub neither : Ask → Bool
neither q = not (is_list q || is_bare q)

-- all but a listing
unfoldable pub no_list : Ask → Bool
no_list q = not (is_list q)

-- all but whether a directory is empty
unfoldable pub no_bare : Ask → Bool
no_bare q = not (is_bare q)

-- what a call may ask
unfoldable pub may_ask : Op → Ask → Bool
may_ask (Calls.canonicalize s k) = neither
may_ask (Calls.set_current_dir s) = neither
may_ask (Calls.set_umask m) = neither
may_ask (Calls.create_dir s t) = neither
may_ask (Calls.open_file n s f m t) = neither
may_ask (Calls.read_file s k) = neither
may_ask (Calls.write_file s d t) = neither
may_ask (Calls.copy_file s d t) = neither
may_ask (Calls.hard_link s d t) = neither
may_ask (Calls.link_file g s t) = neither
may_ask (Calls.remove_file s) = neither
may_ask (Calls.remove_dir s) = no_list
may_ask (Calls.remove_tree s) = neither
may_ask (Calls.rename s d t) = no_list
may_ask (Calls.metadata s k) = neither
may_ask (Calls.symlink_metadata s k) = neither
may_ask (Calls.read_link s k) = neither
may_ask (Calls.set_permissions s m) = neither
may_ask (Calls.set_times s a m) = neither
may_ask (Calls.list s k r) = no_bare
may_ask (Calls.close_number n) = neither
may_ask (Calls.read_number n k) = neither
may_ask (Calls.seek_number n o k) = neither
may_ask (Calls.set_length n k) = neither
may_ask (Calls.set_mode_number n m) = neither
may_ask (Calls.set_times_number n f a m) = neither
may_ask (Calls.metadata_number n k) = neither

-- the refusals that a program may give itself
abbrev pub InProgram : ℕ → Type 0
InProgram n = T (leb 5 n && leb n 14)

-- the program asks only what is allowed and refuses with 5 to 14, whatever is answered
unfoldable pub Asks : {A : Type 0} → (Ask → Bool) → Prog A → Type 0
Asks ok (ret a) = Unit {0}
Asks ok (stop n) = InProgram n
Asks ok (ask q k) = T (ok q) × ((a : Answer q) → Asks ok (k a))
Asks ok (edit e p) = Asks ok p

-- ---- how programs are put together

-- an answer asks nothing
asks-ret : {A : Type 0} (ok : Ask → Bool) (a : A) → Asks ok (ret a)
unfolding Asks
asks-ret ok a = tt

-- an edit
asks-edits : (ok : Ask → Bool) (e : Edit) → Asks ok (edits e)
unfolding Asks
asks-edits ok e = tt

-- a test
asks-need : (ok : Ask → Bool) (b : Bool) (n : ℕ) → InProgram n → Asks ok (need b n)
unfolding Asks need
asks-need ok true n h = tt
asks-need ok false n h = h

-- one question asks that question
asks_one : (ok : Ask → Bool) (q : Ask) → T (ok q) → Asks ok (asks q)
unfolding Asks
asks_one ok q h = (h, λ a. tt)

-- one program behind another
asks-bind : {A B : Type 0} (ok : Ask → Bool) (p : Prog A) (f : A → Prog B)
    → Asks ok p → ((a : A) → Asks ok (f a)) → Asks ok (p >>= f)
unfolding Asks ◌>>=◌
asks-bind ok (ret a) f h k = k a
asks-bind ok (stop n) f h k = h
asks-bind ok (ask q g) f h k = (h.0, λ a. asks-bind ok (g a) f (h.1 a) k)
asks-bind ok (edit e p) f h k = asks-bind ok p f h k

-- what asks only what is allowed does so where more is allowed
asks_more : {A : Type 0} (ok more : Ask → Bool) → ((q : Ask) → T (ok q) → T (more q)) → (p : Prog A) → Asks ok p → Asks more p
unfolding Asks
asks_more ok more m (ret a) h = tt
asks_more ok more m (stop n) h = h
asks_more ok more m (ask q k) h = (m q h.0, λ a. asks_more ok more m (k a) (h.1 a))
asks_more ok more m (edit e p) h = asks_more ok more m p h

-- what is not either is not the first
nor_left : (a b : Bool) → T (not (a || b)) → T (not a)
nor_left true b t = t
nor_left false b t = tt

-- nor the second
nor_right : (a b : Bool) → T (not (a || b)) → T (not b)
nor_right true b t = absurd t
nor_right false b t = t

-- what asks neither asks for no listing
to_no_list : {A : Type 0} (p : Prog A) → Asks neither p → Asks no_list p
unfolding neither no_list
to_no_list p h = asks_more neither no_list (λ q t. nor_left (is_list q) (is_bare q) t) p h

-- nor whether a directory is empty
to_no_bare : {A : Type 0} (p : Prog A) → Asks neither p → Asks no_bare p
unfolding neither no_bare
to_no_bare p h = asks_more neither no_bare (λ q t. nor_right (is_list q) (is_bare q) t) p h

-- ---- single questions

-- the kind at a path
asks-kind : (p : Path) → Asks neither (asks (kind? p))
unfolding neither is_list is_bare
asks-kind p = asks_one neither (kind? p) tt

-- what metadata shows
asks-stat : (p : Path) → Asks neither (asks (stat? p))
unfolding neither is_list is_bare
asks-stat p = asks_one neither (stat? p) tt

-- a file's bytes
asks-bytes : (p : Path) → Asks neither (asks (bytes? p))
unfolding neither is_list is_bare
asks-bytes p = asks_one neither (bytes? p) tt

-- a link's target
asks-target : (p : Path) → Asks neither (asks (target? p))
unfolding neither is_list is_bare
asks-target p = asks_one neither (target? p) tt

-- an open number
asks-open : (n : ℕ) → Asks neither (asks (open? n))
unfolding neither is_list is_bare
asks-open n = asks_one neither (open? n) tt

-- the bytes of its file
asks-held : (n : ℕ) → Asks neither (asks (held? n))
unfolding neither is_list is_bare
asks-held n = asks_one neither (held? n) tt

-- the current directory
asks-here : Asks neither (asks here?)
unfolding neither is_list is_bare
asks-here = asks_one neither here? tt

-- the umask
asks-mask : Asks neither (asks mask?)
unfolding neither is_list is_bare
asks-mask = asks_one neither mask? tt

-- a listing
asks-list : (p : Path) → Asks no_bare (asks (list? p))
unfolding no_bare is_bare
asks-list p = asks_one no_bare (list? p) tt

-- whether a directory is empty
asks-bare : (p : Path) → Asks no_list (asks (bare? p))
unfolding no_list is_list
asks-bare p = asks_one no_list (bare? p) tt

-- how programs are put together of these
ruleset whole =
    (asks-bind, asks-need, asks-edits, asks-ret, asks-kind, asks-stat, asks-bytes, asks-target, asks-open, asks-held, asks-here, asks-mask)

-- ---- lookups

-- a step of a walk
asks-onward : (d : Path) (r : List Name) (k : Option Kind) → Asks neither (onward d r k)
unfolding Asks onward
asks-onward d [] k = tt
asks-onward d (x ∷ r) none = tt
asks-onward d (x ∷ r) (some a_dir) = asks-bind neither _ _ (asks-kind (d ++ (x ∷ []))) λ k. asks-onward (d ++ (x ∷ [])) r k
asks-onward d (x ∷ r) (some aFile) = tt
asks-onward d (x ∷ r) (some a_link) = tt

-- a walk to the first link
asks-until : (d : Path) (r : List Name) → Asks neither (until_symlink d r)
unfolding until_symlink
asks-until d r = asks-bind neither _ _ (asks-kind d) λ k. asks-onward d r k

-- the path behind a link
asks-behind : (d : Path) (r : List Name) → Asks neither (behind_link d r)
unfolding behind_link ◌>>◌
asks-behind d r = search whole depth 12

-- the end of a walk
asks-ended : (ls : List Path) (m : Met) (f : Path → List Name → Prog Walked)
    → ((d : Path) (r : List Name) → Asks neither (f d r)) → Asks neither (ended ls m f)
unfolding Asks ended
asks-ended ls (ends e) f h = tt
asks-ended ls (mid_link d r) f h = h d r

-- a no-follow lookup
asks-no_follow : (k : ℕ) (p : Path) (ls : List Path) → Asks neither (no_follow k p ls)
unfolding Asks no_follow
asks-no_follow zero p ls = asks-bind neither _ _ (asks-until [] p) λ m. asks-ended ls m _ λ d r. tt
asks-no_follow (suc k) p ls =
    asks-bind neither _ _ (asks-until [] p) λ m. asks-ended ls m _ λ d r.
    asks-bind neither _ _ (asks-behind d r) λ q. asks-no_follow k q (ls ++ (d ∷ []))

-- the end of a no-follow lookup
asks-reached : (m : End) (ls : List Path) (f : Path → Prog Where)
    → ((d : Path) → Asks neither (f d)) → Asks neither (reached m ls f)
unfolding Asks reached
asks-reached (found d k) ls f h = tt
asks-reached (missing d) ls f h = tt
asks-reached (last_link d) ls f h = h d

-- a following lookup
asks-following : (b : ℕ) (p : Path) (ls : List Path) → Asks neither (following b p ls)
unfolding Asks following
asks-following zero p ls =
    asks-bind neither _ _ (asks-no_follow most_links p ls) λ y. asks-reached y.end y.links _ λ d. tt
asks-following (suc b) p ls =
    asks-bind neither _ _ (asks-no_follow most_links p ls) λ y. asks-reached y.end y.links _ λ d.
    asks-bind neither _ _ (asks-behind d []) λ q. asks-following b q (y.links ++ (d ∷ []))

-- ---- tests

-- what must be there
asks-must : {A : Type 0} (o : Option A) → Asks neither (O.must o)
unfolding Asks O.must
asks-must none = tt
asks-must (some a) = tt

-- the last name apart
asks-parted : (p : Path) → Asks neither (O.parted p)
unfolding Asks O.parted
asks-parted [] = tt
asks-parted (x ∷ p) = tt

-- a directory is needed
asks-is_directory : (k : Kind) → Asks neither (O.is_directory k)
unfolding Asks O.is_directory
asks-is_directory a_dir = tt
asks-is_directory aFile = tt
asks-is_directory a_link = tt

-- a file
asks-only_file : (k : Kind) → Asks neither (O.only_file k)
unfolding Asks O.only_file
asks-only_file a_dir = tt
asks-only_file aFile = tt
asks-only_file a_link = tt

-- nothing but a directory
asks-only_dir : (k : Kind) → Asks neither (O.only_dir k)
unfolding Asks O.only_dir
asks-only_dir a_dir = tt
asks-only_dir aFile = tt
asks-only_dir a_link = tt

-- no file
asks-not_file : (o : Option Kind) → Asks neither (O.not_file o)
unfolding Asks O.not_file
asks-not_file none = tt
asks-not_file (some k) = asks-is_directory k

-- no directory
asks-not_dir : (o : Option Kind) → Asks neither (O.not_dir o)
unfolding Asks O.not_dir
asks-not_dir none = tt
asks-not_dir (some k) = asks-need neither (not (O.is_dir k)) 12 tt

-- where a no-follow lookup ends
asks-end_there : (m : End) → Asks neither (O.end_there m)
unfolding Asks O.end_there
asks-end_there (found d k) = tt
asks-end_there (missing d) = tt
asks-end_there (last_link d) = tt

-- at a link
asks-only_link : (m : End) → Asks neither (O.only_link m)
unfolding Asks O.only_link
asks-only_link (found d k) = tt
asks-only_link (missing d) = tt
asks-only_link (last_link d) = tt

-- where a seek leads
asks-seek_from : (o n k size : ℕ) → Asks neither (O.seek_from o n k size)
unfolding O.seek_from O.from_end ◌>>◌
asks-seek_from zero n k size = search whole depth 12
asks-seek_from (suc zero) n k size = search whole depth 12
asks-seek_from (suc (suc o)) n k size = search whole depth 12

-- ---- parts of operations

-- a directory where nothing is
asks-make_if : (m : Meta) (d : Path) (o : Option Kind) → Asks neither (O.make_if m d o)
unfolding O.make_if
asks-make_if m d none = asks-edits neither _
asks-make_if m d (some k) = asks-ret neither tt

-- missing directories are made
asks-make_missing : (m : Meta) (d : Path) (r : List Name) → Asks neither (O.make_missing m d r)
unfolding O.make_missing ◌>>◌
asks-make_missing m d [] = asks-bind neither _ _ (asks-kind d) λ k. asks-make_if m d k
asks-make_missing m d (x ∷ r) =
    asks-bind neither _ _ (asks-kind d) λ k.
    asks-bind neither _ _ (asks-make_if m d k) λ _.
    asks-make_missing m (d ++ (x ∷ [])) r

-- the mode of a new file
asks-new_mode : (o : Option ℕ) → Asks neither (O.new_mode o)
unfolding O.new_mode
asks-new_mode none = asks-mask
asks-new_mode (some m) = asks-ret neither m

-- where an open file starts
asks-start_at : (b : Bool) (p : Path) → Asks neither (O.start_at b p)
unfolding O.start_at
asks-start_at true p = search whole depth 12
asks-start_at false p = asks-ret neither 0

-- a file is cleared, or not
asks-truncated : (b : Bool) (p : Path) (t : Time) → Asks neither (O.truncated b p t)
unfolding O.truncated
asks-truncated true p t = asks-edits neither _
asks-truncated false p t = asks-ret neither tt

-- the parts
ruleset parts =
    (whole, asks-following, asks-no_follow, asks-must, asks-parted, asks-is_directory, asks-only_file, asks-only_dir, asks-not_file, asks-not_dir, asks-end_there, asks-only_link, asks-seek_from, asks-make_missing, asks-truncated, asks-new_mode, asks-start_at)

-- an entry that is there
asks-leads : (b : ℕ) (p : Path) → Asks neither (O.leads b p)
unfolding O.leads
asks-leads b p = search parts depth 12

-- the entry of a last name
asks-last_entry : (b : ℕ) (p : Path) → Asks neither (O.last_entry b p)
unfolding O.last_entry O.directory ◌>>◌
asks-last_entry b p = search (parts, asks-leads) depth 12

-- a path made absolute
asks-absolute : (s : Bytes) → Asks neither (O.to_absolute s)
unfolding O.to_absolute ◌>>◌
asks-absolute s = search whole depth 12

-- opening what a walk found, or missed
asks-open_entry : (o : O.Opening) (n : ℕ) (t : Time) (p : Path) (k : Option Kind) → Asks neither (O.open_entry o n t p k)
unfolding O.open_entry O.parent_stands ◌>>◌
asks-open_entry o n t p none = search parts depth 12
asks-open_entry o n t p (some k) = search parts depth 12

-- writing there
asks-write_entry : (t : Time) (s : Bytes) (p : Path) (o : Option Kind) → Asks neither (O.write_entry t s p o)
unfolding O.write_entry O.parent_stands ◌>>◌
asks-write_entry t s p none = search parts depth 12
asks-write_entry t s p (some k) = search parts depth 12

-- removing a tree
asks-a_tree_out : (p : Path) (o : Option Kind) → Asks neither (O.a_tree_out p o)
unfolding O.a_tree_out ◌>>◌
asks-a_tree_out p none = search parts depth 12
asks-a_tree_out p (some k) = search parts depth 12

-- a directory that a rename replaces is empty
asks-emptied : (b : Bool) (p : Path) → Asks no_list (O.emptied b p)
unfolding O.emptied
asks-emptied true p = search (asks-bind, asks-bare, asks-need) depth 12
asks-emptied false p = asks-ret no_list tt

-- what a rename replaces
asks-replaces : (k : Kind) (p : Path) (o : Option Kind) → Asks no_list (O.replaces k p o)
unfolding O.replaces ◌>>◌
asks-replaces k p none = asks-ret no_list tt
asks-replaces k p (some e) = search (asks-bind, asks-need, asks-emptied) depth 12

-- a rename's edits
asks-take_then_make : (b : ℕ) (old : Path) (new : O.Parted) (t : Time) → Asks neither (O.take_then_make b old new t)
unfolding O.take_then_make ◌>>◌
asks-take_then_make b old new t = search parts depth 12

-- ---- all calls

-- the programs that ask neither
ruleset calls = (parts, asks-leads, asks-last_entry, asks-absolute, asks-open_entry, asks-write_entry, asks-a_tree_out)

-- those of list, remove directory and rename: what they are put together of asks neither, but for their own question
ruleset wider =
    (asks-bind, asks-need, asks-edits, asks-ret, asks-list, asks-bare, asks-replaces, to_no_list, to_no_bare, asks-following, asks-must, asks-parted, asks-only_dir, asks-leads, asks-last_entry, asks-absolute, asks-take_then_make)

-- a rename of two absolute paths
asks-rename_by : (same : Bool) (b : ℕ) (t : Time) (p q : Path) → Asks no_list (O.rename_by same b t p q)
unfolding O.rename_by O.rename_apart ◌>>◌
asks-rename_by true b t p q = asks-ret no_list _
asks-rename_by false b t p q = search wider depth 24

-- only list asks for a listing, and only remove directory and rename ask whether a directory is empty
pub asked : (o : Op) (b : ℕ) → Asks (may_ask o) (program b o)
unfolding may_ask program ◌>>◌ O.on_path O.on_paths O.on_given O.on_raw O.fits O.canonicalize_at O.set_current_dir_at O.umask_to O.create_dir_at O.open_walk O.open_at O.source_at O.read_at O.write_to O.write_at O.copy_at O.hard_link_at O.link_at O.remove_at O.a_file_out O.a_dir_out O.rename_at O.metadata_at O.symlink_metadata_at O.read_link_at O.set_permissions_at O.set_times_at O.list_at O.close_on O.read_on O.seek_on O.set_length_on O.set_mode_on O.set_times_on O.metadata_on
asked (Calls.canonicalize s k) b = search calls depth 20
asked (Calls.set_current_dir s) b = search calls depth 20
asked (Calls.set_umask m) b = search calls depth 20
asked (Calls.create_dir s t) b = search calls depth 20
asked (Calls.open_file n s f m t) b = search calls depth 20
asked (Calls.read_file s k) b = search calls depth 20
asked (Calls.write_file s d t) b = search calls depth 20
asked (Calls.copy_file s d t) b = search calls depth 20
asked (Calls.hard_link s d t) b = search calls depth 20
asked (Calls.link_file g s t) b = search calls depth 20
asked (Calls.remove_file s) b = search calls depth 20
asked (Calls.remove_dir s) b = search wider depth 20
asked (Calls.remove_tree s) b = search calls depth 20
asked (Calls.rename s d t) b = search (wider, asks-rename_by) depth 20
asked (Calls.metadata s k) b = search calls depth 20
asked (Calls.symlink_metadata s k) b = search calls depth 20
asked (Calls.read_link s k) b = search calls depth 20
asked (Calls.set_permissions s m) b = search calls depth 20
asked (Calls.set_times s a m) b = search calls depth 20
asked (Calls.list s k r) b = search wider depth 20
asked (Calls.close_number n) b = search calls depth 20
asked (Calls.read_number n k) b = search calls depth 20
asked (Calls.seek_number n o k) b = search calls depth 20
asked (Calls.set_length n k) b = search calls depth 20
asked (Calls.set_mode_number n m) b = search calls depth 20
asked (Calls.set_times_number n f a m) b = search calls depth 20
asked (Calls.metadata_number n k) b = search calls depth 20

-- ---- the numbers of refusals

-- a refusal of a program is one of 5 to 14
abbrev Refuses : {A : Type 0} → Out A → Type 0
Refuses (done a w) = Unit {0}
Refuses (refused n) = InProgram n

-- a run gives no other than its program
run-refuses : {A : Type 0} (ok : Ask → Bool) (p : Prog A) (w : World) → Asks ok p → Refuses (run p w)
unfolding Asks run
run-refuses ok (ret a) w h = tt
run-refuses ok (stop n) w h = h
run-refuses ok (ask q k) w h = run-refuses ok (k (answer q w)) w (h.1 (answer q w))
run-refuses ok (edit e p) w h = run-refuses ok p (apply e w) h

-- a refusal is one of 2 to 16
abbrev pub Numbered : Result → Type 0
Numbered (accepted r) = Unit {0}
Numbered (refusal n) = T (leb 2 n && leb n 16)

-- a program's is
widened : (n : ℕ) → InProgram n → T (leb 2 n && leb n 16)
widened n h =
    let a = leb→le 5 n (and_left (leb 5 n) (leb n 14) h) in
    let b = leb→le n 14 (and_right (leb 5 n) (leb n 14) h) in
    and_both (leb 2 n) (leb n 16) (le→leb 2 n (omega arith)) (le→leb n 16 (omega arith))

-- so are 15 and 16
settle-numbered : (s : State) (o : Out Reply) → Refuses o → Numbered (settle s o).result
unfolding settle
settle-numbered s (refused n) h = widened n h
settle-numbered s (done r w) h = by (leb (entries_used (state_of s w)) s.most) (leb (bytes_used (state_of s w)) s.room)
  where
    by : (a b : Bool) → Numbered (settle_by a b s r (state_of s w)).result
    by false b = tt
    by true false = tt
    by true true = tt

-- and those before the program
screen-numbered : (k : Work) (g : Given) (os : List Open) (s : State) (o : Outcome) → Numbered o.result → Numbered (decide_by (screen k g os) s o).result
unfolding screen
screen-numbered k g os s o h = by (work_fits g.walks k) (all isText g.texts) (all lengths_ok g.texts) (number_fits g.number os)
  where
    by : (a b c d : Bool) → Numbered (decide_by (first_of a 14 (first_of b 2 (first_of c 3 (first_of d 4 0)))) s o).result
    by false b c d = tt
    by true false c d = tt
    by true true false d = tt
    by true true true false = tt
    by true true true true = h

-- every refusal of a call is one of 2 to 16
pub numbered : (c : Call) (s : State) → Numbered (perform c s).result
unfolding perform perform_with
numbered c s =
    screen-numbered c.work (given_to c.op) s.opens s _
    (settle-numbered s _ (run-refuses (may_ask c.op) _ (world_of s) (asked c.op (links_in s.tree))))
