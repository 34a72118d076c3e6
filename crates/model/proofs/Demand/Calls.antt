-- Demand 3: a job on two states of which the second is the fuller one.
-- Assumes nothing.
use mathlib.Core.Bool.{Bool, true, false, ◌&&◌, ◌||◌, not, false≢true}
use mathlib.Core.List.{List, [], ◌∷◌, ◌++◌}
use mathlib.Core.Option.{Option, none, some}
use mathlib.Core.Path.{◌≡◌, refl, sym, ap, ◌∙◌}
use Prim.Native.Nat.{ℕ, zero, suc, ◌+◌, ◌≤◌}
use native.Mathlib.Omega.{arith}
use lib.Dec.{T, leb}
use lib.ListN.{length}
use borrow.Author.Tests.{leb-true, le-leb}
use Rattle.path.proofs.Laws.{and_left, and_right}
use Rattle.model.specs.Tree.{Path, Node, dir, file, link, Open, look, open_of, name_length, target_length, names_and_targets, contents_length, links_in}
use Rattle.model.specs.Prog.{World, Edit, make, create, symlink, change, remove, take, give, opens, close, seek, change_held, go, umask, apply, change_at, opened_at, change_by, Out, done, refused, run}
use Rattle.model.specs.Operations.{Reply, is_some}
use Rattle.model.specs.Calls.{State, Op, Work, Call, entries_used, bytes_used, kept_files, Given, given_to, Number, no_number, free, opened, work_fits, number_fits, all, first_of, screen, program, world_of, state_of, accepted, refusal, Outcome, settle_by, settle, decide_by, perform_with, perform, after_job}
use Rattle.model.specs.Rules.{Obeys}
use Rattle.model.specs.Passable.{PassableJob}
use Rattle.model.specs.Fuller.{free_entries, free_bytes, Fuller, excepts_ask, excepts, for_space, unless_screened, excepted, quiet, result_after}
use Rattle.model.proofs.Demand.Asking.{asked}
use Rattle.model.proofs.Demand.Bounds.{any_bound, same_exceptions}
use Rattle.model.proofs.Demand.Contents.{weigh, weigh-le, kept-weigh, only_second, only_at_lem, at_only}
use Rattle.model.proofs.Entries.{clash, look_none}
use Rattle.model.proofs.Demand.Extras.{Extra, Shrinks, shrink-edit}
use Rattle.model.proofs.Demand.Joining.{start_over, start-tidy}
use Rattle.model.proofs.Demand.Keeping.{kept-kept, kept_all, dropped, over_dropped, tidy-dropped, over_swept, tidy-swept}
use Rattle.model.proofs.Sound.Reached.{job-obeys}
use Rattle.model.proofs.Demand.Steady.{steady, by_questions}
use Rattle.model.proofs.Lookups.LinkCount.{links_of, links_within}
use Rattle.model.proofs.Demand.Over.{Over, SameNumber, excepts_edit}
use Rattle.model.proofs.Demand.OverEdits.{Likes, dirs, files, both_links as linked, likes, over_edit}
use Rattle.model.proofs.Demand.Parting.{contents-apart, everything, same_open}
use Rattle.model.proofs.Demand.Places.{in_tree, in_hand}
use Rattle.model.proofs.Demand.Spacing.{Top, weight, weight-edit, top-edit, hand_has, total-length, total-names, last_name_lem, root-name, like-target}
use Rattle.model.proofs.Demand.Tidy.{Tidy, tidy-edit}
use Rattle.model.proofs.Demand.Totals.{total, total_has}
use Rattle.std.proofs.lemmas.Bool.{or_parts}
use Rattle.model.proofs.Demand.TwoRuns.{Alike, two_runs}

-- ---- two states between calls

pub record Joined (s u : State) : Type 0 where
  pub over : Over (world_of s) (world_of u)
  pub tidy : Tidy (world_of s)
  pub tidy_too : Tidy (world_of u)
  pub current : s.here ≡ u.here
  pub umask : s.mask ≡ u.mask
  pub all : kept_files s.tree s.opens s.files ≡ s.files
  pub all_too : kept_files u.tree u.opens u.files ≡ u.files
  pub fits : (entries_used s ≤ s.most) × (bytes_used s ≤ s.room)
  pub fits_too : (entries_used u ≤ u.most) × (bytes_used u ≤ u.room)
  pub entries : free_entries s ≤ free_entries u
  pub bytes : free_bytes s ≤ free_bytes u

pub joined : (s u : State) → Obeys s → Obeys u → Fuller s u → Joined s u
joined s u os ou f =
    record {
      over = start_over s u os ou f.everything f.opens;
      tidy = start-tidy s os;
      tidy_too = start-tidy u ou;
      current = f.current;
      umask = f.umask;
      all = kept_all s.tree s.opens s.files os.files os.used;
      all_too = kept_all u.tree u.opens u.files ou.files ou.used;
      fits = (os.entries_fit, os.bytes_fit);
      fits_too = (ou.entries_fit, ou.bytes_fit);
      entries = f.entries;
      bytes = f.bytes;
    }

pub fuller : (s u : State) → Joined s u → Fuller s u
fuller s u j =
    record {
      current = j.current;
      umask = j.umask;
      opens = same_open s u j.over j.tidy j.tidy_too;
      everything = everything s u j.over j.tidy j.tidy_too;
      entries = j.entries;
      bytes = j.bytes;
    }

-- ---- while a call runs

-- the current directory and the umask of a world
pub record Set (w v : World) : Type 0 where
  pub here : w.here ≡ v.here
  pub mask : w.mask ≡ v.mask

-- an edit that touches neither
module _ (w v : World) (h : Set w v) where
  set-change : (p : Path) (c : _) (a b : Option Node) → Set (change_at w p c a) (change_at v p c b)
  set-change p c a b = record { here = here w a ∙ h.here ∙ sym (here v b); mask = mask w a ∙ h.mask ∙ sym (mask v b) }
    where
      here : (u : World) (o : Option Node) → (change_at u p c o).here ≡ u.here
      here u none = refl
      here u (some (dir m)) = refl
      here u (some (file i)) = refl
      here u (some (link m s)) = refl

      mask : (u : World) (o : Option Node) → (change_at u p c o).mask ≡ u.mask
      mask u none = refl
      mask u (some (dir m)) = refl
      mask u (some (file i)) = refl
      mask u (some (link m s)) = refl

  set-open : (n : ℕ) (p : Path) (k : ℕ) (a b : Option Node) → Set (opened_at w n p k a) (opened_at v n p k b)
  set-open n p k a b = record { here = here w a ∙ h.here ∙ sym (here v b); mask = mask w a ∙ h.mask ∙ sym (mask v b) }
    where
      here : (u : World) (o : Option Node) → (opened_at u n p k o).here ≡ u.here
      here u none = refl
      here u (some (dir m)) = refl
      here u (some (file i)) = refl
      here u (some (link m s)) = refl

      mask : (u : World) (o : Option Node) → (opened_at u n p k o).mask ≡ u.mask
      mask u none = refl
      mask u (some (dir m)) = refl
      mask u (some (file i)) = refl
      mask u (some (link m s)) = refl

  set-held : (c : _) (a b : Option Open) → Set (change_by w c a) (change_by v c b)
  set-held c a b = record { here = here w a ∙ h.here ∙ sym (here v b); mask = mask w a ∙ h.mask ∙ sym (mask v b) }
    where
      here : (u : World) (o : Option Open) → (change_by u c o).here ≡ u.here
      here u none = refl
      here u (some o) = refl

      mask : (u : World) (o : Option Open) → (change_by u c o).mask ≡ u.mask
      mask u none = refl
      mask u (some o) = refl

  pub set-edit : (e : Edit) → Set (apply e w) (apply e v)
  unfolding apply
  set-edit (make p m) = record { here = h.here; mask = h.mask }
  set-edit (create p f) = record { here = h.here; mask = h.mask }
  set-edit (symlink p m s) = record { here = h.here; mask = h.mask }
  set-edit (change p c) = set-change p c (look w.at p) (look v.at p)
  set-edit (remove p) = record { here = h.here; mask = h.mask }
  set-edit (take p) = record { here = h.here; mask = h.mask }
  set-edit (give p) = record { here = h.here; mask = h.mask }
  set-edit (opens n p k) = set-open n p k (look w.at p) (look v.at p)
  set-edit (close n) = record { here = h.here; mask = h.mask }
  set-edit (seek n k) = record { here = h.here; mask = h.mask }
  set-edit (change_held n c) = set-held c (open_of w.opens n) (open_of v.opens n)
  set-edit (go p) = record { here = refl; mask = h.mask }
  set-edit (umask m) = record { here = h.here; mask = refl }

abbrev entry_weight : World → ℕ
entry_weight w = weight (λ p. 0) (λ n. 1) refl (λ p x r. refl) (λ n m l. refl) w

abbrev name_weight : World → ℕ
name_weight w = weight name_length target_length root-name last_name_lem like-target w

-- what two worlds are to one another in a call begun on the states s and u
record Running (s u : State) (w v : World) : Type 0 where
  over : Over w v
  tidy : Tidy w
  tidy_too : Tidy v
  top : Top w v
  set : Set w v
  entries : entry_weight v + length s.tree ≤ entry_weight w + length u.tree
  names : name_weight v + names_and_targets s.tree ≤ name_weight w + names_and_targets u.tree
  extras : Shrinks (world_of s) (world_of u) w v

running-edit : (s u : State) (e : Edit) (w v : World) → Running s u w v → excepts_edit e w v ≡ false → Running s u (apply e w) (apply e v)
running-edit s u e w v r x =
    record {
      over = over_edit e w v r.over x;
      tidy = tidy-edit e w r.tidy;
      tidy_too = tidy-edit e v r.tidy_too;
      top = top-edit e w v r.over r.top x;
      set = set-edit w v r.set e;
      entries = omega (arith, r.entries, weight-edit (λ p. 0) (λ n. 1) refl (λ p y q. refl) (λ n m l. refl) w v r.over r.tidy r.tidy_too r.top e x);
      names = omega (arith, r.names, weight-edit name_length target_length root-name last_name_lem like-target w v r.over r.tidy r.tidy_too r.top e x);
      extras = λ j f y k. let z = shrink-edit e w v r.over x j f y k in r.extras j f z.0 z.1;
    }

running-start : (s u : State) → Joined s u → Running s u (world_of s) (world_of u)
unfolding total
running-start s u j =
    record {
      over = j.over;
      tidy = j.tidy;
      tidy_too = j.tidy_too;
      top = λ k. k;
      set = record { here = j.current; mask = j.umask };
      entries = omega (arith, total-length s.tree, total-length u.tree);
      names = omega (arith, total-names s.tree, total-names u.tree);
      extras = λ k f y e. (y, e);
    }

-- ---- a call's end

module _ (s u : State) (j : Joined s u) (w v : World) (r : Running s u w v) where
  over_end : Over (dropped w) (dropped v)
  over_end = over_dropped w v r.over

  -- the second's entries have grown by no more
  entries-end : length v.at + length s.tree ≤ length w.at + length u.tree
  entries-end =
      omega (
        arith,
        r.entries,
        total-length w.at,
        total-length v.at,
        total_has (λ p. 0) (λ n. 1) w.hand v.hand r.tidy.hand r.tidy_too.hand (hand_has (λ p. 0) (λ n. 1) refl (λ p x q. refl) (λ n m l. refl) w v r.over),
      )

  names-end : names_and_targets v.at + names_and_targets s.tree ≤ names_and_targets w.at + names_and_targets u.tree
  names-end =
      omega (
        arith,
        r.names,
        total-names w.at,
        total-names v.at,
        total_has name_length target_length w.hand v.hand r.tidy.hand r.tidy_too.hand (hand_has name_length target_length root-name last_name_lem like-target w v r.over),
      )

  -- the files that only the second has are among those before
  only_end : weigh (only_second w.at v.at) v.files ≤ weigh (only_second s.tree u.tree) u.files
  only_end = weigh-le (only_second w.at v.at) (only_second s.tree u.tree) (◌≡◌ {A = ℕ}) (λ i k l p q. p ∙ sym q) v.files u.files r.tidy_too.files j.tidy_too.files
      (λ i f e t.
      let q = only_at_lem w.at v.at r.tidy_too.tree i t in
      let z = r.extras i f (in_tree q.0, q.1, q.2) e in
      (i, refl, before i z.0, z.1))
    where
      before : (i : ℕ) → Extra (world_of s) (world_of u) i → T (only_second s.tree u.tree i)
      before i (in_tree p, x, y) = at_only s.tree u.tree p i x y
      before i (in_hand p, x, y) = clash (look [] p) (file i) (look_none p) x

  contents-end : contents_length (kept_files v.at v.opens v.files) + contents_length s.files ≤ contents_length (kept_files w.at w.opens w.files) + contents_length u.files
  contents-end =
      omega (
        arith,
        kept-weigh v.at v.opens v.files,
        kept-weigh w.at w.opens w.files,
        contents-apart (dropped w) (dropped v) over_end (tidy-dropped w r.tidy) (tidy-dropped v r.tidy_too),
        contents-apart (world_of s) (world_of u) j.over j.tidy j.tidy_too,
        only_end,
        sym (kept-weigh s.tree s.opens s.files) ∙ ap contents_length j.all,
        sym (kept-weigh u.tree u.opens u.files) ∙ ap contents_length j.all_too,
      )

  -- where the first keeps within its limits, so does the second, and all that held holds again
  module _ (fe : entries_used (state_of s w) ≤ s.most) (fb : bytes_used (state_of s w) ≤ s.room) where
    fits-end : (entries_used (state_of u v) ≤ u.most) × (bytes_used (state_of u v) ≤ u.room)
    fits-end =
        (omega (arith, fe, entries-end, j.entries, j.fits.0, j.fits_too.0), omega (arith, fb, names-end, contents-end, j.bytes, j.fits.1, j.fits_too.1))

    joined_end : Joined (state_of s w) (state_of u v)
    joined_end =
        record {
          over = over_swept (dropped w) (dropped v) look_none look_none over_end;
          tidy = tidy-swept (dropped w) (tidy-dropped w r.tidy);
          tidy_too = tidy-swept (dropped v) (tidy-dropped v r.tidy_too);
          current = r.set.here;
          umask = r.set.mask;
          all = kept-kept w.at w.opens w.files;
          all_too = kept-kept v.at v.opens v.files;
          fits = (fe, fb);
          fits_too = fits-end;
          entries = omega (arith, fe, entries-end, j.entries, j.fits.0, j.fits_too.0);
          bytes = omega (arith, fb, names-end, contents-end, j.bytes, j.fits.1, j.fits_too.1);
        }

-- ---- a call

-- the tests before the program see the numbers alone
pub screen-alike : (k : Work) (g : Given) (s u : State) → Joined s u → screen k g s.opens ≡ screen k g u.opens
unfolding screen
screen-alike k g s u j =
    ap (λ (b : Bool). first_of (work_fits g.walks k) 14 (first_of (all Rattle.text.specs.Utf8.text g.texts) 2 (first_of (all Rattle.path.specs.Path.lengths_ok g.texts) 3 (first_of b 4 0))))
    (number g.number)
  where
    open-alike : (n : ℕ) → is_some (open_of s.opens n) ≡ is_some (open_of u.opens n)
    open-alike n = at (open_of s.opens n) (open_of u.opens n) (j.over.numbers n)
      where
        at : (a b : Option Open) → SameNumber a b → is_some a ≡ is_some b
        at none none h = refl
        at none (some b) h = absurd h
        at (some a) none h = absurd h
        at (some a) (some b) h = refl

    number : (k : Number) → number_fits k s.opens ≡ number_fits k u.opens
    number no_number = unfold number_fits in refl
    number (free n) = unfold number_fits in ap (λ (b : Bool). leb n 31 && not b) (open-alike n)
    number (opened n) = unfold number_fits in ap (λ (b : Bool). leb n 31 && b) (open-alike n)

-- the second tree has no fewer links
pub more_links : (s u : State) → Joined s u → links_in s.tree ≤ links_in u.tree
more_links s u j = links_within s.tree u.tree j.tidy.tree (λ p. at p (look s.tree p) refl)
  where
    on : {n m : Node} → Likes n m → links_of (some n) ≤ links_of (some m)
    on (dirs a) = omega arith
    on (files i k) = omega arith
    on (linked a t) = omega arith

    at : (p : Path) (o : Option Node) → look s.tree p ≡ o → links_of (look s.tree p) ≤ links_of (look u.tree p)
    at p none e = rw e (omega arith)
    at p (some n) e = let h = j.over.has (in_tree p) n e in rw (e, h.1) (on (likes n h.0 h.2))

abbrev pub Alikely : Outcome → Outcome → Type 0
Alikely a b = (a.result ≡ b.result) × Joined a.after b.after

-- the two states that a program left, tested for space
settle-alike : (s u : State) → Joined s u → (x y : Out Reply) → Alike (Running s u) x y → for_space (settle s x).result ≡ false → Alikely (settle s x) (settle u y)
unfolding settle
settle-alike s u j (refused m) (refused n) e k = (ap refusal e, j)
settle-alike s u j (refused m) (done b v) e k = absurd e
settle-alike s u j (done a w) (refused n) e k = absurd e
settle-alike s u j (done a w) (done b v) e k = at (leb (entries_used (state_of s w)) s.most) refl (leb (bytes_used (state_of s w)) s.room) refl k
  where
    at : (x : Bool) → leb (entries_used (state_of s w)) s.most ≡ x → (y : Bool) → leb (bytes_used (state_of s w)) s.room ≡ y
        → for_space (settle_by x y s a (state_of s w)).result ≡ false
        → Alikely (settle_by x y s a (state_of s w)) (settle_by (leb (entries_used (state_of u v)) u.most) (leb (bytes_used (state_of u v)) u.room) u b (state_of u v))
    at false p y q z = absurd (false≢true (sym z ∙ unfold for_space in refl))
    at true p false q z = absurd (false≢true (sym z ∙ unfold for_space in refl))
    at true p true q z =
        let fe = leb-true (entries_used (state_of s w)) s.most p in
        let fb = leb-true (bytes_used (state_of s w)) s.room q in
        let f = fits-end s u j w v e.1 fe fb in
        rw (le-leb (entries_used (state_of u v)) u.most f.0, le-leb (bytes_used (state_of u v)) u.room f.1)
        (ap accepted e.0, joined_end s u j w v e.1 fe fb)

-- the program of both runs, whatever its bound on last links from the second tree's number of links on
module _ (o : Op) (s u : State) (j : Joined s u) where
  first_run : run (program (links_in s.tree) o) (world_of s) ≡ run (program (links_in u.tree) o) (world_of s)
  first_run = any_bound o (links_in s.tree) (links_in u.tree) (world_of s) (omega arith) (more_links s u j)

  both_run : excepts (program (links_in s.tree) o) (world_of s) (world_of u) ≡ false
      → Alike (Running s u) (run (program (links_in u.tree) o) (world_of s)) (run (program (links_in u.tree) o) (world_of u))
  both_run e =
      two_runs (Running s u) excepts_ask excepts_edit (λ q w v r y. asked w v r.over r.tidy.tree r.tidy_too.tree r.set.here r.set.mask q y)
      (λ d w v r y. running-edit s u d w v r y)
      (program (links_in u.tree) o) (world_of s) (world_of u) (running-start s u j)
      (by_questions (program (links_in u.tree) o) (world_of s) (world_of u) (steady o (links_in u.tree) (world_of s) (more_links s u j))
      ∙ same_exceptions o (links_in u.tree) (links_in s.tree) (world_of s) (world_of u) (more_links s u j) (omega arith) ∙ e)

pub call-alike : (c : Call) (s u : State) → Joined s u → excepted c s u ≡ false → Alikely (perform c s) (perform c u)
unfolding perform perform_with excepted
call-alike c s u j e = at (screen c.work (given_to c.op) s.opens) refl (screen-alike c.work (given_to c.op) s u j) e
  where
    first : Outcome
    first = settle s (run (program (links_in s.tree) c.op) (world_of s))

    at : (n : ℕ) → screen c.work (given_to c.op) s.opens ≡ n → screen c.work (given_to c.op) s.opens ≡ screen c.work (given_to c.op) u.opens
        → unless_screened (screen c.work (given_to c.op) s.opens) (excepts (program (links_in s.tree) c.op) (world_of s) (world_of u) || for_space (decide_by (screen c.work (given_to c.op) s.opens) s first).result) ≡ false
        → Alikely (decide_by (screen c.work (given_to c.op) s.opens) s first)
        (decide_by (screen c.work (given_to c.op) u.opens) u (settle u (run (program (links_in u.tree) c.op) (world_of u))))
    at (suc n) k l z = rw (← l, k) (refl, j)
    at zero k l z =
        let x : excepts (program (links_in s.tree) c.op) (world_of s) (world_of u) || for_space first.result ≡ false = rw k at z in
        let o = or_parts (excepts (program (links_in s.tree) c.op) (world_of s) (world_of u)) (for_space first.result) x in
        let b = first_run c.op s u j in
        rw (← l, k, b) (settle-alike s u j (run (program (links_in u.tree) c.op) (world_of s)) (run (program (links_in u.tree) c.op) (world_of u)) (both_run c.op s u j o.0) (rw b at o.1))

-- ---- jobs

-- a call that is not left out
kept_in_lem : (b : Bool) → T (not b) → b ≡ false
kept_in_lem true t = absurd t
kept_in_lem false t = refl

job-alike : (j : List Call) (c : Call) (s u : State) → Joined s u → T (quiet (j ++ (c ∷ [])) s u)
    → (result_after j c s ≡ result_after j c u) × Joined (after_job (j ++ (c ∷ [])) s) (after_job (j ++ (c ∷ [])) u)
unfolding quiet result_after after_job
job-alike [] c s u h q =
    call-alike c s u h (kept_in_lem (excepted c s u) (and_left (not (excepted c s u)) (quiet [] (perform c s).after (perform c u).after) q))
job-alike (d ∷ j) c s u h q =
    let a = call-alike d s u h (kept_in_lem (excepted d s u) (and_left (not (excepted d s u)) (quiet (j ++ (c ∷ [])) (perform d s).after (perform d u).after) q)) in
    job-alike j c (perform d s).after (perform d u).after a.1 (and_right (not (excepted d s u)) (quiet (j ++ (c ∷ [])) (perform d s).after (perform d u).after) q)

-- Demand 3: two states that obey the rules, the second the fuller one; a job j and the call c after it, of which no call is left
-- out. Then c answers alike in both runs, and all that held between the two states at the beginning holds again after it: that both
-- obey the rules too, where the calls are such as C can make.
pub demand-3 : (s u : State) → Obeys s → Obeys u → Fuller s u → (j : List Call) (c : Call) → T (quiet (j ++ (c ∷ [])) s u)
    → (result_after j c s ≡ result_after j c u) × Fuller (after_job (j ++ (c ∷ [])) s) (after_job (j ++ (c ∷ [])) u)
    × (PassableJob (j ++ (c ∷ [])) → Obeys (after_job (j ++ (c ∷ [])) s) × Obeys (after_job (j ++ (c ∷ [])) u))
demand-3 s u os ou f j c q =
    let a = job-alike j c s u (joined s u os ou f) q in (
      a.0,
      fuller (after_job (j ++ (c ∷ [])) s) (after_job (j ++ (c ∷ [])) u) a.1,
      λ p. (job-obeys (j ++ (c ∷ [])) s p os, job-obeys (j ++ (c ∷ [])) u p ou),
    )
