-- An instance of every hypothesis of demand 3, with links, a loop, an open file, a removed open file, and more in the second.
-- Assumes nothing.
use mathlib.Core.Bool.{Bool, true, false, ◌&&◌}
use mathlib.Core.List.{List, [], ◌∷◌, ◌++◌}
use mathlib.Core.Logic.{◌⊎◌, inl, inr}
use mathlib.Core.Option.{Option, none, some}
use mathlib.Core.Path.{◌≡◌, refl, sym, ◌∙◌, subst}
use Prim.Native.Nat.{ℕ, ◌<◌, ◌^◌}
use native.Mathlib.Omega.{arith}
use lib.Dec.{T, eqb, lit<}
use lib.IntN.{pos}
use borrow.Author.Tests.{eqb-true}
use Rattle.text.specs.Utf8.{Bytes}
use Rattle.path.specs.Path as P
use Rattle.model.specs.Tree as Tree
use Rattle.model.specs.Fuller as F
use Rattle.model.specs.Prog as Prog
use Rattle.model.specs.Tree.{Path, Meta, File, Node, dir, file, link, Entries, Open, look, file_of, open_of, or_else, same_path}
use Rattle.model.specs.Prog.{on_some}
use Rattle.model.specs.Calls as Calls
use Rattle.model.specs.Calls.{State, fresh_state, Call, Result, accepted, refusal, after_job}
use Rattle.model.specs.Operations.{plain_reply}
use Rattle.model.specs.Rules.{time_ok, bytes_ok, Obeys}
use Rattle.model.specs.Passable.{PassableJob}
use Rattle.model.specs.Fuller.{Shown, shown_node, shown, HasEverything, StandsAt, StandsRemoved, SameOpen, Fuller, quiet, result_after}
use Rattle.model.proofs.Computing.{bytes, left, answered, is_quiet, call}
use Rattle.model.proofs.Entries.{clash, path-equal, of_true}
use Rattle.model.proofs.Sound.Reached.{reached-obeys}
use Rattle.model.proofs.Demand.Calls.{demand-3}

-- ---- a finite check of the relation

abbrev Shows : State → State → Entries → Type 0
Shows s u [] = Unit {0}
Shows s u (e ∷ t) = (shown s e.0 ≡ shown u e.0) × Shows s u t

find-shown : (s u : State) (t : Entries) → Shows s u t → (p : Path) (n : Node) → look t p ≡ some n → shown s p ≡ shown u p
unfolding look
find-shown s u [] h p n k = clash none n refl k
find-shown s u (e ∷ t) h p n k = go (same_path e.0 p) refl k (find-shown s u t h.1 p n)
  where
    go : (b : Bool) → same_path e.0 p ≡ b → or_else b e.1 (look t p) ≡ some n → (look t p ≡ some n → shown s p ≡ shown u p) → shown s p ≡ shown u p
    go true y z ih = subst (λ (q : Path). shown s q ≡ shown u q) (path-equal e.0 p (of_true y)) h.0
    go false y z ih = ih z

everything_by : (s u : State) → Shows s u s.tree → HasEverything s u
unfolding shown
everything_by s u h p e x = go (look s.tree p) refl x
  where
    go : (o : Option Node) → look s.tree p ≡ o → on_some o (shown_node s) ≡ some e → on_some (look u.tree p) (shown_node u) ≡ some e
    go none y z = clash none e refl z
    go (some n) y z = sym (find-shown s u s.tree h p n y) ∙ x

abbrev On : State → State → ℕ → Type 0
On a b n = ((p : Path) × StandsAt a n p × StandsAt b n p) ⊎ ((f : File) × StandsRemoved a n f × StandsRemoved b n f)

abbrev AllOn : State → State → List Open → Type 0
AllOn s u [] = Unit {0}
AllOn s u (o ∷ os) = On s u o.num × AllOn s u os

on-by : (s u : State) (os : List Open) → AllOn s u os → (n : ℕ) (o : Open) → open_of os n ≡ some o → On s u n
unfolding open_of
on-by s u [] h n o k = clash none o refl k
on-by s u (a ∷ os) h n o k = go (eqb a.num n) refl k (on-by s u os h.1 n o)
  where
    go : (b : Bool) → eqb a.num n ≡ b → or_else b a (open_of os n) ≡ some o → (open_of os n ≡ some o → On s u n) → On s u n
    go true y z ih = subst (On s u) (eqb-true a.num n y) h.0
    go false y z ih = ih z

-- ---- the states

abbrev dir_call : Bytes → Call
dir_call p = call (Calls.create_dir p (pos 0))

abbrev write_call : Bytes → Bytes → Call
write_call p d = call (Calls.write_file p d (pos 0))

abbrev link_call : Bytes → Bytes → Call
link_call t p = call (Calls.link_file t p (pos 0))

abbrev open_call : ℕ → Bytes → Call
open_call n p = call (Calls.open_file n p 0 0 (pos 0))

abbrev pub base : List Call
base =
    dir_call (bytes "/d") ∷ write_call (bytes "/d/f") (bytes "xyz") ∷ write_call (bytes "/d/g") (bytes "removed") ∷ link_call (bytes "d") (bytes "/l") ∷ link_call (bytes "loop") (bytes "/loop")
    ∷ open_call 0 (bytes "/l/f") ∷ open_call 1 (bytes "/d/g") ∷ open_call 2 (bytes "/d/g") ∷ call (Calls.remove_file (bytes "/d/g")) ∷ []

abbrev pub more : List Call
more = dir_call (bytes "/m/n") ∷ write_call (bytes "/m/q") (bytes "more") ∷ write_call (bytes "/d/x") (bytes "beside") ∷ link_call (bytes "l") (bytes "/m/k") ∷ []

abbrev pub one : State
one = left base (fresh_state 20 512)

abbrev pub two : State
two = left (base ++ more) (fresh_state 40 1024)

-- renames through a link, a loop, writes through a link and to an open file, reading and closing the removed one, a refusal of each sort
abbrev job : List Call
job =
    call (Calls.canonicalize (bytes "/loop/a") 10) ∷ write_call (bytes "/l/h") (bytes "new") ∷ call (Calls.rename (bytes "/d") (bytes "/l/e") (pos 0)) ∷ call (Calls.read_number 1 4)
    ∷ call (Calls.set_length 0 5) ∷ call (Calls.read_file (bytes "/d/e/f") 10) ∷ call (Calls.close_number 2) ∷ call (Calls.remove_tree (bytes "/d/e")) ∷ call (Calls.read_number 0 9) ∷ call (Calls.close_number 1) ∷ call (Calls.metadata_number 0 1) ∷ []

pub is-quiet : is_quiet job one two ≡ true
unfolding is_quiet left
is-quiet = refl

-- ---- the hypotheses

abbrev fresh : ℕ → Meta
fresh m = record { mode = m; accessed = pos 0; changed = pos 0; created = pos 0; modified = pos 0 }

abbrev f0 : File
f0 = record { meta = fresh 0o666; bytes = bytes "xyz" }

abbrev f1 : File
f1 = record { meta = fresh 0o666; bytes = bytes "removed" }

abbrev f2 : File
f2 = record { meta = fresh 0o666; bytes = bytes "more" }

abbrev f3 : File
f3 = record { meta = fresh 0o666; bytes = bytes "beside" }

abbrev common : Entries
common =
    (bytes "loop" ∷ [], link (fresh 0o777) (bytes "loop")) ∷ (bytes "l" ∷ [], link (fresh 0o777) (bytes "d")) ∷ (bytes "d" ∷ bytes "f" ∷ [], file 0) ∷ (bytes "d" ∷ [], dir (fresh 0o755)) ∷ ([], dir (fresh 0o755)) ∷ []

abbrev numbers : List Open
numbers =
    record { num = 2; id = 1; pos = 0; kept = bytes "d" ∷ bytes "g" ∷ [] } ∷ record { num = 1; id = 1; pos = 0; kept = bytes "d" ∷ bytes "g" ∷ [] } ∷ record { num = 0; id = 0; pos = 0; kept = bytes "d" ∷ bytes "f" ∷ [] } ∷ []

abbrev one' : State
one' = record { tree = common; files = (1, f1) ∷ (0, f0) ∷ []; opens = numbers; here = []; mask = 0o666; most = 20; room = 512 }

abbrev two' : State
two' = record {
  tree = (bytes "m" ∷ bytes "k" ∷ [], link (fresh 0o777) (bytes "l")) ∷ (bytes "d" ∷ bytes "x" ∷ [], file 3) ∷ (bytes "m" ∷ bytes "q" ∷ [], file 2) ∷ (bytes "m" ∷ bytes "n" ∷ [], dir (fresh 0o755)) ∷ (bytes "m" ∷ [], dir (fresh 0o755)) ∷ common;
  files = (3, f3) ∷ (2, f2) ∷ (1, f1) ∷ (0, f0) ∷ [];
  opens = numbers;
  here = [];
  mask = 0o666;
  most = 40;
  room = 1024;
}

one_is : one ≡ one'
unfolding left
one_is = refl

two_is : two ≡ two'
unfolding left
two_is = refl

-- working buffers of 1,024 bytes, and the numbers of the call
lent : {A : Type 0} → A → (1024 < 2 ^ 64) × (1024 < 2 ^ 64) × A
lent a = (lit< tt, lit< tt, a)

opens-fit : {n : ℕ} → n < 2 ^ 32 → (n < 2 ^ 32) × (0 < 2 ^ 32) × (0 < 2 ^ 32) × T (time_ok (pos 0))
unfolding time_ok
opens-fit h = (h, lit< tt, lit< tt, tt)

passable_two : PassableJob (base ++ more)
unfolding time_ok bytes_ok
passable_two =
    (lent tt, (lent (tt, tt), (lent (tt, tt), (lent tt, (lent tt, (lent (opens-fit (lit< tt)), (lent (opens-fit (lit< tt)), (lent (opens-fit (lit< tt)), (lent tt, (lent tt, (lent (tt, tt), (lent (tt, tt), (lent tt, tt)))))))))))))

passable_one : PassableJob base
unfolding time_ok bytes_ok
passable_one =
    (lent tt, (lent (tt, tt), (lent (tt, tt), (lent tt, (lent tt, (lent (opens-fit (lit< tt)), (lent (opens-fit (lit< tt)), (lent (opens-fit (lit< tt)), (lent tt, tt)))))))))

fuller' : Fuller one' two'
unfolding shown shown_node F.position_of F.share Prog.answer look file_of open_of same_path P.same Calls.is_named Tree.names_and_targets Tree.name_length Tree.target_length Tree.contents_length
fuller' = record {
  current = refl;
  umask = refl;
  opens = record {
    position = λ n. refl;
    on_file = λ n o e. on-by one' two' numbers (inr (f1, record { held = _; is_open = refl; no_name = refl; is_file = refl }, record { held = _; is_open = refl; no_name = refl; is_file = refl }), (inr (f1, record { held = _; is_open = refl; no_name = refl; is_file = refl }, record { held = _; is_open = refl; no_name = refl; is_file = refl }), (inl (bytes "d" ∷ bytes "f" ∷ [], record { held = _; is_open = refl; is_there = refl }, record { held = _; is_open = refl; is_there = refl }), tt))) n o e;
    sharing = λ n m. refl;
  };
  everything = everything_by one' two' (refl, (refl, (refl, (refl, (refl, tt)))));
  entries = omega arith;
  bytes = omega arith;
}

pub instance : Obeys one × Obeys two × Fuller one two
unfolding left
instance = (
  reached-obeys 20 512 (omega arith) (omega arith) (omega arith) (omega arith) base passable_one,
  reached-obeys 40 1024 (omega arith) (omega arith) (omega arith) (omega arith) (base ++ more) passable_two,
  subst (λ (s : State). Fuller s two) (sym one_is) (subst (Fuller one') (sym two_is) fuller'),
)

-- ---- demand 3, applied: its eleven calls answer alike, and the relation holds after them

abbrev first_ten : List Call
first_ten =
    call (Calls.canonicalize (bytes "/loop/a") 10) ∷ write_call (bytes "/l/h") (bytes "new") ∷ call (Calls.rename (bytes "/d") (bytes "/l/e") (pos 0)) ∷ call (Calls.read_number 1 4)
    ∷ call (Calls.set_length 0 5) ∷ call (Calls.read_file (bytes "/d/e/f") 10) ∷ call (Calls.close_number 2) ∷ call (Calls.remove_tree (bytes "/d/e")) ∷ call (Calls.read_number 0 9) ∷ call (Calls.close_number 1) ∷ []

abbrev eleventh : Call
eleventh = call (Calls.metadata_number 0 1)

still_quiet : is_quiet (first_ten ++ (eleventh ∷ [])) one two ≡ true
still_quiet = is-quiet

pub applied : (result_after first_ten eleventh one ≡ result_after first_ten eleventh two) × Fuller (after_job (first_ten ++ (eleventh ∷ [])) one) (after_job (first_ten ++ (eleventh ∷ [])) two)
unfolding is_quiet
applied = let d = demand-3 one two instance.0 instance.1 instance.2 first_ten eleventh (subst (λ (b : Bool). T b) (sym still_quiet) tt) in (d.0, d.1)

-- what the calls answer in the first run: 7; accepted; accepted; "remo"; accepted; "xyz" and two zeros; accepted; accepted; the removed file's
-- bytes by number 0; accepted; 8
pub first_answers : answered job one
    ≡ refusal 7 ∷ accepted (plain_reply 1) ∷ accepted (plain_reply 1) ∷ accepted (record { number = 4; out = bytes "remo"; rows = []; link_count = 0 }) ∷ accepted (plain_reply 0)
    ∷ accepted (record { number = 5; out = 120 ∷ 121 ∷ 122 ∷ 0 ∷ 0 ∷ []; rows = []; link_count = 0 }) ∷ accepted (plain_reply 0) ∷ accepted (plain_reply 0)
    ∷ accepted (record { number = 5; out = 120 ∷ 121 ∷ 122 ∷ 0 ∷ 0 ∷ []; rows = []; link_count = 0 }) ∷ accepted (plain_reply 0) ∷ refusal 8 ∷ []
unfolding answered left
first_answers = refl

-- ---- every call of 01, accepted, none left out

abbrev is_accepted : Result → Bool
is_accepted (accepted r) = true
is_accepted (refusal n) = false

abbrev all_accepted : List Result → Bool
all_accepted [] = true
all_accepted (r ∷ l) = is_accepted r && all_accepted l

abbrev every : List Call
every =
    call (Calls.canonicalize (bytes "/l/f") 9) ∷ call (Calls.set_current_dir (bytes "/l")) ∷ call (Calls.set_umask 0o644) ∷ dir_call (bytes "/c/e") ∷ dir_call (bytes "../c/t")
    ∷ call (Calls.open_file 3 (bytes "/c/e/n") 1 0 (pos 7)) ∷ call (Calls.read_file (bytes "f") 9) ∷ write_call (bytes "/d/f") (bytes "twice") ∷ call (Calls.copy_file (bytes "f") (bytes "/c/p") (pos 1))
    ∷ call (Calls.hard_link (bytes "/l/f") (bytes "/c/q") (pos 1)) ∷ link_call (bytes "../d") (bytes "/c/s") ∷ call (Calls.remove_file (bytes "/c/p")) ∷ call (Calls.remove_dir (bytes "/c/t"))
    ∷ call (Calls.remove_tree (bytes "/c/e")) ∷ call (Calls.rename (bytes "/c/q") (bytes "/c/u/r") (pos 2)) ∷ call (Calls.metadata (bytes "/l") 1) ∷ call (Calls.symlink_metadata (bytes "/l") 1)
    ∷ call (Calls.read_link (bytes "/c/s") 9) ∷ call (Calls.set_permissions (bytes "/c/s") 0o700) ∷ call (Calls.set_times (bytes "/c") (pos 3) (pos 4)) ∷ call (Calls.list (bytes "/c") 9 9)
    ∷ call (Calls.close_number 2) ∷ call (Calls.read_number 1 4) ∷ call (Calls.seek_number 0 2 0) ∷ call (Calls.set_length 0 9) ∷ call (Calls.set_mode_number 3 0o600) ∷ call (Calls.set_times_number 0 3 (pos 5) (pos 6)) ∷ call (Calls.metadata_number 0 1) ∷ []

pub every-quiet : is_quiet every one two ≡ true
unfolding is_quiet left
every-quiet = refl

pub every-accepted : all_accepted (answered every one) ≡ true
unfolding answered left
every-accepted = refl
