-- Cases a to l of 01 on tree K, as rows of one table: each row is a call on K, what it answers and the whole state that it leaves.
-- Assumes nothing.
use mathlib.Core.List.{List, [], ◌∷◌}
use mathlib.Core.Path.{◌≡◌, refl}
use Prim.Native.Nat.{ℕ}
use lib.IntN.{pos}
use Rattle.text.specs.Utf8.{Bytes}
use Rattle.model.specs.Tree.{Meta, File, dir, file, link, Entries}
use Rattle.model.specs.Prog.{Stat, a_dir}
use Rattle.model.specs.Operations.{Reply, plain_reply}
use Rattle.model.specs.Calls as Calls
use Rattle.model.specs.Calls.{State, fresh_state, Call, Result, accepted, refusal, outcome}
use Rattle.model.proofs.Computing.{bytes, performed, left, call}

-- mode m, all times 0
abbrev at0 : ℕ → Meta
at0 m = record { mode = m; accessed = pos 0; changed = pos 0; created = pos 0; modified = pos 0 }

-- the job that makes K, in a tree of 512 entries and 32,768 bytes
abbrev make_k : List Call
make_k =
    call (Calls.create_dir (bytes "/y26/moon") (pos 0)) ∷
    call (Calls.write_file (bytes "/y26/moon/jan.txt") (bytes "full3") (pos 0)) ∷
    call (Calls.link_file (bytes "y26") (bytes "/year") (pos 0)) ∷
    call (Calls.link_file (bytes "self") (bytes "/self") (pos 0)) ∷
    call (Calls.link_file (bytes "none") (bytes "/gone") (pos 0)) ∷
    call (Calls.create_dir (bytes "/deep") (pos 0)) ∷
    call (Calls.link_file (bytes "../y26") (bytes "/deep/up") (pos 0)) ∷ []

-- tree K: "file /y26/moon/jan.txt; links /year to `y26`, /self to `self`, /gone to `none`, /deep/up to `../y26`"
abbrev tree_k : Entries
tree_k =
    (bytes "deep" ∷ bytes "up" ∷ [], link (at0 0o777) (bytes "../y26")) ∷
    (bytes "deep" ∷ [], dir (at0 0o755)) ∷
    (bytes "gone" ∷ [], link (at0 0o777) (bytes "none")) ∷
    (bytes "self" ∷ [], link (at0 0o777) (bytes "self")) ∷
    (bytes "year" ∷ [], link (at0 0o777) (bytes "y26")) ∷
    (bytes "y26" ∷ bytes "moon" ∷ bytes "jan.txt" ∷ [], file 0) ∷
    (bytes "y26" ∷ bytes "moon" ∷ [], dir (at0 0o755)) ∷
    (bytes "y26" ∷ [], dir (at0 0o755)) ∷
    ([], dir (at0 0o755)) ∷ []

abbrev january : File
january = record { meta = at0 0o666; bytes = bytes "full3" }

-- "current directory /"
abbrev K : State
K = record { tree = tree_k; files = (0, january) ∷ []; opens = []; here = []; mask = 0o666; most = 512; room = 32768 }

-- K is what a job leaves from a fresh state
pub made : left make_k (fresh_state 512 32768) ≡ K
unfolding left
made = refl

-- ---- the table

pub record Row : Type 0 where
  pub call : Call
  pub answers : Result
  pub leaves : State

-- refused with the number: nothing is changed
abbrev refuses : Call → ℕ → Row
refuses c n = record { call = c; answers = refusal n; leaves = K }

-- accepted, and nothing is changed
abbrev says : Call → Reply → Row
says c r = record { call = c; answers = accepted r; leaves = K }

abbrev resolved : Bytes → ℕ → ℕ → Reply
resolved p n k = record { number = n; out = p; rows = []; link_count = k }

abbrev metadata_of : Stat → Reply
metadata_of s = record { number = 0; out = []; rows = s ∷ []; link_count = 0 }

abbrev canonicalize : Bytes → Call
canonicalize p = call (Calls.canonicalize p 1024)

-- open number 5 with these flags, time 7
abbrev open_with : ℕ → Bytes → Call
open_with f p = call (Calls.open_file 5 p f 0 (pos 7))

-- K with the file /none, made at time 7 with the umask's mode, and number 5 open on it
abbrev made_none : State
made_none =
    record {
      tree = (bytes "none" ∷ [], file 1) ∷ tree_k;
      files = (
        1,
        record {
          meta = record { mode = 0o666; accessed = pos 7; changed = pos 7; created = pos 7; modified = pos 7 };
          bytes = [];
        },
      ) ∷ (0, january) ∷ [];
      opens = (record { num = 5; id = 1; pos = 0; kept = bytes "none" ∷ [] }) ∷ [];
      here = [];
      mask = 0o666;
      most = 512;
      room = 32768;
    }

-- K with other times of /y26
abbrev touched_y26 : State
touched_y26 =
    record {
      tree =
          (bytes "y26" ∷ [], dir (record { mode = 0o755; accessed = pos 8; changed = pos 8; created = pos 8; modified = pos 9 })) ∷
          (bytes "deep" ∷ bytes "up" ∷ [], link (at0 0o777) (bytes "../y26")) ∷
          (bytes "deep" ∷ [], dir (at0 0o755)) ∷
          (bytes "gone" ∷ [], link (at0 0o777) (bytes "none")) ∷
          (bytes "self" ∷ [], link (at0 0o777) (bytes "self")) ∷
          (bytes "year" ∷ [], link (at0 0o777) (bytes "y26")) ∷
          (bytes "y26" ∷ bytes "moon" ∷ bytes "jan.txt" ∷ [], file 0) ∷
          (bytes "y26" ∷ bytes "moon" ∷ [], dir (at0 0o755)) ∷
          ([], dir (at0 0o755)) ∷ [];
      files = (0, january) ∷ [];
      opens = [];
      here = [];
      mask = 0o666;
      most = 512;
      room = 32768;
    }

pub rows : List Row
rows =
    -- a. "Metadata of `""`: the root; canonicalize: 8"
    says (call (Calls.metadata [] 1)) (metadata_of (record { kind = a_dir; size = 0; meta = at0 0o755 })) ∷
    refuses (canonicalize []) 8 ∷
    -- b. "`/deep/up/../year`: 8, since it means /deep/year"
    refuses (canonicalize (bytes "/deep/up/../year")) 8 ∷
    refuses (canonicalize (bytes "/deep/year")) 8 ∷
    -- c. "`/deep/up/moon`: /y26/moon, 1 link"
    says (canonicalize (bytes "/deep/up/moon")) (resolved (bytes "/y26/moon") 9 1) ∷
    -- d. "`/self` and `/self/a`: 7"
    refuses (canonicalize (bytes "/self")) 7 ∷
    refuses (canonicalize (bytes "/self/a")) 7 ∷
    -- e. "`/gone`: 8; open with create makes /none"
    refuses (canonicalize (bytes "/gone")) 8 ∷
    record { call = open_with 1 (bytes "/gone"); answers = accepted (plain_reply 1); leaves = made_none } ∷
    -- f. "Open /y26/no, create-new only: 8; on jan.txt: 12"
    refuses (open_with 2 (bytes "/y26/no")) 8 ∷
    refuses (open_with 2 (bytes "/y26/moon/jan.txt")) 12 ∷
    -- g. "/y26/no: remove tree accepted, remove directory 8; /no/no: remove tree 8"
    says (call (Calls.remove_tree (bytes "/y26/no"))) (plain_reply 0) ∷
    refuses (call (Calls.remove_dir (bytes "/y26/no"))) 8 ∷
    refuses (call (Calls.remove_tree (bytes "/no/no"))) 8 ∷
    -- h. "Rename /zz to /zz accepted; /y26 to /y26/a: 11"
    says (call (Calls.rename (bytes "/zz") (bytes "/zz") (pos 0))) (plain_reply 0) ∷
    refuses (call (Calls.rename (bytes "/y26") (bytes "/y26/a") (pos 0))) 11 ∷
    -- i. "Rename /gone to /g2: 8"
    refuses (call (Calls.rename (bytes "/gone") (bytes "/g2") (pos 0))) 8 ∷
    -- j. "Set times of `y26`: 8; of `/y26`: accepted"
    refuses (call (Calls.set_times (bytes "y26") (pos 8) (pos 9))) 8 ∷
    record { call = call (Calls.set_times (bytes "/y26") (pos 8) (pos 9)); answers = accepted (plain_reply 0); leaves = touched_y26 } ∷
    -- k. "`/y26//moon/./jan.txt/`: found, 0 links"
    says (canonicalize (bytes "/y26//moon/./jan.txt/")) (resolved (bytes "/y26/moon/jan.txt") 17 0) ∷
    -- l. "Link at `/`: 5; at /y26: 12"
    refuses (call (Calls.link_file (bytes "t") (bytes "/") (pos 0))) 5 ∷
    refuses (call (Calls.link_file (bytes "t") (bytes "/y26") (pos 0))) 12 ∷ []

-- every row is right: the call on K gives the answer and leaves the state
abbrev pub Right : List Row → Type 0
Right [] = Unit {0}
Right (r ∷ rs) = (performed r.call K ≡ outcome r.answers r.leaves) × Right rs

pub cases : Right rows
unfolding rows performed
cases = (refl, (refl, (refl, (refl, (refl, (refl, (refl, (refl, (refl, (refl, (refl, (refl, (refl, (refl, (refl, (refl, (refl, (refl, (refl, (refl, (refl, (refl, tt))))))))))))))))))))))
