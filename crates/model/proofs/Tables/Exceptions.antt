-- Demand 3's exceptions, worked out: for each a pair of states and a call that it leaves out, which answers otherwise in the fuller
-- one; and a job that goes on alike beside more content.
-- Assumes nothing.
use mathlib.Core.Bool.{true, false}
use mathlib.Core.List.{List, [], ◌∷◌, ◌++◌}
use mathlib.Core.Path.{◌≡◌, refl}
use lib.IntN.{pos}
use Rattle.text.specs.Utf8.{Bytes}
use Rattle.model.specs.Prog.{Stat, a_dir, aFile}
use Rattle.model.specs.Operations.{plain_reply}
use Rattle.model.specs.Calls as Calls
use Rattle.model.specs.Calls.{State, fresh_state, Call, Result, accepted, refusal}
use Rattle.model.proofs.Computing.{bytes, left, answered, is_quiet, call}

abbrev dir_call : Bytes → Call
dir_call p = call (Calls.create_dir p (pos 0))

abbrev write_call : Bytes → Bytes → Call
write_call p d = call (Calls.write_file p d (pos 0))

abbrev stat_call : Bytes → Call
stat_call p = call (Calls.metadata p 1)

abbrev stat : Stat → Result
stat s = accepted (record { number = 0; out = []; rows = s ∷ []; link_count = 0 })

abbrev folder : Stat
folder = record { kind = a_dir; size = 0; meta = record { mode = 0o755; accessed = pos 0; changed = pos 0; created = pos 0; modified = pos 0 } }

-- ---- what is left out, and why

-- a job, what both states are made by, the calls that only the second was given, and the answers of the two runs
pub record Apart : Type 0 where
  pub base : List Call
  pub more : List Call
  pub limits : State
  pub limits_too : State
  pub job : List Call
  pub first : List Result
  pub second : List Result

-- the job is not quiet, and the runs answer so
abbrev pub Differs : Apart → Type 0
Differs a =
    (is_quiet a.job (left a.base a.limits) (left (a.base ++ a.more) a.limits_too) ≡ false)
    × (answered a.job (left a.base a.limits) ≡ a.first) × (answered a.job (left (a.base ++ a.more) a.limits_too) ≡ a.second)

abbrev small : State
small = fresh_state 512 32768

-- a missed name
abbrev missed_name : Apart
missed_name =
    record {
      base = dir_call (bytes "/a") ∷ [];
      more = dir_call (bytes "/b") ∷ [];
      limits = small;
      limits_too = small;
      job = stat_call (bytes "/b") ∷ [];
      first = refusal 8 ∷ [];
      second = stat folder ∷ [];
    }

-- a missing root
abbrev missing_root : Apart
missing_root =
    record {
      base = [];
      more = dir_call (bytes "/") ∷ [];
      limits = small;
      limits_too = small;
      job = stat_call (bytes "/") ∷ [];
      first = refusal 8 ∷ [];
      second = stat folder ∷ [];
    }

-- a listing
abbrev a_listing : Apart
a_listing =
    record {
      base = dir_call (bytes "/a") ∷ [];
      more = dir_call (bytes "/b") ∷ [];
      limits = small;
      limits_too = small;
      job = call (Calls.list (bytes "/") 100 10) ∷ [];
      first = accepted (record { number = 1; out = 97 ∷ 0 ∷ []; rows = folder ∷ []; link_count = 0 }) ∷ [];
      second = accepted (record { number = 2; out = 97 ∷ 0 ∷ 98 ∷ 0 ∷ []; rows = folder ∷ folder ∷ []; link_count = 0 }) ∷ [];
    }

-- a test for emptiness, by remove directory and by rename
abbrev an_emptiness : Apart
an_emptiness =
    record {
      base = dir_call (bytes "/a") ∷ [];
      more = dir_call (bytes "/a/x") ∷ [];
      limits = small;
      limits_too = small;
      job = call (Calls.remove_dir (bytes "/a")) ∷ [];
      first = accepted (plain_reply 0) ∷ [];
      second = refusal 12 ∷ [];
    }

abbrev a_replacing : Apart
a_replacing =
    record {
      base = dir_call (bytes "/a") ∷ dir_call (bytes "/b") ∷ [];
      more = dir_call (bytes "/b/x") ∷ [];
      limits = small;
      limits_too = small;
      job = call (Calls.rename (bytes "/a") (bytes "/b") (pos 0)) ∷ [];
      first = accepted (plain_reply 0) ∷ [];
      second = refusal 12 ∷ [];
    }

-- a refusal for space
abbrev too_small : Apart
too_small =
    record {
      base = dir_call (bytes "/a") ∷ [];
      more = [];
      limits = fresh_state 2 256;
      limits_too = fresh_state 3 256;
      job = dir_call (bytes "/b") ∷ [];
      first = refusal 15 ∷ [];
      second = accepted (plain_reply 0) ∷ [];
    }

pub exceptions : Differs missed_name × Differs missing_root × Differs a_listing × Differs an_emptiness × Differs a_replacing × Differs too_small
unfolding is_quiet answered left
exceptions = ((refl, refl, refl), (refl, refl, refl), (refl, refl, refl), (refl, refl, refl), (refl, refl, refl), (refl, refl, refl))

-- ---- what is not

-- both states have /a/f and the full directory /d/e; the second has /z and /a's neighbour /y more, and more space
abbrev common : List Call
common = dir_call (bytes "/a") ∷ write_call (bytes "/a/f") (bytes "x") ∷ dir_call (bytes "/d/e") ∷ []

-- a name that both lack, a directory that lists alike, 12 of a directory alike in both, a refusal that is not for space, and on
abbrev alike_job : List Call
alike_job =
    stat_call (bytes "/no") ∷ call (Calls.list (bytes "/a") 100 10) ∷ call (Calls.remove_dir (bytes "/d")) ∷ call (Calls.remove_file (bytes "/d")) ∷
    write_call (bytes "/a/g") (bytes "y") ∷ call (Calls.read_file (bytes "/a/g") 10) ∷ []

pub goes_on : (is_quiet alike_job (left common small) (left (common ++ (dir_call (bytes "/z") ∷ dir_call (bytes "/y") ∷ [])) (fresh_state 4096 65536)) ≡ true)
    × (answered alike_job (left common small) ≡
    refusal 8
    ∷ accepted (record {
      number = 1;
      out = 102 ∷ 0 ∷ [];
      rows = (record { kind = aFile; size = 1; meta = record { mode = 0o666; accessed = pos 0; changed = pos 0; created = pos 0; modified = pos 0 } }) ∷ [];
      link_count = 0;
    })
    ∷ refusal 12 ∷ refusal 10 ∷ accepted (plain_reply 0) ∷ accepted (record { number = 1; out = 121 ∷ []; rows = []; link_count = 0 }) ∷ [])
unfolding is_quiet answered left
goes_on = (refl, refl)
