-- Worked examples: cases m to o of 01, renames across links, set times' raw paths, a chain through every link of a tree, limits. Each
-- row is a job that makes a tree, a job on it, and what the second answers.
-- Assumes nothing.
use mathlib.Core.List.{List, [], ◌∷◌, ◌++◌}
use mathlib.Core.Path.{◌≡◌, refl}
use Prim.Native.Nat.{ℕ, zero, suc, ◌+◌, ◌-◌, ◌^◌}
use lib.IntN.{pos}
use Rattle.text.specs.Utf8.{Bytes}
use Rattle.model.specs.Operations.{plain_reply, number_reply, bytes_reply}
use Rattle.model.specs.Calls as Calls
use Rattle.model.specs.Calls.{fresh_state, Call, Result, accepted, refusal}
use Rattle.model.proofs.Computing.{bytes, left, answered, call}

abbrev dir : Bytes → Call
dir p = call (Calls.create_dir p (pos 0))

abbrev write : Bytes → Call
write p = call (Calls.write_file p (bytes "12345") (pos 0))

abbrev link : Bytes → Bytes → Call
link t p = call (Calls.link_file t p (pos 0))

abbrev rename : Bytes → Bytes → Call
rename p q = call (Calls.rename p q (pos 0))

abbrev open_as : ℕ → Bytes → Call
open_as n p = call (Calls.open_file n p 0 0 (pos 0))

abbrev real : Bytes → Call
real p = call (Calls.canonicalize p 1024)

-- a path found through k links
abbrev found : Bytes → ℕ → Result
found p k = accepted (bytes_reply p k)

abbrev done : ℕ → Result
done k = accepted (plain_reply k)

pub record Row : Type 0 where
  pub tree : List Call
  pub job : List Call
  pub answers : List Result

-- ---- rename

abbrev behind_link : List Call
behind_link = dir (bytes "/d") ∷ write (bytes "/d/f") ∷ link (bytes "d") (bytes "/l") ∷ []

pub renames : List Row
renames =
    -- the old directory is out before the new one is looked for: a new /d is made, with the old one in it
    record { tree = behind_link; job = rename (bytes "/d") (bytes "/l/x") ∷ real (bytes "/d/x/f") ∷ real (bytes "/d/f") ∷ []; answers = done 1 ∷ found (bytes "/d/x/f") 0 ∷ refusal 8 ∷ [] } ∷
    -- so an empty /d/x is not replaced
    record { tree = behind_link ++ (dir (bytes "/d/x") ∷ []); job = rename (bytes "/d") (bytes "/l/x") ∷ real (bytes "/d/x/x") ∷ real (bytes "/d/x/f") ∷ []; answers = done 1 ∷ found (bytes "/d/x/x") 0 ∷ found (bytes "/d/x/f") 0 ∷ [] } ∷
    -- the link that moves was on the way
    record { tree = dir (bytes "/d") ∷ link (bytes "d") (bytes "/a") ∷ link (bytes "a") (bytes "/l") ∷ []; job = rename (bytes "/a") (bytes "/l/b") ∷ call (Calls.read_link (bytes "/a/b") 10) ∷ real (bytes "/a/b") ∷ []; answers = done 3 ∷ accepted (bytes_reply (bytes "d") 0) ∷ refusal 8 ∷ [] } ∷
    -- two spellings of one file: nothing changes, and the number stays on it
    record { tree = dir (bytes "/y") ∷ write (bytes "/y/f") ∷ link (bytes "y") (bytes "/l") ∷ open_as 0 (bytes "/y/f") ∷ []; job = rename (bytes "/l/f") (bytes "/y/f") ∷ real (bytes "/y/f") ∷ call (Calls.read_number 0 9) ∷ []; answers = done 1 ∷ found (bytes "/y/f") 0 ∷ accepted (bytes_reply (bytes "12345") 0) ∷ [] } ∷
    -- of one directory with entries: 12
    record { tree = dir (bytes "/y/e/x") ∷ link (bytes "y") (bytes "/l") ∷ []; job = rename (bytes "/l/e") (bytes "/y/e") ∷ []; answers = refusal 12 ∷ [] } ∷
    -- both kinds are taken through last links, and the link is replaced
    record { tree = dir (bytes "/d/k") ∷ dir (bytes "/e") ∷ link (bytes "e") (bytes "/l") ∷ []; job = rename (bytes "/d") (bytes "/l") ∷ real (bytes "/l/k") ∷ real (bytes "/e") ∷ []; answers = done 1 ∷ found (bytes "/l/k") 0 ∷ found (bytes "/e") 0 ∷ [] } ∷
    record { tree = dir (bytes "/d") ∷ dir (bytes "/e/g") ∷ link (bytes "e") (bytes "/l") ∷ []; job = rename (bytes "/d") (bytes "/l") ∷ []; answers = refusal 12 ∷ [] } ∷
    -- a link onto what it leads to is a loop
    record { tree = dir (bytes "/d") ∷ link (bytes "d") (bytes "/l") ∷ []; job = rename (bytes "/l") (bytes "/d") ∷ real (bytes "/d") ∷ []; answers = done 1 ∷ refusal 7 ∷ [] } ∷
    record { tree = dir (bytes "/") ∷ write (bytes "/f") ∷ link (bytes "f") (bytes "/l") ∷ open_as 1 (bytes "/f") ∷ []; job = rename (bytes "/l") (bytes "/f") ∷ real (bytes "/f") ∷ call (Calls.read_number 1 9) ∷ []; answers = done 1 ∷ refusal 7 ∷ accepted (bytes_reply (bytes "12345") 0) ∷ [] } ∷
    -- under itself: a file 9, a directory by its links 11, a dangling link 8, a loop 7
    record { tree = dir (bytes "/d") ∷ write (bytes "/a") ∷ link (bytes "d") (bytes "/l") ∷ link (bytes "no") (bytes "/n") ∷ link (bytes "s") (bytes "/s") ∷ []; job = rename (bytes "/a") (bytes "/a/b") ∷ rename (bytes "/l") (bytes "/l/b") ∷ rename (bytes "/n") (bytes "/n/b") ∷ rename (bytes "/s") (bytes "/s/b") ∷ []; answers = refusal 9 ∷ refusal 11 ∷ refusal 8 ∷ refusal 7 ∷ [] } ∷
    -- a fresh tree
    record { tree = []; job = rename (bytes "/") (bytes "/.") ∷ rename (bytes "/q") (bytes "/") ∷ rename (bytes "/") (bytes "/q") ∷ rename (bytes "/a") (bytes "/b") ∷ []; answers = done 0 ∷ refusal 5 ∷ refusal 5 ∷ refusal 8 ∷ [] } ∷ []

-- ---- lookups

-- n times `/l`, and then the rest
hops : ℕ → Bytes → Bytes
hops zero s = s
hops (suc n) s = 47 ∷ 108 ∷ hops n s

-- links /A to `B`, /B to `C`, .., n of them from the k-th on
chain : ℕ → ℕ → List Call
chain zero k = []
chain (suc n) k = link ((k + 66) ∷ []) (47 ∷ (k + 65) ∷ []) ∷ chain n (suc k)

pub lookups : List Row
lookups =
    -- m. "40 links in line before a last name: found; 41: 7"
    record { tree = dir (bytes "/") ∷ link (bytes "/") (bytes "/l") ∷ write (bytes "/f") ∷ []; job = real (hops 40 (bytes "/f")) ∷ real (hops 41 (bytes "/f")) ∷ []; answers = found (bytes "/f") 40 ∷ refusal 7 ∷ [] } ∷
    -- "The same 41 as a chain of last links: found", through every link of the tree
    record { tree = dir (bytes "/") ∷ write (47 ∷ 106 ∷ []) ∷ chain 41 0; job = real (bytes "/A") ∷ []; answers = found (47 ∷ 106 ∷ []) 41 ∷ [] } ∷
    -- n. "Fresh tree: metadata of `/` is 8; create `/` makes it"
    record { tree = []; job = real (bytes "/") ∷ dir (bytes "/") ∷ real (bytes "/") ∷ []; answers = refusal 8 ∷ done 0 ∷ found (bytes "/") 0 ∷ [] } ∷
    -- o. "Length 5, seek from end −5 gives 0, −6 gives 13"
    record { tree = dir (bytes "/") ∷ write (bytes "/f") ∷ open_as 0 (bytes "/f") ∷ []; job = call (Calls.seek_number 0 2 (2 ^ 64 - 5)) ∷ call (Calls.seek_number 0 2 (2 ^ 64 - 6)) ∷ call (Calls.seek_number 0 2 (2 ^ 63 - 6)) ∷ call (Calls.seek_number 0 2 (2 ^ 63 - 5)) ∷ []; answers = accepted (number_reply 0 0) ∷ refusal 13 ∷ accepted (number_reply (2 ^ 63 - 1) 0) ∷ refusal 13 ∷ [] } ∷
    -- set times keeps `..` as a name, also behind a link; a file before it is 9
    record { tree = dir (bytes "/d") ∷ write (bytes "/f") ∷ link (bytes "d") (bytes "/l") ∷ []; job = call (Calls.set_times (bytes "/l/..") (pos 1) (pos 2)) ∷ call (Calls.set_times (bytes "/l/.") (pos 1) (pos 2)) ∷ call (Calls.set_times (bytes "/f/..") (pos 1) (pos 2)) ∷ []; answers = refusal 8 ∷ done 1 ∷ refusal 9 ∷ [] } ∷ []

-- ---- limits

-- Three entries and 256 bytes: names, targets and contents count, those of a removed file too while a number is open on it; what
-- fills a limit is accepted, one more is 15 or 16
pub limits : Row
limits =
    record {
      tree = dir (bytes "/") ∷ write (bytes "/f") ∷ open_as 0 (bytes "/f") ∷ call (Calls.set_length 0 240) ∷ [];
      job =
          link (bytes "123456789012345") (bytes "/l") ∷ link (bytes "12345678901234") (bytes "/l") ∷ dir (bytes "/x")
          ∷ call (Calls.set_length 0 241) ∷ call (Calls.remove_file (bytes "/f")) ∷ call (Calls.set_length 0 242) ∷ call (Calls.set_length 0 241)
          ∷ write (bytes "/g") ∷ call (Calls.close_number 0) ∷ write (bytes "/g") ∷ [];
      answers =
          refusal 16 ∷ done 0 ∷ refusal 15
          ∷ refusal 16 ∷ done 0 ∷ refusal 16 ∷ done 0
          ∷ refusal 16 ∷ done 0 ∷ done 0 ∷ [];
    }

pub limited : answered limits.job (left limits.tree (fresh_state 3 256)) ≡ limits.answers
unfolding limits answered left
limited = refl

-- every row's job answers so
abbrev pub Right : List Row → Type 0
Right [] = Unit {0}
Right (r ∷ rs) = (answered r.job (left r.tree (fresh_state 512 32768)) ≡ r.answers) × Right rs

pub renamed : Right renames
unfolding renames answered left
renamed = (refl, (refl, (refl, (refl, (refl, (refl, (refl, (refl, (refl, (refl, (refl, tt)))))))))))

pub looked_up : Right lookups
unfolding lookups answered left hops chain
looked_up = (refl, (refl, (refl, (refl, (refl, tt)))))
