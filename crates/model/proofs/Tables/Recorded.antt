-- Random jobs, each call with what the Rust answered to it, or, for the added refusals, what 01 says: a sample of the comparison in
-- tests/model, written by tests/model/record.py.
-- Assumes nothing.
use mathlib.Core.List.{List, [], ◌∷◌}
use mathlib.Core.Path.{◌≡◌, refl}
use Prim.Native.Nat.{ℕ}
use lib.IntN.{pos, negsuc}
use Rattle.text.specs.Utf8.{Bytes}
use Rattle.model.specs.Tree.{Time}
use Rattle.model.specs.Prog.{Kind, a_dir, aFile, a_link, Stat}
use Rattle.model.specs.Operations.{plain_reply, number_reply, bytes_reply}
use Rattle.model.specs.Calls as Calls
use Rattle.model.specs.Calls.{fresh_state, Call, Result, accepted, refusal}
use Rattle.model.proofs.Computing.{bytes, answered, call}

-- accepted with the link count alone
abbrev done : ℕ → Result
done k = accepted (plain_reply k)

-- with a number
abbrev num : ℕ → ℕ → Result
num n k = accepted (number_reply n k)

-- with bytes
abbrev txt : Bytes → ℕ → Result
txt s k = accepted (bytes_reply s k)

-- a record: kind, length, mode, then the times accessed, changed, created, modified
abbrev row : Kind → ℕ → ℕ → Time → Time → Time → Time → Stat
row k size mode a c b m = record { kind = k; size = size; meta = record { mode = mode; accessed = a; changed = c; created = b; modified = m } }

-- with bytes and records
abbrev rows : ℕ → Bytes → List Stat → ℕ → Result
rows n s rs k = accepted (record { number = n; out = s; rows = rs; link_count = k })

-- a call, and what it answered
pub record Line : Type 0 where
  pub call : Call
  pub answer : Result

infixl 20 ◌gives◌
abbrev ◌gives◌ : Call → Result → Line
c gives r = record { call = c; answer = r }

-- a job on a fresh state with these limits
pub record Job : Type 0 where
  pub most : ℕ
  pub room : ℕ
  pub lines : List Line

-- its calls
unfoldable pub calls_of : List Line → List Call
calls_of [] = []
calls_of (l ∷ ls) = l.call ∷ calls_of ls

-- its answers
unfoldable pub answers_of : List Line → List Result
answers_of [] = []
answers_of (l ∷ ls) = l.answer ∷ answers_of ls

-- each call of the job answers so
abbrev pub AnswersSo : Job → Type 0
AnswersSo j = answered (calls_of j.lines) (fresh_state j.most j.room) ≡ answers_of j.lines

abbrev plain4173 : Job
plain4173 =
    record {
      most = 512;
      room = 32768;
      lines =
          (call (Calls.create_dir (bytes "/a") (pos 0)) gives done 0) ∷
          (call (Calls.write_file (bytes "/a/c") (bytes "y") (pos 66)) gives done 0) ∷
          (call (Calls.copy_file (bytes "/a/a/b") (bytes "/a/c") (pos 9)) gives refusal 8) ∷
          (call (Calls.read_link (bytes "d/c/c/c/") 2000) gives refusal 8) ∷
          (call (Calls.link_file [] (bytes "/./a/a") (pos 78)) gives done 0) ∷
          (call (Calls.write_file (bytes "/d") (bytes "b") (pos 84)) gives done 0) ∷
          (call (Calls.create_dir (bytes "/a/a") (pos 36)) gives done 1) ∷
          (call (Calls.link_file [] (bytes "a/c/") (pos 45)) gives done 0) ∷
          (call (Calls.link_file (bytes "/a/c/a") (bytes "/a") (pos 74)) gives refusal 12) ∷
          (call (Calls.seek_number 1 2 18446744073709551615) gives refusal 4) ∷
          (call (Calls.create_dir (bytes "/a/c") (pos 13)) gives done 1) ∷
          (call (Calls.link_file (bytes "/d") (bytes "/a") (pos 8)) gives refusal 12) ∷
          (call (Calls.copy_file (bytes "/d/") (bytes "/a/c/d") (pos 70)) gives num 1 1) ∷
          (call (Calls.open_file 0 (bytes "/d/.") 1 2541 (pos 78)) gives done 0) ∷
          (call (Calls.list [] 2000 100) gives rows 2 (97 ∷ 0 ∷ 100 ∷ 0 ∷ []) (row a_dir 0 0o755 (pos 0) (pos 0) (pos 0) (pos 0) ∷ row aFile 1 0o666 (pos 84) (pos 84) (pos 84) (pos 84) ∷ []) 0) ∷
          (call (Calls.set_times_number 0 0 (pos 67) (pos 79)) gives done 0) ∷
          (call (Calls.set_length 0 9) gives done 0) ∷
          (call (Calls.canonicalize (bytes "/a/a") 2000) gives txt (bytes "/a") 1) ∷
          (call (Calls.rename (bytes "/a/d/c") (bytes "/a/c") (pos 9)) gives refusal 9) ∷
          (call (Calls.open_file 1 (bytes "a") 19 384 (negsuc 0)) gives refusal 10) ∷
          (call (Calls.canonicalize (bytes "/a/.") 2000) gives txt (bytes "/a") 0) ∷
          (call (Calls.write_file [] (99 ∷ 32 ∷ 121 ∷ 98 ∷ 121 ∷ 122 ∷ 120 ∷ 0 ∷ []) (pos 28)) gives refusal 5) ∷
          (call (Calls.canonicalize (bytes "/a/c/a/c") 2000) gives txt (bytes "/a") 3) ∷
          (call (Calls.link_file (bytes "/") (bytes "/b/b/d/") (pos 48)) gives refusal 8) ∷
          (call (Calls.metadata (bytes "a/") 1) gives rows 0 [] (row a_dir 0 0o755 (pos 0) (pos 0) (pos 0) (pos 0) ∷ []) 0) ∷
          (call (Calls.link_file (bytes ".") (bytes "d") (pos 76)) gives done 0) ∷
          (call (Calls.create_dir (bytes "/a/a") (pos 67)) gives done 1) ∷
          (call (Calls.read_file (bytes "a/b") 2000) gives refusal 8) ∷
          (call (Calls.hard_link (bytes "a/d") (bytes "a/d") (pos 68)) gives done 0) ∷
          (call (Calls.remove_dir (bytes "a/d/b/b")) gives refusal 9) ∷
          (call (Calls.open_file 1 (bytes ".") 25 2541 (pos 66)) gives refusal 5) ∷
          (call (Calls.set_current_dir (bytes "/a/c")) gives done 1) ∷
          (call (Calls.open_file 1 (bytes "/a/c") 9 2541 (pos 13)) gives refusal 10) ∷
          (call (Calls.rename (bytes "/a") (bytes "..") (pos 78)) gives refusal 5) ∷
          (call (Calls.set_times (bytes "/d") (pos 35) (pos 9223372036854775807)) gives done 1) ∷
          (call (Calls.link_file (bytes "/") (bytes "/d/a/b") (pos 76)) gives done 1) ∷
          (call (Calls.seek_number 0 0 11) gives num 11 0) ∷
          (call (Calls.list (bytes "/a/a/a") 2000 100) gives rows 4 (97 ∷ 0 ∷ 98 ∷ 0 ∷ 99 ∷ 0 ∷ 100 ∷ 0 ∷ []) (row a_link 0 0o777 (pos 78) (pos 78) (pos 78) (pos 78) ∷ row a_link 0 0o777 (pos 76) (pos 76) (pos 76) (pos 76) ∷ row a_link 0 0o777 (pos 45) (pos 45) (pos 45) (pos 45) ∷ row aFile 1 0o666 (pos 70) (pos 70) (pos 70) (pos 68) ∷ []) 2) ∷
          (call (Calls.write_file (bytes "/a/b/b") (0 ∷ 0 ∷ 0 ∷ 255 ∷ 98 ∷ 122 ∷ 99 ∷ 0 ∷ []) (pos 2)) gives done 1) ∷
          (call (Calls.list (bytes "/c/d/a/d") 2000 100) gives refusal 8) ∷
          (call (Calls.open_file 1 (bytes "/d/b/b/..") 10 1 (pos 75)) gives refusal 12) ∷
          (call (Calls.metadata (bytes "/d") 1) gives rows 0 [] (row a_dir 0 0o755 (pos 35) (pos 35) (pos 35) (pos 9223372036854775807) ∷ []) 1) ∷
          (call (Calls.metadata_number 0 1) gives rows 0 [] (row a_dir 0 0o755 (pos 35) (pos 35) (pos 35) (pos 9223372036854775807) ∷ []) 1) ∷
          (call (Calls.remove_dir (bytes "/a/c")) gives refusal 10) ∷
          (call (Calls.metadata_number 0 1) gives rows 0 [] (row a_dir 0 0o755 (pos 35) (pos 35) (pos 35) (pos 9223372036854775807) ∷ []) 1) ∷
          (call (Calls.metadata_number 0 1) gives rows 0 [] (row a_dir 0 0o755 (pos 35) (pos 35) (pos 35) (pos 9223372036854775807) ∷ []) 1) ∷
          (call (Calls.set_current_dir (bytes "/b/b")) gives refusal 9) ∷
          (call (Calls.read_file (bytes "/a/a") 2000) gives refusal 10) ∷
          (call (Calls.rename (bytes "/a/d/..") (bytes "/a/d/../b") (pos 73)) gives refusal 11) ∷
          (call (Calls.set_times (bytes "/a/c/../a") (pos 38) (pos 4)) gives refusal 8) ∷
          [];
    }

plain4173_so : AnswersSo plain4173
unfolding answered calls_of answers_of
plain4173_so = refl

abbrev links42179 : Job
links42179 =
    record {
      most = 512;
      room = 32768;
      lines =
          (call (Calls.create_dir (bytes "/..a/c") (pos 0)) gives done 0) ∷
          (call (Calls.link_file (bytes "/..a") (bytes "/c") (pos 61)) gives done 0) ∷
          (call (Calls.open_file 0 (bytes "/..a") 1 65536 (pos 57)) gives refusal 10) ∷
          (call (Calls.create_dir (bytes "/c/c") (pos 41)) gives done 1) ∷
          (call (Calls.create_dir (bytes "c/c") (pos 39)) gives done 1) ∷
          (call (Calls.write_file (bytes "/") (0 ∷ []) (negsuc 3)) gives refusal 5) ∷
          (call (Calls.rename (bytes "/c/c") (bytes "c/c") (pos 82)) gives done 0) ∷
          (call (Calls.open_file 0 (bytes "/c/..a") 11 4294967295 (pos 56)) gives done 1) ∷
          (call (Calls.write_file (bytes "/..a") (97 ∷ 0 ∷ 10 ∷ 97 ∷ 99 ∷ 0 ∷ 122 ∷ 99 ∷ []) (pos 4)) gives refusal 10) ∷
          (call (Calls.link_file (bytes "c") (bytes "/..a/b") (pos 2)) gives done 0) ∷
          (call (Calls.link_file (bytes "..a") (bytes "/c/..a") (pos 85)) gives done 1) ∷
          (call (Calls.open_file 1 (bytes "..a/..a/..a") 1 0 (pos 27)) gives refusal 7) ∷
          (call (Calls.canonicalize (bytes "/c/b") 2000) gives txt (bytes "/..a/c") 2) ∷
          (call (Calls.remove_file (bytes "/")) gives refusal 5) ∷
          (call (Calls.write_file (bytes "..a/..a/c/") (120 ∷ 0 ∷ 255 ∷ 32 ∷ 0 ∷ 0 ∷ 255 ∷ 98 ∷ []) (pos 0)) gives refusal 7) ∷
          (call (Calls.metadata_number 0 1) gives refusal 7) ∷
          (call (Calls.create_dir (bytes "/..a/..a/c") (pos 65)) gives refusal 7) ∷
          (call (Calls.hard_link (bytes "/a/b/a/c") (bytes "c/b") (pos 56)) gives refusal 8) ∷
          (call (Calls.link_file (bytes "/") (bytes "c") (pos 55)) gives done 0) ∷
          (call (Calls.copy_file (bytes "/a/./c/..a") (bytes "..a/..a/c/") (pos 62)) gives refusal 8) ∷
          (call (Calls.write_file (bytes "..a/..a/..a") (255 ∷ 99 ∷ 122 ∷ 97 ∷ 0 ∷ 32 ∷ 99 ∷ 0 ∷ []) (pos 41)) gives refusal 7) ∷
          (call (Calls.metadata (bytes "/..a/..a/c") 1) gives refusal 7) ∷
          (call (Calls.create_dir (bytes "/..a/a/..a/a/../") (pos 15)) gives done 0) ∷
          (call (Calls.read_link (bytes "/..a/..a") 2000) gives txt (bytes "..a") 0) ∷
          (call (Calls.read_file (bytes "/..a/..a/c") 2000) gives refusal 7) ∷
          (call (Calls.set_times_number 0 0 (pos 67) (pos 87)) gives done 0) ∷
          (call (Calls.set_length 0 10) gives done 0) ∷
          (call (Calls.link_file (bytes "/..a/..a") (bytes "c/c/c/a") (pos 25)) gives done 3) ∷
          (call (Calls.remove_file (bytes "/..a/..a/a")) gives refusal 7) ∷
          (call (Calls.write_file (bytes "/..a/..a/b/..a") (bytes " ") (pos 45)) gives refusal 7) ∷
          (call (Calls.set_umask 511) gives num 438 0) ∷
          (call (Calls.rename (bytes "/a/b") (bytes "/c/") (pos 71)) gives refusal 7) ∷
          (call (Calls.canonicalize (bytes "/..a/..a/..a/c/b") 2000) gives refusal 7) ∷
          (call (Calls.copy_file (bytes "/..a/") (bytes "/") (pos 57)) gives refusal 10) ∷
          (call (Calls.link_file (bytes "a") (bytes "/a/b/c/a") (pos 4)) gives refusal 7) ∷
          (call (Calls.set_permissions (bytes "/c/a/..a") 2541) gives refusal 7) ∷
          (call (Calls.set_umask 420) gives num 511 0) ∷
          (call (Calls.canonicalize (bytes "/a/c") 2000) gives refusal 7) ∷
          (call (Calls.hard_link (bytes "/..a/..a/..a/..a") (bytes "..") (negsuc 1000000000)) gives refusal 7) ∷
          (call (Calls.copy_file (bytes "/..a/..a/b/a") (bytes "a/a") (pos 85)) gives refusal 7) ∷
          (call (Calls.remove_tree (bytes "..a")) gives done 0) ∷
          (call (Calls.copy_file (bytes "/c/..a/../c") (bytes "/a") (pos 37)) gives refusal 5) ∷
          (call (Calls.set_permissions (bytes "/a/b/a/b") 0) gives refusal 8) ∷
          (call (Calls.metadata (bytes "a") 1) gives refusal 8) ∷
          (call (Calls.rename (bytes "/") (bytes "/..a/c/.") (pos 80)) gives refusal 5) ∷
          (call (Calls.remove_dir (bytes "/a/c/a/c/..")) gives refusal 8) ∷
          (call (Calls.set_length 0 6) gives done 0) ∷
          (call (Calls.copy_file (bytes "/c/a") (bytes "/") (pos 80)) gives refusal 8) ∷
          (call (Calls.rename (bytes "/a/b/..") (bytes "/c/a") (pos 78)) gives refusal 8) ∷
          (call (Calls.set_times (bytes "/c/c") (pos 7) (pos 16)) gives done 2) ∷
          [];
    }

links42179_so : AnswersSo links42179
unfolding answered calls_of answers_of
links42179_so = refl

abbrev links42270 : Job
links42270 =
    record {
      most = 512;
      room = 32768;
      lines =
          (call (Calls.create_dir (bytes "/") (pos 0)) gives done 0) ∷
          (call (Calls.link_file (bytes "../d") (bytes "/...") (pos 86)) gives done 0) ∷
          (call (Calls.write_file (bytes "/d") (bytes "yz") (pos 43)) gives done 0) ∷
          (call (Calls.open_file 0 (bytes "/a") 1 1 (pos 9223372036854775807)) gives done 0) ∷
          (call (Calls.write_file (bytes "/a") (255 ∷ 255 ∷ 255 ∷ []) (pos 29)) gives done 0) ∷
          (call (Calls.create_dir (bytes "/c/c") (pos 52)) gives done 0) ∷
          (call (Calls.write_file (bytes "//c") (255 ∷ 121 ∷ 0 ∷ []) (pos 77)) gives refusal 10) ∷
          (call (Calls.create_dir (bytes "/c/c/c") (pos 63)) gives done 0) ∷
          (call (Calls.create_dir (bytes "c/b") (pos 15)) gives done 0) ∷
          (call (Calls.write_file (bytes "/c/b/d") [] (pos 65)) gives done 0) ∷
          (call (Calls.write_file (bytes "/c/b/c") (121 ∷ 122 ∷ 99 ∷ 255 ∷ 98 ∷ 255 ∷ 32 ∷ 122 ∷ []) (negsuc 0)) gives done 0) ∷
          (call (Calls.write_file (bytes "/c/d") (255 ∷ []) (pos 53)) gives done 0) ∷
          (call (Calls.open_file 1 (bytes "//.../d") 0 0 (pos 73)) gives refusal 9) ∷
          (call (Calls.link_file (bytes "d") (bytes "/c/d/...") (pos 17)) gives refusal 9) ∷
          (call (Calls.create_dir (bytes "/c/.../.") (pos 60)) gives done 0) ∷
          (call (Calls.symlink_metadata (bytes ".../...") 1) gives refusal 9) ∷
          (call (Calls.read_file (bytes "/a") 2000) gives txt (255 ∷ 255 ∷ 255 ∷ []) 0) ∷
          (call (Calls.set_current_dir (bytes "/.../...")) gives refusal 9) ∷
          (call (Calls.open_file 1 (bytes "/c/d/c/c") 5 0 (pos 9)) gives refusal 9) ∷
          (call (Calls.remove_file (bytes ".../d")) gives refusal 9) ∷
          (call (Calls.read_link (bytes "/.../.../a") 2000) gives refusal 9) ∷
          (call (Calls.read_link [] 2000) gives refusal 10) ∷
          (call (Calls.set_length 0 12) gives done 0) ∷
          (call (Calls.list (bytes "/c/b") 2000 100) gives rows 2 (99 ∷ 0 ∷ 100 ∷ 0 ∷ []) (row aFile 8 0o666 (negsuc 0) (negsuc 0) (negsuc 0) (negsuc 0) ∷ row aFile 0 0o666 (pos 65) (pos 65) (pos 65) (pos 65) ∷ []) 0) ∷
          (call (Calls.remove_file (bytes "/...")) gives refusal 10) ∷
          (call (Calls.create_dir (bytes "c/c") (pos 89)) gives done 0) ∷
          (call (Calls.remove_file (bytes "/d/..")) gives refusal 5) ∷
          (call (Calls.rename (bytes "b/b/...") (bytes "/.../.../d") (pos 68)) gives refusal 8) ∷
          (call (Calls.canonicalize (bytes "/.../c/../d") 2000) gives refusal 9) ∷
          (call (Calls.read_number 0 3) gives txt (255 ∷ 255 ∷ 255 ∷ []) 0) ∷
          (call (Calls.read_number 0 5) gives txt (0 ∷ 0 ∷ 0 ∷ 0 ∷ 0 ∷ []) 0) ∷
          (call (Calls.symlink_metadata (bytes "/c/b/c") 1) gives rows 0 [] (row aFile 8 0o666 (negsuc 0) (negsuc 0) (negsuc 0) (negsuc 0) ∷ []) 0) ∷
          (call (Calls.copy_file (bytes "c/b/c/b") (bytes "c/b/c/b") (pos 28)) gives refusal 9) ∷
          (call (Calls.link_file (bytes "/c/c") (bytes "c/b/d") (pos 16)) gives done 0) ∷
          (call (Calls.remove_tree (bytes ".../c/c")) gives refusal 9) ∷
          (call (Calls.set_times (bytes "/a/../c/b/c") (pos 34) (pos 2)) gives refusal 9) ∷
          (call (Calls.hard_link (bytes "c/b/d/...") (bytes "/") (pos 75)) gives refusal 8) ∷
          (call (Calls.set_current_dir (bytes "/b/b/c/d")) gives refusal 8) ∷
          (call (Calls.canonicalize (bytes "/c/b/d/c/b") 2000) gives refusal 8) ∷
          (call (Calls.canonicalize (bytes "/d") 2000) gives txt (bytes "/d") 0) ∷
          (call (Calls.link_file (bytes "/c/b/d/d") (bytes "/c/b/d/.../.../...") (pos 61)) gives refusal 8) ∷
          (call (Calls.remove_file (bytes "a")) gives done 0) ∷
          (call (Calls.link_file (bytes "b") (bytes "/") (pos 35)) gives refusal 5) ∷
          (call (Calls.close_number 0) gives done 0) ∷
          (call (Calls.create_dir (bytes "/...") (pos 21)) gives refusal 9) ∷
          (call (Calls.open_file 0 (bytes "/b/d") 5 4294967295 (negsuc 2)) gives refusal 8) ∷
          (call (Calls.set_umask 420) gives num 438 0) ∷
          (call (Calls.symlink_metadata (bytes "/c/c/.../c") 1) gives refusal 8) ∷
          (call (Calls.open_file 0 (bytes "/a/.../.../.") 9 4294967295 (pos 0)) gives refusal 8) ∷
          (call (Calls.canonicalize (bytes "/c/b/d/d/c") 2000) gives refusal 8) ∷
          [];
    }

links42270_so : AnswersSo links42270
unfolding answered calls_of answers_of
links42270_so = refl

abbrev rename43161 : Job
rename43161 =
    record {
      most = 512;
      room = 32768;
      lines =
          (call (Calls.create_dir (bytes "/a") (pos 0)) gives done 0) ∷
          (call (Calls.link_file (bytes "./b//") (bytes "/b/../a") (pos 85)) gives refusal 12) ∷
          (call (Calls.create_dir (bytes "/b") (pos 60)) gives done 0) ∷
          (call (Calls.link_file (bytes "../b") (bytes "/b/a") (pos 8)) gives done 0) ∷
          (call (Calls.create_dir (bytes "/a/a") (pos 39)) gives done 0) ∷
          (call (Calls.open_file 0 (bytes "/c") 1 65536 (pos 8)) gives done 0) ∷
          (call (Calls.read_number 3 3) gives refusal 4) ∷
          (call (Calls.write_file (bytes "/a/a") [] (pos 17)) gives refusal 10) ∷
          (call (Calls.write_file (bytes "c/c/c/") (32 ∷ 0 ∷ 99 ∷ 120 ∷ 32 ∷ 121 ∷ 97 ∷ 120 ∷ []) (pos 86)) gives refusal 9) ∷
          (call (Calls.write_file (bytes "/a/a/b") (10 ∷ 120 ∷ []) (pos 35)) gives done 0) ∷
          (call (Calls.link_file (bytes "c") (bytes "/c") (pos 50)) gives done 0) ∷
          (call (Calls.write_file (bytes "/a/a/c") (bytes "abx") (pos 9)) gives done 0) ∷
          (call (Calls.create_dir (bytes "/c") (pos 64)) gives refusal 7) ∷
          (call (Calls.rename (bytes "/b/b") (bytes "/a/b/../a") (pos 3)) gives refusal 8) ∷
          (call (Calls.open_file 1 (bytes "/a/a/c") 0 511 (pos 12)) gives done 0) ∷
          (call (Calls.link_file (bytes "../c") (bytes "a/a/b/b") (pos 70)) gives refusal 9) ∷
          (call (Calls.write_file (bytes ".") (97 ∷ 0 ∷ []) (pos 88)) gives refusal 5) ∷
          (call (Calls.rename (bytes "/a/a") (bytes "/a") (pos 67)) gives refusal 12) ∷
          (call (Calls.link_file (bytes "/b/a/c") (bytes "/c") (negsuc 0)) gives done 0) ∷
          (call (Calls.create_dir (bytes "/b/a/a/") (pos 65)) gives done 2) ∷
          (call (Calls.read_number 1 3) gives txt (bytes "abx") 0) ∷
          (call (Calls.symlink_metadata (bytes "/b/../c/a") 1) gives refusal 8) ∷
          (call (Calls.rename (bytes "/a/a/c/a/..") (bytes "/b/a/a") (pos 56)) gives refusal 10) ∷
          (call (Calls.rename (bytes "/a/c/c/a/") (bytes "/a/c/c/a//a") (pos 51)) gives refusal 8) ∷
          (call (Calls.rename (bytes "/b/../c/c") (bytes "//c") (pos 78)) gives refusal 8) ∷
          (call (Calls.metadata (bytes "/c/.") 1) gives refusal 8) ∷
          (call (Calls.create_dir (bytes "/./b/a/c") (pos 65)) gives done 1) ∷
          (call (Calls.rename (bytes "/b/a/c") (bytes "/b/a/b/../a/b/c") (pos 1)) gives done 3) ∷
          (call (Calls.rename (bytes "/b") (bytes "/b/c/c") (pos 36)) gives refusal 11) ∷
          (call (Calls.list (bytes "a/a/a/b") 2000 100) gives refusal 8) ∷
          (call (Calls.rename (bytes "/b/b/b/") (bytes "/b/b/b//c") (pos 17)) gives refusal 8) ∷
          (call (Calls.create_dir (bytes "c/c") (negsuc 5)) gives done 2) ∷
          (call (Calls.link_file (bytes "c") (bytes "/c/b/c") (pos 89)) gives refusal 8) ∷
          (call (Calls.link_file (bytes "/b/a/a") (bytes "/c/b/c") (pos 67)) gives refusal 8) ∷
          (call (Calls.rename (bytes "b/c") (bytes "b/c/c") (pos 84)) gives refusal 11) ∷
          (call (Calls.rename (bytes "/a/c") (bytes "c") (pos 64)) gives refusal 8) ∷
          (call (Calls.set_current_dir (bytes "/a/a/b/.")) gives done 0) ∷
          (call (Calls.link_file (bytes "/b/b") (bytes "/c/a/b/../b") (pos 66)) gives refusal 8) ∷
          (call (Calls.rename (bytes "/b/a/b") (bytes "/b/") (pos 59)) gives refusal 12) ∷
          (call (Calls.read_number 0 2) gives done 0) ∷
          (call (Calls.open_file 2 [] 23 0 (pos 76)) gives refusal 12) ∷
          (call (Calls.rename (bytes "/c") (bytes "/c/c") (pos 4)) gives refusal 11) ∷
          (call (Calls.rename (bytes "../../../c/b/") (bytes "../../../a/b") (pos 15)) gives refusal 8) ∷
          (call (Calls.create_dir (bytes "/a/a/b/.") (negsuc 4)) gives refusal 9) ∷
          (call (Calls.link_file (bytes "../../../b/c/c/") (bytes "../../../c") (pos 7)) gives done 0) ∷
          (call (Calls.rename (bytes "/c/") (bytes "/b/c/c/a") (pos 60)) gives done 1) ∷
          (call (Calls.write_file (bytes "/a/a/c") (bytes "xyczc") (pos 27)) gives done 0) ∷
          (call (Calls.link_file (bytes "../../../b") (bytes "../../../b//c/c/a/") (pos 14)) gives done 0) ∷
          (call (Calls.metadata_number 0 1) gives refusal 8) ∷
          (call (Calls.remove_file (bytes "/a/a/c")) gives done 0) ∷
          [];
    }

rename43161_so : AnswersSo rename43161
unfolding answered calls_of answers_of
rename43161_so = refl

abbrev rename43114 : Job
rename43114 =
    record {
      most = 512;
      room = 32768;
      lines =
          (call (Calls.create_dir (bytes "/c") (pos 0)) gives done 0) ∷
          (call (Calls.link_file (bytes "../a") (bytes "/a/..") (pos 44)) gives refusal 5) ∷
          (call (Calls.rename (bytes "/./ab") (bytes "/c") (pos 69)) gives refusal 8) ∷
          (call (Calls.write_file (bytes "/b") (255 ∷ 99 ∷ []) (pos 1)) gives done 0) ∷
          (call (Calls.open_file 1 (bytes "/c") 1 2541 (pos 52)) gives refusal 10) ∷
          (call (Calls.write_file (bytes "/c") (0 ∷ 255 ∷ 32 ∷ 32 ∷ 121 ∷ []) (pos 1)) gives refusal 10) ∷
          (call (Calls.link_file (bytes "..") (bytes "/c/a") (pos 64)) gives done 0) ∷
          (call (Calls.write_file (bytes "/c/c") (10 ∷ 99 ∷ 98 ∷ []) (pos 38)) gives done 0) ∷
          (call (Calls.create_dir (bytes "/ab") (pos 5)) gives done 0) ∷
          (call (Calls.write_file (bytes "/ab") [] (pos 85)) gives refusal 10) ∷
          (call (Calls.write_file (bytes "/c/a") (10 ∷ 10 ∷ 122 ∷ 0 ∷ 120 ∷ 120 ∷ 255 ∷ 10 ∷ []) (pos 79)) gives refusal 5) ∷
          (call (Calls.write_file (bytes "/c/c") (0 ∷ 120 ∷ []) (negsuc 2)) gives done 0) ∷
          (call (Calls.rename (bytes "/c/a") (bytes "/c/a/b") (pos 31)) gives refusal 11) ∷
          (call (Calls.open_file 0 (bytes "c/a/b") 8 4294967295 (pos 59)) gives done 1) ∷
          (call (Calls.rename (bytes "/c/a") (bytes "/") (pos 73)) gives refusal 5) ∷
          (call (Calls.rename (bytes "a/../b/b") (bytes "/c/a") (pos 74)) gives refusal 9) ∷
          (call (Calls.link_file (bytes "a/c") (bytes "/c/a/.") (pos 53)) gives done 0) ∷
          (call (Calls.remove_tree (bytes "/c/a/c")) gives refusal 7) ∷
          (call (Calls.rename (bytes "/b/b/ab/b") (bytes "/ab/c/ab/a/") (pos 79)) gives refusal 9) ∷
          (call (Calls.create_dir (bytes "/b/c/c/c") (pos 27)) gives refusal 9) ∷
          (call (Calls.rename (bytes "c/a/b/") (bytes "c/a/b//b") (pos 19)) gives refusal 7) ∷
          (call (Calls.link_file (bytes "./ab//") (bytes "c/a") (pos 21)) gives done 0) ∷
          (call (Calls.rename (bytes "/c/a/c") (bytes "b/ab/c/b") (pos 66)) gives refusal 8) ∷
          (call (Calls.metadata (bytes "/c") 1) gives rows 0 [] (row a_dir 0 0o755 (pos 0) (pos 0) (pos 0) (pos 0) ∷ []) 0) ∷
          (call (Calls.rename (bytes "/c/../ab") (bytes "/c/.") (pos 88)) gives refusal 12) ∷
          (call (Calls.link_file (bytes "/c/a/b") (bytes "/b/c/b/c/a/..") (pos 41)) gives refusal 9) ∷
          (call (Calls.link_file [] (bytes "/b") (pos 89)) gives done 0) ∷
          (call (Calls.link_file (bytes "ab") (bytes "/b/ab/ab/") (pos 76)) gives done 1) ∷
          (call (Calls.link_file (bytes "../b") (bytes "a/b/b/c") (pos 79)) gives refusal 8) ∷
          (call (Calls.link_file (bytes "c") (bytes "c/c") (pos 1)) gives done 0) ∷
          (call (Calls.remove_file (bytes "/a/c/b")) gives refusal 8) ∷
          (call (Calls.write_file (bytes "/b/ab/a") (bytes " cc") (negsuc 1000000000)) gives done 1) ∷
          (call (Calls.rename (bytes "/b/b/b") (bytes "/b/b/b") (pos 73)) gives done 0) ∷
          (call (Calls.rename (bytes "/c/") (bytes "ab/ab/..") (pos 82)) gives refusal 12) ∷
          (call (Calls.link_file (bytes "a") (bytes "a//b") (pos 26)) gives refusal 8) ∷
          (call (Calls.link_file [] (bytes "/c") (pos 62)) gives refusal 12) ∷
          (call (Calls.link_file (bytes "ab") (bytes "/b/c/ab/") (pos 24)) gives done 1) ∷
          (call (Calls.link_file (bytes "../b") (bytes "/c") (pos 14)) gives refusal 12) ∷
          (call (Calls.remove_file (bytes "/ab/ab/b/a")) gives refusal 7) ∷
          (call (Calls.write_file (bytes "../b/ab") (97 ∷ 98 ∷ 120 ∷ 120 ∷ 0 ∷ 122 ∷ 32 ∷ 0 ∷ []) (pos 54)) gives refusal 10) ∷
          (call (Calls.rename (bytes "/c/c/ab") (bytes "/ab/c") (pos 26)) gives refusal 7) ∷
          (call (Calls.rename (bytes "/c/c") (bytes "/c/a") (pos 1000000000)) gives refusal 7) ∷
          (call (Calls.symlink_metadata (bytes "/c/ab/c") 1) gives refusal 7) ∷
          (call (Calls.rename (bytes "//c/c/b") (bytes "/ab/../a") (pos 58)) gives refusal 7) ∷
          (call (Calls.list (bytes "c/c/a/c") 2000 100) gives refusal 7) ∷
          (call (Calls.write_file (bytes "/c/ab/../ab/ab") (bytes "a") (pos 50)) gives refusal 7) ∷
          (call (Calls.create_dir (bytes "/c/a/b/ab") (pos 8)) gives refusal 7) ∷
          (call (Calls.open_file 1 (bytes "ab") 16 65536 (pos 26)) gives refusal 10) ∷
          (call (Calls.remove_dir (bytes "/c/a/./ab")) gives refusal 7) ∷
          (call (Calls.list (bytes "b/ab") 2000 100) gives rows 2 (97 ∷ 0 ∷ 97 ∷ 98 ∷ 0 ∷ []) (row aFile 3 0o666 (negsuc 1000000000) (negsuc 1000000000) (negsuc 1000000000) (negsuc 1000000000) ∷ row a_link 0 0o777 (pos 76) (pos 76) (pos 76) (pos 76) ∷ []) 1) ∷
          [];
    }

rename43114_so : AnswersSo rename43114
unfolding answered calls_of answers_of
rename43114_so = refl

abbrev files44149 : Job
files44149 =
    record {
      most = 512;
      room = 32768;
      lines =
          (call (Calls.link_file (bytes "/b") (bytes "/d") (pos 84)) gives refusal 8) ∷
          (call (Calls.link_file (bytes "/A") (bytes "/a") (pos 18)) gives refusal 8) ∷
          (call (Calls.write_file (bytes "/c") [] (pos 3)) gives refusal 8) ∷
          (call (Calls.write_file (bytes "/a") (255 ∷ 32 ∷ 32 ∷ []) (pos 77)) gives refusal 8) ∷
          (call (Calls.link_file (bytes "/a/.") (bytes "/a") (pos 60)) gives refusal 8) ∷
          (call (Calls.create_dir (bytes "/d") (pos 14)) gives done 0) ∷
          (call (Calls.set_length 1 7) gives refusal 4) ∷
          (call (Calls.link_file (bytes "../A") (bytes "/c") (pos 13)) gives done 0) ∷
          (call (Calls.link_file (bytes "A") (bytes "/b") (pos 17)) gives done 0) ∷
          (call (Calls.write_file (bytes "/c") (bytes "x") (pos 47)) gives done 1) ∷
          (call (Calls.hard_link (bytes "c/b") (bytes "/A/b/c") (pos 60)) gives refusal 9) ∷
          (call (Calls.open_file 0 (bytes "/b") 1 4294967295 (pos 87)) gives done 1) ∷
          (call (Calls.rename (bytes "/A/c") (bytes "/A/c") (pos 67)) gives done 0) ∷
          (call (Calls.open_file 1 (bytes "/a/.") 17 65536 (negsuc 3)) gives done 0) ∷
          (call (Calls.set_length 0 6) gives done 0) ∷
          (call (Calls.rename (bytes "/a/c/a/a") (bytes "c/.") (pos 43)) gives refusal 9) ∷
          (call (Calls.metadata_number 0 1) gives rows 0 [] (row aFile 6 0o666 (pos 47) (pos 47) (pos 47) (pos 47) ∷ []) 0) ∷
          (call (Calls.link_file (bytes "c") (bytes "./b") (pos 57)) gives done 0) ∷
          (call (Calls.open_file 2 (bytes "/A/b/.") 9 511 (pos 14)) gives refusal 9) ∷
          (call (Calls.open_file 2 (bytes "/b/a") 5 384 (pos 68)) gives refusal 9) ∷
          (call (Calls.set_mode_number 2 420) gives refusal 4) ∷
          (call (Calls.open_file 2 (bytes "/b/A") 5 2541 (negsuc 3)) gives refusal 9) ∷
          (call (Calls.hard_link (bytes "/b/a") (bytes "/A/b/a") (pos 36)) gives refusal 9) ∷
          (call (Calls.rename (bytes "/b/b/c") (bytes "b/") (pos 83)) gives refusal 9) ∷
          (call (Calls.link_file (bytes "../a") (bytes "a") (pos 24)) gives done 0) ∷
          (call (Calls.seek_number 0 0 0) gives done 0) ∷
          (call (Calls.open_file 2 (bytes "A") 28 4294967295 (pos 1)) gives done 0) ∷
          (call (Calls.open_file 3 (bytes "/a") 0 65536 (pos 18)) gives refusal 7) ∷
          (call (Calls.set_mode_number 2 420) gives done 0) ∷
          (call (Calls.write_file (bytes "/../c/d") [] (pos 16)) gives refusal 9) ∷
          (call (Calls.remove_file (bytes "/b/A")) gives refusal 9) ∷
          (call (Calls.create_dir (bytes "c/") (pos 23)) gives refusal 9) ∷
          (call (Calls.rename (bytes "/c/A/c/a") [] (pos 17)) gives refusal 5) ∷
          (call (Calls.open_file 3 (bytes "/") 1 511 (pos 9)) gives refusal 5) ∷
          (call (Calls.read_file (bytes "/") 2000) gives refusal 5) ∷
          (call (Calls.rename (bytes "c/A/d") (bytes "/a/b/") (pos 18)) gives refusal 9) ∷
          (call (Calls.seek_number 1 0 8) gives num 8 0) ∷
          (call (Calls.rename (bytes "/a/A") (bytes "/d") (pos 56)) gives refusal 7) ∷
          (call (Calls.hard_link (bytes "/../d") (bytes "/../d") (pos 67)) gives refusal 10) ∷
          (call (Calls.seek_number 0 2 9223372036854775809) gives refusal 13) ∷
          (call (Calls.metadata_number 1 1) gives refusal 7) ∷
          (call (Calls.write_file (bytes "/a/b") (0 ∷ []) (pos 9)) gives refusal 7) ∷
          (call (Calls.set_mode_number 0 65536) gives done 0) ∷
          (call (Calls.copy_file (bytes "/b") (bytes "b") (pos 47)) gives done 4) ∷
          (call (Calls.metadata_number 1 1) gives refusal 7) ∷
          (call (Calls.copy_file (bytes "/../A") (bytes "A/./A") (pos 13)) gives refusal 9) ∷
          (call (Calls.read_file (bytes "/b/A") 2000) gives refusal 9) ∷
          (call (Calls.copy_file (bytes "/a/A/") (bytes "c") (pos 66)) gives refusal 7) ∷
          (call (Calls.metadata_number 0 1) gives rows 0 [] (row aFile 0 0o200000 (pos 47) (pos 47) (pos 47) (pos 47) ∷ []) 0) ∷
          (call (Calls.metadata_number 1 1) gives refusal 7) ∷
          [];
    }

files44149_so : AnswersSo files44149
unfolding answered calls_of answers_of
files44149_so = refl

abbrev files4459 : Job
files4459 =
    record {
      most = 512;
      room = 32768;
      lines =
          (call (Calls.create_dir (bytes "/a") (pos 0)) gives done 0) ∷
          (call (Calls.create_dir (bytes "/c/b") (pos 24)) gives done 0) ∷
          (call (Calls.write_file (bytes "/a/c") (bytes "bb ") (pos 0)) gives done 0) ∷
          (call (Calls.write_file (bytes "/a/c") (10 ∷ 0 ∷ 120 ∷ 97 ∷ 255 ∷ 121 ∷ 10 ∷ 122 ∷ []) (pos 17)) gives done 0) ∷
          (call (Calls.link_file (bytes "/c/b") (bytes "/c") (pos 41)) gives refusal 12) ∷
          (call (Calls.link_file (bytes "/") (bytes "/c/../c") (pos 18)) gives refusal 12) ∷
          (call (Calls.link_file (bytes "../c") (bytes "/b") (pos 33)) gives done 0) ∷
          (call (Calls.open_file 0 (bytes "/c/a") 1 65536 (negsuc 5)) gives done 0) ∷
          (call (Calls.create_dir (bytes "/c") (pos 64)) gives done 0) ∷
          (call (Calls.link_file (bytes "/b/c") (bytes "/a/c/a") (pos 49)) gives refusal 9) ∷
          (call (Calls.write_file (bytes "/c/b/c") (255 ∷ 99 ∷ 32 ∷ []) (pos 5)) gives done 0) ∷
          (call (Calls.rename (bytes "/b/a/c/b") (bytes "/b/b") (pos 48)) gives refusal 9) ∷
          (call (Calls.remove_file (bytes "/a/c/c")) gives refusal 9) ∷
          (call (Calls.metadata_number 3 1) gives refusal 4) ∷
          (call (Calls.set_permissions (bytes "/b/a/b/.") 0) gives refusal 9) ∷
          (call (Calls.create_dir (bytes "c/a") (pos 6)) gives refusal 9) ∷
          (call (Calls.hard_link (bytes "/a/c/") (bytes "/b/a") (pos 85)) gives done 1) ∷
          (call (Calls.remove_tree (bytes "c/b/b/a")) gives refusal 8) ∷
          (call (Calls.remove_file (bytes "/b/a/.")) gives done 1) ∷
          (call (Calls.write_file (bytes "/b/a") (bytes "x") (pos 2)) gives done 1) ∷
          (call (Calls.write_file (bytes "b/b/../b") (bytes "c b") (pos 32)) gives refusal 10) ∷
          (call (Calls.remove_tree (bytes "/b")) gives refusal 10) ∷
          (call (Calls.seek_number 0 0 8) gives num 8 0) ∷
          (call (Calls.metadata_number 0 1) gives rows 0 [] (row aFile 1 0o666 (pos 2) (pos 2) (pos 2) (pos 2) ∷ []) 0) ∷
          (call (Calls.rename (bytes "/") (bytes "a/b") (pos 14)) gives refusal 5) ∷
          (call (Calls.set_mode_number 0 65536) gives done 0) ∷
          (call (Calls.copy_file (bytes "/c/b/.") (bytes "/b/a/b") (pos 45)) gives refusal 10) ∷
          (call (Calls.metadata_number 0 1) gives rows 0 [] (row aFile 1 0o666 (pos 2) (pos 2) (pos 2) (pos 2) ∷ []) 0) ∷
          (call (Calls.open_file 1 (bytes "/c/a") 5 384 (negsuc 9223372036854775807)) gives done 0) ∷
          (call (Calls.remove_tree (bytes "/a/a/b")) gives refusal 8) ∷
          (call (Calls.set_length 1 3) gives done 0) ∷
          (call (Calls.metadata_number 0 1) gives rows 0 [] (row aFile 3 0o666 (pos 2) (pos 2) (pos 2) (negsuc 9223372036854775807) ∷ []) 0) ∷
          (call (Calls.write_file (bytes "b") (255 ∷ 255 ∷ []) (pos 17)) gives refusal 10) ∷
          (call (Calls.open_file 2 (bytes "/a/../c/b/b") 5 2541 (pos 88)) gives done 0) ∷
          (call (Calls.set_times (bytes "/b/c/../") (pos 39) (pos 75)) gives refusal 8) ∷
          (call (Calls.set_times_number 2 0 (pos 65) (pos 39)) gives done 0) ∷
          (call (Calls.hard_link (bytes "/c/b/c") (bytes "/c/b/c/c") (pos 35)) gives refusal 9) ∷
          (call (Calls.set_times_number 2 1 (pos 53) (pos 85)) gives done 0) ∷
          (call (Calls.read_file (bytes "/a/c") 2000) gives txt (10 ∷ 0 ∷ 120 ∷ 97 ∷ 255 ∷ 121 ∷ 10 ∷ 122 ∷ []) 0) ∷
          (call (Calls.open_file 3 (bytes "a/c") 0 511 (pos 54)) gives done 0) ∷
          (call (Calls.remove_tree (bytes "b")) gives refusal 10) ∷
          (call (Calls.write_file (bytes "/c/b") (98 ∷ 255 ∷ 97 ∷ []) (pos 11)) gives refusal 10) ∷
          (call (Calls.set_mode_number 1 65536) gives done 0) ∷
          (call (Calls.create_dir [] (negsuc 2)) gives done 0) ∷
          (call (Calls.set_permissions (bytes "/b/a/.") 384) gives done 1) ∷
          (call (Calls.hard_link (bytes "a/c/a/../") (bytes "/b/a") (pos 82)) gives done 1) ∷
          (call (Calls.remove_file (bytes "a/c")) gives done 0) ∷
          (call (Calls.set_mode_number 2 384) gives done 0) ∷
          (call (Calls.create_dir (bytes "/c/b/..") (pos 66)) gives done 0) ∷
          (call (Calls.metadata_number 2 1) gives rows 0 [] (row aFile 0 0o600 (pos 53) (pos 88) (pos 88) (pos 88) ∷ []) 0) ∷
          [];
    }

files4459_so : AnswersSo files4459
unfolding answered calls_of answers_of
files4459_so = refl

abbrev dirty4564 : Job
dirty4564 =
    record {
      most = 512;
      room = 32768;
      lines =
          (call (Calls.create_dir (bytes "/b/a") (pos 0)) gives done 0) ∷
          (call (Calls.open_file 0 (bytes "/b/a/a") 1 2541 (pos 30)) gives done 0) ∷
          (call (Calls.write_file (bytes "/a") (97 ∷ 255 ∷ 98 ∷ 0 ∷ 99 ∷ []) (pos 13)) gives done 0) ∷
          (call (Calls.create_dir (47 ∷ 98 ∷ 226 ∷ 130 ∷ []) (pos 17)) gives refusal 2) ∷
          (call (Calls.write_file (bytes "/b") (bytes "cbbcy") (pos 20)) gives refusal 10) ∷
          (call (Calls.write_file (bytes "/../a") (bytes "yy") (pos 75)) gives done 0) ∷
          (call (Calls.create_dir (bytes "/b/a/a") (pos 84)) gives refusal 9) ∷
          (call (Calls.link_file (bytes "../a") (bytes "/a") (pos 9223372036854775807)) gives done 0) ∷
          (call (Calls.write_file (bytes "/b/a") (10 ∷ []) (pos 21)) gives refusal 10) ∷
          (call (Calls.write_file (bytes "/a") (121 ∷ 10 ∷ []) (pos 55)) gives refusal 7) ∷
          (call (Calls.write_file (bytes "/b/b/a") (bytes "za") (pos 79)) gives refusal 8) ∷
          (call (Calls.open_file 1 (bytes "/b/b") 1 1 (pos 1)) gives done 0) ∷
          (call (Calls.write_file (47 ∷ 98 ∷ 47 ∷ 237 ∷ 160 ∷ 128 ∷ 97 ∷ []) (32 ∷ 99 ∷ 99 ∷ 255 ∷ 32 ∷ 97 ∷ 98 ∷ 98 ∷ []) (pos 15)) gives refusal 2) ∷
          (call (Calls.rename (192 ∷ 128 ∷ 98 ∷ []) (bytes "/a/b") (pos 31)) gives refusal 2) ∷
          (call (Calls.metadata_number 0 0) gives refusal 14) ∷
          (call (Calls.metadata (bytes "/b/b") 1) gives rows 0 [] (row aFile 0 0o666 (pos 1) (pos 1) (pos 1) (pos 1) ∷ []) 0) ∷
          (call (Calls.write_file (bytes "/b/../b") (bytes "axb") (pos 4)) gives refusal 10) ∷
          (call (Calls.canonicalize (bytes "/b") 2000) gives txt (bytes "/b") 0) ∷
          (call (Calls.link_file [] (bytes "/a") (pos 78)) gives done 0) ∷
          (call (Calls.link_file (bytes "b") (bytes "/b/a") (pos 83)) gives refusal 12) ∷
          (call (Calls.write_file (bytes "/a//nnnnnnnnnnnnnnnnnnnnnnnnnnnnnnnnnnnnnnnnnnnnnnnnnnnnnnnnnnnnnnnnnnnnnnnnnnnnnnnnnnnnnnnnnnnnnnnnnnnnnnnnnnnnnnnnnnnnnnnnnnnnnnnnnnnnnnnnnnnnnnnnnnnnnnnnnnnnnnnnnnnnnnnnnnnnnnnnnnnnnnnnnnnnnnnnnnnnnnnnnnnnnnnnnnnnnnnnnnnnnnnnnnnnnnnnnnnnnnnnnnnnnnnnnnnnnnn") (0 ∷ 121 ∷ []) (pos 77)) gives done 1) ∷
          (call (Calls.copy_file (bytes "/nnnnnnnnnnnnnnnnnnnnnnnnnnnnnnnnnnnnnnnnnnnnnnnnnnnnnnnnnnnnnnnnnnnnnnnnnnnnnnnnnnnnnnnnnnnnnnnnnnnnnnnnnnnnnnnnnnnnnnnnnnnnnnnnnnnnnnnnnnnnnnnnnnnnnnnnnnnnnnnnnnnnnnnnnnnnnnnnnnnnnnnnnnnnnnnnnnnnnnnnnnnnnnnnnnnnnnnnnnnnnnnnnnnnnnnnnnnnnnnnnnnnnnnnnnnnnnn") (bytes "../b/b") (negsuc 6)) gives num 2 0) ∷
          (call (Calls.hard_link (bytes "/b/b") [] (pos 52)) gives refusal 5) ∷
          (call (Calls.open_file 2 (bytes "../b/b/a") 0 2541 (pos 52)) gives refusal 9) ∷
          (call (Calls.remove_dir (bytes "a/b")) gives refusal 12) ∷
          (call (Calls.metadata_number 0 1) gives rows 0 [] (row aFile 0 0o666 (pos 30) (pos 30) (pos 30) (pos 30) ∷ []) 0) ∷
          (call (Calls.open_file 2 (bytes "/a/..") 10 65536 (pos 68)) gives refusal 5) ∷
          (call (Calls.link_file (bytes "a") (bytes "/a/a/a/../a/a") (pos 31)) gives done 3) ∷
          (call (Calls.hard_link (bytes "/b/../nnnnnnnnnnnnnnnnnnnnnnnnnnnnnnnnnnnnnnnnnnnnnnnnnnnnnnnnnnnnnnnnnnnnnnnnnnnnnnnnnnnnnnnnnnnnnnnnnnnnnnnnnnnnnnnnnnnnnnnnnnnnnnnnnnnnnnnnnnnnnnnnnnnnnnnnnnnnnnnnnnnnnnnnnnnnnnnnnnnnnnnnnnnnnnnnnnnnnnnnnnnnnnnnnnnnnnnnnnnnnnnnnnnnnnnnnnnnnnnnnnnnnnnnnnnnnnn/") (bytes "b/../nnnnnnnnnnnnnnnnnnnnnnnnnnnnnnnnnnnnnnnnnnnnnnnnnnnnnnnnnnnnnnnnnnnnnnnnnnnnnnnnnnnnnnnnnnnnnnnnnnnnnnnnnnnnnnnnnnnnnnnnnnnnnnnnnnnnnnnnnnnnnnnnnnnnnnnnnnnnnnnnnnnnnnnnnnnnnnnnnnnnnnnnnnnnnnnnnnnnnnnnnnnnnnnnnnnnnnnnnnnnnnnnnnnnnnnnnnnnnnnnnnnnnnnnnnnnnnn") (pos 79)) gives done 0) ∷
          (call (Calls.copy_file (bytes "b/b") (bytes "/b/../nnnnnnnnnnnnnnnnnnnnnnnnnnnnnnnnnnnnnnnnnnnnnnnnnnnnnnnnnnnnnnnnnnnnnnnnnnnnnnnnnnnnnnnnnnnnnnnnnnnnnnnnnnnnnnnnnnnnnnnnnnnnnnnnnnnnnnnnnnnnnnnnnnnnnnnnnnnnnnnnnnnnnnnnnnnnnnnnnnnnnnnnnnnnnnnnnnnnnnnnnnnnnnnnnnnnnnnnnnnnnnnnnnnnnnnnnnnnnnnnnnnnnnnnnnnnnnn") (pos 25)) gives num 2 0) ∷
          (call (Calls.rename (47 ∷ 98 ∷ 47 ∷ 97 ∷ 47 ∷ 98 ∷ 47 ∷ 98 ∷ 47 ∷ 97 ∷ 47 ∷ 46 ∷ 46 ∷ 128 ∷ []) (bytes "/b/a/b/b") (pos 69)) gives refusal 2) ∷
          (call (Calls.set_umask 420) gives num 438 0) ∷
          (call (Calls.read_link (bytes "/a") 3) gives txt (bytes "a") 0) ∷
          (call (Calls.symlink_metadata (bytes "/a") 1) gives rows 0 [] (row a_link 0 0o777 (pos 31) (pos 31) (pos 31) (pos 31) ∷ []) 0) ∷
          (call (Calls.set_permissions (bytes "/b/a/nnnnnnnnnnnnnnnnnnnnnnnnnnnnnnnnnnnnnnnnnnnnnnnnnnnnnnnnnnnnnnnnnnnnnnnnnnnnnnnnnnnnnnnnnnnnnnnnnnnnnnnnnnnnnnnnnnnnnnnnnnnnnnnnnnnnnnnnnnnnnnnnnnnnnnnnnnnnnnnnnnnnnnnnnnnnnnnnnnnnnnnnnnnnnnnnnnnnnnnnnnnnnnnnnnnnnnnnnnnnnnnnnnnnnnnnnnnnnnnnnnnnnnnnnnnnnnnn") 511) gives refusal 3) ∷
          (call (Calls.remove_file (192 ∷ 128 ∷ 98 ∷ 47 ∷ 98 ∷ [])) gives refusal 2) ∷
          (call (Calls.canonicalize (bytes ".") 2000) gives txt (bytes "/") 0) ∷
          (call (Calls.link_file (bytes "b/b") (bytes "/a") (pos 89)) gives done 0) ∷
          (call (Calls.close_number 0) gives done 0) ∷
          (call (Calls.read_link (bytes "/../a/a") 2000) gives refusal 9) ∷
          [];
    }

dirty4564_so : AnswersSo dirty4564
unfolding answered calls_of answers_of
dirty4564_so = refl

abbrev tight4687 : Job
tight4687 =
    record {
      most = 8;
      room = 14;
      lines =
          (call (Calls.create_dir (bytes "/c/b") (pos 0)) gives done 0) ∷
          (call (Calls.write_file (bytes "/b/../c/c") (122 ∷ 97 ∷ 10 ∷ 98 ∷ 99 ∷ []) (pos 62)) gives done 0) ∷
          (call (Calls.create_dir (bytes "/c/b/a/a") (pos 44)) gives done 0) ∷
          (call (Calls.open_file 0 (bytes "/c/b/c") 1 511 (pos 36)) gives done 0) ∷
          (call (Calls.write_file (bytes "/a") (97 ∷ 255 ∷ []) (pos 79)) gives done 0) ∷
          (call (Calls.link_file (bytes "a/a") (bytes "/b/") (pos 42)) gives refusal 15) ∷
          (call (Calls.write_file (bytes "/c/b/a/a/a") (122 ∷ 97 ∷ 99 ∷ 0 ∷ 99 ∷ 10 ∷ 122 ∷ 120 ∷ []) (pos 45)) gives refusal 15) ∷
          (call (Calls.write_file (bytes "/c/b/c/a/../c") (bytes " ") (pos 50)) gives refusal 9) ∷
          (call (Calls.link_file (bytes "../b") (bytes "/b/../c/b/c") (pos 65)) gives refusal 16) ∷
          (call (Calls.canonicalize (bytes "/c/b/a") 2000) gives txt (bytes "/c/b/a") 0) ∷
          (call (Calls.write_file (bytes "/c/b/a") (10 ∷ []) (pos 11)) gives refusal 10) ∷
          (call (Calls.open_file 1 (bytes "/c/b/a/a/b") 1 384 (pos 82)) gives refusal 15) ∷
          (call (Calls.create_dir (bytes "/c/b/a/./a") (pos 63)) gives done 0) ∷
          (call (Calls.close_number 0) gives done 0) ∷
          (call (Calls.open_file 0 (bytes "/c") 9 4294967295 (negsuc 0)) gives refusal 10) ∷
          (call (Calls.metadata (bytes "/c/b/") 1) gives rows 0 [] (row a_dir 0 0o755 (pos 0) (pos 0) (pos 0) (pos 0) ∷ []) 0) ∷
          (call (Calls.create_dir (bytes "/") (pos 46)) gives done 0) ∷
          (call (Calls.link_file (bytes "/c/b") (bytes "/c/b") (pos 22)) gives refusal 12) ∷
          (call (Calls.open_file 0 (bytes "c/b/a/b") 9 511 (pos 47)) gives refusal 15) ∷
          (call (Calls.open_file 0 (bytes "/c/b/c") 5 384 (pos 14)) gives done 0) ∷
          (call (Calls.metadata (bytes "a/c/b/../b/b") 1) gives refusal 9) ∷
          (call (Calls.metadata (bytes "c/c/a") 1) gives refusal 9) ∷
          (call (Calls.open_file 1 [] 10 384 (pos 45)) gives refusal 5) ∷
          (call (Calls.rename (bytes "/a/b") (bytes "/a") (pos 89)) gives refusal 9) ∷
          (call (Calls.rename (bytes "/c/b/a/..") (bytes "/b/a") (pos 50)) gives refusal 15) ∷
          (call (Calls.metadata_number 0 1) gives rows 0 [] (row aFile 0 0o666 (pos 36) (pos 36) (pos 36) (pos 14) ∷ []) 0) ∷
          (call (Calls.write_file (bytes "/c/b//a/a") (bytes "yzc") (pos 77)) gives refusal 10) ∷
          (call (Calls.rename (bytes "c/c/a") (bytes "/c/b/a/.") (pos 30)) gives refusal 9) ∷
          (call (Calls.set_times (bytes "/c/b/a") (pos 82) (pos 50)) gives done 0) ∷
          (call (Calls.set_times (bytes "/") (pos 4) (negsuc 1000000000)) gives done 0) ∷
          (call (Calls.rename [] (bytes "/c/b/a/a/c/c") (pos 1000000000)) gives refusal 5) ∷
          (call (Calls.set_permissions (bytes "/c/b/a/../c") 65536) gives done 0) ∷
          (call (Calls.remove_tree (bytes "/c/b/a")) gives done 0) ∷
          (call (Calls.set_length 0 1) gives done 0) ∷
          (call (Calls.canonicalize (bytes "/a/") 2000) gives txt (bytes "/a") 0) ∷
          (call (Calls.write_file (bytes "/c/c") (32 ∷ 121 ∷ 97 ∷ 0 ∷ 98 ∷ 98 ∷ 97 ∷ 255 ∷ []) (pos 1000000000)) gives refusal 16) ∷
          (call (Calls.set_times (bytes "/c/b/c/c") (pos 49) (pos 44)) gives refusal 9) ∷
          (call (Calls.link_file (bytes "a") (bytes "/a") (pos 79)) gives done 0) ∷
          (call (Calls.open_file 1 (bytes "/c/b/a") 26 420 (pos 13)) gives refusal 8) ∷
          (call (Calls.read_number 0 1) gives txt (0 ∷ []) 0) ∷
          [];
    }

tight4687_so : AnswersSo tight4687
unfolding answered calls_of answers_of
tight4687_so = refl

-- every job answers as recorded
pub recorded : AnswersSo plain4173 × AnswersSo links42179 × AnswersSo links42270 × AnswersSo rename43161 × AnswersSo rename43114 × AnswersSo files44149 × AnswersSo files4459 × AnswersSo dirty4564 × AnswersSo tight4687
recorded = (plain4173_so, links42179_so, links42270_so, rename43161_so, rename43114_so, files44149_so, files4459_so, dirty4564_so, tight4687_so)
