-- The numbers that this crate hands to a C or a Rust program, and what stands in its buffer.
-- Assumes nothing.
use Rattle.std.specs.Prelude.{Bool, ◌&&◌, cond, List, ◌++◌, ◌≡◌, ℕ, ◌+◌, leb, length, take, drop, Option, Some, None, Ok, Err}
use Rattle.text.specs.Utf8.{Bytes}
use Rattle.path.specs.Path.{Name, names, normal, absolute, body, last_name}
use Rattle.path.specs.Answer.{Formed, formed, written, PlaceIs}
use Rattle.path.specs.declared.answer.Place.{Place}
use Rattle.path.specs.declared.answer.Place.TheVariants.{InPath, InCwd}

-- a length, or a million and the refusal's number
abbrev pub number_of : Formed → ℕ
number_of (Ok n) = n
number_of (Err e) = 1000006

-- the answer to a program that wants the text t in its buffer: 14, where the buffer is shorter than 1,024 bytes
unfoldable pub answer_of : Bytes → Bytes → ℕ
answer_of t before = cond (leb 1024 (length before)) (number_of (formed t)) 1000014

-- and the buffer: t stands in front, or nothing is changed
unfoldable pub buffer_of : Bytes → Bytes → Bytes
buffer_of t before = cond (leb 1024 (length before)) (written t before) before

-- both, of a program that wants the text t
pub record Answers (t before after : Bytes) (r : ℕ) : Type 0 where
  pub answer : r ≡ answer_of t before
  pub buffer : after ≡ buffer_of t before

-- where a name stands, as three numbers: 1, in the path; 2, in the current directory; 0, nowhere
abbrev pub which_of : Option Place → ℕ
which_of (Some (InPath a e)) = 1
which_of (Some (InCwd a e)) = 2
which_of None = 0

-- where the name begins; 0 where there is none
abbrev pub from_of : Option Place → ℕ
from_of (Some (InPath a e)) = a
from_of (Some (InCwd a e)) = a
from_of None = 0

-- where the name ends; 0 where there is none
abbrev pub to_of : Option Place → ℕ
to_of (Some (InPath a e)) = e
to_of (Some (InCwd a e)) = e
to_of None = 0

-- the three numbers tell where the last name of the path once absolute stands
pub record LastAt (path cwd : Bytes) (which from to : ℕ) : Type 0 where
  pub place : Option Place
  pub right : PlaceIs place path cwd
  pub which_told : which ≡ which_of place
  pub from_told : from ≡ from_of place
  pub to_told : to ≡ to_of place

-- the length of the last name, or 14 where it does not fit
unfoldable pub name_answer : Name → Bytes → ℕ
name_answer n before = cond (leb (length n) (length before)) (length n) 1000014

-- and the buffer: the name stands in front if it fits, else nothing is changed
unfoldable pub name_buffer : Name → Bytes → Bytes
name_buffer n before = cond (leb (length n) (length before)) (n ++ drop (length n) before) before

-- both, of a program that wants the last name of the path once absolute
pub record NameAnswers (path cwd before after : Bytes) (r : ℕ) : Type 0 where
  pub answer : r ≡ name_answer (last_name (absolute (normal cwd) path)) before
  pub buffer : after ≡ name_buffer (last_name (absolute (normal cwd) path)) before

-- A link is followed: dir has the names of its directory, `behind` is what stands behind that, of which the first `name`
-- bytes are the link's name.

-- the buffer before the link is followed
unfoldable pub staged : List Name → Bytes → Bytes → Bytes
staged dir behind before = body dir ++ (behind ++ drop (length (body dir) + length behind) before)

-- the path behind the link
unfoldable pub followed_text : List Name → Bytes → ℕ → Bytes → Bytes
followed_text dir behind name target = body (absolute dir target) ++ drop name behind

-- the directory and what stands behind it have at most 1,024 bytes
unfoldable pub fits : List Name → Bytes → Bool
fits dir behind = leb (length (body dir) + length behind) 1024

-- the answer where the directory is in the buffer: the length of the path behind the link or refusal 6; 2, where not all fits
unfoldable pub behind_answer : List Name → Bytes → ℕ → Bytes → ℕ
behind_answer dir behind name target = cond (fits dir behind) (number_of (formed (followed_text dir behind name target))) 1000002

-- and the buffer: the path behind the link stands in front of what was staged, or, where not all fits, nothing is changed
unfoldable pub behind_buffer : List Name → Bytes → ℕ → Bytes → Bytes → Bytes
behind_buffer dir behind name target before =
    cond (fits dir behind) (written (followed_text dir behind name target) (staged dir behind before)) before

-- both, where the directory is in the buffer
pub record BehindAnswers (dir : List Name) (behind : Bytes) (name : ℕ) (target before after : Bytes) (r : ℕ) : Type 0 where
  pub answer : r ≡ behind_answer dir behind name target
  pub buffer : after ≡ behind_buffer dir behind name target before

-- the same behind the path in front of the buffer
abbrev pub Behind : ℕ → Bytes → ℕ → Bytes → Bytes → Bytes → ℕ → Type 0
Behind have behind name target before after r = BehindAnswers (names (take have before)) behind name target before after r

-- the buffer takes the directory
unfoldable pub room : List Name → Bytes → Bool
room dir before = leb 1024 (length before) && leb (length (body dir)) 1024

-- the answer where the directory is given: 1, where the name is longer than what stands behind; 14 or 6, where it has no room
unfoldable pub follow_answer : List Name → Bytes → ℕ → Bytes → Bytes → ℕ
follow_answer dir behind name target before =
    cond (leb name (length behind)) (cond (room dir before) (behind_answer dir behind name target) (answer_of (body dir) before)) 1000001

-- and the buffer: changed only where the directory finds room
unfoldable pub follow_buffer : List Name → Bytes → ℕ → Bytes → Bytes → Bytes
follow_buffer dir behind name target before =
    cond (leb name (length behind)) (cond (room dir before) (behind_buffer dir behind name target (written (body dir) before)) before) before

-- both, where the directory is given
pub record FollowAnswers (dir : List Name) (behind : Bytes) (name : ℕ) (target before after : Bytes) (r : ℕ) : Type 0 where
  pub answer : r ≡ follow_answer dir behind name target before
  pub buffer : after ≡ follow_buffer dir behind name target before
