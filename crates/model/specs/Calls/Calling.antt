-- The calls of a job, made from the numbers and bytes that C passes, and what is tested before a call does anything.
-- Assumes nothing.
use Rattle.std.specs.Prelude.{Bool, true, false, ◌&&◌, not, List, [], ◌∷◌, ℕ, leb}
use Rattle.text.specs.Utf8.{Bytes, text}
use Rattle.path.specs.Path.{lengths_ok}
use Rattle.model.specs.Refusals.{bad_text, text_too_long, bad_number, short_buffer}
use Rattle.model.specs.Tree.{Time, Open, open_of}
use Rattle.model.specs.Operations.Steps.{is_some}

-- Each call under Operations. Paths, targets and contents are bytes; lent is the length of lent bytes, rows of a lent row of records.
-- Open's flags: 1 create, 2 create-new, 4 truncate, 8 append, 16 mode given; set times by number: 1 accessed, 2 modified given. Other
-- bits mean nothing.
pub data Op : Type 0 where
  canonicalize : (path : Bytes) (lent : ℕ) → Op
  set_current_dir : (path : Bytes) → Op
  set_umask : (mask : ℕ) → Op
  create_dir : (path : Bytes) (time : Time) → Op
  open_file : (number : ℕ) (path : Bytes) (flags mode : ℕ) (time : Time) → Op
  read_file : (path : Bytes) (lent : ℕ) → Op
  write_file : (path contents : Bytes) (time : Time) → Op
  copy_file : (old new : Bytes) (time : Time) → Op
  hard_link : (old new : Bytes) (time : Time) → Op
  link_file : (target path : Bytes) (time : Time) → Op
  remove_file : (path : Bytes) → Op
  remove_dir : (path : Bytes) → Op
  remove_tree : (path : Bytes) → Op
  rename : (old new : Bytes) (time : Time) → Op
  metadata : (path : Bytes) (rows : ℕ) → Op
  symlink_metadata : (path : Bytes) (rows : ℕ) → Op
  read_link : (path : Bytes) (lent : ℕ) → Op
  set_permissions : (path : Bytes) (mode : ℕ) → Op
  set_times : (path : Bytes) (first second : Time) → Op
  list : (path : Bytes) (lent rows : ℕ) → Op
  close_number : (number : ℕ) → Op
  read_number : (number lent : ℕ) → Op
  seek_number : (number origin offset : ℕ) → Op
  set_length : (number size : ℕ) → Op
  set_mode_number : (number mode : ℕ) → Op
  set_times_number : (number flags : ℕ) (accessed modified : Time) → Op
  metadata_number : (number rows : ℕ) → Op

-- the lengths of "two lent working buffers"; a call that walks no path is lent none, and nothing is asked of them
pub record Work : Type 0 where
  pub first : ℕ
  pub second : ℕ

-- a call: what it is lent to work in, and what it is to do
pub record Call : Type 0 where
  pub work : Work
  pub op : Op

-- ---- what is tested first: 14 of the working buffers, 2, 3, 4

-- a file number that is given: it must be free, or open
pub data Number : Type 0 where
  no_number : Number
  free : ℕ → Number
  opened : ℕ → Number

-- whether a path is walked, the texts in their order, the number
pub record Given : Type 0 where
  pub walks : Bool
  pub texts : List Bytes
  pub number : Number

-- a call with texts
abbrev pub with_texts : List Bytes → Given
with_texts ts = record { walks = true; texts = ts; number = no_number }

-- a call by file number
abbrev pub by_number : (number : ℕ) → Given
by_number n = record { walks = false; texts = []; number = opened n }

-- what each call is given
unfoldable pub given_to : Op → Given
given_to (canonicalize s k) = with_texts (s ∷ [])
given_to (set_current_dir s) = with_texts (s ∷ [])
given_to (set_umask m) = record { walks = false; texts = []; number = no_number }
given_to (create_dir s t) = with_texts (s ∷ [])
given_to (open_file n s f m t) = record { walks = true; texts = s ∷ []; number = free n }
given_to (read_file s k) = with_texts (s ∷ [])
given_to (write_file s d t) = with_texts (s ∷ [])
given_to (copy_file s d t) = with_texts (s ∷ d ∷ [])
given_to (hard_link s d t) = with_texts (s ∷ d ∷ [])
given_to (link_file g s t) = with_texts (g ∷ s ∷ [])
given_to (remove_file s) = with_texts (s ∷ [])
given_to (remove_dir s) = with_texts (s ∷ [])
given_to (remove_tree s) = with_texts (s ∷ [])
given_to (rename s d t) = with_texts (s ∷ d ∷ [])
given_to (metadata s r) = with_texts (s ∷ [])
given_to (symlink_metadata s r) = with_texts (s ∷ [])
given_to (read_link s k) = with_texts (s ∷ [])
given_to (set_permissions s m) = with_texts (s ∷ [])
given_to (set_times s a m) = with_texts (s ∷ [])
given_to (list s k r) = with_texts (s ∷ [])
given_to (close_number n) = by_number n
given_to (read_number n k) = by_number n
given_to (seek_number n o k) = by_number n
given_to (set_length n k) = by_number n
given_to (set_mode_number n m) = by_number n
given_to (set_times_number n f a m) = by_number n
given_to (metadata_number n r) = record { walks = true; texts = []; number = opened n }

-- every one of a list
unfoldable pub all : {A : Type 0} → (A → Bool) → List A → Bool
all f [] = true
all f (a ∷ l) = f a && all f l

-- "two lent working buffers of 1,024 bytes or more"
abbrev pub work_fits : (walks : Bool) → Work → Bool
work_fits true w = leb 1024 w.first && leb 1024 w.second
work_fits false w = true

-- 4: "File number above 31, in use at open, or not open elsewhere"
unfoldable pub number_fits : Number → List Open → Bool
number_fits no_number os = true
number_fits (free n) os = leb n 31 && not (is_some (open_of os n))
number_fits (opened n) os = leb n 31 && is_some (open_of os n)

-- a test passed, or the number of its refusal
abbrev pub first_of : Bool → (refusal rest : ℕ) → ℕ
first_of true n rest = rest
first_of false n rest = n

-- the first of 14, 2, 3 and 4 that applies, or 0
unfoldable pub screen : Work → Given → List Open → ℕ
screen w g os =
    first_of (work_fits g.walks w) short_buffer
    (first_of (all text g.texts) bad_text
    (first_of (all lengths_ok g.texts) text_too_long
    (first_of (number_fits g.number os) bad_number 0)))
