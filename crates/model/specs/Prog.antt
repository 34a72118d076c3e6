-- A call as a program: it asks about the tree and edits it. Questions never show a file's number.
-- Assumes nothing.
use Rattle.std.specs.Prelude.{Bool, true, false, not, List, [], ◌∷◌, ◌++◌, ℕ, eqb, length}
use Rattle.std.proofs.Math.Option.{Option, none, some}
use Rattle.text.specs.Utf8.{Bytes}
use Rattle.path.specs.Path.{Name}
use Rattle.model.specs.Tree.{Path, Meta, File, Node, dir, file, link, Entries, Files, Open, keep_if, look, file_of, open_of, put, cut, under, graft, Change, change_meta, set_file, new_id, in_order}

-- what a call works on: the state without its limits, and in rename's hand the entry that is out of the tree
pub record World : Type 0 where
  pub at : Entries
  pub hand : Entries
  pub files : Files
  pub opens : List Open
  pub here : Path
  pub mask : ℕ

-- directory, file or link
pub data Kind : Type 0 where
  a_dir aFile a_link : Kind

-- the number of a kind in a record (02, Two: "kind (0 directory, 1 file, 2 link)")
abbrev pub kind_number : Kind → ℕ
kind_number a_dir = 0
kind_number aFile = 1
kind_number a_link = 2

-- what metadata shows: kind, length, mode and times
pub record Stat : Type 0 where
  pub kind : Kind
  pub size : ℕ
  pub meta : Meta

-- an open number, without its file
pub record Position : Type 0 where
  pub pos : ℕ
  pub kept : Path

-- ---- questions

-- what a call may ask: kind, metadata, bytes or target at a path; the names of a directory, or whether it has none; position and
-- bytes of a number; current directory; umask
pub data Ask : Type 0 where
  kind? : Path → Ask
  stat? : Path → Ask
  bytes? : Path → Ask
  target? : Path → Ask
  list? : Path → Ask
  bare? : Path → Ask
  open? : ℕ → Ask
  held? : ℕ → Ask
  here? : Ask
  mask? : Ask

-- what it is told; of what is not there, nothing
abbrev pub Answer : Ask → Type 0
Answer (kind? p) = Option Kind
Answer (stat? p) = Option Stat
Answer (bytes? p) = Option Bytes
Answer (target? p) = Option Bytes
Answer (list? p) = List (Name × Stat)
Answer (bare? p) = Bool
Answer (open? n) = Option Position
Answer (held? n) = Option Bytes
Answer here? = Path
Answer mask? = ℕ

-- of what is there
abbrev pub on_some : {A B : Type 0} → Option A → (A → Option B) → Option B
on_some none f = none
on_some (some a) f = f a

-- the kind of a node
unfoldable pub node_kind : Node → Kind
node_kind (dir m) = a_dir
node_kind (file i) = aFile
node_kind (link m s) = a_link

-- a link's length is 0, a directory's too
unfoldable pub stat_of : World → Node → Option Stat
stat_of w (dir m) = some (record { kind = a_dir; size = 0; meta = m })
stat_of w (file i) = on_some (file_of w.files i) (λ f. some (record { kind = aFile; size = length f.bytes; meta = f.meta }))
stat_of w (link m s) = some (record { kind = a_link; size = 0; meta = m })

-- a file's bytes
unfoldable pub bytes_of : World → Node → Option Bytes
bytes_of w (dir m) = none
bytes_of w (file i) = on_some (file_of w.files i) (λ f. some f.bytes)
bytes_of w (link m s) = none

-- "links have a target"
unfoldable pub target_of : Node → Option Bytes
target_of (dir m) = none
target_of (file i) = none
target_of (link m s) = some s

-- an entry right below, with its metadata
abbrev pub child : Path → Option Stat → List (Name × Stat) → List (Name × Stat)
child (x ∷ []) (some s) l = (x, s) ∷ l
child (x ∷ []) none l = l
child [] o l = l
child (x ∷ y ∷ p) o l = l

-- of entries by the paths behind a directory, those right below it
unfoldable pub children : World → Entries → List (Name × Stat)
children w [] = []
children w (e ∷ t) = child e.0 (stat_of w e.1) (children w t)

-- nothing in it
abbrev pub is_nil : {A : Type 0} → List A → Bool
is_nil [] = true
is_nil (a ∷ l) = false

-- "names in order, with metadata"
unfoldable pub listing : World → Path → List (Name × Stat)
listing w p = in_order (children w (under p w.at))

-- the answer that a world gives
unfoldable pub answer : (q : Ask) → World → Answer q
answer (kind? p) w = on_some (look w.at p) (λ n. some (node_kind n))
answer (stat? p) w = on_some (look w.at p) (stat_of w)
answer (bytes? p) w = on_some (look w.at p) (bytes_of w)
answer (target? p) w = on_some (look w.at p) target_of
answer (list? p) w = listing w p
answer (bare? p) w = is_nil (listing w p)
answer (open? n) w = on_some (open_of w.opens n) (λ o. some (record { pos = o.pos; kept = o.kept }))
answer (held? n) w = on_some (open_of w.opens n) (λ o. on_some (file_of w.files o.id) (λ f. some f.bytes))
answer here? w = w.here
answer mask? w = w.mask

-- ---- edits

-- what a call may do: make a directory, a file, a link; change an entry; remove one with all below it; take one in hand and put
-- it down; open and close a number, set its position, change its file; set the current directory; set the umask
pub data Edit : Type 0 where
  make : Path → Meta → Edit
  create : Path → File → Edit
  symlink : Path → Meta → Bytes → Edit
  change : Path → Change → Edit
  remove : Path → Edit
  take : Path → Edit
  give : Path → Edit
  opens : ℕ → Path → ℕ → Edit
  close : ℕ → Edit
  seek : ℕ → ℕ → Edit
  change_held : ℕ → Change → Edit
  go : Path → Edit
  umask : ℕ → Edit

-- another tree
abbrev pub with_tree : World → Entries → World
with_tree w t = record { at = t; hand = w.hand; files = w.files; opens = w.opens; here = w.here; mask = w.mask }

-- other files
abbrev pub with_files : World → Files → World
with_files w fs = record { at = w.at; hand = w.hand; files = fs; opens = w.opens; here = w.here; mask = w.mask }

-- other open numbers
abbrev pub with_opens : World → List Open → World
with_opens w os = record { at = w.at; hand = w.hand; files = w.files; opens = os; here = w.here; mask = w.mask }

-- the entry's own metadata is changed; of a file, the file's
abbrev pub change_at : World → Path → Change → Option Node → World
change_at w p c none = w
change_at w p c (some (dir m)) = with_tree w (put p (dir (change_meta c m)) w.at)
change_at w p c (some (file i)) = with_files w (set_file i c w.files)
change_at w p c (some (link m s)) = with_tree w (put p (link (change_meta c m) s) w.at)

-- the number is open no more
unfoldable pub close_num : ℕ → List Open → List Open
close_num n [] = []
close_num n (o ∷ os) = keep_if (not (eqb o.num n)) o (close_num n os)

-- the number stands on the file at the path from now on
abbrev pub opened_at : World → ℕ → Path → ℕ → Option Node → World
opened_at w n p k none = w
opened_at w n p k (some (dir m)) = w
opened_at w n p k (some (file i)) = with_opens w ((record { num = n; id = i; pos = k; kept = p }) ∷ close_num n w.opens)
opened_at w n p k (some (link m s)) = w

-- a number at another position
abbrev pub move_by : Bool → ℕ → Open → Open
move_by true k o = record { num = o.num; id = o.id; pos = k; kept = o.kept }
move_by false k o = o

-- that number at another position
unfoldable pub seek_num : ℕ → ℕ → List Open → List Open
seek_num n k [] = []
seek_num n k (o ∷ os) = move_by (eqb o.num n) k o ∷ seek_num n k os

-- the file that a number stands on is changed
abbrev pub change_by : World → Change → Option Open → World
change_by w c none = w
change_by w c (some o) = with_files w (set_file o.id c w.files)

-- what an edit makes of a world
unfoldable pub apply : Edit → World → World
apply (make p m) w = with_tree w (put p (dir m) w.at)
apply (create p f) w = with_files (with_tree w (put p (file (new_id w.files)) w.at)) ((new_id w.files, f) ∷ w.files)
apply (symlink p m s) w = with_tree w (put p (link m s) w.at)
apply (change p c) w = change_at w p c (look w.at p)
apply (remove p) w = with_tree w (cut p w.at)
apply (take p) w =
    record { at = cut p w.at; hand = under p w.at; files = w.files; opens = w.opens; here = w.here; mask = w.mask }
apply (give p) w =
    record { at = graft p w.hand ++ cut p w.at; hand = []; files = w.files; opens = w.opens; here = w.here; mask = w.mask }
apply (opens n p k) w = opened_at w n p k (look w.at p)
apply (close n) w = with_opens w (close_num n w.opens)
apply (seek n k) w = with_opens w (seek_num n k w.opens)
apply (change_held n c) w = change_by w c (open_of w.opens n)
apply (go p) w = record { at = w.at; hand = w.hand; files = w.files; opens = w.opens; here = p; mask = w.mask }
apply (umask m) w = record { at = w.at; hand = w.hand; files = w.files; opens = w.opens; here = w.here; mask = m }

-- ---- programs

-- an answer, a refusal, a question and what follows on its answer, an edit and what follows
pub data Prog (A : Type 0) : Type 0 where
  ret : A → Prog A
  stop : ℕ → Prog A
  ask : (q : Ask) → (Answer q → Prog A) → Prog A
  edit : Edit → Prog A → Prog A

-- a program, and what follows on its answer
infixl 30 ◌>>=◌
unfoldable pub ◌>>=◌ : {A B : Type 0} → Prog A → (A → Prog B) → Prog B
◌>>=◌ (ret a) f = f a
◌>>=◌ (stop n) f = stop n
◌>>=◌ (ask q k) f = ask q (λ a. k a >>= f)
◌>>=◌ (edit e p) f = edit e (p >>= f)

-- whatever its answer
infixl 30 ◌>>◌
unfoldable pub ◌>>◌ : {A B : Type 0} → Prog A → Prog B → Prog B
◌>>◌ p q = p >>= λ _. q

-- a question alone
abbrev pub asks : (q : Ask) → Prog (Answer q)
asks q = ask q ret

-- an edit alone
abbrev pub edits : Edit → Prog (Unit {0})
edits e = edit e (ret tt)

-- go on, or refuse with the number
unfoldable pub need : Bool → ℕ → Prog (Unit {0})
need true n = ret tt
need false n = stop n

-- what a program gives on a world
pub data Out (A : Type 0) : Type 0 where
  done : A → World → Out A
  refused : ℕ → Out A

-- questions are answered by the world as it then is, edits change it, a refusal ends all
unfoldable pub run : {A : Type 0} → Prog A → World → Out A
run (ret a) w = done a w
run (stop n) w = refused n
run (ask q k) w = run (k (answer q w)) w
run (edit e p) w = run p (apply e w)
