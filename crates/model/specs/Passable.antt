-- The calls that C can make: each number of a call fits its C type, and data are bytes.
-- Assumes nothing.
use Rattle.std.specs.Prelude.{List, [], ◌∷◌, ℕ, ◌<◌, ◌^◌, T}
use Rattle.model.specs.Tree.{Time}
use Rattle.model.specs.Calls as Calls
use Rattle.model.specs.Calls.{Op, Work, Call}
use Rattle.model.specs.Rules.{time_ok, bytes_ok}

-- an unsigned 32-bit number: a mode, an umask, flags, a file number, the origin of a seek
abbrev pub Unsigned32 : ℕ → Type 0
Unsigned32 n = n < 2 ^ 32

-- an unsigned 64-bit number: the length of a lent buffer, a size, an offset
abbrev pub Unsigned64 : ℕ → Type 0
Unsigned64 n = n < 2 ^ 64

-- a signed 64-bit number: a time
abbrev pub Signed64 : Time → Type 0
Signed64 t = T (time_ok t)

-- the numbers of an operation, in the order of its parts; texts are tested by the call
abbrev pub OpFits : Op → Type 0
-- the answer's lent bytes
OpFits (Calls.canonicalize s k) = Unsigned64 k
OpFits (Calls.set_current_dir s) = Unit {0}
-- the umask
OpFits (Calls.set_umask m) = Unsigned32 m
-- the time of what is made
OpFits (Calls.create_dir s t) = Signed64 t
-- the number, the flags, the mode, the time
OpFits (Calls.open_file n s f m t) = Unsigned32 n × Unsigned32 f × Unsigned32 m × Signed64 t
-- the lent bytes
OpFits (Calls.read_file s k) = Unsigned64 k
-- the contents and the time of what is written
OpFits (Calls.write_file s d t) = T (bytes_ok d) × Signed64 t
-- the time of what is copied or made
OpFits (Calls.copy_file s d t) = Signed64 t
OpFits (Calls.hard_link s d t) = Signed64 t
OpFits (Calls.link_file g s t) = Signed64 t
OpFits (Calls.remove_file s) = Unit {0}
OpFits (Calls.remove_dir s) = Unit {0}
OpFits (Calls.remove_tree s) = Unit {0}
-- the time of the directories that are made
OpFits (Calls.rename s d t) = Signed64 t
-- the lent rows
OpFits (Calls.metadata s r) = Unsigned64 r
OpFits (Calls.symlink_metadata s r) = Unsigned64 r
-- the lent bytes
OpFits (Calls.read_link s k) = Unsigned64 k
-- the mode
OpFits (Calls.set_permissions s m) = Unsigned32 m
-- both times
OpFits (Calls.set_times s a m) = Signed64 a × Signed64 m
-- the lent bytes and rows
OpFits (Calls.list s k r) = Unsigned64 k × Unsigned64 r
-- the number
OpFits (Calls.close_number n) = Unsigned32 n
-- the number and the lent bytes
OpFits (Calls.read_number n k) = Unsigned32 n × Unsigned64 k
-- the number, the origin and the offset
OpFits (Calls.seek_number n o k) = Unsigned32 n × Unsigned32 o × Unsigned64 k
-- the number and the size
OpFits (Calls.set_length n k) = Unsigned32 n × Unsigned64 k
-- the number and the mode
OpFits (Calls.set_mode_number n m) = Unsigned32 n × Unsigned32 m
-- the number, the flags and both times, given or not
OpFits (Calls.set_times_number n f a m) = Unsigned32 n × Unsigned32 f × Signed64 a × Signed64 m
-- the number and the lent rows
OpFits (Calls.metadata_number n r) = Unsigned32 n × Unsigned64 r

-- a call that C can make
abbrev pub Passable : Call → Type 0
Passable c = Unsigned64 c.work.first × Unsigned64 c.work.second × OpFits c.op

-- every call of a job
abbrev pub PassableJob : List Call → Type 0
PassableJob [] = Unit {0}
PassableJob (c ∷ j) = Passable c × PassableJob j
