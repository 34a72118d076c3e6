-- The refusals, in checking order (01, "Refusals, in checking order"): a name for each of 01's numbers. Behind each stands the
-- nearest error number of POSIX.
-- Assumes nothing.
use Rattle.std.specs.Prelude.{ℕ}

-- 1, "Store": it breaks a rule of the tree or of the layout page. EINVAL
abbrev pub bad_store : ℕ
bad_store = 1

-- 2, "Text": "a path or target is not valid UTF-8 or holds a zero byte". EILSEQ
abbrev pub bad_text : ℕ
bad_text = 2

-- 3: "Given path or target too long, or a name in it". ENAMETOOLONG
abbrev pub text_too_long : ℕ
text_too_long = 3

-- 4: "File number above 31, in use at open, or not open elsewhere". EBADF
abbrev pub bad_number : ℕ
bad_number = 4

-- 5: "The path is `/` where a last name is needed". EBUSY
abbrev pub no_last_name : ℕ
no_last_name = 5

-- 6: "A path exceeds 1,024 bytes after normalising". ENAMETOOLONG
abbrev pub path_too_long : ℕ
path_too_long = 6

-- 7: "Link loop". ELOOP
abbrev pub link_loop : ℕ
link_loop = 7

-- 8: "Not found". ENOENT
abbrev pub not_found : ℕ
not_found = 8

-- 9: "A file stands where a directory is needed". ENOTDIR
abbrev pub not_directory : ℕ
not_directory = 9

-- 10: "Wrong kind". EISDIR, ENOTDIR, EINVAL or EPERM, by operation
abbrev pub wrong_kind : ℕ
wrong_kind = 10

-- 11: "Rename of a directory to a path that lies under the old one by its names". EINVAL
abbrev pub under_itself : ℕ
under_itself = 11

-- 12: "Already there". EEXIST, ENOTEMPTY of a directory with entries
abbrev pub already_there : ℕ
already_there = 12

-- 13: "Seek from the end whose exact sum is below 0 or above 2^63 − 1". EINVAL
abbrev pub bad_seek : ℕ
bad_seek = 13

-- 14: "Output buffer too short", and a working buffer below 1,024 bytes. ERANGE
abbrev pub short_buffer : ℕ
short_buffer = 14

-- 15: "The tree that the call would leave passes the entry limit". ENOSPC
abbrev pub no_entries : ℕ
no_entries = 15

-- 16: "Bytes used after the call would pass the byte limit". ENOSPC
abbrev pub no_bytes : ℕ
no_bytes = 16
