-- What the lines of a text are.
use Rattle.std.specs.Prelude.{ℕ, ◌-◌, ◌==◌, List, [], length, slice_index, take, if◌then◌else◌}
use Rattle.std.specs.List.{slice_split}

-- a text without the newline at its end, if it has one
abbrev pub but_last_newline : List ℕ → List ℕ
but_last_newline text = if slice_index text (length text - 1) == 10 then take (length text - 1) text else text

-- an empty text has no lines; else they are what stands between newlines
abbrev pub lines_of : List ℕ → List (List ℕ)
lines_of text = if length text == 0 then [] else slice_split (λ byte. byte == 10) (but_last_newline text)
