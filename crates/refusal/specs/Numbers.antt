-- The number of each refusal (01, "Refusals, in checking order"), and what a call answers.
-- Assumes nothing.
use Rattle.std.specs.Prelude.{ℕ, Result, Ok, Err}
use Rattle.model.specs.Refusals as model
use Rattle.refusal.specs.declared.Refusal.{Refusal}
use Rattle.refusal.specs.declared.Refusal.TheVariants as is

-- its number, by the model's names
abbrev pub number_of : Refusal → ℕ
number_of is.BadStore = model.bad_store
number_of is.BadText = model.bad_text
number_of is.TextTooLong = model.text_too_long
number_of is.BadNumber = model.bad_number
number_of is.NoLastName = model.no_last_name
number_of is.PathTooLong = model.path_too_long
number_of is.LinkLoop = model.link_loop
number_of is.NotFound = model.not_found
number_of is.NotDirectory = model.not_directory
number_of is.WrongKind = model.wrong_kind
number_of is.UnderItself = model.under_itself
number_of is.AlreadyThere = model.already_there
number_of is.BadSeek = model.bad_seek
number_of is.ShortBuffer = model.short_buffer
number_of is.NoEntries = model.no_entries
number_of is.NoBytes = model.no_bytes

-- "0, or the refusal's number"
abbrev pub answered : Result Unit Refusal → ℕ
answered (Ok x) = 0
answered (Err e) = number_of e
