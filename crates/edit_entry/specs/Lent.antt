-- The slices that an edit of entries writes, in any store.
-- Assumes nothing.
use Rattle.std.specs.Prelude.{List, ℕ, ℤ}
use Rattle.std.specs.Borrow.{MutBor}
use Rattle.layout.specs.Store.{Store}
use Rattle.layout.specs.Lent.{◌∘◌, with_words, with_records, with_times, with_bytes}
use Rattle.layout.specs.Lent.{Lending, ◌&◌, on_words, on_records, on_times, on_bytes}
use Rattle.edit_entry.specs.declared.lent.Entries.{Entries}

-- a store with these slices
abbrev pub with_entries : Entries → Store → Store
with_entries l = with_words l.words.now ∘ with_records l.records.now ∘ with_times l.times.now ∘ with_bytes l.bytes.now

-- the slices at the exit, in their order
abbrev pub Left : Type 0
Left = MutBor (List ℕ) × (MutBor (List ℕ) × (MutBor (List ℤ) × (MutBor (List ℕ) × Unit {0})))

-- as they are lent, and as they are left
abbrev pub on_entries : Entries → Left → Lending
on_entries l e = on_words l.words.now e.0.now & on_records l.records.now e.1.0.now & on_times l.times.now e.1.1.0.now & on_bytes l.bytes.now e.1.1.1.0.now
