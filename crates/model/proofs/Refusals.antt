-- With which numbers calls refuse, and that no refusal follows an edit.
pub mod Careful
pub mod Operations
pub mod Calls
pub mod Rename
pub mod Asked
pub mod Tests
