-- The operations (01, "Operations"), each as a program: what they have in common, then a page for each subject.
pub mod Steps
pub mod Directories
pub mod Contents
pub mod Entries
pub mod Shows
pub mod Numbers
unfoldable pub use Steps.*
unfoldable pub use Directories.*
unfoldable pub use Contents.*
unfoldable pub use Entries.*
unfoldable pub use Shows.*
unfoldable pub use Numbers.*
