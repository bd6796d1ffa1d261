-- The mathematics of document 01: what a reader of the paper may conclude from the definitions. The proofs are in Laws/.
pub mod Choosing
pub mod Cards
pub mod Alike
pub mod Edits
pub mod Jobs
pub mod Sums
-- with the definitions before request Ten, so it is named by its chapter
pub mod Ten
unfoldable pub use Choosing.*
unfoldable pub use Cards.*
unfoldable pub use Alike.*
unfoldable pub use Edits.*
unfoldable pub use Jobs.*
unfoldable pub use Sums.*
