-- The words of the theorems: what they say, as records of plain facts. A reader who has the definitions reads these, and then the theorems, without
-- any law.
pub mod Choosing
pub mod Sums
pub mod Edits
pub mod Jobs
pub mod Demands
pub mod Impostors
pub mod Alike
unfoldable pub use Choosing.*
unfoldable pub use Sums.*
unfoldable pub use Edits.*
unfoldable pub use Jobs.*
unfoldable pub use Demands.*
unfoldable pub use Impostors.*
unfoldable pub use Alike.*
