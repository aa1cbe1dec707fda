-- Notions of lists, each in a file of its own below, all named from here.
pub mod AnyBelow
pub mod LowestBelow
pub mod Properties
pub mod Tabulate
pub mod Overwritten
pub mod Assign
unfoldable pub use AnyBelow.{any_below}
unfoldable pub use LowestBelow.{lowest_below}
pub use Properties.{Pairs}
unfoldable pub use Tabulate.{tabulate}
pub use Overwritten.{overwritten}
pub use Assign.{assign}
