-- What callers cite of the proofs of the crates below.
pub use Rattle.map_trees.proofs.Lists as map_trees_Lists
